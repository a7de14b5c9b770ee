-- The text of releases with one more.
use Rattle.std.proofs.Common.{◌≡◌, ◌∙◌, ℕ, ◌+◌, ◌<◌, List, [], ◌∷◌, ◌++◌, get_or, length, map, take, sym, ap}
use Rattle.std.proofs.Common.{append-nil}
use Rattle.std.proofs.lemmas.Grind.{flat_map-append}
use Rattle.std.proofs.lemmas.List.{map_more}
use Rattle.ats_csv.specs.Plain.{record_text, text_of}
use Rattle.ats_network.specs.Network.{DeclaredNetwork}
use Rattle.ats_trace.specs.declared.journey.Release.{Release}
use Rattle.ats_schedule.specs.Reading.{header}
use Rattle.ats_schedule.specs.Text.{fields_of, schedule_text}

-- the text without releases
pub no_release : (network : DeclaredNetwork) (releases : List Release) (text : List ℕ)
    → text ≡ [] ++ record_text header → text ≡ schedule_text network (take 0 releases)
no_release network releases text e = e ∙ sym (append-nil (record_text header))

-- the text with one release more
pub release_more : (network : DeclaredNetwork) (releases : List Release) (i : ℕ) (d : Release) → i < length releases
    → schedule_text network (take (i + 1) releases)
    ≡ schedule_text network (take i releases) ++ record_text (fields_of network (get_or releases i d))
release_more network releases i d within =
    rw (
      map_more (fields_of network) releases i d within,
      flat_map-append record_text
          (header ∷ map (fields_of network) (take i releases)) (fields_of network (get_or releases i d) ∷ []),
    )
    (ap (λ text. text_of (header ∷ map (fields_of network) (take i releases)) ++ text)
    (append-nil (record_text (fields_of network (get_or releases i d)))))
