-- The text of settings with one more.
use Rattle.std.proofs.Common.{◌≡◌, ◌∙◌, ℕ, ◌+◌, ◌<◌, List, [], ◌∷◌, ◌++◌, get_or, length, map, take, sym, ap}
use Rattle.std.proofs.Common.{append-nil}
use Rattle.std.proofs.lemmas.Grind.{flat_map-append}
use Rattle.std.proofs.lemmas.List.{map_more}
use Rattle.ats_csv.specs.Plain.{record_text, text_of}
use Rattle.ats_network.specs.Network.{DeclaredNetwork}
use Rattle.ats_settings.specs.declared.setting.Setting.{Setting}
use Rattle.ats_settings_text.specs.Text.{fields_of, header, settings_text}

-- the text of no settings
pub no_setting : (network : DeclaredNetwork) (settings : List Setting) (text : List ℕ)
    → text ≡ [] ++ record_text header → text ≡ settings_text network (take 0 settings)
no_setting network settings text e = e ∙ sym (append-nil (record_text header))

-- the text with one setting more
pub setting_more : (network : DeclaredNetwork) (settings : List Setting) (i : ℕ) (d : Setting) → i < length settings
    → settings_text network (take (i + 1) settings)
    ≡ settings_text network (take i settings) ++ record_text (fields_of network (get_or settings i d))
setting_more network settings i d within =
    rw (
      map_more (fields_of network) settings i d within,
      flat_map-append record_text
          (header ∷ map (fields_of network) (take i settings)) (fields_of network (get_or settings i d) ∷ []),
    )
    (ap (λ text. text_of (header ∷ map (fields_of network) (take i settings)) ++ text)
    (append-nil (record_text (fields_of network (get_or settings i d)))))
