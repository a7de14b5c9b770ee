-- Legs of frames along which nothing has happened, of which no hop record will be kept.
use Rattle.std.proofs.Common.{◌≡◌, ℕ, List, [], ◌∷◌, ◌++◌, map, ap, sym, ◌∙◌, append_assoc}
use Rattle.std.proofs.lemmas.List.{map-append}
use Rattle.ats_run_records.specs.Brief.{AreBegun, begun}
use Rattle.ats_run_records.specs.Progress.{Progress}
use Rattle.ats_run_records.specs.Track.{Along}
use Rattle.ats_run_records.specs.declared.tracks.Tracks.{Tracks}
use Rattle.ats_run_records.proofs.Opens.{frame_of}

-- one leg more
pub begun-more : {legs : List Progress} {old between new : Tracks} {track : Along} (leg : Progress)
    → AreBegun legs old between → track ≡ begun leg
    → new.legs.items ≡ between.legs.items ++ track ∷ [] → new.frames.items ≡ between.frames.items ++ leg.frame ∷ []
    → AreBegun (legs ++ leg ∷ []) old new
begun-more {legs} {old} {between} {new} {track} leg so_far is pushed counted = record {
  begun = pushed
      ∙ ap (λ (ts : List Along). ts ++ track ∷ []) so_far.begun
      ∙ ap (λ (t : Along). (old.legs.items ++ map begun legs) ++ t ∷ []) is
      ∙ append_assoc old.legs.items (map begun legs) (begun leg ∷ [])
      ∙ ap (λ (ts : List Along). old.legs.items ++ ts) (sym (map-append begun legs (leg ∷ [])));
  frames = counted
      ∙ ap (λ (fs : List ℕ). fs ++ leg.frame ∷ []) so_far.frames
      ∙ append_assoc old.frames.items (map frame_of legs) (leg.frame ∷ [])
      ∙ ap (λ (fs : List ℕ). old.frames.items ++ fs) (sym (map-append frame_of legs (leg ∷ [])));
}
