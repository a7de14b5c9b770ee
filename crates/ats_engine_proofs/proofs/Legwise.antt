-- What the journeys of a run give leg by leg, whatever is taken of each leg.
use Rattle.std.proofs.Common.{◌≡◌, ℕ, ◌+◌, List, [], ◌∷◌, ◌++◌, map, filter, refl, ap, ◌∙◌}
use Rattle.std.specs.Prelude.{Bool}
use Rattle.std.proofs.lemmas.List.{map-append}
use Rattle.std.proofs.lemmas.List.Elements.{filter-append}
use Rattle.ats_network.specs.Network.{DeclaredNetwork}
use Rattle.ats_network.specs.Sender.{Sender}
use Rattle.ats_network.specs.Senders.{sender_at}
use Rattle.ats_trace.specs.Journey.{Leg, Travel, legs_at, legs_in}
use Rattle.ats_trace.specs.Projections.{Hop, Crossing, Handed, hops_along, crossings_along, handed_along, hops_over}
use Rattle.ats_trace.specs.Projections.{crossings_over, handed_over, journey_hops, journey_crossings, journey_handed}
use Rattle.ats_trace.specs.Projections.{hops_from, crossings_from, handed_from}
use Rattle.ats_trace.specs.declared.journey.Release.{Release}
use Rattle.ats_run_records.specs.Progress.{Progress}
use Rattle.ats_engine_steps.specs.Course.{path_of, sender_of, told_by}
use Rattle.ats_engine_steps.specs.declared.stage.Stage.{Stage}

-- what a leg gives, by its frame, the frame's release and sender, its ports and what happened there
abbrev pub Giving : Type 0 → Type 0
Giving X = ℕ → Release → Sender → List ℕ → Leg → List X

-- what legs give, one after another
abbrev pub over : {X : Type 0} → Giving X → ℕ → Release → Sender → List (List ℕ) → List Leg → List X
over own frame release sender (path ∷ paths) (leg ∷ legs) =
    own frame release sender path leg ++ over own frame release sender paths legs
over own frame release sender paths legs = []

-- a journey
abbrev pub of_journey : {X : Type 0} → Giving X → DeclaredNetwork → ℕ → Travel → List X
of_journey own network frame j =
    over own frame j.release (sender_at network j.release.sender) (legs_at network j.release.sender) (legs_in j)

-- journeys that are numbered from this number on
abbrev pub of_run : {X : Type 0} → Giving X → DeclaredNetwork → ℕ → List Travel → List X
of_run own network frame [] = []
of_run own network frame (j ∷ run) = of_journey own network frame j ++ of_run own network (frame + 1) run

-- and a row
abbrev pub of_row : {X : Type 0} → Giving X → DeclaredNetwork → Stage × Progress → List X
of_row own network row =
    own row.1.frame row.1.release (sender_of network row.1) (path_of network row.1) (told_by row).1

-- what is kept of two lists is what is kept of each, and of none nothing
pub record IsKept {X Y : Type 0} (keep : List X → List Y) : Type 0 where
  pub none : keep [] ≡ []
  pub both : (xs ys : List X) → keep (xs ++ ys) ≡ keep xs ++ keep ys

module _ {Y : Type 0} (keep : List Hop → List Y) (kept : IsKept keep) where
  -- what is kept of the transmissions of a leg
  abbrev pub hops_kept : Giving Y
  hops_kept frame release sender path leg = keep (hops_along frame release sender path leg.hops)

  -- so of legs
  hops-over : (frame : ℕ) (release : Release) (sender : Sender) (paths : List (List ℕ)) (legs : List Leg)
      → keep (hops_over frame release sender paths legs) ≡ over hops_kept frame release sender paths legs
  hops-over frame release sender [] legs = kept.none
  hops-over frame release sender (path ∷ paths) [] = kept.none
  hops-over frame release sender (path ∷ paths) (leg ∷ legs) =
      kept.both (hops_along frame release sender path leg.hops) (hops_over frame release sender paths legs)
      ∙ ap (λ (ys : List Y). keep (hops_along frame release sender path leg.hops) ++ ys)
      (hops-over frame release sender paths legs)

  -- and of journeys
  pub hops-run : (network : DeclaredNetwork) (frame : ℕ) (run : List Travel)
      → keep (hops_from network frame run) ≡ of_run hops_kept network frame run
  hops-run network frame [] = kept.none
  hops-run network frame (j ∷ run) =
      kept.both (journey_hops network frame j) (hops_from network (frame + 1) run)
      ∙ ap (λ (ys : List Y). ys ++ keep (hops_from network (frame + 1) run))
      (hops-over frame j.release (sender_at network j.release.sender) (legs_at network j.release.sender) (legs_in j))
      ∙ ap (λ (ys : List Y). of_journey hops_kept network frame j ++ ys) (hops-run network (frame + 1) run)

module _ {Y : Type 0} (keep : List Crossing → List Y) (kept : IsKept keep) where
  -- what is kept of its crossings
  abbrev pub crossings_kept : Giving Y
  crossings_kept frame release sender path leg =
      keep (crossings_along frame release sender path leg.hops leg.ending)

  -- so of legs
  crossings-over : (frame : ℕ) (release : Release) (sender : Sender) (paths : List (List ℕ)) (legs : List Leg)
      → keep (crossings_over frame release sender paths legs) ≡ over crossings_kept frame release sender paths legs
  crossings-over frame release sender [] legs = kept.none
  crossings-over frame release sender (path ∷ paths) [] = kept.none
  crossings-over frame release sender (path ∷ paths) (leg ∷ legs) =
      let here : List Crossing = crossings_along frame release sender path leg.hops leg.ending in
      kept.both here (crossings_over frame release sender paths legs)
      ∙ ap (λ (ys : List Y). keep here ++ ys) (crossings-over frame release sender paths legs)

  -- and of journeys
  pub crossings-run : (network : DeclaredNetwork) (frame : ℕ) (run : List Travel)
      → keep (crossings_from network frame run) ≡ of_run crossings_kept network frame run
  crossings-run network frame [] = kept.none
  crossings-run network frame (j ∷ run) =
      kept.both (journey_crossings network frame j) (crossings_from network (frame + 1) run)
      ∙ ap (λ (ys : List Y). ys ++ keep (crossings_from network (frame + 1) run))
      (crossings-over frame j.release (sender_at network j.release.sender) (legs_at network j.release.sender)
      (legs_in j))
      ∙ ap (λ (ys : List Y). of_journey crossings_kept network frame j ++ ys)
      (crossings-run network (frame + 1) run)

module _ {Y : Type 0} (keep : List Handed → List Y) (kept : IsKept keep) where
  -- what is kept of what was handed on
  abbrev pub handed_kept : Giving Y
  handed_kept frame release sender path leg = keep (handed_along frame release sender path leg.hops)

  -- so of legs
  handed-over : (frame : ℕ) (release : Release) (sender : Sender) (paths : List (List ℕ)) (legs : List Leg)
      → keep (handed_over frame release sender paths legs) ≡ over handed_kept frame release sender paths legs
  handed-over frame release sender [] legs = kept.none
  handed-over frame release sender (path ∷ paths) [] = kept.none
  handed-over frame release sender (path ∷ paths) (leg ∷ legs) =
      kept.both (handed_along frame release sender path leg.hops) (handed_over frame release sender paths legs)
      ∙ ap (λ (ys : List Y). keep (handed_along frame release sender path leg.hops) ++ ys)
      (handed-over frame release sender paths legs)

  -- and of journeys
  pub handed-run : (network : DeclaredNetwork) (frame : ℕ) (run : List Travel)
      → keep (handed_from network frame run) ≡ of_run handed_kept network frame run
  handed-run network frame [] = kept.none
  handed-run network frame (j ∷ run) =
      kept.both (journey_handed network frame j) (handed_from network (frame + 1) run)
      ∙ ap (λ (ys : List Y). ys ++ keep (handed_from network (frame + 1) run))
      (handed-over frame j.release (sender_at network j.release.sender) (legs_at network j.release.sender) (legs_in j))
      ∙ ap (λ (ys : List Y). of_journey handed_kept network frame j ++ ys) (handed-run network (frame + 1) run)

-- the elements that pass a test are kept so
pub filter-kept : {X : Type 0} (test : X → Bool) → IsKept (filter test)
filter-kept test = record { none = refl; both = filter-append test }

-- and their images
pub map-kept : {X Y : Type 0} (f : X → Y) (test : X → Bool) → IsKept (λ (xs : List X). map f (filter test xs))
map-kept f test = record {
  none = refl;
  both = λ xs ys. ap (map f) (filter-append test xs ys) ∙ map-append f (filter test xs) (filter test ys);
}
