use Rattle.std.specs.Prelude.{◌≡◌, ◌↔◌, ℕ, ◌≤◌, List, map, zip}
use Rattle.std.specs.List.{AllZip}
use Rattle.ats_streams.specs.declared.traffic.Declared.{Declared}
use Rattle.ats_group.specs.declared.verdict.Verdict.{Verdict}
use Rattle.ats_group.specs.Group.{Offer}
use Rattle.ats_group.specs.Judge.{Judge}
use Rattle.ats_clock_law.specs.TrueTime.{AreTrueVerdicts, IsTrueEligibility, IsTrueVerdict, stamped_offers}

-- a bridge takes frames with the times that its clock shows as they arrive; and a frame is eligible in true time as
-- soon as it has arrived and the clock shows the time that it was told
pub record TrueTimesArePlain : Type 0 where
  pub stamped : (shows : ℕ → ℕ) (offers : List Offer) → stamped_offers shows offers
      ≡ map (λ (o : Offer). record o { arrival = shows o.arrival }) offers
  pub eligible : (shows : ℕ → ℕ) (arrival told eligible : ℕ) → IsTrueEligibility shows arrival told eligible
      ↔ ((arrival ≤ eligible) × (told ≤ shows eligible)
      × ((t : ℕ) → arrival ≤ t → told ≤ shows t → eligible ≤ t))
  pub verdicts : (shows : ℕ → ℕ) (judge : Judge) (declared : ℕ → Declared) (residence_ns : ℕ) (offers : List Offer)
      (verdicts : List Verdict) → AreTrueVerdicts shows judge declared residence_ns offers verdicts
      ↔ AllZip (λ (judged : Offer × Verdict) (verdict : Verdict). IsTrueVerdict shows judged.0 judged.1 verdict)
      (zip offers (judge declared residence_ns (stamped_offers shows offers))) verdicts
