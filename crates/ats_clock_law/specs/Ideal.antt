use Rattle.std.specs.Prelude.{◌≡◌, ℕ, ◌+◌, List, map, All}
use Rattle.ats_streams.specs.declared.traffic.Declared.{Declared}
use Rattle.ats_streams.specs.Traffic.{IsRuled}
use Rattle.ats_group.specs.declared.verdict.Verdict.{Verdict}
use Rattle.ats_group.specs.declared.verdict.Verdict.TheVariants.{Eligible, Late, Size}
use Rattle.ats_group.specs.Group.{Offer}
use Rattle.ats_group.specs.Judge.{ats_judge}
use Rattle.ats_clock.specs.Clock.{KeepsClock, ideal}
use Rattle.ats_clock_law.specs.TrueTime.{AreTrueVerdicts}

-- a clock that neither deviates nor steps differs from true time by what it shows at first
abbrev pub IdealIsConstantApart : Type 0
IdealIsConstantApart = (shows : ℕ → ℕ) → KeepsClock ideal shows → (t : ℕ) → shows t ≡ shows 0 + t

-- an offer, and a verdict, so many picoseconds later
abbrev pub later_offer : ℕ → Offer → Offer
later_offer shift offer = record offer { arrival = offer.arrival + shift }

abbrev pub later_verdict : ℕ → Verdict → Verdict
later_verdict shift (Eligible e) = Eligible (record { 0 = e.0 + shift })
later_verdict shift (Late e) = Late (record { 0 = e.0 + shift })
later_verdict shift Size = Size

-- a group does not see by how much all its arrivals are later
abbrev pub ShiftIsNotSeen : Type 0
ShiftIsNotSeen = (declared : ℕ → Declared) (residence_ns shift : ℕ) (offers : List Offer)
    → All (λ (o : Offer). IsRuled (declared o.member)) offers
    → ats_judge declared residence_ns (map (later_offer shift) offers)
    ≡ map (later_verdict shift) (ats_judge declared residence_ns offers)

-- so by a clock that neither deviates nor steps the verdicts in true time are those of true arrivals
abbrev pub IdealVerdictsAreTrue : Type 0
IdealVerdictsAreTrue = (shows : ℕ → ℕ) (declared : ℕ → Declared) (residence_ns : ℕ) (offers : List Offer)
    (verdicts : List Verdict) → KeepsClock ideal shows → All (λ (o : Offer). IsRuled (declared o.member)) offers
    → AreTrueVerdicts shows ats_judge declared residence_ns offers verdicts
    → verdicts ≡ ats_judge declared residence_ns offers
