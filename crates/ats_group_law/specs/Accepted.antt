use Rattle.std.specs.Prelude.{ℕ, ◌==◌, List, [], ◌∷◌, filter, flat_map, zip}
use Rattle.ats_num.specs.Wire.{bits_of}
use Rattle.ats_bucket.specs.Conforming.{Frame}
use Rattle.ats_group.specs.declared.verdict.Verdict.{Verdict}
use Rattle.ats_group.specs.declared.verdict.Verdict.TheVariants.{Eligible, Late, Size}
use Rattle.ats_group.specs.Group.{Offer}

-- what a verdict lets through of an offered frame: where eligible, the frame at its eligibility time, with its wire
-- bits
abbrev pub let_through : Offer → Verdict → List Frame
let_through offer (Eligible e) = record { at = e.0; bits = bits_of offer.octets } ∷ []
let_through offer (Late e) = []
let_through offer Size = []

-- the accepted frames of a group that gave these verdicts on these offers, in order
abbrev pub accepted : List Offer → List Verdict → List Frame
accepted offers verdicts = flat_map (λ (judged : Offer × Verdict). let_through judged.0 judged.1) (zip offers verdicts)

-- those of one member
abbrev pub accepted_of : ℕ → List Offer → List Verdict → List Frame
accepted_of member offers verdicts =
    flat_map (λ (judged : Offer × Verdict). let_through judged.0 judged.1)
    (filter (λ (judged : Offer × Verdict). judged.0.member == member) (zip offers verdicts))
