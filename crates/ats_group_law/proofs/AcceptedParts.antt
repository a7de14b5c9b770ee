use Rattle.std.proofs.Common.{◌≡◌, ℕ, ◌+◌, Bool, true, false, cond, List, [], ◌∷◌, ◌++◌, map, sum_by, refl, sym, ap}
use Rattle.std.proofs.Common.{◌∙◌}
use Rattle.std.specs.Prelude.{◌==◌, filter, flat_map, zip}
use Rattle.std.proofs.lemmas.List.Sums.{sum_by-cons, sum_by-append}
use Rattle.ats_bucket.specs.Conforming.{Frame}
use Rattle.ats_group.specs.declared.verdict.Verdict.{Verdict}
use Rattle.ats_group.specs.Group.{Offer}
use Rattle.ats_group_law.specs.Windows.{bits_within}
use Rattle.ats_group_law.specs.Accepted.{let_through, accepted, accepted_of}
use Rattle.ats_group_law.proofs.WindowBits.{bits_within-append}

-- of one offer, what this member's list gains
abbrev pub own_through : ℕ → Offer → Verdict → List Frame
own_through member offer verdict = cond (offer.member == member) (let_through offer verdict) []

chosen : (b : Bool) (x : Offer × Verdict) (xs : List (Offer × Verdict))
    → flat_map (λ (judged : Offer × Verdict). let_through judged.0 judged.1) (cond b (x ∷ xs) xs)
    ≡ cond b (let_through x.0 x.1) [] ++ flat_map (λ (judged : Offer × Verdict). let_through judged.0 judged.1) xs
chosen true x xs = refl
chosen false x xs = refl

-- one offer before the others
pub accepted-cons : (offer : Offer) (offers : List Offer) (verdict : Verdict) (verdicts : List Verdict)
    → accepted (offer ∷ offers) (verdict ∷ verdicts) ≡ let_through offer verdict ++ accepted offers verdicts
accepted-cons offer offers verdict verdicts = refl

pub accepted_of-cons : (member : ℕ) (offer : Offer) (offers : List Offer) (verdict : Verdict) (verdicts : List Verdict)
    → accepted_of member (offer ∷ offers) (verdict ∷ verdicts)
    ≡ own_through member offer verdict ++ accepted_of member offers verdicts
accepted_of-cons member offer offers verdict verdicts =
    chosen (offer.member == member) (offer, verdict)
    (filter (λ (judged : Offer × Verdict). judged.0.member == member) (zip offers verdicts))

-- the bits of a window of a member's accepted frames, where offers and verdicts are told by the elements of one list
pub bits_within-accepted_of : {X : Type 0} (offer_of : X → Offer) (verdict_of : X → Verdict) (member : ℕ)
    (xs : List X) (from to : ℕ) → bits_within (accepted_of member (map offer_of xs) (map verdict_of xs)) from to
    ≡ sum_by (λ (x : X). bits_within (own_through member (offer_of x) (verdict_of x)) from to) xs
bits_within-accepted_of offer_of verdict_of member [] from to = refl
bits_within-accepted_of {X} offer_of verdict_of member (x ∷ xs) from to =
    let rest : List Frame = accepted_of member (map offer_of xs) (map verdict_of xs) in
    ap (λ (fs : List Frame). bits_within fs from to)
    (accepted_of-cons member (offer_of x) (map offer_of xs) (verdict_of x) (map verdict_of xs))
    ∙ bits_within-append (own_through member (offer_of x) (verdict_of x)) rest from to
    ∙ ap (λ (n : ℕ). bits_within (own_through member (offer_of x) (verdict_of x)) from to + n)
    (bits_within-accepted_of offer_of verdict_of member xs from to)
    ∙ sym (sum_by-cons (λ (x : X). bits_within (own_through member (offer_of x) (verdict_of x)) from to) x xs)

-- the same of any weight of frames
pub sum_by-accepted_of : {X : Type 0} (offer_of : X → Offer) (verdict_of : X → Verdict) (member : ℕ)
    (xs : List X) (weight : Frame → ℕ) → sum_by weight (accepted_of member (map offer_of xs) (map verdict_of xs))
    ≡ sum_by (λ (x : X). sum_by weight (own_through member (offer_of x) (verdict_of x))) xs
sum_by-accepted_of offer_of verdict_of member [] weight = refl
sum_by-accepted_of {X} offer_of verdict_of member (x ∷ xs) weight =
    let rest : List Frame = accepted_of member (map offer_of xs) (map verdict_of xs) in
    ap (λ (fs : List Frame). sum_by weight fs)
    (accepted_of-cons member (offer_of x) (map offer_of xs) (verdict_of x) (map verdict_of xs))
    ∙ sum_by-append weight (own_through member (offer_of x) (verdict_of x)) rest
    ∙ ap (λ (n : ℕ). sum_by weight (own_through member (offer_of x) (verdict_of x)) + n)
    (sum_by-accepted_of offer_of verdict_of member xs weight)
    ∙ sym (sum_by-cons (λ (x : X). sum_by weight (own_through member (offer_of x) (verdict_of x))) x xs)
