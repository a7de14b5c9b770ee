use Rattle.std.proofs.Common.{◌≡◌, ℕ, ◌+◌, cond, List, [], ◌∷◌, map, sum_by, All, refl, sym, ap, ◌∙◌}
use Rattle.std.specs.Prelude.{◌==◌}
use Rattle.std.specs.List.{AllZip}
use Rattle.std.proofs.lemmas.List.Elements.{All-nil, All-cons}
use Rattle.std.proofs.lemmas.List.Sums.{sum_by-cons}
use Rattle.ats_group_law.specs.Windows.{bits_within}
use Rattle.ats_group_law.specs.Shaping.{Passage, frame_before, frames_before}
use Rattle.ats_group_law.proofs.WindowBits.{bits_in}
use Rattle.ats_group_law.proofs.ShapingStep.{before-cons}

-- passages and verdicts that are told by the elements of one list
pub All-from_all_zip : {X A B : Type 0} (R : A → B → Type 0) (f : X → A) (g : X → B) (xs : List X)
    → AllZip R (map f xs) (map g xs) → All (λ (x : X). R (f x) (g x)) xs
All-from_all_zip {X} R f g [] h = All-nil (λ (x : X). R (f x) (g x))
All-from_all_zip {X} R f g (x ∷ xs) h = All-cons (λ (x : X). R (f x) (g x)) x xs h.0 (All-from_all_zip R f g xs h.1)

-- what a member had eligible in a window at the hop before, as a sum over that list
pub bits_within-before : {X : Type 0} (passage_of : X → Passage) (member : ℕ) (xs : List X) (from to : ℕ)
    → bits_within (frames_before member (map passage_of xs)) from to ≡ sum_by
    (λ (x : X). cond ((passage_of x).offer.member == member) (bits_in from to (frame_before (passage_of x))) 0) xs
bits_within-before passage_of member [] from to = refl
bits_within-before {X} passage_of member (x ∷ xs) from to =
    let part : X → ℕ =
    λ (x : X). cond ((passage_of x).offer.member == member) (bits_in from to (frame_before (passage_of x))) 0 in
    before-cons member (passage_of x) (map passage_of xs) from to
    ∙ ap (λ (n : ℕ). part x + n) (bits_within-before passage_of member xs from to)
    ∙ sym (sum_by-cons part x xs)
