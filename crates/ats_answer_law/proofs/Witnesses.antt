-- What a text comes to that is due to `witness`.
use Rattle.std.proofs.Common.{◌≡◌, ℕ, zero, suc, ◌+◌, List, [], ◌∷◌, length, Some, refl, subst, arith}
use Rattle.std.specs.Prelude.{slice_get}
use Rattle.std.specs.List.{AllZip, range_with_len}
use Rattle.std.proofs.lemmas.Option.{none-some, same_Some}
use Rattle.ats_network.specs.Network.{DeclaredNetwork}
use Rattle.ats_network.specs.Senders.{sender_at}
use Rattle.ats_trace.specs.Ways.{listener_count}
use Rattle.ats_witness.specs.Found.{AreFound, FoundDelays}
use Rattle.ats_command_due.specs.Witnessed.{IsWitnessOf}
use Rattle.ats_answer_law.specs.Witnesses.{AreAllShown, WitnessesAreMeant}
use Rattle.ats_answer_law.proofs.RunMeaning.{found_are_meant}

-- what holds of numbers from `first` on and of what stands at their places holds of each of these
each_there : {X : Type 0} (Holds : ℕ → X → Type 0) (first n : ℕ) (xs : List X)
    → AllZip Holds (range_with_len first n) xs → (i : ℕ) (x : X) (number : ℕ) → slice_get xs i ≡ Some x
    → first + i ≡ number → Holds number x
each_there Holds first zero [] all i x number is same = absurd (none-some x is)
each_there Holds first zero (y ∷ ys) all i x number is same = absurd all
each_there Holds first (suc n) [] all i x number is same = absurd all
each_there Holds first (suc n) (y ∷ ys) all zero x number is same =
    let here : first ≡ number = omega (arith, same) in
    subst (λ (k : ℕ). Holds k x) here (subst (Holds first) (same_Some y x is) all.0)
each_there Holds first (suc n) (y ∷ ys) all (suc i) x number is same =
    each_there Holds (first + 1) n ys all.1 i x number is (omega (arith, same))

-- and what holds of each of these holds along them
all_there : {X : Type 0} (Holds : ℕ → X → Type 0) (first n : ℕ) (xs : List X) → length xs ≡ n
    → ((i : ℕ) (x : X) (number : ℕ) → slice_get xs i ≡ Some x → first + i ≡ number → Holds number x)
    → AllZip Holds (range_with_len first n) xs
all_there Holds first zero [] long each = tt
all_there Holds first zero (y ∷ ys) long each = absurd (omega (arith, long))
all_there Holds first (suc n) [] long each = absurd (omega (arith, long))
all_there Holds first (suc n) (y ∷ ys) long each = (
  each 0 y first refl (omega arith),
  all_there Holds (first + 1) n ys (omega (arith, long))
      (λ i x number is same. each (suc i) x number is (omega (arith, same))),
)

-- and there are as many as numbers
as_many : {X : Type 0} (Holds : ℕ → X → Type 0) (first n : ℕ) (xs : List X) → AllZip Holds (range_with_len first n) xs
    → length xs ≡ n
as_many Holds first zero [] all = refl
as_many Holds first zero (y ∷ ys) all = absurd all
as_many Holds first (suc n) [] all = absurd all
as_many Holds first (suc n) (y ∷ ys) all =
    let later : length ys ≡ n = as_many Holds (first + 1) n ys all.1 in omega (arith, later)

to_shown : (network : DeclaredNetwork) (stream : ℕ) (text : List ℕ) (founds : List FoundDelays)
    → IsWitnessOf network stream text founds → AreAllShown network stream text founds
to_shown network stream text founds is = record {
  one_each = as_many (AreFound network stream) 0 count founds is.are_found;
  each = λ listener found there. (found_are_meant.along network stream listener found).0
      (each_there (AreFound network stream) 0 count founds is.are_found listener found listener there (omega arith));
  written = is.written;
}
  where
    count : ℕ
    count = listener_count (sender_at network stream)

from_shown : (network : DeclaredNetwork) (stream : ℕ) (text : List ℕ) (founds : List FoundDelays)
    → AreAllShown network stream text founds → IsWitnessOf network stream text founds
from_shown network stream text founds are = record {
  are_found = all_there (AreFound network stream) 0 (listener_count (sender_at network stream)) founds are.one_each
      (λ i found listener there same. (found_are_meant.along network stream listener found).1
      (are.each listener found (subst (λ (k : ℕ). slice_get founds k ≡ Some found) (omega (arith, same)) there)));
  written = are.written;
}

pub witnesses_are_meant : WitnessesAreMeant
witnesses_are_meant = record {
  parts = λ network stream text founds.
      (to_shown network stream text founds, from_shown network stream text founds);
  some = λ network stream text. (
    λ is. (is.0, to_shown network stream text is.0 is.1),
    λ are. (are.0, from_shown network stream text are.0 are.1),
  );
  due = λ network stream text. (
    λ is. (is.0, to_shown network stream text is.0 is.1),
    λ are. (are.0, from_shown network stream text are.0 are.1),
  );
}
