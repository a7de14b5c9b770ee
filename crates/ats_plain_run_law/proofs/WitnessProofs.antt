use Rattle.std.proofs.Common.{◌≡◌, ℕ, ◌+◌, ◌<◌, ◌≤◌, Bool, List, length, get_or, refl, ap, arith}
use Rattle.std.specs.Prelude.{if◌then◌else◌, slice_index}
use Rattle.std.proofs.lemmas.Bool.{eq-eqb, ne_eqb}
use Rattle.std.proofs.lemmas.List.{get_or_default}
use Rattle.ats_witness.specs.Found.{IsFirstGreatest}
use Rattle.ats_plain_run_law.specs.Witnesses.{FoundWordsAreTraced, OrdersAreTraced, WitnessesAreTraced}

-- The words of what is found of a stream.

abbrev keyed : ℕ → Bool → ℕ
keyed frame is_last = if is_last then 4294967296 + frame else frame

orders : OrdersAreTraced
orders = record {
  own = λ last sender frame same. ap (keyed frame) (eq-eqb sender last same);
  other = λ last sender frame other. ap (keyed frame) (ne_eqb sender last other);
  wait = λ frame spread. refl;
}

module _ (numbers : List ℕ) (place : ℕ) where
  abbrev IsFirst : Type 0
  IsFirst = (place < length numbers)
      × ((k : ℕ) → k < length numbers → slice_index numbers k ≤ slice_index numbers place)
      × ((k : ℕ) → k < place → slice_index numbers k < slice_index numbers place)

  -- a number that is there is the same whatever stands for those that are not
  there : (k d : ℕ) → k < length numbers → slice_index numbers k ≡ get_or numbers k d
  there k d within = get_or_default numbers k 0 d within

  first_due : IsFirst → IsFirstGreatest numbers place
  first_due is = (
    is.0,
    λ k d within. omega (arith, is.1 k within, there k d within, there place d is.0),
    λ k d before. omega (arith, is.2 k before, there k d (omega (arith, before, is.0)), there place d is.0),
  )

found : FoundWordsAreTraced
found = record {
  first = λ numbers place. (
    (λ is. (is.0, (λ k within. is.1 k 0 within), (λ k before. is.2 k 0 before))),
    first_due numbers place,
  );
  port = λ network sender listener hop. refl;
  bound = λ rows stream listener. refl;
}

pub witnesses_are_traced : WitnessesAreTraced
witnesses_are_traced = record {
  orders = orders;
  found = found;
}
