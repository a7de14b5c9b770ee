use Rattle.std.proofs.Common.{◌≡◌, ◌⊎◌, ℕ, ℤ, pos, negsuc, ◌≤ℤ◌, refl, sym, ap, arith, inl, inr}
use Rattle.std.proofs.lemmas.Int.{ints}
use Rattle.ats_bucket.specs.Integers.{nonnegative}
use Rattle.ats_plain_network_law.specs.Groups.{GroupsAreKnown, BucketsAreKnown, StatesAreKnown, JudgesAreKnown}

-- What buckets and groups keep.

counts : (z : ℤ) (n : ℕ) → nonnegative z ≡ n → (z ≡ pos n) ⊎ ((z ≤ℤ pos 0) × (n ≡ 0))
counts (pos m) n h = inl (ap pos h)
counts (negsuc m) n h = inr (omega (arith, ints), sym h)

counted : (z : ℤ) (n : ℕ) → (z ≡ pos n) ⊎ ((z ≤ℤ pos 0) × (n ≡ 0)) → nonnegative z ≡ n
counted (pos m) n (inl same) = omega (arith, ints, same)
counted (pos m) n (inr (below, none)) = omega (arith, ints, below, none)
counted (negsuc m) n (inl same) = omega (arith, ints, same)
counted (negsuc m) n (inr (below, none)) = sym none

buckets : BucketsAreKnown
buckets = record {
  counted = λ z n. (counts z n, counted z n);
  rule = λ declared frames. ((λ is. is), (λ is. is));
}

groups : StatesAreKnown
groups = record {
  begins = λ declared. refl;
  accepts = λ declared state offer e. refl;
  late = λ declared state offer e. refl;
  size = λ declared state offer. refl;
}

judges : JudgesAreKnown
judges = record {
  any = λ by. (by, λ declared residence offers. refl);
}

pub groups_are_known : GroupsAreKnown
groups_are_known = record {
  buckets = buckets;
  groups = groups;
  judges = judges;
}
