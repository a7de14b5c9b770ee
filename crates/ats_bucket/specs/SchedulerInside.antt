use Rattle.std.specs.Prelude.{◌≡◌, ℕ, ◌*◌, pos, ◌+ℤ◌, ◌-ℤ◌}
use Rattle.std.proofs.Common.{ap, arith}
use Rattle.std.proofs.lemmas.Int.{ints}
use Rattle.ats_num.specs.declared.time.TheConstants.{PS_PER_SECOND}
use Rattle.ats_bucket.specs.Integers.{nonnegative, nonnegative-is}
use Rattle.ats_bucket.specs.Scheduler.{Bucket, IsWithin}
use Rattle.ats_bucket.specs.declared.scheduler.Scheduler.TheInside.{Inside}

-- the bucket that the fields stand for
abbrev pub bucket_of : Inside → Bucket
bucket_of s = record { rate = s.rate; burst = s.burst_bits; empty = pos s.full -ℤ pos (PS_PER_SECOND * s.burst_bits) }

-- the fields that stand for a bucket
abbrev pub inside_of : Bucket → Inside
inside_of b =
    record { rate = b.rate; burst_bits = b.burst; full = nonnegative (b.empty +ℤ pos (PS_PER_SECOND * b.burst)) }

full_again : (full saved : ℕ) → nonnegative ((pos full -ℤ pos saved) +ℤ pos saved) ≡ full
full_again full saved =
    let e : ((pos full -ℤ pos saved) +ℤ pos saved) ≡ pos full -ℤ pos 0 = omega (arith, ints) in
    let n = nonnegative-is _ full 0 e in
    omega arith

-- the fields are those that their bucket gives back
pub inside_again : (s : Inside) → IsWithin s.rate s.burst_bits s.full → inside_of (bucket_of s) ≡ s
inside_again s h =
    ap (λ (full : ℕ). let i : Inside = record { rate = s.rate; burst_bits = s.burst_bits; full = full } in i)
    (full_again s.full (PS_PER_SECOND * s.burst_bits))
