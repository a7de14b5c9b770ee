use Rattle.std.proofs.Common.{◌≡◌, ℕ, zero, suc, ◌+◌, ◌*◌, ◌<◌, ◌≤◌, List, take, refl, ap, arith, lit<, lit≤}
use Rattle.std.specs.Prelude.{◌<ℤ◌, ◌≤ℤ◌}
use Rattle.std.proofs.lemmas.Bool.{false≢true}
use Rattle.std.proofs.lemmas.Int.{ints}
use Rattle.ats_conform.specs.Broken.{Breaks}
use Rattle.ats_conform.specs.Metering.{counted, excess, ExceedsFrom}
use Rattle.ats_conform.specs.Releases.{AllKeepBuckets, no_release, metered_from}
use Rattle.ats_conform.specs.declared.broken.Broken.TheVariants.{Size, Bucket}
use Rattle.ats_conform.proofs.OneBroken.{broken-one}
use Rattle.ats_bucket.specs.Conforming.{Frame}
use Rattle.ats_examples.specs.Networks.{below, fork, line}
use Rattle.ats_verdict_examples.specs.FirstBroken.{BrokenAreMeant, FirstBrokenIsNamed, bucket_then_size, of_faster}
use Rattle.ats_verdict_examples.specs.FirstBroken.{size_then_bucket}
use Rattle.ats_verdict_examples.proofs.Conformances.{all_keep_by, may_be_run, since_of}

-- What the first frame breaks: of any releases by the words themselves, of worked ones by computation.

pub broken_are_meant : BrokenAreMeant
broken_are_meant = record {
  size = λ network releases frame. (
    λ is. ((is.first.within, is.first.before, is.first.broken), is.size),
    λ h. record { first = record { within = h.0.0; before = h.0.1; broken = h.0.2 }; size = h.1 },
  );
  bucket = λ network releases since frame. (
    λ is. ((is.first.within, is.first.before, is.first.broken), is.size, is.bucket),
    λ h. record { first = record { within = h.0.0; before = h.0.1; broken = h.0.2 }; size = h.1; bucket = h.2 },
  );
}

-- the frames of the faster stream, and of the line's
abbrev faster : List Frame
faster = counted (metered_from 1 0 of_faster)

abbrev of_line : List Frame
of_line = counted (metered_from 0 0 (take 2 bucket_then_size))

-- the third exceeds the bucket from the second on, by 500 Mb/s
not_faster : ¬ AllKeepBuckets below (take 3 of_faster)
not_faster keeps =
    let over : 1000000000000 * 13296 ≤ 500000000 * 1 + 1000000000000 * 12336 =
    ((keeps 0).streams 1 (lit< tt) refl).within 1 2 (lit≤ tt) (lit< tt) in
    absurd (omega arith)

faster_exceeds : ExceedsFrom 500000000 12336 faster 2 1
faster_exceeds = record { within = lit≤ tt; over = omega (arith, ints); greatest = greatest; earliest = earliest }
  where
    greatest : (k : ℕ) → k ≤ 2 → excess 500000000 12336 faster k 2 ≤ℤ excess 500000000 12336 faster 1 2
    greatest zero h = omega (arith, ints)
    greatest (suc zero) h = omega (arith, ints)
    greatest (suc (suc zero)) h = omega (arith, ints)
    greatest (suc (suc (suc k))) h = absurd (omega arith)

    earliest : (k : ℕ) → k < 1 → excess 500000000 12336 faster k 2 <ℤ excess 500000000 12336 faster 1 2
    earliest zero h = omega (arith, ints)
    earliest (suc k) h = absurd (omega arith)

breaks_faster : Breaks below of_faster (Bucket 1 2)
breaks_faster = record {
  first = record { within = lit< tt; before = all_keep_by below (take 2 of_faster) refl refl; broken = not_faster };
  size = refl;
  bucket = record { place = 1; number = refl; exceeds = faster_exceeds };
}

-- the second exceeds the bucket from the first on
not_at_once : ¬ AllKeepBuckets line (take 2 bucket_then_size)
not_at_once keeps =
    let over : 1000000000000 * 13008 ≤ 100000000 * 0 + 1000000000000 * 12336 =
    ((keeps 0).streams 0 (lit< tt) refl).within 0 1 (lit≤ tt) (lit< tt) in
    absurd (omega arith)

at_once_exceeds : ExceedsFrom 100000000 12336 of_line 1 0
at_once_exceeds = record {
  within = lit≤ tt;
  over = omega (arith, ints);
  greatest = greatest;
  earliest = λ k h. absurd (omega arith);
}
  where
    greatest : (k : ℕ) → k ≤ 1 → excess 100000000 12336 of_line k 1 ≤ℤ excess 100000000 12336 of_line 0 1
    greatest zero h = omega (arith, ints)
    greatest (suc zero) h = omega (arith, ints)
    greatest (suc (suc k)) h = absurd (omega arith)

breaks_bucket : Breaks line bucket_then_size (Bucket 0 1)
breaks_bucket = record {
  first = record {
    within = lit< tt;
    before = all_keep_by line (take 1 bucket_then_size) refl refl;
    broken = not_at_once;
  };
  size = refl;
  bucket = record { place = 0; number = refl; exceeds = at_once_exceeds };
}

-- the station of the second stream is node 2
not_sized : ¬ AllKeepBuckets fork (take 1 size_then_bucket)
not_sized keeps = absurd (false≢true ((keeps 2).sizes 0 no_release (lit< tt) (lit< tt) refl))

breaks_size : Breaks fork size_then_bucket (Size 0)
breaks_size = record {
  first = record {
    within = lit< tt;
    before = all_keep_by fork (take 0 size_then_bucket) refl refl;
    broken = not_sized;
  };
  size = false≢true;
}

pub first_broken_is_named : FirstBrokenIsNamed
first_broken_is_named = record {
  faster_run = may_be_run below of_faster refl refl refl;
  since_by_own = breaks_faster;
  not_by_other = λ h.
      (let e : ◌≡◌ {A = ℕ} 1 0 = ap since_of (broken-one below of_faster (Bucket 1 2) (Bucket 0 2) breaks_faster h) in
      absurd (omega arith));
  bucket_run = may_be_run line bucket_then_size refl refl refl;
  bucket_first = breaks_bucket;
  not_size_first = λ h.
      (let e : ◌≡◌ {A = ℕ} 0 2 = ap since_of (broken-one line bucket_then_size (Bucket 0 1) (Size 2) breaks_bucket h) in
      absurd (omega arith));
  size_run = may_be_run fork size_then_bucket refl refl refl;
  size_first = breaks_size;
  not_bucket_first = λ h.
      (let e : ◌≡◌ {A = ℕ} 0 1 = ap since_of (broken-one fork size_then_bucket (Size 0) (Bucket 1 2) breaks_size h) in
      absurd (omega arith));
}
