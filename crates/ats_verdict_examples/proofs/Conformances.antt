use Rattle.std.proofs.Common.{◌≡◌, ℕ, zero, suc, ◌+◌, ◌*◌, ◌<◌, ◌≤◌, Bool, true, false, ◌&&◌, List}
use Rattle.std.proofs.Common.{length, map, take, refl, ap, arith, lit<, lit≤}
use Rattle.std.specs.Prelude.{nat_le, nat_lt, ◌<ℤ◌, ◌≤ℤ◌}
use Rattle.std.specs.List.{list_all}
use Rattle.std.proofs.lemmas.Bool.{and_parts, false≢true}
use Rattle.std.proofs.lemmas.Int.{ints}
use Rattle.ats_network.specs.Network.{DeclaredNetwork, senders_of}
use Rattle.ats_network.specs.Senders.{sender_at}
use Rattle.ats_trace.specs.Releases.{IsRelease, AreReleases}
use Rattle.ats_trace.specs.Talker.{talker_of, frames_of, IsDeclaredSize}
use Rattle.ats_trace.specs.declared.journey.Release.{Release}
use Rattle.ats_conform.specs.Broken.{Breaks}
use Rattle.ats_conform.specs.Metering.{counted, excess, ExceedsFrom}
use Rattle.ats_conform.specs.Releases.{AllKeepBuckets, no_release, metered_from}
use Rattle.ats_conform.specs.declared.broken.Broken.{Broken}
use Rattle.ats_conform.specs.declared.broken.Broken.TheVariants.{Size, Bucket}
use Rattle.ats_conform.proofs.OneBroken.{broken-one}
use Rattle.ats_conform.proofs.Prefix.{one-breaks}
use Rattle.ats_bucket.specs.Conforming.{Frame}
use Rattle.ats_examples.specs.Networks.{line, line_and_flow, fork}
use Rattle.ats_examples.proofs.BucketTest.{conforms_by, stream_conforms, is_sized}
use Rattle.ats_examples.proofs.LegalTest.{ascending_by}
use Rattle.ats_examples.proofs.Tests.{le_of, lt_of, all_by, pairs_pass, each_below, below_by}
use Rattle.ats_verdict_examples.specs.Conformance.{behind_the_burst, from_either, too_long, both_too_long}
use Rattle.ats_verdict_examples.specs.Conformance.{in_turn, flow_burst, long_of_flow, from_65, over_from_both}
use Rattle.ats_verdict_examples.specs.Conformance.{too_short}
use Rattle.ats_verdict_examples.specs.Conformance.{ConformanceIsMet}

-- Tests of releases, which compute, and what the laws say of them.

-- the times of releases
abbrev times : List Release → List ℕ
times releases = map (λ (r : Release). r.at.0) releases

-- releases that may be run
abbrev is_release : DeclaredNetwork → Release → Bool
is_release network r =
    nat_le r.at.0 100000000000000000
    && (nat_lt r.sender (length (senders_of network)) && (nat_le 64 r.octets && nat_le r.octets 2000))

release_by : (network : DeclaredNetwork) (r : Release) → is_release network r ≡ true → IsRelease network r
release_by network r h =
    let sized : Bool = nat_le 64 r.octets && nat_le r.octets 2000 in
    let sent : Bool = nat_lt r.sender (length (senders_of network)) in
    let first = and_parts (nat_le r.at.0 100000000000000000) (sent && sized) h in
    let second = and_parts sent sized first.1 in
    let third = and_parts (nat_le 64 r.octets) (nat_le r.octets 2000) second.1 in
    record {
      time = le_of r.at.0 100000000000000000 first.0;
      sender = lt_of r.sender (length (senders_of network)) second.0;
      octets = record { least = le_of 64 r.octets third.0; most = le_of r.octets 2000 third.1 };
    }

pub may_be_run : (network : DeclaredNetwork) (releases : List Release) → nat_le (length releases) 200000 ≡ true
    → pairs_pass nat_le (times releases) ≡ true → list_all (is_release network) releases ≡ true
    → AreReleases network releases
may_be_run network releases few ordered each = record {
  few = le_of (length releases) 200000 few;
  in_order = ascending_by (times releases) ordered;
  each = all_by (IsRelease network) (is_release network) (release_by network) releases each;
}

-- each stream conforms, and each release has a declared size, so each node keeps its buckets
pub all_keep_by : (network : DeclaredNetwork) (releases : List Release)
    → each_below (stream_conforms network releases) (length network.streams) ≡ true
    → list_all (is_sized network) releases ≡ true → AllKeepBuckets network releases
all_keep_by network releases conform sized station = record {
  streams = λ i there begins. conforms_by (sender_at network i).rate (sender_at network i).burst_bits
      (frames_of i releases)
      (below_by (stream_conforms network releases) (length network.streams) conform i there);
  sizes = all_by (λ (r : Release). r.sender < length (senders_of network) → talker_of network r.sender ≡ station
      → IsDeclaredSize network r) (is_sized network) (λ r h there begins. h) releases sized;
}

-- the third frame exceeds the bucket from the second on
over_second : ¬ AllKeepBuckets line (take 3 (behind_the_burst 106719999))
over_second keeps =
    let over : 1000000000000 * 13008 ≤ 100000000 * 6719999 + 1000000000000 * 12336 =
    ((keeps 0).streams 0 (lit< tt) refl).within 1 2 (lit≤ tt) (lit< tt) in
    absurd (omega arith)

-- and here from the first on as well
over_first : ¬ AllKeepBuckets line (take 3 from_either)
over_first keeps =
    let over : 1000000000000 * 13680 ≤ 100000000 * 13439999 + 1000000000000 * 12336 =
    ((keeps 0).streams 0 (lit< tt) refl).within 0 2 (lit≤ tt) (lit< tt) in
    absurd (omega arith)

over_both : ¬ AllKeepBuckets line (take 3 over_from_both)
over_both keeps =
    let over : 1000000000000 * 24672 ≤ 100000000 * 0 + 1000000000000 * 12336 =
    ((keeps 0).streams 0 (lit< tt) refl).within 1 2 (lit≤ tt) (lit< tt) in
    absurd (omega arith)

not_sized : ¬ AllKeepBuckets line (take 2 too_long)
not_sized keeps =
    let fits : false ≡ true = (keeps 0).sizes 1 no_release (lit< tt) (lit< tt) refl in
    absurd (false≢true fits)

-- what the meter counts of the line's stream
abbrev frames : List Release → List Frame
frames releases = counted (metered_from 0 0 releases)

second_exceeds : ExceedsFrom 100000000 12336 (frames (behind_the_burst 106719999)) 2 1
second_exceeds = record { within = lit≤ tt; over = omega (arith, ints); greatest = greatest; earliest = earliest }
  where
    greatest : (k : ℕ) → k ≤ 2 → excess 100000000 12336 (frames (behind_the_burst 106719999)) k 2
        ≤ℤ excess 100000000 12336 (frames (behind_the_burst 106719999)) 1 2
    greatest zero h = omega (arith, ints)
    greatest (suc zero) h = omega (arith, ints)
    greatest (suc (suc zero)) h = omega (arith, ints)
    greatest (suc (suc (suc k))) h = absurd (omega arith)

    earliest : (k : ℕ) → k < 1 → excess 100000000 12336 (frames (behind_the_burst 106719999)) k 2
        <ℤ excess 100000000 12336 (frames (behind_the_burst 106719999)) 1 2
    earliest zero h = omega (arith, ints)
    earliest (suc k) h = absurd (omega arith)

first_exceeds : ExceedsFrom 100000000 12336 (frames from_either) 2 0
first_exceeds = record {
  within = lit≤ tt;
  over = omega (arith, ints);
  greatest = greatest;
  earliest = λ k h. absurd (omega arith);
}
  where
    greatest : (k : ℕ) → k ≤ 2
        → excess 100000000 12336 (frames from_either) k 2 ≤ℤ excess 100000000 12336 (frames from_either) 0 2
    greatest zero h = omega (arith, ints)
    greatest (suc zero) h = omega (arith, ints)
    greatest (suc (suc zero)) h = omega (arith, ints)
    greatest (suc (suc (suc k))) h = absurd (omega arith)

most_exceeds : ExceedsFrom 100000000 12336 (frames over_from_both) 2 1
most_exceeds = record { within = lit≤ tt; over = omega (arith, ints); greatest = greatest; earliest = earliest }
  where
    greatest : (k : ℕ) → k ≤ 2
        → excess 100000000 12336 (frames over_from_both) k 2 ≤ℤ excess 100000000 12336 (frames over_from_both) 1 2
    greatest zero h = omega (arith, ints)
    greatest (suc zero) h = omega (arith, ints)
    greatest (suc (suc zero)) h = omega (arith, ints)
    greatest (suc (suc (suc k))) h = absurd (omega arith)

    earliest : (k : ℕ) → k < 1
        → excess 100000000 12336 (frames over_from_both) k 2 <ℤ excess 100000000 12336 (frames over_from_both) 1 2
    earliest zero h = omega (arith, ints)
    earliest (suc k) h = absurd (omega arith)

-- the third frame is the first by which the stream breaks its bucket
breaks_second : Breaks line (behind_the_burst 106719999) (Bucket 1 2)
breaks_second = record {
  first = record {
    within = lit< tt;
    before = all_keep_by line (take 2 (behind_the_burst 106719999)) refl refl;
    broken = over_second;
  };
  size = refl;
  bucket = record { place = 1; number = refl; exceeds = second_exceeds };
}

breaks_first : Breaks line from_either (Bucket 0 2)
breaks_first = record {
  first = record {
    within = lit< tt;
    before = all_keep_by line (take 2 from_either) refl refl;
    broken = over_first;
  };
  size = refl;
  bucket = record { place = 0; number = refl; exceeds = first_exceeds };
}

breaks_most : Breaks line over_from_both (Bucket 1 2)
breaks_most = record {
  first = record {
    within = lit< tt;
    before = all_keep_by line (take 2 over_from_both) refl refl;
    broken = over_both;
  };
  size = refl;
  bucket = record { place = 1; number = refl; exceeds = most_exceeds };
}

breaks_size : Breaks line too_long (Size 1)
breaks_size = record {
  first = record {
    within = lit< tt;
    before = all_keep_by line (take 1 too_long) refl refl;
    broken = not_sized;
  };
  size = false≢true;
}

-- the station of the second stream is node 2
not_first_sized : ¬ AllKeepBuckets fork (take 1 both_too_long)
not_first_sized keeps =
    let fits : false ≡ true = (keeps 2).sizes 0 no_release (lit< tt) (lit< tt) refl in
    absurd (false≢true fits)

breaks_first_size : Breaks fork both_too_long (Size 0)
breaks_first_size = record {
  first = record {
    within = lit< tt;
    before = all_keep_by fork (take 0 both_too_long) refl refl;
    broken = not_first_sized;
  };
  size = false≢true;
}

-- the second frame of the second stream exceeds its bucket from its first on
not_in_turn : ¬ AllKeepBuckets fork (take 4 in_turn)
not_in_turn keeps =
    let over : 1000000000000 * 13008 ≤ 100000000 * 6719999 + 1000000000000 * 12336 =
    ((keeps 2).streams 1 (lit< tt) refl).within 0 1 (lit≤ tt) (lit< tt) in
    absurd (omega arith)

its_first_exceeds : ExceedsFrom 100000000 12336 (counted (metered_from 1 0 in_turn)) 1 0
its_first_exceeds = record {
  within = lit≤ tt;
  over = omega (arith, ints);
  greatest = greatest;
  earliest = λ k h. absurd (omega arith);
}
  where
    greatest : (k : ℕ) → k ≤ 1 → excess 100000000 12336 (counted (metered_from 1 0 in_turn)) k 1
        ≤ℤ excess 100000000 12336 (counted (metered_from 1 0 in_turn)) 0 1
    greatest zero h = omega (arith, ints)
    greatest (suc zero) h = omega (arith, ints)
    greatest (suc (suc k)) h = absurd (omega arith)

breaks_in_turn : Breaks fork in_turn (Bucket 1 3)
breaks_in_turn = record {
  first = record { within = lit< tt; before = all_keep_by fork (take 3 in_turn) refl refl; broken = not_in_turn };
  size = refl;
  bucket = record { place = 0; number = refl; exceeds = its_first_exceeds };
}

-- a frame of a flow that is too long, and one of a stream that is too short
flow_not_sized : ¬ AllKeepBuckets line_and_flow (take 1 long_of_flow)
flow_not_sized keeps =
    let fits : false ≡ true = (keeps 0).sizes 0 no_release (lit< tt) (lit< tt) refl in
    absurd (false≢true fits)

breaks_flow : Breaks line_and_flow long_of_flow (Size 0)
breaks_flow = record {
  first = record {
    within = lit< tt;
    before = all_keep_by line_and_flow (take 0 long_of_flow) refl refl;
    broken = flow_not_sized;
  };
  size = false≢true;
}

short_not_sized : ¬ AllKeepBuckets from_65 (take 1 too_short)
short_not_sized keeps =
    let fits : false ≡ true = (keeps 0).sizes 0 no_release (lit< tt) (lit< tt) refl in
    absurd (false≢true fits)

breaks_short : Breaks from_65 too_short (Size 0)
breaks_short = record {
  first = record {
    within = lit< tt;
    before = all_keep_by from_65 (take 0 too_short) refl refl;
    broken = short_not_sized;
  };
  size = false≢true;
}

-- the frame from which on the bucket is exceeded
abbrev pub since_of : Broken → ℕ
since_of (Size frame) = frame
since_of (Bucket since frame) = since

pub conformance_is_met : ConformanceIsMet
conformance_is_met = record {
  kept_run = may_be_run line (behind_the_burst 106720000) refl refl refl;
  kept = all_keep_by line (behind_the_burst 106720000) refl refl;
  broken_run = may_be_run line (behind_the_burst 106719999) refl refl refl;
  broken = one-breaks line (behind_the_burst 106719999) (Bucket 1 2) breaks_second;
  since_second = breaks_second;
  not_since_first = λ h.
      (let e : ◌≡◌ {A = ℕ} 1 0 = ap since_of (broken-one line (behind_the_burst 106719999) (Bucket 1 2) (Bucket 0 2)
      breaks_second h) in
      absurd (omega arith));
  since_first = breaks_first;
  not_since_second = λ h.
      (let e : ◌≡◌ {A = ℕ} 0 1 = ap since_of (broken-one line from_either (Bucket 0 2) (Bucket 1 2) breaks_first h) in
      absurd (omega arith));
  since_most = breaks_most;
  not_since_any = λ h.
      (let e : ◌≡◌ {A = ℕ} 1 0 = ap since_of (broken-one line over_from_both (Bucket 1 2) (Bucket 0 2) breaks_most h) in
      absurd (omega arith));
  long = breaks_size;
  long_breaks = one-breaks line too_long (Size 1) breaks_size;
  both_run = may_be_run fork both_too_long refl refl refl;
  first_frame = breaks_first_size;
  not_first_stream = λ h.
      (let e : ◌≡◌ {A = ℕ} 0 1 = ap since_of (broken-one fork both_too_long (Size 0) (Size 1) breaks_first_size h) in
      absurd (omega arith));
  among_all = breaks_in_turn;
  not_of_stream = λ h.
      (let e : ◌≡◌ {A = ℕ} 1 0 = ap since_of (broken-one fork in_turn (Bucket 1 3) (Bucket 0 1) breaks_in_turn h) in
      absurd (omega arith));
  flow_keeps = all_keep_by line_and_flow flow_burst refl refl;
  flow_long = breaks_flow;
  short = breaks_short;
}
