use Rattle.std.proofs.Common.{◌≡◌, ℕ, suc, ◌+◌, ◌*◌, ◌<◌, Bool, true, ◌&&◌, ◌||◌, List, length, arith}
use Rattle.std.specs.Prelude.{nat_le, not, ◌==◌}
use Rattle.std.specs.List.{list_all}
use Rattle.std.proofs.lemmas.Bool.{and_parts}
use Rattle.ats_num.specs.declared.time.TheConstants.{PS_PER_SECOND}
use Rattle.ats_network.specs.Network.{DeclaredNetwork, senders_of}
use Rattle.ats_network.specs.Senders.{sender_at}
use Rattle.ats_bucket.specs.Conforming.{Frame, times_of, bits_between, time_between, Conforms}
use Rattle.ats_streams.specs.Traffic.{is_declared_size}
use Rattle.ats_trace.specs.Eligibility.{declared_by}
use Rattle.ats_trace.specs.Talker.{talker_of, frames_of, IsDeclaredSize, KeepsBuckets}
use Rattle.ats_trace.specs.declared.journey.Release.{Release}
use Rattle.ats_examples.proofs.Tests.{le_of, implied, all_by, pairs_pass, each_below, below_by}
use Rattle.ats_examples.proofs.LegalTest.{ascending_by}
use Rattle.ats_examples.proofs.PortTest.{of_eq}

-- A test of the buckets of a talker on closed networks and releases.

-- the frames from place i to place j are no more than the bucket gives
abbrev pub within : ℕ → ℕ → List Frame → ℕ → ℕ → Bool
within rate burst frames j i =
    nat_le (PS_PER_SECOND * bits_between frames i j) (rate * time_between frames i j + PS_PER_SECOND * burst)

abbrev pub conforms : ℕ → ℕ → List Frame → Bool
conforms rate burst frames = pairs_pass nat_le (times_of frames)
    && each_below (λ j. each_below (within rate burst frames j) (suc j)) (length frames)

pub conforms_by : (rate burst : ℕ) (frames : List Frame) → conforms rate burst frames ≡ true
    → Conforms rate burst frames
conforms_by rate burst frames h =
    let parts : (pairs_pass nat_le (times_of frames) ≡ true)
    × (each_below (λ j. each_below (within rate burst frames j) (suc j)) (length frames) ≡ true)
    = and_parts (pairs_pass nat_le (times_of frames))
    (each_below (λ j. each_below (within rate burst frames j) (suc j)) (length frames)) h in
    record {
      in_order = ascending_by (times_of frames) parts.0;
      within = λ i j before last.
          le_of (PS_PER_SECOND * bits_between frames i j) (rate * time_between frames i j + PS_PER_SECOND * burst)
          (below_by (within rate burst frames j) (suc j)
          (below_by (λ j. each_below (within rate burst frames j) (suc j)) (length frames) parts.1 j last) i
          (omega arith));
    }

-- all streams conform, and all releases have declared sizes
abbrev pub stream_conforms : DeclaredNetwork → List Release → ℕ → Bool
stream_conforms network releases i =
    conforms (sender_at network i).rate (sender_at network i).burst_bits (frames_of i releases)

abbrev pub is_sized : DeclaredNetwork → Release → Bool
is_sized network r = is_declared_size (declared_by network r.sender) r.octets

-- those of a stream that begins at this station do
abbrev pub stream_keeps : DeclaredNetwork → List Release → ℕ → ℕ → Bool
stream_keeps network releases station i = not (talker_of network i == station) || stream_conforms network releases i

pub keeps_by : (network : DeclaredNetwork) (releases : List Release) (station : ℕ)
    → each_below (stream_keeps network releases station) (length network.streams) ≡ true
    → list_all (is_sized network) releases ≡ true → KeepsBuckets network releases station
keeps_by network releases station conform sized =
    record {
      streams = λ i there begins.
          conforms_by (sender_at network i).rate (sender_at network i).burst_bits (frames_of i releases)
          (implied (talker_of network i == station) (stream_conforms network releases i)
          (below_by (stream_keeps network releases station) (length network.streams) conform i there)
          (of_eq (talker_of network i) station begins));
      sizes = all_by (λ (r : Release). r.sender < length (senders_of network) → talker_of network r.sender ≡ station
          → IsDeclaredSize network r) (is_sized network) (λ r h there begins. h) releases sized;
    }
