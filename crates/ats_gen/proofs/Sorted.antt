use Rattle.std.proofs.Common.{◌≡◌, ℕ, ◌+◌, ◌<◌, ◌≤◌, Bool, true, false, cond, List, [], ◌∷◌, length, map, filter}
use Rattle.std.proofs.Common.{get_or, All}
use Rattle.std.proofs.Common.{sum_by, refl, sym, ◌∙◌, length-append, arith}
use Rattle.std.specs.Prelude.{◌==◌, IsPermutation}
use Rattle.std.specs.List.Sorted.{IsNonDecreasing, IsNonDecreasingBy}
use Rattle.std.proofs.lemmas.List.{get_or-map, length-map}
use Rattle.std.proofs.lemmas.List.Sums.{sum_by-cons}
use Rattle.std.proofs.lemmas.List.Sorted.{sum_by-IsPermutation, All-permutation, length_permutation}
use Rattle.std.proofs.lemmas.List.Kept.{IsNonDecreasingBy-filter}
use Rattle.ats_bucket.specs.Conforming.{Frame}
use Rattle.ats_streams.specs.declared.traffic.Declared.{Declared}
use Rattle.ats_group_law.specs.Regulator.{AreNoMore}
use Rattle.ats_group_law.proofs.Order.{from_frames}
use Rattle.ats_group_law.proofs.Regulator.{ats_is_regulator}
use Rattle.ats_group_law.proofs.WindowPlaces.{places_from_windows}
use Rattle.ats_network.specs.Network.{DeclaredNetwork}
use Rattle.ats_network.specs.Sender.{stream_sender, flow_sender}
use Rattle.ats_network.specs.Senders.{sender_at}
use Rattle.ats_trace.specs.Eligibility.{declared_by}
use Rattle.ats_trace.specs.Releases.{AreReleases, HaveFewPorts}
use Rattle.ats_trace.specs.Talker.{frame_of, frames_of, KeepsBuckets}
use Rattle.ats_trace.specs.declared.journey.Release.{Release}
use Rattle.ats_trace.specs.declared.run.TheConstants.{MAX_FRAMES, MAX_RELEASE_PS}
use Rattle.ats_gen.specs.Made.{AreMade, made}
use Rattle.ats_gen.proofs.MadeParts.{AreRuled, IsOwn, length-made, made-kept, made-own}

-- what a sender's frames weigh, as a sum over all releases
weight-sum : (weight : Frame → ℕ) (i : ℕ) (rs : List Release)
    → sum_by weight (frames_of i rs) ≡ sum_by (λ (r : Release). cond (r.sender == i) (weight (frame_of r)) 0) rs
weight-sum weight i [] = refl
weight-sum weight i (r ∷ rs) =
    by (r.sender == i) (filter (λ (s : Release). s.sender == i) rs) (weight-sum weight i rs)
    ∙ sym (sum_by-cons (λ (s : Release). cond (s.sender == i) (weight (frame_of s)) 0) r rs)
  where
    by : (b : Bool) (l : List Release)
        → sum_by weight (map frame_of l) ≡ sum_by (λ (s : Release). cond (s.sender == i) (weight (frame_of s)) 0) rs
        → sum_by weight (map frame_of (cond b (r ∷ l) l))
        ≡ cond b (weight (frame_of r)) 0 + sum_by (λ (s : Release). cond (s.sender == i) (weight (frame_of s)) 0) rs
    by true l e = omega (arith, sum_by-cons weight (frame_of r) (map frame_of l))
    by false l e = omega arith

-- another order leaves a sender's frames no more
no_more : (i : ℕ) (earlier releases : List Release) → IsPermutation earlier releases
    → AreNoMore (frames_of i releases) (frames_of i earlier)
no_more i earlier releases same weight =
    let each : Release → ℕ = λ r. cond (r.sender == i) (weight (frame_of r)) 0 in
    omega (
      arith,
      weight-sum weight i releases,
      weight-sum weight i earlier,
      sum_by-IsPermutation each earlier releases same,
    )

-- releases in the order of their times, as frames
frames-in_order : (rs : List Release) → IsNonDecreasingBy (λ (r : Release). r.at.0) rs
    → IsNonDecreasingBy (λ (f : Frame). f.at) (map frame_of rs)
frames-in_order rs sorted i j d h k =
    let none : Release = record { at = record { 0 = 0 }; sender = 0; octets = 0 } in
    let below : j < length rs = omega (arith, length-map rs frame_of) in
    let at_i = get_or-map frame_of rs i none d (omega arith) in
    let at_j = get_or-map frame_of rs j none d below in
    rw (at_i, at_j) (sorted i j none h below)

-- and their times
times-in_order : (rs : List Release) → IsNonDecreasingBy (λ (r : Release). r.at.0) rs
    → IsNonDecreasing (map (λ (r : Release). r.at.0) rs)
times-in_order rs sorted i j d h k =
    let none : Release = record { at = record { 0 = 0 }; sender = 0; octets = 0 } in
    let time : Release → ℕ = λ r. r.at.0 in
    let below : j < length rs = omega (arith, length-map rs time) in
    let at_i = get_or-map time rs i none d (omega arith) in
    let at_j = get_or-map time rs j none d below in
    rw (at_i, at_j) (sorted i j none h below)

-- by the made releases every node keeps its buckets
pub made-keeps : (network : DeclaredNetwork) (seed count : ℕ) (releases : List Release) → AreRuled network
    → 0 < length network.streams → AreMade network seed count releases
    → (station : ℕ) → KeepsBuckets network releases station
made-keeps network seed count releases ruled some are station = record {
  streams = λ i h talks. (
      let d : Declared = declared_by network i in
      ats_is_regulator.rule.fewer d (frames_of i releases) (frames_of i (made network seed count))
      (places_from_windows d.rate d.burst_bits (frames_of i (made network seed count))
      (made-kept network seed count i ruled some h).conforms)
      (from_frames (frames_of i releases) (frames-in_order (filter (λ (r : Release). r.sender == i) releases)
      (IsNonDecreasingBy-filter (λ (r : Release). r.at.0) (λ (r : Release). r.sender == i) releases are.by_time)))
      (no_more i (made network seed count) releases are.same));
  sizes = λ k e below exists talks.
      (All-permutation (IsOwn network) (made network seed count) releases are.same
      (made-own network seed count ruled some) k e below).size;
}

-- and they may be run
pub made-releases : (network : DeclaredNetwork) (seed count : ℕ) (releases : List Release) → AreRuled network
    → 0 < length network.streams → count ≤ MAX_FRAMES
    → All (λ (r : Release). r.at.0 ≤ MAX_RELEASE_PS) (made network seed count)
    → AreMade network seed count releases → AreReleases network releases
made-releases network seed count releases ruled some few within are = record {
  few = omega (
    arith,
    length_permutation (made network seed count) releases are.same,
    length-made network seed count,
  );
  in_order = times-in_order releases are.by_time;
  each = λ k e below. (
      let own : IsOwn network (get_or releases k e) =
      All-permutation (IsOwn network) (made network seed count) releases are.same
      (made-own network seed count ruled some) k e below in
      record {
        time = All-permutation (λ (r : Release). r.at.0 ≤ MAX_RELEASE_PS) (made network seed count) releases are.same
            within k e below;
        sender = omega (
          arith,
          own.stream,
          length-append (map stream_sender network.streams) (map flow_sender network.flows),
          length-map network.streams stream_sender,
        );
        octets = own.octets;
      });
}

-- their frames have as many ports as those that were made
pub made-few_ports : (network : DeclaredNetwork) (seed count : ℕ) (releases : List Release)
    → AreMade network seed count releases → HaveFewPorts network (made network seed count)
    → HaveFewPorts network releases
made-few_ports network seed count releases are few =
    let ports_of : Release → ℕ = λ r. length (sender_at network r.sender).ports in
    omega (arith, sum_by-IsPermutation ports_of (made network seed count) releases are.same, few)
