-- In the burst every node keeps its buckets.
use Rattle.std.proofs.Common.{◌≡◌, ℕ, ◌+◌, ◌*◌, ◌/◌, ◌%◌, ◌<◌, ◌≤◌, Bool, true, false, cond, List, get_or, map, length}
use Rattle.std.proofs.Common.{replicate, sym, ap, subst, ◌∙◌, arith}
use Rattle.std.specs.Prelude.{min, nat_le}
use Rattle.std.specs.List.Sorted.{IsNonDecreasing}
use Rattle.std.proofs.Math.Nat.{mul-le-mul_left, mul-le-mul_right}
use Rattle.std.proofs.lemmas.Bool.{and_from, le-leb}
use Rattle.std.proofs.lemmas.List.Folds.{sum_by-replicate}
use Rattle.ats_num.specs.Wire.{bits_of}
use Rattle.ats_num.specs.declared.time.TheConstants.{PS_PER_SECOND}
use Rattle.ats_bucket.specs.Conforming.{Conforms, Frame, bits_between}
use Rattle.ats_group.specs.Judge.{bucket_rule}
use Rattle.ats_network.specs.Sender.{Sender}
use Rattle.ats_network.specs.Network.{DeclaredNetwork, IsNetwork}
use Rattle.ats_network.specs.Senders.{IsSender, sender_at}
use Rattle.ats_network.proofs.SenderLemmas.{sender_keeps}
use Rattle.ats_certificate.specs.PortSums.{uses}
use Rattle.ats_trace.specs.Eligibility.{declared_by}
use Rattle.ats_trace.specs.Talker.{IsDeclaredSize, KeepsBuckets, frame_of, frames_of}
use Rattle.ats_trace.specs.declared.journey.Release.{Release}
use Rattle.ats_witness.specs.Burst.{IsBurst, frames_in_burst, interferes, whole_frames}
use Rattle.ats_witness.proofs.BurstLemmas.{own_release, release_in}
use Rattle.ats_witness.proofs.StreamLemmas.{stream_covers}
use Rattle.ats_witness.proofs.CopyLemmas.{copies_level, map-copies, sum_by-slice-le}

-- copies of a frame at one time conform to a burst that holds them
copies_conform : (rate burst n : ℕ) (f : Frame) → n * f.bits ≤ burst → Conforms rate burst (replicate n f)
copies_conform rate burst n f few = record {
  in_order = subst IsNonDecreasing (sym (map-copies (λ (x : Frame). x.at) n f)) (copies_level n f.at);
  within = λ i j le h.
      (let part = sum_by-slice-le (λ (x : Frame). x.bits) (replicate n f) i (j + 1) in
      let all = sum_by-replicate (λ (x : Frame). x.bits) n f in
      let held : bits_between (replicate n f) i j ≤ burst = omega (arith, part, all, few) in
      let product : PS_PER_SECOND * bits_between (replicate n f) i j ≤ PS_PER_SECOND * burst =
      mul-le-mul_left PS_PER_SECOND held in
      omega (arith, product));
}

-- a burst holds the frames that it holds whole
whole_held : (burst bits : ℕ) → 0 < bits → min 40 (burst / bits) * bits ≤ burst
whole_held burst bits some =
    let whole : bits * (burst / bits) + burst % bits ≡ burst = omega (arith, some) in
    let fewer : min 40 (burst / bits) ≤ burst / bits = omega arith in
    let product : min 40 (burst / bits) * bits ≤ burst / bits * bits = mul-le-mul_right bits fewer in
    omega (arith, whole, product)

-- and those in the burst, where it covers the longest frame
pub frames_held : (port class : ℕ) (s : Sender) → bits_of s.max_octets ≤ s.burst_bits
    → frames_in_burst port class s * bits_of s.max_octets ≤ s.burst_bits
frames_held port class s covers = by (uses port s) (interferes port class s)
  where
    bits : ℕ
    bits = bits_of s.max_octets

    by : (b c : Bool) → cond b (cond c (whole_frames s) 1) 0 * bits ≤ s.burst_bits
    by true true = whole_held s.burst_bits bits (omega arith)
    by true false = omega (arith, covers)
    by false c = omega arith

stream_conforms : (network : DeclaredNetwork) (port class i : ℕ) (releases : List Release) → IsNetwork network
    → IsBurst network port class releases → i < length network.streams
    → bucket_rule (declared_by network i) (frames_of i releases)
stream_conforms network port class i releases net burst h =
    let s : Sender = sender_at network i in
    let copies : frames_of i releases
    ≡ replicate (frames_in_burst port class s) (frame_of (release_in network port class i)) =
    ap (map frame_of) (burst.of_each i)
    ∙ map-copies frame_of (frames_in_burst port class s) (release_in network port class i) in
    subst (Conforms s.rate s.burst_bits) (sym copies)
    (copies_conform s.rate s.burst_bits (frames_in_burst port class s) (frame_of (release_in network port class i))
    (frames_held port class s (stream_covers network i net h)))

-- each frame has a declared size
size_declared : (network : DeclaredNetwork) (r : Release) → IsSender network.topology (sender_at network r.sender)
    → r.octets ≡ (sender_at network r.sender).max_octets → IsDeclaredSize network r
size_declared network r keeps longest =
    let s : Sender = sender_at network r.sender in
    and_from (nat_le s.min_octets r.octets) (nat_le r.octets s.max_octets)
    (le-leb s.min_octets r.octets (omega (arith, keeps.sizes.ordered, longest)))
    (le-leb r.octets s.max_octets (omega (arith, longest)))

pub burst_keeps : (network : DeclaredNetwork) (port class : ℕ) (releases : List Release) → IsNetwork network
    → IsBurst network port class releases → (station : ℕ) → KeepsBuckets network releases station
burst_keeps network port class releases net burst station = record {
  streams = λ i h begins. stream_conforms network port class i releases net burst h;
  sizes = λ k d h within begins.
      size_declared network (get_or releases k d)
      (sender_keeps network (get_or releases k d).sender net within)
      (ap (λ (r : Release). r.octets) (own_release network port class releases burst.of_each k d h));
}
