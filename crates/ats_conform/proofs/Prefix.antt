use Rattle.std.proofs.Common.{◌≡◌, ℕ, ◌+◌, ◌<◌, Bool, List, ◌++◌, length, map, filter, take, drop, sym, ap}
use Rattle.std.proofs.Common.{◌∙◌, subst, length-append, arith}
use Rattle.std.specs.Prelude.{◌==◌}
use Rattle.std.specs.List.Sorted.{IsNonDecreasing}
use Rattle.std.proofs.lemmas.List.{get_or_append_left, take-append-drop, map-append}
use Rattle.std.proofs.lemmas.List.Elements.{filter-append, All-take}
use Rattle.std.proofs.lemmas.List.Sums.{sum_by-append}
use Rattle.ats_bucket.specs.Conforming.{Frame, Conforms, times_of}
use Rattle.ats_streams.specs.declared.traffic.Declared.{Declared}
use Rattle.ats_group_law.proofs.Regulator.{ats_is_regulator}
use Rattle.ats_network.specs.Network.{DeclaredNetwork, senders_of}
use Rattle.ats_trace.specs.Eligibility.{declared_by}
use Rattle.ats_trace.specs.Talker.{frame_of, frames_of, talker_of, IsDeclaredSize}
use Rattle.ats_trace.specs.declared.journey.Release.{Release}
use Rattle.ats_conform.specs.declared.broken.Broken.TheVariants.{Size, Bucket}
use Rattle.ats_conform.specs.Broken.{IsFirstBroken}
use Rattle.ats_conform.specs.Laws.{OneBreaksAll}
use Rattle.ats_conform.specs.Releases.{AllKeepBuckets}

-- the times of the first frames do not descend where those of all do not
times-front : (xs ys : List ℕ) → IsNonDecreasing (xs ++ ys) → IsNonDecreasing xs
times-front xs ys sorted i j d h k =
    let at_i = get_or_append_left xs ys d i (omega arith) in
    let at_j = get_or_append_left xs ys d j k in
    rw (← at_i, ← at_j) (sorted i j d h (omega (arith, length-append xs ys)))

-- the first frames conform where all do
conforms-front : (d : Declared) (xs ys : List Frame) → Conforms d.rate d.burst_bits (xs ++ ys)
    → Conforms d.rate d.burst_bits xs
conforms-front d xs ys conforms =
    ats_is_regulator.rule.fewer d xs (xs ++ ys) conforms
    (times-front (times_of xs) (times_of ys)
    (subst IsNonDecreasing (map-append (λ (f : Frame). f.at) xs ys) conforms.in_order))
    (λ weight. omega (arith, sum_by-append weight xs ys))

-- a sender's frames among the first releases are the first of its frames
frames-front : (i n : ℕ) (releases : List Release)
    → frames_of i releases ≡ frames_of i (take n releases) ++ frames_of i (drop n releases)
frames-front i n releases =
    let mine : Release → Bool = λ r. r.sender == i in
    ap (frames_of i) (sym (take-append-drop n releases))
    ∙ ap (map frame_of) (filter-append mine (take n releases) (drop n releases))
    ∙ map-append frame_of (filter mine (take n releases)) (filter mine (drop n releases))

-- where every node keeps its buckets by all releases it does by the first of them
pub keep-front : (network : DeclaredNetwork) (releases : List Release) (n : ℕ) → AllKeepBuckets network releases
    → AllKeepBuckets network (take n releases)
keep-front network releases n all station = record {
  streams = λ i h talks.
      conforms-front (declared_by network i) (frames_of i (take n releases)) (frames_of i (drop n releases))
      (subst (Conforms (declared_by network i).rate (declared_by network i).burst_bits) (frames-front i n releases)
      ((all station).streams i h talks));
  sizes = All-take (λ (r : Release). r.sender < length (senders_of network) → talker_of network r.sender ≡ station
      → IsDeclaredSize network r) n releases (all station).sizes;
}

-- so what the first do not keep, all do not
pub first-breaks : (network : DeclaredNetwork) (releases : List Release) (n : ℕ) → IsFirstBroken network releases n
    → ¬ AllKeepBuckets network releases
first-breaks network releases n first all = first.broken (keep-front network releases (n + 1) all)

pub one-breaks : OneBreaksAll
one-breaks network releases (Size frame) breaks = first-breaks network releases frame breaks.first
one-breaks network releases (Bucket since frame) breaks = first-breaks network releases frame breaks.first
