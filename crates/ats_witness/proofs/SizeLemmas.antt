-- The burst may be run: it has not too many frames, none too late, and each of a sender.
use Rattle.std.proofs.Common.{◌≡◌, ℕ, zero, suc, ◌+◌, ◌-◌, ◌*◌, ◌<◌, ◌≤◌, Bool, true, false, cond, List, [], ◌∷◌}
use Rattle.std.proofs.Common.{get_or, map, filter, fold, length, length-append, length-take, sym, ap, subst}
use Rattle.std.proofs.Common.{◌∙◌, arith, sum_by}
use Rattle.std.specs.Prelude.{max}
use Rattle.std.specs.List.{All, before_first, position_or_len}
use Rattle.std.proofs.Math.Nat.{mul-le-mul_right}
use Rattle.std.proofs.lemmas.Bool.{lt-leb}
use Rattle.std.proofs.lemmas.List.{length-map, length-replicate}
use Rattle.std.proofs.lemmas.List.Elements.{All-head, All-tail, All-take}
use Rattle.std.proofs.lemmas.List.Sorted.{length_permutation}
use Rattle.std.proofs.lemmas.List.Sums.{sum_by-le}
use Rattle.ats_num.specs.Wire.{bits_of}
use Rattle.ats_topology.specs.Port.{no_port, port_at}
use Rattle.ats_topology.proofs.Rules.{ports_are_lawful}
use Rattle.ats_streams.specs.Branches.{routes_of}
use Rattle.ats_streams.specs.Path.{IsPath}
use Rattle.ats_streams.proofs.RouteLemmas.{each_on_routes}
use Rattle.ats_network.specs.Sender.{Sender, flow_sender, stream_sender}
use Rattle.ats_network.specs.Class.{class_at}
use Rattle.ats_network.specs.Edits.{no_stream}
use Rattle.ats_network.specs.Network.{DeclaredNetwork, IsNetwork, senders_of}
use Rattle.ats_network.specs.Senders.{IsSender, sender_at}
use Rattle.ats_network.proofs.ClassLemmas.{class_at-stream}
use Rattle.ats_network.proofs.SenderLemmas.{each_is_sender, flow_class, sender_keeps}
use Rattle.ats_certificate.specs.PortSums.{uses}
use Rattle.ats_trace.specs.Releases.{AreReleases, IsRelease}
use Rattle.ats_trace.specs.declared.journey.Release.{Release}
use Rattle.ats_witness.specs.Burst.{IsBurst, burst_of, frames_in_burst, interferes, time_in_burst, time_over, travel_to}
use Rattle.ats_witness.specs.Burst.{greatest_travel, whole_frames}
use Rattle.ats_witness.specs.Made.{AreReordered, by_sender}
use Rattle.ats_witness.proofs.BurstLemmas.{burst_times, by_sender_more, own_release, own_sender, release_in}
use Rattle.ats_witness.proofs.LeadLemmas.{each_in_front}
use Rattle.ats_witness.proofs.StreamLemmas.{stream_at}
use Rattle.ats_witness.proofs.TravelLemmas.{is_port}

-- a sender has at most 40 frames in the burst
pub frames-le : (port class : ℕ) (s : Sender) → frames_in_burst port class s ≤ 40
frames-le port class s = by (uses port s) (interferes port class s)
  where
    by : (b c : Bool) → cond b (cond c (whole_frames s) 1) 0 ≤ 40
    by true true = omega arith
    by true false = omega arith
    by false c = omega arith

-- and at most one where it does not interfere
pub one_frame : (port class : ℕ) (s : Sender) → interferes port class s ≡ false → frames_in_burst port class s ≤ 1
one_frame port class s not =
    subst (λ (c : Bool). cond (uses port s) (cond c (whole_frames s) 1) 0 ≤ 1) (sym not) (by (uses port s))
  where
    by : (b : Bool) → cond b 1 0 ≤ 1
    by true = omega arith
    by false = omega arith

length_more : (network : DeclaredNetwork) (port class n : ℕ) → length (by_sender network port class (n + 1))
    ≡ length (by_sender network port class n) + frames_in_burst port class (sender_at network n)
length_more network port class n =
    ap (λ (l : List Release). length l) (by_sender_more network port class n)
    ∙ length-append (by_sender network port class n) (burst_of network port class n)
    ∙ ap (λ (k : ℕ). length (by_sender network port class n) + k)
    (length-replicate (frames_in_burst port class (sender_at network n)) (release_in network port class n))

-- the first senders have at most 40 each
made-le : (network : DeclaredNetwork) (port class n : ℕ) → length (by_sender network port class n) ≤ 40 * n
made-le network port class zero = omega arith
made-le network port class (suc n) =
    let more = length_more network port class n in
    let next : length (by_sender network port class (suc n)) ≡ length (by_sender network port class (n + 1)) =
    ap (λ (k : ℕ). length (by_sender network port class k)) (let e : suc n ≡ n + 1 = omega arith in e) in
    omega (arith, next, more, frames-le port class (sender_at network n), made-le network port class n)

-- and the flows behind the streams at most one
flows-le : (network : DeclaredNetwork) (port class k : ℕ) → 1 ≤ class
    → length network.streams + k ≤ length (senders_of network)
    → length (by_sender network port class (length network.streams + k)) ≤ 40 * length network.streams + k
flows-le network port class zero some within =
    let first = made-le network port class (length network.streams) in
    let same : length (by_sender network port class (length network.streams + 0))
    ≡ length (by_sender network port class (length network.streams)) =
    ap (λ (n : ℕ). length (by_sender network port class n))
    (let e : length network.streams + 0 ≡ length network.streams = omega arith in e) in
    omega (arith, first, same)
flows-le network port class (suc k) some within =
    let n : ℕ = length network.streams + k in
    let before = flows-le network port class k some (omega (arith, within)) in
    let more = length_more network port class n in
    let next : length (by_sender network port class (length network.streams + suc k))
    ≡ length (by_sender network port class (n + 1)) =
    ap (λ (m : ℕ). length (by_sender network port class m))
    (let e : length network.streams + suc k ≡ n + 1 = omega arith in e) in
    let none : class_at (sender_at network n) port ≡ 0 =
    flow_class network n port (omega arith) (omega (arith, within)) in
    let one = one_frame port class (sender_at network n)
    (lt-leb class (class_at (sender_at network n) port) (omega (arith, none, some))) in
    omega (arith, before, more, next, one)

pub few_frames : (network : DeclaredNetwork) (port class : ℕ) → IsNetwork network → 1 ≤ class
    → length (by_sender network port class (length (senders_of network))) ≤ 200000
few_frames network port class net some =
    let streams : List Sender = map stream_sender network.streams in
    let flows : List Sender = map flow_sender network.flows in
    let all : length (senders_of network) ≡ length network.streams + length network.flows =
    length-append streams flows ∙ ap (λ (k : ℕ). k + length flows) (length-map network.streams stream_sender)
    ∙ ap (λ (k : ℕ). length network.streams + k) (length-map network.flows flow_sender) in
    let many = flows-le network port class (length network.flows) some (omega (arith, all)) in
    let same = ap (λ (n : ℕ). length (by_sender network port class n)) all in
    omega (arith, many, same, net.few_streams, net.few_flows)

-- how long a frame takes over a port
over-le : (network : DeclaredNetwork) (octets p : ℕ) → IsNetwork network → octets ≤ 2000
    → p < length network.topology.ports → time_over network octets p ≤ 3616000000
over-le network octets p net few within =
    let lawful = (ports_are_lawful network.topology net.topology).each p no_port within in
    let ps : ℕ = (port_at network.topology.ports p).ps_per_bit in
    let bits : bits_of octets ≤ 16160 = omega (arith, few) in
    let slow : ps * bits_of octets ≤ 100000 * bits_of octets = mul-le-mul_right (bits_of octets) lawful.rate.most in
    omega (arith, slow, bits, lawful.latency)

travel-le : (network : DeclaredNetwork) (port : ℕ) (s : Sender) → IsNetwork network → IsSender network.topology s
    → travel_to network port s ≤ 231424000000
travel-le network port s net keeps =
    each_in_front Short port (routes_of s.ports s.branches) (omega arith)
    (λ k d h. along (get_or (routes_of s.ports s.branches) k d) (keeps.routes k d h) (ports k d h))
  where
    Short : List ℕ → Type 0
    Short l = sum_by (time_over network s.max_octets) l ≤ 231424000000

    ports : All (All (λ (p : ℕ). p < length network.topology.ports)) (routes_of s.ports s.branches)
    ports = each_on_routes (λ (p : ℕ). p < length network.topology.ports) s.ports s.branches keeps.ports

    along : (route : List ℕ) → IsPath route → All (λ (p : ℕ). p < length network.topology.ports) route
        → Short (before_first (is_port port) route)
    along route path there =
        let place : ℕ = position_or_len (is_port port) route in
        let before : List ℕ = before_first (is_port port) route in
        let short : length before ≤ 64 = omega (arith, path.most, length-take place route) in
        let each : All (λ (p : ℕ). time_over network s.max_octets p ≤ 3616000000) before = λ k d h.
        over-le network s.max_octets (get_or before k d) net keeps.sizes.most
        (All-take (λ (p : ℕ). p < length network.topology.ports) place route there k d h) in
        let sum = sum_by-le (time_over network s.max_octets) 3616000000 before each in
        omega (arith, sum, short)

greatest-le : (network : DeclaredNetwork) (port a : ℕ) (senders : List Sender) → a ≤ 231424000000
    → All (λ (s : Sender). travel_to network port s ≤ 231424000000) senders
    → fold max a (map (travel_to network port) (filter (uses port) senders)) ≤ 231424000000
greatest-le network port a [] start all = start
greatest-le network port a (s ∷ senders) start all =
    let Short : Sender → Type 0 = λ (x : Sender). travel_to network port x ≤ 231424000000 in
    let one : travel_to network port s ≤ 231424000000 = All-head Short s senders all in
    let rest = All-tail Short s senders all in
    let more = greatest-le network port (max a (travel_to network port s)) senders (omega (arith, start, one)) rest in
    by (uses port s) more (greatest-le network port a senders start rest)
  where
    by : (b : Bool)
        → fold max (max a (travel_to network port s)) (map (travel_to network port) (filter (uses port) senders))
        ≤ 231424000000
        → fold max a (map (travel_to network port) (filter (uses port) senders)) ≤ 231424000000
        → fold max a
        (map (travel_to network port) (cond b (s ∷ filter (uses port) senders) (filter (uses port) senders)))
        ≤ 231424000000
    by true with_it without = with_it
    by false with_it without = without

time-le : (network : DeclaredNetwork) (port class : ℕ) (s : Sender) → IsNetwork network
    → time_in_burst network port class s ≤ 231424000001
time-le network port class s net =
    let most = greatest-le network port 0 (senders_of network) (omega arith)
    (λ k d h. travel-le network port (get_or (senders_of network) k d) net (each_is_sender network net k d h)) in
    by (interferes port class s) most
  where
    by : (b : Bool) → greatest_travel network port ≤ 231424000000
        → cond b (1 + greatest_travel network port - travel_to network port s)
        (1 + greatest_travel network port - travel_to network port s - 1) ≤ 231424000001
    by true most = omega (arith, most)
    by false most = omega (arith, most)

each_may_run : (network : DeclaredNetwork) (port class : ℕ) (r : Release) → IsNetwork network
    → r ≡ release_in network port class r.sender → r.sender < length (senders_of network) → IsRelease network r
each_may_run network port class r net is own =
    let s : Sender = sender_at network r.sender in
    let keeps = sender_keeps network r.sender net own in
    let at = ap (λ (x : Release). x.at.0) is in
    let longest = ap (λ (x : Release). x.octets) is in
    record {
      time = omega (arith, at, time-le network port class s net);
      sender = own;
      octets = record {
        least = omega (arith, longest, keeps.sizes.least, keeps.sizes.ordered);
        most = omega (arith, longest, keeps.sizes.most);
      };
    }

-- so it may be run
pub burst_may_run : (network : DeclaredNetwork) (port class : ℕ) (made releases : List Release) → IsNetwork network
    → 1 ≤ class → made ≡ by_sender network port class (length (senders_of network)) → AreReordered made releases
    → IsBurst network port class releases → AreReleases network releases
burst_may_run network port class made releases net some is order burst = record {
  few = (let same = ap (λ (l : List Release). length l) is in
      omega (arith, few_frames network port class net some, same, length_permutation made releases order.same));
  in_order = burst_times network port class releases burst;
  each = λ k d h. each_may_run network port class (get_or releases k d) net
      (own_release network port class releases burst.of_each k d h)
      (own_sender network port class releases burst.of_each k d h);
}

-- a stream's class at one of its ports is not 0
pub port_class : (network : DeclaredNetwork) (stream port : ℕ) → IsNetwork network → stream < length network.streams
    → uses port (sender_at network stream) ≡ true → 1 ≤ class_at (sender_at network stream) port
port_class network stream port net h on =
    let is : sender_at network stream ≡ stream_sender (get_or network.streams stream no_stream) =
    stream_at network stream h in
    let class = class_at-stream (get_or network.streams stream no_stream) port (net.streams stream no_stream h)
    (subst (λ (x : Sender). uses port x ≡ true) is on) in
    let same = ap (λ (x : Sender). class_at x port) is in
    omega (arith, class.least, same)
