-- The frames of a burst have together no more ports than those of a run may have: of each stream there are at most 40,
-- and of each flow one.
use Rattle.std.proofs.Common.{◌≡◌, ℕ, zero, suc, ◌+◌, ◌*◌, ◌≤◌, List, get_or, map, length, length-append}
use Rattle.std.proofs.Common.{take, ap, ◌∙◌, arith}
use Rattle.std.proofs.Math.Nat.{mul-le-mul_right}
use Rattle.std.proofs.lemmas.Bool.{lt-leb}
use Rattle.std.proofs.lemmas.List.{length-map, take_all}
use Rattle.std.proofs.lemmas.List.Folds.{sum_by-replicate}
use Rattle.std.proofs.lemmas.List.Sorted.{sum_by-IsPermutation}
use Rattle.std.proofs.lemmas.List.Sums.{sum_by-append, sum_by_more}
use Rattle.ats_streams.specs.Stream.{DeclaredStream}
use Rattle.ats_network.specs.Sender.{Sender, flow_sender, stream_sender}
use Rattle.ats_network.specs.Class.{class_at}
use Rattle.ats_network.specs.Edits.{no_stream}
use Rattle.ats_network.specs.Network.{DeclaredNetwork, IsNetwork, ports_together, senders_of}
use Rattle.ats_network.specs.Senders.{sender_at}
use Rattle.ats_network.proofs.SenderLemmas.{flow_class, no_flow}
use Rattle.ats_trace.specs.Releases.{HaveFewPorts, ports_of_frames}
use Rattle.ats_trace.specs.declared.journey.Release.{Release}
use Rattle.ats_witness.specs.Burst.{burst_of, frames_in_burst}
use Rattle.ats_witness.specs.Made.{AreReordered, by_sender}
use Rattle.ats_witness.proofs.BurstLemmas.{by_sender_more, release_in}
use Rattle.ats_witness.proofs.SizeLemmas.{frames-le, one_frame}
use Rattle.ats_witness.proofs.StreamLemmas.{flow_at, stream_at}

-- how many ports a sender has
abbrev ports_at : DeclaredNetwork → ℕ → ℕ
ports_at network i = length (sender_at network i).ports

-- the ports of the frames of one sender more
ports_more : (network : DeclaredNetwork) (port class n : ℕ)
    → ports_of_frames network (by_sender network port class (n + 1))
    ≡ ports_of_frames network (by_sender network port class n)
    + frames_in_burst port class (sender_at network n) * ports_at network n
ports_more network port class n =
    let ports : Release → ℕ = λ (r : Release). length (sender_at network r.sender).ports in
    let so_far : List Release = by_sender network port class n in
    ap (ports_of_frames network) (by_sender_more network port class n)
    ∙ sum_by-append ports so_far (burst_of network port class n)
    ∙ ap (λ (k : ℕ). ports_of_frames network so_far + k)
    (sum_by-replicate ports (frames_in_burst port class (sender_at network n)) (release_in network port class n))

-- of the first streams
stream_ports-le : (network : DeclaredNetwork) (port class n : ℕ) → n ≤ length network.streams
    → ports_of_frames network (by_sender network port class n) ≤ 40 * ports_together (take n network.streams)
stream_ports-le network port class zero within = omega arith
stream_ports-le network port class (suc n) within =
    let next : suc n ≡ n + 1 = omega arith in
    let count : DeclaredStream → ℕ = λ (s : DeclaredStream). length s.ports in
    let before = stream_ports-le network port class n (omega (arith, within)) in
    let here = ap (λ (k : ℕ). ports_of_frames network (by_sender network port class k)) next in
    let more = ports_more network port class n in
    let frames : frames_in_burst port class (sender_at network n) * ports_at network n ≤ 40 * ports_at network n =
    mul-le-mul_right (ports_at network n) (frames-le port class (sender_at network n)) in
    let own : ports_at network n ≡ length (get_or network.streams n no_stream).ports =
    ap (λ (s : Sender). length s.ports) (stream_at network n (omega (arith, within))) in
    let all : ports_together (take (suc n) network.streams)
    ≡ ports_together (take n network.streams) + length (get_or network.streams n no_stream).ports =
    ap (λ (k : ℕ). ports_together (take k network.streams)) next
    ∙ sum_by_more count network.streams n no_stream (omega (arith, within)) in
    omega (arith, before, here, more, frames, own, all)

-- and of the flows behind the streams
flow_ports-le : (network : DeclaredNetwork) (port class k : ℕ) → IsNetwork network → 1 ≤ class
    → k ≤ length network.flows → length (senders_of network) ≡ length network.streams + length network.flows
    → ports_of_frames network (by_sender network port class (length network.streams + k))
    ≤ 40 * ports_together network.streams + 64 * k
flow_ports-le network port class zero net some within many =
    let none : length network.streams + 0 ≡ length network.streams = omega arith in
    let first = stream_ports-le network port class (length network.streams) (omega arith) in
    let here = ap (λ (n : ℕ). ports_of_frames network (by_sender network port class n)) none in
    let all = ap ports_together (take_all (length network.streams) network.streams (omega arith)) in
    omega (arith, first, here, all)
flow_ports-le network port class (suc k) net some within many =
    let n : ℕ = length network.streams + k in
    let next : length network.streams + suc k ≡ n + 1 = omega arith in
    let before = flow_ports-le network port class k net some (omega (arith, within)) many in
    let here = ap (λ (m : ℕ). ports_of_frames network (by_sender network port class m)) next in
    let more = ports_more network port class n in
    let none : class_at (sender_at network n) port ≡ 0 =
    flow_class network n port (omega arith) (omega (arith, within, many)) in
    let one = one_frame port class (sender_at network n)
    (lt-leb class (class_at (sender_at network n) port) (omega (arith, none, some))) in
    let frames : frames_in_burst port class (sender_at network n) * ports_at network n ≤ 1 * ports_at network n =
    mul-le-mul_right (ports_at network n) one in
    let own : ports_at network n ≡ length (get_or network.flows k no_flow).path =
    ap (λ (s : Sender). length s.ports) (flow_at network k (omega (arith, within))) in
    let short = (net.flows k no_flow (omega (arith, within))).path.most in
    omega (arith, before, here, more, frames, own, short)

-- so the burst has few ports
pub burst_has_few_ports : (network : DeclaredNetwork) (port class : ℕ) (made releases : List Release)
    → IsNetwork network → 1 ≤ class → made ≡ by_sender network port class (length (senders_of network))
    → AreReordered made releases → HaveFewPorts network releases
burst_has_few_ports network port class made releases net some is order =
    let streams : List Sender = map stream_sender network.streams in
    let flows : List Sender = map flow_sender network.flows in
    let many : length (senders_of network) ≡ length network.streams + length network.flows =
    length-append streams flows ∙ ap (λ (k : ℕ). k + length flows) (length-map network.streams stream_sender)
    ∙ ap (λ (k : ℕ). length network.streams + k) (length-map network.flows flow_sender) in
    let all = flow_ports-le network port class (length network.flows) net some (omega arith) many in
    let same = sum_by-IsPermutation (λ (r : Release). length (sender_at network r.sender).ports) made releases
    order.same in
    let made_is = ap (ports_of_frames network) is in
    let by_all = ap (λ (n : ℕ). ports_of_frames network (by_sender network port class n)) many in
    omega (arith, all, same, made_is, by_all, net.few_ports, net.few_flows)
