use Rattle.std.proofs.Common.{◌≡◌, ℕ, ◌≤◌, ◌^◌, List, ap, ◌∙◌, length, length-append, map, arith}
use Rattle.std.proofs.lemmas.List.{length-map}
use Rattle.std.proofs.lemmas.Result.{IfOk-weaker}
use Rattle.ats_network.specs.Sender.{Sender, flow_sender, stream_sender}
use Rattle.ats_network.specs.Class.{class_at}
use Rattle.ats_network.specs.Network.{DeclaredNetwork, IsNetwork, senders_of}
use Rattle.ats_network.specs.Senders.{sender_at}
use Rattle.ats_trace.specs.declared.journey.Release.{Release}
use Rattle.ats_witness.specs.Made.{by_sender}
use Rattle.ats_witness.proofs.BurstLemmas.{made_is_burst}
use Rattle.ats_witness.proofs.FewPortLemmas.{burst_has_few_ports}
use Rattle.ats_witness.proofs.KeptLemmas.{burst_keeps}
use Rattle.ats_witness.proofs.SizeLemmas.{burst_may_run, port_class}
use Rattle.ats_witness.proofs.burst.releases.Goals as goal

few_senders : (network : DeclaredNetwork) → IsNetwork network → length (senders_of network) ≤ 2 ^ 32
few_senders network net =
    let streams : List Sender = map stream_sender network.streams in
    let flows : List Sender = map flow_sender network.flows in
    omega (
      arith,
      length-append streams flows,
      length-map network.streams stream_sender,
      length-map network.flows flow_sender,
      net.few_streams,
      net.few_flows,
    )

-- what was made is made for the stream's class at the port
made_is : (network : DeclaredNetwork) (stream port class : ℕ) (made : List Release)
    → class ≡ class_at (sender_at network stream) port
    → made ≡ by_sender network port class (length (senders_of network))
    → made ≡ by_sender network port (class_at (sender_at network stream) port) (length (senders_of network))
made_is network stream port class made class_is is =
    is ∙ ap (λ (k : ℕ). by_sender network port k (length (senders_of network))) class_is

pub returns-clause-burst : goal.returns-clause-burst
returns-clause-burst c =
    let network : DeclaredNetwork = c.args.network.now in
    let class : ℕ = class_at (sender_at network c.args.stream) c.args.port in
    let is = made_is network c.args.stream c.args.port c.class_at-class.result c.in_ok-by_sender.field-0.items
    c.class_at-class.ensures.class c.in_ok-by_sender.ensures in
    IfOk-weaker c.in_order.result _ _
    (λ releases order. made_is_burst network c.args.port class c.in_ok-by_sender.field-0.items releases.items
    (few_senders network c.class_at-class.ensures.rules) is order)
    c.in_order.ensures

pub returns-clause-releases : goal.returns-clause-releases
returns-clause-releases c =
    let network : DeclaredNetwork = c.args.network.now in
    let class : ℕ = class_at (sender_at network c.args.stream) c.args.port in
    let rules : IsNetwork network = c.class_at-class.ensures.rules in
    let is = made_is network c.args.stream c.args.port c.class_at-class.result c.in_ok-by_sender.field-0.items
    c.class_at-class.ensures.class c.in_ok-by_sender.ensures in
    IfOk-weaker c.in_order.result _ _
    (λ releases order. burst_may_run network c.args.port class c.in_ok-by_sender.field-0.items releases.items rules
    (port_class network c.args.stream c.args.port rules c.requires.stream c.requires.port) is order
    (made_is_burst network c.args.port class c.in_ok-by_sender.field-0.items releases.items (few_senders network rules)
    is order))
    c.in_order.ensures

pub returns-clause-few_ports : goal.returns-clause-few_ports
returns-clause-few_ports c =
    let network : DeclaredNetwork = c.args.network.now in
    let class : ℕ = class_at (sender_at network c.args.stream) c.args.port in
    let rules : IsNetwork network = c.class_at-class.ensures.rules in
    let is = made_is network c.args.stream c.args.port c.class_at-class.result c.in_ok-by_sender.field-0.items
    c.class_at-class.ensures.class c.in_ok-by_sender.ensures in
    IfOk-weaker c.in_order.result _ _
    (λ releases order. burst_has_few_ports network c.args.port class c.in_ok-by_sender.field-0.items releases.items
    rules (port_class network c.args.stream c.args.port rules c.requires.stream c.requires.port) is order)
    c.in_order.ensures

pub returns-clause-keeps : goal.returns-clause-keeps
returns-clause-keeps c =
    let network : DeclaredNetwork = c.args.network.now in
    let class : ℕ = class_at (sender_at network c.args.stream) c.args.port in
    let rules : IsNetwork network = c.class_at-class.ensures.rules in
    let is = made_is network c.args.stream c.args.port c.class_at-class.result c.in_ok-by_sender.field-0.items
    c.class_at-class.ensures.class c.in_ok-by_sender.ensures in
    IfOk-weaker c.in_order.result _ _
    (λ releases order station. burst_keeps network c.args.port class releases.items rules
    (made_is_burst network c.args.port class c.in_ok-by_sender.field-0.items releases.items (few_senders network rules)
    is order) station)
    c.in_order.ensures
