use Rattle.std.proofs.Common.{◌≡◌, ℕ, List, get_or, length, ap, ◌∙◌, arith, subst, sym}
use Rattle.ats_topology.specs.Port.{port_at}
use Rattle.ats_topology.specs.Topology.{DeclaredTopology}
use Rattle.ats_topology.specs.declared.port.Port.{Port}
use Rattle.ats_network.specs.Network.{IsNetwork}
use Rattle.ats_network.specs.Rates.{IsRated}
use Rattle.ats_network.specs.Sender.{Sender}
use Rattle.ats_network.specs.Senders.{sender_at}
use Rattle.ats_settings.proofs.Behind.{rated_at}
use Rattle.ats_settings.specs.Settings.{port_at_place}
use Rattle.ats_settings.proofs.BeforeLemmas.{port_below}
use Rattle.ats_settings.proofs.Places.{setting_made}
use Rattle.ats_settings.proofs.listing.setting.Goals as goal

pub bounds-ports-received_from : goal.bounds-ports-received_from
bounds-ports-received_from c = omega (
  arith,
  port_below c.args.network.now c.args.sender c.args.before c.sender_ports-ports.ensures.rules
      c.requires.sender c.requires.before,
  ap (λ (l : List ℕ). get_or l c.args.before 0) c.sender_ports-ports.ensures.value,
  ap (λ (l : List Port). length l) c.ports.ensures.value,
  ap (λ (t : DeclaredTopology). length t.ports) c.topology.ensures.value,
)

pub scheduler-requires-clause-port : goal.scheduler-requires-clause-port
scheduler-requires-clause-port c = omega (
  arith,
  port_below c.args.network.now c.args.sender c.args.before c.sender_ports-ports.ensures.rules
      c.requires.sender c.requires.before,
  ap (λ (l : List ℕ). get_or l c.args.before 0) c.sender_ports-ports.ensures.value,
)

pub scheduler-requires-clause-rated : goal.scheduler-requires-clause-rated
scheduler-requires-clause-rated c = λ stream. (
    let rules : IsNetwork c.args.network.now = c.sender_ports-ports.ensures.rules in
    let same : get_or c.sender_ports-ports.result.now c.args.before 0
    ≡ port_at_place c.args.network.now c.args.sender c.args.before =
    ap (λ (l : List ℕ). get_or l c.args.before 0) c.sender_ports-ports.ensures.value in
    subst (IsRated c.args.network.now.topology (sender_at c.args.network.now c.args.sender)) (sym same)
    (rated_at c.args.network.now c.args.sender c.args.before rules stream c.requires.before))

pub returns : goal.returns
returns c =
    let path : List ℕ = c.sender_ports-ports.result.now in
    let before : ℕ = c.args.before in
    let received_from : ℕ = get_or path before 0 in
    let same : received_from ≡ port_at_place c.args.network.now c.args.sender before =
    ap (λ (l : List ℕ). get_or l before 0) c.sender_ports-ports.ensures.value in
    setting_made c.args.network.now c.args.sender c.args.place before
    (record { within = c.requires.before; is = c.requires.behind })
    _ received_from c.sender_class.result c.max_octets.result (get_or path c.args.place 0) c.sender_class-2.result
    c.scheduler.result same
    (ap (λ (l : List Port). (port_at l received_from).to)
    (c.ports.ensures.value ∙ ap (λ (t : DeclaredTopology). t.ports) c.topology.ensures.value))
    c.sender_class.ensures.port c.scheduler.ensures
    (c.max_octets.ensures ∙ ap (λ (s : Sender). s.max_octets) c.sender.ensures.value)
    (ap (λ (l : List ℕ). get_or l c.args.place 0) c.sender_ports-ports.ensures.value)
    c.sender_class-2.ensures.port
