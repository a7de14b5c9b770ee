use Rattle.std.proofs.Common.{◌∙◌, ℕ, ◌+◌, ap, arith, get_or}
use Rattle.ats_network.specs.Class.{class_at}
use Rattle.ats_network.specs.Senders.{sender_at}
use Rattle.ats_tally.proofs.Network.{few_ports}
use Rattle.ats_buffer.proofs.LegHops.{leg_hop}
use Rattle.ats_buffer.proofs.legs.class_of.Goals as goal

pub overflow_add-first_place : goal.overflow_add-first_place
overflow_add-first_place c =
    let at = leg_hop c.args.network.now c.args.sender c.args.leg c.args.hop c.topology-topology.ensures.rules
    c.requires.sender c.requires.leg c.requires.hop in
    let few = few_ports c.args.network.now c.args.sender c.topology-topology.ensures.rules c.requires.sender in
    omega (arith, at.within, few)

pub sender_class-requires : goal.sender_class-requires
sender_class-requires c =
    let at = leg_hop c.args.network.now c.args.sender c.args.leg c.args.hop c.topology-topology.ensures.rules
    c.requires.sender c.requires.leg c.requires.hop in
    (c.requires.sender, omega (arith, at.within))

pub returns : goal.returns
returns c =
    let s = sender_at c.args.network.now c.args.sender in
    let at = leg_hop c.args.network.now c.args.sender c.args.leg c.args.hop c.topology-topology.ensures.rules
    c.requires.sender c.requires.leg c.requires.hop in
    c.sender_class.ensures.port
    ∙ ap (λ (first : ℕ). class_at s (get_or s.ports (first + c.args.hop) 0)) c.first_place.ensures
    ∙ ap (class_at s) at.is
