use Rattle.std.proofs.Common.{◌∙◌, ℕ, ◌+◌, ap, arith, get_or}
use Rattle.ats_network.specs.Class.{class_at}
use Rattle.ats_network.specs.Senders.{sender_at}
use Rattle.ats_engine_steps.proofs.LegLemmas.{few_ports_of, sender_leg}
use Rattle.ats_engine_steps.proofs.legs.class_of.Goals as goal

pub overflow_add-first_place : goal.overflow_add-first_place
overflow_add-first_place c =
    let leg = sender_leg c.args.net.now c.args.sender c.args.leg c.topology-rules.ensures.rules c.requires.sender
    c.requires.leg in
    let few = few_ports_of c.args.net.now c.args.sender c.topology-rules.ensures.rules c.requires.sender in
    omega (arith, leg.within, few)

pub sender_class-requires : goal.sender_class-requires
sender_class-requires c =
    let leg = sender_leg c.args.net.now c.args.sender c.args.leg c.topology-rules.ensures.rules c.requires.sender
    c.requires.leg in
    (c.requires.sender, omega (arith, leg.within))

pub returns : goal.returns
returns c =
    let s = sender_at c.args.net.now c.args.sender in
    let leg = sender_leg c.args.net.now c.args.sender c.args.leg c.topology-rules.ensures.rules c.requires.sender
    c.requires.leg in
    c.sender_class.ensures.port
    ∙ ap (λ (first : ℕ). class_at s (get_or s.ports (first + c.args.hop) 0)) c.first_place.ensures
    ∙ ap (class_at s) (leg.port c.args.hop c.requires.hop)
