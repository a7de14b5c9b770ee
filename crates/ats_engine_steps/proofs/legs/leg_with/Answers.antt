use Rattle.std.proofs.Common.{ap, arith, length, subst, sym}
use Rattle.std.specs.Prelude.{Contains}
use Rattle.ats_streams.specs.Branches.{leg_at, legs_of}
use Rattle.ats_network.specs.Sender.{Sender}
use Rattle.ats_engine_steps.proofs.LegLemmas.{few_ports_of}
use Rattle.ats_engine_steps.proofs.legs.leg_with.Goals as goal

pub leg_of-requires-clause-passes : goal.leg_of-requires-clause-passes
leg_of-requires-clause-passes c =
    subst (λ (s : Sender). Contains s.ports c.args.port) (sym c.in-Stream.ensures.value) c.requires.passes

pub leg_of-requires-clause-few : goal.leg_of-requires-clause-few
leg_of-requires-clause-few c =
    let few = few_ports_of c.args.net.now c.args.sender c.sender.ensures.rules c.requires.sender in
    omega (arith, few, ap (λ (s : Sender). length s.ports) c.in-Stream.ensures.value)

pub returns-in-Stream-clause-has : goal.returns-in-Stream-clause-has
returns-in-Stream-clause-has c =
    subst (λ (s : Sender). Contains (leg_at (legs_of s.ports s.branches) c.leg_of.result) c.args.port)
    c.in-Stream.ensures.value c.leg_of.ensures.has
