use Rattle.std.proofs.Common.{◌≡◌, sym, ap, subst, ◌∙◌}
use Rattle.ats_topology.specs.Topology.{DeclaredTopology}
use Rattle.ats_network.specs.Network.{DeclaredNetwork}
use Rattle.ats_requests.specs.declared.answer.Answer.{Answer}
use Rattle.ats_admission_text.specs.Inside.{AnswerInside}
use Rattle.ats_admission_text.proofs.Inside.{answer_inside}
use Rattle.ats_admission_text.proofs.Steps.{after_most_ports, after_topology, on_ok}
use Rattle.ats_admission_text.proofs.printing.ask_one.Goals as goal

pub write_answer-requires : goal.write_answer-requires
write_answer-requires c =
    let network : DeclaredNetwork = c.args.session.now in
    let same : c.topology.result.now ≡ network.topology =
    c.topology.ensures.value ∙ ap (λ (n : DeclaredNetwork). n.topology) c.network.ensures.value
    ∙ after_topology network c.ask.new.self c.args.request c.network-before.ensures.certified c.requires
    c.in-Ok.ensures.after in
    subst (λ (t : DeclaredTopology). AnswerInside t c.in-Ok.answer) (sym same)
    (subst (λ (a : Answer). AnswerInside network.topology a) (sym c.in-Ok.ensures.answer)
    (answer_inside network c.args.request c.network-before.ensures.certified c.requires))

pub returns-in-Ok-clause-topology : goal.returns-in-Ok-clause-topology
returns-in-Ok-clause-topology c =
    on_ok c.write_answer.result (c.ask.new.self.topology ≡ c.args.session.now.topology)
    (after_topology c.args.session.now c.ask.new.self c.args.request c.network-before.ensures.certified c.requires
    c.in-Ok.ensures.after)

pub returns-in-Ok-clause-most_ports : goal.returns-in-Ok-clause-most_ports
returns-in-Ok-clause-most_ports c =
    on_ok c.write_answer.result (c.ask.new.self.most_ports ≡ c.args.session.now.most_ports)
    (after_most_ports c.args.session.now c.ask.new.self c.args.request c.network-before.ensures.certified c.requires
    c.in-Ok.ensures.after)
