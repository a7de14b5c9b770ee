use Rattle.std.proofs.Common.{get_or, sym, ap, ◌∙◌}
use Rattle.ats_network.specs.Sender.{Sender}
use Rattle.ats_network.specs.Senders.{sender_at}
use Rattle.ats_network.proofs.ClassLemmas.{class_is_by_hop}
use Rattle.ats_network.proofs.network.Network.sender_class.Goals as goal

pub returns-clause-port : goal.returns-clause-port
returns-clause-port c =
    let it : Sender = sender_at c.args.self.now c.args.sender in
    c.class_at_place.ensures
    ∙ ap (λ (s : Sender). get_or s.classes c.args.place 0) c.sender.ensures.value
    ∙ sym (class_is_by_hop c.args.self.now.topology it c.args.place c.sender.ensures.sender c.requires.1)
