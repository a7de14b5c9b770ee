use Rattle.std.proofs.Common.{sym}
use Rattle.ats_network.proofs.ClassLemmas.{no_classes}
use Rattle.ats_network.proofs.sender.Sender.class_at_place.Goals as goal

pub returns-in-Flow : goal.returns-in-Flow
returns-in-Flow c = rw c.in-Flow.is (sym (no_classes c.in-Flow.field-0.now.path c.args.place))
