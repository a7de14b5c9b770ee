use Rattle.std.specs.Option.{option_to_list}
use Rattle.ats_engine.proofs.Joining.{enters-both, may-enter-earlier, may-enter-later}
use Rattle.ats_engine.proofs.entering.enter_both.Goals as goal

pub enter-requires : goal.enter-requires
enter-requires g c = may-enter-later (option_to_list c.args.one) c.requires

pub enter-requires-2 : goal.enter-requires-2
enter-requires-2 g c = may-enter-earlier c.requires c.enter.ensures

pub returns : goal.returns
returns g c = enters-both c.enter.ensures c.enter-2.ensures
