use Rattle.std.proofs.Common.{◌∙◌, ap}
use Rattle.ats_run_records.specs.Progress.{finished}
use Rattle.ats_run_records.proofs.Closing.{rows-laid, run-of}
use Rattle.ats_run_records.proofs.whole.Whole.finish.Goals as goal

pub new-requires : goal.new-requires
new-requires c = rows-laid _ _ _ _ _ c.self.invariant

pub returns : goal.returns
returns c =
    c.new.ensures ∙ run-of _ _ _ _ _ c.self.invariant.laid ∙ ap finished c.self.view_is
