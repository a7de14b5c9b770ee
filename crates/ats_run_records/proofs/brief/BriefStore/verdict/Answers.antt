use Rattle.std.proofs.Common.{ap, sym, ◌∙◌, arith}
use Rattle.ats_run_records.specs.Progress.{Progress, last_hop}
use Rattle.ats_run_records.proofs.Briefs.{length-legs, progress-is}
use Rattle.ats_run_records.proofs.brief.BriefStore.verdict.Goals as goal

pub index-requires : goal.index-requires
index-requires c = omega (arith, c.requires.row, length-legs c.self.invariant c.self.view_is)

pub returns : goal.returns
returns c =
    c.verdict.ensures
    ∙ sym (ap (λ (p : Progress). (last_hop p).verdict)
    (progress-is c.self.invariant c.self.view_is c.requires.row c.index.ensures))
