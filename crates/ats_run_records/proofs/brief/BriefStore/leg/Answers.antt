use Rattle.std.proofs.Common.{ap, sym, ◌∙◌, arith}
use Rattle.ats_run_records.specs.Progress.{Progress}
use Rattle.ats_run_records.proofs.Briefs.{length-legs, progress-is}
use Rattle.ats_run_records.proofs.brief.BriefStore.leg.Goals as goal

pub index-requires : goal.index-requires
index-requires c = omega (arith, c.requires, length-legs c.self.invariant c.self.view_is)

pub returns : goal.returns
returns c =
    c.leg.ensures
    ∙ sym (ap (λ (p : Progress). p.leg) (progress-is c.self.invariant c.self.view_is c.requires c.index.ensures))
