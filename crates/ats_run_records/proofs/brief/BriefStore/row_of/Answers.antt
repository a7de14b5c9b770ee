use Rattle.std.proofs.Common.{◌≡◌, ◌∙◌, ℕ, List, ap, arith}
use Rattle.ats_trace.specs.Stored.{row_of}
use Rattle.ats_run_records.specs.Progress.{Ledger}
use Rattle.ats_run_records.proofs.Briefs.{length-legs}
use Rattle.ats_run_records.proofs.brief.BriefStore.row_of.Goals as goal

pub overflow_cast-result : goal.overflow_cast-result
overflow_cast-result c =
    let same : row_of c.deref.result.now c.args.frame c.args.leg
    ≡ row_of c.args.self.now.firsts c.args.frame c.args.leg =
    ap (λ (firsts : List ℕ). row_of firsts c.args.frame c.args.leg)
    (c.deref.ensures.value ∙ ap (λ (l : Ledger). l.firsts) c.self.view_is) in
    omega (
      arith,
      c.row_of.ensures,
      same,
      c.requires.there,
      length-legs c.self.invariant c.self.view_is,
      c.self.invariant.few_legs,
    )
