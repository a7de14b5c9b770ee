use Rattle.std.proofs.Common.{ℕ, get_or, ap, ◌∙◌, arith}
use Rattle.std.proofs.lemmas.List.{get_or_default}
use Rattle.ats_run_records.specs.Brief.{no_release}
use Rattle.ats_run_records.proofs.Briefs.{frame-is, frame-within, length-legs, release-is}
use Rattle.ats_run_records.proofs.brief.BriefStore.release.Goals as goal

pub index-requires : goal.index-requires
index-requires c =
    omega (
      arith,
      c.frame.ensures,
      frame-is c.self.invariant c.self.view_is c.requires,
      frame-within {row = c.args.row} c.self.invariant
          (omega (arith, c.requires, length-legs c.self.invariant c.self.view_is)),
    )

pub returns : goal.returns
returns c =
    c.index.ensures
    ∙ get_or_default c.self.inside.releases.items c.frame.result c.index.result.now no_release
    (omega (
      arith,
      c.frame.ensures,
      frame-is c.self.invariant c.self.view_is c.requires,
      frame-within {row = c.args.row} c.self.invariant
          (omega (arith, c.requires, length-legs c.self.invariant c.self.view_is)),
    ))
    ∙ ap (λ (frame : ℕ). get_or c.self.inside.releases.items frame no_release) c.frame.ensures
    ∙ release-is c.self.invariant c.self.view_is c.requires
