use Rattle.std.proofs.Common.{◌≡◌, ℕ, List, length, get_or, ap, ◌∙◌, arith}
use Rattle.ats_run_records.specs.Brief.{frames_of}
use Rattle.ats_run_records.proofs.Briefs.{frame-is, length-frames, length-legs}
use Rattle.ats_run_records.proofs.brief.BriefStore.frame.Goals as goal

pub frame_of-requires : goal.frame_of-requires
frame_of-requires c =
    omega (
      arith,
      c.requires,
      length-legs c.self.invariant c.self.view_is,
      c.self.invariant.framed,
      c.len.ensures,
      ap (λ (copies : List ℕ). length copies) c.deref.ensures.value,
      length-frames c.len.result c.deref.result.now,
    )

pub returns : goal.returns
returns c =
    let many : c.len.result ≡ length c.self.inside.releases.items = omega (arith, c.len.ensures) in
    c.frame_of.ensures
    ∙ ap (λ (frames : ℕ). get_or (frames_of frames c.deref.result.now) c.args.row 0) many
    ∙ ap (λ (copies : List ℕ). get_or (frames_of (length c.self.inside.releases.items) copies) c.args.row 0)
    c.deref.ensures.value
    ∙ frame-is c.self.invariant c.self.view_is c.requires
