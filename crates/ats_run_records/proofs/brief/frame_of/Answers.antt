use Rattle.std.proofs.Common.{sym, arith}
use Rattle.ats_run_records.proofs.Briefs.{frame-of-copy, frame-of-trunk, length-frames}
use Rattle.ats_run_records.proofs.brief.frame_of.Goals as goal

pub returns-then-row-frames : goal.returns-then-row-frames
returns-then-row-frames c =
    sym (frame-of-trunk c.args.frames c.args.copies.now c.args.row (omega (arith, c.if-row-frames.true)))

pub bounds-copies-row : goal.bounds-copies-row
bounds-copies-row c =
    omega (arith, c.requires, c.if-row-frames.false, length-frames c.args.frames c.args.copies.now)

pub returns : goal.returns
returns c =
    sym (frame-of-copy c.args.frames c.args.copies.now c.args.row (omega (arith, c.if-row-frames.false)))
