use Rattle.std.proofs.Common.{◌≡◌, ◌++◌, drop}
use Rattle.ats_shape.specs.Text.{frames_text}
use Rattle.ats_shape.proofs.printing.write_frames.Given as goal

-- the text so far and that of the frames left are the text of all
abbrev pub invariant-loop-n : goal.invariant-loop-n
invariant-loop-n l =
    l.out.items ++ frames_text l.streams l.n (drop l.n l.frames) (drop l.n l.verdicts)
    ≡ l.initial.out.items ++ frames_text l.streams 0 l.frames l.verdicts
