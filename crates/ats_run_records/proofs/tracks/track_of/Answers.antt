use Rattle.std.proofs.Common.{List, ℕ, length, ap, arith}
use Rattle.ats_run_records.proofs.Counts.{frame-counted}
use Rattle.ats_run_records.proofs.tracks.track_of.Goals as goal

pub overflow_cast-leg : goal.overflow_cast-leg
overflow_cast-leg c =
    let counted = frame-counted c.args.net.now c.args.release.now c.sender_leg-room.ensures.rules c.requires.sender in
    omega (arith, c.requires.leg, counted.few)

pub overflow_cast-room : goal.overflow_cast-room
overflow_cast-room c =
    let counted = frame-counted c.args.net.now c.args.release.now c.sender_leg-room.ensures.rules c.requires.sender in
    omega (
      arith,
      counted.most c.args.leg c.requires.leg,
      ap (λ (ports : List ℕ). length ports) c.sender_leg-room.ensures.value,
    )
