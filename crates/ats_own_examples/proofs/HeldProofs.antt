use Rattle.std.proofs.Common.{refl, lit<}
use Rattle.ats_own_examples.specs.Buffers.{BuffersAreWorked, OccupanciesAreWorked, OwnFramesAreHeld}

-- Buffers and occupancies by computation.

buffers : BuffersAreWorked
buffers = record { of_own = refl; of_bridge = refl; of_behind = refl; of_local = refl }

occupancies : OccupanciesAreWorked
occupancies = record {
  released = refl;
  last = refl;
  ended = refl;
  ending = refl;
  not_behind = refl;
  beside = refl;
  together = refl;
  over = lit< tt;
  behind_them = refl;
  first_copy = refl;
  second_copy = refl;
  third_copy = refl;
  not_yet = refl;
  come = refl;
  copied_behind = refl;
  copied_once = refl;
  local_ending = refl;
  local_own = refl;
  local_flow = refl;
  local_going_on = refl;
}

pub own_frames_are_held : OwnFramesAreHeld
own_frames_are_held = record { buffers = buffers; occupancies = occupancies }
