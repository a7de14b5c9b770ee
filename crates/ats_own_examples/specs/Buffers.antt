use Rattle.std.specs.Prelude.{◌≡◌, ◌<◌, [], ◌∷◌}
use Rattle.ats_buffer.specs.Buffer.{buffer_at, buffers_of}
use Rattle.ats_buffer.specs.Occupancy.{occupancy}
use Rattle.ats_examples.specs.OwnFrames.{own, own_babbler, own_frames, own_rows}
use Rattle.ats_tree_examples.specs.Networks.{behind_bridge, from_bridge}
use Rattle.ats_tree_examples.specs.Runs.{copies_behind, own_copies}
use Rattle.ats_own_examples.specs.Networks.{behind_rows, bridge_rows, local, local_rows}
use Rattle.ats_own_examples.specs.Runs.{local_frames}

-- What ports hold of frames that begin or end at bridges.

-- the buffers of rows, in their order: a frame that a bridge sends comes to the bridge's port by no port before, and
-- those that go on come by one, whose wait counts
pub record BuffersAreWorked : Type 0 where
  pub of_own : buffers_of own own_rows ≡ 13649 ∷ 802 ∷ 14895 ∷ 802 ∷ []
  pub of_bridge : buffers_of from_bridge bridge_rows ≡ 13569 ∷ 13569 ∷ 14736 ∷ 13569 ∷ []
  pub of_behind : buffers_of behind_bridge behind_rows ≡ 14736 ∷ 13569 ∷ 13569 ∷ 14736 ∷ []
  pub of_local : buffers_of local local_rows ≡ 13929 ∷ 880 ∷ 880 ∷ 15456 ∷ 880 ∷ 880 ∷ []

-- the bridge's frame is at its port from its release to the end of its transmission, and one that ends there is at the
-- port before, and nowhere behind it. Three at once are there together, and more than their buffer. Copies that the
-- bridge sends by its ports are at each at once, and one that is copied behind it when it comes there. Beside a frame
-- that goes first one of a flow waits
pub record OccupanciesAreWorked : Type 0 where
  pub released : occupancy own own_frames 2 7 0 ≡ 672
  pub last : occupancy own own_frames 2 7 671999 ≡ 672
  pub ended : occupancy own own_frames 2 7 672000 ≡ 0
  pub ending : occupancy own own_frames 0 7 0 ≡ 672
  pub not_behind : occupancy own own_frames 2 7 2172000 ≡ 0
  pub beside : occupancy own own_frames 0 6 0 ≡ 12336
  pub together : occupancy own own_babbler 2 7 13836000 ≡ 2016
  pub over : buffer_at own own_rows 2 7 < 2016
  pub behind_them : occupancy own own_babbler 2 6 13836000 ≡ 12336
  pub first_copy : occupancy from_bridge own_copies 4 6 0 ≡ 12336
  pub second_copy : occupancy from_bridge own_copies 3 6 0 ≡ 12336
  pub third_copy : occupancy from_bridge own_copies 8 6 0 ≡ 12336
  pub not_yet : occupancy from_bridge own_copies 6 6 0 ≡ 0
  pub come : occupancy from_bridge own_copies 6 6 13836000 ≡ 12336
  pub copied_behind : occupancy behind_bridge copies_behind 1 6 13836000 ≡ 12336
  pub copied_once : occupancy behind_bridge copies_behind 3 6 0 ≡ 12336
  pub local_ending : occupancy local local_frames 0 7 0 ≡ 672
  pub local_own : occupancy local local_frames 2 7 0 ≡ 880
  pub local_flow : occupancy local local_frames 2 0 0 ≡ 2720
  pub local_going_on : occupancy local local_frames 2 6 2844000 ≡ 672

pub record OwnFramesAreHeld : Type 0 where
  pub buffers : BuffersAreWorked
  pub occupancies : OccupanciesAreWorked
