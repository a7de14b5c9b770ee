use Rattle.std.specs.Prelude.{◌≡◌, [], ◌∷◌}
use Rattle.ats_gen.specs.Made.{made}
use Rattle.ats_examples.specs.Networks.{line_of_bursts, line_of_two}
use Rattle.ats_text_examples.specs.Worked.{way}
use Rattle.ats_text_examples.specs.Runs.{release}

-- The first four frames that are made from the seed 7, in the order in which they are made, worked out from the
-- generator of numbers.

-- in the worked network two streams take turns and the flow has none; their frames have 64 to 1000 and 100 to 1200
-- octets, and their bursts are longer than one of these. A burst of two frames is used: three frames go at the clock,
-- and the fourth, of 11912 bits, has to wait. Two streams of one talker wait each for itself: the last frame is earlier
-- than the one before it.
-- Refuses turns of all senders, octets that are drawn from 64 and raised to the least, a bucket of one longest frame,
-- and a group of a talker's streams
pub record ReleasesAreOfEachStream : Type 0 where
  pub way : made way 7 4
      ≡ release 0 0 219 ∷ release 263231 1 391 ∷ release 1981904 0 550 ∷ release 59896565 1 1043 ∷ []
  pub bursts : made line_of_bursts 7 4
      ≡ release 0 0 1374 ∷ release 263231 0 774 ∷ release 1981904 0 889 ∷ release 120160000 0 1469 ∷ []
  pub talker : made (line_of_two 1000000) 7 4
      ≡ release 0 0 1374 ∷ release 263231 1 774 ∷ release 60880000 0 889 ∷ release 59543231 1 1469 ∷ []
