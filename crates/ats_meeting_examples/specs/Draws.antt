use Rattle.std.specs.Prelude.{List, [], ◌∷◌}
use Rattle.ats_num.specs.Pace.{drawn_wait}
use Rattle.ats_num.specs.Tie.{late_key, mixed_key}
use Rattle.ats_trace.specs.Journey.{Travel}
use Rattle.ats_trace.specs.Run.{IsRunBy}
use Rattle.ats_examples.specs.LegalRuns.{greatest_wait}
use Rattle.ats_examples.specs.Networks.{over_two_ranged}
use Rattle.ats_examples.specs.Runs.{hop, sunk}
use Rattle.ats_text_examples.specs.Worked.{way}
use Rattle.ats_meeting_examples.specs.Networks.{ranged_fork}

-- Runs by mixed:7, in which frame 0 draws a wait of 7 ps, frame 1 one of 6 and frame 2 one of 5 behind each port with a
-- spread, whichever its sender and its port, and however many frames came there before it; and one by late.

-- one frame from each of the fork's stations: that of the second comes to the bridge first
abbrev pub from_two_stations : List Travel
from_two_stations =
    sunk 0 0 1522 (hop 0 0 0 12336000 ∷ hop 13036007 13036007 25372006 37708006 ∷ []) 38208006
    ∷ sunk 0 1 1522 (hop 0 0 0 12336000 ∷ hop 13036006 13036006 13036006 25372006 ∷ []) 25872006
    ∷ []

-- one frame over two bridges
abbrev pub over_both : List Travel
over_both =
    sunk 0 0 1522
    (hop 0 0 0 12336000 ∷ hop 13036007 13036007 13036007 25372007 ∷ hop 26072014 26072014 26072014 38408014 ∷ [])
    38908014
    ∷ []

-- the longest frames of the worked network's three senders at once, over links of 1000, 2500 and 100 Mb/s, on which a
-- bit takes 1000, 400 and 10000 ps. They stand in the order of their frame numbers: of the flow, of the second stream
-- and of the first, which the station sends first
abbrev pub over_three_rates : List Travel
over_three_rates =
    sunk 0 2 1400
    (hop 0 0 17920000 29280000 ∷ hop 30080007 30080007 30080007 34624007
    ∷ hop 36954014 36954014 193754010 307354010 ∷ [])
    307399010
    ∷ sunk 0 1 1200
    (hop 0 0 8160000 17920000 ∷ hop 18720006 18720006 18720006 22624006
    ∷ hop 24954012 24954012 96154010 193754010 ∷ [])
    193799010
    ∷ sunk 0 0 1000
    (hop 0 0 0 8160000 ∷ hop 8960005 8960005 8960005 12224005
    ∷ hop 14554010 14554010 14554010 96154010 ∷ [])
    96199010
    ∷ []

-- and the same by the order late: each waits for all of the spread, which is 800000 ps behind the first port, and
-- 300000 behind the second
abbrev pub latest_over_three_rates : List Travel
latest_over_three_rates =
    sunk 0 2 1400
    (hop 0 0 17920000 29280000 ∷ hop 30880000 30880000 30880000 35424000
    ∷ hop 38054000 38054000 194854000 308454000 ∷ [])
    308499000
    ∷ sunk 0 1 1200
    (hop 0 0 8160000 17920000 ∷ hop 19520000 19520000 19520000 23424000
    ∷ hop 26054000 26054000 97254000 194854000 ∷ [])
    194899000
    ∷ sunk 0 0 1000
    (hop 0 0 0 8160000 ∷ hop 9760000 9760000 9760000 13024000
    ∷ hop 15654000 15654000 15654000 97254000 ∷ [])
    97299000
    ∷ []

-- Refuses a wait by a frame's place at the port, or among its sender's frames, or by the port too, one spread for all
-- ports, and a port that is never slower than 1000 Mb/s
pub record DrawsAreByFrame : Type 0 where
  pub stations : IsRunBy (mixed_key 7) (drawn_wait 7) ranged_fork from_two_stations
  pub ports : IsRunBy (mixed_key 7) (drawn_wait 7) over_two_ranged over_both
  pub senders : IsRunBy (mixed_key 7) (drawn_wait 7) way over_three_rates
  pub latest : IsRunBy late_key greatest_wait way latest_over_three_rates
