use Rattle.std.specs.Prelude.{◌≢◌, List, [], ◌∷◌}
use Rattle.ats_network.specs.Network.{DeclaredNetwork, IsNetwork}
use Rattle.ats_certificate.specs.declared.row.Row.{Row}
use Rattle.ats_soundness_law.specs.Rules.{Rule, rows_are_there, higher_is_right, equal_is_right, bursts_are_right}
use Rattle.ats_soundness_law.specs.Rules.{lower_is_right, least_is_right, bound_follows, load_fits, wait_is_enough}
use Rattle.ats_soundness_law.specs.Rules.{frames_may_stay, Keeps, RestHolds}
use Rattle.ats_soundness_law.specs.Sound.{IsSound}
use Rattle.ats_examples.specs.Networks.{line, line_and_flow, pair, below, fast}
use Rattle.ats_examples.specs.Rows.{row_of_line, line_rows, row_with, pair_rows, fast_rows}

-- For each rule a network and a certificate that breaks this rule alone, and is not sound.

abbrev pub network_for : Rule → DeclaredNetwork
network_for rows_are_there = line
network_for higher_is_right = below
network_for equal_is_right = fast
network_for bursts_are_right = pair 1000000
network_for lower_is_right = line_and_flow
network_for least_is_right = pair 12335
network_for bound_follows = pair 1000000
network_for load_fits = fast
network_for wait_is_enough = pair 1000000
network_for frames_may_stay = pair 12335

abbrev pub rows_for : Rule → List Row
-- the row of port 2 is missing
rows_for rows_are_there = row_of_line 0 13836000 ∷ []
-- at port 0 the rate of the class above is left out, and the wait is the least that would do without it
rows_for higher_is_right =
    row_with 0 5 0 50000000000 13008 0 672 12336000 14508000
    ∷ row_with 0 6 0 500000000000 12336 672 672 12336000 14508000
    ∷ row_with 2 5 500000000000 50000000000 13008 0 672 24672000 25844000
    ∷ row_with 2 6 0 500000000000 12336 672 672 12336000 13508000
    ∷ []
-- half of the rate is left out, so that it fits
rows_for equal_is_right = fast_rows 1000000000000
-- one bit of the bursts is left out
rows_for bursts_are_right = pair_rows (row_with 0 6 0 150000000000 13007 0 672 12335000 14507000)
-- the flow is left out
rows_for lower_is_right = line_rows
-- the shortest frame is one bit too long, so that the wait is just the residence
rows_for least_is_right = pair_rows (row_with 0 6 0 150000000000 13008 0 673 12335000 14508000)
-- the bound is one picosecond short
rows_for bound_follows = pair_rows (row_with 0 6 0 150000000000 13008 0 672 12336000 14507999)
-- twice what the link carries
rows_for load_fits = fast_rows 2000000000000
-- the wait is one picosecond short, and the bound with it
rows_for wait_is_enough = pair_rows (row_with 0 6 0 150000000000 13008 0 672 12335999 14507999)
-- all is right but the bridge's residence, which is one nanosecond short
rows_for frames_may_stay = pair_rows (row_with 0 6 0 150000000000 13008 0 672 12336000 14508000)

-- the certificate breaks this rule and no other, and its bounds are not sound: in some legal run of the network a frame
-- is discarded, or comes later than they say
pub record BreaksAlone (rule : Rule) (network : DeclaredNetwork) (given : List Row) : Type 0 where
  pub is_network : IsNetwork network
  pub broken : ¬ Keeps rule network given
  pub others : (other : Rule) → other ≢ rule → Keeps other network given
  pub rest : RestHolds network given
  pub unsound : ¬ IsSound network given

-- so no rule can be left out, and a judge that leaves it out accepts a certificate that is not sound
abbrev pub EachRuleCounts : Type 0
EachRuleCounts = (rule : Rule) → BreaksAlone rule (network_for rule) (rows_for rule)
