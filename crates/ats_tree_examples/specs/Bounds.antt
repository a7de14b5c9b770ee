use Rattle.std.specs.Prelude.{◌≡◌, ℕ, List, [], ◌∷◌, codes, Option, Some, None}
use Rattle.ats_network.specs.Network.{DeclaredNetwork, IsNetwork}
use Rattle.ats_certificate.specs.Certificate.{Holds}
use Rattle.ats_certificate.specs.PortSums.{PortSums, port_sums}
use Rattle.ats_certificate.specs.declared.row.Row.{Row}
use Rattle.ats_tally.specs.Delays.{sums_for}
use Rattle.ats_tally.specs.declared.reason.Reason.{Reason}
use Rattle.ats_tally.specs.declared.reason.Reason.TheVariants.{Residence, Deadline}
use Rattle.ats_bound.specs.First.{IsFirstReason}
use Rattle.ats_bound.specs.Least.{least_certificate}
use Rattle.ats_bound.specs.Reason.{reason_of}
use Rattle.ats_explain.specs.Loads.{port_load}
use Rattle.ats_explain.specs.Totals.{over_count, totals_of}
use Rattle.ats_explain.specs.declared.totals.Totals.{Totals}
use Rattle.ats_examples.specs.Rows.{line_rows, next_row_with_flow, row_of_line, row_with, row_with_two}
use Rattle.ats_tree_examples.specs.Networks.{split, split_and_flow, by_two_streams, crossed, tree, tree_and_flow}
use Rattle.ats_tree_examples.specs.Networks.{beside_stream_within, split_by_class, tree_within, turned, turned_within}

-- What bounds, certificates and reasons say of the worked networks.

-- the sums of a port for a class whose streams have these rates, in picoseconds of each second, and bursts, below
-- frames of so many bits; no class is higher, and the shortest frame has 64 octets
abbrev pub sums : ℕ → ℕ → ℕ → PortSums
sums equal bursts lower =
    record { higher = 0; equal = equal; bursts = bursts; lower = lower; least = 672 }

-- a stream counts once at each of its ports, however many listeners are behind; two streams with a listener each count
-- twice at the port that both use. At the ports of a branch it counts as at those of the trunk, and a flow on the trunk
-- does not
pub record SumsCountOnce : Type 0 where
  pub once : port_sums split 0 6 ≡ sums 100000000000 12336 0
  pub twice : port_sums by_two_streams 0 6 ≡ sums 200000000000 24672 0
  pub at_branch : port_sums split 4 6 ≡ sums 100000000000 12336 0
  pub beside_flow : port_sums split_and_flow 4 6 ≡ sums 100000000000 12336 0
  pub with_flow : port_sums split_and_flow 2 6 ≡ sums 100000000000 12336 12336
  pub deep : port_sums tree 12 6 ≡ sums 100000000000 12336 0
  pub load : port_load tree 2 ≡ 100000000000
  pub load_of_first : port_load tree 0 ≡ 100000000000
  pub load_of_two : port_load by_two_streams 0 ≡ 200000000000

-- the certificates: each port that leads to a bridge has the bridge's processing time in its bound
abbrev pub split_rows : List Row
split_rows = row_of_line 0 13836000 ∷ row_of_line 2 12836000 ∷ row_of_line 4 12836000 ∷ []

abbrev pub rows_beside_flow : List Row
rows_beside_flow = row_of_line 0 13836000 ∷ next_row_with_flow ∷ row_of_line 4 12836000 ∷ []

abbrev pub rows_of_two : List Row
rows_of_two =
    row_with 0 6 0 200000000000 24672 0 672 24000000 26172000 ∷ row_of_line 2 12836000 ∷ row_of_line 4 12836000 ∷ []

-- where the branch has another class than the trunk, its port's row is of that class, and counts the stream with those
-- of that class there
abbrev pub rows_by_class : List Row
rows_by_class =
    row_with 0 6 0 150000000000 24672 0 672 24000000 26172000 ∷ row_of_line 2 12836000
    ∷ row_with 4 5 0 150000000000 24672 0 672 24000000 25172000 ∷ []

abbrev pub crossed_rows : List Row
crossed_rows = row_of_line 0 13836000 ∷ row_of_line 1 12836000 ∷ row_with_two ∷ row_of_line 4 13836000 ∷ []

abbrev pub tree_rows : List Row
tree_rows =
    row_of_line 0 13836000 ∷ row_of_line 2 13836000 ∷ row_of_line 4 12836000 ∷ row_of_line 6 12836000
    ∷ row_of_line 8 13836000 ∷ row_of_line 10 12836000 ∷ row_of_line 12 12836000 ∷ []

-- the network's least certificate has these rows, and holds
pub record IsBounded (network : DeclaredNetwork) (rows : List Row) : Type 0 where
  pub rules : IsNetwork network
  pub least : least_certificate network ≡ rows
  pub holds : Holds network rows

-- certificates have a row for each port of a branch too: with the rows of the trunk alone none holds. The sums of their
-- bounds are one for each listener, along the route there
pub record ListenersHaveBounds : Type 0 where
  pub over_one : IsBounded split split_rows
  pub beside_flow : IsBounded split_and_flow rows_beside_flow
  pub with_two : IsBounded by_two_streams rows_of_two
  pub by_class : IsBounded split_by_class rows_by_class
  pub against : IsBounded crossed crossed_rows
  pub over_three : IsBounded tree tree_rows
  pub in_another_order : IsBounded turned tree_rows
  pub not_of_trunk : ¬ Holds split line_rows
  pub sums_over_one : sums_for split split_rows ≡ 26672000 ∷ 26672000 ∷ []
  pub sums_of_two : sums_for by_two_streams rows_of_two ≡ 39008000 ∷ 39008000 ∷ []
  pub sums_by_class : sums_for split_by_class rows_by_class ≡ 39008000 ∷ 51344000 ∷ 51344000 ∷ []
  pub sums_against : sums_for crossed crossed_rows ≡ 39008000 ∷ 39008000 ∷ 26672000 ∷ []
  pub sums_over_three : sums_for tree tree_rows ≡ 40508000 ∷ 26672000 ∷ 54344000 ∷ 54344000 ∷ []
  pub sums_in_another_order : sums_for turned tree_rows ≡ 26672000 ∷ 40508000 ∷ 54344000 ∷ 54344000 ∷ []

-- this reason is given against the network and is the first, another is not, and no certificate holds
pub record HasReason (network : DeclaredNetwork) (reason other : Reason) : Type 0 where
  pub rules : IsNetwork network
  pub given : reason_of network ≡ Some reason
  pub first : IsFirstReason network reason
  pub not_first : ¬ IsFirstReason network other
  pub none_holds : (rows : List Row) → ¬ Holds network rows

-- a deadline counts for each listener, and the reason names the first for which the bounds are over it: with its
-- station, where this is the second or the third, and by the stream alone, where it is the first. It may be
-- neither the one with the greatest sum, nor of two the last, nor the one with the lower name. A deadline that just
-- fits is met. And where frames may not stay at the second bridge, the port that leads there is named
pub record ReasonsNameListeners : Type 0 where
  pub late_for_second : HasReason (beside_stream_within 30000) (Deadline (codes "a") (Some (codes "s3")) 39008000)
      (Deadline (codes "a") None 39008000)
  pub late_for_third : HasReason (tree_within 54343) (Deadline (codes "a") (Some (codes "s4")) 54344000)
      (Deadline (codes "a") None 54344000)
  pub late_for_first : HasReason (tree_within 40507) (Deadline (codes "a") None 40508000)
      (Deadline (codes "a") (Some (codes "s4")) 54344000)
  pub turned_for_second : HasReason (turned_within 40507) (Deadline (codes "a") (Some (codes "s2")) 40508000)
      (Deadline (codes "a") (Some (codes "s5")) 54344000)
  pub turned_for_third : HasReason (turned_within 54343) (Deadline (codes "a") (Some (codes "s5")) 54344000)
      (Deadline (codes "a") (Some (codes "s4")) 54344000)
  pub in_time : IsBounded (tree_within 54344) tree_rows
  pub free : reason_of (tree_within 54344) ≡ None
  pub overstays : HasReason tree_and_flow (Residence 2 6 24000000) (Deadline (codes "a") None 24000000)

-- the totals of one stream, so many of whose listeners are late, and whose tightest listener has this sum and deadline
abbrev pub totals : ℕ → Option (List ℕ) → ℕ → ℕ → Totals
totals late listener sum deadline = record {
  streams = 1;
  late = late;
  over = 0;
  tightest = Some (record {
    name = codes "a";
    listener = listener;
    margin = record { sum = sum; deadline = deadline };
  });
}

-- two of four listeners are late, or three, or all, where one stream is; of two that are as tight the first by the
-- stream is the tightest, which may not be found by its name; and frames may have to stay too long at one hop, though
-- three listeners are behind it
pub record ListenersAreExplained : Type 0 where
  pub late : totals_of (tree_within 50000) ≡ totals 2 (Some (codes "s4")) 54344000 50000000
  pub late_turned : totals_of (turned_within 40507) ≡ totals 3 (Some (codes "s5")) 54344000 40507000
  pub all_late : totals_of (turned_within 26671) ≡ totals 4 (Some (codes "s5")) 54344000 26671000
  pub as_tight : totals_of split ≡ totals 0 None 26672000 1000000000
  pub stay : over_count tree_and_flow ≡ 1
