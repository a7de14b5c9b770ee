use Rattle.std.specs.Prelude.{◌≡◌, List, [], ◌∷◌, codes, Some, None, AllPairs}
use Rattle.ats_network.specs.Network.{DeclaredNetwork, IsNetwork}
use Rattle.ats_certificate.specs.Certificate.{Holds, IsBefore}
use Rattle.ats_certificate.specs.declared.row.Row.{Row}
use Rattle.ats_tally.specs.declared.reason.Reason.TheVariants.{Deadline}
use Rattle.ats_checker.specs.First.{IsFirst}
use Rattle.ats_checker.specs.Refusal.{refusal_of}
use Rattle.ats_checker.specs.declared.refusal.Field.TheVariants as field
use Rattle.ats_checker.specs.declared.refusal.Refusal.{Refusal}
use Rattle.ats_checker.specs.declared.refusal.Refusal.TheVariants.{RowMissing, FieldWrong, WaitTooSmall, Network}
use Rattle.ats_examples.specs.Rows.{line_rows, row_of_line, row_with}
use Rattle.ats_tree_examples.specs.Networks.{split, tree, tree_within, turned_within}
use Rattle.ats_tree_examples.specs.Bounds.{rows_of_two, tree_rows}
use Rattle.ats_tree_examples.specs.Served.{short_split_rows}

-- Rows that are refused for a stream with several listeners.

-- rows in order, which are refused for this, the first cause against them and not that, and so do not hold
pub record AreRefused (network : DeclaredNetwork) (rows : List Row) (refusal other : Refusal) : Type 0 where
  pub rules : IsNetwork network
  pub ordered : AllPairs IsBefore rows
  pub given : refusal_of network rows ≡ Some refusal
  pub first : IsFirst network rows refusal
  pub not_first : ¬ IsFirst network rows other
  pub not_held : ¬ Holds network rows

-- rows of the tree without that of the last port, which leads to the last listener
abbrev pub rows_without_last : List Row
rows_without_last =
    row_of_line 0 13836000 ∷ row_of_line 2 13836000 ∷ row_of_line 4 12836000 ∷ row_of_line 6 12836000
    ∷ row_of_line 8 13836000 ∷ row_of_line 10 12836000 ∷ []

-- rows of the split whose first counts the rate of the stream once, and its burst for each of its two listeners; and
-- whose last has a wait for no burst at the port of the branch, and the bound that follows
abbrev pub rows_of_two_bursts : List Row
rows_of_two_bursts =
    row_with 0 6 0 100000000000 24672 0 672 24000000 26172000 ∷ row_of_line 2 12836000 ∷ row_of_line 4 12836000 ∷ []

abbrev pub rows_of_no_wait : List Row
rows_of_no_wait =
    row_of_line 0 13836000 ∷ row_of_line 2 12836000 ∷ row_with 4 6 0 100000000000 12336 0 672 0 1172000 ∷ []

-- rows of the trunk alone lack one for the port of the branch, which counts as any port; rows that count a stream once
-- for each listener, as if it were two, are refused for its rate, and for its burst; a bound or a wait of a branch is
-- judged as one of the trunk. And where the bounds are over the deadline, the first listener by the stream is named
-- that is late: not the last, nor the one with the greatest sum, nor the one with the lower name
pub record RefusalsNameListeners : Type 0 where
  pub accepted : refusal_of (tree_within 54344) tree_rows ≡ None
  pub accepted_turned : refusal_of (turned_within 54344) tree_rows ≡ None
  pub missing : AreRefused split line_rows (RowMissing 4 6) (RowMissing 2 6)
  pub missing_last : AreRefused tree rows_without_last (RowMissing 12 6) (RowMissing 10 6)
  pub rate_for_each : AreRefused split rows_of_two (FieldWrong 0 6 field.Equal 100000000000)
      (FieldWrong 0 6 field.Equal 200000000000)
  pub burst_for_each : AreRefused split rows_of_two_bursts (FieldWrong 0 6 field.Bursts 12336)
      (FieldWrong 0 6 field.Bursts 24672)
  pub short_bound : AreRefused split short_split_rows (FieldWrong 4 6 field.Bound 12836000) (RowMissing 4 6)
  pub short_wait : AreRefused split rows_of_no_wait (WaitTooSmall 4 6 11664000) (WaitTooSmall 2 6 11664000)
  pub late_for_third : AreRefused (tree_within 54343) tree_rows
      (Network (Deadline (codes "a") (Some (codes "s4")) 54344000))
      (Network (Deadline (codes "a") (Some (codes "s5")) 54344000))
  pub late_for_first : AreRefused (tree_within 40507) tree_rows (Network (Deadline (codes "a") None 40508000))
      (Network (Deadline (codes "a") (Some (codes "s4")) 54344000))
  pub turned_for_second : AreRefused (turned_within 40507) tree_rows
      (Network (Deadline (codes "a") (Some (codes "s2")) 40508000))
      (Network (Deadline (codes "a") (Some (codes "s5")) 54344000))
  pub turned_for_third : AreRefused (turned_within 54343) tree_rows
      (Network (Deadline (codes "a") (Some (codes "s5")) 54344000))
      (Network (Deadline (codes "a") (Some (codes "s4")) 54344000))
