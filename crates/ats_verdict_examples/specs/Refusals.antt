use Rattle.std.specs.Prelude.{◌≡◌, List, [], ◌∷◌, codes, AllPairs, Some, None}
use Rattle.ats_network.specs.Network.{DeclaredNetwork, IsNetwork}
use Rattle.ats_certificate.specs.Certificate.{Holds, IsBefore}
use Rattle.ats_certificate.specs.declared.row.Row.{Row}
use Rattle.ats_tally.specs.declared.reason.Reason.TheVariants.{Overloaded, Residence, Deadline}
use Rattle.ats_checker.specs.First.{IsFirst}
use Rattle.ats_checker.specs.Refusal.{refusal_of}
use Rattle.ats_checker.specs.declared.refusal.Field.TheVariants as field
use Rattle.ats_checker.specs.declared.refusal.Refusal.{Refusal}
use Rattle.ats_checker.specs.declared.refusal.Refusal.TheVariants.{RowMissing, RowStray, FieldWrong, WaitTooSmall}
use Rattle.ats_checker.specs.declared.refusal.Refusal.TheVariants.{Network}
use Rattle.ats_examples.specs.Networks.{line, fast, pair}
use Rattle.ats_examples.specs.Rows.{row_with, row_of_line, line_rows, pair_rows, fast_rows}
use Rattle.ats_verdict_examples.specs.Networks.{line_until}

-- Rows that are refused, for each cause.

-- rows in order, which are refused for this, the first cause against them, and so do not hold
pub record AreRefusedBy (network : DeclaredNetwork) (rows : List Row) (refusal : Refusal) : Type 0 where
  pub rules : IsNetwork network
  pub ordered : AllPairs IsBefore rows
  pub given : refusal_of network rows ≡ Some refusal
  pub first : IsFirst network rows refusal
  pub not_held : ¬ Holds network rows

-- the row of the line's first port, and that of its second with other numbers: in a class that no stream has; with a
-- bound that is 1 ps short; and with a wait that is, from which this bound follows
abbrev pub with_second : Row → List Row
with_second second = row_of_line 0 13836000 ∷ second ∷ []

abbrev pub short_row : Row
short_row = row_with 2 6 0 100000000000 12336 0 672 11663999 12835999

-- the rows of the line hold. It has a row missing, one more, a bound that is wrong, and a wait that is too short; the
-- fast stream's rows say its load, a small frame's row its stay, and with a deadline 1 ns less the line's rows its sum
pub record RefusalsAreMet : Type 0 where
  pub accepted : refusal_of line line_rows ≡ None
  pub missing : AreRefusedBy line (row_of_line 0 13836000 ∷ []) (RowMissing 2 6)
  pub stray : AreRefusedBy line (row_of_line 0 13836000 ∷ row_with 2 5 0 0 0 0 0 0 0 ∷ row_of_line 2 12836000 ∷ [])
      (RowStray 2 5)
  pub wrong : AreRefusedBy line (with_second (row_of_line 2 12835999)) (FieldWrong 2 6 field.Bound 12836000)
  pub overloaded : AreRefusedBy fast (fast_rows 2000000000000) (Network (Overloaded 0 6 2000000000000))
  pub short : AreRefusedBy line (with_second short_row) (WaitTooSmall 2 6 11664000)
  pub overstays : AreRefusedBy (pair 12335) (pair_rows (row_with 0 6 0 150000000000 13008 0 672 12336000 14508000))
      (Network (Residence 0 6 12336000))
  pub late : AreRefusedBy (line_until 26671) line_rows (Network (Deadline (codes "a") None 26672000))
