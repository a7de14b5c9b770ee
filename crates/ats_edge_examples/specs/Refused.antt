use Rattle.std.specs.Prelude.{◌≡◌, ℕ, List, [], ◌∷◌, Some}
use Rattle.ats_certificate.specs.declared.row.Row.{Row}
use Rattle.ats_tally.specs.declared.reason.Reason.TheVariants.{Overloaded, Residence}
use Rattle.ats_checker.specs.Refusal.{refusal_of}
use Rattle.ats_checker.specs.declared.refusal.Field.TheVariants as field
use Rattle.ats_checker.specs.declared.refusal.Refusal.TheVariants.{FieldWrong, Network, WaitTooSmall}
use Rattle.ats_text_examples.specs.Ports.{row_with, wide_rows}
use Rattle.ats_text_examples.specs.Worked.{way, wide}
use Rattle.ats_examples.specs.Rows as line
use Rattle.ats_verdict_examples.specs.FirstCauses.{first_row, of_two_classes, row_before, with_none, wrong_before}

-- The number that is told of rows that are refused.

-- rows of two classes that carry a bit a second more than the link, at both ports
abbrev pub full_rows : List Row
full_rows =
    line.row_with 0 5 400000000000 600000001000 24672 0 672 0 2172000
    ∷ line.row_with 0 6 0 400000000000 12336 12336 672 0 2172000
    ∷ line.row_with 2 5 400000000000 600000001000 24672 0 672 0 1172000
    ∷ line.row_with 2 6 0 400000000000 12336 12336 672 0 1172000 ∷ []

-- the load is that of the class and of the higher ones. Refuses one that is without these
abbrev pub LoadIsOfBoth : Type 0
LoadIsOfBoth = refusal_of (of_two_classes 400000000 600000001) full_rows ≡ Some (Network (Overloaded 0 5 1000000001000))

-- the rows of the worked network whose first one says this, or whose last two do
abbrev pub with_first : ℕ → ℕ → ℕ → List Row
with_first lower wait bound =
    row_with 0 5 20000000000 30000000000 19004 lower 960 wait bound
    ∷ row_with 0 6 0 20000000000 9001 11360 672 19689000 21961000
    ∷ row_with 2 5 0 20000000000 19004 11360 672 11876800 14775600
    ∷ row_with 4 4 300000000000 200000000000 19004 11360 672 424171429 430936429
    ∷ row_with 4 5 0 300000000000 10003 11360 960 204030000 213675000 ∷ []

abbrev pub with_last : ℕ → ℕ → List Row
with_last higher bound =
    row_with 0 5 20000000000 30000000000 19004 11360 960 30004082 32564082
    ∷ row_with 0 6 0 20000000000 9001 11360 672 19689000 21961000
    ∷ row_with 2 5 0 20000000000 19004 11360 672 11876800 14775600
    ∷ row_with 4 4 higher 200000000000 19004 11360 672 424171429 430936429
    ∷ row_with 4 5 0 300000000000 10003 11360 960 204030000 bound ∷ []

-- a bound, at a port that takes 10000 ps for a bit, and what stands above a class that is not the highest, or below one
-- that is not the lowest. Refuses numbers as if a bit took 1000 ps, and those of another class. A need is by the
-- residence that the rows take, and a wait that is 1 ps short is told the least one
pub record WorkedRowsAreTold : Type 0 where
  pub bound : refusal_of wide (with_last 300000000000 1) ≡ Some (FieldWrong 4 5 field.Bound 213675000)
  pub higher : refusal_of wide (with_last 0 213675000) ≡ Some (FieldWrong 4 4 field.Higher 300000000000)
  pub lower : refusal_of wide (with_first 0 30004082 32564082) ≡ Some (FieldWrong 0 5 field.Lower 11360)
  pub short : refusal_of wide (with_first 11360 30004081 32564081) ≡ Some (WaitTooSmall 0 5 30004082)
  pub stays : refusal_of way wide_rows ≡ Some (Network (Residence 0 5 30804082))

-- the bound that is told follows from the wait of the row, also where this is longer than the least; and a wrong bound
-- is told before a wrong field of a later row
pub record BoundsAreTold : Type 0 where
  pub longer : refusal_of with_none (first_row (line.row_with 0 6 0 100000000000 12336 0 672 11664001 1))
      ≡ Some (FieldWrong 0 6 field.Bound 13836001)
  pub earlier : refusal_of with_none
      (wrong_before 100000000 0 ∷ line.row_with 2 6 1 200000000000 24672 0 672 24000000 25172000
      ∷ row_before 100000000 4 ∷ []) ≡ Some (FieldWrong 0 6 field.Bound 13836000)

pub record RefusalsAreTold : Type 0 where
  pub load : LoadIsOfBoth
  pub worked : WorkedRowsAreTold
  pub bounds : BoundsAreTold
