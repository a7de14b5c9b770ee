-- The rows that a certificate's file declares ascend.
use Rattle.std.proofs.Common.{◌≡◌, ℕ, true, List, [], ◌∷◌, ◌++◌, Option, Some, None, Ok, subst, arith}
use Rattle.std.specs.Prelude.{IfOk, AllPairs}
use Rattle.std.proofs.lemmas.Bool.Decides.{nat_tests}
use Rattle.std.proofs.lemmas.List.Quantifiers.{all_pairs_push}
use Rattle.std.proofs.lemmas.Option.{same_Some}
use Rattle.ats_topology.specs.Topology.{DeclaredTopology}
use Rattle.ats_certificate.specs.Certificate.{IsBefore}
use Rattle.ats_certificate.specs.Form.{ComesAfter, last_of}
use Rattle.ats_certificate.specs.declared.row.Row.{Row}
use Rattle.ats_certificate.proofs.Rows.{after_each}
use Rattle.ats_certificate_file.specs.Reading.{row_in, is_before, comes_after, row_after, rows_of}
use Rattle.ats_certificate_file.specs.declared.fault.CertFault.TheVariants.{RowOrder}
use Rattle.ats_command_input.proofs.RowSteps.{always, followed, where_passed, rows_keep}

-- a row that passes the test comes before the other
before_passed : (a b : Row) → is_before a b ≡ true → IsBefore a b
before_passed a b passed = grind (arith, nat_tests)

last_passed : (last : Option Row) (row : Row) → comes_after last row ≡ true → (before : Row) → last ≡ Some before
    → IsBefore before row
last_passed None row passed before is = cc
last_passed (Some last) row passed before is =
    subst (λ (r : Row). IsBefore r row) (same_Some last before is) (before_passed last row passed)

-- a row that is read comes after the last one
comes_last : (topology : DeclaredTopology) (rows : List Row) (n : ℕ) (fields : List (List ℕ))
    → IfOk (row_after topology rows n fields) (ComesAfter rows)
unfolding row_after
comes_last topology rows n fields =
    always (ComesAfter rows) (row_in topology n fields) _
    (λ row. where_passed (ComesAfter rows) (comes_after (last_of rows) row) (RowOrder n) row
    (last_passed (last_of rows) row))

-- the rows that a file declares ascend
pub rows_ascend : (topology : DeclaredTopology) (bytes : List ℕ) (rows : List Row) → rows_of topology bytes ≡ Ok rows
    → AllPairs IsBefore rows
rows_ascend topology =
    rows_keep topology (AllPairs IsBefore)
    (λ rows n fields ordered. followed (ComesAfter rows) (λ row. AllPairs IsBefore (rows ++ row ∷ []))
    (row_after topology rows n fields) (comes_last topology rows n fields)
    (λ row after. all_pairs_push IsBefore rows row ordered (after_each rows row ordered after)))
    (λ i j d before within. absurd (omega arith))
