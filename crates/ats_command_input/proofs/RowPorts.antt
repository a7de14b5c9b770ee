use Rattle.std.proofs.Common.{◌≡◌, ℕ, ◌<◌, Bool, List, [], ◌∷◌, ◌++◌, length, Option, Some}
use Rattle.std.proofs.Common.{None, Result, Ok, refl, arith}
use Rattle.std.specs.Prelude.{All, IfOk, IfSome}
use Rattle.ats_facts.proofs.Lists.{position_from-lt}
use Rattle.ats_num.specs.declared.wire.TheConstants.{MAX_WIRE_BITS}
use Rattle.std.specs.List.{position_from}
use Rattle.std.proofs.lemmas.List.Elements.{All-push, All-nil}
use Rattle.ats_topology.specs.Topology.{DeclaredTopology}
use Rattle.ats_port_names.specs.PortName.{port_named}
use Rattle.ats_csv.specs.Reading.{field_of}
use Rattle.ats_certificate.specs.Form.{last_of}
use Rattle.ats_certificate.specs.declared.row.Row.{Row}
use Rattle.ats_num.specs.Failure.{◌>>=◌, or_fault, ok_where}
use Rattle.ats_certificate_file.specs.Reading.{number_in, number_within, row_in, row_after, comes_after, rows_of}
use Rattle.ats_certificate_file.specs.declared.fault.CertFault.{CertFault}
use Rattle.ats_certificate_file.specs.declared.fault.CertFault.TheVariants.{UnknownPort, RowOrder}
use Rattle.ats_command_input.proofs.RowSteps.{behind, always, followed, where_passed, rows_keep}

-- a place that is found is one of the list
found_first : {X : Type 0} (test : X → Bool) (xs : List X) → IfSome (position_from test 0 xs) (λ p. p < length xs)
found_first test xs = by (position_from test 0 xs) refl
  where
    by : (o : Option ℕ) → position_from test 0 xs ≡ o → IfSome o (λ p. p < length xs)
    by None e = tt
    by (Some p) e = omega (arith, position_from-lt test 0 xs p e)

or_within : {B : Type 0} (P : B → Type 0) (n : ℕ) (e : CertFault) (o : Option ℕ) (f : ℕ → Result B CertFault)
    → IfSome o (λ p. p < n) → ((p : ℕ) → p < n → IfOk (f p) P) → IfOk (or_fault e o >>= f) P
or_within P n e None f h k = tt
or_within P n e (Some p) f h k = k p h

-- a row that is read is of a port of the topology
row_inside : (topology : DeclaredTopology) (n : ℕ) (fields : List (List ℕ))
    → IfOk (row_in topology n fields) (λ (row : Row). row.port < length topology.ports)
unfolding row_in
row_inside topology n fields =
    let Inside : Row → Type 0 = λ row. row.port < length topology.ports in
    or_within Inside (length topology.ports) (UnknownPort n) (port_named topology (field_of fields 0)) _
    (found_first _ topology.ports)
    (λ port within. always Inside (number_within n 1 7 (field_of fields 1)) _ (λ class.
    always Inside (number_in n (field_of fields 2)) _ (λ higher. always Inside (number_in n (field_of fields 3)) _
    (λ equal. always Inside (number_in n (field_of fields 4)) _
    (λ bursts. always Inside (number_within n 0 MAX_WIRE_BITS (field_of fields 5)) _
    (λ lower. always Inside (number_within n 0 MAX_WIRE_BITS (field_of fields 6)) _
    (λ least. always Inside (number_in n (field_of fields 7)) _
    (λ wait. always Inside (number_in n (field_of fields 8)) _ (λ bound. within)))))))))

after_inside : (topology : DeclaredTopology) (rows : List Row) (n : ℕ) (fields : List (List ℕ))
    → IfOk (row_after topology rows n fields) (λ (row : Row). row.port < length topology.ports)
unfolding row_after
after_inside topology rows n fields =
    let Inside : Row → Type 0 = λ row. row.port < length topology.ports in
    behind Inside (row_in topology n fields) _
    (followed Inside (λ row. IfOk (ok_where (comes_after (last_of rows) row) (RowOrder n) row) Inside)
    (row_in topology n fields) (row_inside topology n fields)
    (λ row within. where_passed Inside (comes_after (last_of rows) row) (RowOrder n) row (λ passed. within)))

-- the rows that a file declares are of ports of the topology
pub rows_inside : (topology : DeclaredTopology) (bytes : List ℕ) (rows : List Row) → rows_of topology bytes ≡ Ok rows
    → All (λ (row : Row). row.port < length topology.ports) rows
rows_inside topology =
    let Inside : Row → Type 0 = λ row. row.port < length topology.ports in
    rows_keep topology (All Inside)
    (λ rows n fields inside. followed Inside (λ row. All Inside (rows ++ row ∷ []))
    (row_after topology rows n fields) (after_inside topology rows n fields)
    (λ row within. All-push Inside rows row inside within))
    (All-nil Inside)
