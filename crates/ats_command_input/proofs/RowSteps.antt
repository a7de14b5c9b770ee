-- What is kept of the rows of a certificate's file while they are read.
use Rattle.std.proofs.Common.{◌≡◌, ℕ, ◌+◌, Bool, true, false, cond, List, [], ◌∷◌, ◌++◌, length, Result, Ok, Err, refl}
use Rattle.std.proofs.Common.{subst}
use Rattle.std.specs.Prelude.{IfOk, ◌==◌}
use Rattle.ats_topology.specs.Topology.{DeclaredTopology}
use Rattle.ats_csv.specs.Reading.{records_of, same_fields}
use Rattle.ats_certificate.specs.declared.row.Row.{Row}
use Rattle.ats_num.specs.Failure.{◌>>=◌, ok_where}
use Rattle.ats_certificate_file.specs.Reading.{row_after, rows_from, rows_under, rows_of, header}
use Rattle.ats_certificate_file.specs.declared.fault.CertFault.{CertFault}
use Rattle.ats_certificate_file.specs.declared.fault.CertFault.TheVariants.{BadRow}

-- what holds behind a step, whatever it gives, holds behind both
pub behind : {A B : Type 0} (P : B → Type 0) (x : Result A CertFault) (f : A → Result B CertFault)
    → IfOk x (λ a. IfOk (f a) P) → IfOk (x >>= f) P
behind P (Ok a) f h = h
behind P (Err e) f h = tt

pub always : {A B : Type 0} (P : B → Type 0) (x : Result A CertFault) (f : A → Result B CertFault)
    → ((a : A) → IfOk (f a) P) → IfOk (x >>= f) P
always P (Ok a) f h = h a
always P (Err e) f h = tt

pub followed : {A : Type 0} (P Q : A → Type 0) (x : Result A CertFault) → IfOk x P → ((a : A) → P a → Q a) → IfOk x Q
followed P Q (Ok a) h f = f a h
followed P Q (Err e) h f = tt

-- a value that a test lets through
pub where_passed : {A : Type 0} (P : A → Type 0) (b : Bool) (e : CertFault) (a : A) → (b ≡ true → P a)
    → IfOk (ok_where b e a) P
where_passed P true e a h = h refl
where_passed P false e a h = tt

-- a fact about rows is kept by each row more that is read
abbrev pub IsKept : DeclaredTopology → (List Row → Type 0) → Type 0
IsKept topology P = (rows : List Row) (n : ℕ) (fields : List (List ℕ)) → P rows
    → IfOk (row_after topology rows n fields) (λ row. P (rows ++ row ∷ []))

from_kept : (topology : DeclaredTopology) (P : List Row → Type 0) → IsKept topology P
    → (rows : List Row) (n : ℕ) (records : List (List (List ℕ))) → P rows → IfOk (rows_from topology rows n records) P
from_kept topology P kept rows n [] h = h
from_kept topology P kept rows n (fields ∷ records) h =
    let rest : Row → Result (List Row) CertFault = λ row. rows_from topology (rows ++ row ∷ []) (n + 1) records in
    always P (ok_where (length fields == 9) (BadRow n) fields) _
    (λ nine. behind P (row_after topology rows n nine) rest
    (followed (λ row. P (rows ++ row ∷ [])) (λ row. IfOk (rest row) P) (row_after topology rows n nine)
    (kept rows n nine h)
    (λ row more. from_kept topology P kept (rows ++ row ∷ []) (n + 1) records more)))

under_kept : (topology : DeclaredTopology) (P : List Row → Type 0) → IsKept topology P → P []
    → (records : List (List (List ℕ))) → IfOk (rows_under topology records) P
under_kept topology P kept none [] = tt
under_kept topology P kept none (first ∷ records) =
    choose P (same_fields first header) (rows_from topology [] 2 records) (from_kept topology P kept [] 2 records none)
  where
    choose : (P : List Row → Type 0) (b : Bool) (r : Result (List Row) CertFault) → IfOk r P
        → IfOk (cond b r (Err (BadRow 1))) P
    choose P true r h = h
    choose P false r h = tt

-- so it holds of the rows that a file declares, where it holds of none
pub rows_keep : (topology : DeclaredTopology) (P : List Row → Type 0) → IsKept topology P → P []
    → (bytes : List ℕ) (rows : List Row) → rows_of topology bytes ≡ Ok rows → P rows
rows_keep topology P kept none bytes rows is =
    subst (λ (r : Result (List Row) CertFault). IfOk r P) is (under_kept topology P kept none (records_of bytes))
