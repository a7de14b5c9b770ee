use Rattle.std.proofs.Common.{◌≡◌, ℕ, true, List, sym, ap, subst, ◌∙◌, inl, inr, arith}
use Rattle.std.specs.List.{Contains}
use Rattle.std.proofs.lemmas.List.Elements.{All-contains}
use Rattle.ats_network.specs.Network.{DeclaredNetwork, IsNetwork}
use Rattle.ats_certificate.specs.PortSums.{is_used}
use Rattle.ats_certificate.specs.Certificate.{IsBefore, is_row_of, row_of}
use Rattle.ats_certificate.specs.Least.{IsLeastRow, IsLeastCertificate}
use Rattle.ats_certificate.specs.declared.row.Row.{Row}
use Rattle.ats_bound.specs.Least.{least_row, least_certificate}
use Rattle.ats_bound.specs.Laws.{LeastCertificateIsOne}
use Rattle.ats_tally.proofs.Lists.{IsFound, found_is, All-found, Contains-found, option_cases, same_in_order}
use Rattle.ats_tally.proofs.Places.{is_place}
use Rattle.ats_bound.proofs.Waits.{least_row-only}
use Rattle.ats_bound.proofs.NoneHolds.{IsLeastOf, each_least, row_at, no_none}
use Rattle.ats_bound.proofs.LeastHolds.{least_rows}

before_once : (a b : Row) → IsBefore a b → IsBefore b a → ⊥
before_once a b (inl h) (inl k) = omega arith
before_once a b (inl h) (inr k) = omega arith
before_once a b (inr h) (inl k) = omega arith
before_once a b (inr h) (inr k) = omega arith

-- each row of a least certificate is a row that is computed
is_computed : (network : DeclaredNetwork) (rows : List Row) → IsNetwork network → IsLeastCertificate network rows
    → (row : Row) → Contains rows row → Contains (least_certificate network) row
is_computed network rows is least row c =
    let used : is_used network row.port row.class ≡ true =
    All-contains (λ (row : Row). is_used network row.port row.class ≡ true) rows row least.rows_of.used c in
    let only : row ≡ least_row network (row.port, row.class) = least_row-only network row
    (is_place network row.port row.class is used) (All-contains (IsLeastRow network) rows row least.each c) in
    elim (option_cases (row_of (least_certificate network) row.port row.class)) as (λ _.
    Contains (least_certificate network) row) [
      | inl none ↦ absurd (no_none (row_of (least_certificate network) row.port row.class) none
          ((least_rows network is).complete row.port row.class used))
      | inr some ↦ (
          let l : Row = some.0 in
          let f : IsFound (is_row_of row.port row.class) (least_certificate network) l =
          found_is (is_row_of row.port row.class) (least_certificate network) l some.1 in
          let at = row_at l row.port row.class f.passes in
          let of : IsLeastOf network l = All-found (IsLeastOf network) (is_row_of row.port row.class)
          (least_certificate network) l (each_least network) some.1 in
          let same : l ≡ row = of.is ∙ ap (λ (n : ℕ). least_row network (n, l.class)) at.0
          ∙ ap (λ (n : ℕ). least_row network (row.port, n)) at.1 ∙ sym only in
          subst (Contains (least_certificate network)) same
          (Contains-found (is_row_of row.port row.class) (least_certificate network) l some.1))
    ]

-- and each row that is computed is one of it
has_computed : (network : DeclaredNetwork) (rows : List Row) → IsNetwork network → IsLeastCertificate network rows
    → (row : Row) → Contains (least_certificate network) row → Contains rows row
has_computed network rows is least row c =
    let of : IsLeastOf network row =
    All-contains (IsLeastOf network) (least_certificate network) row (each_least network) c in
    elim (option_cases (row_of rows row.port row.class)) as (λ _. Contains rows row) [
      | inl none ↦
          absurd (no_none (row_of rows row.port row.class) none (least.rows_of.complete row.port row.class of.used))
      | inr some ↦ (
          let r : Row = some.0 in
          let f : IsFound (is_row_of row.port row.class) rows r =
          found_is (is_row_of row.port row.class) rows r some.1 in
          let at = row_at r row.port row.class f.passes in
          let used : is_used network r.port r.class ≡ true = ap (λ (n : ℕ). is_used network n r.class) at.0
          ∙ ap (λ (n : ℕ). is_used network row.port n) at.1 ∙ of.used in
          let only : r ≡ least_row network (r.port, r.class) =
          least_row-only network r (is_place network r.port r.class is used)
          (All-found (IsLeastRow network) (is_row_of row.port row.class) rows r least.each some.1) in
          let same : r ≡ row = only ∙ ap (λ (n : ℕ). least_row network (n, r.class)) at.0
          ∙ ap (λ (n : ℕ). least_row network (row.port, n)) at.1 ∙ sym of.is in
          subst (Contains rows) same (Contains-found (is_row_of row.port row.class) rows r some.1))
    ]

pub least_certificate_is_one : LeastCertificateIsOne
least_certificate_is_one network rows is least =
    same_in_order IsBefore before_once rows (least_certificate network) least.rows_of.ordered
    (least_rows network is).ordered
    (is_computed network rows is least) (has_computed network rows is least)
