-- The rows and bounds of the least certificate, by port and class.
use Rattle.std.proofs.Common.{◌≡◌, ℕ, true, false, Option, Some, None, sym, ap, ◌∙◌, inl, inr}
use Rattle.std.specs.Prelude.{unwrap_or}
use Rattle.std.specs.Option.{option_map}
use Rattle.std.proofs.lemmas.Bool.{true≢false}
use Rattle.ats_network.specs.Network.{DeclaredNetwork, IsNetwork}
use Rattle.ats_certificate.specs.PortSums.{is_used}
use Rattle.ats_certificate.specs.Certificate.{MayStay, is_row_of, row_of, bound_at}
use Rattle.ats_certificate.specs.declared.row.Row.{Row}
use Rattle.ats_tally.specs.Reason.{first_some, overstay}
use Rattle.ats_tally.proofs.Lists.{All-found, IsFound, found_is, option_cases}
use Rattle.ats_bound.specs.Least.{least_row, least_certificate}
use Rattle.ats_bound.specs.First.{RowMayStay}
use Rattle.ats_bound.proofs.Breaches.{all_kept}
use Rattle.ats_bound.proofs.FoundReason.{stay_tests}
use Rattle.ats_bound.proofs.LeastHolds.{least_rows}
use Rattle.ats_bound.proofs.NoneHolds.{IsLeastOf, each_least, no_none, row_at}

module _ (network : DeclaredNetwork) (port class : ℕ) where
  -- a row that is found for a port and a class is their least row, and they are used
  pub record IsTheirs (row : Row) : Type 0 where
    pub used : is_used network port class ≡ true
    pub is : row ≡ least_row network (port, class)

  theirs : (row : Row) → row_of (least_certificate network) port class ≡ Some row → IsTheirs row
  theirs row found =
      let f : IsFound (is_row_of port class) (least_certificate network) row =
      found_is (is_row_of port class) (least_certificate network) row found in
      let at = row_at row port class f.passes in
      let of : IsLeastOf network row =
      All-found (IsLeastOf network) (is_row_of port class) (least_certificate network) row (each_least network) found in
      record {
        used = ap (λ (n : ℕ). is_used network port n) (sym at.1)
            ∙ ap (λ (n : ℕ). is_used network n row.class) (sym at.0) ∙ of.used;
        is = of.is ∙ ap (λ (n : ℕ). least_row network (n, row.class)) at.0
            ∙ ap (λ (n : ℕ). least_row network (port, n)) at.1;
      }

  -- where some stream is there, their least row is found
  pub row_found : IsNetwork network → is_used network port class ≡ true
      → row_of (least_certificate network) port class ≡ Some (least_row network (port, class))
  row_found is used =
      elim (option_cases (row_of (least_certificate network) port class)) as (λ _.
      row_of (least_certificate network) port class ≡ Some (least_row network (port, class))) [
        | inl none ↦ absurd (no_none (row_of (least_certificate network) port class) none
            ((least_rows network is).complete port class used))
        | inr some ↦ some.1 ∙ ap (λ (row : Row). Some row) (theirs some.0 some.1).is
      ]

  -- and where none is, no row is found
  pub none_found : is_used network port class ≡ false → row_of (least_certificate network) port class ≡ None
  none_found unused =
      elim (option_cases (row_of (least_certificate network) port class)) as (λ _.
      row_of (least_certificate network) port class ≡ None) [
        | inl none ↦ none
        | inr some ↦ absurd (true≢false (sym (theirs some.0 some.1).used ∙ unused))
      ]

  pub bound_used : IsNetwork network → is_used network port class ≡ true
      → bound_at (least_certificate network) port class ≡ (least_row network (port, class)).bound
  bound_used is used =
      ap (λ (o : Option Row). unwrap_or (option_map (λ (row : Row). row.bound) o) 0) (row_found is used)

  pub bound_unused : is_used network port class ≡ false → bound_at (least_certificate network) port class ≡ 0
  bound_unused unused =
      ap (λ (o : Option Row). unwrap_or (option_map (λ (row : Row). row.bound) o) 0) (none_found unused)

  -- where no row needs too long a residence, theirs does not
  pub may_stay : IsNetwork network → first_some (overstay network) (least_certificate network) ≡ None
      → is_used network port class ≡ true → MayStay network port (least_row network (port, class)).wait
  may_stay is none used =
      All-found (RowMayStay network) (is_row_of port class) (least_certificate network)
      (least_row network (port, class)) (all_kept (overstay network) (RowMayStay network) (least_certificate network)
      (stay_tests network (least_certificate network)) none)
      (row_found is used)
