-- A reason is found exactly where it is the first, so no more than one is.
use Rattle.std.proofs.Common.{◌≡◌, ℕ, ◌*◌, ◌≤◌, true, List, Option, Some, None, sym, ap, subst, ◌∙◌, inl, inr}
use Rattle.std.proofs.Common.{get_or, arith}
use Rattle.std.specs.Prelude.{nat_lt}
use Rattle.std.specs.List.{All}
use Rattle.std.proofs.lemmas.Option.{same_Some}
use Rattle.ats_bound.proofs.Reasons.{stays_over}
use Rattle.ats_num.specs.declared.time.TheConstants.{PS_PER_SECOND, PS_PER_NS}
use Rattle.ats_network.specs.Listeners.{Listener, listeners_of}
use Rattle.ats_network.specs.Network.{DeclaredNetwork, IsNetwork}
use Rattle.ats_network.specs.Residence.{residence_after}
use Rattle.ats_certificate.specs.PortSums.{is_used}
use Rattle.ats_certificate.specs.Certificate.{IsInTime, bound_on, is_row_of, row_of}
use Rattle.ats_certificate.specs.Least.{IsLeastRow, IsLeastCertificate}
use Rattle.ats_certificate.specs.Used.{places_of}
use Rattle.ats_certificate.specs.declared.row.Row.{Row}
use Rattle.ats_tally.specs.Reason.{first_some, overstay, row_need, late, late_for}
use Rattle.ats_tally.specs.declared.reason.Reason.{Reason}
use Rattle.ats_tally.specs.declared.reason.Reason.TheVariants.{Overloaded, Residence, Deadline}
use Rattle.ats_tally.proofs.Lists.{All-found, IsFound, found_is, option_cases}
use Rattle.ats_tally.proofs.Places.{Precedes, places_used}
use Rattle.ats_bound.specs.First.{IsFirstOverdue, IsFirstOverload, IsFirstOverstay, IsFirstLate, IsFirstReason}
use Rattle.ats_bound.specs.First.{RowMayStay}
use Rattle.ats_bound.specs.Laws.{EachReasonIsTheFirst, FirstReasonIsOne}
use Rattle.ats_bound.specs.Least.{least_certificate}
use Rattle.ats_bound.specs.Reason.{load_at, overload, reason_of}
use Rattle.ats_bound.proofs.Breaches.{none_given, given_at, at_some, or_past, true_if, not_less}
use Rattle.ats_bound.proofs.FoundReason.{FitsAt, InTimeAt, each_fits, found_is_first, listener_tests, load_tests}
use Rattle.ats_bound.proofs.FoundReason.{of_load, stay_tests, time_tests}
use Rattle.ats_bound.proofs.NoneHolds.{no_none, row_at}
use Rattle.ats_bound.proofs.OneLeast.{least_certificate_is_one}
use Rattle.ats_bound.proofs.Waits.{Fits, load-is}

-- the first stream that is late, and its first listener for which it is, are found
pub by_overdue : (network : DeclaredNetwork) (rows : List Row) (name : List ℕ) (listener : Option (List ℕ)) (along : ℕ)
    → IsFirstOverdue network rows name listener along
    → first_some (late network.topology rows) network.streams ≡ Some (Deadline name listener along)
by_overdue network rows name listener along o =
    let listeners : List Listener = listeners_of network.topology o.stream in
    let sum : ℕ = bound_on rows o.stream o.there.route in
    given_at (late network.topology rows) (IsInTime rows) network.streams o.stream (Deadline name listener along)
    (time_tests network rows) o.first
    (λ _. given_at (late_for rows o.stream) (InTimeAt rows o.stream) listeners o.there (Deadline name listener along)
    (listener_tests rows o.stream listeners) o.first_there
    (λ some. true_if (nat_lt (PS_PER_NS * o.stream.deadline_ns) sum) (Deadline o.stream.name o.there.name sum) some
    ∙ ap (λ (n : List ℕ). Some (Deadline n o.there.name sum)) o.name_is
    ∙ ap (λ (l : Option (List ℕ)). Some (Deadline name l sum)) o.listener_is
    ∙ ap (λ (n : ℕ). Some (Deadline name listener n)) o.along_is))

module _ (network : DeclaredNetwork) (is : IsNetwork network) where
  -- of two places that are the first overloaded neither comes before the other
  not_before : (p c l port class load : ℕ) → IsFirstOverload network p c l → IsFirstOverload network port class load
      → Precedes (p, c) (port, class) → ⊥
  not_before p c l port class load a b less =
      let fits : load_at network (p, c) ≤ PS_PER_SECOND = b.before p c a.used less in
      omega (arith, fits, a.over, a.load_is)

  one_load : (p c l port class load : ℕ) → IsFirstOverload network p c l → IsFirstOverload network port class load
      → Overloaded p c l ≡ Overloaded port class load
  one_load p c l port class load a b =
      let port_most : port ≤ p = not_less p port (λ h. not_before p c l port class load a b (inl h)) in
      let port_least : p ≤ port = not_less port p (λ h. not_before port class load p c l b a (inl h)) in
      let port_is : p ≡ port = omega (arith, port_most, port_least) in
      let class_most : class ≤ c =
      not_less c class (λ h. not_before p c l port class load a b (inr (port_is, h))) in
      let class_least : c ≤ class =
      not_less class c (λ h. not_before port class load p c l b a (inr (sym port_is, h))) in
      let class_is : c ≡ class = omega (arith, class_most, class_least) in
      let load_is : l ≡ load = sym a.load_is ∙ ap (λ (n : ℕ). load_at network (n, c)) port_is
      ∙ ap (λ (n : ℕ). load_at network (port, n)) class_is ∙ b.load_is in
      ap (λ (n : ℕ). Overloaded n c l) port_is ∙ ap (λ (n : ℕ). Overloaded port n l) class_is
      ∙ ap (λ (n : ℕ). Overloaded port class n) load_is

  by_load : (port class load : ℕ) → IsFirstOverload network port class load
      → first_some (overload network) (places_of network) ≡ Some (Overloaded port class load)
  by_load port class load first = elim (option_cases (first_some (overload network) (places_of network))) as (λ _.
      first_some (overload network) (places_of network) ≡ Some (Overloaded port class load)) [
        | inl none ↦ absurd (
            let fits : load_at network (port, class) ≤ PS_PER_SECOND =
            each_fits network is none port class first.used in
            omega (arith, fits, first.over, first.load_is))
        | inr some ↦ some.1 ∙ ap (λ (r : Reason). Some r) (of_load network is
            (λ (r : Reason). r ≡ Overloaded port class load) (λ p c l other. one_load p c l port class load other first)
            some.0 some.1)
      ]

  -- where there is the least certificate, each place that is used fits its link
  fits_least : (rows : List Row) → IsLeastCertificate network rows → (port class : ℕ)
      → is_used network port class ≡ true → Fits network port class
  fits_least rows least port class used = elim (option_cases (row_of rows port class)) as (λ _.
      Fits network port class) [
        | inl none ↦ absurd (no_none (row_of rows port class) none (least.rows_of.complete port class used))
        | inr some ↦ (
            let row : Row = some.0 in
            let f : IsFound (is_row_of port class) rows row = found_is (is_row_of port class) rows row some.1 in
            let at = row_at row port class f.passes in
            let of : IsLeastRow network row =
            All-found (IsLeastRow network) (is_row_of port class) rows row least.each some.1 in
            subst (λ (n : ℕ). Fits network n class) at.0
            (subst (λ (n : ℕ). Fits network row.port n) at.1 (load-is network row of.covers)))
      ]

  no_load : (rows : List Row) → IsLeastCertificate network rows
      → first_some (overload network) (places_of network) ≡ None
  no_load rows least =
      none_given (overload network) (FitsAt network) (places_of network) (load_tests network (places_of network))
      (λ k d h. (
      let at = get_or (places_of network) k d in
      fits_least rows least at.0 at.1 (places_used network k d h)))

  -- what is found in the least certificate is found in the one that is computed
  by_stay : (port class need : ℕ) → IsFirstOverstay network port class need
      → first_some (overstay network) (least_certificate network) ≡ Some (Residence port class need)
  by_stay port class need o =
      ap (λ (rows : List Row). first_some (overstay network) rows)
      (sym (least_certificate_is_one network o.rows is o.least))
      ∙ given_at (overstay network) (RowMayStay network) o.rows o.row (Residence port class need)
      (stay_tests network o.rows) o.first
      (λ some. stays_over o.row (row_need network o.row) (residence_after network.topology o.row.port) some
      ∙ ap (λ (n : ℕ). Some (Residence n o.row.class (row_need network o.row))) o.port_is
      ∙ ap (λ (n : ℕ). Some (Residence port n (row_need network o.row))) o.class_is
      ∙ ap (λ (n : ℕ). Some (Residence port class n)) o.need_is)

  no_stay : (rows : List Row) → IsLeastCertificate network rows → All (RowMayStay network) rows
      → first_some (overstay network) (least_certificate network) ≡ None
  no_stay rows least stay =
      ap (λ (rs : List Row). first_some (overstay network) rs) (sym (least_certificate_is_one network rows is least))
      ∙ none_given (overstay network) (RowMayStay network) rows (stay_tests network rows) stay

  by_late : (name : List ℕ) (listener : Option (List ℕ)) (along : ℕ) → IsFirstLate network name listener along
      → first_some (late network.topology (least_certificate network)) network.streams
      ≡ Some (Deadline name listener along)
  by_late name listener along l =
      ap (λ (rows : List Row). first_some (late network.topology rows) network.streams)
      (sym (least_certificate_is_one network l.rows is l.least))
      ∙ by_overdue network l.rows name listener along l.overdue

  first_is_found : (reason : Reason) → IsFirstReason network reason → reason_of network ≡ Some reason
  first_is_found (Overloaded port class load) o = at_some _ _ _ (by_load port class load o)
  first_is_found (Residence port class need) o =
      or_past _ _ _ (no_load o.rows o.least) (at_some _ _ _ (by_stay port class need o))
  first_is_found (Deadline name listener along) l =
      or_past _ _ _ (no_load l.rows l.least)
      (or_past _ _ _ (no_stay l.rows l.least l.stay) (by_late name listener along l))

pub each_reason_is_the_first : EachReasonIsTheFirst
each_reason_is_the_first network reason is =
    (found_is_first network is reason, first_is_found network is reason)

pub first_reason_is_one : FirstReasonIsOne
first_reason_is_one network a b is first second =
    same_Some a b (sym (first_is_found network is a first) ∙ first_is_found network is b second)
