-- A refusal is given exactly where it is the first that is due.
use Rattle.std.proofs.Common.{◌≡◌, ℕ, ◌+◌, ◌≤◌, true, false, List, Option, Some, None, sym, ap, ◌∙◌, inl}
use Rattle.std.proofs.Common.{inr, eqb, arith}
use Rattle.std.specs.Prelude.{nat_lt, is_some}
use Rattle.std.specs.List.{All}
use Rattle.ats_bound.proofs.Reasons.{stays_over}
use Rattle.ats_num.specs.declared.time.TheConstants.{PS_PER_SECOND}
use Rattle.ats_topology.specs.Port.{port_at}
use Rattle.ats_network.specs.Network.{DeclaredNetwork, IsNetwork}
use Rattle.ats_network.specs.Residence.{residence_after}
use Rattle.ats_certificate.specs.PortSums.{port_sums, is_used}
use Rattle.ats_certificate.specs.Used.{places_of}
use Rattle.ats_certificate.specs.Certificate.{HasRows, FitsLink, Covers, RowHolds, row_of, bound_of}
use Rattle.ats_certificate.specs.declared.row.Row.{Row}
use Rattle.ats_tally.specs.Waits.{least_wait}
use Rattle.ats_tally.specs.Reason.{first_some, overload_in, overstay, row_need, late}
use Rattle.ats_tally.specs.declared.reason.Reason.TheVariants.{Overloaded, Residence, Deadline}
use Rattle.ats_tally.proofs.Lists.{option_cases}
use Rattle.ats_tally.proofs.Places.{Precedes, is_place}
use Rattle.ats_bound.proofs.Breaches.{none_given, given_at, or_past, at_some, true_if, not_less}
use Rattle.ats_bound.proofs.FirstReason.{by_overdue}
use Rattle.ats_bound.proofs.FoundReason.{stay_tests}
use Rattle.ats_bound.proofs.Waits.{least_row-only}
use Rattle.ats_checker.specs.First.{IsFirst, IsUsed, IsRight, fields, said, due, IsMissing, IsStray, IsWrong}
use Rattle.ats_checker.specs.First.{IsOverload, IsShort, IsOverstay, IsLate}
use Rattle.ats_checker.specs.Refusal.{missing, stray, wrong_in, short, of_network, refusal_of}
use Rattle.ats_checker.specs.declared.refusal.Field.{Field}
use Rattle.ats_checker.specs.declared.refusal.Refusal.{Refusal}
use Rattle.ats_checker.specs.declared.refusal.Refusal.TheVariants.{RowMissing, RowStray, FieldWrong, WaitTooSmall}
use Rattle.ats_checker.specs.declared.refusal.Refusal.TheVariants.{Network}
use Rattle.ats_checker.proofs.Refused.{complete_from, none_missing}
use Rattle.ats_checker.proofs.Breaches.{breach_keeps, false_if}
use Rattle.ats_checker.specs.Laws.{EachRefusalIsTheFirst}
use Rattle.ats_checker.proofs.FirstFound.{IsSaid, Stays, Waits, enough_tests, field_tests, field_wrong, fields_are}
use Rattle.ats_checker.proofs.FirstFound.{first_from, fit_tests, missing_where, place_is, right_tests, used_tests}

-- the first that is due is the refusal
module _ (network : DeclaredNetwork) (rows : List Row) (is : IsNetwork network) where
  -- of two places that are the first without a row neither comes before the other
  not_before : (p c port class : ℕ) → IsMissing network rows p c → IsMissing network rows port class
      → Precedes (p, c) (port, class) → ⊥
  not_before p c port class a b less =
      let there : is_some (row_of rows p c) ≡ true = b.before p c a.used less in
      let gone : false ≡ true = ap (λ (o : Option Row). is_some o) (sym a.none) ∙ there in
      cc

  one_missing : (p c port class : ℕ) → IsMissing network rows p c → IsMissing network rows port class
      → RowMissing p c ≡ RowMissing port class
  one_missing p c port class a b =
      let port_most : port ≤ p = not_less p port (λ h. not_before p c port class a b (inl h)) in
      let port_least : p ≤ port = not_less port p (λ h. not_before port class p c b a (inl h)) in
      let same : p ≡ port = omega (arith, port_most, port_least) in
      let class_most : class ≤ c = not_less c class (λ h. not_before p c port class a b (inr (same, h))) in
      let class_least : c ≤ class = not_less class c (λ h. not_before port class p c b a (inr (sym same, h))) in
      let also : c ≡ class = omega (arith, class_most, class_least) in
      ap (λ (n : ℕ). RowMissing n c) same ∙ ap (λ (n : ℕ). RowMissing port n) also

  by_missing : (port class : ℕ) → IsMissing network rows port class
      → first_some (missing rows) (places_of network) ≡ Some (RowMissing port class)
  by_missing port class m = elim (option_cases (first_some (missing rows) (places_of network))) as (λ _.
      first_some (missing rows) (places_of network) ≡ Some (RowMissing port class)) [
        | inl none ↦ absurd (
            let there : is_some (row_of rows port class) ≡ true =
            complete_from network rows is none port class m.used in
            let gone : false ≡ true = ap (λ (o : Option Row). is_some o) (sym m.none) ∙ there in
            cc)
        | inr some ↦ some.1 ∙ ap (λ (r : Refusal). Some r) (missing_where network rows is
            (λ (r : Refusal). r ≡ RowMissing port class) (λ p c a. one_missing p c port class a m) some.0 some.1)
      ]

  by_stray : (port class : ℕ) → IsStray network rows port class
      → first_some (stray network) rows ≡ Some (RowStray port class)
  by_stray port class s =
      given_at (stray network) (IsUsed network) rows s.row (RowStray port class) (used_tests network rows is) s.first
      (λ some. false_if (is_used network s.row.port s.row.class) (RowStray s.row.port s.row.class) some
      ∙ place_is (λ p c. Some (RowStray p c)) port class s.row s.place)

  by_wrong : (port class : ℕ) (f : Field) (right : ℕ) → IsWrong network rows port class f right
      → first_some (wrong_in network) rows ≡ Some (FieldWrong port class f right)
  by_wrong port class f right w =
      given_at (wrong_in network) (IsRight network) rows w.row (FieldWrong port class f right)
      (right_tests network rows is) w.fault.first
      (λ _. sym (fields_are network w.row)
      ∙ given_at (field_wrong network w.row) (IsSaid network w.row) fields f (FieldWrong port class f right)
      (field_tests network w.row) w.first
      (λ some. false_if (eqb (said w.row f) (due network w.row f))
      (FieldWrong w.row.port w.row.class f (due network w.row f)) some
      ∙ place_is (λ p c. Some (FieldWrong p c f (due network w.row f))) port class w.row w.fault.place
      ∙ ap (λ (n : ℕ). Some (FieldWrong port class f n)) (sym w.is)))

  by_overload : (port class load : ℕ) → IsOverload network rows port class load
      → first_some overload_in rows ≡ Some (Overloaded port class load)
  by_overload port class load o =
      given_at overload_in FitsLink rows o.row (Overloaded port class load) (fit_tests network rows is) o.fault.first
      (λ some. true_if (nat_lt PS_PER_SECOND (o.row.higher + o.row.equal))
      (Overloaded o.row.port o.row.class (o.row.higher + o.row.equal)) some
      ∙ place_is (λ p c. Some (Overloaded p c (o.row.higher + o.row.equal))) port class o.row o.fault.place
      ∙ ap (λ (n : ℕ). Some (Overloaded port class n)) (sym o.is))

  by_short : (port class wait : ℕ) → IsShort network rows port class wait
      → first_some (short network) rows ≡ Some (WaitTooSmall port class wait)
  by_short port class wait s =
      let row : Row = s.row in
      let least : ℕ = least_wait (port_at network.topology.ports row.port) (port_sums network row.port row.class) in
      let used : IsUsed network row =
      breach_keeps (Waits network) (IsUsed network) rows row s.fault.rows_of.used s.fault.first in
      let same : wait ≡ least =
      ap (λ (r : Row). r.wait) (least_row-only network
      (record row { wait = wait; bound = bound_of (port_at network.topology.ports row.port) wait row.least })
      (is_place network row.port row.class is used) s.is) in
      given_at (short network) (Waits network) rows row (WaitTooSmall port class wait)
      (enough_tests network rows is s.fault.rows_of.used s.fault.kept) s.fault.first
      (λ some. true_if (nat_lt row.wait least) (WaitTooSmall row.port row.class least) some
      ∙ place_is (λ p c. Some (WaitTooSmall p c least)) port class row s.fault.place
      ∙ ap (λ (n : ℕ). Some (WaitTooSmall port class n)) (sym same))

  by_overstay : (port class need : ℕ) → IsOverstay network rows port class need
      → first_some (overstay network) rows ≡ Some (Residence port class need)
  by_overstay port class need o =
      given_at (overstay network) (Stays network) rows o.row (Residence port class need)
      (stay_tests network rows) o.fault.first
      (λ some. stays_over o.row (row_need network o.row) (residence_after network.topology o.row.port) some
      ∙ place_is (λ p c. Some (Residence p c (row_need network o.row))) port class o.row o.fault.place
      ∙ ap (λ (n : ℕ). Some (Residence port class n)) (sym o.is))

  by_late : (name : List ℕ) (listener : Option (List ℕ)) (along : ℕ) → IsLate network rows name listener along
      → first_some (late network.topology rows) network.streams ≡ Some (Deadline name listener along)
  by_late name listener along l = by_overdue network rows name listener along l.overdue

  -- nothing is found before the rule that fails
  no_missing : HasRows network rows → first_some (missing rows) (places_of network) ≡ None
  no_missing rows_of = none_missing network rows rows_of.complete

  no_stray : HasRows network rows → first_some (stray network) rows ≡ None
  no_stray rows_of = none_given (stray network) (IsUsed network) rows (used_tests network rows is) rows_of.used

  no_wrong : All (IsRight network) rows → first_some (wrong_in network) rows ≡ None
  no_wrong right = none_given (wrong_in network) (IsRight network) rows (right_tests network rows is) right

  no_overload : All FitsLink rows → first_some overload_in rows ≡ None
  no_overload fits = none_given overload_in FitsLink rows (fit_tests network rows is) fits

  no_short : HasRows network rows → All (Covers network) rows → first_some (short network) rows ≡ None
  no_short rows_of covers =
      none_given (short network) (Waits network) rows
      (enough_tests network rows is rows_of.used
      (λ k d h. (record { sums = (covers k d h).sums; bound = (covers k d h).bound }, (covers k d h).load)))
      (λ k d h. (covers k d h).wait)

  no_overstay : All (RowHolds network) rows → first_some (overstay network) rows ≡ None
  no_overstay holds =
      none_given (overstay network) (Stays network) rows (stay_tests network rows) (λ k d h. (holds k d h).residence)

  covers_right : All (Covers network) rows → All (IsRight network) rows
  covers_right covers = λ k d h. record { sums = (covers k d h).sums; bound = (covers k d h).bound }

  refusal_by : (refusal : Refusal) → IsFirst network rows refusal → refusal_of network rows ≡ Some refusal
  refusal_by (RowMissing port class) m = at_some _ _ _ (by_missing port class m)
  refusal_by (RowStray port class) s =
      or_past _ _ _ (none_missing network rows s.complete) (at_some _ _ _ (by_stray port class s))
  refusal_by (FieldWrong port class f right) w =
      or_past _ _ _ (no_missing w.fault.rows_of)
      (or_past _ _ _ (no_stray w.fault.rows_of) (at_some _ _ _ (by_wrong port class f right w)))
  refusal_by (Network (Overloaded port class load)) o =
      or_past _ _ _ (no_missing o.fault.rows_of)
      (or_past _ _ _ (no_stray o.fault.rows_of) (or_past _ _ _ (no_wrong o.fault.kept)
      (at_some _ _ _ (ap of_network (by_overload port class load o)))))
  refusal_by (WaitTooSmall port class wait) s =
      or_past _ _ _ (no_missing s.fault.rows_of)
      (or_past _ _ _ (no_stray s.fault.rows_of) (or_past _ _ _ (no_wrong (λ k d h. (s.fault.kept k d h).0))
      (or_past _ _ _ (ap of_network (no_overload (λ k d h. (s.fault.kept k d h).1)))
      (at_some _ _ _ (by_short port class wait s)))))
  refusal_by (Network (Residence port class need)) o =
      or_past _ _ _ (no_missing o.fault.rows_of)
      (or_past _ _ _ (no_stray o.fault.rows_of) (or_past _ _ _ (no_wrong (covers_right o.fault.kept))
      (or_past _ _ _ (ap of_network (no_overload (λ k d h. (o.fault.kept k d h).load)))
      (or_past _ _ _ (no_short o.fault.rows_of o.fault.kept)
      (at_some _ _ _ (ap of_network (by_overstay port class need o)))))))
  refusal_by (Network (Deadline name listener along)) l =
      let covers : All (Covers network) rows = λ k d h. (l.kept k d h).covers in
      or_past _ _ _ (no_missing l.rows_of)
      (or_past _ _ _ (no_stray l.rows_of) (or_past _ _ _ (no_wrong (covers_right covers))
      (or_past _ _ _ (ap of_network (no_overload (λ k d h. (covers k d h).load)))
      (or_past _ _ _ (no_short l.rows_of covers)
      (or_past _ _ _ (ap of_network (no_overstay l.kept))
      (ap of_network (by_late name listener along l)))))))

pub each_refusal_is_the_first : EachRefusalIsTheFirst
each_refusal_is_the_first network rows refusal is ordered =
    (first_from network rows is ordered refusal, refusal_by network rows is refusal)
