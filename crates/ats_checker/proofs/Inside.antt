-- The ports that refusals name.
use Rattle.std.proofs.Common.{◌≡◌, ℕ, ◌+◌, ◌<◌, List, length, get_or, Option, Some, None, refl, subst}
use Rattle.std.specs.Prelude.{is_some, ◌==◌}
use Rattle.std.proofs.lemmas.Option.{none-some, same_Some}
use Rattle.ats_streams.specs.Stream.{DeclaredStream}
use Rattle.ats_network.specs.Listeners.{Listener, listeners_of}
use Rattle.ats_network.specs.Network.{DeclaredNetwork, IsNetwork}
use Rattle.ats_network.specs.Residence.{residence_after}
use Rattle.ats_certificate.specs.PortSums.{PortSums, is_used}
use Rattle.ats_certificate.specs.Certificate.{row_of, bound_on}
use Rattle.ats_certificate.specs.Used.{places_of}
use Rattle.ats_certificate.specs.declared.row.Row.{Row}
use Rattle.ats_tally.specs.Reason.{first_some, overload_in, overstay, row_need, late, late_for, ReasonInside}
use Rattle.ats_tally.specs.declared.reason.Reason.{Reason}
use Rattle.ats_tally.proofs.Firsts.{first_where, or_where, where_passed, where_failed}
use Rattle.ats_tally.proofs.Reasons.{overload_inside, overstay_inside, late_inside}
use Rattle.ats_tally.proofs.Places.{is_place, places_used}
use Rattle.ats_checker.specs.Ports.{RefusalInside, RowsInside}
use Rattle.ats_checker.specs.Refusal.{missing, stray, wrong, wrong_by, wrong_in, short, of_network, refusal_of}
use Rattle.ats_checker.specs.declared.refusal.Field.{Field}
use Rattle.ats_checker.specs.declared.refusal.Field.TheVariants as field
use Rattle.ats_checker.specs.declared.refusal.Refusal.{Refusal}
use Rattle.ats_checker.specs.declared.refusal.Refusal.TheVariants.{RowMissing, RowStray, FieldWrong, Network}

-- a reason of the network, as a refusal
pub by_network : (P : Refusal → Type 0) (o : Option Reason) (found : Refusal)
    → ((reason : Reason) → o ≡ Some reason → P (Network reason)) → of_network o ≡ Some found → P found
by_network P None found so h = absurd (none-some found h)
by_network P (Some reason) found so h = subst P (same_Some (Network reason) found h) (so reason refl)

module _ (network : DeclaredNetwork) (rows : List Row) (is : IsNetwork network) where
  abbrev pub Inside : Refusal → Type 0
  Inside = RefusalInside network.topology

  of_missing : (found : Refusal) → first_some (missing rows) (places_of network) ≡ Some found → Inside found
  of_missing found = first_where (missing rows) Inside (places_of network) found
      (λ k d h b some. (
      let at = get_or (places_of network) k d in
      where_passed Inside (is_some (row_of rows at.0 at.1)) (RowMissing at.0 at.1) b
      (is_place network at.0 at.1 is (places_used network k d h)).within some))

  of_wrong : (row : Row) (f : Field) (given right : ℕ) (found : Refusal) → row.port < length network.topology.ports
      → wrong row f given right ≡ Some found → Inside found
  of_wrong row f given right found inside =
      where_passed Inside (given == right) (FieldWrong row.port row.class f right) found inside

  of_fields : (row : Row) (sums : PortSums) (bound : ℕ) (found : Refusal) → row.port < length network.topology.ports
      → wrong_by row sums bound ≡ Some found → Inside found
  of_fields row sums bound found inside =
      or_where Inside _ _ found (of_wrong row field.Higher row.higher sums.higher found inside)
      (or_where Inside _ _ found (of_wrong row field.Equal row.equal sums.equal found inside)
      (or_where Inside _ _ found (of_wrong row field.Bursts row.bursts sums.bursts found inside)
      (or_where Inside _ _ found (of_wrong row field.Lower row.lower sums.lower found inside)
      (or_where Inside _ _ found (of_wrong row field.Least row.least sums.least found inside)
      (of_wrong row field.Bound row.bound bound found inside)))))

  of_load : (reason : Reason) → RowsInside network.topology rows → first_some overload_in rows ≡ Some reason
      → Inside (Network reason)
  of_load reason all = first_where overload_in (ReasonInside network.topology) rows reason
      (λ k d h b. (
      let row : Row = get_or rows k d in
      overload_inside network.topology row.port row.class (row.higher + row.equal) b (all k d h)))

  of_stay : (reason : Reason) → RowsInside network.topology rows → first_some (overstay network) rows ≡ Some reason
      → Inside (Network reason)
  of_stay reason all = first_where (overstay network) (ReasonInside network.topology) rows reason
      (λ k d h b. (
      let row : Row = get_or rows k d in
      overstay_inside network.topology row (row_need network row) (residence_after network.topology row.port) b
      (all k d h)))

  of_late : (reason : Reason) → first_some (late network.topology rows) network.streams ≡ Some reason
      → Inside (Network reason)
  of_late reason = first_where (late network.topology rows) (ReasonInside network.topology) network.streams reason
      (λ k d h b. (
      let stream : DeclaredStream = get_or network.streams k d in
      let listeners : List Listener = listeners_of network.topology stream in
      first_where (late_for rows stream) (ReasonInside network.topology) listeners b
      (λ n e w reason. (
      let l : Listener = get_or listeners n e in
      late_inside network.topology stream l.name (bound_on rows stream l.route) reason))))

  -- the port that is named is there, where the port of each row is
  pub refusal_inside : RowsInside network.topology rows → (found : Refusal) → refusal_of network rows ≡ Some found
      → Inside found
  refusal_inside all found =
      or_where Inside _ _ found (of_missing found)
      (or_where Inside _ _ found (first_where (stray network) Inside rows found
      (λ k d h b. where_passed Inside (is_used network (get_or rows k d).port (get_or rows k d).class)
      (RowStray (get_or rows k d).port (get_or rows k d).class) b (all k d h)))
      (or_where Inside _ _ found (first_where (wrong_in network) Inside rows found
      (λ k d h b some. of_fields (get_or rows k d) _ _ b (all k d h) some))
      (or_where Inside _ _ found (by_network Inside (first_some overload_in rows) found (λ reason. of_load reason all))
      (or_where Inside _ _ found (first_where (short network) Inside rows found
      (λ k d h b. where_failed Inside _ _ b (all k d h)))
      (or_where Inside _ _ found
      (by_network Inside (first_some (overstay network) rows) found (λ reason. of_stay reason all))
      (by_network Inside (first_some (late network.topology rows) network.streams) found of_late))))))
