-- The refusal that is found is the first that is due.
use Rattle.std.proofs.Common.{◌≡◌, ℕ, ◌+◌, ◌-◌, ◌*◌, true, List, ◌∷◌, ◌++◌, get_or, Option, Some, None, refl}
use Rattle.std.proofs.Common.{sym, ap, subst, ◌∙◌, inl, inr, eqb, arith}
use Rattle.std.specs.Prelude.{nat_lt, is_some}
use Rattle.std.specs.List.{All, AllPairs, list_any}
use Rattle.std.specs.Option.{option_or}
use Rattle.std.proofs.lemmas.Bool.{and_from, and_parts, eqb-true, eq-eqb, or_cases}
use Rattle.std.proofs.lemmas.List.Elements.{All-head}
use Rattle.std.proofs.lemmas.List.Folds.{list_any-append}
use Rattle.std.proofs.lemmas.Option.{none-some}
use Rattle.ats_facts.proofs.Options.{is_some-false}
use Rattle.ats_facts.proofs.Lists.{all_right}
use Rattle.ats_num.specs.declared.time.TheConstants.{PS_PER_SECOND, PS_PER_NS}
use Rattle.ats_topology.specs.Port.{port_at}
use Rattle.ats_network.specs.Network.{DeclaredNetwork, IsNetwork}
use Rattle.ats_network.specs.Residence.{residence_after}
use Rattle.ats_certificate.specs.PortSums.{PortSums, port_sums, is_used}
use Rattle.ats_certificate.specs.Used.{places_of}
use Rattle.ats_certificate.specs.Certificate.{HasRows, HasSums, FitsLink, IsEnough, MayStay, Covers, RowHolds}
use Rattle.ats_certificate.specs.Certificate.{IsBefore, is_row_of, row_of, bound_of}
use Rattle.ats_certificate.specs.Least.{IsLeastRow}
use Rattle.ats_certificate.specs.declared.row.Row.{Row}
use Rattle.ats_tally.specs.Waits.{least_wait}
use Rattle.ats_tally.specs.Reason.{first_some, overload_in, overstay_by, overstay, row_need, late}
use Rattle.ats_tally.specs.declared.reason.Reason.{Reason}
use Rattle.ats_tally.specs.declared.reason.Reason.TheVariants.{Overloaded, Residence}
use Rattle.ats_tally.proofs.Places.{IsPlace, IsUsedAt, Precedes, is_at, is_place, places_used, places_ordered}
use Rattle.ats_tally.proofs.Places.{places_have}
use Rattle.ats_bound.proofs.Breaches.{StandsAt, stands_at, it_keeps, Tests, all_kept, breach_at, or_else, if_true}
use Rattle.ats_bound.proofs.FoundReason.{not_from, of_overdue, stay_tests}
use Rattle.ats_bound.proofs.Waits.{work-is, least_wait-is, least_wait-le}
use Rattle.ats_checker.specs.First.{IsFirst, IsFirstReasonOfRows, IsUsed, IsRight, fields, said, due, IsMissing}
use Rattle.ats_checker.specs.First.{IsRowAtFault}
use Rattle.ats_checker.specs.Refusal.{missing, stray, wrong, wrong_in, short, of_network, refusal_of}
use Rattle.ats_checker.specs.declared.refusal.Field.{Field}
use Rattle.ats_checker.specs.declared.refusal.Field.TheVariants as field
use Rattle.ats_checker.specs.declared.refusal.Refusal.{Refusal}
use Rattle.ats_checker.specs.declared.refusal.Refusal.TheVariants.{RowMissing, RowStray, FieldWrong, WaitTooSmall}
use Rattle.ats_checker.proofs.Refused.{is_given, by_given, passes, by_pass, has_row_among, complete_from, right_from}
use Rattle.ats_checker.proofs.Refused.{by_right, fits_from, by_fits, no_reason, place_fits, long_from, by_long}
use Rattle.ats_checker.proofs.Refused.{enough_from}
use Rattle.ats_checker.proofs.Inside.{by_network}
use Rattle.ats_checker.proofs.Breaches.{or_none, if_false}

-- the rules of a row and of a field, by name
abbrev pub IsFitting : DeclaredNetwork → Row → Type 0
IsFitting network row = IsRight network row × FitsLink row

abbrev pub Waits : DeclaredNetwork → Row → Type 0
Waits network row = IsEnough (port_at network.topology.ports row.port) row

abbrev pub Stays : DeclaredNetwork → Row → Type 0
Stays network row = MayStay network row.port row.wait

abbrev pub IsSaid : DeclaredNetwork → Row → Field → Type 0
IsSaid network row f = said row f ≡ due network row f

abbrev pub field_wrong : DeclaredNetwork → Row → Field → Option Refusal
field_wrong network row f = wrong row f (said row f) (due network row f)

-- a row is that of its own port and class, and what is said of these is said of the ones that it is of
pub own_place : (row : Row) → is_row_of row.port row.class row ≡ true
own_place row = and_from (eqb row.port row.port) (eqb row.class row.class) (eq-eqb row.port row.port refl)
    (eq-eqb row.class row.class refl)

pub place_is : {X : Type 0} (of : ℕ → ℕ → X) (port class : ℕ) (row : Row) → is_row_of port class row ≡ true
    → of row.port row.class ≡ of port class
place_is of port class row h =
    let parts = and_parts (eqb row.port port) (eqb row.class class) h in
    ap (λ (n : ℕ). of n row.class) (eqb-true row.port port parts.0)
    ∙ ap (λ (n : ℕ). of port n) (eqb-true row.class class parts.1)

-- the tests of rows and streams are those of the rules
module _ (network : DeclaredNetwork) (rows : List Row) (is : IsNetwork network) where
  pub used_tests : Tests (stray network) (IsUsed network) rows
  used_tests = λ k d h. (
      let row : Row = get_or rows k d in (
        λ none. passes (is_used network row.port row.class) (RowStray row.port row.class) none,
        λ used. by_pass (is_used network row.port row.class) (RowStray row.port row.class) used,
      ))

  pub right_tests : Tests (wrong_in network) (IsRight network) rows
  right_tests =
      λ k d h. (λ none. right_from network (get_or rows k d) none, λ right. by_right network (get_or rows k d) right)

  pub fit_tests : Tests overload_in FitsLink rows
  fit_tests = λ k d h. (λ none. fits_from (get_or rows k d) none, λ fits. by_fits (get_or rows k d) fits)

  pub enough_tests : All (IsUsed network) rows → All (IsFitting network) rows
      → Tests (short network) (Waits network) rows
  enough_tests used fitting = λ k d h. (
      let row : Row = get_or rows k d in
      let at : IsPlace network row.port row.class = is_place network row.port row.class is (used k d h) in
      let fits : IsFitting network row = fitting k d h in (
        λ none. enough_from network row at fits.0 fits.1 (long_from network row none),
        λ enough. by_long network row (least_wait-le network row at
            (record { sums = fits.0.sums; bound = fits.0.bound; load = fits.1; wait = enough })),
      ))

  -- a row that is found at fault
  pub at_fault : {Before Rule : Row → Type 0} {B : Type 0} (given : Row → Option B) (found : B) → HasRows network rows
      → All Before rows → Tests given Rule rows
      → (at : StandsAt given rows found) → IsRowAtFault network rows Before Rule at.it.port at.it.class at.it
  at_fault {Before} {Rule} {B} given found rows_of kept tests at =
      record {
        rows_of = rows_of;
        kept = kept;
        place = own_place at.it;
        first = breach_at given Rule rows found tests at;
      }

-- the judgement of a row goes through its fields, one after another
pub fields_are : (network : DeclaredNetwork) (row : Row)
    → first_some (field_wrong network row) fields ≡ wrong_in network row
fields_are network row =
    ap (λ (o : Option Refusal).
    option_or (wrong row field.Higher (said row field.Higher) (due network row field.Higher))
    (option_or (wrong row field.Equal (said row field.Equal) (due network row field.Equal))
    (option_or (wrong row field.Bursts (said row field.Bursts) (due network row field.Bursts))
    (option_or (wrong row field.Lower (said row field.Lower) (due network row field.Lower))
    (option_or (wrong row field.Least (said row field.Least) (due network row field.Least)) o)))))
    (or_none (wrong row field.Bound (said row field.Bound) (due network row field.Bound)))

pub field_tests : (network : DeclaredNetwork) (row : Row) → Tests (field_wrong network row) (IsSaid network row) fields
field_tests network row = λ k d h. (
    let f : Field = get_or fields k d in (
      λ none. is_given row f (said row f) (due network row f) none,
      λ same. by_given row f (said row f) (due network row f) same,
    ))

-- the refusal that is found is the first
module _ (network : DeclaredNetwork) (rows : List Row) (is : IsNetwork network) where
  pub of_stray : (found : Refusal) → ((p c : ℕ) → is_used network p c ≡ true → is_some (row_of rows p c) ≡ true)
      → first_some (stray network) rows ≡ Some found → IsFirst network rows found
  of_stray found complete e =
      let at = stands_at (stray network) rows found e in
      if_false (IsFirst network rows) (is_used network at.it.port at.it.class) (RowStray at.it.port at.it.class) found
      (λ f. record {
        complete = complete;
        row = at.it;
        place = own_place at.it;
        first = breach_at (stray network) (IsUsed network) rows found (used_tests network rows is) at;
      })
      at.gives

  pub of_load : (found : Reason) → HasRows network rows → All (IsRight network) rows
      → first_some overload_in rows ≡ Some found
      → IsFirstReasonOfRows network rows found
  of_load found rows_of right e =
      let at = stands_at overload_in rows found e in
      if_true (IsFirstReasonOfRows network rows) (nat_lt PS_PER_SECOND (at.it.higher + at.it.equal))
      (Overloaded at.it.port at.it.class (at.it.higher + at.it.equal)) found
      (λ _. record {
        row = at.it;
        fault = at_fault network rows is overload_in found rows_of right (fit_tests network rows is) at;
        is = refl;
      })
      at.gives

  pub over_by : (row : Row) (need : ℕ) (residence : Option ℕ) (found : Reason)
      → IsFirstReasonOfRows network rows (Residence row.port row.class need)
      → overstay_by row need residence ≡ Some found → IsFirstReasonOfRows network rows found
  over_by row need None found first h = absurd (none-some found h)
  over_by row need (Some residence_ns) found first h = if_true (IsFirstReasonOfRows network rows)
      (nat_lt (PS_PER_NS * residence_ns) need) (Residence row.port row.class need) found (λ _. first) h

  pub of_stay : (found : Reason) → HasRows network rows → All (Covers network) rows
      → first_some (overstay network) rows ≡ Some found
      → IsFirstReasonOfRows network rows found
  of_stay found rows_of covers e =
      let at = stands_at (overstay network) rows found e in
      over_by at.it (row_need network at.it) (residence_after network.topology at.it.port) found
      (record {
        row = at.it;
        fault = at_fault network rows is (overstay network) found rows_of covers (stay_tests network rows) at;
        is = refl;
      })
      at.gives

  pub of_late : (found : Reason) → HasRows network rows → All (RowHolds network) rows
      → first_some (late network.topology rows) network.streams ≡ Some found → IsFirstReasonOfRows network rows found
  of_late found rows_of holds =
      of_overdue network rows (IsFirstReasonOfRows network rows)
      (λ name listener along overdue. record { rows_of = rows_of; kept = holds; overdue = overdue }) found

  pub missing_where : (P : Refusal → Type 0) → ((p c : ℕ) → IsMissing network rows p c → P (RowMissing p c))
      → (found : Refusal) → first_some (missing rows) (places_of network) ≡ Some found → P found
  missing_where P so found e =
      let at = stands_at (missing rows) (places_of network) found e in
      let used : All (IsUsedAt network) (at.before ++ at.it ∷ at.after) =
      subst (λ (ps : List (ℕ × ℕ)). All (IsUsedAt network) ps) (sym at.cut) (places_used network) in
      let ordered : AllPairs Precedes (at.before ++ at.it ∷ at.after) =
      subst (λ (ps : List (ℕ × ℕ)). AllPairs Precedes ps) (sym at.cut) (places_ordered network) in
      if_false P (is_some (row_of rows at.it.0 at.it.1)) (RowMissing at.it.0 at.it.1) found
      (λ f. so at.it.0 at.it.1 (record {
        used =
            All-head (IsUsedAt network) at.it at.after (all_right (IsUsedAt network) at.before (at.it ∷ at.after) used);
        none = is_some-false (row_of rows at.it.0 at.it.1) f;
        before = λ p c u less. (
            let any : list_any (is_at p c) (at.before ++ at.it ∷ at.after) ≡ true = subst
            (λ (ps : List (ℕ × ℕ)). list_any (is_at p c) ps ≡ true) (sym at.cut) (places_have network p c is u) in
            elim (or_cases (list_any (is_at p c) at.before) (list_any (is_at p c) (at.it ∷ at.after))
            (sym (list_any-append (is_at p c) at.before (at.it ∷ at.after)) ∙ any)) as (λ _.
            is_some (row_of rows p c) ≡ true) [
              | inl earlier ↦ has_row_among rows at.before p c at.none earlier
              | inr later ↦ absurd (not_from at.before at.it at.after p c ordered less later)
            ]);
      }))
      at.gives

  pub of_field : (found : Refusal) → HasRows network rows → first_some (wrong_in network) rows ≡ Some found
      → IsFirst network rows found
  of_field found rows_of e =
      let at = stands_at (wrong_in network) rows found e in
      let row : Row = at.it in
      let f = stands_at (field_wrong network row) fields found (fields_are network row ∙ at.gives) in
      if_false (IsFirst network rows) (eqb (said row f.it) (due network row f.it))
      (FieldWrong row.port row.class f.it (due network row f.it)) found
      (λ no. record {
        row = row;
        fault = at_fault network rows is (wrong_in network) found rows_of rows_of.used (right_tests network rows is) at;
        first = breach_at (field_wrong network row) (IsSaid network row) fields found (field_tests network row) f;
        is = refl;
      })
      f.gives

  -- with the least wait a row is the least
  pub least_is : (row : Row) → IsUsed network row → IsFitting network row
      → IsLeastRow network (record row {
        wait = least_wait (port_at network.topology.ports row.port) (port_sums network row.port row.class);
        bound = bound_of (port_at network.topology.ports row.port)
            (least_wait (port_at network.topology.ports row.port) (port_sums network row.port row.class)) row.least;
      })
  least_is row used fits =
      let sums : PortSums = port_sums network row.port row.class in
      let least : ℕ = least_wait (port_at network.topology.ports row.port) sums in
      let has : HasSums row sums = fits.0.sums in
      let at : IsPlace network row.port row.class = is_place network row.port row.class is used in
      let c = least_wait-is network row.port row.class at (place_fits network row fits.0 fits.1) in
      let long = work-is network row has in
      let left = λ (wait : ℕ). ap (λ (n : ℕ). wait * (PS_PER_SECOND - n)) has.higher in
      record {
        covers = record {
          sums = record {
            higher = has.higher;
            equal = has.equal;
            bursts = has.bursts;
            lower = has.lower;
            least = has.least;
          };
          bound = refl;
          load = fits.1;
          wait = omega (arith, c.reaches, long, left least);
        };
        least = λ wait enough. c.least wait (omega (arith, enough, long, left wait));
      }

  pub of_wait : (found : Refusal) → HasRows network rows → All (IsFitting network) rows
      → first_some (short network) rows ≡ Some found → IsFirst network rows found
  of_wait found rows_of fitting e =
      let at = stands_at (short network) rows found e in
      let row : Row = at.it in
      let least : ℕ = least_wait (port_at network.topology.ports row.port) (port_sums network row.port row.class) in
      let used : IsUsed network row = it_keeps (short network) (IsUsed network) rows found rows_of.used at in
      let fits : IsFitting network row = it_keeps (short network) (IsFitting network) rows found fitting at in
      if_true (IsFirst network rows) (nat_lt row.wait least) (WaitTooSmall row.port row.class least) found
      (λ _. record {
        row = row;
        fault = at_fault network rows is (short network) found rows_of fitting
            (enough_tests network rows is rows_of.used fitting) at;
        is = least_is row used fits;
      })
      at.gives

  pub first_from : AllPairs IsBefore rows → (found : Refusal) → refusal_of network rows ≡ Some found
      → IsFirst network rows found
  first_from ordered found =
      or_else (first_some (missing rows) (places_of network)) _ found
      (missing_where (IsFirst network rows) (λ p c m. m) found) (λ no_missing.
      let complete : (p c : ℕ) → is_used network p c ≡ true → is_some (row_of rows p c) ≡ true =
      complete_from network rows is no_missing in
      or_else (first_some (stray network) rows) _ found (of_stray found complete) (λ no_stray.
      let used : All (IsUsed network) rows =
      all_kept (stray network) (IsUsed network) rows (used_tests network rows is) no_stray in
      let rows_of : HasRows network rows = record { complete = complete; used = used; ordered = ordered } in
      or_else (first_some (wrong_in network) rows) _ found (of_field found rows_of) (λ no_wrong.
      let right : All (IsRight network) rows =
      all_kept (wrong_in network) (IsRight network) rows (right_tests network rows is) no_wrong in
      or_else (of_network (first_some overload_in rows)) _ found
      (by_network (IsFirst network rows) (first_some overload_in rows) found (λ reason. of_load reason rows_of right))
      (λ no_overload.
      let loads : first_some overload_in rows ≡ None = no_reason (first_some overload_in rows) no_overload in
      let fits : All FitsLink rows = all_kept overload_in FitsLink rows (fit_tests network rows is) loads in
      let fitting : All (IsFitting network) rows = λ k d h. (right k d h, fits k d h) in
      or_else (first_some (short network) rows) _ found (of_wait found rows_of fitting) (λ no_short.
      let enough = all_kept (short network) (Waits network) rows (enough_tests network rows is used fitting) no_short in
      let covers : All (Covers network) rows = λ k d h.
      record { sums = (right k d h).sums; bound = (right k d h).bound; load = fits k d h; wait = enough k d h } in
      or_else (of_network (first_some (overstay network) rows)) _ found
      (by_network (IsFirst network rows) (first_some (overstay network) rows) found
      (λ reason. of_stay reason rows_of covers)) (λ no_overstay.
      let stays : first_some (overstay network) rows ≡ None =
      no_reason (first_some (overstay network) rows) no_overstay in
      let stay = all_kept (overstay network) (Stays network) rows (stay_tests network rows) stays in
      by_network (IsFirst network rows) (first_some (late network.topology rows) network.streams) found
      (λ reason. of_late reason rows_of (λ k d h. record { covers = covers k d h; residence = stay k d h }))))))))
