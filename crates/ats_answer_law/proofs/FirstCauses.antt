use Rattle.std.proofs.Common.{◌≡◌, ℕ, true, eqb, List, All, refl, subst}
use Rattle.std.proofs.lemmas.Bool.{and_parts, eqb-true}
use Rattle.ats_network.specs.Network.{DeclaredNetwork}
use Rattle.ats_certificate.specs.Certificate.{HasRows, is_row_of}
use Rattle.ats_certificate.specs.declared.row.Row.{Row}
use Rattle.ats_bound.specs.First.{IsFirstBreach}
use Rattle.ats_checker.specs.First.{IsRowAtFault}
use Rattle.ats_checker.proofs.FirstFound.{own_place}
use Rattle.ats_answer_law.specs.FirstCauses.{BreaksFirst, FieldsAreMeant, FirstCausesAreMeant, OverdueIsMeant}
use Rattle.ats_answer_law.specs.FirstCauses.{ReasonsAreMeant, RefusalsAreMeant}

-- What each reason against a network says, and each refusal of rows: which place, row or stream is the first, and what
-- the number is that is told of it. Each part is written out, and there are no others.

overdue_is_meant : OverdueIsMeant
overdue_is_meant = record {
  first = λ network rows name listener sum. (
    λ is. (
      is.stream,
      is.there,
      is.first.before,
      is.first.after,
      is.first.cut,
      is.first.kept,
      is.first.breaks,
      is.first_there.before,
      is.first_there.after,
      is.first_there.cut,
      is.first_there.kept,
      is.first_there.breaks,
      is.name_is,
      is.listener_is,
      is.along_is,
    ),
    λ is. record {
      stream = is.0;
      name_is = is.12;
      first = record { before = is.2; after = is.3; cut = is.4; kept = is.5; breaks = is.6 };
      there = is.1;
      listener_is = is.13;
      first_there = record { before = is.7; after = is.8; cut = is.9; kept = is.10; breaks = is.11 };
      along_is = is.14;
    },
  );
}

reasons_are_meant : ReasonsAreMeant
reasons_are_meant = record {
  overloaded = λ network port class load. (
    λ is. (is.used, is.load_is, is.over, is.before),
    λ is. record { used = is.0; load_is = is.1; over = is.2; before = is.3 },
  );
  residence = λ network port class need. (
    λ is. (
      is.rows,
      is.row,
      is.least,
      (is.port_is, is.class_is, is.first.before, is.first.after, is.first.cut, is.first.kept, is.first.breaks),
      is.need_is,
    ),
    λ is. record {
      rows = is.0;
      least = is.2;
      row = is.1;
      port_is = is.3.0;
      class_is = is.3.1;
      need_is = is.4;
      first = record { before = is.3.2; after = is.3.3; cut = is.3.4; kept = is.3.5; breaks = is.3.6 };
    },
  );
  deadline = λ network name listener sum. (
    λ is. (is.rows, is.least, is.stay, is.overdue),
    λ is. record { rows = is.0; least = is.1; stay = is.2; overdue = is.3 },
  );
}

fields_are_meant : FieldsAreMeant
fields_are_meant = record {
  said = λ row. (refl, refl, refl, refl, refl, refl);
  due = λ network row. (refl, refl, refl, refl, refl, refl);
  right = λ network row. (
    λ is. (is.sums.higher, is.sums.equal, is.sums.bursts, is.sums.lower, is.sums.least, is.bound),
    λ is. record {
      sums = record { higher = is.0; equal = is.1; bursts = is.2; lower = is.3; least = is.4 };
      bound = is.5;
    },
  );
}

-- a row is of a place where it has the place's port and class
of_place : (port class : ℕ) (row : Row) → (row.port ≡ port) × (row.class ≡ class) → is_row_of port class row ≡ true
of_place port class row is =
    subst (λ (p : ℕ). is_row_of p class row ≡ true) is.0
    (subst (λ (c : ℕ). is_row_of row.port c row ≡ true) is.1 (own_place row))

has_place : (port class : ℕ) (row : Row) → is_row_of port class row ≡ true → (row.port ≡ port) × (row.class ≡ class)
has_place port class row is =
    let parts = and_parts (eqb row.port port) (eqb row.class class) is in
    (eqb-true row.port port parts.0, eqb-true row.class class parts.1)

-- a row is the first that breaks a rule
first_of : {rows : List Row} {Rule : Row → Type 0} {row : Row} (port class : ℕ) → is_row_of port class row ≡ true
    → IsFirstBreach Rule rows row → BreaksFirst rows Rule port class row
first_of {rows} {Rule} {row} port class place first =
    let at = has_place port class row place in
    (at.0, at.1, first.before, first.after, first.cut, first.kept, first.breaks)

breach_of : {rows : List Row} {Rule : Row → Type 0} {row : Row} (port class : ℕ)
    → BreaksFirst rows Rule port class row → IsFirstBreach Rule rows row
breach_of port class is = record { before = is.2; after = is.3; cut = is.4; kept = is.5; breaks = is.6 }

fault_of : {network : DeclaredNetwork} {rows : List Row} {Earlier Rule : Row → Type 0} {row : Row} (port class : ℕ)
    → HasRows network rows → All Earlier rows → BreaksFirst rows Rule port class row
    → IsRowAtFault network rows Earlier Rule port class row
fault_of {network} {rows} {Earlier} {Rule} {row} port class rows_of kept is = record {
  rows_of = rows_of;
  kept = kept;
  place = of_place port class row (is.0, is.1);
  first = breach_of port class is;
}

refusals_are_meant : RefusalsAreMeant
refusals_are_meant = record {
  missing = λ network rows port class. (
    λ is. (is.used, is.none, is.before),
    λ is. record { used = is.0; none = is.1; before = is.2 },
  );
  stray = λ network rows port class. (
    λ is. (is.complete, is.row, first_of port class is.place is.first),
    λ is. record {
      complete = is.0;
      row = is.1;
      place = of_place port class is.1 (is.2.0, is.2.1);
      first = breach_of port class is.2;
    },
  );
  field = λ network rows port class right field. (
    λ is. (
      is.fault.rows_of,
      is.fault.kept,
      is.row,
      first_of port class is.fault.place is.fault.first,
      is.first.before,
      is.first.after,
      is.first.cut,
      is.first.kept,
      is.first.breaks,
      is.is,
    ),
    λ is. record {
      row = is.2;
      fault = fault_of port class is.0 is.1 is.3;
      first = record { before = is.4; after = is.5; cut = is.6; kept = is.7; breaks = is.8 };
      is = is.9;
    },
  );
  overloaded = λ network rows port class load. (
    λ is. (
      is.fault.rows_of,
      is.fault.kept,
      is.row,
      first_of port class is.fault.place is.fault.first,
      is.is,
    ),
    λ is. record { row = is.2; fault = fault_of port class is.0 is.1 is.3; is = is.4 },
  );
  wait = λ network rows port class least. (
    λ is. (
      is.fault.rows_of,
      is.fault.kept,
      is.row,
      first_of port class is.fault.place is.fault.first,
      is.is,
    ),
    λ is. record { row = is.2; fault = fault_of port class is.0 is.1 is.3; is = is.4 },
  );
  residence = λ network rows port class need. (
    λ is. (
      is.fault.rows_of,
      is.fault.kept,
      is.row,
      first_of port class is.fault.place is.fault.first,
      is.is,
    ),
    λ is. record { row = is.2; fault = fault_of port class is.0 is.1 is.3; is = is.4 },
  );
  deadline = λ network rows name listener sum. (
    λ is. (is.rows_of, is.kept, is.overdue),
    λ is. record { rows_of = is.0; kept = is.1; overdue = is.2 },
  );
}

pub first_causes_are_meant : FirstCausesAreMeant
first_causes_are_meant = record {
  overdue = overdue_is_meant;
  reasons = reasons_are_meant;
  fields = fields_are_meant;
  refusals = refusals_are_meant;
}
