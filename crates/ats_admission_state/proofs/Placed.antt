-- Bounds by port and class, where those of some ports are made anew.
use Rattle.std.proofs.Common.{◌≡◌, ◌≢◌, ℕ, ◌+◌, ◌<◌, ◌≤◌, Bool, true, false, cond, eqb, List, [], ◌∷◌}
use Rattle.std.proofs.Common.{Some, refl, sym, ap, ◌∙◌, ◌⊎◌, inl, inr, arith}
use Rattle.std.specs.Prelude.{unwrap_or}
use Rattle.std.specs.List.{find}
use Rattle.std.specs.Option.{option_map}
use Rattle.std.proofs.lemmas.Bool.{and_from, and_parts, cases_eq, eq-eqb, eqb-true, ne_eqb, or_from, true≢false}
use Rattle.ats_class_table.specs.Table.{IsFilled, Sets, Table, value_at}
use Rattle.ats_network.specs.Network.{DeclaredNetwork}
use Rattle.ats_certificate.specs.Certificate.{bound_at, is_row_of}
use Rattle.ats_certificate.specs.declared.row.Row.{Row}
use Rattle.ats_admission_users.specs.Users.{has_port}
use Rattle.ats_admission_state.specs.Judging.{KeepsOthers, SetsBelow}
use Rattle.ats_admission_state.specs.Kept.{AreLeast, AreLeastBeside, least_bound}

-- nothing is made anew at first
pub sets_none : (network : DeclaredNetwork) (port : ℕ) (bounds : Table ℕ)
    → SetsBelow network port 1 bounds bounds
sets_none network port bounds = record {
  kept = record { count = refl; others = λ p class other. refl };
  least = λ class least below. absurd (omega arith);
}

-- one class more
pub sets_more : (network : DeclaredNetwork) (port class : ℕ) (old bounds next : Table ℕ)
    → Sets port class (least_bound network port class) bounds next → SetsBelow network port class old bounds
    → SetsBelow network port (class + 1) old next
sets_more network port class old bounds next sets before = record {
  kept = record {
    count = sets.count ∙ before.kept.count;
    others = λ p c other. sets.others p c (inl other) ∙ before.kept.others p c other;
  };
  least = λ c least below. (
      elim (cases_eq c class) as (λ _. value_at next port c ≡ Some (least_bound network port c)) [
        | inl same ↦ ap (value_at next port) same ∙ sets.here
            ∙ sym (ap (λ (n : ℕ). Some (least_bound network port n)) same)
        | inr other ↦ sets.others port c (inr other) ∙ before.least c least (omega (arith, below, other))
      ]);
}

module _ (network : DeclaredNetwork) (port : ℕ) (old new : Table ℕ) where
  -- with the bounds of the first port of a path, only those of the others may differ from the least
  pub beside_next : (path : List ℕ) → SetsBelow network port 8 old new → AreLeastBeside network (port ∷ path) old
      → AreLeastBeside network path new
  beside_next path sets before = record {
    count = sets.kept.count ∙ before.count;
    each = λ p class within some most off. (
        elim (cases_eq p port) as (λ _. value_at new p class ≡ Some (least_bound network p class)) [
          | inl same ↦ ap (λ (n : ℕ). value_at new n class) same ∙ sets.least class some (omega (arith, most))
              ∙ sym (ap (λ (n : ℕ). Some (least_bound network n class)) same)
          | inr other ↦ sets.kept.others p class other
              ∙ before.each p class within some most
              (or_from _ (has_port p path) (ne_eqb port p (λ e. other (sym e))) off)
        ]);
  }

  -- beside a path on which the port is, nothing is changed
  pub beside_kept : (path : List ℕ) → has_port port path ≡ true → KeepsOthers port old new
      → AreLeastBeside network path old → AreLeastBeside network path new
  beside_kept path on keeps before = record {
    count = keeps.count ∙ before.count;
    each = λ p class within some most off.
        keeps.others p class
        (λ same. true≢false (sym on ∙ ap (λ (n : ℕ). has_port n path) (sym same) ∙ off))
        ∙ before.each p class within some most off;
  }

-- beside no port the bounds are the least everywhere
pub beside_none : (network : DeclaredNetwork) (bounds : Table ℕ) → AreLeastBeside network [] bounds
    → AreLeast network bounds
beside_none network bounds before = record {
  count = before.count;
  each = λ port class within some most. before.each port class within some most refl;
}

pub least_beside : (network : DeclaredNetwork) (path : List ℕ) (bounds : Table ℕ) → AreLeast network bounds
    → AreLeastBeside network path bounds
least_beside network path bounds are = record {
  count = are.count;
  each = λ port class within some most off. are.each port class within some most;
}

-- a table has the bounds of rows, that of each port and class, and 0 where there is no row
pub record AreBoundsOf (ports : ℕ) (rows : List Row) (bounds : Table ℕ) : Type 0 where
  pub count : bounds.ports ≡ ports
  pub each : (port class : ℕ) → port < ports → class ≤ 7 → value_at bounds port class ≡ Some (bound_at rows port class)

pub filled_none : (ports : ℕ) (bounds : Table ℕ) → IsFilled ports 0 bounds → AreBoundsOf ports [] bounds
filled_none ports bounds filled = record { count = filled.count; each = filled.each }

-- with one row more before the others
pub filled_row : (ports : ℕ) (row : Row) (rows : List Row) (old new : Table ℕ) → AreBoundsOf ports rows old
    → Sets row.port row.class row.bound old new → AreBoundsOf ports (row ∷ rows) new
filled_row ports row rows old new before sets = record {
  count = sets.count ∙ before.count;
  each = λ port class within most. by port class within most (is_row_of port class row) refl;
}
  where
    more : (port class : ℕ) (b : Bool) → is_row_of port class row ≡ b
        → bound_at (row ∷ rows) port class ≡ cond b row.bound (bound_at rows port class)
    more port class true e = ap (λ (t : Bool).
        unwrap_or (option_map (λ (row : Row). row.bound) (cond t (Some row) (find (is_row_of port class) rows))) 0) e
    more port class false e = ap (λ (t : Bool).
        unwrap_or (option_map (λ (row : Row). row.bound) (cond t (Some row) (find (is_row_of port class) rows))) 0) e

    other : (port class : ℕ) → is_row_of port class row ≡ false → (port ≢ row.port) ⊎ (class ≢ row.class)
    other port class is = elim (cases_eq row.port port) as (λ _. (port ≢ row.port) ⊎ (class ≢ row.class)) [
      | inl same ↦ inr (λ e. true≢false (sym (and_from (eqb row.port port) (eqb row.class class)
          (eq-eqb row.port port same) (eq-eqb row.class class (sym e))) ∙ is))
      | inr differ ↦ inl (λ e. differ (sym e))
    ]

    by : (port class : ℕ) → port < ports → class ≤ 7 → (b : Bool) → is_row_of port class row ≡ b
        → value_at new port class ≡ Some (bound_at (row ∷ rows) port class)
    by port class within most true e =
        let parts = and_parts (eqb row.port port) (eqb row.class class) e in
        let p : row.port ≡ port = eqb-true row.port port parts.0 in
        let c : row.class ≡ class = eqb-true row.class class parts.1 in
        ap (λ (n : ℕ). value_at new n class) (sym p) ∙ ap (value_at new row.port) (sym c) ∙ sets.here
        ∙ ap Some (sym (more port class true e))
    by port class within most false e =
        sets.others port class (other port class e) ∙ before.each port class within most
        ∙ ap Some (sym (more port class false e))
