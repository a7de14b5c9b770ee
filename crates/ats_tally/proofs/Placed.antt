-- Bounds by port and class.
use Rattle.std.proofs.Common.{◌≡◌, ◌≢◌, ℕ, ◌<◌, ◌≤◌, ◌^◌, Bool, true, false, cond, List, [], ◌∷◌}
use Rattle.std.proofs.Common.{◌⊎◌, Option, Some, None, refl, sym, ap, ◌∙◌, inl, inr, ⊎_elim, eqb, arith}
use Rattle.std.specs.Prelude.{unwrap_or}
use Rattle.std.specs.List.{All, find}
use Rattle.std.specs.Option.{option_map}
use Rattle.std.proofs.lemmas.Bool.{cases_Bool, cases_eq, and_from, and_parts, eqb-true, eq-eqb, true≢false}
use Rattle.ats_class_table.specs.Table.{IsFilled, Sets, Table, value_at}
use Rattle.ats_certificate.specs.Certificate.{is_row_of, row_of, bound_at}
use Rattle.ats_certificate.specs.Form.{IsRow}
use Rattle.ats_certificate.specs.declared.row.Row.{Row}
use Rattle.ats_tally.proofs.Lists.{All-found, option_cases}
use Rattle.ats_tally.specs.Bounds.{AreBounds, bound_given}

-- a bound has at most 36 digits
pub bound_most : (rows : List Row) (port class : ℕ) → All IsRow rows → bound_at rows port class < 10 ^ 36
bound_most rows port class form =
    elim (option_cases (row_of rows port class)) as (λ _. bound_at rows port class < 10 ^ 36) [
      | inl none ↦ (
          let zero : bound_at rows port class ≡ 0 =
          ap (λ (o : Option Row). unwrap_or (option_map (λ (row : Row). row.bound) o) 0) none in
          omega (arith, zero))
      | inr some ↦ (
          let here : bound_at rows port class ≡ some.0.bound =
          ap (λ (o : Option Row). unwrap_or (option_map (λ (row : Row). row.bound) o) 0) some.1 in
          let is : IsRow some.0 = All-found IsRow (is_row_of port class) rows some.0 form some.1 in
          omega (arith, here, is.bound))
    ]

pub placed_none : (ports : ℕ) (table : Table (Option ℕ)) → IsFilled ports None table → AreBounds ports [] table
placed_none ports table filled = record { count = filled.count; each = filled.each }

-- the bound of a place with one row more before the others
given_more : (row : Row) (rows : List Row) (port class : ℕ) (b : Bool) → is_row_of port class row ≡ b
    → bound_given (row ∷ rows) port class ≡ cond b (Some row.bound) (bound_given rows port class)
given_more row rows port class b e =
    ap (λ (t : Bool). option_map (λ (row : Row). row.bound) (cond t (Some row) (find (is_row_of port class) rows))) e
    ∙ by b
  where
    by : (b : Bool) → option_map (λ (row : Row). row.bound) (cond b (Some row) (find (is_row_of port class) rows))
        ≡ cond b (Some row.bound) (bound_given rows port class)
    by true = refl
    by false = refl

-- a row of a port that is looked up
pub placed_row : (ports : ℕ) (row : Row) (rows : List Row) (old new : Table (Option ℕ)) → AreBounds ports rows old
    → Sets row.port row.class (Some row.bound) old new → AreBounds ports (row ∷ rows) new
placed_row ports row rows old new before sets = record {
  count = sets.count ∙ before.count;
  each = λ port class within most.
      ⊎_elim (here port class within most) (elsewhere port class within most)
      (cases_Bool (is_row_of port class row));
}
  where
    here : (port class : ℕ) → port < ports → class ≤ 7 → is_row_of port class row ≡ true
        → value_at new port class ≡ Some (bound_given (row ∷ rows) port class)
    here port class within most is =
        let parts = and_parts (eqb row.port port) (eqb row.class class) is in
        let p : row.port ≡ port = eqb-true row.port port parts.0 in
        let c : row.class ≡ class = eqb-true row.class class parts.1 in
        ap (λ (n : ℕ). value_at new n class) (sym p) ∙ ap (value_at new row.port) (sym c)
        ∙ sets.here ∙ ap Some (sym (given_more row rows port class true is))

    other : (port class : ℕ) → is_row_of port class row ≡ false → (port ≢ row.port) ⊎ (class ≢ row.class)
    other port class is = elim (cases_eq row.port port) as (λ _. (port ≢ row.port) ⊎ (class ≢ row.class)) [
      | inl same ↦ inr (λ e. true≢false (sym (and_from (eqb row.port port) (eqb row.class class)
          (eq-eqb row.port port same) (eq-eqb row.class class (sym e))) ∙ is))
      | inr differ ↦ inl (λ e. differ (sym e))
    ]

    elsewhere : (port class : ℕ) → port < ports → class ≤ 7 → is_row_of port class row ≡ false
        → value_at new port class ≡ Some (bound_given (row ∷ rows) port class)
    elsewhere port class within most is =
        sets.others port class (other port class is)
        ∙ before.each port class within most
        ∙ ap Some (sym (given_more row rows port class false is))

-- a row of another port
pub passed_row : (ports : ℕ) (row : Row) (rows : List Row) (table : Table (Option ℕ)) → ports ≤ row.port
    → AreBounds ports rows table → AreBounds ports (row ∷ rows) table
passed_row ports row rows table outside before = record {
  count = before.count;
  each = λ port class within most. before.each port class within most
      ∙ ap Some (sym (given_more row rows port class false (other port class within)));
}
  where
    other : (port class : ℕ) → port < ports → is_row_of port class row ≡ false
    other port class within = ⊎_elim
        (λ is. absurd
        (let p = eqb-true row.port port (and_parts (eqb row.port port) (eqb row.class class) is).0 in omega (arith, p)))
        (λ is. is)
        (cases_Bool (is_row_of port class row))
