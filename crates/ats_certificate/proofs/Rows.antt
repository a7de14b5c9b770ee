-- The rows of a certificate, and one row more.
use Rattle.std.proofs.Common.{◌≡◌, ℕ, ◌-◌, ◌<◌, List, [], ◌∷◌, ◌++◌, length, get_or, sym, subst, inl, inr, arith}
use Rattle.std.proofs.Common.{⊎_elim}
use Rattle.std.specs.List.{All, AllPairs}
use Rattle.std.proofs.lemmas.Bool.{cases_eq}
use Rattle.std.proofs.lemmas.List.Elements.{All-nil, All-cons, All-append}
use Rattle.std.proofs.lemmas.List.Quantifiers.{all_pairs_push}
use Rattle.std.proofs.lemmas.Option.{slice_get-get_or}
use Rattle.ats_certificate.specs.Certificate.{IsBefore}
use Rattle.ats_certificate.specs.Form.{AreRows, ComesAfter, IsRow}
use Rattle.ats_certificate.specs.declared.row.Row.{Row}

-- a row before one that is before a third
before_trans : (a b c : Row) → IsBefore a b → IsBefore b c → IsBefore a c
before_trans a b c (inl low) (inl lower) = inl (omega arith)
before_trans a b c (inl low) (inr (same, class)) = inl (omega arith)
before_trans a b c (inr (same, class)) (inl low) = inl (omega arith)
before_trans a b c (inr (same, class)) (inr (equal, next)) = inr (omega arith, omega arith)

-- a row that comes after the last one comes after each
pub after_each : (rows : List Row) (row : Row) → AllPairs IsBefore rows → ComesAfter rows row
    → All (λ (r : Row). IsBefore r row) rows
after_each rows row ordered after k d within =
    let last = after (get_or rows (length rows - 1) d) (slice_get-get_or rows (length rows - 1) d (omega arith)) in
    ⊎_elim
    (λ same. subst (λ (n : ℕ). IsBefore (get_or rows n d) row) (sym same) last)
    (λ other. before_trans (get_or rows k d) (get_or rows (length rows - 1) d) row
    (ordered k (length rows - 1) d (below k (length rows) within other) (omega arith)) last)
    (cases_eq k (length rows - 1))
  where
    below : (k n : ℕ) → k < n → (k ≡ n - 1 → ⊥) → k < n - 1
    below k n within other = omega arith

-- a certificate without rows
pub no_rows : (rows : List Row) → rows ≡ [] → AreRows rows
no_rows rows e =
    subst AreRows (sym e) (record { each = All-nil IsRow; ordered = λ i j d before within. absurd (omega arith) })

-- a certificate with one row more
pub row_more : (rows new : List Row) (row : Row) → AreRows rows → IsRow row → ComesAfter rows row
    → new ≡ rows ++ row ∷ [] → AreRows new
row_more rows new row form in_form after e = subst AreRows (sym e) (record {
  each = All-append IsRow rows (row ∷ []) form.each (All-cons IsRow row [] in_form (All-nil IsRow));
  ordered = all_pairs_push IsBefore rows row form.ordered (after_each rows row form.ordered after);
})
