use Rattle.std.proofs.Common.{◌≡◌, ℕ, zero, suc, ◌+◌, ◌-◌, ◌<◌, ◌≤◌, List, [], ◌∷◌, ◌++◌, length, get_or, drop, refl}
use Rattle.std.proofs.Common.{Bool, true, false, cond, ap, sym, subst, arith, add-one, inl, inr}
use Rattle.std.proofs.Common.{Option, Some, None, length-drop}
use Rattle.std.specs.Prelude.{insert, IsPermutation}
use Rattle.std.specs.Bool.{OnTrue}
use Rattle.std.specs.Option.{option_to_list}
use Rattle.std.proofs.lemmas.Bool.{cases_eq, cases_order}
use Rattle.std.proofs.lemmas.List.Edits.{get_or-insert_above, get_or-insert_at, get_or-insert_below, length-insert}
use Rattle.std.proofs.lemmas.List.Elements.{All-cons}
use Rattle.std.proofs.lemmas.List.Sorted.{All-permutation, IsPermutation-insert}
use Rattle.ats_heap.specs.Order.{IsWeakOrder}
use Rattle.ats_heap.specs.Inside.{Leads, IsLine, IsLastLeader, IsStored}
use Rattle.ats_heap.proofs.Tops.{leads-trans}

-- an item put in behind some others is put in among what is left without them
drop-insert : {X : Type 0} (gone at place : ℕ) (xs : List X) (item : X) → at ≡ gone + place → gone ≤ length xs
    → drop gone (insert xs at item) ≡ insert (drop gone xs) place item
drop-insert {X} zero at place xs item e h =
    let same : at ≡ place = omega arith in
    ap (λ (n : ℕ). insert xs n item) same
drop-insert (suc gone) at place [] item e h = absurd (omega arith)
drop-insert (suc gone) zero place (x ∷ xs) item e h = absurd (omega arith)
drop-insert (suc gone) (suc at) place (x ∷ xs) item e h = drop-insert gone at place xs item (omega arith) (omega arith)

-- an item put in behind the one at a place of a line
pub stored-insert : {X : Type 0} (first : Option X) (gone place : ℕ) (xs : List X) (item : X)
    → IsStored first gone xs → place < length (option_to_list first ++ drop gone xs)
    → option_to_list first ++ drop gone (insert xs (gone + place) item)
    ≡ insert (option_to_list first ++ drop gone xs) (place + 1) item
stored-insert None gone place xs item stored h = absurd (omega (arith, stored.none, length-drop gone xs))
stored-insert {X} (Some x) gone place xs item stored h =
    simp add-one
    (ap (λ (l : List X). x ∷ l) (drop-insert gone (gone + place) place xs item refl stored.within))

module _ {X : Type 0} (covers : X → Type 0) (before : X → X → Type 0) (order : IsWeakOrder covers before) where
  -- an item that is put in behind its last leader is led by all before it
  led_below : (line : List X) (item : X) (place k : ℕ) (d : X) → IsLine covers before line
      → IsLastLeader (Leads covers before) line item place → k ≤ place → Leads covers before (get_or line k d) item
  led_below line item place k d kept last h =
      elim (cases_eq k place) as (λ _. Leads covers before (get_or line k d) item) [
        | inl e ↦ subst (λ n. Leads covers before (get_or line n d) item) (sym e) (last.led d)
        | inr other ↦ leads-trans covers before order _ _ item (kept.ascends k place d (omega arith) last.within)
            (last.led d)
      ]

  -- a line is one with an item more, put in there
  line-insert : (line : List X) (item : X) (place : ℕ) → covers item → IsLine covers before line
      → IsLastLeader (Leads covers before) line item place → IsLine covers before (insert line (place + 1) item)
  line-insert line item place covered kept last =
      let at : ℕ = place + 1 in
      let new : List X = insert line at item in
      let le : at ≤ length line = omega (arith, last.within) in
      let size : length new ≡ length line + 1 = length-insert line at item le in
      let At : ℕ → ℕ → X → Type 0 = λ i j d. Leads covers before (get_or new i d) (get_or new j d) in
      let low : (k : ℕ) (d : X) → k < at → get_or new k d ≡ get_or line k d =
      λ k d h. get_or-insert_below line at item d k h le in
      let mid : (k : ℕ) (d : X) → k ≡ at → get_or new k d ≡ item =
      λ k d e. subst (λ n. get_or new n d ≡ item) (sym e) (get_or-insert_at line at item d le) in
      let high : (k : ℕ) (d : X) → at < k → get_or new k d ≡ get_or line (k - 1) d =
      λ k d h. (let e : k - 1 + 1 ≡ k = omega arith in
      subst (λ n. get_or new n d ≡ get_or line (k - 1) d) e
      (get_or-insert_above line at item d (k - 1) (omega arith) le)) in
      record {
        covered = All-permutation covers (item ∷ line) new (IsPermutation-insert line at item)
            (All-cons covers item line covered kept.covered);
        ascends = λ i j d less h. elim (cases_order j at) as (λ _. At i j d) [
          | inl e ↦ rw (low i d (omega arith), mid j d e) (led_below line item place i d kept last (omega arith))
          | inr (inl below) ↦ rw (low i d (omega arith), low j d below) (kept.ascends i j d less (omega arith))
          | inr (inr above) ↦ elim (cases_order i at) as (λ _. At i j d) [
            | inl e ↦ rw (mid i d e, high j d above) (last.behind (j - 1) d (omega arith) (omega arith))
            | inr (inl below) ↦ rw (low i d below, high j d above)
                (kept.ascends i (j - 1) d (omega arith) (omega arith))
            | inr (inr over) ↦ rw (high i d over, high j d above)
                (kept.ascends (i - 1) (j - 1) d (omega arith) (omega arith))
          ]
        ];
      }

  -- where there is room for it
  pub joins_behind : (room : Bool) (line new : List X) (item : X) (place : ℕ) → covers item
      → IsLine covers before line → IsLastLeader (Leads covers before) line item place
      → new ≡ cond room (insert line (place + 1) item) line
      → IsLine covers before new × OnTrue room (IsPermutation (item ∷ line) new)
  joins_behind true line new item place covered kept last is = (
    subst (IsLine covers before) (sym is) (line-insert line item place covered kept last),
    subst (IsPermutation (item ∷ line)) (sym is) (IsPermutation-insert line (place + 1) item),
  )
  joins_behind false line new item place covered kept last is = (subst (IsLine covers before) (sym is) kept, tt)
