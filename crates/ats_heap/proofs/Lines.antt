use Rattle.std.proofs.Common.{◌≡◌, ℕ, zero, suc, ◌-◌, ◌<◌, List, [], ◌∷◌, ◌++◌, length, get_or, All, refl}
use Rattle.std.proofs.Common.{Bool, true, false, cond, ap, sym, subst}
use Rattle.std.proofs.Common.{Option, Some, None, arith, inl, inr}
use Rattle.std.specs.Prelude.{Any, Contains, IsPermutation, slice_get, IsNone, IfSome, IfNone, ◌↔◌}
use Rattle.std.specs.Option.{option_to_list}
use Rattle.ats_heap.specs.Contents.{Contents}
use Rattle.std.specs.Bool.{OnTrue}
use Rattle.std.proofs.lemmas.Bool.{cases_eq}
use Rattle.std.proofs.lemmas.List.Elements.{All-append, All-cons, All-contains, All-head, All-push, All-tail}
use Rattle.std.proofs.lemmas.List.Elements.{All-weaker}
use Rattle.std.proofs.lemmas.List.Elements.{Contains-append_right}
use Rattle.std.proofs.lemmas.List.Quantifiers.{all_pairs_push}
use Rattle.std.proofs.lemmas.List.Sorted.{All-permutation, IsPermutation-append_right, IsPermutation-middle}
use Rattle.std.proofs.lemmas.List.Sorted.{IsPermutation-refl, IsPermutation-sym, IsPermutation-to_front}
use Rattle.std.proofs.lemmas.List.Sorted.{IsPermutation-trans}
use Rattle.ats_heap.specs.Order.{IsWeakOrder}
use Rattle.ats_heap.specs.Inside.{Leads, IsLine, IsAhead, AreKept}
use Rattle.ats_heap.specs.Steps.{Pops, IsFirst}
use Rattle.ats_heap.proofs.Tops.{leads-trans}

-- what is read at a place stands there
pub read_at : {X : Type 0} (xs : List X) (i : ℕ) (x : X) → slice_get xs i ≡ Some x
    → (i < length xs) × ((d : X) → get_or xs i d ≡ x)
read_at [] i x e = absurd (cc)
read_at (y ∷ ys) zero x e = (omega arith, λ d. cc)
read_at {X} (y ∷ ys) (suc i) x e = let rest = read_at ys i x e in (omega (arith, rest.0), rest.1)

module _ {X : Type 0} (covers : X → Type 0) (before : X → X → Type 0) (order : IsWeakOrder covers before) where
  -- an item that the last of a line leads is led by all of it
  pub led_by_last : (line : List X) (last item : X) → IsLine covers before line → covers item
      → slice_get line (length line - 1) ≡ Some last → ¬ before item last
      → All (λ x. Leads covers before x item) line
  led_by_last line last item kept covered is later k d h =
      let read = read_at line (length line - 1) last is in
      let led : Leads covers before last item = record {
        first = subst covers (read.1 d) (kept.covered (length line - 1) d read.0);
        second = covered;
        after = later;
      } in
      elim (cases_eq k (length line - 1)) as (λ _. Leads covers before (get_or line k d) item) [
        | inl e ↦ subst (λ n. Leads covers before (get_or line n d) item) (sym e) (rw (read.1 d) led)
        | inr other ↦ leads-trans covers before order _ last item
            (rw (← read.1 d) (kept.ascends k (length line - 1) d (omega arith) read.0)) led
      ]

  -- an item that leads the first of a line leads all of it
  pub leads_first : (line : List X) (first item : X) → IsLine covers before line → covers item
      → slice_get line 0 ≡ Some first → ¬ before first item → All (Leads covers before item) line
  leads_first line first item kept covered is later k d h =
      let read = read_at line 0 first is in
      let leads : Leads covers before item first = record {
        first = covered;
        second = subst covers (read.1 d) (kept.covered 0 d read.0);
        after = later;
      } in
      elim (cases_eq k 0) as (λ _. Leads covers before item (get_or line k d)) [
        | inl e ↦ subst (λ n. Leads covers before item (get_or line n d)) (sym e) (rw (read.1 d) leads)
        | inr other ↦ leads-trans covers before order item first _ leads
            (rw (← read.1 d) (kept.ascends 0 k d (omega arith) h))
      ]

  -- a line is one with an item more behind it
  pub line-last : (line : List X) (item : X) → covers item → IsLine covers before line
      → All (λ x. Leads covers before x item) line → IsLine covers before (line ++ item ∷ [])
  line-last line item covered kept led =
      record {
        covered = All-push covers line item kept.covered covered;
        ascends = all_pairs_push (Leads covers before) line item kept.ascends led;
      }

  -- where there is room for it
  pub joins_last : (room : Bool) (line new : List X) (item : X) → covers item → IsLine covers before line
      → All (λ x. Leads covers before x item) line → new ≡ cond room (line ++ item ∷ []) line
      → IsLine covers before new × OnTrue room (IsPermutation (item ∷ line) new)
  joins_last true line new item covered kept led is = (
    subst (IsLine covers before) (sym is) (line-last line item covered kept led),
    subst (IsPermutation (item ∷ line)) (sym is) (IsPermutation-sym _ _ (IsPermutation-to_front line item)),
  )
  joins_last false line new item covered kept led is = (subst (IsLine covers before) (sym is) kept, tt)

  -- a line without its first item
  pub line-rest : (x : X) (line : List X) → IsLine covers before (x ∷ line) → IsLine covers before line
  line-rest x line kept =
      record {
        covered = All-tail covers x line kept.covered;
        ascends = λ i j d less h. kept.ascends (suc i) (suc j) d (omega arith) (omega arith);
      }

  -- the first item of a line leads all behind it
  head_leads : (x : X) (line : List X) → IsLine covers before (x ∷ line) → All (Leads covers before x) line
  head_leads x line kept k d h = kept.ascends 0 (suc k) d (omega arith) (omega arith)

  -- the first item of a line that is ahead goes before no other
  pub pops_line : (x : X) (line tree : List X) → AreKept covers before (x ∷ line) tree
      → IsAhead (Leads covers before) (x ∷ line) tree → Pops before (x ∷ line ++ tree) (line ++ tree) x
  pops_line x line tree kept ahead =
      let Later : X → Type 0 = λ y. ¬ before y x in
      record {
        items = IsPermutation-refl (x ∷ line ++ tree);
        first = All-append Later line tree
            (All-weaker (Leads covers before x) Later (λ y led. led.after) line (head_leads x line kept.line))
            (All-weaker (Leads covers before x) Later (λ y led. led.after) tree ahead);
      }

  -- where items of a tree lead each of a line, so does one that no other of the tree goes before
  first_leads : (line tree : List X) (item : X) → covers item → All covers tree → All covers line
      → All (λ y. ¬ before y item) tree
      → All (λ x. Any (λ top. Leads covers before top x) tree) line → All (λ y. ¬ before y item) line
  first_leads line tree item covered all over first led k d h =
      let any = led k d h in
      let top = any.1 in
      let at : Contains tree top = (any.0, any.2, any.3) in
      order.handed_on item top (get_or line k d) covered (All-contains covers tree top all at) (over k d h)
      (All-contains (λ y. ¬ before y item) tree top first at) any.4.after

  -- the item that a tree gives up, where the line is not ahead
  pub pops_tree : (line old new : List X) (item : X) → AreKept covers before line old
      → All (λ x. Any (λ top. Leads covers before top x) old) line → Pops before old new item
      → Pops before (line ++ old) (line ++ new) item
  pops_tree line old new item kept led pops =
      let Later : X → Type 0 = λ y. ¬ before y item in
      let covered = All-permutation covers old (item ∷ new) pops.items kept.tree in
      let here = All-head covers item new covered in
      let all = All-permutation Later (item ∷ new) old (IsPermutation-sym _ _ pops.items)
      (All-cons Later item new (λ b. order.one_way item item here here b b) pops.first) in
      record {
        items = IsPermutation-trans _ _ _ (IsPermutation-append_right line old (item ∷ new) pops.items)
            (IsPermutation-middle line item new);
        first = All-append Later line new (first_leads line old item here kept.tree kept.line.covered all led)
            pops.first;
      }

  -- where the first of a tree goes before the first of a line, it leads all of this
  pub led_by_top : (line tree : List X) (first top : X) → AreKept covers before line tree
      → slice_get line 0 ≡ Some first → IsFirst before tree top → before top first
      → All (λ x. Any (λ t. Leads covers before t x) tree) line
  led_by_top line tree first top kept is top_is earlier k d h =
      let read = read_at line 0 first is in
      let here = All-contains covers tree top kept.tree top_is.among in
      let there = subst covers (read.1 d) (kept.line.covered 0 d read.0) in
      let all = leads_first line first top kept.line here is (order.one_way top first here there earlier) in
      (top_is.among.0, top, top_is.among.1, top_is.among.2, all k d h)

  -- what is left where a line that is ahead loses its first item
  pub ahead_pops : (r : Option X) (line new tree : List X) → AreKept covers before line tree
      → IsAhead (Leads covers before) line tree → line ≡ option_to_list r ++ new
      → IfSome r (Pops before (line ++ tree) (new ++ tree)) × AreKept covers before new tree
  ahead_pops None line new tree kept ahead is = (tt, subst (λ (l : List X). AreKept covers before l tree) is kept)
  ahead_pops (Some x) line new tree kept ahead is =
      let all = subst (λ (l : List X). AreKept covers before l tree) is kept in
      let first = subst (λ (l : List X). IsAhead (Leads covers before) l tree) is ahead in
      let P : List X → Type 0 = λ l. Pops before (l ++ tree) (new ++ tree) x in (
        subst P (sym is) (pops_line x new tree all first),
        record { line = line-rest x new all.line; tree = all.tree },
      )

  -- the same where a tree loses an item, or none
  pub tree_kept : {O : Type 0} (r : Option X) (line : List X) (old new : Contents X O)
      → AreKept covers before line old.items → IfSome r (Pops before old.items new.items) → IfNone r (new ≡ old)
      → AreKept covers before line new.items
  tree_kept {O} None line old new kept pops same =
      subst (λ (c : Contents X O). AreKept covers before line c.items) (sym same) kept
  tree_kept (Some x) line old new kept pops same =
      record {
        line = kept.line;
        tree = All-tail covers x new.items (All-permutation covers old.items (x ∷ new.items) pops.items kept.tree);
      }

  -- where nothing is in a tree and it is first, nothing is in the line
  both_empty : (line tree : List X) → All (λ x. Any (λ top. Leads covers before top x) tree) line → tree ≡ []
      → line ++ tree ≡ []
  both_empty [] tree led e = e
  both_empty (x ∷ xs) tree led e =
      let any = led 0 x (omega arith) in
      let none : length tree ≡ 0 = ap length e in
      absurd (omega (arith, any.2, none))

  tree_empty : (line tree : List X) → line ++ tree ≡ [] → tree ≡ []
  tree_empty [] tree e = e
  tree_empty (x ∷ xs) tree e = absurd (cc)

  pub none_of_both : (r : Option X) (line tree : List X)
      → All (λ x. Any (λ top. Leads covers before top x) tree) line → (IsNone r ↔ (tree ≡ []))
      → (IsNone r ↔ (line ++ tree ≡ []))
  none_of_both r line tree led none =
      (λ n. both_empty line tree led (none.0 n), λ e. none.1 (tree_empty line tree e))

  -- the first item of a line that is ahead, as the first of all
  pub first_of_line : (x : X) (line tree : List X) → AreKept covers before (x ∷ line) tree
      → IsAhead (Leads covers before) (x ∷ line) tree → IsFirst before (x ∷ line ++ tree) x
  first_of_line x line tree kept ahead =
      let here = All-head covers x line kept.line.covered in
      record {
        among = (0, omega arith, refl);
        first = All-cons (λ y. ¬ before y x) x (line ++ tree) (λ b. order.one_way x x here here b b)
            (pops_line x line tree kept ahead).first;
      }

  pub ahead_first : (line tree : List X) → AreKept covers before line tree → IsAhead (Leads covers before) line tree
      → IfSome (slice_get line 0) (IsFirst before (line ++ tree))
  ahead_first [] tree kept ahead = absurd ahead
  ahead_first (x ∷ line) tree kept ahead = first_of_line x line tree kept ahead

  -- the first item of a tree, where the line is not ahead, as the first of all
  pub first_of_tree : (line tree : List X) (item : X) → AreKept covers before line tree
      → All (λ x. Any (λ top. Leads covers before top x) tree) line → IsFirst before tree item
      → IsFirst before (line ++ tree) item
  first_of_tree line tree item kept led is =
      let here = All-contains covers tree item kept.tree is.among in
      record {
        among = Contains-append_right line tree item is.among;
        first = All-append (λ y. ¬ before y item) line tree
            (first_leads line tree item here kept.tree kept.line.covered is.first led) is.first;
      }
