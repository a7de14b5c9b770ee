use Rattle.std.proofs.Common.{◌≡◌, ℕ, ◌<◌, ◌≤◌, List, length, get_or, All, Bool, true, false, cond, refl, sym, subst}
use Rattle.std.proofs.Common.{◌∙◌}
use Rattle.std.proofs.Common.{arith, inl, inr}
use Rattle.std.specs.Prelude.{IsTrue, ◌↔◌}
use Rattle.std.proofs.lemmas.Bool.{cases_eq}
use Rattle.std.proofs.lemmas.List.{get_or_default}
use Rattle.ats_heap.specs.Order.{IsWeakOrder}
use Rattle.ats_heap.specs.Inside.{Leads, AreFour, IsFirstOf}
use Rattle.ats_heap.proofs.Tops.{leads-trans, leads-self, leads-before}

-- what stands at one of two places
at_cond : {X : Type 0} (xs : List X) (s : Bool) (i j : ℕ) (x y : X) (d : X) → get_or xs i d ≡ x → get_or xs j d ≡ y
    → get_or xs (cond s j i) d ≡ cond s y x
at_cond xs true i j x y d xi yj = yj
at_cond xs false i j x y d xi yj = xi

-- a place of two is from the first on
cond_least : (s : Bool) (n i j : ℕ) → n ≤ i → n ≤ j → n ≤ cond s j i
cond_least true n i j a b = b
cond_least false n i j a b = a

-- and up to the second
cond_most : (s : Bool) (i j n : ℕ) → i ≤ n → j ≤ n → cond s j i ≤ n
cond_most true i j n a b = b
cond_most false i j n a b = a

module _ {X : Type 0} (covers : X → Type 0) (before : X → X → Type 0) (order : IsWeakOrder covers before) where
  -- of two items, the one that a test says goes first leads both
  pair : (s : Bool) (x y : X) → covers x → covers y → (IsTrue s ↔ before y x)
      → Leads covers before (cond s y x) x × Leads covers before (cond s y x) y × covers (cond s y x)
  pair true x y hx hy is = (
    leads-before covers before order y x hy hx (is.0 refl),
    leads-self covers before order y hy,
    hy,
  )
  pair false x y hx hy is = (
    leads-self covers before order x hx,
    record { first = hx; second = hy; after = λ b. (let e = is.1 b in absurd (cc)) },
    hx,
  )

  -- each of two firsts compared with each of two others tells how the first two compare
  across : (r f zx yx zw yw : Bool) (w x y z : X) → (IsTrue zx ↔ before z x) → (IsTrue yx ↔ before y x)
      → (IsTrue zw ↔ before z w) → (IsTrue yw ↔ before y w)
      → (IsTrue (cond r (cond f zx yx) (cond f zw yw)) ↔ before (cond f z y) (cond r x w))
  across true true zx yx zw yw w x y z a b c d = a
  across true false zx yx zw yw w x y z a b c d = b
  across false true zx yx zw yw w x y z a b c d = c
  across false false zx yx zw yw w x y z a b c d = d

  -- of four items, the one that six tests say goes first leads each
  pub four : (r f t : Bool) (w x y z : X) → covers w → covers x → covers y → covers z → (IsTrue r ↔ before x w)
      → (IsTrue f ↔ before z y) → (IsTrue t ↔ before (cond f z y) (cond r x w))
      → Leads covers before (cond t (cond f z y) (cond r x w)) w
      × Leads covers before (cond t (cond f z y) (cond r x w)) x
      × Leads covers before (cond t (cond f z y) (cond r x w)) y
      × Leads covers before (cond t (cond f z y) (cond r x w)) z
  four r f t w x y z hw hx hy hz is_r is_f is_t =
      let one = pair r w x hw hx is_r in
      let other = pair f y z hy hz is_f in
      let both = pair t (cond r x w) (cond f z y) one.2 other.2 is_t in
      let joins = leads-trans covers before order in (
        joins _ _ _ both.0 one.0,
        joins _ _ _ both.0 one.1,
        joins _ _ _ both.1 other.0,
        joins _ _ _ both.1 other.1,
      )

  -- what stands at a place is led where the item there is
  led_at : (xs : List X) (v u : X) (k m : ℕ) (e : X) → k ≡ m → get_or xs m e ≡ u → Leads covers before v u
      → Leads covers before v (get_or xs k e)
  led_at xs v u k m e km at led =
      subst (λ n. Leads covers before v (get_or xs n e)) (sym km) (subst (Leads covers before v) (sym at) led)

  -- of what stands at four places, the one that six tests say goes first leads each
  pub first_of : (xs : List X) (a b c d : ℕ) (w x y z : X) (r f zw yw zx yx : Bool) → All covers xs → AreFour a b c d
      → d < length xs → w ≡ get_or xs a w → x ≡ get_or xs b x → y ≡ get_or xs c y → z ≡ get_or xs d z
      → (IsTrue r ↔ before x w) → (IsTrue f ↔ before z y) → (IsTrue zw ↔ before z w) → (IsTrue yw ↔ before y w)
      → (IsTrue zx ↔ before z x) → (IsTrue yx ↔ before y x)
      → IsFirstOf (Leads covers before) xs a d
      (cond (cond r (cond f zx yx) (cond f zw yw)) (cond f d c) (cond r b a))
  first_of xs a b c d w x y z r f zw yw zx yx covered places within wa xb yc zd is_r is_f is_zw is_yw is_zx is_yx =
      let t : Bool = cond r (cond f zx yx) (cond f zw yw) in
      let ha : a < length xs = omega (arith, places.second, places.third, places.last) in
      let hb : b < length xs = omega (arith, places.third, places.last) in
      let hc : c < length xs = omega (arith, places.last) in
      let at_a : (e : X) → get_or xs a e ≡ w = λ e. get_or_default xs a e w ha ∙ sym wa in
      let at_b : (e : X) → get_or xs b e ≡ x = λ e. get_or_default xs b e x hb ∙ sym xb in
      let at_c : (e : X) → get_or xs c e ≡ y = λ e. get_or_default xs c e y hc ∙ sym yc in
      let at_d : (e : X) → get_or xs d e ≡ z = λ e. get_or_default xs d e z within ∙ sym zd in
      let led = four r f t w x y z (subst covers (at_a w) (covered a w ha)) (subst covers (at_b x) (covered b x hb))
      (subst covers (at_c y) (covered c y hc)) (subst covers (at_d z) (covered d z within)) is_r is_f
      (across r f zx yx zw yw w x y z is_zx is_yx is_zw is_yw) in
      let v : X = cond t (cond f z y) (cond r x w) in
      let here : (e : X) → get_or xs (cond t (cond f d c) (cond r b a)) e ≡ v = λ e.
      at_cond xs t (cond r b a) (cond f d c) (cond r x w) (cond f z y) e
      (at_cond xs r a b w x e (at_a e) (at_b e)) (at_cond xs f c d y z e (at_c e) (at_d e)) in
      record {
        least = cond_least t a (cond r b a) (cond f d c)
            (cond_least r a a b (omega arith) places.second)
            (cond_least f a c d (omega (arith, places.second, places.third))
            (omega (arith, places.second, places.third, places.last)));
        most = cond_most t (cond r b a) (cond f d c) d
            (cond_most r a b d (omega (arith, places.second, places.third, places.last))
            (omega (arith, places.third, places.last)))
            (cond_most f c d d places.last (omega arith));
        first = λ k e low high. rw (here e) (elim (cases_eq k a) as (λ _. Leads covers before v (get_or xs k e)) [
          | inl ka ↦ led_at xs v w k a e ka (at_a e) led.0
          | inr na ↦ elim (cases_eq k b) as (λ _. Leads covers before v (get_or xs k e)) [
            | inl kb ↦ led_at xs v x k b e kb (at_b e) led.1
            | inr nb ↦ elim (cases_eq k c) as (λ _. Leads covers before v (get_or xs k e)) [
              | inl kc ↦ led_at xs v y k c e kc (at_c e) led.2
              | inr nc ↦ led_at xs v z k d e
                  (omega (arith, places.after_first, places.after_second, places.after_third)) (at_d e) led.3
            ]
          ]
        ]);
      }
