use Rattle.std.proofs.Common.{◌≡◌, ℕ, zero, suc, ◌<◌, List, [], ◌∷◌, ◌++◌, length, get_or, ◌⊎◌, subst, sym, ap, ◌∙◌}
use Rattle.std.proofs.Common.{refl, inl, inr, arith}
use Rattle.std.specs.Prelude.{◌≢◌, ◌-◌, Any, Contains, IsPermutation, map}
use Rattle.std.proofs.lemmas.List.{get_or_push, length_push, map_push}
use Rattle.std.proofs.lemmas.List.Sorted.{IsPermutation-sym, IsPermutation-trans, IsPermutation-middle}
use Rattle.std.proofs.lemmas.List.Sorted.{IsPermutation-to_front, IsPermutation-append_left, IsPermutation-append_right}
use Rattle.std.proofs.lemmas.List.Sorted.{IsPermutation-map, Contains-permutation}
use Rattle.ats_transmit.specs.Sending.{last_of, never}
use Rattle.ats_transmit.specs.declared.offer.Offer.{Offer}
use Rattle.ats_transmit.specs.declared.sent.Sent.{Sent}

-- different numbers are so both ways
pub flip : (x y : ℕ) → x ≢ y → y ≢ x
flip x y apart e = apart (sym e)

-- a list to which one element came has all that it had
pub contains-more : {X : Type 0} (x y : X) (xs ys : List X) → IsPermutation (x ∷ xs) ys → Contains xs y → Contains ys y
contains-more x y xs ys p c = Contains-permutation (x ∷ xs) ys y p (suc c.0, omega (arith, c.1), c.2)

-- and the new one
pub contains-new : {X : Type 0} (x : X) (xs ys : List X) → IsPermutation (x ∷ xs) ys → Contains ys x
contains-new x xs ys p = Contains-permutation (x ∷ xs) ys x p (0, omega arith, refl)

-- an element that is not the first is among the rest
pub contains-rest : {X : Type 0} (x y : X) (xs : List X) → Contains (x ∷ xs) y → x ≢ y → Contains xs y
contains-rest {X} x y xs c apart = by c.0 c.1 c.2
  where
    by : (k : ℕ) → k < length (x ∷ xs) → get_or (x ∷ xs) k y ≡ y → Contains xs y
    by zero h e = absurd (apart e)
    by (suc k) h e = (k, omega arith, e)

-- where some element had it, some element has it once one more came
pub any-more : {X : Type 0} (P : X → Type 0) (x : X) (xs ys : List X) → IsPermutation (x ∷ xs) ys → Any P xs
    → Any P ys
any-more P x xs ys p a = let c = contains-more x a.1 xs ys p (a.0, a.2, a.3) in (c.0, a.1, c.1, c.2, a.4)

-- where some element has it then, it is the new one or one of those before
pub any-split : {X : Type 0} (P : X → Type 0) (x : X) (xs ys : List X) → IsPermutation (x ∷ xs) ys → Any P ys
    → P x ⊎ Any P xs
any-split {X} P x xs ys p a =
    let c : Contains (x ∷ xs) a.1 =
    Contains-permutation ys (x ∷ xs) a.1 (IsPermutation-sym (x ∷ xs) ys p) (a.0, a.2, a.3) in
    by c.0 a.1 c.1 c.2 a.4
  where
    by : (k : ℕ) (y : X) → k < length (x ∷ xs) → get_or (x ∷ xs) k y ≡ y → P y → P x ⊎ Any P xs
    by zero y h e q = inl (subst P (sym e) q)
    by (suc k) y h e q = inr (k, y, omega arith, e, q)

-- the last of a list to which one transmission came is that one
pub last-push : (xs : List Sent) (x : Sent) → last_of (xs ++ x ∷ []) ≡ x
last-push xs x = get_or_push xs x never (length (xs ++ x ∷ []) - 1) (omega (arith, length_push xs x))

-- the numbers of the frames that a port holds, and has sent, with one more held
pub frames-offered : (o : Offer) (old new : List Offer) (sent : List Sent) → IsPermutation (o ∷ old) new
    → IsPermutation (o.frame ∷ (map (λ (o : Offer). o.frame) old ++ map (λ (x : Sent). x.frame) sent))
    (map (λ (o : Offer). o.frame) new ++ map (λ (x : Sent). x.frame) sent)
frames-offered o old new sent p =
    let f : Offer → ℕ = λ (o : Offer). o.frame in
    IsPermutation-append_left (map (λ (x : Sent). x.frame) sent) (map f (o ∷ old)) (map f new)
    (IsPermutation-map f (o ∷ old) new p)

-- and with one taken out of those that it held
pub frames-taken : (o : Offer) (old new : List Offer) (sent : List Sent) → IsPermutation old (o ∷ new)
    → IsPermutation (map (λ (o : Offer). o.frame) old ++ map (λ (x : Sent). x.frame) sent)
    (o.frame ∷ (map (λ (o : Offer). o.frame) new ++ map (λ (x : Sent). x.frame) sent))
frames-taken o old new sent p =
    let f : Offer → ℕ = λ (o : Offer). o.frame in
    IsPermutation-append_left (map (λ (x : Sent). x.frame) sent) (map f old) (map f (o ∷ new))
    (IsPermutation-map f old (o ∷ new) p)

-- once it is sent, the port has the same numbers
pub frames-started : (o : Offer) (x : Sent) (old new : List Offer) (sent : List Sent) → IsPermutation old (o ∷ new)
    → x.frame ≡ o.frame
    → IsPermutation (map (λ (o : Offer). o.frame) old ++ map (λ (x : Sent). x.frame) sent)
    (map (λ (o : Offer). o.frame) new ++ map (λ (x : Sent). x.frame) (sent ++ x ∷ []))
frames-started o x old new sent p same =
    let f : Offer → ℕ = λ (o : Offer). o.frame in
    let g : Sent → ℕ = λ (x : Sent). x.frame in
    let To : List ℕ → Type 0 = λ (ns : List ℕ). IsPermutation (map f old ++ map g sent) (map f new ++ ns) in
    let last : map g sent ++ o.frame ∷ [] ≡ map g (sent ++ x ∷ []) =
    ap (λ (n : ℕ). map g sent ++ n ∷ []) (sym same) ∙ sym (map_push g sent x) in
    subst To last
    (IsPermutation-trans _ _ _ (frames-taken o old new sent p)
    (IsPermutation-trans _ _ _ (IsPermutation-sym _ _ (IsPermutation-middle (map f new) o.frame (map g sent)))
    (IsPermutation-append_right (map f new) (o.frame ∷ map g sent) (map g sent ++ o.frame ∷ [])
    (IsPermutation-sym _ _ (IsPermutation-to_front (map g sent) o.frame)))))
