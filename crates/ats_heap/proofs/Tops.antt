use Rattle.std.proofs.Common.{◌≡◌, ℕ, zero, suc, ◌-◌, ◌/◌, ◌<◌, ◌≤◌, List, [], ◌∷◌, ◌++◌, length, get_or, All}
use Rattle.std.proofs.Common.{subst, sym}
use Rattle.std.proofs.Common.{arith, inl, inr, set, take, ◌∙◌, ap}
use Rattle.std.specs.Prelude.{IsPermutation}
use Rattle.std.proofs.lemmas.List.Sorted.{IsPermutation-cons, IsPermutation-to_front}
use Rattle.std.proofs.lemmas.Bool.{cases_eq}
use Rattle.std.proofs.lemmas.List.{get_or_default, take-append-le, take_all, set_at}
use Rattle.ats_heap.specs.Order.{IsWeakOrder}
use Rattle.ats_heap.specs.Inside.{Leads, IsHeap}

-- leading is handed on
pub leads-trans : {X : Type 0} (covers : X → Type 0) (before : X → X → Type 0) → IsWeakOrder covers before
    → (x y z : X) → Leads covers before x y → Leads covers before y z → Leads covers before x z
leads-trans covers before order x y z xy yz =
    record {
      first = xy.first;
      second = yz.second;
      after = order.handed_on x y z xy.first xy.second yz.second xy.after yz.after;
    }

-- each item leads itself
pub leads-self : {X : Type 0} (covers : X → Type 0) (before : X → X → Type 0) → IsWeakOrder covers before
    → (x : X) → covers x → Leads covers before x x
leads-self covers before order x h =
    record { first = h; second = h; after = λ b. order.one_way x x h h b b }

-- what goes before leads
pub leads-before : {X : Type 0} (covers : X → Type 0) (before : X → X → Type 0) → IsWeakOrder covers before
    → (x y : X) → covers x → covers y → before x y → Leads covers before x y
leads-before covers before order x y hx hy b =
    record { first = hx; second = hy; after = order.one_way x y hx hy b }

-- the first item of a heap leads all
top_by : {X : Type 0} (leads : X → X → Type 0) → ((x y z : X) → leads x y → leads y z → leads x z) → (xs : List X)
    → ((d : X) → leads (get_or xs 0 d) (get_or xs 0 d)) → IsHeap leads xs
    → (n k : ℕ) (d : X) → k ≤ n → k < length xs → leads (get_or xs 0 d) (get_or xs k d)
top_by {X} leads joins xs self heap zero k d kn l =
    let e : 0 ≡ k = omega arith in
    subst (λ (m : ℕ). leads (get_or xs 0 d) (get_or xs m d)) e (self d)
top_by {X} leads joins xs self heap (suc n) k d kn l =
    elim (cases_eq 0 k) as (λ _. leads (get_or xs 0 d) (get_or xs k d)) [
      | inl e ↦ subst (λ (m : ℕ). leads (get_or xs 0 d) (get_or xs m d)) e (self d)
      | inr some ↦ (let j : ℕ = (k - 1) / 4 in
          let low : j ≤ n = omega arith in
          let within : j < length xs = omega arith in
          joins _ _ _ (top_by leads joins xs self heap n j d low within)
          (heap j k d (record { least = omega arith; most = omega arith }) l))
    ]

pub top_leads : {X : Type 0} (covers : X → Type 0) (before : X → X → Type 0) → IsWeakOrder covers before
    → (xs : List X) (first : X) → 0 < length xs → first ≡ get_or xs 0 first → All covers xs
    → IsHeap (Leads covers before) xs → All (Leads covers before first) xs
top_leads {X} covers before order xs first some is covered heap k d h =
    let self = λ (e : X). leads-self covers before order (get_or xs 0 e) (covered 0 e some) in
    let joins = leads-trans covers before order in
    let led = top_by (Leads covers before) joins xs self heap k k first (omega arith) h in
    rw (get_or_default xs k first d h, ← is) at led

-- where the last item of a list takes the place of its first, this one is out
pub replaced : {X : Type 0} (xs : List X) (item first : X) → 0 < length xs → first ≡ get_or xs 0 first
    → IsPermutation (xs ++ item ∷ []) (first ∷ set xs 0 item)
replaced [] item first some is = absurd (omega arith)
replaced {X} (x ∷ xs) item first some is =
    let P : X → Type 0 = λ y. IsPermutation (x ∷ xs ++ item ∷ []) (y ∷ item ∷ xs) in
    subst P (sym is) (IsPermutation-cons x (xs ++ item ∷ []) (item ∷ xs) (IsPermutation-to_front xs item))

-- what is taken of a whole list with more behind it
pub whole : {X : Type 0} (n : ℕ) (xs ys : List X) → length xs ≡ n → take n (xs ++ ys) ≡ xs
whole n xs ys e = take-append-le n xs ys (omega arith) ∙ take_all n xs (omega arith)

-- an item is added at the end of a list, whose items then change places
pub added : {X : Type 0} (old shown new : List X) (item : X) (place : ℕ) → shown ≡ old ++ item ∷ []
    → length old ≡ place → IsPermutation (set shown place item) new → IsPermutation (old ++ item ∷ []) new
added {X} old shown new item place is at moved =
    let put : set shown place item ≡ old ++ item ∷ [] =
    ap (λ (xs : List X). set xs place item) is ∙ set_at old item [] item place at in
    subst (λ (xs : List X). IsPermutation xs new) put moved
