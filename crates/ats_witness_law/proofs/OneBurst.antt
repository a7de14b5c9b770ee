-- A burst is one list.
use Rattle.std.proofs.Common.{◌≡◌, inl, inr, ℕ, ◌<◌, Bool, true, false, cond, List, [], ◌∷◌, get_or, filter, length}
use Rattle.std.proofs.Common.{refl, sym, ap, subst, ◌∙◌, arith, eqb}
use Rattle.std.specs.List.{AllPairs, Contains}
use Rattle.std.proofs.lemmas.Bool.{cases_Bool, cond-true, cond-false, eq-eqb, eqb-false, ne_eqb}
use Rattle.std.proofs.lemmas.List.Elements.{All-contains, All-contains_itself, All-filter}
use Rattle.ats_facts.proofs.Lists.{pairs_head, pairs_tail}
use Rattle.ats_trace.specs.declared.journey.Release.{Release}
use Rattle.ats_witness.specs.Burst.{ComesBefore, releases_by}
use Rattle.ats_witness_law.specs.Laws.{BurstIsOne}

-- the first of a sender's releases, where the list begins with another sender's, is among the rest
first_behind : (i : ℕ) (x y : Release) (more rest : List Release) → x ∷ more ≡ releases_by i (y ∷ rest)
    → eqb y.sender i ≡ false → Contains rest x
first_behind i x y more rest is other =
    let own = λ (r : Release). eqb r.sender i in
    let behind : x ∷ more ≡ filter own rest =
    is ∙ cond-false (eqb y.sender i) (y ∷ filter own rest) (filter own rest) other in
    let some : 0 < length (filter own rest) =
    (let long = ap (λ (l : List Release). length l) behind in omega (arith, long)) in
    let there : Contains rest (get_or (filter own rest) 0 x) =
    All-filter own (Contains rest) rest (All-contains_itself rest) 0 x some in
    subst (Contains rest) (sym (ap (λ (l : List Release). get_or l 0 x) behind)) there

same_first : (x y : Release) (more rest : List Release) → x ∷ more ≡ y ∷ rest → x ≡ y
same_first x y more rest h = cc

-- two releases of which each comes before the other are of one sender
one_sender : (x y : Release) → ComesBefore x y → ComesBefore y x → x.sender ≡ y.sender
one_sender x y (inl less) (inl more) = absurd (omega (arith, less, more))
one_sender x y (inl less) (inr same) = absurd (omega (arith, less, same.0))
one_sender x y (inr same) (inl more) = absurd (omega (arith, same.0, more))
one_sender x y (inr same) (inr other) = omega (arith, same.1, other.1)

-- of two lists with the same releases of each sender, both in order, the first releases are the same
first_same : (x y : Release) (a b : List Release)
    → ((i : ℕ) → releases_by i (x ∷ a) ≡ releases_by i (y ∷ b))
    → AllPairs ComesBefore (x ∷ a) → AllPairs ComesBefore (y ∷ b) → x ≡ y
first_same x y a b same pa pb =
    elim (cases_Bool (eqb y.sender x.sender)) as (λ _. x ≡ y) [
      | inl own ↦ same_first x y (releases_by x.sender a) (releases_by x.sender b)
          (begins ∙ cond-true (eqb y.sender x.sender) (y ∷ releases_by x.sender b) (releases_by x.sender b) own)
      | inr other ↦
          (let there : Contains b x = first_behind x.sender x y (releases_by x.sender a) b begins other in
          let y_first : ComesBefore y x = All-contains (ComesBefore y) b x (pairs_head ComesBefore y b pb) there in
          let back : Contains a y = first_behind y.sender y x (releases_by y.sender b) a ends
          (ne_eqb x.sender y.sender (λ e. eqb-false y.sender x.sender other (sym e))) in
          let x_first : ComesBefore x y = All-contains (ComesBefore x) a y (pairs_head ComesBefore x a pa) back in
          absurd (eqb-false y.sender x.sender other (sym (one_sender x y x_first y_first))))
    ]
  where
    begins : x ∷ releases_by x.sender a ≡ releases_by x.sender (y ∷ b)
    begins = sym (cond-true (eqb x.sender x.sender) (x ∷ releases_by x.sender a) (releases_by x.sender a)
        (eq-eqb x.sender x.sender refl)) ∙ same x.sender

    ends : y ∷ releases_by y.sender b ≡ releases_by y.sender (x ∷ a)
    ends = sym (cond-true (eqb y.sender y.sender) (y ∷ releases_by y.sender b) (releases_by y.sender b)
        (eq-eqb y.sender y.sender refl)) ∙ sym (same y.sender)

-- and so are the rest
rest_same : (x y : Release) (a b : List Release) (i : ℕ) → x ≡ y
    → releases_by i (x ∷ a) ≡ releases_by i (y ∷ b) → releases_by i a ≡ releases_by i b
rest_same x y a b i is same =
    by (eqb x.sender i) (same ∙ sym (ap (λ (r : Release). releases_by i (r ∷ b)) is))
  where
    by : (t : Bool)
        → cond t (x ∷ releases_by i a) (releases_by i a) ≡ cond t (x ∷ releases_by i b) (releases_by i b)
        → releases_by i a ≡ releases_by i b
    by true h = cc
    by false h = h

nothing_else : (y : Release) (b : List Release) → [] ≡ releases_by y.sender (y ∷ b) → ⊥
nothing_else y b h =
    let long = ap (λ (l : List Release). length l)
    (h ∙ cond-true (eqb y.sender y.sender) (y ∷ releases_by y.sender b) (releases_by y.sender b)
    (eq-eqb y.sender y.sender refl)) in
    omega (arith, long)

lists_same : (a b : List Release) → ((i : ℕ) → releases_by i a ≡ releases_by i b)
    → AllPairs ComesBefore a → AllPairs ComesBefore b → a ≡ b
lists_same [] [] same pa pb = refl
lists_same [] (y ∷ b) same pa pb = absurd (nothing_else y b (same y.sender))
lists_same (x ∷ a) [] same pa pb = absurd (nothing_else x a (sym (same x.sender)))
lists_same (x ∷ a) (y ∷ b) same pa pb =
    let first : x ≡ y = first_same x y a b same pa pb in
    let rest : a ≡ b = lists_same a b (λ i. rest_same x y a b i first (same i)) (pairs_tail ComesBefore x a pa)
    (pairs_tail ComesBefore y b pb) in
    ap (λ (r : Release). r ∷ a) first ∙ ap (λ (l : List Release). y ∷ l) rest

pub burst_is_one : BurstIsOne
burst_is_one network port class one other first second =
    lists_same one other (λ i. first.of_each i ∙ sym (second.of_each i)) first.in_order second.in_order
