-- The places of slots.
use Rattle.std.proofs.Common.{◌≡◌, ◌≢◌, ℕ, zero, suc, ◌+◌, ◌<◌, ◌≤◌, List, [], ◌∷◌, ◌++◌, length, get_or, set, take}
use Rattle.std.proofs.Common.{◌⊎◌, inl, inr, sym, ap, subst, ◌∙◌, arith}
use Rattle.std.specs.List.{All, remove}
use Rattle.std.proofs.lemmas.Bool.{cases_eq, cases_lt}
use Rattle.std.proofs.lemmas.List.{get_or-set_same, get_or-set_other, get_or_append_left, get_or_default}
use Rattle.std.proofs.lemmas.List.{get_or-take, get_or_push, length-take-le, length_push, take-append-le}
use Rattle.std.proofs.lemmas.List.Edits.{get_or-remove_below, length-remove}
use Rattle.std.proofs.lemmas.List.Elements.{All-cons, All-head, All-push, All-tail, All-weaker}
use Rattle.std.proofs.lemmas.List.Quantifiers.{all_pairs_push, all_pairs_remove}
use Rattle.ats_facts.proofs.Lists.{pairs_head, pairs_tail}
use Rattle.ats_admission_users.specs.Lists.{AllDiffer, AreSlots, AreUsed, Tells}
use Rattle.ats_admission_users.specs.declared.port_users.TheConstants.{MAX_PATHS}

-- slots that have their places differ
pub slots_differ : (slots places : List ℕ) → AreSlots slots places → AllDiffer slots
slots_differ slots places are i j d before within same =
    let first : i < length slots = omega (arith, before, within) in
    let alike : get_or slots i 0 ≡ get_or slots j 0 =
    get_or_default slots i 0 d first ∙ same ∙ get_or_default slots j d 0 within in
    let one : i ≡ j =
    sym (are.told i first first) ∙ ap (λ (slot : ℕ). get_or places slot 0) alike ∙ are.told j within within in
    omega (arith, one, before)

-- the place of one slot more is told
pub tells_more : (slots places : List ℕ) (n : ℕ) → AllDiffer slots → All (λ slot. slot < length places) slots
    → n < length slots → Tells slots places n → Tells slots (set places (get_or slots n 0) n) (n + 1)
tells_more slots places n differ inside within told k below there = by (cases_eq k n)
  where
    slot : ℕ
    slot = get_or slots n 0

    by : (k ≡ n) ⊎ (k ≡ n → ⊥) → get_or (set places (get_or slots n 0) n) (get_or slots k 0) 0 ≡ k
    by (inl same) =
        ap (λ (m : ℕ). get_or (set places (get_or slots n 0) n) (get_or slots m 0) 0) same
        ∙ get_or-set_same places (get_or slots n 0) n 0 (inside n 0 within) ∙ sym same
    by (inr other) =
        let before : k < n = omega (arith, below, other) in
        get_or-set_other places (get_or slots n 0) (get_or slots k 0) n 0 (differ k n 0 before within)
        ∙ told k before there

-- a slot is added, whose number is its place
pub slot_added : (slots places : List ℕ) → AreSlots slots places → length slots < MAX_PATHS
    → AreSlots (slots ++ length slots ∷ []) (places ++ length slots ∷ [])
slot_added slots places are room = record {
  few = omega (arith, length_push slots (length slots), room);
  many = omega (arith, length_push slots (length slots), length_push places (length slots), are.many);
  inside = All-push (λ slot. slot < length (places ++ length slots ∷ [])) slots (length slots)
      (All-weaker (λ slot. slot < length places) (λ slot. slot < length (places ++ length slots ∷ []))
      (λ slot below. omega (arith, below, length_push places (length slots))) slots are.inside)
      (omega (arith, length_push places (length slots), are.many));
  told = λ n below within. by n (omega (arith, below, length_push slots (length slots))) (cases_lt n (length slots));
}
  where
    by : (n : ℕ) → n < length slots + 1 → (n < length slots) ⊎ (length slots ≤ n)
        → get_or (places ++ length slots ∷ []) (get_or (slots ++ length slots ∷ []) n 0) 0 ≡ n
    by n below (inl before) =
        ap (λ (slot : ℕ). get_or (places ++ length slots ∷ []) slot 0)
        (get_or_append_left slots (length slots ∷ []) 0 n before)
        ∙ get_or_append_left places (length slots ∷ []) 0 (get_or slots n 0) (are.inside n 0 before)
        ∙ are.told n before before
    by n below (inr past) =
        let last : length slots ≡ n = omega (arith, below, past) in
        ap (λ (slot : ℕ). get_or (places ++ length slots ∷ []) slot 0)
        (get_or_push slots (length slots) 0 n last)
        ∙ get_or_push places (length slots) 0 (length slots) are.many ∙ last

-- the other slots differ from one
others_differ : (slots : List ℕ) (n : ℕ) → AllDiffer slots → n < length slots
    → All (λ slot. slot ≢ get_or slots n 0) (remove slots n)
others_differ [] n differ within = absurd (omega arith)
others_differ (s ∷ slots) zero differ within =
    All-weaker (λ slot. s ≢ slot) (λ slot. slot ≢ s) (λ slot other e. other (sym e)) slots
    (pairs_head (λ a b. a ≢ b) s slots differ)
others_differ (s ∷ slots) (suc n) differ within =
    All-cons (λ slot. slot ≢ get_or slots n 0) s (remove slots n)
    (pairs_head (λ a b. a ≢ b) s slots differ n 0 (omega arith))
    (others_differ slots n (pairs_tail (λ a b. a ≢ b) s slots differ) (omega arith))

-- what holds of each holds of the others
all_remove : (P : ℕ → Type 0) (slots : List ℕ) (n : ℕ) → n < length slots → All P slots → All P (remove slots n)
all_remove P [] n within all = absurd (omega arith)
all_remove P (s ∷ slots) zero within all = All-tail P s slots all
all_remove P (s ∷ slots) (suc n) within all =
    All-cons P s (remove slots n) (All-head P s slots all) (all_remove P slots n (omega arith) (All-tail P s slots all))

-- slots of which one went behind all others: before its place all places are told still
pub record AreFreed (slots places : List ℕ) (n : ℕ) : Type 0 where
  pub long : length (remove slots n ++ get_or slots n 0 ∷ []) ≡ length slots
  pub differ : AllDiffer (remove slots n ++ get_or slots n 0 ∷ [])
  pub inside : All (λ slot. slot < length places) (remove slots n ++ get_or slots n 0 ∷ [])
  pub told : Tells (remove slots n ++ get_or slots n 0 ∷ []) places n

pub are_freed : (slots places : List ℕ) (n : ℕ) → AreSlots slots places → n < length slots → AreFreed slots places n
are_freed slots places n are within = record {
  long = omega (arith, length_push (remove slots n) (get_or slots n 0), length-remove slots n within);
  differ = all_pairs_push (λ a b. a ≢ b) (remove slots n) (get_or slots n 0)
      (all_pairs_remove (λ a b. a ≢ b) slots n within apart) (others_differ slots n apart within);
  inside = All-push (λ slot. slot < length places) (remove slots n) (get_or slots n 0)
      (all_remove (λ slot. slot < length places) slots n within are.inside) (are.inside n 0 within);
  told = λ k below there.
      (let before : k < length (remove slots n) = omega (arith, below, within, length-remove slots n within) in
      ap (λ (slot : ℕ). get_or places slot 0)
      (get_or_append_left (remove slots n) (get_or slots n 0 ∷ []) 0 k before
      ∙ get_or-remove_below slots n 0 k below within)
      ∙ are.told k (omega (arith, below, within)) (omega (arith, below, within)));
}
  where
    apart : AllDiffer slots
    apart = slots_differ slots places are

-- the used slots are then one less
pub take_freed : (slots : List ℕ) (n last slot : ℕ) → n ≤ last → last < length slots
    → take last (remove slots n ++ slot ∷ []) ≡ remove (take (suc last) slots) n
take_freed [] n last slot before within = absurd (omega arith)
take_freed (s ∷ slots) zero last slot before within = take-append-le last slots (slot ∷ []) (omega arith)
take_freed (s ∷ slots) (suc n) zero slot before within = absurd (omega (arith, before))
take_freed (s ∷ slots) (suc n) (suc last) slot before within =
    ap (λ (l : List ℕ). s ∷ l) (take_freed slots n last slot (omega (arith, before)) (omega (arith, within)))

-- what they are, once one is removed and put behind them
pub freed_is : (slots between slots' : List ℕ) (n slot : ℕ) → n < length slots → slot ≡ get_or slots n slot
    → between ≡ remove slots n → slots' ≡ between ++ slot ∷ []
    → slots' ≡ remove slots n ++ get_or slots n 0 ∷ []
freed_is slots between slots' n slot within read removed pushed =
    pushed ∙ ap (λ (l : List ℕ). l ++ slot ∷ []) removed
    ∙ ap (λ (s : ℕ). remove slots n ++ s ∷ []) (read ∙ get_or_default slots n slot 0 within)

-- so they are slots still, once all places are told
pub freed_slots : (slots places slots' places' : List ℕ) (n : ℕ) → AreSlots slots places → n < length slots
    → slots' ≡ remove slots n ++ get_or slots n 0 ∷ [] → length places' ≡ length places
    → Tells slots' places' (length slots') → AreSlots slots' places'
freed_slots slots places slots' places' n are within is many told = record {
  few = omega (arith, long, are.few);
  many = omega (arith, long, many, are.many);
  inside = subst (λ (l : List ℕ). All (λ slot. slot < length places') l) (sym is)
      (subst (λ (k : ℕ). All (λ slot. slot < k) (remove slots n ++ get_or slots n 0 ∷ [])) (sym many)
      (are_freed slots places n are within).inside);
  told = told;
}
  where
    long : length slots' ≡ length slots
    long = ap (λ (l : List ℕ). length l) is ∙ (are_freed slots places n are within).long

-- the used slots differ
pub used_differ : (used : ℕ) (slots places : List ℕ) → AreUsed used slots places → AllDiffer (take used slots)
used_differ used slots places are i j d before within same =
    let short = length-take-le used slots are.within in
    slots_differ slots places are.slots_are i j d before (omega (arith, short, within, are.within))
    (sym (get_or-take used slots i d (omega (arith, short, before, within))) ∙ same
    ∙ get_or-take used slots j d (omega (arith, short, within)))

-- the place that is told for the slot of a path is its number
pub place_told : (used : ℕ) (slots places : List ℕ) (n slot : ℕ) → AreUsed used slots places
    → n < length (take used slots) → slot ≡ get_or (take used slots) n 0 → get_or places slot 0 ≡ n
place_told used slots places n slot are within is =
    let short = length-take-le used slots are.within in
    ap (λ (s : ℕ). get_or places s 0) (is ∙ get_or-take used slots n 0 (omega (arith, within, short)))
    ∙ are.slots_are.told n (omega (arith, within, short, are.within)) (omega (arith, within, short, are.within))
