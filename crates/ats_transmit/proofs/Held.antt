use Rattle.std.proofs.Common.{◌≡◌, ℕ, zero, suc, ◌+◌, ◌<◌, ◌≤◌, Bool, true, List, [], ◌∷◌, ◌++◌, length, get_or, set}
use Rattle.std.proofs.Common.{All, sym, ◌∙◌, ap, subst, refl, arith}
use Rattle.std.specs.Prelude.{◌==◌, IsPermutation, count_by, map}
use Rattle.std.proofs.lemmas.Bool.{eq-eqb}
use Rattle.std.proofs.lemmas.List.{length-map, get_or-map, map-append}
use Rattle.std.proofs.lemmas.List.Elements.{All-append, All-map}
use Rattle.std.proofs.lemmas.List.Sorted.{IsPermutation-append_left, IsPermutation-append_right, IsPermutation-map}
use Rattle.std.proofs.lemmas.List.Sorted.{IsPermutation-middle, IsPermutation-trans, IsPermutation-sym}
use Rattle.ats_facts.proofs.Lists.{all_left, all_right, all_unmapped}
use Rattle.ats_queue.specs.declared.queued.Queued.{Queued}
use Rattle.ats_queue.specs.Contents.{Contents}
use Rattle.ats_transmit.specs.declared.offer.Offer.{Offer}
use Rattle.ats_transmit.specs.PortQueues.{offer_in, held_from, held_of, queued_of, EachQueued}
use Rattle.ats_transmit.proofs.Counts.{count_by-append, count_by-map, count_by-all}

-- what holds of each frame in each queue holds of all that these queues hold
each_from : {T : Type 0} (P : Offer → Type 0) (base : ℕ) (qs : List (Contents T))
    → ((c k : ℕ) (d : Contents T) → k ≡ base + c → c < length qs
    → All (λ (q : Queued). P (offer_in k q)) (get_or qs c d).held)
    → All P (held_from base qs)
each_from P base [] each = λ i d h. absurd (omega arith)
each_from P base (x ∷ qs) each =
    All-append P (map (offer_in base) x.held) (held_from (suc base) qs)
    (All-map P (offer_in base) x.held (each 0 base x (omega arith) (omega arith)))
    (each_from P (suc base) qs (λ c k d e h. each (suc c) k d (omega arith) (omega arith)))

pub all_held : {T : Type 0} (P : Offer → Type 0) (qs : List (Contents T))
    → EachQueued (λ (c : ℕ) (q : Queued). P (offer_in c q)) qs → All P (held_of qs)
all_held {T} P qs each =
    each_from P 0 qs (λ c k d e h. (
    let At : ℕ → Type 0 = λ (n : ℕ). All (λ (q : Queued). P (offer_in n q)) (get_or qs c d).held in
    let same : c ≡ k = omega arith in
    subst At same (each c d h)))

-- and back
from_held : {T : Type 0} (P : Offer → Type 0) (base : ℕ) (qs : List (Contents T)) → All P (held_from base qs)
    → (c k : ℕ) (d : Contents T) → k ≡ base + c → c < length qs
    → All (λ (q : Queued). P (offer_in k q)) (get_or qs c d).held
from_held P base [] all c k d e h = absurd (omega arith)
from_held P base (x ∷ qs) all zero k d e h =
    let At : ℕ → Type 0 = λ (n : ℕ). All (λ (q : Queued). P (offer_in n q)) x.held in
    let same : base ≡ k = omega arith in
    subst At same
    (all_unmapped P (offer_in base) x.held (all_left P (map (offer_in base) x.held) (held_from (suc base) qs) all))
from_held P base (x ∷ qs) all (suc c) k d e h =
    from_held P (suc base) qs (all_right P (map (offer_in base) x.held) (held_from (suc base) qs) all) c k d
    (omega arith) (omega arith)

pub each_held : {T : Type 0} (P : Offer → Type 0) (qs : List (Contents T)) → All P (held_of qs)
    → EachQueued (λ (c : ℕ) (q : Queued). P (offer_in c q)) qs
each_held P qs all c d h = from_held P 0 qs all c c d (omega arith) h

-- a frame more in one queue
pub held-insert : {T : Type 0} (base c k : ℕ) (qs : List (Contents T)) (d : Contents T) (q : Queued) (new : Contents T)
    → k ≡ base + c → c < length qs → IsPermutation (q ∷ (get_or qs c d).held) new.held
    → IsPermutation (offer_in k q ∷ held_from base qs) (held_from base (set qs c new))
held-insert base c k [] d q new e h p = absurd (omega arith)
held-insert {T} base zero k (x ∷ qs) d q new e h p =
    let f : Queued → Offer = offer_in base in
    let rest : List Offer = held_from (suc base) qs in
    let At : ℕ → Type 0 = λ (n : ℕ). IsPermutation (offer_in n q ∷ map f x.held ++ rest) (map f new.held ++ rest) in
    let same : base ≡ k = omega arith in
    subst At same
    (IsPermutation-append_left rest (map f (q ∷ x.held)) (map f new.held) (IsPermutation-map f (q ∷ x.held) new.held p))
held-insert {T} base (suc c) k (x ∷ qs) d q new e h p =
    let here : List Offer = map (offer_in base) x.held in
    let rest : List Offer = held_from (suc base) qs in
    let o : Offer = offer_in k q in
    IsPermutation-trans _ _ _ (IsPermutation-sym _ _ (IsPermutation-middle here o rest))
    (IsPermutation-append_right here (o ∷ rest) (held_from (suc base) (set qs c new))
    (held-insert (suc base) c k qs d q new (omega arith) (omega arith) p))

-- a frame less
pub held-take : {T : Type 0} (base c k : ℕ) (qs : List (Contents T)) (d : Contents T) (q : Queued) (new : Contents T)
    → k ≡ base + c → c < length qs → IsPermutation (get_or qs c d).held (q ∷ new.held)
    → IsPermutation (held_from base qs) (offer_in k q ∷ held_from base (set qs c new))
held-take base c k [] d q new e h p = absurd (omega arith)
held-take {T} base zero k (x ∷ qs) d q new e h p =
    let f : Queued → Offer = offer_in base in
    let rest : List Offer = held_from (suc base) qs in
    let At : ℕ → Type 0 = λ (n : ℕ). IsPermutation (map f x.held ++ rest) (offer_in n q ∷ map f new.held ++ rest) in
    let same : base ≡ k = omega arith in
    subst At same
    (IsPermutation-append_left rest (map f x.held) (map f (q ∷ new.held)) (IsPermutation-map f x.held (q ∷ new.held) p))
held-take {T} base (suc c) k (x ∷ qs) d q new e h p =
    let here : List Offer = map (offer_in base) x.held in
    let rest : List Offer = held_from (suc base) (set qs c new) in
    let o : Offer = offer_in k q in
    IsPermutation-trans _ _ _
    (IsPermutation-append_right here (held_from (suc base) qs) (o ∷ rest)
    (held-take (suc base) c k qs d q new (omega arith) (omega arith) p))
    (IsPermutation-middle here o rest)

-- no queue holds more frames than all hold of its class
pub length-held-le : {T : Type 0} (base c k : ℕ) (qs : List (Contents T)) (d : Contents T) → k ≡ base + c
    → c < length qs
    → length (get_or qs c d).held ≤ count_by (λ (o : Offer). o.class == k) (held_from base qs)
length-held-le base c k [] d e h = absurd (omega arith)
length-held-le {T} base zero k (x ∷ qs) d e h =
    let test : Offer → Bool = λ (o : Offer). o.class == k in
    let here : List Offer = map (offer_in base) x.held in
    let passes : All (λ (q : Queued). test (offer_in base q) ≡ true) x.held = λ i q hi. eq-eqb base k (omega arith) in
    omega (
      arith,
      count_by-all (λ (q : Queued). test (offer_in base q)) x.held passes,
      count_by-map (offer_in base) test x.held,
      count_by-append test here (held_from (suc base) qs),
    )
length-held-le {T} base (suc c) k (x ∷ qs) d e h =
    let test : Offer → Bool = λ (o : Offer). o.class == k in
    omega (
      arith,
      length-held-le (suc base) c k qs d (omega arith) (omega arith),
      count_by-append test (map (offer_in base) x.held) (held_from (suc base) qs),
    )

-- each frame is held with the eligibility time that it has in its queue
same-times : {T : Type 0} (base : ℕ) (qs : List (Contents T))
    → map (λ (o : Offer). o.eligible.0) (held_from base qs) ≡ map (λ (q : Queued). q.eligible.0) (queued_of qs)
same-times base [] = refl
same-times {T} base (x ∷ qs) =
    let time : Offer → ℕ = λ (o : Offer). o.eligible.0 in
    let queued : Queued → ℕ = λ (q : Queued). q.eligible.0 in
    map-append time (map (offer_in base) x.held) (held_from (suc base) qs)
    ∙ ap (λ (ns : List ℕ). map time (map (offer_in base) x.held) ++ ns) (same-times (suc base) qs)
    ∙ ap (λ (ns : List ℕ). ns ++ map queued (queued_of qs)) (times-in base x.held)
    ∙ sym (map-append queued x.held (queued_of qs))
  where
    times-in : (base : ℕ) (held : List Queued)
        → map (λ (o : Offer). o.eligible.0) (map (offer_in base) held) ≡ map (λ (q : Queued). q.eligible.0) held
    times-in base [] = refl
    times-in base (q ∷ held) = ap (λ (ns : List ℕ). q.eligible.0 ∷ ns) (times-in base held)

pub length-held : {T : Type 0} (qs : List (Contents T)) → length (held_of qs) ≡ length (queued_of qs)
length-held qs =
    let time : Offer → ℕ = λ (o : Offer). o.eligible.0 in
    let queued : Queued → ℕ = λ (q : Queued). q.eligible.0 in
    sym (length-map (held_of qs) time) ∙ ap length (same-times 0 qs) ∙ length-map (queued_of qs) queued

pub eligible-at : {T : Type 0} (qs : List (Contents T)) (i : ℕ) (d : Offer) (e : Queued) → i < length (queued_of qs)
    → (get_or (held_of qs) i d).eligible.0 ≡ (get_or (queued_of qs) i e).eligible.0
eligible-at qs i d e h =
    let time : Offer → ℕ = λ (o : Offer). o.eligible.0 in
    let queued : Queued → ℕ = λ (q : Queued). q.eligible.0 in
    sym (get_or-map time (held_of qs) i d 0 (omega (arith, length-held qs)))
    ∙ ap (λ (ns : List ℕ). get_or ns i 0) (same-times 0 qs)
    ∙ get_or-map queued (queued_of qs) i e 0 h

-- where no frame is queued none is held
pub none-held : {T : Type 0} (qs : List (Contents T)) → queued_of qs ≡ [] → held_of qs ≡ []
none-held {T} qs e = no_length (held_of qs) (length-held qs ∙ ap length e)
  where
    no_length : (held : List Offer) → length held ≡ 0 → held ≡ []
    no_length [] e = refl
    no_length (o ∷ held) e = absurd (omega arith)
