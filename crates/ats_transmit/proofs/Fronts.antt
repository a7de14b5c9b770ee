use Rattle.std.proofs.Common.{◌≡◌, ℕ, zero, suc, ◌<◌, ◌≤◌, List, [], ◌∷◌, ◌++◌, length, get_or, set, All, sym, ◌∙◌}
use Rattle.std.proofs.Common.{ap, subst, refl, arith, length-append}
use Rattle.std.specs.Prelude.{IsPermutation, Any}
use Rattle.std.proofs.lemmas.List.{get_or_default, nil_from_length, get_or-set_same, get_or-set_other}
use Rattle.std.proofs.lemmas.List.Sorted.{All-permutation, length_permutation, IsPermutation-refl}
use Rattle.ats_queue.specs.declared.queued.Queued.{Queued}
use Rattle.ats_queue.specs.Contents.{Contents}
use Rattle.ats_queue.specs.Order.{IsNextTime}
use Rattle.ats_transmit.specs.declared.offer.Offer.{Offer}
use Rattle.ats_transmit.specs.declared.front.Front.{Front}
use Rattle.ats_transmit.specs.declared.front.Front.TheVariants.{Nothing, Alone, Queued as InQueues}
use Rattle.ats_transmit.specs.PortQueues.{queued_as, queued_of}
use Rattle.ats_transmit.specs.Waiting.{with_queued, seen, IsNew, IsAlone, IsFront, Holds, Finds}

-- an element of a list that is long enough
element : {X : Type 0} (xs : List X) (i : ℕ) → i < length xs → X
element [] i h = absurd (omega arith)
element (x ∷ xs) zero h = x
element (x ∷ xs) (suc i) h = element xs i (omega arith)

-- as many queues as without the frame
with-length : {T : Type 0} (class : ℕ) (q : Queued) (qs : List (Contents T))
    → length (with_queued class q qs) ≡ length qs
with-length class q [] = refl
with-length zero q (x ∷ qs) = refl
with-length (suc class) q (x ∷ qs) = ap suc (with-length class q qs)

pub seen-length : {T : Type 0} (front : Front) (qs : List (Contents T)) → length (seen front qs) ≡ length qs
seen-length Nothing qs = refl
seen-length (Alone offer) qs = with-length offer.class (queued_as offer) qs
seen-length InQueues qs = refl

-- the queue of the class is replaced by one that holds the frame too
with-set : {T : Type 0} (class : ℕ) (q : Queued) (qs : List (Contents T)) (before : Contents T) → class < length qs
    → before ≡ get_or qs class before
    → with_queued class q qs ≡ set qs class (record before { held = q ∷ before.held })
with-set class q [] before h stood = absurd (omega arith)
with-set {T} zero q (x ∷ qs) before h stood =
    let With : Contents T → Contents T = λ (c : Contents T). record c { held = q ∷ c.held } in
    ap (λ (c : Contents T). With c ∷ qs) (sym stood)
with-set {T} (suc class) q (x ∷ qs) before h stood =
    ap (λ (cs : List (Contents T)). x ∷ cs) (with-set class q qs before (omega arith) stood)

-- where no frame is queued each queue is empty
left-nil : {X : Type 0} (xs ys : List X) → xs ++ ys ≡ [] → xs ≡ []
left-nil xs ys e = nil_from_length xs (omega (arith, length-append xs ys, ap length e))

right-nil : {X : Type 0} (xs ys : List X) → xs ++ ys ≡ [] → ys ≡ []
right-nil xs ys e = nil_from_length ys (omega (arith, length-append xs ys, ap length e))

none-in : {T : Type 0} (class : ℕ) (qs : List (Contents T)) (d : Contents T) → queued_of qs ≡ [] → class < length qs
    → (get_or qs class d).held ≡ []
none-in class [] d empty h = absurd (omega arith)
none-in zero (x ∷ qs) d empty h = left-nil x.held (queued_of qs) empty
none-in (suc class) (x ∷ qs) d empty h =
    none-in class qs d (right-nil x.held (queued_of qs) empty) (omega arith)

pub none-new : {T : Type 0} (qs : List (Contents T)) (offer : Offer) → queued_of qs ≡ [] → offer.class < length qs
    → IsNew qs offer
none-new {T} qs offer empty h d i e hi same =
    let no : length (get_or qs offer.class d).held ≡ 0 = ap length (none-in offer.class qs d empty h) in
    absurd (omega arith)

-- a frame that waits alone is all that is queued
pub alone-queued : {T : Type 0} (class : ℕ) (q : Queued) (qs : List (Contents T)) → queued_of qs ≡ []
    → class < length qs → queued_of (with_queued class q qs) ≡ q ∷ []
alone-queued class q [] empty h = absurd (omega arith)
alone-queued {T} zero q (x ∷ qs) empty h = ap (λ (held : List Queued). q ∷ held) empty
alone-queued {T} (suc class) q (x ∷ qs) empty h =
    ap (λ (held : List Queued). held ++ queued_of (with_queued class q qs)) (left-nil x.held (queued_of qs) empty)
    ∙ alone-queued class q qs (right-nil x.held (queued_of qs) empty) (omega arith)

-- a list of one element is its only permutation
only-one : (q : Queued) (held : List Queued) → IsPermutation (q ∷ []) held → held ≡ q ∷ []
only-one q [] p = absurd (omega (arith, length_permutation (q ∷ []) [] p))
only-one q (x ∷ []) p =
    let all : All (λ (y : Queued). y ≡ q) (x ∷ []) =
    All-permutation (λ (y : Queued). y ≡ q) (q ∷ []) (x ∷ []) p (λ i d h. one i d h) in
    ap (λ (y : Queued). y ∷ []) (all 0 x (omega arith))
  where
    one : (i : ℕ) (d : Queued) → i < 1 → get_or (q ∷ []) i d ≡ q
    one zero d h = refl
    one (suc i) d h = absurd (omega arith)
only-one q (x ∷ y ∷ held) p = absurd (omega (arith, length_permutation (q ∷ []) (x ∷ y ∷ held) p))

-- a frame is put into a queue
pub put-holds : {T : Type 0} (qs : List (Contents T)) (offer : Offer) (before after : Contents T)
    → before ≡ get_or qs offer.class before → IsPermutation (queued_as offer ∷ before.held) after.held
    → after ≡ record before { held = after.held } → Holds qs (set qs offer.class after) offer
put-holds {T} qs offer before after stood more rest =
    record {
      before = before;
      stood = stood;
      after = after.held;
      more = more;
      changed = ap (λ (c : Contents T). set qs offer.class c) rest;
    }

-- a frame waits in front of its queue
pub front-holds : {T : Type 0} (qs : List (Contents T)) (offer : Offer) → offer.class < length qs
    → Holds qs (with_queued offer.class (queued_as offer) qs) offer
front-holds {T} qs offer h =
    let e : Contents T = element qs offer.class h in
    let before : Contents T = get_or qs offer.class e in
    let stood : before ≡ get_or qs offer.class before = get_or_default qs offer.class e before h in
    record {
      before = before;
      stood = stood;
      after = queued_as offer ∷ before.held;
      more = IsPermutation-refl (queued_as offer ∷ before.held);
      changed = with-set offer.class (queued_as offer) qs before h stood;
    }

-- the frame that waited alone goes into its queue
pub alone-put : {T : Type 0} (qs new : List (Contents T)) (offer : Offer) → queued_of qs ≡ []
    → offer.class < length qs → Holds qs new offer → new ≡ with_queued offer.class (queued_as offer) qs
alone-put {T} qs new offer empty h p =
    let q : Queued = queued_as offer in
    let none : p.before.held ≡ [] =
    ap (λ (c : Contents T). c.held) p.stood ∙ none-in offer.class qs p.before empty h in
    let Perm : List Queued → Type 0 = λ (held : List Queued). IsPermutation (q ∷ held) p.after in
    let only : p.after ≡ q ∷ [] = only-one q p.after (subst Perm none p.more) in
    let after : p.after ≡ q ∷ p.before.held = only ∙ ap (λ (held : List Queued). q ∷ held) (sym none) in
    p.changed
    ∙ ap (λ (held : List Queued). set qs offer.class (record p.before { held = held })) after
    ∙ sym (with-set offer.class q qs p.before h p.stood)

-- what holds of the only frame
pub all-one : (P : Queued → Type 0) (held : List Queued) (q : Queued) → held ≡ q ∷ [] → P q → All P held
all-one P held q e p = subst (λ (xs : List Queued). All P xs) (sym e) (one P q p)
  where
    one : (P : Queued → Type 0) (q : Queued) → P q → All P (q ∷ [])
    one P q p zero d h = p
    one P q p (suc i) d h = absurd (omega arith)

-- the frame that waits alone is the next
pub alone-next : {T : Type 0} (qs : List (Contents T)) (offer : Offer) → IsAlone qs offer.class
    → IsNextTime (queued_of (with_queued offer.class (queued_as offer) qs)) offer.eligible.0
alone-next qs offer a =
    let q : Queued = queued_as offer in
    let e = alone-queued offer.class q qs a.empty a.within in
    subst (λ (held : List Queued). IsNextTime held offer.eligible.0) (sym e) (record {
      reached = (0, q, omega arith, refl, refl);
      least = all-one (λ (x : Queued). offer.eligible.0 ≤ x.eligible.0) (q ∷ []) q refl (omega arith);
    })

-- it is of the highest class in which a frame is eligible, and nothing waits without it
with-gone : {T : Type 0} (class : ℕ) (q : Queued) (qs : List (Contents T)) (before : Contents T) → class < length qs
    → before ≡ get_or qs class before → qs ≡ set (with_queued class q qs) class before
with-gone class q [] before h stood = absurd (omega arith)
with-gone {T} zero q (x ∷ qs) before h stood = ap (λ (c : Contents T). c ∷ qs) (sym stood)
with-gone {T} (suc class) q (x ∷ qs) before h stood =
    ap (λ (cs : List (Contents T)). x ∷ cs) (with-gone class q qs before (omega arith) stood)

pub alone-finds : {T : Type 0} (key : T → ℕ → ℕ → ℕ) (now : ℕ) (qs : List (Contents T)) (offer : Offer)
    → IsAlone qs offer.class → offer.eligible.0 ≤ now
    → Finds key now (with_queued offer.class (queued_as offer) qs) qs offer
alone-finds {T} key now qs offer a due =
    let class : ℕ = offer.class in
    let q : Queued = queued_as offer in
    let e : Contents T = element qs class a.within in
    let before : Contents T = get_or qs class e in
    let stood : before ≡ get_or qs class before = get_or_default qs class e before a.within in
    let with : Contents T = record before { held = q ∷ before.held } in
    let old : List (Contents T) = with_queued class q qs in
    let is : old ≡ set qs class with = with-set class q qs before a.within stood in
    let here : (d : Contents T) → get_or old class d ≡ with =
    λ d. ap (λ (cs : List (Contents T)). get_or cs class d) is ∙ get_or-set_same qs class with d a.within in
    let There : Contents T → Type 0 = λ (c : Contents T). Any (λ (x : Queued). x.eligible.0 ≤ now) c.held in
    let none : before.held ≡ [] = none-in class qs e a.empty a.within in
    record {
      high = record {
        within = omega (arith, a.within, with-length class q qs);
        eligible = λ d. subst There (sym (here d)) (0, q, omega arith, refl, due);
        above = λ k d more within i x hi.
            let other : get_or old k d ≡ get_or qs k d =
            ap (λ (cs : List (Contents T)). get_or cs k d) is ∙ get_or-set_other qs class k with d (λ s. omega arith) in
            let no : length (get_or old k d).held ≡ 0 =
            ap (λ (c : Contents T). length c.held) other
            ∙ ap length (none-in k qs d a.empty (omega (arith, with-length class q qs))) in
            absurd (omega arith);
      };
      takes = record {
        before = with;
        stood = sym (here with);
        after = before.held;
        changed = with-gone class q qs before a.within stood;
        named = refl;
        takes = record {
          held = IsPermutation-refl (q ∷ before.held);
          eligible = due;
          first = λ i d hi. absurd (omega (arith, ap length none));
        };
      };
    }

-- what a front that is a frame alone makes of these
pub front-put : {T : Type 0} (front : Front) (first : Offer) (qs new : List (Contents T)) → front ≡ Alone first
    → IsFront front qs → Holds qs new first → seen front qs ≡ new
front-put {T} front first qs new is told p =
    let Same : Front → Type 0 = λ (f : Front). IsFront f qs → seen f qs ≡ new in
    subst Same (sym is) (λ a. sym (alone-put qs new first a.empty a.within p)) told
