use Rattle.std.proofs.Common.{◌≡◌, ℕ, suc, ◌<◌, ◌≤◌, List, [], ◌∷◌, ◌++◌, length, get_or, set, All, sym, ap, subst}
use Rattle.std.proofs.Common.{refl, inl, inr, arith, take, ◌+◌}
use Rattle.std.specs.Prelude.{◌≢◌, Any, min, Option, Some, None, IsNone, IsSome}
use Rattle.std.proofs.lemmas.Bool.{cases_eq, cases_lt}
use Rattle.std.proofs.lemmas.List.{length-set, get_or-set_same, get_or-set_other}
use Rattle.std.proofs.lemmas.List.{map-append, take_more}
use Rattle.std.proofs.lemmas.List.Elements.{All-append, All-push}
use Rattle.std.proofs.lemmas.Grind.{flat_map-append}
use Rattle.std.proofs.Math.Nat.{min-eq_left, min-eq_right}
use Rattle.ats_queue.specs.declared.queued.Queued.{Queued}
use Rattle.ats_queue.specs.Contents.{Contents}
use Rattle.ats_queue.specs.Order.{IsNextTime, Takes}
use Rattle.ats_transmit.specs.PortQueues.{offer_in, queued_of, EachQueued, NoneFrom, TakesFrom, AreEmpty}
use Rattle.ats_transmit.specs.declared.offer.Offer.{Offer}
use Rattle.ats_transmit.proofs.Anys.{any-left, any-right}

-- the least time of two lists
pub next_time-append : (xs ys : List Queued) (a b : ℕ) → IsNextTime xs a → IsNextTime ys b
    → IsNextTime (xs ++ ys) (min a b)
next_time-append xs ys a b n m =
    let At : ℕ → Queued → Type 0 = λ (t : ℕ) (q : Queued). q.eligible.0 ≡ t in
    let From : ℕ → Queued → Type 0 = λ (t : ℕ) (q : Queued). t ≤ q.eligible.0 in
    let Goal : ℕ → Type 0 = λ (t : ℕ). IsNextTime (xs ++ ys) t in
    elim (cases_lt b a) as (λ _. Goal (min a b)) [
      | inl above ↦ subst Goal (sym (min-eq_right {n = b} {m = a} (omega arith))) (record {
        reached = any-right (At b) xs ys m.reached;
        least = All-append (From b) xs ys (λ i d h. omega (arith, n.least i d h)) m.least;
      })
      | inr within ↦ subst Goal (sym (min-eq_left {n = a} {m = b} within)) (record {
        reached = any-left (At a) xs ys n.reached;
        least = All-append (From a) xs ys n.least (λ i d h. omega (arith, m.least i d h));
      })
    ]

-- what holds of the frames of each queue holds of all
all-queued : {T : Type 0} (P : Queued → Type 0) (qs : List (Contents T))
    → ((c : ℕ) (d : Contents T) → c < length qs → All P (get_or qs c d).held) → All P (queued_of qs)
all-queued P [] each = λ i d h. absurd (omega arith)
all-queued P (x ∷ qs) each =
    All-append P x.held (queued_of qs) (each 0 x (omega arith))
    (all-queued P qs (λ c d h. each (suc c) d (omega arith)))

-- no frame of any class is eligible
pub none_in_all : {T : Type 0} (now : ℕ) (qs : List (Contents T)) → NoneFrom now 0 qs
    → All (λ (q : Queued). now < q.eligible.0) (queued_of qs)
none_in_all now qs none =
    all-queued (λ (q : Queued). now < q.eligible.0) qs (λ c d h. none c d (omega arith) h)

-- one queue is replaced
pub each-set : {T : Type 0} (P : ℕ → Queued → Type 0) (qs : List (Contents T)) (c : ℕ) (new : Contents T)
    → c < length qs
    → ((k : ℕ) (d : Contents T) → k ≢ c → k < length qs → All (P k) (get_or qs k d).held) → All (P c) new.held
    → EachQueued P (set qs c new)
each-set {T} P qs c new h each all k d hk =
    let At : ℕ → Contents T → Type 0 = λ (m : ℕ) (x : Contents T). All (P m) x.held in
    elim (cases_eq k c) as (λ _. At k (get_or (set qs c new) k d)) [
      | inl e ↦ (let Same : ℕ → Type 0 = λ (m : ℕ). At m (get_or (set qs c new) m d) in
          subst Same (sym e) (subst (At c) (sym (get_or-set_same qs c new d h)) all))
      | inr other ↦
          subst (At k) (sym (get_or-set_other qs c k new d other)) (each k d other (omega (arith, length-set qs c new)))
    ]

-- a queue gives up a frame where one is eligible
pub some_taken : (r : Option Queued) (now : ℕ) (held : List Queued)
    → (IsNone r → All (λ (q : Queued). now < q.eligible.0) held) → Any (λ (q : Queued). q.eligible.0 ≤ now) held
    → IsSome r
some_taken None now held f a =
    absurd (let e : (get_or held a.0 a.1).eligible.0 ≡ a.1.eligible.0 = ap (λ (q : Queued). q.eligible.0) a.3 in
    let later : now < (get_or held a.0 a.1).eligible.0 = f refl a.0 a.1 a.2 in
    let now' : a.1.eligible.0 ≤ now = a.4 in
    omega arith)
some_taken (Some x) now held f a = refl

-- one queue gives up a frame
pub takes_from : {T : Type 0} (key : T → ℕ → ℕ
    → ℕ) (now class : ℕ) (old : List (Contents T)) (before after : Contents T)
    (queued : Queued) (o : Offer) → o ≡ offer_in class queued → before ≡ get_or old class before
    → after ≡ record before { held = after.held } → Takes (key before.tie) now before.held after.held queued
    → TakesFrom key now class old (set old class after) o
takes_from {T} key now class old before after queued o same s e t =
    let From : Offer → Type 0 = λ (x : Offer). TakesFrom key now class old (set old class after) x in
    subst From (sym same) (record {
      before = before;
      stood = s;
      after = after.held;
      changed = ap (λ (x : Contents T). set old class x) e;
      named = refl;
      takes = t;
    })

-- one empty queue more
pub empty_more : {T : Type 0} (qs : List (Contents T)) (q : Contents T) (rooms : List ℕ) (i : ℕ) (tie : T)
    → i < length rooms → q ≡ record { held = []; capacity = get_or rooms i 0; tie = tie }
    → AreEmpty qs (take i rooms) tie → AreEmpty (qs ++ q ∷ []) (take (i + 1) rooms) tie
empty_more {T} qs q rooms i tie h is empty =
    let capacity : Contents T → ℕ = λ (c : Contents T). c.capacity in
    let held : Contents T → List Queued = λ (c : Contents T). c.held in
    record {
      capacities = rw (map-append capacity qs (q ∷ []), take_more rooms i 0 h, empty.capacities, is) refl;
      ties = All-push (λ (c : Contents T). c.tie ≡ tie) qs q empty.ties (ap (λ (c : Contents T). c.tie) is);
      empty = rw (flat_map-append held qs (q ∷ []), empty.empty, is) refl;
    }
