use Rattle.std.proofs.Common.{◌≡◌, ℕ, ◌<◌, ◌≤◌, true, List, [], ◌∷◌, ◌++◌, length, get_or, All, sym}
use Rattle.std.proofs.Common.{◌∙◌, ap, subst, refl, inl, inr, arith}
use Rattle.std.specs.Prelude.{◌≢◌, map, IsPermutation}
use Rattle.std.proofs.lemmas.Bool.{cases_lt}
use Rattle.std.proofs.Math.Seq.{map-set_same}
use Rattle.std.proofs.lemmas.List.Elements.{All-head, All-tail, All-set}
use Rattle.std.proofs.lemmas.List.Sorted.{All-permutation}
use Rattle.ats_num.specs.Wire.{IsFrameSize}
use Rattle.ats_queue.specs.declared.queued.Queued.{Queued}
use Rattle.ats_queue.specs.Contents.{Contents}
use Rattle.ats_queue.specs.Order.{GoesBefore}
use Rattle.ats_port_rule.specs.Order.{Precedes}
use Rattle.ats_transmit.specs.declared.offer.Offer.{Offer}
use Rattle.ats_transmit.specs.declared.sent.Sent.{Sent}
use Rattle.ats_transmit.specs.Sending.{sent_at, begun, last_end}
use Rattle.ats_transmit.specs.State.{PortState}
use Rattle.ats_transmit.specs.Picks.{MaySend, IsBehind, Starts}
use Rattle.ats_transmit.specs.PortQueues.{queued_as, offer_in, held_of, EachQueued, IsKept, IsHighest, TakesFrom}
use Rattle.ats_transmit.specs.Waiting.{Finds}
use Rattle.ats_transmit.proofs.Held.{all_held, held-take}
use Rattle.ats_transmit.proofs.Kept.{eight-queues}
use Rattle.ats_transmit.proofs.Lawful.{lawful-start}
use Rattle.ats_transmit.proofs.Queues.{each-set}

-- what a selection finds and changes: the highest class, and its queue without the frame that starts
pub record Selected {T : Type 0} (key : T → ℕ → ℕ → ℕ) (now class : ℕ) (s : PortState T) (qs new : List (Contents T))
    (started : Offer) : Type 0 where
  pub held : s.held ≡ held_of qs
  pub high : IsHighest now qs class
  pub takes : TakesFrom key now class qs new started

pub selected : {T : Type 0} (key : T → ℕ → ℕ → ℕ) (now : ℕ) (s : PortState T) (qs new : List (Contents T))
    (started : Offer) → s.held ≡ held_of qs → Finds key now qs new started
    → Selected key now started.class s qs new started
selected key now s qs new started held found = record { held = held; high = found.high; takes = found.takes }

-- a frame of a lower class is preceded
precedes-lower : (key : ℕ → ℕ → ℕ) (ps now : ℕ) (x o : Offer) → o.class < x.class
    → Precedes key (begun ps x now) (begun ps o now)
precedes-lower key ps now x o lower =
    record { class = omega arith; eligible = λ same. absurd (omega arith); tie = λ same _. absurd (omega arith) }

-- and so is one that goes behind in the same queue
precedes-own : (key : ℕ → ℕ → ℕ) (ps now : ℕ) (x o : Offer) → x.class ≡ o.class
    → GoesBefore key (queued_as x) (queued_as o)
    → Precedes key (begun ps x now) (begun ps o now)
precedes-own key ps now x o same b =
    record { class = omega arith; eligible = λ _. b.eligible; tie = λ _ together. b.tie together }

-- the queue of the class without the frame that starts
abbrev after_of : {T : Type 0} (key : T → ℕ → ℕ → ℕ) (now class : ℕ) (qs new : List (Contents T)) (started : Offer)
    → TakesFrom key now class qs new started → Contents T
after_of key now class qs new started t = record t.before { held = t.after }

-- the started frame precedes all that stay and are eligible
first_of_all : {T : Type 0} (key : T → ℕ → ℕ
    → ℕ) (tie : T) (ps now class : ℕ) (qs new : List (Contents T)) (started : Offer)
    → All (λ (c : Contents T). c.tie ≡ tie) qs → IsHighest now qs class → TakesFrom key now class qs new started
    → All (IsBehind (key tie) ps now started) (held_of new)
first_of_all {T} key tie ps now class qs new started ties high t =
    let P : ℕ → Queued → Type 0 = λ (c : ℕ) (q : Queued). IsBehind (key tie) ps now started (offer_in c q) in
    let same_tie : t.before.tie ≡ tie = ap (λ (c : Contents T). c.tie) t.stood ∙ ties class t.before high.within in
    let First : T → Type 0 = λ (u : T). All (λ (y : Queued). GoesBefore (key u) (queued_as started) y) t.after in
    let behind : First tie = subst First same_tie t.takes.first in
    let named : started.class ≡ class = t.named in
    let others : (k : ℕ) (d : Contents T) → k ≢ class → k < length qs → All (P k) (get_or qs k d).held =
    λ k d other hk i e hi eligible. (
    let q : Queued = get_or (get_or qs k d).held i e in
    elim (cases_lt class k) as (λ _. Precedes (key tie) (begun ps started now) (begun ps (offer_in k q) now)) [
      | inl above ↦ absurd (let later : now < q.eligible.0 = high.above k d (omega arith) hk i e hi in omega arith)
      | inr below ↦ precedes-lower (key tie) ps now started (offer_in k q) (omega arith)
    ]) in
    let own : All (P class) t.after =
    λ i e hi eligible.
    precedes-own (key tie) ps now started (offer_in class (get_or t.after i e)) named (behind i e hi) in
    let Each : List (Contents T) → Type 0 = λ (cs : List (Contents T)). EachQueued P cs in
    all_held (IsBehind (key tie) ps now started) new
    (subst Each (sym t.changed) (each-set P qs class (after_of key now class qs new started t) high.within others own))

-- the started frame was held
taken-held : {T : Type 0} (key : T → ℕ → ℕ → ℕ) (now class : ℕ) (s : PortState T) (qs new : List (Contents T))
    (started : Offer) → Selected key now class s qs new started
    → IsPermutation s.held (started ∷ held_of new)
taken-held {T} key now class s qs new started x =
    let t = x.takes in
    let named : started.class ≡ class = t.named in
    let after : Contents T = after_of key now class qs new started t in
    let Before : Contents T → Type 0 = λ (c : Contents T). IsPermutation c.held (queued_as started ∷ t.after) in
    let New : List (Contents T) → Type 0 =
    λ (cs : List (Contents T)). IsPermutation (held_of qs) (started ∷ held_of cs) in
    let Held : List Offer → Type 0 = λ (os : List Offer). IsPermutation os (started ∷ held_of new) in
    subst Held (sym x.held) (subst New (sym t.changed)
    (held-take 0 class started.class qs t.before (queued_as started) after (omega arith) x.high.within
    (subst Before t.stood t.takes.held)))

-- the frame starts
pub starts-select : {T : Type 0} (key : T → ℕ → ℕ → ℕ) (now class : ℕ) (s : PortState T) (qs new : List (Contents T))
    (started : Offer) (pushed : List Sent) → IsKept key s qs
    → Selected key now class s qs new started → pushed ≡ s.sent ++ sent_at s.ps_per_bit started now ∷ []
    → Starts (key s.tie) s (record s { held = held_of new; sent = pushed; is_sending = true }) now started.frame
    (sent_at s.ps_per_bit started now).end.0
starts-select key now class s qs new started pushed k x p =
    record {
      started = started;
      named = refl;
      ends = refl;
      held = taken-held key now class s qs new started x;
      eligible = x.takes.takes.eligible;
      first = first_of_all key s.tie s.ps_per_bit now class qs new started k.ties x.high x.takes;
      sent = p;
      rest = refl;
    }

-- a port that starts a frame is kept
pub kept-select : {T : Type 0} (key : T → ℕ → ℕ → ℕ) (now class : ℕ) (s : PortState T) (qs new : List (Contents T))
    (started : Offer) (pushed : List Sent) → IsKept key s qs
    → Selected key now class s qs new started → pushed ≡ s.sent ++ sent_at s.ps_per_bit started now ∷ []
    → last_end s.sent ≤ now → ((time : ℕ) → MaySend s.held s.sent time → now ≤ time)
    → IsKept key (record s { held = held_of new; sent = pushed; is_sending = true }) new
kept-select {T} key now class s qs new started pushed k x p ended due =
    let n = eight-queues key s qs k in
    let t = x.takes in
    let named : started.class ≡ class = t.named in
    let sent : Sent = sent_at s.ps_per_bit started now in
    let taken = taken-held key now class s qs new started x in
    let after : Contents T = after_of key now class qs new started t in
    let capacity : Contents T → ℕ = λ (c : Contents T). c.capacity in
    let Ties : Contents T → Type 0 = λ (c : Contents T). c.tie ≡ s.tie in
    let Tied : List (Contents T) → Type 0 = λ (cs : List (Contents T)). All Ties cs in
    let Size : Offer → Type 0 = λ (o : Offer). IsFrameSize o.octets in
    let same_tie : t.before.tie ≡ s.tie =
    ap (λ (c : Contents T). c.tie) t.stood ∙ k.ties class t.before x.high.within in
    let capacities : map capacity new ≡ map capacity qs =
    ap (λ (cs : List (Contents T)). map capacity cs) t.changed
    ∙ map-set_same capacity qs class after t.before (ap capacity t.stood) in
    let first = first_of_all key s.tie s.ps_per_bit now class qs new started k.ties x.high t in
    let Kept : List Sent → Type 0 =
    λ (ss : List Sent). IsKept key (record s { held = held_of new; sent = ss; is_sending = true }) new in
    subst Kept (sym p) (record {
      classes = k.classes;
      capacities = capacities ∙ k.capacities;
      ties = subst Tied (sym t.changed) (All-set Ties qs class after same_tie k.ties);
      sizes = All-tail Size started (held_of new) (All-permutation Size s.held (started ∷ held_of new) taken k.sizes);
      lawful = lawful-start (key s.tie) s.ps_per_bit now s.held (held_of new) s.sent started k.lawful taken
          t.takes.eligible ended due first;
    })

-- the frame that starts is of a size that frames have
pub started-size : {T : Type 0} (key : T → ℕ → ℕ → ℕ) (now class : ℕ) (s : PortState T) (qs new : List (Contents T))
    (started : Offer) → IsKept key s qs → Selected key now class s qs new started
    → IsFrameSize started.octets
started-size key now class s qs new started k x =
    let Size : Offer → Type 0 = λ (o : Offer). IsFrameSize o.octets in
    let taken = taken-held key now class s qs new started x in
    All-head Size started (held_of new) (All-permutation Size s.held (started ∷ held_of new) taken k.sizes)
