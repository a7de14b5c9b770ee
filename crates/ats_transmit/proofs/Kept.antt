use Rattle.std.proofs.Common.{◌≡◌, ℕ, ◌<◌, ◌≤◌, Bool, false, List, [], ◌∷◌, length, get_or, All}
use Rattle.std.proofs.Common.{sym, ◌∙◌, ap, subst, arith}
use Rattle.std.specs.Prelude.{◌≢◌, ◌==◌, map, count_by, IsPermutation}
use Rattle.std.proofs.lemmas.List.{length-map, get_or-map}
use Rattle.std.proofs.Math.Seq.{map-set_same}
use Rattle.std.proofs.lemmas.List.Elements.{All-cons, All-set}
use Rattle.std.proofs.lemmas.List.Sorted.{All-permutation}
use Rattle.ats_num.specs.Wire.{IsFrameSize}
use Rattle.ats_queue.specs.Contents.{Contents}
use Rattle.ats_transmit.specs.declared.offer.Offer.{Offer}
use Rattle.ats_transmit.specs.Sending.{last_start}
use Rattle.ats_transmit.specs.State.{PortState, offered_of, opened}
use Rattle.ats_transmit.specs.PortQueues.{queued_as, held_of, port_state, IsKept, AreEmpty}
use Rattle.ats_transmit.specs.Waiting.{HasRoom, IsNew, Holds}
use Rattle.ats_transmit.proofs.Held.{each_held, held-insert, length-held-le, none-held}
use Rattle.ats_transmit.proofs.Lawful.{lawful-open, lawful-offer}

-- what is asked of an offer
pub record MayOffer {T : Type 0} (old : PortState T) (o : Offer) : Type 0 where
  pub not_held : All (λ (x : Offer). x.frame ≢ o.frame) old.held
  pub class : o.class < 8
  pub room : offered_of old o.class < get_or old.rooms o.class 0
  pub size : IsFrameSize o.octets
  pub later : 0 < length old.sent → last_start old.sent < o.eligible.0

pub may-offer : {T : Type 0} (s old : PortState T) (o : Offer) → s ≡ old
    → All (λ (x : Offer). x.frame ≢ o.frame) old.held
    → o.class ≤ 7 → offered_of old o.class < get_or old.rooms o.class 0 → IsFrameSize o.octets
    → (0 < length old.sent → last_start old.sent < o.eligible.0) → MayOffer s o
may-offer {T} s old o e not_held class room size later =
    let May : PortState T → Type 0 = λ (x : PortState T). MayOffer x o in
    subst May (sym e)
    (record { not_held = not_held; class = omega arith; room = room; size = size; later = later })

-- there are eight queues
pub eight-queues : {T : Type 0} (key : T → ℕ → ℕ → ℕ) (s : PortState T) (qs : List (Contents T))
    → IsKept key s qs → length qs ≡ 8
eight-queues {T} key s qs k =
    let capacity : Contents T → ℕ = λ (c : Contents T). c.capacity in
    sym (length-map qs capacity) ∙ ap length k.capacities ∙ k.classes

-- each queue has the capacity of its class
capacity_of : {T : Type 0} (qs : List (Contents T)) (rooms : List ℕ) (class : ℕ) (d : Contents T)
    → map (λ (c : Contents T). c.capacity) qs ≡ rooms → class < length qs
    → (get_or qs class d).capacity ≡ get_or rooms class 0
capacity_of {T} qs rooms class d e h =
    sym (get_or-map (λ (c : Contents T). c.capacity) qs class d 0 h) ∙ ap (λ (ns : List ℕ). get_or ns class 0) e

-- the queue of an offer's class has room
pub queue-room : {T : Type 0} (key : T → ℕ → ℕ → ℕ) (s : PortState T) (qs : List (Contents T))
    (o : Offer) → IsKept key s qs → s.held ≡ held_of qs → MayOffer s o → HasRoom qs o.class
queue-room {T} key s qs o k held may d =
    let n = eight-queues key s qs k in
    let test : Offer → Bool = λ (x : Offer). x.class == o.class in
    let counted : count_by test s.held ≡ count_by test (held_of qs) = ap (λ (os : List Offer). count_by test os) held in
    let within : o.class < length qs = omega (arith, may.class) in
    omega (
      arith,
      length-held-le 0 o.class o.class qs d (omega arith) within,
      counted,
      may.room,
      capacity_of qs s.rooms o.class d k.capacities within,
    )

-- and does not hold its frame
pub queue-new : {T : Type 0} (key : T → ℕ → ℕ → ℕ) (s : PortState T) (qs : List (Contents T))
    (o : Offer) → IsKept key s qs → s.held ≡ held_of qs → MayOffer s o → IsNew qs o
queue-new {T} key s qs o k held may d =
    let n = eight-queues key s qs k in
    let Not : Offer → Type 0 = λ (x : Offer). x.frame ≢ o.frame in
    let NotIn : List Offer → Type 0 = λ (os : List Offer). All Not os in
    each_held Not qs (subst NotIn held may.not_held) o.class d (omega (arith, may.class))

-- the offered frame is held
pub held-offer : {T : Type 0} (key : T → ℕ → ℕ → ℕ) (s : PortState T) (qs : List (Contents T))
    (new : List (Contents T)) (o : Offer) → IsKept key s qs → s.held ≡ held_of qs → MayOffer s o
    → Holds qs new o → IsPermutation (o ∷ s.held) (held_of new)
held-offer {T} key s qs new o k held may i =
    let n = eight-queues key s qs k in
    let after : Contents T = record i.before { held = i.after } in
    let Held : List Offer → Type 0 = λ (os : List Offer). IsPermutation (o ∷ os) (held_of new) in
    let New : List (Contents T) → Type 0 = λ (cs : List (Contents T)). IsPermutation (o ∷ held_of qs) (held_of cs) in
    let Perm : Contents T → Type 0 = λ (c : Contents T). IsPermutation (queued_as o ∷ c.held) i.after in
    subst Held (sym held) (subst New (sym i.changed)
    (held-insert 0 o.class o.class qs i.before (queued_as o) after (omega arith) (omega (arith, may.class))
    (subst Perm i.stood i.more)))

-- a port that was offered a frame is kept
pub kept-offer : {T : Type 0} (key : T → ℕ → ℕ → ℕ) (s : PortState T) (qs : List (Contents T))
    (new : List (Contents T)) (o : Offer) → IsKept key s qs → s.held ≡ held_of qs → MayOffer s o
    → Holds qs new o → IsKept key (record s { held = held_of new }) new
kept-offer {T} key s qs new o k held may i =
    let n = eight-queues key s qs k in
    let within : o.class < length qs = omega (arith, may.class) in
    let after : Contents T = record i.before { held = i.after } in
    let capacity : Contents T → ℕ = λ (c : Contents T). c.capacity in
    let Ties : Contents T → Type 0 = λ (c : Contents T). c.tie ≡ s.tie in
    let Tied : List (Contents T) → Type 0 = λ (cs : List (Contents T)). All Ties cs in
    let same_tie : after.tie ≡ s.tie = ap (λ (c : Contents T). c.tie) i.stood ∙ k.ties o.class i.before within in
    let capacities : map capacity new ≡ map capacity qs =
    ap (λ (cs : List (Contents T)). map capacity cs) i.changed
    ∙ map-set_same capacity qs o.class after i.before (ap capacity i.stood) in
    let perm = held-offer key s qs new o k held may i in
    let Size : Offer → Type 0 = λ (x : Offer). IsFrameSize x.octets in
    record {
      classes = k.classes;
      capacities = capacities ∙ k.capacities;
      ties = subst Tied (sym i.changed) (All-set Ties qs o.class after same_tie k.ties);
      sizes = All-permutation Size (o ∷ s.held) (held_of new) perm (All-cons Size o s.held may.size k.sizes);
      lawful = lawful-offer (key s.tie) s.ps_per_bit s.held (held_of new) s.sent o k.lawful may.later perm;
    }

-- a port that was opened is kept
pub kept-open : {T : Type 0} (key : T → ℕ → ℕ → ℕ) (ps : ℕ) (rooms : List ℕ) (tie : T) (qs : List (Contents T))
    → length rooms ≡ 8 → AreEmpty qs rooms tie → IsKept key (port_state ps rooms tie qs [] false) qs
kept-open {T} key ps rooms tie qs n e =
    let At : List Offer → Type 0 =
    λ (held : List Offer). IsKept key (record (opened ps rooms tie) { held = held }) qs in
    subst At (sym (none-held qs e.empty)) (record {
      classes = n;
      capacities = e.capacities;
      ties = e.ties;
      sizes = λ i d h. absurd (omega arith);
      lawful = lawful-open (key tie) ps;
    })
