use Rattle.std.proofs.Common.{◌≡◌, ℕ, zero, suc, ◌+◌, ◌*◌, ◌<◌, ◌≤◌, Bool, true, false, List, length, get_or, set, take}
use Rattle.std.proofs.Common.{All}
use Rattle.std.proofs.Common.{refl, sym, ap, ◌∙◌, subst, inl, inr, arith, add-zero}
use Rattle.std.specs.Prelude.{◌≢◌, ◌==◌, ◌&&◌, ◌||◌, ◌^◌, cond, AllPairs, sum_by}
use Rattle.std.specs.List.{list_any, range_with_len}
use Rattle.std.proofs.Math.ListN.{length-set}
use Rattle.std.proofs.lemmas.Bool.{cases_eq, eq-eqb, ne_eqb}
use Rattle.std.proofs.lemmas.List.{get_or_default, get_or-set_same, get_or-set_other}
use Rattle.std.proofs.lemmas.List.{get_or-take, length-take-le}
use Rattle.std.proofs.lemmas.List.Elements.{All-get_or}
use Rattle.std.proofs.lemmas.List.Folds.{list_any_more, list_any_none}
use Rattle.std.proofs.lemmas.List.Sums.{sum_by-cons, sum_by_more}
use Rattle.ats_network.proofs.SenderLemmas.{each_is_sender}
use Rattle.ats_network.specs.Class.{class_at}
use Rattle.ats_network.specs.Network.{DeclaredNetwork, IsNetwork, senders_of}
use Rattle.ats_network.specs.Senders.{IsSender, sender_at, no_sender}
use Rattle.ats_trace.specs.Journey.{legs_at}
use Rattle.ats_trace.specs.declared.journey.Release.{Release}
use Rattle.ats_run_records.specs.Progress.{copies_count}
use Rattle.ats_run_records.proofs.Counts.{IsCounted, frame-counted, ports_along}
use Rattle.ats_engine.specs.Rooms.{AreCounts, Counts, CountsOver, count_in, goes_over, goes_through}

-- a sender of a network keeps a sender's rules
pub sender-kept : (network : DeclaredNetwork) (sender : ℕ) → IsNetwork network → sender < length (senders_of network)
    → IsSender network.topology (sender_at network sender)
sender-kept network sender rules within =
    All-get_or (IsSender network.topology) (senders_of network) sender no_sender within (each_is_sender network rules)

-- the port at a place of different ports is none of those before it
not-before : (path : List ℕ) (hop : ℕ) → AllPairs (λ p q. p ≢ q) path → hop < length path
    → list_any (λ p. p == get_or path hop 0) (take hop path) ≡ false
not-before path hop apart within =
    list_any_none (λ p. p == get_or path hop 0) (take hop path)
    (λ k d h. (let before : k < hop = omega (arith, length-take-le hop path (omega arith)) in
    subst (λ (x : ℕ). (x == get_or path hop 0) ≡ false) (sym (get_or-take hop path k d before))
    (ne_eqb (get_or path k d) (get_or path hop 0) (subst (λ (x : ℕ). get_or path k d ≢ x)
    (get_or_default path hop d 0 within) (apart k hop d before within)))))

-- tests joined to one that fails, or that passes
or-no : (a b : Bool) → b ≡ false → (a || b) ≡ a
or-no true b fails = refl
or-no false b fails = fails

or-yes : (a b : Bool) → b ≡ true → (a || b) ≡ true
or-yes true b holds = refl
or-yes false b holds = holds

and-no : (a b : Bool) → b ≡ false → (a && b) ≡ false
and-no true b fails = fails
and-no false b fails = refl

-- what is added for a test that fails, and for one that passes
added-no : (n : ℕ) (b : Bool) → b ≡ false → n + cond b 1 0 ≡ n
added-no n b fails = ap (λ (x : Bool). n + cond x 1 0) fails ∙ add-zero n

added-yes : (n : ℕ) (b : Bool) → b ≡ true → n + cond b 1 0 ≡ n + 1
added-yes n b holds = ap (λ (x : Bool). n + cond x 1 0) holds

-- the port at this place of different ports is one of the network, and this is a class
pub record IsAtHop (network : DeclaredNetwork) (path : List ℕ) (hop class : ℕ) : Type 0 where
  pub within : hop < length path
  pub port : get_or path hop 0 < length network.topology.ports
  pub low : class ≤ 7
  pub apart : AllPairs (λ p q. p ≢ q) path

-- so it is one of a sender's ports, with the sender's class
pub at-hop : {network : DeclaredNetwork} {sender hop : ℕ} {path : List ℕ} {class : ℕ} → IsNetwork network
    → sender < length (senders_of network) → path ≡ (sender_at network sender).ports → hop < length path
    → class ≡ get_or (sender_at network sender).classes hop 0 → IsAtHop network path hop class
at-hop {network} {sender} {hop} {path} {class} rules some is within here =
    let kept = sender-kept network sender rules some in
    let listed : hop < length (sender_at network sender).classes =
    omega (arith, kept.each_port, ap (λ (l : List ℕ). length l) is) in
    let most : get_or (sender_at network sender).classes hop 0 ≤ 7 =
    All-get_or (λ (n : ℕ). n ≤ 7) (sender_at network sender).classes hop 0 listed kept.classes in
    record {
      within = within;
      port = All-get_or (λ p. p < length network.topology.ports) path hop 0 within
          (subst (All (λ p. p < length network.topology.ports)) (sym is) kept.ports);
      low = omega arith;
      apart = subst (AllPairs (λ p q. p ≢ q)) (sym is) kept.apart;
    }

-- no frame of the sender was counted yet at the port at this place of its path
pub none-here : {network : DeclaredNetwork} {sender hop : ℕ} {path old now : List ℕ} {class : ℕ}
    → IsAtHop network path hop class → CountsOver network sender (take hop path) old now
    → count_in now (get_or path hop 0) class ≡ count_in old (get_or path hop 0) class
none-here {network} {sender} {hop} {path} {old} {now} {class} at counts =
    let p : ℕ = get_or path hop 0 in
    counts.each p class at.port at.low
    ∙ added-no (count_in old p class) (goes_over (take hop path) p class (sender_at network sender))
    (ap (λ (b : Bool). b && class_at (sender_at network sender) p == class) (not-before path hop at.apart at.within))

-- a place of a port and a class is no other port's or class's
place-apart : (p class port other : ℕ) → class ≤ 7 → other ≤ 7 → ¬ ((port ≡ p) × (other ≡ class))
    → 8 * port + other ≢ 8 * p + class
place-apart p class port other low least other-than same = other-than (omega arith, omega arith)

-- one port more is counted
pub counts-more : {network : DeclaredNetwork} {sender hop : ℕ} {path old now : List ℕ} {class : ℕ}
    → IsAtHop network path hop class → class ≡ class_at (sender_at network sender) (get_or path hop 0)
    → 8 * get_or path hop 0 + class < length now → CountsOver network sender (take hop path) old now
    → CountsOver network sender (take (hop + 1) path) old
    (set now (8 * get_or path hop 0 + class) (count_in now (get_or path hop 0) class + 1))
counts-more {network} {sender} {hop} {path} {old} {now} {class} at here fits counts =
    let p : ℕ = get_or path hop 0 in
    let s = sender_at network sender in
    let place : ℕ = 8 * p + class in
    let value : ℕ = count_in now p class + 1 in
    let new : List ℕ = set now place value in
    let before : ℕ → Bool = λ port. list_any (λ q. q == port) (take hop path) in
    let after : ℕ → Bool = λ port. list_any (λ q. q == port) (take (hop + 1) path) in
    let more : (port : ℕ) → after port ≡ (before port || (p == port)) =
    λ port. list_any_more (λ q. q == port) path hop 0 at.within in
    let Counted : ℕ → ℕ → Type 0 =
    λ port other. count_in new port other
    ≡ count_in old port other + cond (after port && class_at s port == other) 1 0 in
    let counted : Counted p class =
    get_or-set_same now place value 0 fits
    ∙ ap (λ (n : ℕ). n + 1) (none-here at counts)
    ∙ sym (added-yes (count_in old p class) (after p && class_at s p == class)
    (ap (λ (b : Bool). b && class_at s p == class) (more p ∙ or-yes (before p) (p == p) (eq-eqb p p refl))
    ∙ eq-eqb (class_at s p) class (sym here))) in
    let kept : (port other : ℕ) → port < length network.topology.ports → other ≤ 7 → 8 * port + other ≢ place
    → (after port && class_at s port == other) ≡ (before port && class_at s port == other) → Counted port other =
    λ port other some least apart same. get_or-set_other now place (8 * port + other) value 0 apart
    ∙ counts.each port other some least
    ∙ ap (λ (b : Bool). count_in old port other + cond b 1 0) (sym same) in
    let never : (port other : ℕ) → port ≡ p → other ≢ class → (class_at s port == other) ≡ false =
    λ port other same differ. ne_eqb (class_at s port) other
    (λ e. differ (sym e ∙ ap (class_at s) same ∙ sym here)) in
    record {
      all = length-set now place value ∙ counts.all;
      each = λ port other some least. elim (cases_eq port p) as (λ _. Counted port other) [
        | inl same ↦ elim (cases_eq other class) as (λ _. Counted port other) [
          | inl alike ↦ subst (λ (q : ℕ). Counted q other) (sym same)
              (subst (λ (k : ℕ). Counted p k) (sym alike) counted)
          | inr differ ↦ kept port other some least (place-apart p class port other at.low least (λ e. differ e.1))
              (and-no (after port) (class_at s port == other) (never port other same differ)
              ∙ sym (and-no (before port) (class_at s port == other) (never port other same differ)))
        ]
        | inr differ ↦ kept port other some least (place-apart p class port other at.low least (λ e. differ e.0))
            (ap (λ (b : Bool). b && class_at s port == other)
            (more port ∙ or-no (before port) (p == port) (ne_eqb p port (λ e. differ (sym e)))))
      ];
    }

-- a sender has so few ports that each of their places fits 32 bits
most-ports : (f : ℕ → ℕ) (at n : ℕ) → ((i : ℕ) → i < at + n → f i ≤ 64) → sum_by f (range_with_len at n) ≤ 64 * n
most-ports f at zero each = omega arith
most-ports f at (suc n) each =
    omega (
      arith,
      sum_by-cons f at (range_with_len (at + 1) n),
      each at (omega arith),
      most-ports f (at + 1) n (λ i h. each i (omega arith)),
    )

pub ports-few : (network : DeclaredNetwork) (sender : ℕ) (ports : List ℕ) → IsNetwork network
    → sender < length (senders_of network) → ports ≡ (sender_at network sender).ports → length ports < 2 ^ 32
ports-few network sender ports rules within is =
    let r : Release = record { at = record { 0 = 0 }; sender = sender; octets = 0 } in
    let counted : IsCounted network r = frame-counted network r rules within in
    omega (
      arith,
      ap (λ (l : List ℕ). length l) is,
      counted.rooms,
      counted.few,
      counted.most 0 (omega arith),
      most-ports (ports_along (legs_at network sender)) 1 (copies_count network r)
          (λ leg h. counted.most leg (omega arith)),
    )

-- the counts of the first releases and of the next are those of one release more
pub counts-next : (network : DeclaredNetwork) (releases : List Release) (i : ℕ) (d : Release) (old new : List ℕ)
    → i < length releases → AreCounts network (take i releases) old
    → Counts network (get_or releases i d).sender old new → AreCounts network (take (i + 1) releases) new
counts-next network releases i d old new within counted more = record {
  all = more.all ∙ counted.all;
  each = λ port class some least.
      more.each port class some least
      ∙ ap (λ (n : ℕ). n + cond (goes_through port class (sender_at network (get_or releases i d).sender)) 1 0)
      (counted.each port class some least)
      ∙ sym (sum_by_more (λ (r : Release). cond (goes_through port class (sender_at network r.sender)) 1 0)
      releases i d within);
}
