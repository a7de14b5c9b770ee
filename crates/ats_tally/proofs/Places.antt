use Rattle.std.proofs.Common.{◌≡◌, ℕ, zero, suc, ◌+◌, ◌-◌, ◌<◌, ◌≤◌, Bool, true, false, cond, List, [], ◌∷◌, length}
use Rattle.std.proofs.Common.{get_or, map, filter, sum_by, refl, ap, ◌∙◌, inl, inr, ◌⊎◌, eqb, arith}
use Rattle.std.specs.Prelude.{◌&&◌, ◌||◌}
use Rattle.std.specs.List.{All, AllPairs, list_any}
use Rattle.std.proofs.lemmas.Bool.{cases_eq, eqb-true, eq-eqb, and_from, or_left, or_right}
use Rattle.std.proofs.lemmas.List.Elements.{All-nil, All-append, All-map, All-filter, All-weaker, All-head, All-tail}
use Rattle.std.proofs.lemmas.List.Elements.{filter_passes}
use Rattle.std.proofs.lemmas.List.Folds.{list_any-append, list_any_at}
use Rattle.std.proofs.lemmas.List.Kept.{AllPairs-filter}
use Rattle.std.proofs.lemmas.List.Sums.{sum_by-cons}
use Rattle.ats_topology.specs.Port.{port_at, no_port}
use Rattle.ats_topology.specs.Topology.{IsPort}
use Rattle.ats_topology.specs.declared.port.Port.{Port}
use Rattle.ats_network.specs.Sender.{Sender, stream_sender, flow_sender}
use Rattle.ats_network.specs.Class.{PortSender, seen_at}
use Rattle.ats_network.specs.Network.{DeclaredNetwork, IsNetwork, senders_of}
use Rattle.ats_network.specs.Senders.{IsSender}
use Rattle.ats_network.proofs.SenderLemmas.{each_is_sender}
use Rattle.ats_certificate.specs.PortSums.{uses, is_of, sum_where, senders_at, is_used}
use Rattle.ats_certificate.specs.Used.{stream_classes, place, places_at, places_from, places_of}
use Rattle.ats_topology.proofs.Rules.{ports_are_lawful}
use Rattle.ats_tally.proofs.SeenLemmas.{IsSeen, all_seen, senders_at-append, streams_class}
use Rattle.ats_tally.proofs.Lists.{any_gives, list_any-map, list_any-filter, AllPairs-append, AllPairs-map}

-- the first place stands before the second
abbrev pub Precedes : ℕ × ℕ → ℕ × ℕ → Type 0
Precedes a b = (a.0 < b.0) ⊎ ((a.0 ≡ b.0) × (a.1 < b.1))

-- some stream is at the place
abbrev pub IsUsedAt : DeclaredNetwork → ℕ × ℕ → Type 0
IsUsedAt network at = is_used network at.0 at.1 ≡ true

-- what is so of a port and a class that some stream uses
pub record IsPlace (network : DeclaredNetwork) (port class : ℕ) : Type 0 where
  pub within : port < length network.topology.ports
  pub least : 1 ≤ class
  pub most : class ≤ 7
  pub is_port : IsPort (length network.topology.nodes) (port_at network.topology.ports port)
  pub rate : 1 ≤ sum_where (is_of class) (λ (s : PortSender). s.rate)
      (senders_at network.topology port (senders_of network))

listed_class : (i : ℕ) (d : ℕ) → i < 7 → get_or stream_classes i d ≡ i + 1
listed_class zero d h = refl
listed_class (suc zero) d h = refl
listed_class (suc (suc zero)) d h = refl
listed_class (suc (suc (suc zero))) d h = refl
listed_class (suc (suc (suc (suc zero)))) d h = refl
listed_class (suc (suc (suc (suc (suc zero))))) d h = refl
listed_class (suc (suc (suc (suc (suc (suc zero)))))) d h = refl
listed_class (suc (suc (suc (suc (suc (suc (suc i))))))) d h = absurd (omega arith)

classes_ascend : AllPairs (λ a b. a < b) stream_classes
classes_ascend i j d before within = omega (arith, listed_class i d (omega arith), listed_class j d (omega arith))

-- the places of a port
at_port : (network : DeclaredNetwork) (port : ℕ) → All (λ (at : ℕ × ℕ). at.0 ≡ port) (places_at network port)
at_port network port = All-map (λ (at : ℕ × ℕ). at.0 ≡ port) (place port)
    (filter (λ class. is_used network port class) stream_classes) (λ k d h. refl)

pub used_at : (network : DeclaredNetwork) (port : ℕ) → All (IsUsedAt network) (places_at network port)
used_at network port =
    All-map (IsUsedAt network) (place port) (filter (λ class. is_used network port class) stream_classes)
    (filter_passes (λ class. is_used network port class) stream_classes)

ordered_at : (network : DeclaredNetwork) (port : ℕ) → AllPairs Precedes (places_at network port)
ordered_at network port =
    AllPairs-map Precedes (place port) (filter (λ class. is_used network port class) stream_classes)
    (λ i j d before within. inr (
      refl,
      AllPairs-filter (λ a b. a < b) (λ class. is_used network port class)
          stream_classes classes_ascend i j d before within,
    ))

-- the places of the ports from a number on
from_port : (network : DeclaredNetwork) (k : ℕ) (ports : List Port)
    → All (λ (at : ℕ × ℕ). k ≤ at.0) (places_from network k ports)
from_port network k [] = All-nil (λ (at : ℕ × ℕ). k ≤ at.0)
from_port network k (port ∷ ports) =
    All-append (λ (at : ℕ × ℕ). k ≤ at.0) (places_at network k) (places_from network (k + 1) ports)
    (All-weaker (λ (at : ℕ × ℕ). at.0 ≡ k) (λ (at : ℕ × ℕ). k ≤ at.0) (λ at e. omega (arith, e)) (places_at network k)
    (at_port network k))
    (All-weaker (λ (at : ℕ × ℕ). k + 1 ≤ at.0) (λ (at : ℕ × ℕ). k ≤ at.0) (λ at e. omega (arith, e))
    (places_from network (k + 1) ports) (from_port network (k + 1) ports))

used_from : (network : DeclaredNetwork) (k : ℕ) (ports : List Port)
    → All (IsUsedAt network) (places_from network k ports)
used_from network k [] = All-nil (IsUsedAt network)
used_from network k (port ∷ ports) =
    All-append (IsUsedAt network) (places_at network k) (places_from network (k + 1) ports) (used_at network k)
    (used_from network (k + 1) ports)

ordered_from : (network : DeclaredNetwork) (k : ℕ) (ports : List Port) → AllPairs Precedes (places_from network k ports)
ordered_from network k [] = λ i j d before within. absurd (omega arith)
ordered_from network k (port ∷ ports) =
    AllPairs-append Precedes (places_at network k) (places_from network (k + 1) ports) (ordered_at network k)
    (ordered_from network (k + 1) ports)
    (All-weaker (λ (at : ℕ × ℕ). at.0 ≡ k) (λ (at : ℕ × ℕ). All (Precedes at) (places_from network (k + 1) ports))
    (λ at e. All-weaker (λ (b : ℕ × ℕ). k + 1 ≤ b.0) (Precedes at) (λ b h. inl (omega (arith, e, h)))
    (places_from network (k + 1) ports) (from_port network (k + 1) ports))
    (places_at network k) (at_port network k))

-- each place is used, and they ascend
pub places_used : (network : DeclaredNetwork) → All (IsUsedAt network) (places_of network)
places_used network = used_from network 0 network.topology.ports

pub places_ordered : (network : DeclaredNetwork) → AllPairs Precedes (places_of network)
places_ordered network = ordered_from network 0 network.topology.ports

-- the place is that of a port and a class
abbrev pub is_at : ℕ → ℕ → ℕ × ℕ → Bool
is_at port class at = eqb at.0 port && eqb at.1 class

has_class : (network : DeclaredNetwork) (port class : ℕ) → 1 ≤ class → class ≤ 7 → is_used network port class ≡ true
    → list_any (is_at port class) (places_at network port) ≡ true
has_class network port class least most used =
    let there : get_or stream_classes (class - 1) 0 ≡ class = listed_class (class - 1) 0 (omega arith) ∙ omega arith in
    let passes : (is_used network port class && is_at port class (place port class)) ≡ true =
    and_from (is_used network port class) (is_at port class (place port class)) used
    (and_from (eqb port port) (eqb class class) (eq-eqb port port refl) (eq-eqb class class refl)) in
    list_any-map (is_at port class) (place port) (filter (λ c. is_used network port c) stream_classes)
    ∙ list_any-filter (λ c. is_at port class (place port c)) (λ c. is_used network port c) stream_classes
    ∙ list_any_at (λ c. is_used network port c && is_at port class (place port c)) stream_classes (class - 1) 0
    (omega arith) (ap (λ (c : ℕ). is_used network port c && is_at port class (place port c)) there ∙ passes)

has_from : (network : DeclaredNetwork) (k : ℕ) (ports : List Port) (port class : ℕ) → k ≤ port → port < k + length ports
    → 1 ≤ class → class ≤ 7 → is_used network port class ≡ true
    → list_any (is_at port class) (places_from network k ports) ≡ true
has_from network k [] port class from below least most used = absurd (omega arith)
has_from network k (one ∷ ports) port class from below least most used =
    list_any-append (is_at port class) (places_at network k) (places_from network (k + 1) ports)
    ∙ (elim (cases_eq k port) as (λ _. (list_any (is_at port class) (places_at network k)
    || list_any (is_at port class) (places_from network (k + 1) ports)) ≡ true) [
      | inl same ↦ or_left (list_any (is_at port class) (places_at network k))
          (list_any (is_at port class) (places_from network (k + 1) ports))
          (ap (λ (n : ℕ). list_any (is_at port class) (places_at network n)) same
          ∙ has_class network port class least most used)
      | inr other ↦ or_right (list_any (is_at port class) (places_at network k))
          (list_any (is_at port class) (places_from network (k + 1) ports))
          (has_from network (k + 1) ports port class (omega arith) (omega arith) least most used)
    ])

-- a port that a sender uses is one of the network's
port_used : (network : DeclaredNetwork) (port : ℕ) (s : Sender) → IsSender network.topology s → uses port s ≡ true
    → port < length network.topology.ports
port_used network port s is used =
    any_gives (λ p. eqb p port) (port < length network.topology.ports) s.ports
    (λ k d h e. (let within = is.ports k d h in omega (arith, within, eqb-true (get_or s.ports k d) port e)))
    used

ports_used : (network : DeclaredNetwork) (port : ℕ) (senders : List Sender) → All (IsSender network.topology) senders
    → All (λ (s : PortSender). port < length network.topology.ports) (senders_at network.topology port senders)
ports_used network port senders all =
    All-map (λ (s : PortSender). port < length network.topology.ports) (seen_at network.topology port)
    (filter (uses port) senders)
    (λ k d h. port_used network port (get_or (filter (uses port) senders) k d)
    (All-filter (uses port) (IsSender network.topology) senders all k d h) (filter_passes (uses port) senders k d h))

pub any_sum : {X : Type 0} (test : X → Bool) (amount : X → ℕ) (xs : List X)
    → All (λ (x : X). test x ≡ true → 1 ≤ amount x) xs → list_any test xs ≡ true → 1 ≤ sum_by amount (filter test xs)
any_sum test amount [] all any = absurd (let no : false ≡ true = any in cc)
any_sum {X} test amount (x ∷ xs) all any =
    by (test x) refl any (any_sum test amount xs (All-tail (λ (x : X). test x ≡ true → 1 ≤ amount x) x xs all))
  where
    by : (b : Bool) → test x ≡ b → (b || list_any test xs) ≡ true
        → (list_any test xs ≡ true → 1 ≤ sum_by amount (filter test xs))
        → 1 ≤ sum_by amount (cond b (x ∷ filter test xs) (filter test xs))
    by true e any more = omega
        (arith, sum_by-cons amount x (filter test xs), All-head (λ (x : X). test x ≡ true → 1 ≤ amount x) x xs all e)
    by false e any more = more any

-- some stream of the class uses the port, so some sender does
pub used_by_sender : (network : DeclaredNetwork) (port class : ℕ) → is_used network port class ≡ true
    → list_any (is_of class) (senders_at network.topology port (senders_of network)) ≡ true
used_by_sender network port class used =
    let streams : List Sender = map stream_sender network.streams in
    let flows : List Sender = map flow_sender network.flows in
    ap (list_any (is_of class)) (senders_at-append network.topology port streams flows)
    ∙ list_any-append (is_of class) (senders_at network.topology port streams) (senders_at network.topology port flows)
    ∙ or_left (list_any (is_of class) (senders_at network.topology port streams))
    (list_any (is_of class) (senders_at network.topology port flows)) used

pub used_class : (network : DeclaredNetwork) (port class : ℕ) → IsNetwork network
    → is_used network port class ≡ true → 1 ≤ class
used_class network port class is used =
    let seen : List PortSender = senders_at network.topology port (map stream_sender network.streams) in
    any_gives (is_of class) (1 ≤ class) seen
    (λ k d h e. (
    let least = streams_class network.topology port network.streams is.streams k d h in
    omega (arith, least, eqb-true (get_or seen k d).class class e)))
    used

pub is_place : (network : DeclaredNetwork) (port class : ℕ) → IsNetwork network → is_used network port class ≡ true
    → IsPlace network port class
is_place network port class is used =
    let senders : List PortSender = senders_at network.topology port (senders_of network) in
    let all : All IsSeen senders = all_seen network.topology port (senders_of network) (each_is_sender network is) in
    let any : list_any (is_of class) senders ≡ true = used_by_sender network port class used in
    let least : 1 ≤ class = used_class network port class is used in
    let inside : port < length network.topology.ports = any_gives (is_of class) (port < length network.topology.ports)
    senders (λ k d h e. ports_used network port (senders_of network) (each_is_sender network is) k d h) any in
    record {
      within = inside;
      least = least;
      most = any_gives (is_of class) (class ≤ 7) senders (λ k d h e.
          (let s = all k d h in omega (arith, s.class, eqb-true (get_or senders k d).class class e))) any;
      is_port = (ports_are_lawful network.topology is.topology).each port no_port inside;
      rate =
          any_sum (is_of class) (λ (s : PortSender). s.rate) senders
          (λ k d h e. (let s = all k d h in
          (s.shaped (omega (arith, least, eqb-true (get_or senders k d).class class e))).rate.positive)) any;
    }

-- the places are all that are used
pub places_have : (network : DeclaredNetwork) (port class : ℕ) → IsNetwork network → is_used network port class ≡ true
    → list_any (is_at port class) (places_of network) ≡ true
places_have network port class is used =
    let at : IsPlace network port class = is_place network port class is used in
    has_from network 0 network.topology.ports port class (omega arith) (omega (arith, at.within)) at.least at.most used
