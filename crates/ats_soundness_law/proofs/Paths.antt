use Rattle.std.proofs.Common.{◌≡◌, ◌≢◌, ℕ, ◌<◌, ◌≤◌, true, cond, List, [], ◌∷◌, length, get_or, All, refl, sym, subst}
use Rattle.std.proofs.Common.{inl, inr, arith}
use Rattle.std.specs.Prelude.{◌==◌, AllPairs}
use Rattle.std.proofs.lemmas.Bool.{cases_eq, cond-true, cond-false, eq-eqb, ne_eqb, both_ways}
use Rattle.std.proofs.lemmas.List.Elements.{All-nil, All-cons, All-head, All-tail}
use Rattle.std.proofs.lemmas.List.Folds.{list_any_at}
use Rattle.ats_facts.proofs.Lists.{pairs_head, pairs_tail}
use Rattle.ats_topology.specs.Node.{is_station}
use Rattle.ats_topology.specs.Port.{port_at}
use Rattle.ats_topology.specs.Topology.{DeclaredTopology, node_at, IsStationAt}
use Rattle.ats_network.specs.Sender.{Sender}
use Rattle.ats_network.specs.Bridges.{IsBridgeAt, MeetAtBridge}
use Rattle.ats_network.specs.Network.{DeclaredNetwork, IsNetwork, senders_of}
use Rattle.ats_network.specs.Senders.{sender_at, no_sender, IsSender, AllNeighbours}
use Rattle.ats_network.proofs.SenderLemmas.{each_is_sender}
use Rattle.ats_certificate.specs.PortSums.{uses}

-- a sender of a network keeps a sender's rules
pub sender_is : (network : DeclaredNetwork) → IsNetwork network → (i : ℕ) → i < length (senders_of network)
    → IsSender network.topology (sender_at network i)
sender_is network net i h = each_is_sender network net i no_sender h

-- no node is both a station and a bridge
pub not_both : (topology : DeclaredTopology) (node : ℕ) → IsStationAt topology node → IsBridgeAt topology node
    → (P : Type 0) → P
not_both topology node s b P = absurd (both_ways (is_station (node_at topology.nodes node).kind) b.bridge s.station)

-- each port of a path but the first leaves a bridge
pub later_bridges : (topology : DeclaredTopology) (p : ℕ) (path : List ℕ) → AllNeighbours (MeetAtBridge topology)
    (p ∷ path) → All (λ (q : ℕ). IsBridgeAt topology (port_at topology.ports q).from) path
later_bridges topology p [] each = All-nil (λ (q : ℕ). IsBridgeAt topology (port_at topology.ports q).from)
later_bridges topology p (q ∷ path) each =
    All-cons (λ (q : ℕ). IsBridgeAt topology (port_at topology.ports q).from) q path
    (subst (IsBridgeAt topology) (sym each.0.next) each.0.bridge) (later_bridges topology q path each.1)

-- a sender uses the ports of its path
pub uses_own : (s : Sender) → All (λ (p : ℕ). uses p s ≡ true) s.ports
uses_own s k d h =
    let p : ℕ = get_or s.ports k d in
    list_any_at (λ (q : ℕ). q == p) s.ports k d h (eq-eqb p p refl)

-- what holds of ports, and of neighbours, gives another relation of neighbours
pub neighbours_with : (P : ℕ → Type 0) (R S : ℕ → ℕ → Type 0) → ((a b : ℕ) → P a → R a b → S a b) → (path : List ℕ)
    → All P path → AllNeighbours R path → AllNeighbours S path
neighbours_with P R S give [] all each = tt
neighbours_with P R S give (p ∷ []) all each = tt
neighbours_with P R S give (p ∷ q ∷ path) all each = (
  give p q (All-head P p (q ∷ path) all) each.0,
  neighbours_with P R S give (q ∷ path) (All-tail P p (q ∷ path) all) each.1,
)

-- the port before a port on a path that begins with p; p itself where there is none
abbrev pub before : ℕ → ℕ → List ℕ → ℕ
before port p [] = p
before port p (q ∷ path) = cond (q == port) p (before port q path)

abbrev pub port_before : ℕ → List ℕ → ℕ
port_before port [] = 0
port_before port (p ∷ path) = before port p path

before-here : (port p q : ℕ) (path : List ℕ) → q ≡ port → before port p (q ∷ path) ≡ p
before-here port p q path e = cond-true (q == port) p (before port q path) (eq-eqb q port e)

before-later : (port p q : ℕ) (path : List ℕ) → (q ≡ port → ⊥) → before port p (q ∷ path) ≡ before port q path
before-later port p q path n = cond-false (q == port) p (before port q path) (ne_eqb q port n)

-- it is a port of the path
before-within : (P : ℕ → Type 0) (port p : ℕ) (path : List ℕ) → All P (p ∷ path) → P (before port p path)
before-within P port p [] all = All-head P p [] all
before-within P port p (q ∷ path) all = elim (cases_eq q port) as (λ _. P (before port p (q ∷ path))) [
  | inl e ↦ subst P (sym (before-here port p q path e)) (All-head P p (q ∷ path) all)
  | inr n ↦ subst P (sym (before-later port p q path n)) (before-within P port q path (All-tail P p (q ∷ path) all))
]

never_again : (port before p : ℕ) (path : List ℕ) → All (λ (q : ℕ). port ≢ q) path
    → AllNeighbours (λ a b. b ≡ port → a ≡ before) (p ∷ path)
never_again port before p [] all = tt
never_again port before p (q ∷ path) all = (
  λ e. absurd (All-head (λ (q : ℕ). port ≢ q) q path all (sym e)),
  never_again port before q path (All-tail (λ (q : ℕ). port ≢ q) q path all),
)

-- of different ports, only that one comes before it
before-is : (port p : ℕ) (path : List ℕ) → AllPairs (λ a b. a ≢ b) (p ∷ path)
    → AllNeighbours (λ a b. b ≡ port → a ≡ before port p path) (p ∷ path)
before-is port p [] apart = tt
before-is port p (q ∷ path) apart =
    let Goal : ℕ → Type 0 = λ (n : ℕ). AllNeighbours (λ a b. b ≡ port → a ≡ n) (p ∷ q ∷ path) in
    let rest : AllPairs (λ a b. a ≢ b) (q ∷ path) = pairs_tail (λ a b. a ≢ b) p (q ∷ path) apart in
    elim (cases_eq q port) as (λ _. Goal (before port p (q ∷ path))) [
      | inl e ↦ subst Goal (sym (before-here port p q path e)) (
        λ _. refl,
        never_again port p q path
            (subst (λ (n : ℕ). All (λ (m : ℕ). n ≢ m) path) e (pairs_head (λ a b. a ≢ b) q path rest)),
      )
      | inr n ↦ subst Goal (sym (before-later port p q path n)) (λ e. absurd (n e), before-is port q path rest)
    ]

pub port_before-within : (P : ℕ → Type 0) (port : ℕ) (path : List ℕ) → 1 ≤ length path → All P path
    → P (port_before port path)
port_before-within P port [] some all = absurd (omega arith)
port_before-within P port (p ∷ path) some all = before-within P port p path all

pub port_before-is : (port : ℕ) (path : List ℕ) → AllPairs (λ a b. a ≢ b) path
    → AllNeighbours (λ a b. b ≡ port → a ≡ port_before port path) path
port_before-is port [] apart = tt
port_before-is port (p ∷ path) apart = before-is port p path apart
