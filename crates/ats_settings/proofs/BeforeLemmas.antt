-- The port from which a sender's frames come, by its place.
use Rattle.std.proofs.Common.{◌≡◌, ◌≢◌, ℕ, zero, suc, ◌+◌, ◌-◌, ◌<◌, ◌≤◌, ◌⊎◌, inl, inr, List, [], ◌∷◌, length, get_or}
use Rattle.std.proofs.Common.{map, Option, Some, None, refl, sym, ap, subst, ◌∙◌, arith, length-append}
use Rattle.std.specs.Prelude.{is_some}
use Rattle.std.specs.List.{All}
use Rattle.std.proofs.lemmas.Bool.{cases_eq, true≢false}
use Rattle.std.proofs.lemmas.List.Elements.{All-append, All-map}
use Rattle.std.proofs.lemmas.List.Sums.{get_or-le-sum_by}
use Rattle.ats_streams.specs.Branches.{BeginsEarlier, first_from, leads_of, leg_at, legs_of, no_branch, routes_of}
use Rattle.ats_streams.proofs.BranchLemmas.{begins_at, lead_of_trunk, route-at, routes-length, trunk_within}
use Rattle.ats_streams.specs.Flow.{DeclaredFlow, IsFlow}
use Rattle.ats_streams.specs.Path.{IsPath}
use Rattle.ats_streams.specs.Stream.{DeclaredStream, IsStream}
use Rattle.ats_streams.specs.declared.branch.Branch.{Branch}
use Rattle.ats_network.specs.Class.{port_before}
use Rattle.ats_network.specs.Network.{DeclaredNetwork, IsNetwork, ports_together, senders_of}
use Rattle.ats_network.specs.Sender.{Sender, stream_sender, flow_sender}
use Rattle.ats_network.specs.Senders.{IsSender, sender_at, no_sender}
use Rattle.ats_network.proofs.SenderLemmas.{sender_keeps}
use Rattle.ats_route_law.proofs.Standing.{LeadsTo, before_branch, before_place, leads_to, none_before_first}
use Rattle.ats_route_law.proofs.Standing.{none_leads}
use Rattle.ats_settings.specs.Before.{IsBefore, IsFrom}
use Rattle.ats_settings.specs.Settings.{LeavesBridge, port_at_place, port_behind}

-- a place of a sender's ports, with that of the port before
pub record ComesFrom (network : DeclaredNetwork) (sender place before : ℕ) : Type 0 where
  pub within : before < length (sender_at network sender).ports
  pub is : port_before (sender_at network sender) (port_at_place network sender place)
      ≡ Some (port_at_place network sender before)

pub comes_from : (network : DeclaredNetwork) (sender place before : ℕ) → IsNetwork network
    → sender < length (senders_of network) → place < length (sender_at network sender).ports
    → IsBefore (sender_at network sender).branches place before → ComesFrom network sender place before
comes_from network sender place before is exists within (inl begins) =
    let s : Sender = sender_at network sender in
    let keeps : IsSender network.topology s = sender_keeps network sender is exists in
    let b : Branch = get_or s.branches begins.branch no_branch in
    let leads : LeadsTo s b before =
    leads_to network.topology s begins.branch before keeps begins.exists begins.is in
    record {
      within = leads.within;
      is = ap (λ (p : ℕ). port_before s (get_or s.ports p 0)) (sym begins.begins)
          ∙ before_branch network.topology s begins.branch keeps begins.exists ∙ leads.at;
    }
comes_from network sender place before is exists within (inr goes) =
    let s : Sender = sender_at network sender in
    let keeps : IsSender network.topology s = sender_keeps network sender is exists in
    let same : place - 1 ≡ before = omega (arith, goes.is) in
    record {
      within = omega (arith, goes.is, within);
      is = before_place network.topology s place keeps (omega (arith, goes.is)) within goes.elsewhere
          ∙ ap (λ (p : ℕ). Some (get_or s.ports p 0)) same;
    }

-- the same of the place in front of that at which a leg goes on
pub comes_behind : (network : DeclaredNetwork) (sender place from : ℕ) → IsNetwork network
    → sender < length (senders_of network) → place < length (sender_at network sender).ports
    → IsFrom (sender_at network sender).branches place from → 1 ≤ from → ComesFrom network sender place (from - 1)
comes_behind network sender place from is exists within at later =
    let next : from ≡ from - 1 + 1 = omega (arith, later) in
    comes_from network sender place (from - 1) is exists within
    (subst (IsFrom (sender_at network sender).branches place) next at)

-- before the ports that leave the talker there is none
pub starts_there : (network : DeclaredNetwork) (sender place : ℕ) → IsNetwork network
    → sender < length (senders_of network) → IsFrom (sender_at network sender).branches place 0
    → port_behind network sender place ≡ None
starts_there network sender place is exists (inl begins) =
    let s : Sender = sender_at network sender in
    let keeps : IsSender network.topology s = sender_keeps network sender is exists in
    ap (λ (p : ℕ). port_before s (get_or s.ports p 0)) (sym begins.begins)
    ∙ before_branch network.topology s begins.branch keeps begins.exists
    ∙ none_leads s (get_or s.branches begins.branch no_branch) (sym begins.is)
starts_there network sender place is exists (inr goes) =
    let s : Sender = sender_at network sender in
    ap (λ (p : ℕ). port_before s (get_or s.ports p 0)) (sym goes.is)
    ∙ none_before_first network.topology s (sender_keeps network sender is exists)

-- at a place the ports of some branch begin, or those of none
begins_or_not : (branches : List Branch) (place : ℕ)
    → ((n : ℕ) × (n < length branches) × ((get_or branches n no_branch).first ≡ place))
    ⊎ ((n : ℕ) → n < length branches → (get_or branches n no_branch).first ≢ place)
begins_or_not [] place = inr (λ n within. absurd (omega arith))
begins_or_not (b ∷ branches) place = by (cases_eq b.first place) (begins_or_not branches place)
  where
    by : (b.first ≡ place) ⊎ (b.first ≢ place)
        → ((n : ℕ) × (n < length branches) × ((get_or branches n no_branch).first ≡ place))
        ⊎ ((n : ℕ) → n < length branches → (get_or branches n no_branch).first ≢ place)
        → ((n : ℕ) × (n < length (b ∷ branches)) × ((get_or (b ∷ branches) n no_branch).first ≡ place))
        ⊎ ((n : ℕ) → n < length (b ∷ branches) → (get_or (b ∷ branches) n no_branch).first ≢ place)
    by (inl here) further = inl (0, omega arith, here)
    by (inr other) (inl later) = inl (suc later.0, omega (arith, later.1), later.2)
    by (inr other) (inr none) = inr (λ n. elim n as (λ k. k < length (b ∷ branches)
        → (get_or (b ∷ branches) k no_branch).first ≢ place) [
          | zero ↦ λ within. other
          | suc k ↦ λ within. none k (omega arith)
        ])

-- from each place a leg goes on
record HasFrom (branches : List Branch) (place : ℕ) : Type 0 where
  from : ℕ
  is : IsFrom branches place from

has_from : (branches : List Branch) (place : ℕ) → HasFrom branches place
has_from branches place = by (begins_or_not branches place)
  where
    by : ((n : ℕ) × (n < length branches) × ((get_or branches n no_branch).first ≡ place))
        ⊎ ((n : ℕ) → n < length branches → (get_or branches n no_branch).first ≢ place) → HasFrom branches place
    by (inl begins) = record {
      from = first_from 0 branches (get_or branches begins.0 no_branch).leg + (get_or branches begins.0 no_branch).hop;
      is = inl (record { branch = begins.0; exists = begins.1; begins = begins.2; is = refl });
    }
    by (inr elsewhere) = record { from = place; is = inr (record { elsewhere = elsewhere; is = refl }) }

-- so each port that leaves a bridge to which the frames come has one before it
pub record HasBefore (network : DeclaredNetwork) (sender place : ℕ) : Type 0 where
  pub before : ℕ
  pub from : ComesFrom network sender place before

pub has_before : (network : DeclaredNetwork) (sender place : ℕ) → IsNetwork network
    → LeavesBridge network sender place → HasBefore network sender place
has_before network sender place is at = by there.from there.is
  where
    branches : List Branch
    branches = (sender_at network sender).branches

    there : HasFrom (sender_at network sender).branches place
    there = has_from branches place

    by : (from : ℕ) → IsFrom (sender_at network sender).branches place from → HasBefore network sender place
    by zero first = absurd (true≢false (sym at.comes
        ∙ ap (λ (o : Option ℕ). is_some o) (starts_there network sender place is at.exists first)))
    by (suc before) behind =
        let next : suc before ≡ before + 1 = omega arith in
        record {
          before = before;
          from = comes_from network sender place before is at.exists at.within
              (subst (IsFrom branches place) next behind);
        }

streams_few : (streams : List DeclaredStream) → ports_together streams ≤ 65536
    → All (λ (s : Sender). length s.ports ≤ 65536) (map stream_sender streams)
streams_few streams few = All-map (λ (s : Sender). length s.ports ≤ 65536) stream_sender streams
    (λ k d h. omega (arith, few, get_or-le-sum_by (λ (s : DeclaredStream). length s.ports) streams k d h))

flows_few : (flows : List DeclaredFlow) → All IsFlow flows
    → All (λ (s : Sender). length s.ports ≤ 65536) (map flow_sender flows)
flows_few flows keep = All-map (λ (s : Sender). length s.ports ≤ 65536) flow_sender flows
    (λ k d h. (let path : IsPath (get_or flows k d).path = (keep k d h).path in omega (arith, path.most)))

-- a sender has at most as many ports as the streams of a network together
pub few_ports : (network : DeclaredNetwork) (n : ℕ) → IsNetwork network → n < length (senders_of network)
    → length (sender_at network n).ports ≤ 65536
few_ports network n is within =
    All-append (λ (s : Sender). length s.ports ≤ 65536) (map stream_sender network.streams)
    (map flow_sender network.flows) (streams_few network.streams is.few_ports) (flows_few network.flows is.flows)
    n no_sender within

-- a sender has a port
pub some_port_of : (network : DeclaredNetwork) (n : ℕ) → IsNetwork network → n < length (senders_of network)
    → 1 ≤ length (sender_at network n).ports
some_port_of network n is within =
    let s : Sender = sender_at network n in
    let keeps : IsSender network.topology s = sender_keeps network n is within in
    let path : IsPath (get_or (routes_of s.ports s.branches) 0 []) =
    keeps.routes 0 [] (omega (arith, routes-length s.ports s.branches)) in
    omega (
      arith,
      path.least,
      ap (λ (l : List ℕ). length l) (route-at s.ports s.branches 0 [] (omega arith)),
      length-append (leg_at (leads_of s.ports s.branches) 0) (leg_at (legs_of s.ports s.branches) 0),
      ap (λ (l : List ℕ). length l) (lead_of_trunk s.ports s.branches),
      trunk_within s.ports s.branches,
    )

-- its ports are the topology's
pub port_below : (network : DeclaredNetwork) (sender place : ℕ) → IsNetwork network
    → sender < length (senders_of network) → place < length (sender_at network sender).ports
    → port_at_place network sender place < length network.topology.ports
port_below network sender place is exists within =
    let keeps : IsSender network.topology (sender_at network sender) = sender_keeps network sender is exists in
    keeps.ports place 0 within

-- a branch of a stream begins at an earlier leg
pub begins_of : (s : DeclaredStream) (n : ℕ) → IsStream s → n < length s.branches
    → BeginsEarlier (legs_of s.ports s.branches) (1 + n) (get_or s.branches n no_branch)
begins_of s n is within = begins_at (legs_of s.ports s.branches) 1 s.branches n is.branches.begin within
