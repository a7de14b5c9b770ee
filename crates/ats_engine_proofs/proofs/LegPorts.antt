-- The ports of a leg among those of its sender.
use Rattle.std.proofs.Common.{◌≡◌, ◌≢◌, ℕ, zero, suc, ◌+◌, ◌-◌, ◌<◌, ◌≤◌, List, [], ◌++◌, length, get_or, drop, All}
use Rattle.std.proofs.Common.{inl, inr, sym, ap, ◌∙◌, subst, arith, length-append, length-take}
use Rattle.std.specs.Prelude.{AllPairs, Contains}
use Rattle.std.specs.List.{slice_range}
use Rattle.std.proofs.lemmas.Bool.{cases_lt}
use Rattle.std.proofs.lemmas.List.{get_or_default, get_or_past}
use Rattle.std.proofs.lemmas.List.Elements.{Contains-get_or}
use Rattle.ats_streams.specs.Branches.{AreBranches, first_from, leads_of, leg_at, legs_of, no_branch, routes_of}
use Rattle.ats_streams.specs.declared.path.TheConstants.{MAX_PORTS}
use Rattle.ats_streams.proofs.BranchLemmas.{IsPlaced, placed, route-at, routes-length, leg_between, legs-length}
use Rattle.ats_streams.proofs.BranchLemmas.{lead_of_trunk, trunk_within}
use Rattle.ats_network.specs.Network.{DeclaredNetwork, IsNetwork, senders_of}
use Rattle.ats_network.specs.Sender.{Sender}
use Rattle.ats_network.specs.Senders.{IsSender, sender_at}
use Rattle.ats_network.proofs.SenderLemmas.{sender_keeps}
use Rattle.ats_schedulers.proofs.LegPlaces.{IsLeg, leg_is}
use Rattle.ats_trace.specs.Journey.{legs_at}

-- a sender has a port
sender-some : (network : DeclaredNetwork) (sender : ℕ) → IsNetwork network → sender < length (senders_of network)
    → 1 ≤ length (sender_at network sender).ports
sender-some network sender rules known =
    let s : Sender = sender_at network sender in
    let is : IsSender network.topology s = sender_keeps network sender rules known in
    let lead : List ℕ = leg_at (leads_of s.ports s.branches) 0 in
    let trunk : List ℕ = leg_at (legs_of s.ports s.branches) 0 in
    let some = (is.routes 0 [] (omega (arith, routes-length s.ports s.branches))).least in
    let whole : length (get_or (routes_of s.ports s.branches) 0 []) ≡ length (lead ++ trunk) =
    ap length (route-at s.ports s.branches 0 [] (omega arith)) in
    omega (
      arith,
      some,
      whole,
      ap (λ (l : List ℕ). length l) (lead_of_trunk s.ports s.branches),
      length-append lead trunk,
      trunk_within s.ports s.branches,
    )

-- each leg has some of its sender's ports, one behind another
pub leg-placed : (network : DeclaredNetwork) (sender leg : ℕ) → IsNetwork network
    → sender < length (senders_of network) → leg ≤ length (sender_at network sender).branches
    → IsLeg (sender_at network sender).ports (leg_at (legs_at network sender) leg)
    (first_from 0 (sender_at network sender).branches leg)
leg-placed network sender leg rules known there =
    leg_is (sender_at network sender).ports (sender_at network sender).branches leg
    (sender_keeps network sender rules known).branches (sender-some network sender rules known) there

-- what holds of each port of a sender holds of those of a leg
pub leg-all : (network : DeclaredNetwork) (sender leg : ℕ) → IsNetwork network
    → sender < length (senders_of network) → leg ≤ length (sender_at network sender).branches
    → (P : ℕ → Type 0) → All P (sender_at network sender).ports → All P (leg_at (legs_at network sender) leg)
leg-all network sender leg rules known there P all k d within =
    let path : List ℕ = leg_at (legs_at network sender) leg in
    let is = leg-placed network sender leg rules known there in
    let first : ℕ = first_from 0 (sender_at network sender).branches leg in
    subst P (is.port k within ∙ get_or_default path k 0 d within)
    (all (first + k) 0 (omega (arith, is.within, within)))

-- a leg has a port, and no more than a path
pub leg-some : (network : DeclaredNetwork) (sender leg : ℕ) → IsNetwork network
    → sender < length (senders_of network) → leg ≤ length (sender_at network sender).branches
    → 1 ≤ length (leg_at (legs_at network sender) leg)
leg-some network sender leg rules known there = (leg-placed network sender leg rules known there).some

pub leg-few : (network : DeclaredNetwork) (sender leg : ℕ) → IsNetwork network
    → sender < length (senders_of network) → leg ≤ length (sender_at network sender).branches
    → length (leg_at (legs_at network sender) leg) ≤ MAX_PORTS
leg-few network sender leg rules known there =
    let s : Sender = sender_at network sender in
    let is : IsSender network.topology s = sender_keeps network sender rules known in
    let lead : List ℕ = leg_at (leads_of s.ports s.branches) leg in
    let path : List ℕ = leg_at (legs_of s.ports s.branches) leg in
    let most = (is.routes leg [] (omega (arith, routes-length s.ports s.branches))).most in
    let whole : length (get_or (routes_of s.ports s.branches) leg []) ≡ length (lead ++ path) =
    ap length (route-at s.ports s.branches leg [] there) in
    omega (arith, most, whole, length-append lead path)

-- places of different numbers where one stands are one
pub place-one : (xs : List ℕ) (i j : ℕ) → AllPairs (λ (x y : ℕ). x ≢ y) xs → i < length xs → j < length xs
    → get_or xs i 0 ≡ get_or xs j 0 → i ≡ j
place-one xs i j apart within there same = elim (cases_lt i j) [
  | inl before ↦ absurd (apart i j 0 before there same)
  | inr past ↦ (elim (cases_lt j i) [
    | inl after ↦ absurd (apart j i 0 after within (sym same))
    | inr level ↦ omega (arith, past, level)
  ])
]

-- the ports of a leg are different
pub leg-apart : (network : DeclaredNetwork) (sender leg : ℕ) → IsNetwork network
    → sender < length (senders_of network) → leg ≤ length (sender_at network sender).branches
    → AllPairs (λ (p q : ℕ). p ≢ q) (leg_at (legs_at network sender) leg)
leg-apart network sender leg rules known there i j d before within same =
    let path : List ℕ = leg_at (legs_at network sender) leg in
    let is = leg-placed network sender leg rules known there in
    let first : ℕ = first_from 0 (sender_at network sender).branches leg in
    let below : i < length path = omega (arith, before, within) in
    (sender_keeps network sender rules known).apart (first + i) (first + j) 0 (omega (arith, before))
    (omega (arith, is.within, within))
    (is.port i below ∙ get_or_default path i 0 d below ∙ same ∙ get_or_default path j d 0 within
    ∙ sym (is.port j within))

-- a leg ends where each later one begins, or before
leg-before : (network : DeclaredNetwork) (sender leg later : ℕ) → IsNetwork network
    → sender < length (senders_of network) → leg < later → later ≤ length (sender_at network sender).branches
    → first_from 0 (sender_at network sender).branches leg + length (leg_at (legs_at network sender) leg)
    ≤ first_from 0 (sender_at network sender).branches later
leg-before network sender leg zero rules known before there = absurd (omega arith)
leg-before network sender leg (suc n) rules known before there =
    let s : Sender = sender_at network sender in
    let are : AreBranches s.ports s.branches = (sender_keeps network sender rules known).branches in
    let one : IsPlaced (first_from 0 s.branches n) (get_or s.branches n no_branch).first (length s.ports) =
    placed 0 s.branches (length s.ports) n are.places (omega arith) in
    elim (cases_lt leg n) as (λ _. first_from 0 s.branches leg + length (leg_at (legs_at network sender) leg)
    ≤ first_from 0 s.branches (suc n)) [
      | inl more ↦ omega (arith, one.ascends, leg-before network sender leg n rules known more (omega arith))
      | inr last ↦
          (let same : leg ≡ n = omega (arith, before, last) in
          let from : ℕ = first_from 0 s.branches n in
          let to : ℕ = (get_or s.branches n no_branch).first in
          let long : length (leg_at (legs_of s.ports s.branches) n) ≡ length (slice_range s.ports from to) =
          ap length (leg_between 0 s.ports s.branches n (omega arith)) in
          subst (λ (k : ℕ). first_from 0 s.branches k + length (leg_at (legs_at network sender) k)
          ≤ first_from 0 s.branches (suc n)) (sym same)
          (omega (arith, long, length-take (to - from) (drop from s.ports), one.ascends)))
    ]

-- a leg has no port past the last one
there-is : (network : DeclaredNetwork) (sender leg port : ℕ) → Contains (leg_at (legs_at network sender) leg) port
    → leg ≤ length (sender_at network sender).branches
there-is network sender leg port has =
    let s : Sender = sender_at network sender in
    elim (cases_lt (length s.branches) leg) as (λ _. leg ≤ length s.branches) [
      | inl past ↦
          (let none : length (leg_at (legs_at network sender) leg) ≡ 0 =
          ap length (get_or_past (legs_of s.ports s.branches) leg []
          (omega (arith, legs-length 0 s.ports s.branches, past))) in
          absurd (omega (arith, none, has.1)))
      | inr within ↦ omega (arith, within)
    ]

-- no port is in two legs of a sender
leg-not_later : (network : DeclaredNetwork) (sender leg other port : ℕ) → IsNetwork network
    → sender < length (senders_of network) → Contains (leg_at (legs_at network sender) leg) port
    → Contains (leg_at (legs_at network sender) other) port → other ≤ leg
leg-not_later network sender leg other port rules known has has_too =
    let s : Sender = sender_at network sender in
    let here = leg-placed network sender leg rules known (there-is network sender leg port has) in
    let late = leg-placed network sender other rules known (there-is network sender other port has_too) in
    let first : ℕ = first_from 0 s.branches leg in
    let begin : ℕ = first_from 0 s.branches other in
    let path : List ℕ = leg_at (legs_at network sender) leg in
    let ports : List ℕ = leg_at (legs_at network sender) other in
    let one : get_or s.ports (first + has.0) 0 ≡ get_or s.ports (begin + has_too.0) 0 =
    here.port has.0 has.1 ∙ get_or_default path has.0 0 port has.1 ∙ has.2 ∙ sym has_too.2
    ∙ get_or_default ports has_too.0 port 0 has_too.1 ∙ sym (late.port has_too.0 has_too.1) in
    let place : first + has.0 ≡ begin + has_too.0 =
    place-one s.ports (first + has.0) (begin + has_too.0) (sender_keeps network sender rules known).apart
    (omega (arith, here.within, has.1)) (omega (arith, late.within, has_too.1)) one in
    elim (cases_lt leg other) as (λ _. other ≤ leg) [
      | inl before ↦ absurd (omega (
        arith,
        place,
        has.1,
        leg-before network sender leg other rules known before (there-is network sender other port has_too),
      ))
      | inr within ↦ omega (arith, within)
    ]

pub leg-one : (network : DeclaredNetwork) (sender leg other port : ℕ) → IsNetwork network
    → sender < length (senders_of network) → Contains (leg_at (legs_at network sender) leg) port
    → Contains (leg_at (legs_at network sender) other) port → leg ≡ other
leg-one network sender leg other port rules known has has_too =
    omega (
      arith,
      leg-not_later network sender leg other port rules known has has_too,
      leg-not_later network sender other leg port rules known has_too has,
    )

-- nor at two places of one
pub hop-one : (network : DeclaredNetwork) (sender leg hop other : ℕ) → IsNetwork network
    → sender < length (senders_of network) → hop < length (leg_at (legs_at network sender) leg)
    → other < length (leg_at (legs_at network sender) leg)
    → get_or (leg_at (legs_at network sender) leg) hop 0 ≡ get_or (leg_at (legs_at network sender) leg) other 0
    → hop ≡ other
hop-one network sender leg hop other rules known within there same =
    place-one (leg_at (legs_at network sender) leg) hop other
    (leg-apart network sender leg rules known
    (there-is network sender leg (get_or (leg_at (legs_at network sender) leg) hop 0)
    (Contains-get_or (leg_at (legs_at network sender) leg) hop 0 within))) within there same
