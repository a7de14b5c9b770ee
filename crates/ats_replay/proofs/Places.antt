-- The places of listeners among those of all senders.
use Rattle.std.proofs.Common.{◌≡◌, ◌≢◌, ◌∙◌, ℕ, zero, suc, ◌+◌, ◌-◌, ◌<◌, ◌≤◌, inl, inr, List, [], ◌∷◌, ◌++◌, length}
use Rattle.std.proofs.Common.{map, take, get_or, ap, sym, arith}
use Rattle.std.specs.Prelude.{sum_by}
use Rattle.std.specs.List.{range_with_len}
use Rattle.std.proofs.lemmas.Bool.{cases_lt}
use Rattle.std.proofs.lemmas.List.Sums.{sum_by-cons, sum_by_more}
use Rattle.std.proofs.lemmas.List.FromFn.{get_or-map-range_with_len, length-map-range_with_len, map-range_with_len_more}
use Rattle.ats_streams.specs.Branches.{legs_of}
use Rattle.ats_streams.proofs.BranchLemmas.{legs-length, routes-length}
use Rattle.ats_streams.proofs.RouteLemmas.{each_on_routes}
use Rattle.ats_topology.specs.Walks.{ArePorts}
use Rattle.ats_network.specs.Network.{DeclaredNetwork, IsNetwork, senders_of}
use Rattle.ats_network.specs.Sender.{Sender}
use Rattle.ats_network.specs.Senders.{no_sender, sender_at}
use Rattle.ats_network.proofs.SenderLemmas.{sender_keeps}
use Rattle.ats_trace.specs.Ways.{listener_count, route_to}
use Rattle.ats_replay.specs.Summary.{first_of, place_of}

-- the first place of the next sender is behind the listeners of this one
pub first_next : (network : DeclaredNetwork) (sender : ℕ) → sender < length (senders_of network)
    → first_of network (sender + 1) ≡ first_of network sender + listener_count (sender_at network sender)
first_next network sender within = sum_by_more listener_count (senders_of network) sender no_sender within

sums_ascend : (senders : List Sender) (one more : ℕ)
    → sum_by listener_count (take one senders) ≤ sum_by listener_count (take (one + more) senders)
sums_ascend [] zero more = omega arith
sums_ascend [] (suc one) more = omega arith
sums_ascend (s ∷ senders) zero more = omega arith
sums_ascend (s ∷ senders) (suc one) more =
    let next : suc one + more ≡ suc (one + more) = omega arith in
    let long : sum_by listener_count (take (suc one + more) (s ∷ senders))
    ≡ sum_by listener_count (s ∷ take (one + more) senders) =
    ap (λ (n : ℕ). sum_by listener_count (take n (s ∷ senders))) next in
    omega (
      arith,
      long,
      sum_by-cons listener_count s (take one senders),
      sum_by-cons listener_count s (take (one + more) senders),
      sums_ascend senders one more,
    )

-- the places of a sender's listeners are in front of those of each sender behind it
pub places_behind : (network : DeclaredNetwork) (sender listener behind : ℕ) → sender < length (senders_of network)
    → listener < listener_count (sender_at network sender) → sender < behind
    → place_of network sender listener < first_of network behind
places_behind network sender listener behind within listed before =
    let more : ℕ = behind - (sender + 1) in
    let is : (sender + 1) + more ≡ behind = omega (arith, before) in
    let same : first_of network ((sender + 1) + more) ≡ first_of network behind =
    ap (λ (n : ℕ). first_of network n) is in
    omega (
      arith,
      first_next network sender within,
      sums_ascend (senders_of network) (sender + 1) more,
      same,
      listed,
    )

-- so listeners of different senders have different places
pub places_differ : (network : DeclaredNetwork) (sender listener other twin : ℕ) → sender < length (senders_of network)
    → other < length (senders_of network) → listener < listener_count (sender_at network sender)
    → twin < listener_count (sender_at network other) → sender ≢ other
    → place_of network sender listener ≢ place_of network other twin
places_differ network sender listener other twin within inside listed known apart =
    elim (cases_lt sender other) [
      | inl before ↦ differ (places_behind network sender listener other within listed before)
      | inr behind ↦ differ_back (places_behind network other twin sender inside known (omega (arith, behind, apart)))
    ]
  where
    differ : place_of network sender listener < first_of network other
        → place_of network sender listener ≢ place_of network other twin
    differ before same = omega (arith, before, same)

    differ_back : place_of network other twin < first_of network sender
        → place_of network sender listener ≢ place_of network other twin
    differ_back before same = omega (arith, before, same)

-- the first places of so many senders, and of the next
pub firsts_more : (network : DeclaredNetwork) (sender first : ℕ) (firsts after : List ℕ)
    → firsts ≡ map (first_of network) (range_with_len 0 sender) → first ≡ first_of network sender
    → after ≡ firsts ++ first ∷ [] → after ≡ map (first_of network) (range_with_len 0 (sender + 1))
firsts_more network sender first firsts after so_far is more =
    more ∙ ap (λ (n : ℕ). firsts ++ n ∷ []) is
    ∙ ap (λ (list : List ℕ). list ++ first_of network sender ∷ []) so_far
    ∙ sym (map-range_with_len_more (first_of network) 0 sender sender (omega arith))

pub first_after : (network : DeclaredNetwork) (sender first legs : ℕ) → sender < length (senders_of network)
    → first ≡ first_of network sender
    → legs ≡ length (legs_of (sender_at network sender).ports (sender_at network sender).branches)
    → first + legs ≡ first_of network (sender + 1)
first_after network sender first legs within is many =
    let s : Sender = sender_at network sender in
    omega (
      arith,
      is,
      many,
      first_next network sender within,
      legs-length 0 s.ports s.branches,
      routes-length s.ports s.branches,
    )

-- the place that was found for the first listener of a sender, or for all of them
pub first_found : (network : DeclaredNetwork) (firsts : List ℕ) (sender d : ℕ)
    → firsts ≡ map (first_of network) (range_with_len 0 (length (senders_of network) + 1))
    → sender < length (senders_of network) + 1 → get_or firsts sender d ≡ first_of network sender
first_found network firsts sender d are within =
    ap (λ (list : List ℕ). get_or list sender d) are
    ∙ get_or-map-range_with_len (first_of network) 0 (length (senders_of network) + 1) sender sender d within
    (omega arith)

pub firsts_long : (network : DeclaredNetwork) (firsts : List ℕ)
    → firsts ≡ map (first_of network) (range_with_len 0 (length (senders_of network) + 1))
    → length firsts ≡ length (senders_of network) + 1
firsts_long network firsts are =
    ap (λ (list : List ℕ). length list) are
    ∙ length-map-range_with_len (first_of network) 0 (length (senders_of network) + 1)

-- a sender has as many listeners as legs
pub listeners_many : (network : DeclaredNetwork) (sender : ℕ)
    → listener_count (sender_at network sender)
    ≡ length (legs_of (sender_at network sender).ports (sender_at network sender).branches)
listeners_many network sender =
    let s : Sender = sender_at network sender in
    omega (arith, legs-length 0 s.ports s.branches, routes-length s.ports s.branches)

-- the route to a listener has ports of the network
pub route_ports : (network : DeclaredNetwork) (sender listener : ℕ) → IsNetwork network
    → sender < length (senders_of network) → listener < listener_count (sender_at network sender)
    → ArePorts network.topology.ports (route_to (sender_at network sender) listener)
route_ports network sender listener rules within listed =
    let s : Sender = sender_at network sender in
    each_on_routes (λ p. p < length network.topology.ports) s.ports s.branches
    (sender_keeps network sender rules within).ports listener [] listed
