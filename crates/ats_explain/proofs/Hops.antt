-- The ports and classes of the hops of streams.
use Rattle.std.proofs.Common.{◌≡◌, ◌≤◌, ℕ, Bool, true, get_or, map, filter, refl, ◌∙◌}
use Rattle.std.proofs.Common.{eqb, arith}
use Rattle.std.specs.Prelude.{List, ◌&&◌, ◌||◌}
use Rattle.std.specs.List.{All, list_any}
use Rattle.std.proofs.lemmas.Bool.{and_from, and_parts, eq-eqb, eqb-true}
use Rattle.std.proofs.lemmas.List.Folds.{list_any_at}
use Rattle.ats_topology.specs.Topology.{DeclaredTopology}
use Rattle.ats_streams.specs.Stream.{DeclaredStream}
use Rattle.ats_network.specs.Sender.{Sender, stream_sender}
use Rattle.ats_network.specs.Class.{PortSender, class_at, seen_at}
use Rattle.ats_network.specs.Network.{DeclaredNetwork, IsNetwork, senders_of}
use Rattle.ats_certificate.specs.PortSums.{greatest_where, is_above, is_below, is_of, is_used, longest, senders_at}
use Rattle.ats_certificate.specs.PortSums.{shortest, sum_where, uses}
use Rattle.ats_certificate.specs.Used.{places_of}
use Rattle.ats_tally.specs.Tally.{IsTally, least_known}
use Rattle.ats_tally.specs.declared.tally.Tally.{Tally}
use Rattle.ats_tally.proofs.Lists.{any_gives, list_any-map, list_any-filter, none_first}
use Rattle.ats_tally.proofs.Network.{all_within}
use Rattle.ats_tally.proofs.Places.{is_at, places_have, used_class}
use Rattle.ats_bound.specs.Least.{least_row}
use Rattle.ats_bound.specs.Reason.{overload}
use Rattle.ats_bound.proofs.Reasons.{fits_from}
use Rattle.ats_bound.proofs.Waits.{Fits}
use Rattle.ats_explain.specs.Laws.{Carries}
use Rattle.ats_explain.specs.Parts.{HopIsUsed}

-- some stream has the port and is of the class there
abbrev pub is_user : DeclaredTopology → ℕ → ℕ → DeclaredStream → Bool
is_user topology port class s = uses port (stream_sender s) && is_of class (seen_at topology port (stream_sender s))

-- a port and a class are used where this is so of some stream
pub used_by : (network : DeclaredNetwork) (port class : ℕ)
    → is_used network port class ≡ list_any (is_user network.topology port class) network.streams
used_by network port class =
    list_any-map (is_of class) (seen_at network.topology port) (filter (uses port) (map stream_sender network.streams))
    ∙ list_any-filter (λ (s : Sender). is_of class (seen_at network.topology port s)) (uses port)
    (map stream_sender network.streams)
    ∙ list_any-map (λ (s : Sender). uses port s && is_of class (seen_at network.topology port s)) stream_sender
    network.streams

-- some stream, itself, is of the class at each hop of a stream
pub hops_used : (network : DeclaredNetwork)
    → All (λ (s : DeclaredStream). All (HopIsUsed network s) s.ports) network.streams
hops_used network k d within hop e inside =
    let stream : DeclaredStream = get_or network.streams k d in
    let s : Sender = stream_sender stream in
    let port : ℕ = get_or stream.ports hop e in
    let class : ℕ = class_at s port in
    let has : list_any (λ p. eqb p port) stream.ports ≡ true =
    list_any_at (λ p. eqb p port) stream.ports hop e inside (eq-eqb port port refl) in
    used_by network port class
    ∙ list_any_at (is_user network.topology port class) network.streams k d within
    (and_from (uses port s) (is_of class (seen_at network.topology port s)) has (eq-eqb class class refl))

-- where nothing is overloaded, each port and class that is used fits its link
pub fits_used : (network : DeclaredNetwork) (port class : ℕ) → IsNetwork network → Carries network
    → is_used network port class ≡ true → Fits network port class
fits_used network port class is carries used =
    any_gives (is_at port class) (Fits network port class) (places_of network)
    (λ k d h e. (
    let at : ℕ × ℕ = get_or (places_of network) k d in
    let fits : Fits network at.0 at.1 =
    fits_from network at.0 at.1 (none_first (overload network) (places_of network) carries k d h) in
    let parts = and_parts (eqb at.0 port) (eqb at.1 class) e in
    rw (eqb-true at.0 port parts.0, eqb-true at.1 class parts.1) at fits))
    (places_have network port class is used)

-- the bursts of a row are those of 8192 senders at most
pub bursts_most : (network : DeclaredNetwork) (port class : ℕ) → IsNetwork network
    → is_used network port class ≡ true → (least_row network (port, class)).bursts ≤ 8192000000000
bursts_most network port class is used =
    let within = all_within network port class tally is (used_class network port class is used) counted in
    omega (arith, within.bursts)
  where
    senders : List PortSender
    senders = senders_at network.topology port (senders_of network)

    tally : Tally
    tally = record {
      above = sum_where (is_above class) (λ s. s.rate) senders;
      equal = sum_where (is_of class) (λ s. s.rate) senders;
      bursts = sum_where (λ s. is_above class s || is_of class s) (λ s. s.burst_bits) senders;
      lower = greatest_where (is_below class) longest senders;
      least = least_known (map shortest (filter (is_of class) senders));
    }

    counted : IsTally class senders tally
    counted = record { above = refl; equal = refl; bursts = refl; lower = refl; least = refl }
