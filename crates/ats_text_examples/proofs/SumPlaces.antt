-- The sum of bounds for a listener stands at the listener's place.
use Rattle.std.proofs.Common.{◌≡◌, ℕ, zero, suc, ◌+◌, ◌<◌, ◌≤◌, List, [], ◌∷◌, ◌++◌, get_or, map, length, take, Some}
use Rattle.std.proofs.Common.{refl, sym, ap, subst, ◌∙◌, arith, length-append}
use Rattle.std.specs.Prelude.{slice_get, sum_by}
use Rattle.std.specs.List.{flat_map}
use Rattle.std.proofs.lemmas.List.{length-map, take_all}
use Rattle.std.proofs.lemmas.List.Concat.{flat_map-cons, get_or-flat_map}
use Rattle.std.proofs.lemmas.List.Sums.{sum_by-cons}
use Rattle.ats_streams.specs.Branches.{routes_of}
use Rattle.ats_streams.specs.Stream.{DeclaredStream}
use Rattle.ats_streams.proofs.BranchLemmas.{routes-length}
use Rattle.ats_network.specs.Edits.{no_stream}
use Rattle.ats_network.specs.Network.{DeclaredNetwork, senders_of}
use Rattle.ats_network.specs.Sender.{Sender, flow_sender, stream_sender}
use Rattle.ats_network.specs.Senders.{sender_at}
use Rattle.ats_certificate.specs.Certificate.{bound_on, sums_of}
use Rattle.ats_certificate.specs.declared.row.Row.{Row}
use Rattle.ats_tally.specs.Delays.{sums_for}
use Rattle.ats_tally.proofs.RouteSums.{sum-at}
use Rattle.ats_checker.proofs.InTime.{sender_of_stream}
use Rattle.ats_trace.specs.Ways.{listener_count, route_to}
use Rattle.ats_replay.specs.Summary.{first_of, place_of}
use Rattle.ats_replay.proofs.Places.{places_behind}

-- the listeners of the senders in front of a stream are as many as the sums of the streams in front of it
listeners_before : (rows : List Row) (streams : List DeclaredStream) (flows : List Sender) (i : ℕ) → i ≤ length streams
    → sum_by listener_count (take i (map stream_sender streams ++ flows))
    ≡ length (flat_map (sums_of rows) (take i streams))
listeners_before rows [] flows zero within = refl
listeners_before rows [] flows (suc i) within = absurd (omega (arith, within))
listeners_before rows (s ∷ streams) flows zero within = refl
listeners_before rows (s ∷ streams) flows (suc i) within =
    omega (
      arith,
      sum_by-cons listener_count (stream_sender s) (take i (map stream_sender streams ++ flows)),
      ap (λ (sums : List ℕ). length sums) (flat_map-cons (sums_of rows) s (take i streams)),
      length-append (sums_of rows s) (flat_map (sums_of rows) (take i streams)),
      length-map (routes_of s.ports s.branches) (bound_on rows s),
      listeners_before rows streams flows i (omega (arith, within)),
    )

pub sum_at_place : (network : DeclaredNetwork) (rows : List Row) (sender listener : ℕ) (stream : DeclaredStream)
    → sender < length network.streams → get_or network.streams sender no_stream ≡ stream
    → listener < listener_count (stream_sender stream)
    → get_or (sums_for network rows) (place_of network sender listener) 0
    ≡ bound_on rows stream (route_to (stream_sender stream) listener)
sum_at_place network rows sender listener stream inside is listed =
    let sums : List ℕ = sums_for network rows in
    let many = length-map (routes_of stream.ports stream.branches) (bound_on rows stream) in
    ap (λ (n : ℕ). get_or sums (n + listener) 0)
    (listeners_before rows network.streams (map flow_sender network.flows) sender (omega (arith, inside)))
    ∙ get_or-flat_map (sums_of rows) network.streams sender listener no_stream 0 inside
    (subst (λ (s : DeclaredStream). listener < length (sums_of rows s)) (sym is) (omega (arith, many, listed)))
    ∙ ap (λ (s : DeclaredStream). get_or (sums_of rows s) listener 0) is
    ∙ sum-at rows stream listener (omega (arith, listed, routes-length stream.ports stream.branches))

-- which is in front of the end of the sums
pub place_within : (network : DeclaredNetwork) (rows : List Row) (sender listener : ℕ) (stream : DeclaredStream)
    → sender < length network.streams → slice_get network.streams sender ≡ Some stream
    → listener < listener_count (stream_sender stream)
    → place_of network sender listener < length (sums_for network rows)
place_within network rows sender listener stream inside named listed =
    let long : length (senders_of network)
    ≡ length (map stream_sender network.streams) + length (map flow_sender network.flows) =
    length-append (map stream_sender network.streams) (map flow_sender network.flows) in
    let there : listener < listener_count (sender_at network sender) =
    subst (λ (s : Sender). listener < listener_count s) (sym (sender_of_stream network sender stream named)) listed in
    let ends : first_of network (length network.streams) ≡ length (sums_for network rows) =
    listeners_before rows network.streams (map flow_sender network.flows) (length network.streams) (omega arith)
    ∙ ap (λ (ss : List DeclaredStream). length (flat_map (sums_of rows) ss))
    (take_all (length network.streams) network.streams (omega arith)) in
    omega (
      arith,
      places_behind network sender listener (length network.streams)
          (omega (arith, inside, long, length-map network.streams stream_sender)) there inside,
      ends,
    )
