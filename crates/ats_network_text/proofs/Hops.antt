-- How many ports a stream has, what its rates are where clocks are ideal, and its lines.
use Rattle.std.proofs.Common.{◌≡◌, ℕ, ◌+◌, ◌<◌, ◌≤◌, ◌&&◌, Option, None, Some, length, map, true, refl, slice_index_or}
use Rattle.std.proofs.Common.{ap, ◌∙◌, arith}
use Rattle.std.proofs.Common.{List, ◌++◌, get_or, append_assoc, length-append}
use Rattle.std.specs.List.{list_all}
use Rattle.std.specs.Option.{option_map}
use Rattle.std.proofs.lemmas.Bool.{eq-eqb}
use Rattle.std.proofs.lemmas.List.{get_or_default, length-map}
use Rattle.std.proofs.lemmas.List.Sums.{list_all-from_AllPass}
use Rattle.ats_clock.specs.Rates.{committed}
use Rattle.ats_topology.specs.Topology.{DeclaredTopology, HasIdealClocks}
use Rattle.ats_topology.specs.Walks.{ArePorts}
use Rattle.ats_streams.specs.Stream.{DeclaredStream}
use Rattle.ats_network.specs.Class.{port_before}
use Rattle.ats_network.specs.Edits.{no_stream}
use Rattle.ats_network.specs.Network.{DeclaredNetwork, IsNetwork}
use Rattle.ats_network.specs.Rates.{committed_at, scheduled_at}
use Rattle.ats_network.specs.Sender.{Sender, flow_sender, stream_sender}
use Rattle.ats_network.specs.Senders.{sender_at}
use Rattle.ats_network.proofs.RateLemmas.{ideal_clocks_keep_rates}
use Rattle.ats_settings.proofs.Behind.{looked_up}
use Rattle.ats_settings.proofs.BeforeLemmas.{few_ports}
use Rattle.ats_network_text.specs.Text.{are_declared, hop_is_declared, is_declared, rates_line, stream_lines}
use Rattle.ats_network_text.specs.Text.{stream_text}
use Rattle.ats_network_text.proofs.PortsOf.{ports_of_streams}

-- a stream has few ports
pub few_hops : (network : DeclaredNetwork) (stream : ℕ) → IsNetwork network → stream < length network.streams
    → length (sender_at network stream).ports ≤ 65536
few_hops network stream is within = few_ports network stream is (omega (
  arith,
  within,
  length-append (map stream_sender network.streams) (map flow_sender network.flows),
  length-map network.streams stream_sender,
))

stream_read : (network : DeclaredNetwork) (listed : List DeclaredStream) (n : ℕ) (s : DeclaredStream)
    → listed ≡ network.streams → s ≡ get_or listed n s → n < length network.streams
    → s ≡ get_or network.streams n no_stream
stream_read network listed n s all is within =
    is ∙ ap (λ (l : List DeclaredStream). get_or l n s) all ∙ get_or_default network.streams n s no_stream within

own_is_declared : (s : Sender) → is_declared s (committed s.rate s.burst_bits) ≡ true
own_is_declared s = rw (eq-eqb s.rate s.rate refl, eq-eqb s.burst_bits s.burst_bits refl) refl

-- where clocks are ideal, all is as the sender declares
pub ideal_is_declared : (topology : DeclaredTopology) (s : Sender) → HasIdealClocks topology
    → list_all (hop_is_declared topology s) s.ports ≡ true
ideal_is_declared topology s each =
    list_all-from_AllPass (hop_is_declared topology s) s.ports
    (λ k d within. at (slice_index_or s.ports k d) (port_before s (slice_index_or s.ports k d)))
  where
    seen : (port : ℕ) → is_declared s (committed_at topology port s) ≡ true
    seen port =
        ap (is_declared s) (ideal_clocks_keep_rates topology s port each).seen ∙ own_is_declared s

    at : (port : ℕ) (before : Option ℕ)
        → are_declared s (option_map (λ b. scheduled_at topology b s) before) (committed_at topology port s) ≡ true
    at port None = seen port
    at port (Some before) =
        ap (λ t. t && is_declared s (committed_at topology port s))
        (ap (is_declared s) (ideal_clocks_keep_rates topology s before each).scheduled ∙ own_is_declared s)
        ∙ seen port

-- the lines of a stream that was looked up, and behind them that of its rates
pub stream_written : (network : DeclaredNetwork) (shape : DeclaredTopology) (listed : List DeclaredStream) (n : ℕ)
    (s : DeclaredStream) (before middle after : List ℕ)
    → shape ≡ network.topology → listed ≡ network.streams → s ≡ get_or listed n s → n < length network.streams
    → middle ≡ before ++ stream_lines shape s
    → after ≡ middle ++ rates_line network.topology (sender_at network n)
    → after ≡ before ++ stream_text network.topology (get_or network.streams n no_stream)
stream_written network shape listed n s before middle after same all is within lines line =
    let read : s ≡ get_or network.streams n no_stream = stream_read network listed n s all is within in
    line ∙ ap (λ (t : Sender). middle ++ rates_line network.topology t) (looked_up network listed n s all within is)
    ∙ ap (λ (t : List ℕ). t ++ rates_line network.topology (stream_sender s))
    (lines ∙ ap (λ (t : DeclaredTopology). before ++ stream_lines t s) same)
    ∙ append_assoc before (stream_lines network.topology s) (rates_line network.topology (stream_sender s))
    ∙ ap (λ (t : DeclaredStream). before ++ stream_text network.topology t) read

-- its ports are ports of the topology
pub ports_are : (network : DeclaredNetwork) (shape : DeclaredTopology) (listed : List DeclaredStream) (n : ℕ)
    (s : DeclaredStream) → IsNetwork network → shape ≡ network.topology → listed ≡ network.streams
    → s ≡ get_or listed n s → n < length network.streams → ArePorts shape.ports s.ports
ports_are network shape listed n s is same all found within =
    rw (same, stream_read network listed n s all found within) (ports_of_streams network is n no_stream within)
