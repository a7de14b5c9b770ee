use Rattle.std.specs.Prelude.{◌≡◌, ℕ, ◌==◌, ◌&&◌, List, [], ◌∷◌, ◌++◌, length, map, codes, decimal}
use Rattle.std.specs.Prelude.{Some, None, if◌then◌else◌}
use Rattle.std.specs.List.{enumerate_from, flat_map}
use Rattle.std.specs.Option.{option_map}
use Rattle.ats_clock.specs.declared.committed.Committed.{Committed}
use Rattle.ats_topology.specs.Topology.{DeclaredTopology}
use Rattle.ats_topology.specs.declared.port.Port.{Port}
use Rattle.ats_streams.specs.Branches.{leg_at, legs_of, routes_of}
use Rattle.ats_streams.specs.Stream.{DeclaredStream}
use Rattle.ats_streams.specs.declared.branch.Branch.{Branch}
use Rattle.ats_network.specs.Class.{class_at, port_before}
use Rattle.ats_network.specs.Network.{DeclaredNetwork}
use Rattle.ats_network.specs.Rates.{committed_at, scheduled_at}
use Rattle.ats_network.specs.Sender.{Sender, stream_sender}
use Rattle.ats_network.specs.Listeners.{Listener, listener_text, listeners_of, station_of}
use Rattle.ats_port_names.specs.PortName.{port_name}
use Rattle.ats_network_text.specs.Text as show
use Rattle.ats_csv.specs.Plain.{record_text, text_of}
use Rattle.ats_certificate.specs.Certificate.{bound_of_hop, bound_on}
use Rattle.ats_certificate.specs.declared.row.Row.{Row}
use Rattle.ats_certificate_file.specs.Text.{certificate_text}
use Rattle.ats_verdict_text.specs.Text as verdict
use Rattle.ats_explain.specs.Loads.{has_stream, port_load}
use Rattle.ats_explain.specs.Margins.{margin_on}
use Rattle.ats_explain.specs.Parts.{parts_of_hop}
use Rattle.ats_explain.specs.Totals.{totals_of}
use Rattle.ats_explain.specs.declared.totals.Tightest.{Tightest}
use Rattle.ats_explain_text.specs.Text as explain

-- The texts that are printed of networks, line after line, beside the lines of `Lines.antt`: written out for all
-- networks.

-- which rates and bursts a line of rates gives: at each hop what a scheduler before it has and what the hop sees, and
-- nothing of the first hop where this is as declared
pub record RatesAreTold : Type 0 where
  pub declared : (s : Sender) (c : Committed) → show.is_declared s c
      ≡ (c.rate == s.rate && c.burst_bits == s.burst_bits)
  pub first_declared : (s : Sender) (seen : Committed) → show.are_declared s None seen ≡ show.is_declared s seen
  pub later_declared : (s : Sender) (scheduled seen : Committed) → show.are_declared s (Some scheduled) seen
      ≡ (show.is_declared s scheduled && show.is_declared s seen)
  pub hop_declared : (topology : DeclaredTopology) (s : Sender) (port : ℕ) → show.hop_is_declared topology s port
      ≡ show.are_declared s (option_map (λ before. scheduled_at topology before s) (port_before s port))
      (committed_at topology port s)
  pub hop : (topology : DeclaredTopology) (s : Sender) (port : ℕ) → show.hop_text topology s port
      ≡ show.rates_text s (option_map (λ before. scheduled_at topology before s) (port_before s port))
      (committed_at topology port s)
  pub first_rates : (s : Sender) (seen : Committed) → show.rates_text s None seen
      ≡ (if show.is_declared s seen then []
      else (codes " " ++ decimal seen.rate ++ codes ":" ++ decimal seen.burst_bits))
  pub later_rates : (s : Sender) (scheduled seen : Committed) → show.rates_text s (Some scheduled) seen
      ≡ (codes " " ++ decimal scheduled.rate ++ codes ":" ++ decimal scheduled.burst_bits)
      ++ (codes " " ++ decimal seen.rate ++ codes ":" ++ decimal seen.burst_bits)

-- records in plain text, as of a certificate; the line of what is refused; and the last words of `explain`
pub record TablesAreTold : Type 0 where
  pub table : (records : List (List (List ℕ))) → text_of records ≡ flat_map record_text records
  pub certificate : (topology : DeclaredTopology) (rows : List Row) → certificate_text topology rows
      ≡ text_of ((codes "port" ∷ codes "class" ∷ codes "higher" ∷ codes "equal" ∷ codes "bursts" ∷ codes "lower"
      ∷ codes "least" ∷ codes "wait" ∷ codes "bound" ∷ [])
      ∷ map (λ (r : Row). port_name topology r.port ∷ decimal r.class ∷ decimal r.higher ∷ decimal r.equal
      ∷ decimal r.bursts ∷ decimal r.lower ∷ decimal r.least ∷ decimal r.wait ∷ decimal r.bound ∷ []) rows)
  pub refused : (why : List ℕ) → verdict.refused_text why ≡ codes "refused " ++ why ++ codes "\n"
  pub none_tightest : explain.tightest_text None ≡ []
  pub tightest : (t : Tightest) → explain.tightest_text (Some t)
      ≡ codes " tightest " ++ listener_text t.name t.listener ++ explain.slack_text t.margin

-- what `show` prints of a stream, listener by listener, and of a network
pub record ShownTexts : Type 0 where
  pub leg : (topology : DeclaredTopology) (word name : List ℕ) (s : DeclaredStream) (leg : ℕ)
      → show.leg_line topology word name s leg
      ≡ show.sender_line topology word name (leg_at (legs_of s.classes s.branches) leg)
      (leg_at (legs_of s.ports s.branches) leg)
  pub first : (topology : DeclaredTopology) (s : DeclaredStream)
      → show.stream_line topology s ≡ show.leg_line topology (codes "stream") s.name s 0
  pub further : (topology : DeclaredTopology) (s : DeclaredStream) (leg : ℕ) → show.listener_line topology s leg
      ≡ show.leg_line topology (codes "listener")
      (s.name ++ codes " " ++ station_of topology (leg_at (routes_of s.ports s.branches) leg)) s leg
  pub stream : (topology : DeclaredTopology) (s : DeclaredStream) → show.stream_text topology s
      ≡ (show.stream_line topology s
      ++ flat_map (λ (b : ℕ × Branch). show.listener_line topology s b.0) (enumerate_from 1 s.branches))
      ++ show.rates_line topology (stream_sender s)
  pub all : (network : DeclaredNetwork) → show.show_text network
      ≡ flat_map (show.port_line network.topology) (enumerate_from 0 network.topology.ports)
      ++ flat_map (show.stream_text network.topology) network.streams
      ++ flat_map (show.flow_line network.topology) network.flows
      ++ show.totals_line (length network.topology.ports) (length network.streams) (length network.flows)

-- what is printed of a certificate that holds, and what `explain` prints
pub record JudgedTexts : Type 0 where
  pub hop : (topology : DeclaredTopology) (rows : List Row) (s : DeclaredStream) (port : ℕ)
      → verdict.hop_line topology rows s port
      ≡ codes "hop " ++ s.name ++ codes " " ++ port_name topology port ++ codes " "
      ++ decimal (bound_of_hop rows (stream_sender s) port) ++ codes "\n"
  pub listener : (topology : DeclaredTopology) (rows : List Row) (s : DeclaredStream) (l : Listener)
      → verdict.listener_lines topology rows s l
      ≡ flat_map (verdict.hop_line topology rows s) l.leg ++ codes "sum " ++ listener_text s.name l.name ++ codes " "
      ++ decimal (bound_on rows s l.route) ++ codes "\n"
  pub accepted : (network : DeclaredNetwork) (rows : List Row) → verdict.accepted_text network rows
      ≡ flat_map (λ s. flat_map (verdict.listener_lines network.topology rows s) (listeners_of network.topology s))
      network.streams
      ++ codes "accepted " ++ decimal (length network.streams) ++ codes "\n"
  pub explained_hop : (network : DeclaredNetwork) (s : DeclaredStream) (port : ℕ) → explain.hop_text network s port
      ≡ explain.hop_line network.topology port (class_at (stream_sender s) port) (parts_of_hop network s port)
  pub explained_listener : (network : DeclaredNetwork) (s : DeclaredStream) (l : Listener)
      → explain.listener_lines network s l
      ≡ explain.stream_line s.name l.name (margin_on network s l.route) ++ flat_map (explain.hop_text network s) l.leg
  pub explained_port : (network : DeclaredNetwork) (n : ℕ) (port : Port) → explain.port_text network (n, port)
      ≡ (if has_stream network n then explain.port_line network.topology n (port_load network n) else [])
  pub explained : (network : DeclaredNetwork) → explain.explain_text network
      ≡ flat_map (λ s. flat_map (explain.listener_lines network s) (listeners_of network.topology s)) network.streams
      ++ flat_map (explain.port_text network) (enumerate_from 0 network.topology.ports)
      ++ explain.totals_line (totals_of network)

pub record NetworkTextsAreTold : Type 0 where
  pub rates : RatesAreTold
  pub tables : TablesAreTold
  pub shown : ShownTexts
  pub judged : JudgedTexts
