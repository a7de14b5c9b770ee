use Rattle.std.specs.Prelude.{◌≡◌, ℕ, ◌<◌, List, ◌++◌, length, All, Option}
use Rattle.ats_streams.specs.Stream.{DeclaredStream}
use Rattle.ats_topology.specs.Topology.{DeclaredTopology}
use Rattle.ats_network.specs.Network.{DeclaredNetwork, IsNetwork, senders_of}
use Rattle.ats_network.specs.Senders.{sender_at}
use Rattle.ats_network.specs.Listeners.{Listener, listeners_of}
use Rattle.ats_network.specs.Sender.{stream_sender}
use Rattle.ats_certificate.specs.Certificate.{bound_of_hop, bound_on}
use Rattle.ats_certificate.specs.declared.row.Row.{Row}
use Rattle.ats_trace.specs.Journey.{Travel, IsJourney}
use Rattle.ats_trace.specs.Ways.{listener_count}
use Rattle.ats_replay.specs.Departures.{departures_text}
use Rattle.ats_replay.specs.Report.{bound_of, report_text}
use Rattle.ats_replay.specs.Summary.{summary_for}
use Rattle.ats_verdict_text.specs.Text.{accepted_text}
use Rattle.ats_text_law.specs.Short.{AreShort, HasNames, HasShortBounds, HasShortNumbers, HasShortTimes}

-- the frames of a run over a network, each with a journey of it, whose times a text can hold
pub record IsPrintable (network : DeclaredNetwork) (run : List Travel) : Type 0 where
  pub journeys : All (IsJourney network) run
  pub times : All HasShortTimes run

-- two runs, and what stands behind their texts, are the same
pub record AreTheSame (run other : List Travel) (behind beyond : List ℕ) : Type 0 where
  pub runs : run ≡ other
  pub rests : behind ≡ beyond

-- over one network, the texts of two runs, with anything behind them, are the same only where the runs are
abbrev pub DeparturesTellAll : Type 0
DeparturesTellAll = (network : DeclaredNetwork) → IsNetwork network → HasNames network
    → (run other : List Travel) → IsPrintable network run → IsPrintable network other
    → (behind beyond : List ℕ)
    → departures_text network run ++ behind ≡ departures_text network other ++ beyond
    → AreTheSame run other behind beyond

-- what came of the frames of each sender of a run for each of its listeners, with sums beside it, has numbers that a
-- text can hold
pub record IsReportable (network : DeclaredNetwork) (run : List Travel) (sums : Option (List ℕ)) : Type 0 where
  pub summaries : (sender listener : ℕ) → sender < length (senders_of network)
      → listener < listener_count (sender_at network sender)
      → HasShortNumbers (summary_for network run sender listener)
  pub bounds : AreShort sums

-- two reports say the same for a listener of a sender: what came of the frames, the longest time that one took among
-- it, and the bound
pub record SaysTheSame (network : DeclaredNetwork) (run other : List Travel) (sums others : Option (List ℕ))
    (sender listener : ℕ) : Type 0 where
  pub summary : summary_for network run sender listener ≡ summary_for network other sender listener
  pub bound : bound_of network sums sender listener ≡ bound_of network others sender listener

-- so for each
abbrev pub ReportTheSame : DeclaredNetwork → List Travel → List Travel → Option (List ℕ) → Option (List ℕ) → Type 0
ReportTheSame network run other sums others =
    (sender listener : ℕ) → sender < length (senders_of network)
    → listener < listener_count (sender_at network sender)
    → SaysTheSame network run other sums others sender listener

-- over one network, two reports are the same only where they say the same for each listener of each sender
abbrev pub ReportTellsAll : Type 0
ReportTellsAll = (network : DeclaredNetwork) (run other : List Travel) (sums others : Option (List ℕ))
    → IsReportable network run sums → IsReportable network other others
    → report_text network run sums ≡ report_text network other others → ReportTheSame network run other sums others

-- by the rows of two certificates a stream has the same bound at each port of a listener's leg, and the same sum along
-- the route there
pub record LinesTheSame (rows others : List Row) (s : DeclaredStream) (listener : Listener) : Type 0 where
  pub bounds : All (λ port. bound_of_hop rows (stream_sender s) port ≡ bound_of_hop others (stream_sender s) port)
      listener.leg
  pub sum : bound_on rows s listener.route ≡ bound_on others s listener.route

-- so for each of its listeners
abbrev pub BoundTheSame : DeclaredTopology → List Row → List Row → DeclaredStream → Type 0
BoundTheSame topology rows others s = All (LinesTheSame rows others s) (listeners_of topology s)

-- what is printed of two accepted certificates of a network is the same only where each stream has the same bounds and
-- for each of its listeners the same sum by both
abbrev pub AcceptedTellsAll : Type 0
AcceptedTellsAll = (network : DeclaredNetwork) (rows others : List Row)
    → All (HasShortBounds network.topology rows) network.streams
    → All (HasShortBounds network.topology others) network.streams
    → accepted_text network rows ≡ accepted_text network others
    → All (BoundTheSame network.topology rows others) network.streams
