use Rattle.std.specs.Prelude.{◌≡◌, ◌↔◌, ◌<◌, All, List, Option, length, ℕ}
use Rattle.ats_streams.specs.Stream.{DeclaredStream}
use Rattle.ats_topology.specs.Topology.{DeclaredTopology}
use Rattle.ats_network.specs.Listeners.{Listener, listeners_of}
use Rattle.ats_network.specs.Network.{DeclaredNetwork, senders_of}
use Rattle.ats_network.specs.Sender.{stream_sender}
use Rattle.ats_network.specs.Senders.{sender_at}
use Rattle.ats_trace.specs.Journey.{Travel}
use Rattle.ats_trace.specs.Ways.{listener_count}
use Rattle.ats_certificate.specs.Certificate.{bound_of_hop, bound_on}
use Rattle.ats_certificate.specs.declared.row.Row.{Row}
use Rattle.ats_explain.specs.Margins.{margin_on}
use Rattle.ats_explain.specs.Parts.{parts_of_hop}
use Rattle.ats_explain.specs.declared.parts.Parts.{Parts}
use Rattle.ats_replay.specs.Report.{bound_of}
use Rattle.ats_replay.specs.Summary.{summary_for}
use Rattle.ats_explain_text.specs.Text.{sender_text}
use Rattle.ats_text_law.specs.Explained.{ExplainedTheSame, HopTheSame, LegTheSame, PartsTheSame, class_of}
use Rattle.ats_text_law.specs.Laws.{AreTheSame, BoundTheSame, LinesTheSame, ReportTheSame, SaysTheSame}

-- What is the same where two texts are, both ways: each part is written out, and there are no others.

-- two runs, and what two reports and two lists of bounds say for a listener
pub record PartsAreTheSame : Type 0 where
  pub runs : (run other : List Travel) (behind beyond : List ℕ)
      → AreTheSame run other behind beyond
      ↔ ((run ≡ other) × (behind ≡ beyond))
  pub reports : (network : DeclaredNetwork) (run other : List Travel) (sums others : Option (List ℕ))
      (sender listener : ℕ)
      → SaysTheSame network run other sums others sender listener
      ↔ ((summary_for network run sender listener ≡ summary_for network other sender listener)
      × (bound_of network sums sender listener ≡ bound_of network others sender listener))
  pub lines : (rows others : List Row) (s : DeclaredStream) (listener : Listener)
      → LinesTheSame rows others s listener
      ↔ (All (λ port. bound_of_hop rows (stream_sender s) port ≡ bound_of_hop others (stream_sender s) port)
      listener.leg
      × (bound_on rows s listener.route ≡ bound_on others s listener.route))

-- what two explanations say of a bound, of a hop and of a listener
pub record HopsAreTheSame : Type 0 where
  pub parts : (parts others : Parts)
      → PartsTheSame parts others
      ↔ ((parts.lower ≡ others.lower) × (sender_text parts.sender ≡ sender_text others.sender)
      × (parts.bursts ≡ others.bursts) × (parts.higher ≡ others.higher) × (parts.frame ≡ others.frame)
      × (parts.latency ≡ others.latency) × (parts.bound ≡ others.bound) × (parts.stay ≡ others.stay))
  pub hops : (network other : DeclaredNetwork) (stream twin : DeclaredStream) (port : ℕ)
      → HopTheSame network other stream twin port
      ↔ ((class_of stream port ≡ class_of twin port)
      × PartsTheSame (parts_of_hop network stream port) (parts_of_hop other twin port))
  pub legs : (network other : DeclaredNetwork) (stream twin : DeclaredStream) (listener : Listener)
      → LegTheSame network other stream twin listener
      ↔ ((margin_on network stream listener.route ≡ margin_on other twin listener.route)
      × All (HopTheSame network other stream twin) listener.leg)

-- so for each listener of each sender, and for each of a stream
pub record WholesAreTheSame : Type 0 where
  pub reports : (network : DeclaredNetwork) (run other : List Travel) (sums others : Option (List ℕ))
      → ReportTheSame network run other sums others
      ↔ ((sender listener : ℕ) → sender < length (senders_of network)
      → listener < listener_count (sender_at network sender)
      → SaysTheSame network run other sums others sender listener)
  pub bounds : (topology : DeclaredTopology) (rows others : List Row) (s : DeclaredStream)
      → BoundTheSame topology rows others s
      ↔ All (LinesTheSame rows others s) (listeners_of topology s)
  pub explained : (network other : DeclaredNetwork) (stream twin : DeclaredStream)
      → ExplainedTheSame network other stream twin
      ↔ All (LegTheSame network other stream twin) (listeners_of network.topology stream)

-- of all of these
pub record SameTextsAreMeant : Type 0 where
  pub parts : PartsAreTheSame
  pub hops : HopsAreTheSame
  pub wholes : WholesAreTheSame
