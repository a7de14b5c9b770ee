use Rattle.std.specs.Prelude.{◌≡◌, ℕ, ◌<◌, List, [], ◌++◌, length, codes, decimal, Option, Some, None}
use Rattle.std.specs.List.{flat_map, zip}
use Rattle.ats_streams.specs.Branches.{legs_of}
use Rattle.ats_streams.specs.Stream.{DeclaredStream}
use Rattle.ats_topology.specs.Topology.{DeclaredTopology, HasIdealClocks}
use Rattle.ats_network.specs.Listeners.{Listener, listener_text, listeners_of}
use Rattle.ats_network.specs.Network.{DeclaredNetwork}
use Rattle.ats_network.specs.Rates.{committed_at}
use Rattle.ats_network.specs.Sender.{stream_sender}
use Rattle.ats_network.specs.Senders.{sender_at}
use Rattle.ats_settings.specs.Settings.{LeavesBridge, port_at_place, setting_at}
use Rattle.ats_settings.specs.declared.setting.Shaping.{Shaping}
use Rattle.ats_network_text.specs.Text.{committed_text, hop_text, rates_line, sender_line, stream_lines, stream_text}

-- the word in front of a listener: the first stands for the stream
abbrev pub word_of : Option (List ℕ) → List ℕ
word_of None = codes "stream"
word_of (Some station) = codes "listener"

-- the line of a listener and the classes at the ports of its leg: the word, how each text names it, the classes, and
-- the ports
abbrev pub line_of : DeclaredTopology → DeclaredStream → Listener × List ℕ → List ℕ
line_of topology s one =
    sender_line topology (word_of one.0.name) (listener_text s.name one.0.name) one.1 one.0.leg

-- the lines of a stream are those of its listeners, one by one
abbrev pub ShowTellsEachListener : Type 0
ShowTellsEachListener = (topology : DeclaredTopology) (s : DeclaredStream)
    → stream_lines topology s
    ≡ flat_map (line_of topology s) (zip (listeners_of topology s) (legs_of s.classes s.branches))

-- where all nodes go by the ideal clock, nothing else is printed of a stream
abbrev pub IdealClocksShowNoRates : Type 0
IdealClocksShowNoRates = (topology : DeclaredTopology) (s : DeclaredStream) → HasIdealClocks topology
    → stream_text topology s ≡ stream_lines topology s

-- else the line of its rates may stand behind them
abbrev pub ShowTellsRatesBehind : Type 0
ShowTellsRatesBehind = (topology : DeclaredTopology) (s : DeclaredStream)
    → stream_text topology s
    ≡ flat_map (line_of topology s) (zip (listeners_of topology s) (legs_of s.classes s.branches))
    ++ rates_line topology (stream_sender s)

-- `RATE:BURST` of the scheduler of a setting, with a space before
abbrev pub shaping_text : Option Shaping → List ℕ
shaping_text None = []
shaping_text (Some shaping) = codes " " ++ decimal shaping.rate_bps ++ codes ":" ++ decimal shaping.burst_bits

-- there, of each port that leaves a bridge to which the stream's frames come, are the rate and the burst that this
-- bridge is told, and those that the port sees
abbrev pub RatesTellSettings : Type 0
RatesTellSettings = (network : DeclaredNetwork) (stream place : ℕ) → stream < length network.streams
    → LeavesBridge network stream place
    → hop_text network.topology (sender_at network stream) (port_at_place network stream place)
    ≡ shaping_text (setting_at network stream place).scheduler
    ++ committed_text (committed_at network.topology (port_at_place network stream place) (sender_at network stream))

pub record ShowTellsRates : Type 0 where
  pub ideal : IdealClocksShowNoRates
  pub behind : ShowTellsRatesBehind
  pub settings : RatesTellSettings
