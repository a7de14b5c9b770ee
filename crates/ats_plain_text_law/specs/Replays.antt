use Rattle.std.specs.Prelude.{◌≡◌, ◌↔◌, ℕ, ◌-◌, true, List, ◌++◌, length, Option, Some, codes, decimal, slice_get}
use Rattle.std.specs.List.{enumerate_from, flat_map}
use Rattle.ats_num.specs.declared.time.Ps.{Ps}
use Rattle.ats_topology.specs.Topology.{DeclaredTopology}
use Rattle.ats_port_names.specs.PortName.{port_name}
use Rattle.ats_network.specs.Network.{DeclaredNetwork}
use Rattle.ats_group.specs.declared.verdict.Verdict.TheVariants.{Eligible, Late, Size}
use Rattle.ats_trace.specs.HopRecord.{HopRecord}
use Rattle.ats_trace.specs.Journey.{Travel}
use Rattle.ats_replay.specs.Departures.{departures_text, hop_line, journey_text, sent_text}
use Rattle.ats_replay.specs.Totals.{is_late, is_oversize, totals_of}

-- a way ends late, or for its size, where that is the verdict of its last hop
pub record EndsAreCounted : Type 0 where
  pub late : (hops : List HopRecord) → (is_late hops ≡ true)
      ↔ ((last : HopRecord) × (at : Ps) × (slice_get hops (length hops - 1) ≡ Some last) × (last.verdict ≡ Late at))
  pub oversize : (hops : List HopRecord) → (is_oversize hops ≡ true)
      ↔ ((last : HopRecord) × (slice_get hops (length hops - 1) ≡ Some last) × (last.verdict ≡ Size))

-- a hop has a line with its port, the arrival, the verdict with its time, if it has one, and when it was sent
pub record HopsAreWritten : Type 0 where
  pub eligible : (t : DeclaredTopology) (port : ℕ) (came at : Ps) (sent : Option (Ps × Ps))
      → hop_line t (port, record { arrival = came; verdict = Eligible at; sent = sent })
      ≡ codes "hop " ++ port_name t port ++ codes " " ++ decimal came.0 ++ codes " eligible " ++ decimal at.0
      ++ sent_text sent ++ codes "\n"
  pub late : (t : DeclaredTopology) (port : ℕ) (came at : Ps) (sent : Option (Ps × Ps))
      → hop_line t (port, record { arrival = came; verdict = Late at; sent = sent })
      ≡ codes "hop " ++ port_name t port ++ codes " " ++ decimal came.0 ++ codes " late " ++ decimal at.0
      ++ sent_text sent ++ codes "\n"
  pub size : (t : DeclaredTopology) (port : ℕ) (came : Ps) (sent : Option (Ps × Ps))
      → hop_line t (port, record { arrival = came; verdict = Size; sent = sent })
      ≡ codes "hop " ++ port_name t port ++ codes " " ++ decimal came.0 ++ codes " size" ++ sent_text sent
      ++ codes "\n"

-- `replay` prints the frames by number, and how many there were and how their ways ended
pub record ReplayIsWritten : Type 0 where
  pub ends : EndsAreCounted
  pub hops : HopsAreWritten
  pub all : (network : DeclaredNetwork) (run : List Travel) → departures_text network run
      ≡ flat_map (journey_text network) (enumerate_from 0 run)
      ++ codes "total frames " ++ decimal (totals_of network run).frames
      ++ codes " sunk " ++ decimal (totals_of network run).sunk
      ++ codes " late " ++ decimal (totals_of network run).late
      ++ codes " size " ++ decimal (totals_of network run).size ++ codes "\n"
