use Rattle.std.specs.Prelude.{◌≡◌, ℕ, List, ◌++◌, codes, Some, None, Ok, Err}
use Rattle.ats_topology.specs.Topology.{DeclaredTopology, station_named}
use Rattle.ats_port_names.specs.PortName.{port_named}
use Rattle.ats_streams.specs.Stream.{DeclaredStream}
use Rattle.ats_command_input.specs.Port.{port_in}
use Rattle.ats_command_input.specs.Station.{station_in}
use Rattle.ats_command_input.specs.Stream.{stream_in, stream_named}
use Rattle.ats_plain_answer_law.specs.Lines.{refused_for}

-- a word of a call stands for the station, the port or the stream with this name; where none has it, the call is
-- refused with the line `refused station WORD`, and so on
pub record NamesAreAnswered : Type 0 where
  pub station : (topology : DeclaredTopology) (word : List ℕ) (place : ℕ) → station_named topology word ≡ Some place
      → station_in topology word ≡ Ok place
  pub no_station : (topology : DeclaredTopology) (word : List ℕ) → station_named topology word ≡ None
      → station_in topology word ≡ Err (refused_for (codes "station " ++ word))
  pub port : (topology : DeclaredTopology) (word : List ℕ) (place : ℕ) → port_named topology word ≡ Some place
      → port_in topology word ≡ Ok place
  pub no_port : (topology : DeclaredTopology) (word : List ℕ) → port_named topology word ≡ None
      → port_in topology word ≡ Err (refused_for (codes "port " ++ word))
  pub stream : (streams : List DeclaredStream) (word : List ℕ) (place : ℕ) → stream_named streams word ≡ Some place
      → stream_in streams word ≡ Ok place
  pub no_stream : (streams : List DeclaredStream) (word : List ℕ) → stream_named streams word ≡ None
      → stream_in streams word ≡ Err (refused_for (codes "stream " ++ word))
