use Rattle.std.specs.Prelude.{◌≡◌, ◌≢◌, ◌↔◌, ℕ, List, Some, Ok}
use Rattle.std.specs.List.{AllZip}
use Rattle.ats_io.specs.Text.{lines_of, words_of}
use Rattle.ats_topology.specs.Topology.{DeclaredTopology, station_named}
use Rattle.ats_network.specs.Network.{DeclaredNetwork}
use Rattle.ats_network.specs.Shortest.{shortest_of}
use Rattle.ats_requests.specs.declared.request.Request.{Request}
use Rattle.ats_requests.specs.declared.request.Request.TheVariants.{Admit, Lowest, Withdraw}
use Rattle.ats_words.specs.Words.{word}
use Rattle.ats_request_file.specs.FaultLaw.{asking}
use Rattle.ats_request_file.specs.Reading.{path_in, requests_of}

-- Which path a stream has that is asked for.

-- these are the names of two different stations, and this is the walk of fewest ports from the first to the second
pub record IsLeastBetween (topology : DeclaredTopology) (from to : List ℕ) (path : List ℕ) : Type 0 where
  pub first : ℕ
  pub last : ℕ
  pub begins : station_named topology from ≡ Some first
  pub ends : station_named topology to ≡ Some last
  pub apart : first ≢ last
  pub least : shortest_of topology first last ≡ Some path

-- so is the path of a stream between the stations that the words of its line name
abbrev pub HasLeastPath : DeclaredTopology → List ℕ → Request → Type 0
HasLeastPath topology line (Admit stream) =
    IsLeastBetween topology (word (words_of line) 2) (word (words_of line) 3) stream.ports
HasLeastPath topology line (Lowest stream) =
    IsLeastBetween topology (word (words_of line) 2) (word (words_of line) 3) stream.ports
HasLeastPath topology line (Withdraw name) = Unit {0}

-- words have a path exactly where it is that one; and of the requests that a text makes each has it that asks for a
-- stream, line by line
pub record RequestsGoLeastWays : Type 0 where
  pub path : (topology : DeclaredTopology) (n : ℕ) (words : List (List ℕ)) (path : List ℕ)
      → path_in topology n words ≡ Ok path ↔ IsLeastBetween topology (word words 2) (word words 3) path
  pub each : (network : DeclaredNetwork) (text : List ℕ) (requests : List Request)
      → requests_of network text ≡ Ok requests
      → AllZip (HasLeastPath network.topology) (asking (lines_of text)) requests
