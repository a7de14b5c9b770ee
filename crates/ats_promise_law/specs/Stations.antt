use Rattle.std.specs.Prelude.{List}
use Rattle.ats_network.specs.Network.{DeclaredNetwork, IsNetwork}
use Rattle.ats_network_file.specs.Stations.{JoinStations}
use Rattle.ats_certificate.specs.declared.row.Row.{Row}
use Rattle.ats_soundness_law.specs.Runs.{Runs}
use Rattle.ats_soundness_law.specs.Sound.{BeginAtStations, IsSoundFromStations}
use Rattle.ats_checker.specs.InTime.{FramesAreInTimeFromStations}

-- a network each of whose routes leads from a station to a station has no bridge with frames of its own
abbrev pub JoinedBeginAtStations : Type 0
JoinedBeginAtStations = (network : DeclaredNetwork) → IsNetwork network → JoinStations network
    → BeginAtStations network

-- these rows are sound, and frames are in time by them, in these runs, where talkers keep what is asked of them;
-- nothing is asked of bridges
pub record TalkersAreEnough (runs : Runs) (network : DeclaredNetwork) (rows : List Row) : Type 0 where
  pub sound : IsSoundFromStations runs network rows
  pub in_time : FramesAreInTimeFromStations runs network rows
