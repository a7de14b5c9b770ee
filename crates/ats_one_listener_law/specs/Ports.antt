use Rattle.std.specs.Prelude.{◌≡◌, List}
use Rattle.ats_streams.specs.declared.path.TheConstants.{MAX_SHORT_PORTS}
use Rattle.ats_network.specs.Network.{DeclaredNetwork, HasOneListener, IsNetwork}
use Rattle.ats_trace.specs.Releases.{AreReleases, HaveFewPorts}
use Rattle.ats_trace.specs.declared.journey.Release.{Release}

-- Where no stream has a branch, and routes are short, no run has too many ports.

-- releases that may be run on a network by themselves have few enough ports together
abbrev pub OneListenerHasFewPorts : Type 0
OneListenerHasFewPorts = (network : DeclaredNetwork) (releases : List Release) → IsNetwork network
    → HasOneListener network → network.most_ports ≡ MAX_SHORT_PORTS → AreReleases network releases
    → HaveFewPorts network releases
