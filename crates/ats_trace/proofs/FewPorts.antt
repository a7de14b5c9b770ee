-- Runs of networks of short routes in which each stream has one listener have few ports.
use Rattle.std.proofs.Common.{◌≡◌, ◌≤◌, List, length, arith}
use Rattle.std.specs.List.{All}
use Rattle.std.proofs.lemmas.List.Sums.{sum_by-le}
use Rattle.ats_streams.specs.declared.path.TheConstants.{MAX_SHORT_PORTS}
use Rattle.ats_network.specs.Network.{DeclaredNetwork, HasOneListener, IsNetwork}
use Rattle.ats_network.specs.Senders.{sender_at}
use Rattle.ats_network.proofs.SenderLemmas.{sender_short}
use Rattle.ats_trace.specs.Releases.{AreReleases, HaveFewPorts}
use Rattle.ats_trace.specs.declared.journey.Release.{Release}

-- a frame has at most 16 ports then
pub few_ports : (network : DeclaredNetwork) (releases : List Release) → IsNetwork network → HasOneListener network
    → network.most_ports ≡ MAX_SHORT_PORTS → AreReleases network releases → HaveFewPorts network releases
few_ports network releases rules alone short are =
    let each : All (λ (r : Release). length (sender_at network r.sender).ports ≤ 16) releases =
    λ i d within. omega (arith, sender_short network _ rules alone (are.each i d within).sender, short) in
    omega (arith, sum_by-le (λ (r : Release). length (sender_at network r.sender).ports) 16 releases each, are.few)
