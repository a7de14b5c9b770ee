use Rattle.std.specs.Prelude.{ℕ, ◌<◌, ◌≤◌, List, length, map, sum_by, All}
use Rattle.std.specs.List.Sorted.{IsNonDecreasing}
use Rattle.ats_num.specs.Wire.{IsFrameSize}
use Rattle.ats_network.specs.Network.{DeclaredNetwork, senders_of}
use Rattle.ats_network.specs.Senders.{sender_at}
use Rattle.ats_trace.specs.declared.journey.Release.{Release}
use Rattle.ats_trace.specs.declared.run.TheConstants.{MAX_FRAMES, MAX_HOPS, MAX_RELEASE_PS}

-- a release that may be run on a network: of one of its senders, with the octets of a frame, and within the greatest
-- time
pub record IsRelease (network : DeclaredNetwork) (r : Release) : Type 0 where
  pub time : r.at.0 ≤ MAX_RELEASE_PS
  pub sender : r.sender < length (senders_of network)
  pub octets : IsFrameSize r.octets

-- the ports of their frames, counted together, where a frame has those of its sender
abbrev pub ports_of_frames : DeclaredNetwork → List Release → ℕ
ports_of_frames network releases =
    sum_by (λ (r : Release). length (sender_at network r.sender).ports) releases

-- are not more than those of a run may be
abbrev pub HaveFewPorts : DeclaredNetwork → List Release → Type 0
HaveFewPorts network releases = ports_of_frames network releases ≤ MAX_HOPS

-- releases that may be run on a network: not more than a run may have, and in the order of their times
pub record AreReleases (network : DeclaredNetwork) (releases : List Release) : Type 0 where
  pub few : length releases ≤ MAX_FRAMES
  pub in_order : IsNonDecreasing (map (λ (r : Release). r.at.0) releases)
  pub each : All (IsRelease network) releases
