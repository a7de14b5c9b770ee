use Rattle.std.specs.Prelude.{ℕ, ◌+◌, ◌-◌, ◌<◌, ◌≤◌, List, length, Option, Some, None, slice_get}
use Rattle.ats_network.specs.Network.{DeclaredNetwork}
use Rattle.ats_network.specs.Senders.{sender_at}
use Rattle.ats_trace.specs.Releases.{IsRelease, ports_of_frames}
use Rattle.ats_trace.specs.declared.journey.Release.{Release}
use Rattle.ats_trace.specs.declared.run.TheConstants.{MAX_FRAMES, MAX_HOPS}

-- the time of a release, where there is one; else 0
abbrev pub time_of : Option Release → ℕ
time_of None = 0
time_of (Some r) = r.at.0

-- the time of the last release, 0 where there is none
abbrev pub last_time : List Release → ℕ
last_time releases = time_of (slice_get releases (length releases - 1))

-- the ports of the frames with these releases and of one frame more of this sender, counted together
abbrev pub ports_with : DeclaredNetwork → List Release → ℕ → ℕ
ports_with network releases sender = ports_of_frames network releases + length (sender_at network sender).ports

-- one more release may follow these
pub record Follows (network : DeclaredNetwork) (releases : List Release) (r : Release) : Type 0 where
  pub room : length releases < MAX_FRAMES
  pub ports : ports_with network releases r.sender ≤ MAX_HOPS
  pub later : last_time releases ≤ r.at.0
  pub is : IsRelease network r
