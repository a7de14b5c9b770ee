use Rattle.std.specs.Prelude.{◌≡◌, ◌↔◌, ℕ, ◌+◌, ◌≤◌, List, [], ◌∷◌, length, map, slice_index_or}
use Rattle.ats_network.specs.Network.{DeclaredNetwork}
use Rattle.ats_network.specs.Senders.{sender_at}
use Rattle.ats_group.specs.Judge.{ats_judge}
use Rattle.ats_trace.specs.Journey.{Travel}
use Rattle.ats_trace.specs.Releases.{HaveFewPorts, ports_of_frames}
use Rattle.ats_trace.specs.Run.{HasReleases, IsIdeal, IsLegalBy, releases_of}
use Rattle.ats_trace.specs.Stored.{travel_at}
use Rattle.ats_trace.specs.declared.journey.Ending.TheVariants.{Discard}
use Rattle.ats_trace.specs.declared.journey.Release.{Release}

-- the releases of a run are those of its frames, in their order, and it has releases where it has these and no others;
-- a number without a frame stands for one that was discarded without a record
pub record FramesOfRunsAreTraced : Type 0 where
  pub releases : (run : List Travel) → releases_of run ≡ map (λ (j : Travel). j.release) run
  pub has : (releases : List Release) (run : List Travel) → HasReleases releases run
      ↔ (map (λ (j : Travel). j.release) run ≡ releases)
  pub frame : (run : List Travel) (frame : ℕ) → travel_at run frame
      ≡ slice_index_or run frame (record {
        release = record { at = record { 0 = 0 }; sender = 0; octets = 0 };
        hops = [];
        ending = Discard;
        copies = [];
      })

-- each release has the ports of its sender, those of its branches too, and they are counted together: in whatever order
-- the releases stand, a run may have 3,200,000
pub record PortsOfFramesAreTraced : Type 0 where
  pub none : (network : DeclaredNetwork) → ports_of_frames network [] ≡ 0
  pub more : (network : DeclaredNetwork) (r : Release) (releases : List Release)
      → ports_of_frames network (r ∷ releases)
      ≡ length (sender_at network r.sender).ports + ports_of_frames network releases
  pub few : (network : DeclaredNetwork) (releases : List Release) → HaveFewPorts network releases
      ↔ (ports_of_frames network releases ≤ 3200000)

-- a run by true time is ideal where it is legal with groups that judge as those of Asynchronous Traffic Shaping do
abbrev pub IdealIsTraced : Type 0
IdealIsTraced = (network : DeclaredNetwork) (run : List Travel) → IsIdeal network run ↔ IsLegalBy ats_judge network run

pub record ReleasesAreTraced : Type 0 where
  pub frames : FramesOfRunsAreTraced
  pub ports : PortsOfFramesAreTraced
  pub ideal : IdealIsTraced
