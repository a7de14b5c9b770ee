use Rattle.std.specs.Prelude.{◌≡◌, ℕ, ◌+◌, ◌*◌, ◌<◌, ◌≤◌, List, length, map, All, AllPairs}
use Rattle.std.specs.List.Sorted.{IsNonDecreasing}
use Rattle.ats_num.specs.Wire.{IsFrameSize}
use Rattle.ats_topology.specs.Port.{port_at}
use Rattle.ats_network.specs.Network.{DeclaredNetwork, senders_of}
use Rattle.ats_network.specs.Senders.{sender_at}
use Rattle.ats_port_rule.specs.Transmission.{Transmission}
use Rattle.ats_port_rule.specs.PortRule.{AreApart, IsAhead, StartsAfterGap}
use Rattle.ats_trace.specs.Journey.{Travel, IsWay, IsReleased, AreCopies, trunk_at}
use Rattle.ats_trace.specs.Projections.{sent_by, crossings_by, handed_by}
use Rattle.ats_trace.specs.Links.{KeepsLinkRule}
use Rattle.ats_group.specs.Judge.{ats_judge}
use Rattle.ats_trace.specs.Eligibility.{IsJudged, IsPassed}
use Rattle.ats_trace.specs.Run.{releases_of, IsIdeal}
use Rattle.ats_trace.specs.declared.journey.Release.{Release}

-- the parts of a run by true time, where those of a journey and of the port rule count by themselves; that the sender
-- exists follows from the way and the release, and counts with the way
pub data Part : Type 0 where
  in_order : Part
  octets : Part
  way : Part
  released : Part
  copies : Part
  links : Part
  waits : Part
  takes : Part
  apart : Part
  chosen : Part
  prompt : Part
  groups : Part
  flows : Part

-- the transmissions of each port keep a rule, which may depend on the time of a bit there
abbrev pub EachPort : (ℕ → List Transmission → Type 0) → DeclaredNetwork → List Travel → Type 0
EachPort Rule network run = (port : ℕ) → port < length network.topology.ports
    → Rule (port_at network.topology.ports port).ps_per_bit (sent_by network run port)

-- what a run keeps that keeps a part
abbrev pub Keeps : Part → DeclaredNetwork → List Travel → Type 0
Keeps in_order network run = IsNonDecreasing (map (λ (r : Release). r.at.0) (releases_of run))
Keeps octets network run = All (λ (j : Travel). IsFrameSize j.release.octets) run
Keeps way network run =
    All (λ (j : Travel). (j.release.sender < length (senders_of network))
    × IsWay (trunk_at network j.release.sender) j.hops j.ending) run
Keeps released network run = All (λ (j : Travel). IsReleased j.release j.hops) run
Keeps copies network run = All (λ (j : Travel). AreCopies (sender_at network j.release.sender) j) run
Keeps links network run =
    (port : ℕ) → port < length network.topology.ports
    → KeepsLinkRule (port_at network.topology.ports port) (crossings_by network run port)
Keeps waits network run = EachPort (λ ps sent. All (λ (x : Transmission). x.eligible ≤ x.start) sent) network run
Keeps takes network run =
    EachPort (λ ps sent. All (λ (x : Transmission). x.end ≡ x.start + ps * x.bits) sent) network run
Keeps apart network run = EachPort (λ ps sent. AllPairs AreApart sent) network run
Keeps chosen network run =
    EachPort (λ ps sent. All (λ (x : Transmission).
    All (λ (y : Transmission). x.start < y.start → y.eligible ≤ x.start → IsAhead x y) sent) sent) network run
Keeps prompt network run =
    EachPort (λ ps sent. All (λ (x : Transmission). All
    (λ (y : Transmission). StartsAfterGap sent x → x.start ≤ y.start → x.start ≤ y.eligible) sent) sent) network run
Keeps groups network run =
    (port class : ℕ) → port < length network.topology.ports → 1 ≤ class
    → IsJudged ats_judge network port (handed_by network run port class)
Keeps flows network run = (port : ℕ) → port < length network.topology.ports
    → All (IsPassed network) (handed_by network run port 0)

-- a run is one by true time exactly where it keeps each part
abbrev pub LegalIsEachPart : Type 0
LegalIsEachPart = (network : DeclaredNetwork) (run : List Travel)
    → (IsIdeal network run → (part : Part) → Keeps part network run)
    × (((part : Part) → Keeps part network run) → IsIdeal network run)
