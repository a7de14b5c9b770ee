use Rattle.std.specs.Prelude.{◌↔◌, ℕ, ◌+◌, ◌*◌, ◌<◌, ◌≤◌, List, length, map, All}
use Rattle.std.specs.List.Sorted.{IsNonDecreasing}
use Rattle.ats_num.specs.declared.time.Ps.{Ps}
use Rattle.ats_topology.specs.Port.{port_at}
use Rattle.ats_streams.specs.Stream.{DeclaredStream}
use Rattle.ats_network.specs.Network.{DeclaredNetwork}
use Rattle.ats_group.specs.Judge.{Judge}
use Rattle.ats_port_rule.specs.PortRule.{KeepsPortRule}
use Rattle.ats_certificate.specs.Certificate.{bound_on}
use Rattle.ats_certificate.specs.declared.row.Row.{Row}
use Rattle.ats_trace.specs.Eligibility.{IsJudged, IsPassed}
use Rattle.ats_trace.specs.Journey.{IsJourney, Travel}
use Rattle.ats_trace.specs.Links.{KeepsLinkRule}
use Rattle.ats_trace.specs.Projections.{crossings_by, handed_by, sent_by}
use Rattle.ats_trace.specs.Run.{IsLegalBy, releases_of}
use Rattle.ats_trace.specs.declared.journey.Ending.TheVariants.{Discard, Sink}
use Rattle.ats_trace.specs.declared.journey.Release.{Release}
use Rattle.ats_checker.specs.InTime.{ArrivesInTimeOn}

-- Of which runs something is promised, by any judge, and what it is to arrive in time, part by part, both ways.

-- a run is legal by a judge where each of these holds, and nothing else is asked of it: neither of sizes, nor of rates
-- and bursts
abbrev pub RunsAreLegalByParts : Type 0
RunsAreLegalByParts = (judge : Judge) (network : DeclaredNetwork) (run : List Travel) → IsLegalBy judge network run
    ↔ (IsNonDecreasing (map (λ (r : Release). r.at.0) (releases_of run))
    × All (IsJourney network) run
    × ((port : ℕ) → port < length network.topology.ports
    → KeepsPortRule (port_at network.topology.ports port).ps_per_bit (sent_by network run port))
    × ((port : ℕ) → port < length network.topology.ports
    → KeepsLinkRule (port_at network.topology.ports port) (crossings_by network run port))
    × ((port class : ℕ) → port < length network.topology.ports → 1 ≤ class
    → IsJudged judge network port (handed_by network run port class))
    × ((port : ℕ) → port < length network.topology.ports → All (IsPassed network) (handed_by network run port 0)))

-- a frame arrives in time where it is at the listener within the sum of the bounds and within the deadline, whatever
-- these are; one that is discarded does not
pub record ArrivalsAreInTime : Type 0 where
  pub sink : (rows : List Row) (stream : DeclaredStream) (release : Release) (route : List ℕ) (at : Ps)
      → ArrivesInTimeOn rows stream release route (Sink at)
      ↔ ((at.0 ≤ release.at.0 + bound_on rows stream route) × (at.0 ≤ release.at.0 + 1000 * stream.deadline_ns))
  pub discard : (rows : List Row) (stream : DeclaredStream) (release : Release) (route : List ℕ)
      → ¬ ArrivesInTimeOn rows stream release route Discard

pub record PromisesAreMeant : Type 0 where
  pub runs : RunsAreLegalByParts
  pub arrivals : ArrivalsAreInTime
