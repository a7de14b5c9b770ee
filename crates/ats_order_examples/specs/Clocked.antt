use Rattle.std.specs.Prelude.{◌≡◌, ◌≢◌, ◌↔◌, ℕ, ◌+◌, ◌-◌, ◌*◌, ◌<◌, ◌≤◌, List, [], ◌∷◌, length, map, All, AllPairs}
use Rattle.std.specs.List.Sorted.{IsNonDecreasing}
use Rattle.ats_num.specs.declared.time.Ps.{Ps}
use Rattle.ats_clock.specs.Clock.{DeclaredClock, KeepsClock, declared_clock}
use Rattle.ats_clock.specs.declared.clock.TheConstants.{MILLION}
use Rattle.ats_topology.specs.Port.{port_at}
use Rattle.ats_topology.specs.Topology.{node_at}
use Rattle.ats_topology.specs.declared.node.Kind.TheVariants.{Station, Bridge}
use Rattle.ats_network.specs.Network.{DeclaredNetwork}
use Rattle.ats_group.specs.declared.verdict.Verdict.TheVariants.{Eligible, Late, Size}
use Rattle.ats_port_rule.specs.PortRule.{AreApart, KeepsPortRuleBy}
use Rattle.ats_port_rule.specs.Transmission.{Transmission}
use Rattle.ats_trace.specs.Clocks.{IsJudgedBy, IsLegal, KeepsNodeClock, WasTold}
use Rattle.ats_trace.specs.Eligibility.{IsPassed}
use Rattle.ats_trace.specs.Journey.{IsJourney, Travel}
use Rattle.ats_trace.specs.Links.{KeepsLinkRule}
use Rattle.ats_trace.specs.Projections.{Handed, crossings_by, handed_by, sent_by}
use Rattle.ats_trace.specs.Run.{releases_of}
use Rattle.ats_trace.specs.Stored.{travel_at}
use Rattle.ats_trace.specs.Talker.{talker_of}
use Rattle.ats_trace.specs.declared.journey.Release.{Release}

-- What a run that is legal by clocks is, part by part, and nothing more: no clock is asked to begin with another.

-- a port keeps the rule by these five parts, the choice among frames of one class by the times that they were told
abbrev pub PortRuleIsEachPart : Type 0
PortRuleIsEachPart = (told : Transmission → ℕ) (ps_per_bit : ℕ) (sent : List Transmission)
    → KeepsPortRuleBy told ps_per_bit sent
    ↔ (All (λ (x : Transmission). x.eligible ≤ x.start) sent
    × All (λ (x : Transmission). x.end ≡ x.start + ps_per_bit * x.bits) sent
    × AllPairs AreApart sent
    × All (λ (x : Transmission). All (λ (y : Transmission). x.start < y.start → y.eligible ≤ x.start
    → (y.class ≤ x.class) × (x.class ≡ y.class → told x ≤ told y)) sent) sent
    × All (λ (x : Transmission). All (λ (y : Transmission). All (λ (z : Transmission). z.end ≢ x.start) sent
    → x.start ≤ y.start → x.start ≤ y.eligible) sent) sent)

-- a clock of a deviation and a step, both at once, from each time to each later one
abbrev pub ClockIsEachPart : Type 0
ClockIsEachPart = (clock : DeclaredClock) (shows : ℕ → ℕ) → KeepsClock clock shows
    ↔ (((s t : ℕ) → s ≤ t → shows s ≤ shows t)
    × ((s t : ℕ) → s ≤ t
    → (MILLION - clock.deviation_ppm) * (t - s) ≤ MILLION * (shows t - shows s) + MILLION * clock.step_ps)
    × ((s t : ℕ) → s ≤ t
    → MILLION * (shows t - shows s) ≤ (MILLION + clock.deviation_ppm) * (t - s) + MILLION * clock.step_ps))

-- a run by the parts that its clocks keep, each for itself, and by the times that they told
abbrev pub RunIsEachPart : Type 0
RunIsEachPart = (network : DeclaredNetwork) (run : List Travel) → IsLegal network run
    ↔ (IsNonDecreasing (map (λ (r : Release). r.at.0) (releases_of run))
    × All (IsJourney network) run
    × ((clocks : ℕ → ℕ → ℕ) × (told : ℕ → ℕ → ℕ)
    × ((node : ℕ) → KeepsNodeClock (node_at network.topology.nodes node).kind (clocks node))
    × ((frame : ℕ) → frame < length run
    → told (talker_of network (travel_at run frame).release.sender) frame
    ≡ clocks (talker_of network (travel_at run frame).release.sender) (travel_at run frame).release.at.0)
    × ((port : ℕ) → port < length network.topology.ports
    → KeepsPortRuleBy (λ (x : Transmission). told (port_at network.topology.ports port).from x.frame)
    (port_at network.topology.ports port).ps_per_bit (sent_by network run port))
    × ((port : ℕ) → port < length network.topology.ports
    → KeepsLinkRule (port_at network.topology.ports port) (crossings_by network run port))
    × ((port class : ℕ) → port < length network.topology.ports → 1 ≤ class
    → IsJudgedBy (clocks (port_at network.topology.ports port).to) (told (port_at network.topology.ports port).to)
    network port (handed_by network run port class))
    × ((port : ℕ) → port < length network.topology.ports
    → All (λ (h : Handed). IsPassed network h
    × (told (port_at network.topology.ports port).to h.crossing.sent.frame
    ≡ clocks (port_at network.topology.ports port).to h.crossing.arrival)) (handed_by network run port 0))))

-- a station shows true time, and a bridge's clock keeps what it declares
pub record LegalByClocksIsEachPart : Type 0 where
  pub run : RunIsEachPart
  pub station : (shows : ℕ → ℕ) → KeepsNodeClock Station shows ↔ ((t : ℕ) → shows t ≡ t)
  pub bridge : (processing_min_ns processing_max_ns residence_ns deviation_ppm step_ps : ℕ) (shows : ℕ → ℕ)
      → KeepsNodeClock (Bridge processing_min_ns processing_max_ns residence_ns deviation_ppm step_ps) shows
      ↔ KeepsClock (declared_clock deviation_ppm step_ps) shows
  pub clock : ClockIsEachPart
  pub port_rule : PortRuleIsEachPart
  -- an eligible frame was told the time of its verdict, and of a discarded one nothing is asked
  pub told : (told : ℕ → ℕ) (h : Handed) (at : Ps)
      → WasTold told h (Eligible at) ↔ (told h.crossing.sent.frame ≡ at.0)
  pub late : (told : ℕ → ℕ) (h : Handed) (at : Ps) → WasTold told h (Late at)
  pub size : (told : ℕ → ℕ) (h : Handed) → WasTold told h Size

-- a frame of class 6 and 64 octets, with this number, that a tick of 8 ns made eligible and that starts at this time
abbrev pub after_tick : ℕ → ℕ → Transmission
after_tick frame start =
    record {
      frame = frame;
      sender = frame;
      class = 6;
      bits = 672;
      eligible = 8000;
      start = start;
      end = start + 672000;
    }

-- frame 0 is told 7000, and frame 1 is told 7999
abbrev pub told_in_tick : Transmission → ℕ
told_in_tick x = 7000 + 999 * x.frame

-- of two frames that one tick makes eligible, the one that was told the earlier time goes first
pub record TickIsByToldTimes : Type 0 where
  pub in_turn : KeepsPortRuleBy told_in_tick 1000 (after_tick 0 8000 ∷ after_tick 1 680000 ∷ [])
  pub not_by_others : ¬ KeepsPortRuleBy told_in_tick 1000 (after_tick 0 680000 ∷ after_tick 1 8000 ∷ [])

pub record LegalByClocksIsMeant : Type 0 where
  pub parts : LegalByClocksIsEachPart
  pub in_tick : TickIsByToldTimes
