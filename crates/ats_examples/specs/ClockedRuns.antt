use Rattle.std.specs.Prelude.{◌≡◌, ℕ, ◌*◌, ◌/◌, List, [], ◌∷◌, codes, All}
use Rattle.ats_clock.specs.Clock.{KeepsClock, declared_clock}
use Rattle.ats_clock_law.specs.TrueTime.{AreTrueVerdicts}
use Rattle.ats_topology.specs.Topology.{topology_of}
use Rattle.ats_topology.specs.declared.node.Node.{Node}
use Rattle.ats_network.specs.Network.{DeclaredNetwork, IsNetwork, declared_network}
use Rattle.ats_network.specs.Senders.{sender_at}
use Rattle.ats_certificate.specs.Certificate.{Holds}
use Rattle.ats_certificate.specs.declared.row.Row.{Row}
use Rattle.ats_group.specs.Group.{Offer}
use Rattle.ats_group.specs.Judge.{ats_judge}
use Rattle.ats_group.specs.declared.verdict.Verdict.{Verdict}
use Rattle.ats_group.specs.declared.verdict.Verdict.TheVariants.{Eligible}
use Rattle.ats_trace.specs.Clocks.{IsLegal}
use Rattle.ats_trace.specs.Eligibility.{declared_by, residence_of_groups}
use Rattle.ats_trace.specs.Journey.{Travel}
use Rattle.ats_trace.specs.Run.{IsIdeal, releases_of}
use Rattle.ats_trace.specs.Stored.{travel_at}
use Rattle.ats_trace.specs.Talker.{talker_of, KeepsBuckets}
use Rattle.ats_soundness_law.specs.Sound.{IsServed}
use Rattle.ats_examples.specs.Networks.{line_links, station, stream}
use Rattle.ats_examples.specs.Rows.{line_rows, row_of_line, row_with}
use Rattle.ats_examples.specs.Runs.{hop, sunk}
use Rattle.ats_examples.specs.SlowClocks.{slow_bridge}

-- A run over a line whose bridge goes by a slow clock.

-- the line, where the clock of the bridge deviates by 100 parts in a million at most and ticks every 8 ns
abbrev pub slow_line_nodes : List Node
slow_line_nodes = station (codes "s1") ∷ station (codes "s2") ∷ slow_bridge (codes "b1") ∷ []

abbrev pub slow_line : DeclaredNetwork
slow_line = declared_network (topology_of slow_line_nodes line_links) (stream (codes "a") (0 ∷ 2 ∷ []) ∷ []) []

-- its certificate: the port from the bridge sees the stream with the greater numbers
abbrev pub slow_line_rows : List Row
slow_line_rows = row_of_line 0 13836000 ∷ row_with 2 6 0 100020004000 12338 0 672 11666000 12838000 ∷ []

-- a clock that is slow by 100 parts in a million
abbrev pub slow : ℕ → ℕ
slow t = 9999 * t / 10000

-- a frame that is as long as the burst, and a short one as soon as the talker's bucket lets it pass too. It comes to
-- the bridge soon behind the first, and the scheduler there holds it until this time
abbrev pub held_until : ℕ → List Travel
held_until eligible =
    sunk 0 0 1522 (hop 0 0 0 12336000 ∷ hop 13836000 13836000 13836000 26172000 ∷ []) 26672000
    ∷ sunk 6720000 0 64 (hop 6720000 6720000 12336000 13008000 ∷ hop 14508000 eligible 26172000 26844000 ∷ []) 27344000
    ∷ []

-- the frames as they come to the bridge, and verdicts on them that let both pass
abbrev pub offered : List Offer
offered =
    record { member = 0; arrival = 13836000; octets = 1522 } ∷ record { member = 0; arrival = 14508000; octets = 64 }
    ∷ []

abbrev pub passed_until : ℕ → List Verdict
passed_until eligible = Eligible (record { 0 = 13836000 }) ∷ Eligible (record { 0 = eligible }) ∷ []

-- where the bridge goes by the slow clock, the short frame is eligible 671 ps later than it would be by true time. So
-- the run is legal, and no run by true time. Its talker keeps its bucket, and both frames are served: the first is
-- eligible at the bridge exactly at its bound, and the second, whose bound is 20556000, before
pub record SlowClockIsLegal : Type 0 where
  pub network : IsNetwork slow_line
  pub holds : Holds slow_line slow_line_rows
  pub keeps_clock : KeepsClock (declared_clock 100 8000) slow
  pub legal : IsLegal slow_line (held_until 20546000)
  pub by_clock : (t : ℕ) → legal.clocks 2 t ≡ slow t
  pub not_ideal : ¬ IsIdeal slow_line (held_until 20546000)
  pub ideal : IsIdeal slow_line (held_until 20545329)
  pub keeps : KeepsBuckets slow_line (releases_of (held_until 20546000)) (talker_of slow_line 0)
  pub served : All (IsServed slow_line_rows (sender_at slow_line 0)) (held_until 20546000)

-- with the declared rate and burst the scheduler would hold the short frame beyond its bound. And a certificate that
-- sums these at both ports does not hold
pub record DeclaredRateIsLate : Type 0 where
  pub verdicts : AreTrueVerdicts slow ats_judge (declared_by slow_line) (residence_of_groups slow_line 0) offered
      (passed_until 20556672)
  pub not_served : ¬ IsServed slow_line_rows (sender_at slow_line 0) (travel_at (held_until 20556672) 1)
  pub not_held : ¬ Holds slow_line line_rows
