use Rattle.std.specs.Prelude.{◌≡◌, [], ◌∷◌, codes, All}
use Rattle.ats_topology.specs.Topology.{topology_of}
use Rattle.ats_topology.specs.declared.node.Kind.TheVariants.{Bridge}
use Rattle.ats_network.specs.Network.{DeclaredNetwork, declared_network}
use Rattle.ats_trace.specs.Eligibility.{scheduled_by}
use Rattle.ats_examples.specs.Networks.{below, fork, line, line_and_flow, line_links, station}
use Rattle.ats_examples.specs.Runs.{late, one_frame}
use Rattle.ats_legal_law.specs.Rest.{IsOverBy, RestsUntil}

-- When a run is over and a network has rested, to the picosecond.

-- the line with a flow alone
abbrev pub flow_alone : DeclaredNetwork
flow_alone = declared_network line_and_flow.topology [] line_and_flow.flows

-- the bucket of the line's stream, which the rate fills in 123360000 ps, is full again just then; and a run is over by
-- its last arrival. Of a late frame its verdict's time does not count
pub record RestsAreExact : Type 0 where
  pub rests : RestsUntil line 26672000 150032000
  pub not_earlier : ¬ RestsUntil line 26672000 150031999
  pub over : All (IsOverBy 26672000) one_frame
  pub not_before : ¬ All (IsOverBy 26671999) one_frame
  pub over_late : All (IsOverBy 26672000) late

-- a network rests until each of its streams has its bucket full: both of the fork fill in as long as the line's, and
-- below a stream whose bucket fills in 24672000 ps one does in 13440000 ps, be it the first. A flow has no bucket, and
-- where there is no stream, a network rests at any later time, and not at the same one
pub record EachStreamRests : Type 0 where
  pub of_two : RestsUntil fork 39008000 162368000
  pub of_two_not_earlier : ¬ RestsUntil fork 39008000 162367999
  pub of_slower_last : RestsUntil below 0 24672000
  pub last_not_earlier : ¬ RestsUntil below 0 24671999
  pub beside_flow : RestsUntil line_and_flow 26672000 150032000
  pub of_none : RestsUntil flow_alone 5 6
  pub none_not_at_once : ¬ RestsUntil flow_alone 5 5

-- the line where the clock of the bridge may step by 10 microseconds, so that the scheduler there has a greater burst
-- than the stream declares
abbrev pub stepping_line : DeclaredNetwork
stepping_line = declared_network (topology_of
    (station (codes "s1")
    ∷ station (codes "s2")
    ∷ record { name = codes "b1"; kind = Bridge 1000 1000 1000000 0 10000000 }
    ∷ []) line_links) line.streams []

-- and a network rests until the bucket of each scheduler is full: this one's fills in 133360000 ps, ten microseconds
-- after that of its stream
pub record EachSchedulerRests : Type 0 where
  pub burst : (scheduled_by stepping_line 0 0).burst_bits ≡ 13336
  pub rests : RestsUntil stepping_line 0 133360000
  pub not_earlier : ¬ RestsUntil stepping_line 0 133359999
