use Rattle.std.specs.Prelude.{ℕ, ◌+◌, List, [], ◌∷◌, None}
use Rattle.ats_group.specs.declared.verdict.Verdict.TheVariants.{Size}
use Rattle.ats_trace.specs.Journey.{Travel, no_leg}
use Rattle.ats_trace.specs.Parts.{in_order, octets, way, released, copies, links, waits, takes, apart, prompt}
use Rattle.ats_trace.specs.declared.journey.Ending.{Ending}
use Rattle.ats_trace.specs.declared.journey.Ending.TheVariants.{Discard}
use Rattle.ats_trace.specs.HopRecord.{HopRecord}
use Rattle.ats_examples.specs.BrokenRuns.{small}
use Rattle.ats_examples.specs.Deviations.{BreaksAlone}
use Rattle.ats_examples.specs.Networks.{line_and_flow}
use Rattle.ats_examples.specs.Runs.{hop, sunk}
use Rattle.ats_order_examples.specs.Flows.{arriving, ranged_flow}

-- Runs of frames of a flow alone, each of which breaks one part alone: a rule that left out frames of class 0 would let
-- it through.

-- one frame of 64 octets of the flow, by its record at the station, its record at the bridge, and its arrival at the
-- listener
abbrev pub of_flow : HopRecord → HopRecord → ℕ → List Travel
of_flow at_station at_bridge arrival = sunk 0 1 64 (at_station ∷ at_bridge ∷ []) arrival ∷ []

-- the station is idle for 1 ps beside the frame, and the bridge
abbrev pub idle_at_station : List Travel
idle_at_station = small 1 0 1 ∷ []

abbrev pub idle_at_bridge : List Travel
idle_at_bridge = of_flow (hop 0 0 0 672000) (hop 2172000 2172000 2172001 2844001) 3344001

-- the frame is eligible at its station 1 ps after its release, and comes there 1 ps after it
abbrev pub eligible_later : List Travel
eligible_later = of_flow (hop 0 1 1 672001) (hop 2172001 2172001 2172001 2844001) 3344001

abbrev pub comes_later : List Travel
comes_later = of_flow (hop 1 0 0 672000) (hop 2172000 2172000 2172000 2844000) 3344000

-- the station sends the frame until this time, and the bridge sends it on as it comes; the bits take until 672000
abbrev pub sent_until : ℕ → List Travel
sent_until end =
    of_flow (hop 0 0 0 end) (hop (end + 1500000) (end + 1500000) (end + 1500000) (end + 2172000)) (end + 2672000)

-- the station starts the frame 1 ps before its release, and the bridge 1 ps before it has come, each while the frame is
-- not eligible, which it is before it is sent to its end
abbrev pub early_at_station : List Travel
early_at_station = small 1 1 0 ∷ []

abbrev pub early_at_bridge : List Travel
early_at_bridge = of_flow (hop 0 0 0 672000) (hop 2172000 2172000 2171999 2843999) 3343999

-- the station starts a second frame at its release, while it sends the first
abbrev pub overlapping : List Travel
overlapping =
    small 1 0 0
    ∷ sunk 1 1 64 (hop 1 1 1 672001 ∷ hop 2172001 2172001 2844000 3516000 ∷ []) 4016000
    ∷ []

-- the frame arrives at its listener at this time, which has to be 3344000
abbrev pub heard_at : ℕ → List Travel
heard_at arrival = of_flow (hop 0 0 0 672000) (hop 2172000 2172000 2172000 2844000) arrival

-- the second frame is released before the first
abbrev pub back_in_time : List Travel
back_in_time =
    sunk 1 1 64 (hop 1 1 672000 1344000 ∷ hop 2844000 2844000 2844000 3516000 ∷ []) 4016000
    ∷ small 1 0 0
    ∷ []

-- a frame of the flow that its station sends until this time, with so many octets, what the bridge tells of it, and how
-- its journey ends
abbrev pub sent_of : ℕ → ℕ → List HopRecord → Ending → List Travel
sent_of size end hops ending =
    record {
      release = record { at = record { 0 = 0 }; sender = 1; octets = size };
      hops = hop 0 0 0 end ∷ hops;
      ending = ending;
      copies = [];
    }
    ∷ []

-- 63 octets make no frame; the bridge discards it for its size
abbrev pub of_63_octets : List Travel
of_63_octets =
    sent_of 63 664000 (record { arrival = record { 0 = 2164000 }; verdict = Size; sent = None } ∷ []) Discard

-- nothing is told of a frame that its station has sent
abbrev pub lost : List Travel
lost = sent_of 64 672000 [] Discard

-- something is told of a copy, though a flow has none
abbrev pub with_copy : List Travel
with_copy =
    record (sunk 0 1 64 (hop 0 0 0 672000 ∷ hop 2172000 2172000 2172000 2844000 ∷ []) 3344000) {
      copies = no_leg ∷ [];
    }
    ∷ []

-- each breaks this part, and keeps all others
pub record FlowsBreakAlone : Type 0 where
  pub idle_at_station : BreaksAlone prompt line_and_flow idle_at_station
  pub idle_at_bridge : BreaksAlone prompt line_and_flow idle_at_bridge
  pub eligible_later : BreaksAlone released line_and_flow eligible_later
  pub comes_later : BreaksAlone released line_and_flow comes_later
  pub sent_quickly : BreaksAlone takes line_and_flow (sent_until 671999)
  pub sent_slowly : BreaksAlone takes line_and_flow (sent_until 672001)
  pub early_at_station : BreaksAlone waits line_and_flow early_at_station
  pub early_at_bridge : BreaksAlone waits line_and_flow early_at_bridge
  pub overlapping : BreaksAlone apart line_and_flow overlapping
  pub comes_early : BreaksAlone links ranged_flow (arriving 1371999 2043999 2543999)
  pub heard_early : BreaksAlone links line_and_flow (heard_at 3343999)
  pub heard_late : BreaksAlone links line_and_flow (heard_at 3344001)
  pub back_in_time : BreaksAlone in_order line_and_flow back_in_time
  pub of_63_octets : BreaksAlone octets line_and_flow of_63_octets
  pub lost : BreaksAlone way line_and_flow lost
  pub with_copy : BreaksAlone copies line_and_flow with_copy
