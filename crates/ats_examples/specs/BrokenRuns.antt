use Rattle.std.specs.Prelude.{ℕ, ◌+◌, List, [], ◌∷◌, None}
use Rattle.ats_group.specs.declared.verdict.Verdict.TheVariants.{Eligible, Size}
use Rattle.ats_trace.specs.Journey.{Travel}
use Rattle.ats_trace.specs.Parts.{octets, way, links, chosen, prompt, flows}
use Rattle.ats_trace.specs.HopRecord.{HopRecord}
use Rattle.ats_trace.specs.declared.journey.Ending.{Ending}
use Rattle.ats_trace.specs.declared.journey.Ending.TheVariants.{Sink, Discard}
use Rattle.ats_examples.specs.Networks.{line, line_and_flow}
use Rattle.ats_examples.specs.Runs.{hop, sunk}
use Rattle.ats_examples.specs.Deviations.{BreaksAlone}

-- Runs that break one part alone, each where a likely slip in the part's definition would let it through.

-- a frame of 64 octets on the path of the line, by its sender, its release and the start of its transmission at the
-- station; the bridge sends it as soon as it arrives
abbrev pub small : ℕ → ℕ → ℕ → Travel
small sender at start =
    sunk at sender 64 (hop at at start (start + 672000) ∷ hop (start + 2172000) (start + 2172000) (start + 2172000)
    (start + 2844000) ∷ []) (start + 3344000)

-- the station sends the third of its stream's frames before the second, though both are eligible
abbrev pub later_eligible_first : List Travel
later_eligible_first = small 0 0 0 ∷ small 0 1 1344000 ∷ small 0 2 672000 ∷ []

-- the station is idle while the flow's frame is eligible, and sends it behind one of the stream that is released later
abbrev pub idle_over_flow : List Travel
idle_over_flow = small 1 0 672005 ∷ small 0 5 5 ∷ []

-- the frame arrives at the bridge 1 ps late, and all that follows is 1 ps later
abbrev pub long_link : List Travel
long_link = sunk 0 0 1522 (hop 0 0 0 12336000 ∷ hop 13836001 13836001 13836001 26172001 ∷ []) 26672001 ∷ []

-- and 1 ps early
abbrev pub short_link : List Travel
short_link = sunk 0 0 1522 (hop 0 0 0 12336000 ∷ hop 13835999 13835999 13835999 26171999 ∷ []) 26671999 ∷ []

-- the record of a frame that is discarded for its size when it arrives
abbrev pub too_long : ℕ → HopRecord
too_long arrival = record { arrival = record { 0 = arrival }; verdict = Size; sent = None }

-- a frame of the stream that is released at 0, with so many octets, these records and this ending
abbrev pub ended : ℕ → List HopRecord → Ending → List Travel
ended size hops ending =
    record {
      release = record { at = record { 0 = 0 }; sender = 0; octets = size };
      hops = hops;
      ending = ending;
      copies = [];
    }
    ∷ []

-- a discarded frame arrives at the listener
abbrev pub discarded_and_sunk : List Travel
discarded_and_sunk = ended 1523 (hop 0 0 0 12344000 ∷ too_long 13844000 ∷ []) (Sink (record { 0 = 13844000 }))

-- a frame is discarded twice
abbrev pub discarded_twice : List Travel
discarded_twice = ended 1523 (hop 0 0 0 12344000 ∷ too_long 13844000 ∷ too_long 13844000 ∷ []) Discard

-- the bridge never sends an eligible frame
abbrev pub never_sent : List Travel
never_sent =
    ended 1522 (hop 0 0 0 12336000 ∷ record {
      arrival = record { 0 = 13836000 };
      verdict = Eligible (record { 0 = 13836000 });
      sent = None;
    } ∷ []) Discard

-- nothing is told of a frame that its station has sent
abbrev pub lost : List Travel
lost = ended 1522 (hop 0 0 0 12336000 ∷ []) Discard

-- a flow's frame that is too long goes on
abbrev pub long_of_flow : List Travel
long_of_flow = sunk 0 1 1523 (hop 0 0 0 12344000 ∷ hop 13844000 13844000 13844000 26188000 ∷ []) 26688000 ∷ []

-- 2001 octets make no frame
abbrev pub of_2001_octets : List Travel
of_2001_octets = ended 2001 (hop 0 0 0 16168000 ∷ too_long 17668000 ∷ []) Discard

-- each breaks this part, and keeps all others
pub record EachBreaksAlone : Type 0 where
  pub later_eligible_first : BreaksAlone chosen line later_eligible_first
  pub idle_over_flow : BreaksAlone prompt line_and_flow idle_over_flow
  pub long_link : BreaksAlone links line long_link
  pub short_link : BreaksAlone links line short_link
  pub discarded_and_sunk : BreaksAlone way line discarded_and_sunk
  pub discarded_twice : BreaksAlone way line discarded_twice
  pub never_sent : BreaksAlone way line never_sent
  pub lost : BreaksAlone way line lost
  pub long_of_flow : BreaksAlone flows line_and_flow long_of_flow
  pub of_2001_octets : BreaksAlone octets line of_2001_octets
