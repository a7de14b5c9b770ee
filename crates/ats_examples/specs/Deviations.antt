use Rattle.std.specs.Prelude.{◌≢◌, List, [], ◌∷◌, None}
use Rattle.ats_network.specs.Network.{DeclaredNetwork}
use Rattle.ats_group.specs.declared.verdict.Verdict.TheVariants.{Size}
use Rattle.ats_trace.specs.Journey.{Travel, no_leg}
use Rattle.ats_trace.specs.declared.journey.Ending.TheVariants.{Discard}
use Rattle.ats_examples.specs.Networks.{line_and_flow}
use Rattle.ats_examples.specs.Runs.{hop, sunk}
use Rattle.ats_trace.specs.Parts.{Part, in_order, octets, way, released, copies, links, waits, takes, apart, chosen}
use Rattle.ats_trace.specs.Parts.{prompt, groups, flows, Keeps}

-- For each part of a legal run a run that breaks it alone.

-- for each part one of the legal examples with one event changed, and the later times that follow from it
abbrev pub deviation : Part → List Travel
-- the frames are numbered the other way round
deviation in_order =
    sunk 1 0 1522 (hop 1 1 12336000 24672000 ∷ hop 26172000 26172000 26172000 38508000 ∷ []) 39008000
    ∷ sunk 0 1 1522 (hop 0 0 0 12336000 ∷ hop 13836000 13836000 13836000 26172000 ∷ []) 26672000
    ∷ []
-- a frame of 63 octets, which the bridge discards for its size
deviation octets =
    record {
      release = record { at = record { 0 = 0 }; sender = 0; octets = 63 };
      hops = hop 0 0 0 664000 ∷ record { arrival = record { 0 = 2164000 }; verdict = Size; sent = None } ∷ [];
      ending = Discard;
      copies = [];
    }
    ∷ []
-- the frame that the bridge sends does not arrive
deviation way =
    record {
      release = record { at = record { 0 = 0 }; sender = 0; octets = 1522 };
      hops = hop 0 0 0 12336000 ∷ hop 13836000 13836000 13836000 26172000 ∷ [];
      ending = Discard;
      copies = [];
    }
    ∷ []
-- the listener's arrival is 1 ps late
deviation links = sunk 0 0 1522 (hop 0 0 0 12336000 ∷ hop 13836000 13836000 13836000 26172000 ∷ []) 26672001 ∷ []
-- the second frame is eligible at its station 1 ps after its release
deviation released =
    sunk 0 1 1522 (hop 0 0 0 12336000 ∷ hop 13836000 13836000 13836000 26172000 ∷ []) 26672000
    ∷ sunk 1 0 1522 (hop 1 2 12336000 24672000 ∷ hop 26172000 26172000 26172000 38508000 ∷ []) 39008000
    ∷ []
-- something is told of a copy, though there is no second listener
deviation copies =
    record (sunk 0 0 1522 (hop 0 0 0 12336000 ∷ hop 13836000 13836000 13836000 26172000 ∷ []) 26672000) {
      copies = no_leg ∷ [];
    }
    ∷ []
-- the bridge starts the frame 1 ps before it is eligible
deviation waits = sunk 0 0 1522 (hop 0 0 0 12336000 ∷ hop 13836000 13836000 13835999 26171999 ∷ []) 26671999 ∷ []
-- one octet less takes as long
deviation takes = sunk 0 0 1521 (hop 0 0 0 12336000 ∷ hop 13836000 13836000 13836000 26172000 ∷ []) 26672000 ∷ []
-- the second frame starts at its release, while the first is sent
deviation apart =
    sunk 0 1 1522 (hop 0 0 0 12336000 ∷ hop 13836000 13836000 13836000 26172000 ∷ []) 26672000
    ∷ sunk 1 0 1522 (hop 1 1 1 12336001 ∷ hop 13836001 13836001 26172000 38508000 ∷ []) 39008000
    ∷ []
-- the stream's frame is released with the flow's, which still goes first
deviation chosen =
    sunk 0 1 1522 (hop 0 0 0 12336000 ∷ hop 13836000 13836000 13836000 26172000 ∷ []) 26672000
    ∷ sunk 0 0 1522 (hop 0 0 12336000 24672000 ∷ hop 26172000 26172000 26172000 38508000 ∷ []) 39008000
    ∷ []
-- the bridge starts the frame 1 ps after it became eligible
deviation prompt = sunk 0 0 1522 (hop 0 0 0 12336000 ∷ hop 13836000 13836000 13836001 26172001 ∷ []) 26672001 ∷ []
-- the stream's frame is eligible at the bridge 1 ps before it arrives there
deviation groups =
    sunk 0 1 1522 (hop 0 0 0 12336000 ∷ hop 13836000 13836000 13836000 26172000 ∷ []) 26672000
    ∷ sunk 1 0 1522 (hop 1 1 12336000 24672000 ∷ hop 26172000 26171999 26172000 38508000 ∷ []) 39008000
    ∷ []
-- the flow's frame is eligible at the bridge 1 ps after it arrives there
deviation flows =
    sunk 0 1 1522 (hop 0 0 0 12336000 ∷ hop 13836000 13836001 13836001 26172001 ∷ []) 26672001
    ∷ sunk 1 0 1522 (hop 1 1 12336000 24672000 ∷ hop 26172000 26172000 26172001 38508001 ∷ []) 39008001
    ∷ []

-- the run breaks this part and keeps all others
pub record BreaksAlone (part : Part) (network : DeclaredNetwork) (run : List Travel) : Type 0 where
  pub broken : ¬ Keeps part network run
  pub others : (other : Part) → other ≢ part → Keeps other network run

-- so no part follows from the others
abbrev pub EachPartCounts : Type 0
EachPartCounts = (part : Part) → BreaksAlone part line_and_flow (deviation part)
