use Rattle.std.specs.Prelude.{ℕ, ◌+◌, List, [], ◌∷◌, ◌++◌, Some, None}
use Rattle.ats_group.specs.declared.verdict.Verdict.TheVariants.{Eligible, Size, Late}
use Rattle.ats_trace.specs.Journey.{Travel}
use Rattle.ats_trace.specs.HopRecord.{HopRecord}
use Rattle.ats_trace.specs.declared.journey.Ending.TheVariants.{Sink, Discard}

-- Runs over one bridge, written out in full.

-- a hop of an eligible frame: its arrival, its eligibility time, and the start and end of its transmission
abbrev pub hop : ℕ → ℕ → ℕ → ℕ → HopRecord
hop arrival eligible start end =
    record {
      arrival = record { 0 = arrival };
      verdict = Eligible (record { 0 = eligible });
      sent = Some (record { 0 = start }, record { 0 = end });
    }

-- the journey of a frame that is released at a time by a sender, with so many octets, and arrives at the listener
abbrev pub sunk : ℕ → ℕ → ℕ → List HopRecord → ℕ → Travel
sunk at sender octets hops arrival =
    record {
      release = record { at = record { 0 = at }; sender = sender; octets = octets };
      hops = hops;
      ending = Sink (record { 0 = arrival });
      copies = [];
    }

-- one frame of the stream over the line
abbrev pub one_frame : List Travel
one_frame =
    sunk 0 0 1522 (hop 0 0 0 12336000 ∷ hop 13836000 13836000 13836000 26172000 ∷ []) 26672000
    ∷ []

-- a frame that is longer than its stream declares is discarded at the bridge
abbrev pub long_frame : List Travel
long_frame =
    record {
      release = record { at = record { 0 = 0 }; sender = 0; octets = 1523 };
      hops = hop 0 0 0 12344000 ∷ record { arrival = record { 0 = 13844000 }; verdict = Size; sent = None } ∷ [];
      ending = Discard;
      copies = [];
    }
    ∷ []

-- a frame of the flow, and behind it one of the stream, which can't interrupt it
abbrev pub behind_a_flow : List Travel
behind_a_flow =
    sunk 0 1 1522 (hop 0 0 0 12336000 ∷ hop 13836000 13836000 13836000 26172000 ∷ []) 26672000
    ∷ sunk 1 0 1522 (hop 1 1 12336000 24672000 ∷ hop 26172000 26172000 26172000 38508000 ∷ []) 39008000
    ∷ []

-- two frames of the fork's streams, eligible at the bridge at the same time; the first goes first
abbrev pub first_goes_first : List Travel
first_goes_first =
    sunk 0 0 1522 (hop 0 0 0 12336000 ∷ hop 13836000 13836000 13836000 26172000 ∷ []) 26672000
    ∷ sunk 0 1 1522 (hop 0 0 0 12336000 ∷ hop 13836000 13836000 26172000 38508000 ∷ []) 39008000
    ∷ []

-- and the same where the second goes first
abbrev pub second_goes_first : List Travel
second_goes_first =
    sunk 0 0 1522 (hop 0 0 0 12336000 ∷ hop 13836000 13836000 26172000 38508000 ∷ []) 39008000
    ∷ sunk 0 1 1522 (hop 0 0 0 12336000 ∷ hop 13836000 13836000 13836000 26172000 ∷ []) 26672000
    ∷ []

-- two frames at once, each as large as the burst: the second is held back until the rate has given the burst again,
-- 123360000 ps after the first
abbrev pub regulated : List Travel
regulated =
    sunk 0 0 1522 (hop 0 0 0 12336000 ∷ hop 13836000 13836000 13836000 26172000 ∷ []) 26672000
    ∷ sunk 0 0 1522 (hop 0 0 12336000 24672000 ∷ hop 26172000 137196000 137196000 149532000 ∷ []) 150032000
    ∷ []

-- where a frame may stay 11664 ns, the second is late
abbrev pub late : List Travel
late =
    sunk 0 0 1522 (hop 0 0 0 12336000 ∷ hop 13836000 13836000 13836000 26172000 ∷ []) 26672000
    ∷ record {
      release = record { at = record { 0 = 0 }; sender = 0; octets = 1522 };
      hops = hop 0 0 12336000 24672000
          ∷ record { arrival = record { 0 = 26172000 }; verdict = Late (record { 0 = 137196000 }); sent = None } ∷ [];
      ending = Discard;
      copies = [];
    }
    ∷ []

-- a frame of the other stream behind both, of 64 octets, which is not held back
abbrev pub passes_on : Travel
passes_on = sunk 0 1 64 (hop 0 0 24672000 25344000 ∷ hop 26844000 26844000 26844000 27516000 ∷ []) 28016000

-- a late frame moves nothing: behind it one of the same group is eligible at its arrival
abbrev pub late_moves_nothing : List Travel
late_moves_nothing = late ++ passes_on ∷ []

-- behind a frame that is held back, one of the same group is eligible with it, though its own bucket is full
abbrev pub held_by_group : List Travel
held_by_group = regulated
    ++ sunk 0 1 64 (hop 0 0 24672000 25344000 ∷ hop 26844000 137196000 149532000 150204000 ∷ []) 150704000 ∷ []

-- one of another class is in a group of its own
abbrev pub group_by_class : List Travel
group_by_class = regulated ++ passes_on ∷ []

-- one frame that is released at this time
abbrev pub one_frame_at : ℕ → List Travel
one_frame_at at =
    sunk at 0 1522
    (hop at at at (at + 12336000) ∷ hop (at + 13836000) (at + 13836000) (at + 13836000) (at + 26172000) ∷ [])
    (at + 26672000)
    ∷ []

-- two frames of one stream at once, which are its burst; the second goes first
abbrev pub out_of_order : List Travel
out_of_order =
    sunk 0 0 1522 (hop 0 0 12336000 24672000 ∷ hop 26172000 26172000 26172000 38508000 ∷ []) 39008000
    ∷ sunk 0 0 1522 (hop 0 0 0 12336000 ∷ hop 13836000 13836000 13836000 26172000 ∷ []) 26672000
    ∷ []
