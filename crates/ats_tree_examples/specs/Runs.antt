use Rattle.std.specs.Prelude.{ℕ, ◌+◌, List, [], ◌∷◌, ◌++◌, map, None}
use Rattle.ats_group.specs.declared.verdict.Verdict.TheVariants.{Size, Late}
use Rattle.ats_trace.specs.Journey.{Leg, Travel, no_leg}
use Rattle.ats_trace.specs.HopRecord.{HopRecord}
use Rattle.ats_trace.specs.declared.journey.Ending.TheVariants.{Sink, Discard}
use Rattle.ats_examples.specs.Runs.{hop, sunk}
use Rattle.ats_examples.specs.Babbler.{at_bridge, babble, beside, too_late}

-- Runs of streams with several listeners, written out in full.

-- a copy with these records, which arrives at its listener
abbrev pub copy : List HopRecord → ℕ → Leg
copy hops arrival = record { hops = hops; ending = Sink (record { 0 = arrival }) }

-- and one with these records that is discarded
abbrev pub dropped : List HopRecord → Leg
dropped hops = record { hops = hops; ending = Discard }

-- the record of a frame that is discarded for its size when it arrives, and of one that could be eligible at this time
-- at the earliest, which is too late
abbrev pub too_long : ℕ → HopRecord
too_long arrival = record { arrival = record { 0 = arrival }; verdict = Size; sent = None }

abbrev pub late_by : ℕ → ℕ → HopRecord
late_by arrival eligible =
    record { arrival = record { 0 = arrival }; verdict = Late (record { 0 = eligible }); sent = None }

-- a frame with these copies
abbrev pub copied : Travel → List Leg → Travel
copied journey legs = record journey { copies = legs }

-- a frame that is released at a time by a sender, with so many octets, which a bridge discards on its trunk
abbrev pub stopped : ℕ → ℕ → ℕ → List HopRecord → Travel
stopped at sender octets hops = record {
  release = record { at = record { 0 = at }; sender = sender; octets = octets };
  hops = hops;
  ending = Discard;
  copies = [];
}

-- one frame over the split, with these copies; and the run of it, where the bridge sends the copy as the frame
abbrev pub one_with : List Leg → List Travel
one_with legs =
    copied (sunk 0 0 1522 (hop 0 0 0 12336000 ∷ hop 13836000 13836000 13836000 26172000 ∷ []) 26672000) legs
    ∷ []

abbrev pub one_split : List Travel
one_split = one_with (copy (hop 13836000 13836000 13836000 26172000 ∷ []) 26672000 ∷ [])

-- a frame that is longer than its stream declares is discarded at the bridge, for both listeners; with these copies
abbrev pub long_with : List Leg → List Travel
long_with legs = copied (stopped 0 0 1523 (hop 0 0 0 12344000 ∷ too_long 13844000 ∷ [])) legs ∷ []

abbrev pub long_split : List Travel
long_split = long_with (dropped (too_long 13844000 ∷ []) ∷ [])

-- a frame of the flow, behind which that of the stream waits at the trunk's port; its copy is sent from this time to
-- that, and arrives
abbrev pub behind_flow_with : ℕ → ℕ → ℕ → List Travel
behind_flow_with start end arrival =
    sunk 0 1 1522 (hop 0 0 0 12336000 ∷ hop 13836000 13836000 13836000 26172000 ∷ []) 26672000
    ∷ copied (sunk 1 0 1522 (hop 1 1 1 12336001 ∷ hop 13836001 13836001 26172000 38508000 ∷ []) 39008000)
    (copy (hop 13836001 13836001 start end ∷ []) arrival ∷ [])
    ∷ []

-- at once, since its own port is free
abbrev pub behind_flow : List Travel
behind_flow = behind_flow_with 13836001 26172001 26672001

-- three frames at once, which are less than the burst together, and more if the first counted for each port. The bridge
-- makes the last eligible at this time, and sends it from that on
abbrev pub counted_with : ℕ → ℕ → List Travel
counted_with eligible start =
    copied (sunk 0 0 800 (hop 0 0 0 6560000 ∷ hop 8060000 8060000 8060000 14620000 ∷ []) 15120000)
    (copy (hop 8060000 8060000 8060000 14620000 ∷ []) 15120000 ∷ [])
    ∷ copied (sunk 0 0 64 (hop 0 0 6560000 7232000 ∷ hop 8732000 8732000 14620000 15292000 ∷ []) 15792000)
    (copy (hop 8732000 8732000 14620000 15292000 ∷ []) 15792000 ∷ [])
    ∷ copied
    (sunk 0 0 600 (hop 0 0 7232000 12192000 ∷ hop 13692000 eligible start (start + 4960000) ∷ []) (start + 5460000))
    (copy (hop 13692000 eligible start (start + 4960000) ∷ []) (start + 5460000) ∷ [])
    ∷ []

-- when it comes
abbrev pub within_burst : List Travel
within_burst = counted_with 13692000 15292000

-- two frames of the other stream at once, of which the bridge holds back the small one, and one of the split's stream
-- behind them, which is eligible at this time and sent on. Its copy goes on in another class, as does the small frame
abbrev pub behind_two_with : ℕ → ℕ → ℕ → ℕ → ℕ → List Travel
behind_two_with own small_start eligible start end =
    sunk 0 1 1522 (hop 0 0 0 12336000 ∷ hop 13836000 13836000 13836000 26172000 ∷ []) 26672000
    ∷ sunk 0 1 64
    (hop 0 0 12336000 13008000 ∷ hop 14508000 27276000 small_start (small_start + 672000) ∷ [])
    (small_start + 1172000)
    ∷ copied
    (sunk 0 0 1522 (hop 0 0 13008000 25344000 ∷ hop 26844000 own own (own + 12336000) ∷ []) (own + 12836000))
    (copy (hop 26844000 eligible start end ∷ []) (end + 500000) ∷ [])
    ∷ []

-- it waits for the one that is held back, since all are of one class at s1
abbrev pub held_with : ℕ → ℕ → ℕ → ℕ → List Travel
held_with = behind_two_with 27276000

-- and so does its copy
abbrev pub held_by_group : List Travel
held_by_group = held_with 27276000 27276000 27948000 40284000

-- neither does, as if the other stream's frames, which leave the bridge in another class, were of another group
abbrev pub past_its_group : List Travel
past_its_group = behind_two_with 26844000 39180000 26844000 26844000 39180000

-- a frame of the stream from s2, and one of the split's: both are eligible at once at the port to s3; the first goes
-- first there
abbrev pub tied_first : List Travel
tied_first =
    sunk 0 1 1522 (hop 0 0 0 12336000 ∷ hop 13836000 13836000 13836000 26172000 ∷ []) 26672000
    ∷ copied (sunk 0 0 1522 (hop 0 0 0 12336000 ∷ hop 13836000 13836000 13836000 26172000 ∷ []) 26672000)
    (copy (hop 13836000 13836000 26172000 38508000 ∷ []) 39008000 ∷ [])
    ∷ []

-- and the copy first
abbrev pub tied_last : List Travel
tied_last =
    sunk 0 1 1522 (hop 0 0 0 12336000 ∷ hop 13836000 13836000 26172000 38508000 ∷ []) 39008000
    ∷ copied (sunk 0 0 1522 (hop 0 0 0 12336000 ∷ hop 13836000 13836000 13836000 26172000 ∷ []) 26672000)
    (copy (hop 13836000 13836000 13836000 26172000 ∷ []) 26672000 ∷ [])
    ∷ []

-- one frame that comes to the bridge at this time, and is sent on at once, as is its copy, for which that time is told.
-- It may come from 13036000 to 13836000
abbrev pub coming : ℕ → ℕ → List Travel
coming at other =
    copied (sunk 0 0 1522 (hop 0 0 0 12336000 ∷ hop at at at (at + 12336000) ∷ []) (at + 12836000))
    (copy (hop other at at (at + 12336000) ∷ []) (at + 12836000) ∷ [])
    ∷ []

-- two frames of the slower stream at once, of which the bridge holds back the small one, and two small ones of the
-- split's stream behind them, which wait for it and are eligible with it. On the trunk they are sent in the order of
-- their numbers; their copies, beside which no other frame goes, are sent from these times on
abbrev pub copies_from : ℕ → ℕ → List Travel
copies_from first second =
    sunk 0 1 1522 (hop 0 0 0 12336000 ∷ hop 13836000 13836000 13836000 26172000 ∷ []) 26672000
    ∷ sunk 0 1 64 (hop 0 0 12336000 13008000 ∷ hop 14508000 27276000 27276000 27948000 ∷ []) 28448000
    ∷ copied (sunk 0 0 64 (hop 0 0 13008000 13680000 ∷ hop 15180000 27276000 27948000 28620000 ∷ []) 29120000)
    (copy (hop 15180000 27276000 first (first + 672000) ∷ []) (first + 1172000) ∷ [])
    ∷ copied (sunk 0 0 64 (hop 0 0 13680000 14352000 ∷ hop 15852000 27276000 28620000 29292000 ∷ []) 29792000)
    (copy (hop 15852000 27276000 second (second + 672000) ∷ []) (second + 1172000) ∷ [])
    ∷ []

-- in that order too
abbrev pub copies_in_order : List Travel
copies_in_order = copies_from 27276000 27948000

-- and the later frame's first
abbrev pub copies_out_of_order : List Travel
copies_out_of_order = copies_from 27948000 27276000

-- one frame whose copy comes at this time to the bridge that copies alone go over, and is sent on at once. It may come
-- from 26872000 to 27672000
abbrev pub copy_coming : ℕ → List Travel
copy_coming at =
    one_with
    (copy (hop 13836000 13836000 13836000 26172000 ∷ hop at at at (at + 12336000) ∷ []) (at + 12836000) ∷ [])

-- frame k of a babbler whose frames go to the other station too, where no other frame goes: its copy is sent when it is
-- eligible
abbrev pub babbled : ℕ → ℕ → ℕ → Travel
babbled k eligible start =
    copied (babble k eligible start)
    (copy (hop (at_bridge k) eligible eligible (eligible + 672000) ∷ []) (eligible + 1172000) ∷ [])

abbrev pub babbled_at_once : ℕ → Travel
babbled_at_once k = babbled k (at_bridge k) (at_bridge k)

-- 23 frames at once, of which the bridge discards the last for both listeners
abbrev pub crossed_babbler : List Travel
crossed_babbler =
    beside
    ∷ map babbled_at_once (0 ∷ 1 ∷ 2 ∷ 3 ∷ 4 ∷ 5 ∷ 6 ∷ 7 ∷ 8 ∷ 9 ∷ 10 ∷ 11 ∷ 12 ∷ 13 ∷ 14 ∷ 15 ∷ 16 ∷ 17 ∷ [])
    ++ babbled 18 (at_bridge 18) 26604000
    ∷ babbled 19 (at_bridge 19) 27276000
    ∷ babbled 20 19932000 27948000
    ∷ babbled 21 26652000 28620000
    ∷ copied too_late (dropped (late_by (at_bridge 22) 33372000 ∷ []) ∷ [])
    ∷ []

-- one frame over the tree, which each bridge sends on when it comes
abbrev pub over_tree : Travel
over_tree =
    copied
    (sunk 0 0 1522
    (hop 0 0 0 12336000 ∷ hop 13836000 13836000 13836000 26172000 ∷ hop 27672000 27672000 27672000 40008000 ∷ [])
    40508000)
    (
    copy (hop 13836000 13836000 13836000 26172000 ∷ []) 26672000
    ∷ copy (hop 27672000 27672000 27672000 40008000 ∷ hop 41508000 41508000 41508000 53844000 ∷ []) 54344000
    ∷ copy (hop 41508000 41508000 41508000 53844000 ∷ []) 54344000
    ∷ []
    )

-- one frame of the bridge, with these copies by its other ports; and the run in which it sends one by each at once
abbrev pub own_with : List Leg → List Travel
own_with legs = copied (sunk 0 0 1522 (hop 0 0 0 12336000 ∷ []) 12836000) legs ∷ []

abbrev pub own_copies : List Travel
own_copies = own_with
    (copy (hop 0 0 0 12336000 ∷ hop 13836000 13836000 13836000 26172000 ∷ []) 26672000
    ∷ copy (hop 0 0 0 12336000 ∷ []) 13836000 ∷ [])

-- and where the copy of the first branch is copied at b1
abbrev pub copies_behind : List Travel
copies_behind = own_with
    (copy (hop 0 0 0 12336000 ∷ hop 13836000 13836000 13836000 26172000 ∷ []) 26672000
    ∷ copy (hop 13836000 13836000 13836000 26172000 ∷ []) 26672000 ∷ [])

-- where no frame may stay at the second bridge: a frame of the flow, one of the stream behind it, and the next of the
-- stream, which comes to the second bridge before its bucket there is full again. So it is discarded there, for all
-- listeners but the one at the first bridge; this is told of its last leg
abbrev pub late_in_tree_with : Leg → List Travel
late_in_tree_with last =
    sunk 0 1 1522
    (hop 0 0 0 12336000 ∷ hop 13836000 13836000 13836000 26172000 ∷ hop 27672000 27672000 27672000 40008000 ∷ [])
    40508000
    ∷ copied
    (sunk 1 0 1522
    (hop 1 1 1 12336001 ∷ hop 13836001 13836001 26172000 38508000 ∷ hop 40008000 40008000 40008000 52344000 ∷ [])
    52844000)
    (
    copy (hop 13836001 13836001 13836001 26172001 ∷ []) 26672001
    ∷ copy (hop 40008000 40008000 40008000 52344000 ∷ hop 53844000 53844000 53844000 66180000 ∷ []) 66680000
    ∷ copy (hop 53844000 53844000 53844000 66180000 ∷ []) 66680000
    ∷ []
    )
    ∷ copied
    (stopped 123360001 0 1522
    (hop 123360001 123360001 123360001 135696001 ∷ hop 137196001 137196001 137196001 149532001
    ∷ late_by 151032001 163368000 ∷ []))
    (
    copy (hop 137196001 137196001 137196001 149532001 ∷ []) 150032001
    ∷ dropped (late_by 151032001 163368000 ∷ [])
    ∷ last
    ∷ []
    )
    ∷ []

abbrev pub late_in_tree : List Travel
late_in_tree = late_in_tree_with no_leg
