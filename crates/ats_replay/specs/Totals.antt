use Rattle.std.specs.Prelude.{ℕ, ◌-◌, Bool, true, false, List, ◌++◌, length, Option, Some, None, codes}
use Rattle.std.specs.Prelude.{decimal, map, slice_get}
use Rattle.std.specs.List.{count_by, flat_map, range_with_len}
use Rattle.ats_group.specs.declared.verdict.Verdict.{Verdict}
use Rattle.ats_group.specs.declared.verdict.Verdict.TheVariants.{Eligible, Late, Size}
use Rattle.ats_network.specs.Network.{DeclaredNetwork}
use Rattle.ats_network.specs.Sender.{Sender}
use Rattle.ats_network.specs.Senders.{sender_at}
use Rattle.ats_trace.specs.Journey.{Leg, Travel}
use Rattle.ats_trace.specs.Ways.{listener_count, way_to}
use Rattle.ats_trace.specs.HopRecord.{HopRecord}
use Rattle.ats_trace.specs.declared.journey.Ending.{Ending}
use Rattle.ats_trace.specs.declared.journey.Ending.TheVariants.{Sink, Discard}
use Rattle.ats_replay.specs.declared.totals.Totals.{Totals}

-- a way ended at its listener
abbrev pub is_sunk : Ending → Bool
is_sunk (Sink at) = true
is_sunk Discard = false

abbrev pub is_late_verdict : Verdict → Bool
is_late_verdict (Late e) = true
is_late_verdict (Eligible e) = false
is_late_verdict Size = false

abbrev pub is_size_verdict : Verdict → Bool
is_size_verdict Size = true
is_size_verdict (Eligible e) = false
is_size_verdict (Late e) = false

-- the verdict of a record, where there is one, passes the test
abbrev pub passes : (Verdict → Bool) → Option HopRecord → Bool
passes test None = false
passes test (Some hop) = test hop.verdict

-- the last of some records, where there is one
abbrev pub last_of : List HopRecord → Option HopRecord
last_of hops = slice_get hops (length hops - 1)

-- the last verdict on a frame was that it would be eligible too late
abbrev pub is_late : List HopRecord → Bool
is_late hops = passes is_late_verdict (last_of hops)

-- or that its octets are not allowed
abbrev pub is_oversize : List HopRecord → Bool
is_oversize hops = passes is_size_verdict (last_of hops)

-- so many frames, and how many of these ways of theirs, each to a listener, ended in each way
abbrev pub totals_on : ℕ → List Leg → Totals
totals_on frames ways = record {
  frames = frames;
  sunk = count_by (λ (way : Leg). is_sunk way.ending) ways;
  late = count_by (λ (way : Leg). is_late way.hops) ways;
  size = count_by (λ (way : Leg). is_oversize way.hops) ways;
}

-- the ways of a frame to the listeners of its sender, one by one
abbrev pub ways_by : Sender → Travel → List Leg
ways_by sender journey = map (way_to sender journey) (range_with_len 0 (listener_count sender))

-- and of a frame of a network
abbrev pub ways_in : DeclaredNetwork → Travel → List Leg
ways_in network journey = ways_by (sender_at network journey.release.sender) journey

-- how many frames a run has, and how many of their ways, one to each listener of each frame, ended in each way
abbrev pub totals_of : DeclaredNetwork → List Travel → Totals
totals_of network run = totals_on (length run) (flat_map (ways_in network) run)

-- `frames F sunk K late L size S`
unfoldable pub counts_text : Totals → List ℕ
counts_text totals = codes "frames " ++ decimal totals.frames ++ codes " sunk " ++ decimal totals.sunk
    ++ codes " late " ++ decimal totals.late ++ codes " size " ++ decimal totals.size

-- the same behind `total`, as a line
unfoldable pub totals_line : Totals → List ℕ
totals_line totals = codes "total " ++ counts_text totals ++ codes "\n"
