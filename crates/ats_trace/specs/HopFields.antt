-- How a hop record is kept: a start that is a time tells that the frame was sent, and so that it was eligible; another
-- one tells the kind of the verdict.
use Rattle.std.specs.Prelude.{◌≡◌, ℕ, ◌==◌, nat_lt, if◌then◌else◌, Option, Some, None}
use Rattle.ats_num.specs.declared.time.Ps.{Ps}
use Rattle.ats_num.specs.declared.time.TheConstants.{END}
use Rattle.ats_group.specs.declared.verdict.Verdict.{Verdict}
use Rattle.ats_group.specs.declared.verdict.Verdict.TheVariants.{Eligible, Late, Size}
use Rattle.ats_trace.specs.HopRecord.{HopRecord}
use Rattle.ats_trace.specs.declared.hop_record.TheConstants.{UNSENT, LATE, OVERSIZE}
use Rattle.ats_trace.specs.declared.hop_record.HopRecord.TheInside.{Inside}

-- the verdict that a start tells, with this time
abbrev pub verdict_by : ℕ → Ps → Verdict
verdict_by start decided =
    if start == LATE then Late decided
    else (if start == OVERSIZE then Size else Eligible decided)

-- the transmission, with this end
abbrev pub sent_by : ℕ → Ps → Option (Ps × Ps)
sent_by start end = if nat_lt start END then Some (record { 0 = start }, end) else None

-- what the fields tell
abbrev pub told_by : Inside → HopRecord
told_by fields = record {
  arrival = fields.arrival;
  verdict = verdict_by fields.start fields.decided;
  sent = sent_by fields.start fields.end;
}

-- what stands in place of a start, and the time of a verdict
abbrev pub mark_of : Verdict → ℕ
mark_of (Eligible at) = UNSENT
mark_of (Late at) = LATE
mark_of Size = OVERSIZE

abbrev pub time_of : Verdict → Ps
time_of (Eligible at) = at
time_of (Late at) = at
time_of Size = record { 0 = 0 }

-- the start and the end that are kept
abbrev pub start_of : Verdict → Option (Ps × Ps) → ℕ
start_of verdict (Some times) = times.0.0
start_of verdict None = mark_of verdict

abbrev pub end_of : Option (Ps × Ps) → Ps
end_of (Some times) = times.1
end_of None = record { 0 = 0 }

-- the fields that tell this
abbrev pub fields_of : HopRecord → Inside
fields_of hop = record {
  arrival = hop.arrival;
  decided = time_of hop.verdict;
  start = start_of hop.verdict hop.sent;
  end = end_of hop.sent;
}

-- nothing is in the fields but what they tell
abbrev pub IsWhatIsTold : Inside → Type 0
IsWhatIsTold fields = fields_of (told_by fields) ≡ fields
