use Rattle.std.specs.Prelude.{ℕ, zero, suc, ◌+◌, List, [], ◌++◌, map, Option, Some, None}
use Rattle.ats_num.specs.declared.time.Ps.{Ps}
use Rattle.ats_group.specs.declared.verdict.Verdict.{Verdict}
use Rattle.ats_group.specs.declared.verdict.Verdict.TheVariants.{Eligible, Late, Size}
use Rattle.ats_trace.specs.Journey.{Leg, Travel}
use Rattle.ats_trace.specs.declared.journey.Release.{Release}
use Rattle.ats_trace.specs.HopRecord.{HopRecord}
use Rattle.ats_trace.specs.declared.journey.Ending.{Ending}
use Rattle.ats_trace.specs.declared.journey.Ending.TheVariants.{Sink, Discard}

-- A run that happens so many picoseconds later: these are added to each of its times, and nothing else changes.

abbrev pub later_time : ℕ → Ps → Ps
later_time by at = record { 0 = at.0 + by }

abbrev pub later_verdict : ℕ → Verdict → Verdict
later_verdict by (Eligible at) = Eligible (later_time by at)
later_verdict by (Late at) = Late (later_time by at)
later_verdict by Size = Size

abbrev pub later_times : ℕ → Option (Ps × Ps) → Option (Ps × Ps)
later_times by (Some times) = Some (later_time by times.0, later_time by times.1)
later_times by None = None

abbrev pub later_record : ℕ → HopRecord → HopRecord
later_record by hop = record {
  arrival = later_time by hop.arrival;
  verdict = later_verdict by hop.verdict;
  sent = later_times by hop.sent;
}

abbrev pub later_ending : ℕ → Ending → Ending
later_ending by (Sink at) = Sink (later_time by at)
later_ending by Discard = Discard

abbrev pub later_release : ℕ → Release → Release
later_release by release =
    record { at = later_time by release.at; sender = release.sender; octets = release.octets }

abbrev pub later_leg : ℕ → Leg → Leg
later_leg by leg = record { hops = map (later_record by) leg.hops; ending = later_ending by leg.ending }

abbrev pub later_travel : ℕ → Travel → Travel
later_travel by j = record {
  release = later_release by j.release;
  hops = map (later_record by) j.hops;
  ending = later_ending by j.ending;
  copies = map (later_leg by) j.copies;
}

abbrev pub later_run : ℕ → List Travel → List Travel
later_run by run = map (later_travel by) run

-- a run so many times, each time so many picoseconds after the last time
abbrev pub repeated : ℕ → ℕ → List Travel → List Travel
repeated by zero run = []
repeated by (suc n) run = run ++ later_run by (repeated by n run)
