use Rattle.std.specs.Prelude.{ℕ, ◌+◌, ◌-◌, ◌*◌, ◌≤◌, List, length, sum_by, All}
use Rattle.std.specs.List.{zip}
use Rattle.ats_num.specs.declared.time.TheConstants.{PS_PER_SECOND}
use Rattle.ats_transmit.specs.Sending.{last_end}
use Rattle.ats_transmit.specs.State.{PortState}
use Rattle.ats_events.specs.declared.moment.Moment.{Moment}
use Rattle.ats_trace.specs.declared.run.TheConstants.{MAX_HOPS}
use Rattle.ats_run_records.specs.Progress.{Progress}
use Rattle.ats_engine_steps.specs.Course.{Course}
use Rattle.ats_engine_steps.specs.declared.event.Event.{Event}
use Rattle.ats_engine_steps.specs.declared.stage.Stage.{Stage}
use Rattle.ats_engine_steps.specs.declared.stage.Stage.TheVariants.{Apart, Coming, Due, Waiting, Over}

-- the most that a transmission takes, and that passes from its end to the arrival, in picoseconds
abbrev pub most_sending : ℕ
most_sending = 1616000000

abbrev pub most_latency : ℕ
most_latency = 2000000000

-- the most that a frame takes from its arrival at one port to its arrival at the next, apart from waiting
abbrev pub most_hop : ℕ
most_hop = PS_PER_SECOND + most_sending + most_latency

-- how many ports of a leg a frame has still to come to
abbrev pub ports_left : Progress → ℕ
ports_left progress = progress.room - length progress.hops

-- the most that a frame at this stage of a leg takes still along it, apart from waiting; a leg to which it has not come
-- counts all its ports
abbrev pub most_left : Stage × Progress → ℕ
most_left (Apart, progress) = ports_left progress * most_hop
most_left (Coming at, progress) = ports_left progress * most_hop
most_left (Due at, progress) = ports_left progress * most_hop + most_sending + most_latency
most_left (Waiting, progress) = ports_left progress * most_hop + most_sending + most_latency
most_left (Over, progress) = 0

-- what all frames take still along all legs
abbrev pub all_left : {T : Type 0} → Course T → ℕ
all_left course = sum_by most_left (zip course.stages course.records)

-- how many events of a frame at this stage of a leg, and selections of it, are still to come at the most
abbrev pub events_left : Stage × Progress → ℕ
events_left (Apart, progress) = 3 * ports_left progress
events_left (Coming at, progress) = 3 * ports_left progress + 1
events_left (Due at, progress) = 3 * ports_left progress + 3
events_left (Waiting, progress) = 3 * ports_left progress + 2
events_left (Over, progress) = 0

-- those of all legs
abbrev pub steps_left : {T : Type 0} → Course T → ℕ
steps_left course = sum_by events_left (zip course.stages course.records)

-- the most that a time of a run can be: the greatest release, and 3,200,000 hops
abbrev pub horizon : ℕ
horizon = 100000000000000000 + MAX_HOPS * most_hop

-- no event that is to happen is so late that the rest would pass the horizon, and neither is the last one, or the end
-- of a transmission
pub record EndsInTime {T : Type 0} (course : Course T) (entries : List (Moment × Event)) : Type 0 where
  pub last : course.last.at.0 + all_left course ≤ horizon
  pub each : All (λ (entry : Moment × Event). entry.0.at.0 + all_left course ≤ horizon) entries
  pub ends : All (λ (standing : PortState T). last_end standing.sent + all_left course ≤ horizon) course.ports
