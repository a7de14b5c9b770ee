use Rattle.std.specs.Prelude.{◌≡◌, ℕ, ◌<◌, ◌≤◌, List, ◌∷◌, All}
use Rattle.ats_group.specs.declared.verdict.Verdict.{Verdict}
use Rattle.ats_events.specs.declared.moment.Moment.{Moment}
use Rattle.ats_events.specs.declared.phase.TheConstants.{SELECTION}
use Rattle.ats_network.specs.Network.{DeclaredNetwork}
use Rattle.ats_network.specs.Class.{class_at}
use Rattle.ats_trace.specs.Projections.{Crossing, Handed}
use Rattle.ats_trace.specs.declared.journey.Release.{Release}
use Rattle.ats_run_records.specs.Progress.{Progress}
use Rattle.ats_engine_steps.specs.Course.{Course, place_of, sender_of}
use Rattle.ats_engine_steps.specs.Entries.{IsReached, eligible_moment}
use Rattle.ats_engine_steps.specs.Invariant.{Holds}
use Rattle.ats_engine_steps.specs.declared.event.Event.{Event}
use Rattle.ats_engine_steps.specs.declared.event.Event.TheVariants.{Eligibility}

-- the next event of a run: what holds does so with its entry, and no other event that is to happen is before it by time
-- and phase
pub record IsNext {T : Type 0} (key : T → ℕ → ℕ → ℕ) (wait : ℕ → ℕ → ℕ) (network : DeclaredNetwork)
    (releases : List Release) (course : Course T) (now : Moment) (event : Event) (entries : List (Moment × Event))
    : Type 0 where
  pub holds : Holds key wait network releases course ((now, event) ∷ entries)
  pub first : All (λ (entry : Moment × Event). IsReached now entry.0) entries

-- a frame becomes eligible along a leg at the time of an event before selections, its own or its arrival: what holds
-- does so with the entry of that, no other event that is to happen is before this one, and the last one is not after it
pub record IsEligibleNow {T : Type 0} (key : T → ℕ → ℕ → ℕ) (wait : ℕ → ℕ → ℕ) (network : DeclaredNetwork)
    (releases : List Release) (course : Course T) (now : Moment) (row : ℕ) (entries : List (Moment × Event))
    : Type 0 where
  pub holds : Holds key wait network releases course ((eligible_moment row now.at, Eligibility row) ∷ entries)
  pub first : All (λ (entry : Moment × Event). IsReached now entry.0) entries
  pub reached : IsReached course.last now
  pub before : now.phase < SELECTION

-- a moment is after another one by its time and its phase
pub record IsAfter (now next : Moment) : Type 0 where
  pub time : now.at.0 ≤ next.at.0
  pub phase : now.at.0 ≡ next.at.0 → now.phase < next.phase

-- a frame that was sent by the port of a leg's last record arrives behind it at this time, with this verdict
pub record IsArrival (network : DeclaredNetwork) (progress : Progress) (at : ℕ) (verdict : Verdict)
    (h : Handed) : Type 0 where
  pub named : h.crossing.sent.frame ≡ progress.frame
  pub of_sender : h.crossing.sent.sender ≡ progress.release.sender
  pub octets : h.crossing.octets ≡ progress.release.octets
  pub behind : h.crossing.port ≡ place_of network progress
  pub in_class : h.crossing.sent.class ≡ class_at (sender_of network progress) (place_of network progress)
  pub arrives : h.crossing.arrival ≡ at
  pub judged : h.verdict ≡ verdict

-- a frame whose transmission by the port of a leg's last record ends at this time crosses it, and arrives behind it at
-- that
pub record IsCrossing (network : DeclaredNetwork) (progress : Progress) (end at : ℕ) (x : Crossing)
    : Type 0 where
  pub named : x.sent.frame ≡ progress.frame
  pub behind : x.port ≡ place_of network progress
  pub ends : x.sent.end ≡ end
  pub arrives : x.arrival ≡ at
