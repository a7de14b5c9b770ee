use Rattle.std.specs.Prelude.{ℕ, List, ◌++◌, Option}
use Rattle.ats_num.specs.declared.time.Ps.{Ps}
use Rattle.ats_num.specs.Pace.{WaitsWithin}
use Rattle.ats_network.specs.Network.{DeclaredNetwork}
use Rattle.ats_events.specs.declared.moment.Moment.{Moment}
use Rattle.ats_trace.specs.declared.journey.Release.{Release}
use Rattle.ats_engine_steps.specs.Course.{Course}
use Rattle.ats_engine_steps.specs.Invariant.{Holds}
use Rattle.ats_engine_steps.specs.Steps.{Comes, BecomesEligible, Selects, due_entries, rows_next}
use Rattle.ats_engine_steps.specs.declared.event.Event.{Event}
use Rattle.ats_engine_steps.specs.declared.event.Event.TheVariants.{Arrival, Selection}
use Rattle.ats_engine_proofs.specs.Next.{IsEligibleNow, IsNext}
use Rattle.ats_engine_proofs.proofs.Entries.{comes-awaited, offered-awaited, selects-awaited}
use Rattle.ats_engine_proofs.proofs.Frames.{comes-shape, comes-frames, offered-shape, offered-frames, selects-shape}
use Rattle.ats_engine_proofs.proofs.Frames.{selects-frames}
use Rattle.ats_engine_proofs.proofs.Groups.{comes-members, comes-groups, comes-flows, offered-members, offered-groups}
use Rattle.ats_engine_proofs.proofs.Groups.{offered-flows, selects-members, selects-groups, selects-flows}
use Rattle.ats_engine_proofs.proofs.Paces.{comes-paces, offered-paces, selects-paces}
use Rattle.ats_engine_proofs.proofs.Ports.{comes-ports, offered-ports, selects-ports}
use Rattle.ats_engine_proofs.proofs.Times.{comes-bounds, offered-bounds, selects-bounds}

-- what holds does so again after each step: a frame that comes, along a leg and those that begin there
pub comes-holds : {T : Type 0} {key : T → ℕ → ℕ → ℕ} {wait : ℕ → ℕ → ℕ} {network : DeclaredNetwork}
    {releases : List Release} {old new : Course T} {now : Moment} {row : ℕ} {entries : List (Moment × Event)}
    {due : Option Ps} → IsNext key wait network releases old now (Arrival row) entries
    → Comes network old new now row due
    → Holds key wait network releases new (due_entries due (rows_next network old row) ++ entries)
comes-holds next step =
    record {
      rules = next.holds.rules;
      shape = comes-shape next step;
      frames = comes-frames next step;
      awaited = comes-awaited next step;
      ports = comes-ports next step;
      paces = comes-paces next step;
      members = comes-members next step;
      groups = comes-groups next step;
      flows = comes-flows next step;
      bounds = comes-bounds next step;
    }

-- a frame that becomes eligible along a leg
pub offered-holds : {T : Type 0} {key : T → ℕ → ℕ → ℕ} {wait : ℕ → ℕ → ℕ} {network : DeclaredNetwork}
    {releases : List Release} {old new : Course T} {now : Moment} {row : ℕ} {entries more : List (Moment × Event)}
    → IsEligibleNow key wait network releases old now row entries
    → BecomesEligible key network old new now row more
    → Holds key wait network releases new (more ++ entries)
offered-holds next step =
    record {
      rules = next.holds.rules;
      shape = offered-shape next step;
      frames = offered-frames next step;
      awaited = offered-awaited next step;
      ports = offered-ports next step;
      paces = offered-paces next step;
      members = offered-members next step;
      groups = offered-groups next step;
      flows = offered-flows next step;
      bounds = offered-bounds next step;
    }

-- a port that selects
pub selects-holds : {T : Type 0} {key : T → ℕ → ℕ → ℕ} {wait : ℕ → ℕ → ℕ} {network : DeclaredNetwork}
    {releases : List Release} {old new : Course T} {now : Moment} {port : ℕ} {entries more : List (Moment × Event)}
    → WaitsWithin wait → IsNext key wait network releases old now (Selection port) entries
    → Selects key wait network old new now port more → Holds key wait network releases new (more ++ entries)
selects-holds within next step =
    record {
      rules = next.holds.rules;
      shape = selects-shape next step;
      frames = selects-frames next step;
      awaited = selects-awaited next step;
      ports = selects-ports next step;
      paces = selects-paces within next step;
      members = selects-members next step;
      groups = selects-groups next step;
      flows = selects-flows next step;
      bounds = selects-bounds within next step;
    }
