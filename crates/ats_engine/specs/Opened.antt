use Rattle.std.specs.Prelude.{◌≡◌, ℕ, None}
use Rattle.ats_events.specs.Contents.{Contents}
use Rattle.ats_engine_steps.specs.declared.event.Event.{Event}
use Rattle.ats_engine.specs.declared.runner.Runner.{Runner}
use Rattle.ats_engine.specs.Ready.{IsReady, releases_in}
use Rattle.ats_engine.specs.Setting.{Setting}

-- what a runner with this agenda runs
abbrev pub setting_of : {T O P S : Type 0} → Runner T P S → Contents O Event → Setting T O P
setting_of runner agenda = record {
  network = runner.network.now;
  releases = releases_in runner.state.records;
  tie = runner.state.tie;
  order = agenda.order;
  pace = runner.pace;
}

-- it is ready for its first event
pub record IsFirst {T O P S : Type 0} (key : T → ℕ → ℕ → ℕ) (wait : P → ℕ → ℕ → ℕ) (runner : Runner T P S)
    (agenda : Contents O Event) : Type 0 where
  pub ready : IsReady key wait runner agenda.entries agenda.capacity
  pub last : agenda.last ≡ None
