use Rattle.std.proofs.Common.{◌≡◌, ℕ, List, [], sym, ap, ◌∙◌, subst}
use Rattle.ats_network.specs.Network.{DeclaredNetwork}
use Rattle.ats_events.specs.Contents.{Contents}
use Rattle.ats_events.specs.declared.moment.Moment.{Moment}
use Rattle.ats_trace.specs.Journey.{Travel}
use Rattle.ats_trace.specs.Run.{IsRunBy, HasReleases}
use Rattle.ats_trace.specs.declared.journey.Release.{Release}
use Rattle.ats_run_records.specs.Progress.{finished}
use Rattle.ats_engine_steps.specs.Invariant.{Holds}
use Rattle.ats_engine_steps.specs.Seen.{course_of}
use Rattle.ats_engine_steps.specs.declared.event.Event.{Event}
use Rattle.ats_engine.specs.Opened.{setting_of}
use Rattle.ats_engine.specs.Ready.{IsReady, Follows, releases_in}
use Rattle.ats_engine.specs.Setting.{Setting}
use Rattle.ats_engine_proofs.specs.InTime.{IsRunInTime}
use Rattle.ats_engine_proofs.proofs.Conclusion.{ended-run}
use Rattle.ats_engine_proofs.proofs.InTime.{ended-in-time}
use Rattle.ats_engine.specs.declared.runner.Runner.{Runner}

-- where the agenda is empty, what holds does so with no entries
holds-empty : {T P S : Type 0} {key : T → ℕ → ℕ → ℕ} {wait : P → ℕ → ℕ → ℕ} {runner : Runner T P S}
    {entries : List (Moment × Event)} {capacity : ℕ} → IsReady key wait runner entries capacity → entries ≡ []
    → Holds key (wait runner.pace) runner.network.now (releases_in runner.state.records) (course_of runner.state) []
holds-empty {T} {P} {S} {key} {wait} {runner} ready empty =
    subst (λ (es : List (Moment × Event)). Holds key (wait runner.pace) runner.network.now
    (releases_in runner.state.records) (course_of runner.state) es) empty ready.holds

-- then the finished journeys are a run of what the engine was opened with, by its tie and its pace
pub run-by : {T O P S : Type 0} {key : T → ℕ → ℕ → ℕ} {wait : P → ℕ → ℕ → ℕ} (setting : Setting T O P)
    {first last : Runner T P S} (agenda : Contents O Event) {entries : List (Moment × Event)} {capacity : ℕ}
    {run : List Travel} → setting_of first agenda ≡ setting → Follows last first
    → IsReady key wait last entries capacity → entries ≡ [] → run ≡ finished last.state.records
    → IsRunBy (key setting.tie) (wait setting.pace) setting.network run × HasReleases setting.releases run
run-by {T} {O} {P} {S} {key} {wait} setting {first} {last} agenda seen follows ready empty is =
    let tie : last.state.tie ≡ setting.tie = follows.tie ∙ ap (λ (s : Setting T O P). s.tie) seen in
    let pace : last.pace ≡ setting.pace = follows.pace ∙ ap (λ (s : Setting T O P). s.pace) seen in
    let network : last.network.now ≡ setting.network = follows.network ∙ ap (λ (s : Setting T O P). s.network) seen in
    let releases : releases_in last.state.records ≡ setting.releases =
    follows.releases ∙ ap (λ (s : Setting T O P). s.releases) seen in
    let ended = ended-run (holds-empty ready empty) in
    let whole = finished last.state.records in (
      subst (IsRunBy (key setting.tie) (wait setting.pace) setting.network) (sym is)
          (subst (λ (n : DeclaredNetwork). IsRunBy (key setting.tie) (wait setting.pace) n whole) network
          (subst (λ (p : P). IsRunBy (key setting.tie) (wait p) last.network.now whole) pace
          (subst (λ (t : T). IsRunBy (key t) (wait last.pace) last.network.now whole) tie ended.0))),
      subst (HasReleases setting.releases) (sym is)
          (subst (λ (rs : List Release). HasReleases rs whole) releases ended.1),
    )

-- and all that it tells was before the end of time
pub run-in-time : {T P S : Type 0} {key : T → ℕ → ℕ → ℕ} {wait : P → ℕ → ℕ → ℕ} {last : Runner T P S}
    {entries : List (Moment × Event)} {capacity : ℕ} {run : List Travel} → IsReady key wait last entries capacity
    → entries ≡ [] → run ≡ finished last.state.records → IsRunInTime run
run-in-time ready empty is = subst IsRunInTime (sym is) (ended-in-time (holds-empty ready empty))
