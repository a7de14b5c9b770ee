use Rattle.std.specs.Prelude.{◌≡◌, List, length, replicate}
use Rattle.ats_group.specs.GroupsState as groups_states
use Rattle.ats_network.specs.Network.{IsNetwork}
use Rattle.ats_schedulers.specs.Schedulers.{members_of, residences_of}
use Rattle.ats_trace.specs.Releases.{AreReleases, HaveFewPorts}
use Rattle.ats_trace.specs.declared.journey.Release.{Release}
use Rattle.ats_run_records.specs.Progress.{Ledger, opened}
use Rattle.ats_engine_steps.specs.declared.turn.Turn.TheVariants.{Resting}
use Rattle.ats_engine_proofs.specs.Opened.{stages_of}
use Rattle.ats_engine.specs.Rooms.{AreOpened}
use Rattle.ats_engine.specs.Setting.{Setting}
use Rattle.ats_engine.specs.Starts.{AreReleased}
use Rattle.ats_engine.specs.Told.{agenda_told}
use Rattle.ats_engine.specs.declared.opening.Opening.{Opening}

-- all of a run of these releases, in which nothing has happened yet, but its records
pub record IsOpening {T O P : Type 0} (releases : List Release) (opening : Opening T O P) : Type 0 where
  pub rules : IsNetwork opening.network.now
  pub are : AreReleases opening.network.now releases
  pub few_ports : HaveFewPorts opening.network.now releases
  pub schedulers : opening.schedulers ≡ opening.network.now
  pub stages : opening.stages ≡ stages_of opening.network.now releases
  pub ports : AreOpened opening.network.now releases opening.tie opening.ports.items
  pub turns : opening.turns.items ≡ replicate (length opening.network.now.topology.ports) Resting
  pub arrives_from : opening.arrives_from.items
      ≡ replicate (length opening.network.now.topology.ports) (record { 0 = 0 })
  pub groups : opening.groups
      ≡ groups_states.opened (residences_of opening.network.now) (members_of opening.network.now)
  pub agenda : AreReleased opening.network.now releases opening.agenda.order (agenda_told opening.agenda)

-- what is run of these releases
abbrev pub given_to : {T O P : Type 0} → Opening T O P → List Release → Setting T O P
given_to opening releases = record {
  network = opening.network.now;
  releases = releases;
  tie = opening.tie;
  order = opening.agenda.order;
  pace = opening.pace;
}

-- with these records, of the same releases, it is a run that may begin
pub record MayBegin {T O P : Type 0} (opening : Opening T O P) (records : Ledger) : Type 0 where
  pub releases : List Release
  pub is : IsOpening releases opening
  pub fresh : records ≡ opened opening.network.now releases
