use Rattle.std.proofs.Common.{◌≡◌, ◌-◌, ◌++◌, ℕ, List, length, map, ap, ◌∙◌, refl, replicate, arith, length-append}
use Rattle.ats_num.specs.declared.time.Ps.{Ps}
use Rattle.ats_topology.specs.Topology.{DeclaredTopology}
use Rattle.ats_topology.specs.declared.port.Port.{Port}
use Rattle.ats_group.specs.GroupsState as groups_states
use Rattle.ats_schedulers.specs.Schedulers.{members_of, residences_of}
use Rattle.ats_trace.specs.declared.journey.Release.{Release}
use Rattle.ats_run_records.specs.Progress.{copies_opened, trunks_opened}
use Rattle.ats_run_records.proofs.AllCounts.{length-trunks}
use Rattle.ats_engine_steps.specs.declared.stage.Stage.TheVariants.{Apart, Coming}
use Rattle.ats_engine_steps.specs.declared.turn.Turn.{Turn}
use Rattle.ats_engine_steps.specs.declared.turn.Turn.TheVariants.{Resting}
use Rattle.ats_engine.specs.Setting.{Setting}
use Rattle.ats_engine.proofs.opening.Opening.of.Goals as goal

pub stages_of-requires : goal.stages_of-requires
stages_of-requires g c =
    omega (
      arith,
      c.legs_of-legs.ensures,
      length-append (trunks_opened c.args.net.now 0 c.args.releases.now)
          (copies_opened c.args.net.now 0 c.args.releases.now),
      length-trunks c.args.net.now 0 c.args.releases.now,
    )

pub returns-clause-opens : goal.returns-clause-opens
returns-clause-opens g c =
    let links : c.ports-count.result.now ≡ c.args.net.now.topology.ports = c.ports-count.ensures.value
    ∙ ap (λ (t : DeclaredTopology). t.ports) c.topology.ensures.value in
    let count : length c.ports-count.result.now ≡ length c.args.net.now.topology.ports =
    ap (λ (l : List Port). length l) links in
    let copies : c.legs_of-legs.result - length c.args.releases.now
    ≡ length (copies_opened c.args.net.now 0 c.args.releases.now) =
    omega (
      arith,
      c.legs_of-legs.ensures,
      length-append (trunks_opened c.args.net.now 0 c.args.releases.now)
          (copies_opened c.args.net.now 0 c.args.releases.now),
      length-trunks c.args.net.now 0 c.args.releases.now,
    ) in
    let agenda = c.in_ok-agenda_of.ensures in
    record {
      rules = c.topology.ensures.rules;
      are = c.requires.releases;
      few_ports = c.requires.few_ports;
      schedulers = c.in_ok-schedulers.ensures;
      stages = c.stages_of.ensures
          ∙ ap (λ (n : ℕ). map (λ (r : Release). Coming r.at) c.args.releases.now ++ replicate n Apart) copies;
      ports = c.in_ok-ports_of.ensures;
      turns = c.in_ok-vec.ensures.items_if_clones_equal (λ (y : Turn) same. same)
          ∙ ap (λ (n : ℕ). replicate n Resting) count;
      arrives_from = c.in_ok-vec-2.ensures.items_if_clones_equal (λ (y : Ps) same. same)
          ∙ ap (λ (n : ℕ). replicate {A = Ps} n (record { 0 = 0 })) count;
      groups = c.in_ok-open.ensures.value
          ∙ ap (λ (l : List ℕ). groups_states.opened l c.members.result.now)
          (c.residences.ensures.value ∙ ap residences_of c.in_ok-schedulers.ensures)
          ∙ ap (groups_states.opened (residences_of c.args.net.now))
          (c.members.ensures.value ∙ ap members_of c.in_ok-schedulers.ensures);
      agenda = record {
        entries = agenda.entries;
        capacity = agenda.capacity;
        ordered = refl;
        last = agenda.last;
      };
    }

pub returns-clause-given : goal.returns-clause-given
returns-clause-given g c =
    let given : g.row.O.Denot → Setting g.row.T.Denot g.row.O.Denot g.row.P.Denot = λ order. record {
      network = c.args.net.now;
      releases = c.args.releases.now;
      tie = c.args.tie;
      order = order;
      pace = c.args.pace;
    } in
    ap given c.in_ok-agenda_of.ensures.ordered
