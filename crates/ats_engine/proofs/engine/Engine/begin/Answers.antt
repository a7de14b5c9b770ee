use Rattle.std.proofs.Common.{ap, refl}
use Rattle.ats_run_records.specs.Progress.{Ledger}
use Rattle.ats_engine.specs.Told.{agenda_told}
use Rattle.ats_engine.proofs.Starting.{ports-fresh, ready-first}
use Rattle.ats_engine.proofs.engine.Engine.begin.Goals as goal

pub invariant_of-result : goal.invariant_of-result
invariant_of-result g c =
    let opening = c.args.opening in
    let rs = c.requires.releases in
    let is = c.requires.is in
    let legs = ap (λ (l : Ledger). l.legs) c.requires.fresh in
    let firsts = ap (λ (l : Ledger). l.firsts) c.requires.fresh in
    ready-first g.T.Tie.key g.P.Pace.wait rs opening.agenda.order _ (agenda_told opening.agenda) is.rules is.are
    is.few_ports is.schedulers
    (record {
      stages = is.stages;
      records = legs;
      firsts = firsts;
      count = is.ports.all;
      ports = ports-fresh opening.network.now rs opening.tie _ is.ports refl legs firsts;
      turns = is.turns;
      arrives_from = is.arrives_from;
      groups = is.groups;
      last = refl;
    })
    is.agenda
