use Rattle.std.proofs.Common.{List, ap, sym, ◌∙◌}
use Rattle.ats_trace.specs.declared.journey.Release.{Release}
use Rattle.ats_run_records.specs.Progress.{opened}
use Rattle.ats_engine.specs.Setting.{Setting}
use Rattle.ats_engine.proofs.Starting.{may-begin, setting-first}
use Rattle.ats_engine.proofs.engine.Engine+T+O+P+Brief.open_brief.Goals as goal

pub begin-requires : goal.begin-requires
begin-requires g c =
    may-begin c.in_ok-opening.opening c.in_ok-opening.ensures.opens c.in_ok-opening.ensures.given
    (c.in_ok-records.ensures ∙ ap (opened c.args.net.now) (sym c.deref.ensures.value))

pub returns : goal.returns
returns g c =
    let given : List Release → Setting g.row.T.Denot g.row.O.Denot g.row.P.Denot = λ releases. record {
      network = c.args.net.now;
      releases = releases;
      tie = c.args.tie;
      order = c.args.order;
      pace = c.args.pace;
    } in
    c.begin.ensures
    ∙ setting-first c.in_ok-opening.opening c.in_ok-opening.ensures.given
    (c.in_ok-records.ensures ∙ ap (opened c.args.net.now) (sym c.deref.ensures.value))
    ∙ ap given c.deref.ensures.value
