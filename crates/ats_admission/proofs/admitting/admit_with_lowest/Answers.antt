use Rattle.std.proofs.Common.{◌∙◌}
use Rattle.ats_admission.proofs.Entered.{IsIn, classed_in, given_answer, given_certified, in_named}
use Rattle.ats_admission.proofs.Entered.{none_told, out_again}
use Rattle.ats_admission.proofs.Pending.{in_waits}
use Rattle.ats_admission.proofs.admitting.admit_with_lowest.Goals as goal

pub lowest-requires : goal.lowest-requires
lowest-requires c =
    in_waits c.args.network.now c.enter.new.network c.args.stream c.in_ok-number.number c.args.kept.now
    c.requires.session c.in_ok-number.ensures.number c.in_ok-number.ensures.ok

pub returns-in-Ok-clause-ok : goal.returns-in-Ok-clause-ok
returns-in-Ok-clause-ok c =
    let in' : IsIn c.args.network.now c.args.stream c.in_ok-number.number c.enter.new.network = record {
      certified = c.requires.session.certified;
      may = c.requires.enters;
      free = c.in_ok-number.ensures.free;
      number = c.in_ok-number.ensures.number;
      is = c.in_ok-number.ensures.ok;
    } in
    c.in-Ok.ensures.network
    ∙ classed_in c.args.network.now c.args.stream c.in_ok-number.number c.enter.new.network c.in-Ok.given.0 in'

pub leave-requires-clause-named : goal.leave-requires-clause-named
leave-requires-clause-named c =
    let in' : IsIn c.args.network.now c.args.stream c.in_ok-number.number c.enter.new.network = record {
      certified = c.requires.session.certified;
      may = c.requires.enters;
      free = c.in_ok-number.ensures.free;
      number = c.in_ok-number.ensures.number;
      is = c.in_ok-number.ensures.ok;
    } in
    in_named c.args.network.now c.args.stream c.in_ok-number.number c.enter.new.network c.lowest.new.network
    c.name-name.result in' c.in-Err.ensures.others c.name-name.ensures

pub returns-in-Ok-clause-answer : goal.returns-in-Ok-clause-answer
returns-in-Ok-clause-answer c =
    let in' : IsIn c.args.network.now c.args.stream c.in_ok-number.number c.enter.new.network = record {
      certified = c.requires.session.certified;
      may = c.requires.enters;
      free = c.in_ok-number.ensures.free;
      number = c.in_ok-number.ensures.number;
      is = c.in_ok-number.ensures.ok;
    } in
    given_answer c.args.network.now c.args.stream c.in_ok-number.number c.enter.new.network c.in-Ok.given.0
    c.in-Ok.given.1 in' c.in-Ok.ensures.given

pub returns-in-Ok-clause-session : goal.returns-in-Ok-clause-session
returns-in-Ok-clause-session c =
    let in' : IsIn c.args.network.now c.args.stream c.in_ok-number.number c.enter.new.network = record {
      certified = c.requires.session.certified;
      may = c.requires.enters;
      free = c.in_ok-number.ensures.free;
      number = c.in_ok-number.ensures.number;
      is = c.in_ok-number.ensures.ok;
    } in
    record {
      certified = given_certified c.args.network.now c.args.stream c.in_ok-number.number c.enter.new.network
          c.lowest.new.network c.in-Ok.given.0 c.in-Ok.given.1 in' c.in-Ok.ensures.given c.in-Ok.ensures.network;
      kept = c.in-Ok.ensures.kept;
    }

pub returns-in-Err-clause-answer : goal.returns-in-Err-clause-answer
returns-in-Err-clause-answer c =
    let in' : IsIn c.args.network.now c.args.stream c.in_ok-number.number c.enter.new.network = record {
      certified = c.requires.session.certified;
      may = c.requires.enters;
      free = c.in_ok-number.ensures.free;
      number = c.in_ok-number.ensures.number;
      is = c.in_ok-number.ensures.ok;
    } in
    none_told c.args.network.now c.args.stream c.in_ok-number.number c.enter.new.network c.in-Err.failure in'
    c.in-Err.ensures.none

pub returns-in-Err-clause-err : goal.returns-in-Err-clause-err
returns-in-Err-clause-err c =
    let in' : IsIn c.args.network.now c.args.stream c.in_ok-number.number c.enter.new.network = record {
      certified = c.requires.session.certified;
      may = c.requires.enters;
      free = c.in_ok-number.ensures.free;
      number = c.in_ok-number.ensures.number;
      is = c.in_ok-number.ensures.ok;
    } in
    out_again c.args.network.now c.args.stream c.in_ok-number.number c.enter.new.network c.lowest.new.network
    c.leave.new.network in' c.in-Err.ensures.others c.leave.ensures.network
