use Rattle.ats_admission.proofs.Classed.{same_at_first}
use Rattle.ats_admission.proofs.Entered.{IsIn, in_certified, in_named, out_again, refused_told}
use Rattle.ats_admission.proofs.Pending.{in_waits, still_waits}
use Rattle.ats_admission.proofs.admitting.admit_stream.Goals as goal

pub judge-requires-clause-free : goal.judge-requires-clause-free
judge-requires-clause-free c =
    (in_waits c.args.network.now c.enter.new.network c.args.stream c.in_ok-number.number c.args.kept.now
    c.requires.session c.in_ok-number.ensures.number c.in_ok-number.ensures.ok).free

pub judge-requires-clause-beside : goal.judge-requires-clause-beside
judge-requires-clause-beside c =
    (in_waits c.args.network.now c.enter.new.network c.args.stream c.in_ok-number.number c.args.kept.now
    c.requires.session c.in_ok-number.ensures.number c.in_ok-number.ensures.ok).beside

pub leave-requires-clause-pending : goal.leave-requires-clause-pending
leave-requires-clause-pending c =
    still_waits c.in_ok-number.number c.enter.new.network c.args.kept.now c.judge.new.self
    (in_waits c.args.network.now c.enter.new.network c.args.stream c.in_ok-number.number c.args.kept.now
    c.requires.session c.in_ok-number.ensures.number c.in_ok-number.ensures.ok)
    c.in-Err.ensures.err

pub returns-in-Err-clause-answer : goal.returns-in-Err-clause-answer
returns-in-Err-clause-answer c =
    let in' : IsIn c.args.network.now c.args.stream c.in_ok-number.number c.enter.new.network = record {
      certified = c.requires.session.certified;
      may = c.requires.enters;
      free = c.in_ok-number.ensures.free;
      number = c.in_ok-number.ensures.number;
      is = c.in_ok-number.ensures.ok;
    } in
    refused_told c.args.network.now c.args.stream c.in_ok-number.number c.enter.new.network c.in-Err.failure
    c.because.result in' c.because.ensures c.in-Err.ensures.answer

pub leave-requires-clause-named : goal.leave-requires-clause-named
leave-requires-clause-named c =
    let in' : IsIn c.args.network.now c.args.stream c.in_ok-number.number c.enter.new.network = record {
      certified = c.requires.session.certified;
      may = c.requires.enters;
      free = c.in_ok-number.ensures.free;
      number = c.in_ok-number.ensures.number;
      is = c.in_ok-number.ensures.ok;
    } in
    in_named c.args.network.now c.args.stream c.in_ok-number.number c.enter.new.network c.enter.new.network
    c.name-name.result in' (same_at_first c.in_ok-number.number c.enter.new.network) c.name-name.ensures

pub returns-in-Ok-clause-session : goal.returns-in-Ok-clause-session
returns-in-Ok-clause-session c =
    let in' : IsIn c.args.network.now c.args.stream c.in_ok-number.number c.enter.new.network = record {
      certified = c.requires.session.certified;
      may = c.requires.enters;
      free = c.in_ok-number.ensures.free;
      number = c.in_ok-number.ensures.number;
      is = c.in_ok-number.ensures.ok;
    } in
    record {
      certified = in_certified c.args.network.now c.args.stream c.in_ok-number.number c.enter.new.network c.in-Ok.sum
          in' c.in-Ok.ensures.answer;
      kept = c.in-Ok.ensures.ok;
    }

pub returns-in-Err-clause-err : goal.returns-in-Err-clause-err
returns-in-Err-clause-err c =
    let in' : IsIn c.args.network.now c.args.stream c.in_ok-number.number c.enter.new.network = record {
      certified = c.requires.session.certified;
      may = c.requires.enters;
      free = c.in_ok-number.ensures.free;
      number = c.in_ok-number.ensures.number;
      is = c.in_ok-number.ensures.ok;
    } in
    out_again c.args.network.now c.args.stream c.in_ok-number.number c.enter.new.network c.enter.new.network
    c.leave.new.network in' (same_at_first c.in_ok-number.number c.enter.new.network) c.leave.ensures.network
