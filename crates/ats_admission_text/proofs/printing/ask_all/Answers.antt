use Rattle.std.proofs.Common.{List, ◌++◌}
use Rattle.std.specs.Vec.Iter.{into_iter_items}
use Rattle.ats_requests.specs.Requests.{after_all}
use Rattle.ats_requests.specs.declared.request.Request.{Request}
use Rattle.ats_admission_text.specs.Text.{answers_text}
use Rattle.ats_admission_text.proofs.Steps.{IsNext, end_stays, may_first, may_rest, text_stays}
use Rattle.ats_admission_text.proofs.printing.ask_all.Goals as goal

pub ask_one-requires : goal.ask_one-requires
ask_one-requires c =
    may_first c.loop-request.session c.in-Some.request (into_iter_items c.next.new.self)
    (into_iter_items c.loop-request.request-iterator) c.in-Some.ensures.steps.0 c.loop-request.invariant.may

pub loop-request-preserved : goal.loop-request-preserved
loop-request-preserved c =
    let requests : List Request = into_iter_items c.next.new.self in
    let rest : List Request = into_iter_items c.loop-request.request-iterator in
    let step : IsNext c.loop-request.session c.ask_one.new.session c.in-Some.request =
    record {
      is = c.in_ok-ask_one.ensures.after;
      topology = c.in_ok-ask_one.ensures.topology;
      most_ports = c.in_ok-ask_one.ensures.most_ports;
    } in
    record {
      may = may_rest c.loop-request.session c.ask_one.new.session c.in-Some.request requests rest step
          c.in-Some.ensures.steps.0 c.loop-request.invariant.may;
      text = text_stays c.loop-request.session c.ask_one.new.session c.in-Some.request requests rest
          c.loop-request.out.items c.ask_one.new.out.items
          (c.args.out.now.items ++ answers_text c.args.session.now c.args.requests.items) step
          c.in-Some.ensures.steps.0 c.in_ok-ask_one.ensures.text c.loop-request.invariant.text;
      end = end_stays c.loop-request.session c.ask_one.new.session
          (after_all c.args.session.now c.args.requests.items) c.in-Some.request requests rest step
          c.in-Some.ensures.steps.0 c.loop-request.invariant.end;
    }
