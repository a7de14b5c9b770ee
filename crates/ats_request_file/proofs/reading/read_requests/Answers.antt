use Rattle.std.proofs.Common.{rules, ap, sym, subst, ◌∙◌}
use Rattle.std.specs.Global.{Vec}
use Rattle.std.specs.List.{All}
use Rattle.ats_topology.specs.KeptWalks.{AreKeptFor}
use Rattle.ats_requests.specs.Requests.{MayAsk}
use Rattle.ats_requests.specs.declared.request.Request.{Request}
use Rattle.ats_request_file.proofs.Allowed.{more_allowed}
use Rattle.ats_request_file.proofs.reading.read_requests.Goals.{then-not-is_skipped+in_ok-request+in_ok-push}
use Rattle.ats_request_file.proofs.reading.read_requests.Goals.{else-not-is_skipped}
use Rattle.ats_request_file.proofs.reading.read_requests.Goals as goal

pub loop-at-preserved : goal.loop-at-preserved
loop-at-preserved c = record {
  due = search rules;
  allowed = elim c.if-not-is_skipped.branch [
    | then-not-is_skipped+in_ok-request+in_ok-push w ↦
        more_allowed c.args.network.now c.loop-at.requests.items
        c.if-not-is_skipped.requests.items w.in_ok-request.request
        c.loop-at.invariant.allowed w.in_ok-request.ensures.allowed
        (ap (λ (v : Vec Request). v.items) w.requests-is ∙ w.in_ok-push.ensures.items)
    | else-not-is_skipped w ↦
        subst (λ (v : Vec Request). All (MayAsk c.args.network.now) v.items) (sym w.requests-is)
        c.loop-at.invariant.allowed
  ];
  some = search rules;
  kept = elim c.if-not-is_skipped.branch [
    | then-not-is_skipped+in_ok-request+in_ok-push w ↦
        subst (AreKeptFor c.args.network.now.topology) (sym w.walks-is) w.in_ok-request.ensures.kept
    | else-not-is_skipped w ↦
        subst (AreKeptFor c.args.network.now.topology) (sym w.walks-is) c.loop-at.invariant.kept
  ];
  within = search rules;
  few = search rules;
}
