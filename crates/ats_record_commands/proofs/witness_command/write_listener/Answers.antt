use Rattle.std.proofs.lemmas.Result.{on_ok_weaker}
use Rattle.ats_bound.specs.Least.{least_certificate}
use Rattle.ats_record_commands.proofs.Witnessing.{one_more, sum_for}
use Rattle.ats_record_commands.proofs.witness_command.write_listener.Goals as goal

pub returns : goal.returns
returns c =
    let network = c.args.network.now in
    on_ok_weaker c.write_found.result
    (λ written. one_more network c.args.stream c.args.listener c.args.text.now.items c.write_found.new.out.items
    c.in_ok-found.found c.along-bound.result c.requires.so_far c.in_ok-found.ensures.found
    (sum_for c.args.delays.now network (least_certificate network) c.args.stream c.args.listener c.along-bound.result
    c.requires.delays c.along-bound.ensures.value) written)
    c.write_found.ensures
