use Rattle.std.proofs.Common.{ap, arith, get_or, length-append, sum_by}
use Rattle.std.proofs.lemmas.List.{take_all}
use Rattle.ats_streams.proofs.BranchLemmas.{legs-length}
use Rattle.ats_network.specs.Senders.{sender_at}
use Rattle.ats_run_records.specs.Progress.{copies_count, copies_opened, trunks_opened}
use Rattle.ats_run_records.proofs.AllCounts.{have-senders, length-all_copies, length-trunks, no_release, so-far}
use Rattle.ats_engine.proofs.opening.legs_of.Goals as goal

pub overflow_add-legs : goal.overflow_add-legs
overflow_add-legs c =
    let far = so-far c.args.net.now c.args.releases.now c.loop-release.release-index no_release
    c.topology-rules.ensures.rules (have-senders _ _ c.requires.releases.each) c.requires.few_ports (omega arith) in
    let sender = sender_at c.args.net.now
    (get_or c.args.releases.now c.loop-release.release-index no_release).sender in
    omega (
      arith,
      far.firsts,
      c.loop-release.invariant,
      c.requires.releases.few,
      c.sender_legs.ensures.value,
      legs-length 0 sender.ports sender.branches,
    )

pub loop-release-preserved : goal.loop-release-preserved
loop-release-preserved c =
    let far = so-far c.args.net.now c.args.releases.now c.loop-release.release-index no_release
    c.topology-rules.ensures.rules (have-senders _ _ c.requires.releases.each) c.requires.few_ports (omega arith) in
    let sender = sender_at c.args.net.now
    (get_or c.args.releases.now c.loop-release.release-index no_release).sender in
    omega (
      arith,
      far.next,
      c.loop-release.invariant,
      c.sender_legs.ensures.value,
      legs-length 0 sender.ports sender.branches,
    )

pub returns : goal.returns
returns c =
    let network = c.args.net.now in
    let rs = c.args.releases.now in
    omega (
      arith,
      c.loop-release.invariant,
      length-append (trunks_opened network 0 rs) (copies_opened network 0 rs),
      length-trunks network 0 rs,
      length-all_copies network 0 rs,
      ap (sum_by (copies_count network)) (take_all c.loop-release.release-index rs (omega arith)),
    )
