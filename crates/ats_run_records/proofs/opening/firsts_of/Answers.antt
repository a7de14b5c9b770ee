use Rattle.std.proofs.Common.{◌++◌, ◌∷◌, [], ◌∙◌, ℕ, List, ap, sym, arith, length, length-append, get_or, sum_by, take}
use Rattle.std.proofs.lemmas.List.{take_all}
use Rattle.ats_streams.proofs.BranchLemmas.{legs-length}
use Rattle.ats_network.specs.Senders.{sender_at}
use Rattle.ats_run_records.specs.Progress.{copies_count, copies_opened, firsts_from, trunks_opened}
use Rattle.ats_run_records.proofs.AllCounts.{firsts-more, length-all_copies, length-trunks}
use Rattle.ats_run_records.proofs.AllCounts.{have-senders, no_release, so-far}
use Rattle.ats_run_records.proofs.opening.firsts_of.Goals as goal

pub overflow_cast-next : goal.overflow_cast-next
overflow_cast-next c =
    let far = so-far c.args.net.now c.args.releases.now c.loop-release.release-index no_release
    c.topology-rules.ensures.rules (have-senders _ _ c.requires.releases.each) c.requires.few_ports (omega arith) in
    omega (arith, far.firsts, c.loop-release.invariant.1, c.requires.releases.few)

pub overflow_add-next : goal.overflow_add-next
overflow_add-next c =
    let far = so-far c.args.net.now c.args.releases.now c.loop-release.release-index no_release
    c.topology-rules.ensures.rules (have-senders _ _ c.requires.releases.each) c.requires.few_ports (omega arith) in
    let sender = sender_at c.args.net.now
    (get_or c.args.releases.now c.loop-release.release-index no_release).sender in
    omega (
      arith,
      far.firsts,
      c.loop-release.invariant.1,
      c.requires.releases.few,
      c.sender_legs.ensures.value,
      legs-length 0 sender.ports sender.branches,
    )

pub loop-release-preserved : goal.loop-release-preserved
loop-release-preserved c =
    let i = c.loop-release.release-index in
    let rs = c.args.releases.now in
    let far = so-far c.args.net.now rs i no_release
    c.topology-rules.ensures.rules (have-senders _ _ c.requires.releases.each) c.requires.few_ports (omega arith) in
    let sender = sender_at c.args.net.now (get_or rs i no_release).sender in (
      c.in_ok-push.ensures.items
          ∙ ap (λ (firsts : List ℕ). firsts ++ c.loop-release.next ∷ []) c.loop-release.invariant.0
          ∙ ap (λ (n : ℕ). firsts_from c.args.net.now (length rs) (take i rs) ++ n ∷ []) c.loop-release.invariant.1
          ∙ sym (firsts-more c.args.net.now (length rs) rs i no_release (omega arith)),
      omega (
        arith,
        far.next,
        c.loop-release.invariant.1,
        c.sender_legs.ensures.value,
        legs-length 0 sender.ports sender.branches,
      ),
    )

pub returns-clause-rows : goal.returns-clause-rows
returns-clause-rows c =
    let network = c.args.net.now in
    let rs = c.args.releases.now in
    omega (
      arith,
      c.loop-release.invariant.1,
      length-append (trunks_opened network 0 rs) (copies_opened network 0 rs),
      length-trunks network 0 rs,
      length-all_copies network 0 rs,
      ap (sum_by (copies_count network)) (take_all c.loop-release.release-index rs (omega arith)),
    )
