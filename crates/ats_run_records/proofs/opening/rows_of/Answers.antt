use Rattle.std.proofs.Common.{◌++◌, ◌∙◌, List, ap, sym, subst, arith, append_assoc, take, get_or}
use Rattle.std.proofs.lemmas.List.Sums.{sum_by-append}
use Rattle.ats_run_records.specs.Opening.{AreOpened}
use Rattle.ats_run_records.specs.Progress.{Progress, copies_of_frame, copies_opened, trunks_opened}
use Rattle.ats_run_records.proofs.AllCounts.{copies-more, have-senders, no_release, so-far, trunks-more}
use Rattle.ats_run_records.proofs.Opens.{opened-more}
use Rattle.ats_run_records.proofs.opening.rows_of.Goals as goal

pub add-requires-clause-few : goal.add-requires-clause-few
add-requires-clause-few c =
    let far = so-far c.args.net.now c.args.releases.now c.loop-frame.frame no_release
    c.topology-rules.ensures.rules (have-senders _ _ c.requires.releases.each) c.requires.few_ports (omega arith) in
    omega (arith, far.trunks, c.loop-frame.invariant.room)

pub loop-frame-preserved : goal.loop-frame-preserved
loop-frame-preserved c =
    subst (λ (legs : List Progress). AreOpened legs c.add.new.self)
    (sym (trunks-more c.args.net.now c.args.releases.now c.loop-frame.frame no_release (omega arith)))
    (opened-more c.loop-frame.invariant c.in_ok-add.ensures)

pub add_copies-requires-clause-few : goal.add_copies-requires-clause-few
add_copies-requires-clause-few c =
    let network = c.args.net.now in
    let rs = c.args.releases.now in
    let i = c.loop-frame-2.frame in
    let far = so-far network rs i no_release
    c.topology-rules.ensures.rules (have-senders _ _ c.requires.releases.each) c.requires.few_ports (omega arith) in
    omega (
      arith,
      far.copies,
      c.loop-frame-2.invariant.room,
      sum_by-append (λ (leg : Progress). leg.room) (trunks_opened network 0 rs)
          (copies_opened network 0 (take i rs)),
    )

pub loop-frame-2-preserved : goal.loop-frame-2-preserved
loop-frame-2-preserved c =
    let network = c.args.net.now in
    let rs = c.args.releases.now in
    let i = c.loop-frame-2.frame in
    subst (λ (legs : List Progress). AreOpened legs c.add_copies.new.rows)
    (append_assoc (trunks_opened network 0 rs) (copies_opened network 0 (take i rs))
    (copies_of_frame network i (get_or rs i no_release))
    ∙ ap (λ (copies : List Progress). trunks_opened network 0 rs ++ copies)
    (sym (copies-more network rs i no_release (omega arith))))
    (opened-more c.loop-frame-2.invariant c.in_ok-add_copies.ensures)
