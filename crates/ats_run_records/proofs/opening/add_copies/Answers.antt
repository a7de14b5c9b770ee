use Rattle.std.proofs.Common.{◌≡◌, ◌-◌, ℕ, List, map, sym, subst, arith}
use Rattle.std.specs.List.{range_with_len}
use Rattle.ats_streams.proofs.BranchLemmas.{legs-length}
use Rattle.ats_network.specs.Senders.{sender_at}
use Rattle.ats_run_records.specs.Opening.{AreAdded}
use Rattle.ats_run_records.specs.Progress.{Progress, leg_opened, copies_count}
use Rattle.ats_run_records.proofs.Counts.{copies-next, rooms-front}
use Rattle.ats_run_records.proofs.Opens.{added-more}
use Rattle.ats_run_records.proofs.opening.add_copies.Goals as goal

pub add-requires-clause-leg : goal.add-requires-clause-leg
add-requires-clause-leg c =
    let sender = sender_at c.args.net.now c.args.release.now.sender in
    omega (arith, c.sender_legs-leg-end.ensures.value, legs-length 0 sender.ports sender.branches)

pub add-requires-clause-few : goal.add-requires-clause-few
add-requires-clause-few c =
    let sender = sender_at c.args.net.now c.args.release.now.sender in
    omega (
      arith,
      c.requires.few,
      c.loop-leg.invariant.room,
      rooms-front c.args.net.now c.args.frame c.args.release.now (c.loop-leg.leg - 1)
          (omega (arith, c.sender_legs-leg-end.ensures.value, legs-length 0 sender.ports sender.branches)),
    )

pub loop-leg-preserved : goal.loop-leg-preserved
loop-leg-preserved c =
    subst (λ (legs : List Progress). AreAdded legs c.args.rows.now c.add.new.self)
    (sym (copies-next c.args.net.now c.args.frame c.args.release.now c.loop-leg.leg c.loop-leg.auto.leg))
    (added-more c.loop-leg.invariant c.in_ok-add.ensures)

pub returns : goal.returns
returns c =
    let sender = sender_at c.args.net.now c.args.release.now.sender in
    let all : c.loop-leg.leg - 1 ≡ copies_count c.args.net.now c.args.release.now =
    omega (arith, c.sender_legs-leg-end.ensures.value, legs-length 0 sender.ports sender.branches) in
    subst (λ (n : ℕ).
    AreAdded (map (leg_opened c.args.net.now c.args.frame c.args.release.now) (range_with_len 1 n)) c.args.rows.now
    c.loop-leg.rows) all c.loop-leg.invariant
