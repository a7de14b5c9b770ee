use Rattle.std.proofs.Common.{◌≡◌, ◌-◌, ℕ, List, map, sym, subst, arith}
use Rattle.std.specs.List.{range_with_len}
use Rattle.ats_streams.proofs.BranchLemmas.{legs-length}
use Rattle.ats_network.specs.Senders.{sender_at}
use Rattle.ats_run_records.specs.Brief.{AreBegun}
use Rattle.ats_run_records.specs.Progress.{Progress, leg_opened, copies_count}
use Rattle.ats_run_records.specs.declared.tracks.Tracks.{Tracks}
use Rattle.ats_run_records.proofs.Begun.{begun-more}
use Rattle.ats_run_records.proofs.Counts.{copies-next}
use Rattle.ats_run_records.proofs.tracks.add_copies.Goals as goal

pub track_of-requires-clause-leg : goal.track_of-requires-clause-leg
track_of-requires-clause-leg c =
    let sender = sender_at c.args.net.now c.args.release.now.sender in
    omega (arith, c.sender_legs-leg-end.ensures.value, legs-length 0 sender.ports sender.branches)

pub loop-leg-preserved : goal.loop-leg-preserved
loop-leg-preserved c =
    let tracks : Tracks = record { legs = c.push.new.self; frames = c.push-in-loop-leg.new.self } in
    subst (λ (legs : List Progress). AreBegun legs c.args.tracks.now tracks)
    (sym (copies-next c.args.net.now c.args.frame c.args.release.now c.loop-leg.leg c.loop-leg.auto.leg))
    (begun-more {new = tracks} (leg_opened c.args.net.now c.args.frame c.args.release.now c.loop-leg.leg)
    c.loop-leg.invariant c.track_of.ensures c.in_ok-push.ensures.items c.in_ok-push-2.ensures.items)

pub returns : goal.returns
returns c =
    let sender = sender_at c.args.net.now c.args.release.now.sender in
    let all : c.loop-leg.leg - 1 ≡ copies_count c.args.net.now c.args.release.now =
    omega (arith, c.sender_legs-leg-end.ensures.value, legs-length 0 sender.ports sender.branches) in
    subst (λ (n : ℕ).
    AreBegun (map (leg_opened c.args.net.now c.args.frame c.args.release.now) (range_with_len 1 n)) c.args.tracks.now
    c.loop-leg.tracks) all c.loop-leg.invariant
