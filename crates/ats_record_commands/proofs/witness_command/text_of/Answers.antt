use Rattle.std.proofs.Common.{◌≡◌, subst, sym, arith}
use Rattle.ats_streams.proofs.BranchLemmas.{legs-length, routes-length}
use Rattle.ats_network.specs.Senders.{sender_at}
use Rattle.ats_trace.specs.Ways.{listener_count}
use Rattle.ats_record_commands.specs.SoFar.{IsWitnessSoFar}
use Rattle.ats_record_commands.proofs.Witnessing.{none_yet, of_all}
use Rattle.ats_record_commands.proofs.witness_command.text_of.Goals as goal

pub loop-listener-init : goal.loop-listener-init
loop-listener-init c =
    subst (IsWitnessSoFar c.args.network.now c.args.stream 0) (sym c.new-text.ensures.items)
    (none_yet c.args.network.now c.args.stream)

pub write_listener-requires-clause-listener : goal.write_listener-requires-clause-listener
write_listener-requires-clause-listener c =
    let s = sender_at c.args.network.now c.args.stream in
    omega (
      arith,
      c.loop-listener-test.true,
      c.sender_legs-listener-end.ensures.value,
      legs-length 0 s.ports s.branches,
    )

pub returns : goal.returns
returns c =
    let s = sender_at c.args.network.now c.args.stream in
    let all : c.loop-listener.listener ≡ listener_count s = omega (
      arith,
      c.loop-listener-test.false,
      c.loop-listener.auto.listener-end,
      c.sender_legs-listener-end.ensures.value,
      legs-length 0 s.ports s.branches,
      routes-length s.ports s.branches,
    ) in
    of_all c.args.network.now c.args.stream c.loop-listener.listener c.loop-listener.text.items all
    c.loop-listener.invariant
