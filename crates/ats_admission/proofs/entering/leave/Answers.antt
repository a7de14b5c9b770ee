use Rattle.std.proofs.Common.{◌≡◌, ◌<◌, List, length, sym, ap, subst, ◌∙◌, arith}
use Rattle.std.specs.List.{All}
use Rattle.ats_streams.specs.Stream.{DeclaredStream}
use Rattle.ats_network.specs.Edits.{no_stream}
use Rattle.ats_network.specs.Network.{DeclaredNetwork, IsNetwork}
use Rattle.ats_network.proofs.Edited.{without_network}
use Rattle.ats_tally.proofs.Paths.{paths_inside}
use Rattle.ats_bound.specs.Reason.{reason_of}
use Rattle.ats_admission_shares.specs.PortShares.{stream_at, without_at}
use Rattle.ats_admission_state.specs.Kept.{IsKeptBeside}
use Rattle.ats_admission.proofs.Classed.{named_at}
use Rattle.ats_admission.proofs.Pending.{taken_is}
use Rattle.ats_admission.proofs.entering.leave.Goals as goal

pub renew-requires-clause-ports : goal.renew-requires-clause-ports
renew-requires-clause-ports c =
    let network : DeclaredNetwork = c.args.network.now in
    let n = c.args.number in
    let path_is : c.ports.result.now ≡ (stream_at network n).ports =
    c.ports.ensures.value
    ∙ ap (λ (s : DeclaredStream). s.ports)
    (taken_is network c.args.name.now n c.in-Some.stream c.requires.named c.in-Some.ensures.result) in
    let new_is : c.take_stream.new.self ≡ without_at network n =
    c.take_stream.ensures.network ∙ named_at network c.args.name.now n c.requires.named in
    subst (λ (t : DeclaredNetwork). All (λ p. p < length t.topology.ports) c.ports.result.now) (sym new_is)
    (subst (All (λ p. p < length network.topology.ports)) (sym path_is)
    (paths_inside network c.take_stream.ensures.rules n no_stream (omega (arith, c.requires.pending.last))))

pub renew-requires-clause-beside : goal.renew-requires-clause-beside
renew-requires-clause-beside c =
    let network : DeclaredNetwork = c.args.network.now in
    let n = c.args.number in
    let path_is : c.ports.result.now ≡ (stream_at network n).ports =
    c.ports.ensures.value
    ∙ ap (λ (s : DeclaredStream). s.ports)
    (taken_is network c.args.name.now n c.in-Some.stream c.requires.named c.in-Some.ensures.result) in
    let new_is : c.take_stream.new.self ≡ without_at network n =
    c.take_stream.ensures.network ∙ named_at network c.args.name.now n c.requires.named in
    subst (λ (t : DeclaredNetwork). IsKeptBeside t c.ports.result.now c.args.kept.now) (sym new_is)
    (subst (λ (path : List _). IsKeptBeside (without_at network n) path c.args.kept.now) (sym path_is)
    c.requires.pending.beside)

pub returns-in-Some-clause-session : goal.returns-in-Some-clause-session
returns-in-Some-clause-session c =
    let network : DeclaredNetwork = c.args.network.now in
    let new_is : c.take_stream.new.self ≡ without_at network c.args.number =
    c.take_stream.ensures.network ∙ named_at network c.args.name.now c.args.number c.requires.named in
    record {
      certified = record {
        rules = subst IsNetwork (sym c.take_stream.ensures.network)
            (without_network network c.args.name.now c.take_stream.ensures.rules);
        free = ap reason_of new_is ∙ c.requires.pending.free;
      };
      kept = c.renew.ensures;
    }
