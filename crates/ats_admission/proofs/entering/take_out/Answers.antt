use Rattle.std.proofs.Common.{◌≡◌, sym, ap, subst, ◌∙◌}
use Rattle.ats_network.specs.Network.{DeclaredNetwork, IsNetwork}
use Rattle.ats_network.proofs.Edited.{without_network}
use Rattle.ats_bound.specs.Reason.{reason_of}
use Rattle.ats_admission_shares.specs.PortShares.{without_at}
use Rattle.ats_admission.proofs.Classed.{named_at}
use Rattle.ats_admission.proofs.Pending.{free_without, taken_is, was_kept}
use Rattle.ats_admission.proofs.entering.take_out.Goals as goal

pub take-requires-clause-free : goal.take-requires-clause-free
take-requires-clause-free c =
    let network : DeclaredNetwork = c.args.network.now in
    let n = c.args.number in
    let new_is : c.take_stream.new.self ≡ without_at network n =
    c.take_stream.ensures.network ∙ named_at network c.args.name.now n c.requires.named in
    ap reason_of new_is ∙ free_without network c.args.name.now n c.args.kept.now c.requires.session c.requires.named

pub take-requires-clause-was : goal.take-requires-clause-was
take-requires-clause-was c =
    let network : DeclaredNetwork = c.args.network.now in
    let n = c.args.number in
    let new_is : c.take_stream.new.self ≡ without_at network n =
    c.take_stream.ensures.network ∙ named_at network c.args.name.now n c.requires.named in
    was_kept network c.take_stream.new.self c.args.name.now n c.in-Some.stream c.args.kept.now c.requires.session
    c.requires.named
    (taken_is network c.args.name.now n c.in-Some.stream c.requires.named c.in-Some.ensures.result) new_is

pub returns-in-Some-clause-session : goal.returns-in-Some-clause-session
returns-in-Some-clause-session c =
    let network : DeclaredNetwork = c.args.network.now in
    let n = c.args.number in
    let new_is : c.take_stream.new.self ≡ without_at network n =
    c.take_stream.ensures.network ∙ named_at network c.args.name.now n c.requires.named in
    record {
      certified = record {
        rules = subst IsNetwork (sym c.take_stream.ensures.network)
            (without_network network c.args.name.now c.requires.session.certified.rules);
        free = ap reason_of new_is
            ∙ free_without network c.args.name.now n c.args.kept.now c.requires.session c.requires.named;
      };
      kept = c.take.ensures;
    }
