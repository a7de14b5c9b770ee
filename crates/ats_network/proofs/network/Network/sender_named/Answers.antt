use Rattle.std.proofs.Common.{sym, ap, ◌∙◌, Some}
use Rattle.ats_num.specs.Places.{place_of}
use Rattle.ats_network.specs.Network.{DeclaredNetwork, network_within, names_of, senders_of}
use Rattle.ats_network.proofs.NameLemmas.{found_first, found_second}
use Rattle.ats_network.proofs.network.Network.sender_named.Goals as goal

pub returns-in-Some-clause-number : goal.returns-in-Some-clause-number
returns-in-Some-clause-number c =
    let inside : DeclaredNetwork =
    network_within c.self.inside.shape c.self.inside.most_ports c.self.inside.stream_table c.self.inside.flow_table in
    sym (found_first c.args.name.now inside c.in-Some.stream (sym c.in-Some.ensures.place))
    ∙ ap (λ (n : DeclaredNetwork). place_of c.args.name.now (names_of (senders_of n))) c.self.view_is

pub returns-in_err-flow-clause-number : goal.returns-in_err-flow-clause-number
returns-in_err-flow-clause-number c =
    let inside : DeclaredNetwork =
    network_within c.self.inside.shape c.self.inside.most_ports c.self.inside.stream_table c.self.inside.flow_table in
    c.from_residual.ensures
    ∙ sym (found_second c.args.name.now inside _ (sym c.in_default.ensures.place) (sym c.in_err-flow.ensures.place))
    ∙ ap (λ (n : DeclaredNetwork). place_of c.args.name.now (names_of (senders_of n))) c.self.view_is

pub returns-clause-number : goal.returns-clause-number
returns-clause-number c =
    let inside : DeclaredNetwork =
    network_within c.self.inside.shape c.self.inside.most_ports c.self.inside.stream_table c.self.inside.flow_table in
    rw c.as_slice.ensures
    (sym (found_second c.args.name.now inside (Some c.in_ok-flow.flow) (sym c.in_default.ensures.place)
    (sym c.in_ok-flow.ensures.place))
    ∙ ap (λ (n : DeclaredNetwork). place_of c.args.name.now (names_of (senders_of n))) c.self.view_is)
