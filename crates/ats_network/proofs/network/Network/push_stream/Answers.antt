use Rattle.std.proofs.Common.{◌≡◌, false, None, sym, ap, subst, ◌∙◌}
use Rattle.ats_num.specs.Places.{place_of}
use Rattle.ats_streams.specs.Stream.{IsStream}
use Rattle.ats_network.specs.Path.{IsTree}
use Rattle.ats_network.specs.Network.{DeclaredNetwork, HasShortRoutes, network_within, names_of, senders_of}
use Rattle.ats_network.specs.Pushes.{is_beyond, is_identity_taken}
use Rattle.ats_network.proofs.NameLemmas.{none_first}
use Rattle.ats_network.proofs.Pushed.{fits_beside, pushed_stream, not_found}
use Rattle.ats_network.proofs.network.Network.push_stream.Goals as goal

pub push-requires-clause-absent : goal.push-requires-clause-absent
push-requires-clause-absent c =
    none_first c.args.stream.name
    (network_within c.self.inside.shape c.self.inside.most_ports c.self.inside.stream_table c.self.inside.flow_table)
    (not_found c.sender_named.result _ c.args.stream.name _ c.args.self.now c.self.view_is
    c.name.ensures c.sender_named.ensures.number (sym c.is_some.ensures ∙ c.if-is_some.false))

pub push-requires-clause-room : goal.push-requires-clause-room
push-requires-clause-room c =
    let inside : DeclaredNetwork =
    network_within c.self.inside.shape c.self.inside.most_ports c.self.inside.stream_table c.self.inside.flow_table in
    let room : is_beyond inside c.args.stream ≡ false =
    ap (λ (n : DeclaredNetwork). is_beyond n c.args.stream) c.self.view_is
    ∙ sym c.is_beyond.ensures ∙ c.if-is_beyond.false in
    (fits_beside inside c.args.stream room).few_streams

pub push-requires-clause-ports : goal.push-requires-clause-ports
push-requires-clause-ports c =
    let inside : DeclaredNetwork =
    network_within c.self.inside.shape c.self.inside.most_ports c.self.inside.stream_table c.self.inside.flow_table in
    let room : is_beyond inside c.args.stream ≡ false =
    ap (λ (n : DeclaredNetwork). is_beyond n c.args.stream) c.self.view_is
    ∙ sym c.is_beyond.ensures ∙ c.if-is_beyond.false in
    (fits_beside inside c.args.stream room).few_ports

pub invariant_of-self-2 : goal.invariant_of-self-2
invariant_of-self-2 c =
    let inside : DeclaredNetwork =
    network_within c.self.inside.shape c.self.inside.most_ports c.self.inside.stream_table c.self.inside.flow_table in
    let keeps : IsStream c.args.stream = subst IsStream c.stream.view_is c.stream.invariant in
    let tree : IsTree inside.topology c.args.stream.ports c.args.stream.branches =
    subst (λ (n : DeclaredNetwork). IsTree n.topology c.args.stream.ports c.args.stream.branches) (sym c.self.view_is)
    c.requires.tree in
    let short : HasShortRoutes inside.most_ports c.args.stream =
    subst (λ (n : DeclaredNetwork). HasShortRoutes n.most_ports c.args.stream) (sym c.self.view_is) c.requires.short in
    let absent : place_of c.args.stream.name (names_of (senders_of inside)) ≡ None =
    not_found c.sender_named.result _ c.args.stream.name inside c.args.self.now c.self.view_is
    c.name.ensures c.sender_named.ensures.number (sym c.is_some.ensures ∙ c.if-is_some.false) in
    let free : is_identity_taken inside.streams c.args.stream.identity ≡ false =
    ap (λ (n : DeclaredNetwork). is_identity_taken n.streams c.args.stream.identity) c.self.view_is
    ∙ sym (c.is_identity_taken.ensures ∙ ap (is_identity_taken c.args.self.now.streams) c.identity.ensures.value)
    ∙ c.if-is_identity_taken.false in
    let room : is_beyond inside c.args.stream ≡ false =
    ap (λ (n : DeclaredNetwork). is_beyond n c.args.stream) c.self.view_is
    ∙ sym c.is_beyond.ensures ∙ c.if-is_beyond.false in
    rw c.in_ok-push.ensures.ok
    (pushed_stream inside c.args.stream c.self.invariant keeps tree short absent free room)
