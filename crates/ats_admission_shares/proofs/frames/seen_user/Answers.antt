use Rattle.std.proofs.Common.{◌≡◌, ◌<◌, ℕ, List, length, get_or, sym, ap, subst, ◌∙◌, arith}
use Rattle.ats_streams.specs.Stream.{DeclaredStream}
use Rattle.ats_streams.specs.declared.traffic.Declared.{Declared}
use Rattle.ats_network.specs.Network.{DeclaredNetwork}
use Rattle.ats_admission_shares.specs.PortShares.{stream_at, stream_paths}
use Rattle.ats_admission_shares.proofs.SeenUsers.{IsUserOf, told_stream, user_is, user_seen}
use Rattle.ats_admission_shares.proofs.frames.seen_user.Goals as goal

pub bounds-classes-hop : goal.bounds-classes-hop
bounds-classes-hop c =
    let network : DeclaredNetwork = c.args.network.now in
    let ports : ℕ = length network.topology.ports in
    let is : IsUserOf network c.args.port c.args.place c.user.result c.hop.result =
    user_is network c.args.port c.args.place c.user.result c.hop.result c.requires.place
    (c.user.ensures.value ports (stream_paths network) c.requires.users)
    (c.hop.ensures ports (stream_paths network) c.requires.users) in
    let same : c.index-streams-user.result ≡ stream_at network c.user.result =
    told_stream network c.user.result c.streams.result.now c.index-streams-user.result c.streams.ensures.value is.below
    c.index-streams-user.is in
    let within : c.hop.result < length c.index-streams-user.result.ports =
    subst (λ (s : DeclaredStream). c.hop.result < length s.ports) (sym same) is.within in
    omega (arith, within, c.classes.ensures.rules.each_port, ap length c.classes.ensures.value)

pub returns-clause-seen : goal.returns-clause-seen
returns-clause-seen c d =
    let network : DeclaredNetwork = c.args.network.now in
    let ports : ℕ = length network.topology.ports in
    let is : IsUserOf network c.args.port c.args.place c.user.result c.hop.result =
    user_is network c.args.port c.args.place c.user.result c.hop.result c.requires.place
    (c.user.ensures.value ports (stream_paths network) c.requires.users)
    (c.hop.ensures ports (stream_paths network) c.requires.users) in
    let same : c.index-streams-user.result ≡ stream_at network c.user.result =
    told_stream network c.user.result c.streams.result.now c.index-streams-user.result c.streams.ensures.value is.below
    c.index-streams-user.is in
    user_seen network c.args.port c.args.place c.user.result c.hop.result (get_or c.classes.result.now c.hop.result 0)
    c.declared-declared.result.min_octets c.declared-declared.result.max_octets d c.streams.ensures.rules is
    (ap (λ (l : List ℕ). get_or l c.hop.result 0)
    (c.classes.ensures.value ∙ ap (λ (s : DeclaredStream). s.classes) same))
    (ap (λ (t : Declared). t.min_octets) c.declared-declared.ensures.value
    ∙ ap (λ (s : DeclaredStream). s.min_octets) same)
    (ap (λ (t : Declared). t.max_octets) c.declared-declared.ensures.value
    ∙ ap (λ (s : DeclaredStream). s.max_octets) same)
