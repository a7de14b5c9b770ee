use Rattle.std.proofs.Common.{◌≡◌, ◌≢◌, ◌<◌, ℕ, List, length, get_or, ap, sym, subst, ◌∙◌}
use Rattle.std.specs.List.{All, AllPairs}
use Rattle.ats_streams.specs.Stream.{DeclaredStream}
use Rattle.ats_network.specs.Network.{DeclaredNetwork}
use Rattle.ats_tally.specs.Delays.{NetworkRows}
use Rattle.ats_tally.proofs.Paths.{paths_inside, paths_apart}
use Rattle.ats_tally.proofs.delays.Delays.along.Goals as goal

pub along-requires-clause-ports : goal.along-requires-clause-ports
along-requires-clause-ports c =
    let network : DeclaredNetwork = c.self.inside.network.now in
    let same : network ≡ c.args.self.now.network = ap (λ (d : NetworkRows). d.network) c.self.view_is in
    let within : c.args.stream < length network.streams =
    subst (λ (n : DeclaredNetwork). c.args.stream < length n.streams) (sym same) c.requires.stream in
    let d : DeclaredStream = c.index-streams-stream.result in
    let item : d ≡ get_or network.streams c.args.stream d =
    c.index-streams-stream.is
    ∙ ap (λ (streams : List DeclaredStream). get_or streams c.args.stream d) c.streams.ensures.value in
    subst (λ (s : DeclaredStream). All (λ p. p < c.self.inside.bounds.ports) s.ports) (sym item)
    (subst (λ (n : ℕ). All (λ p. p < n) (get_or network.streams c.args.stream d).ports) (sym c.self.invariant.ports)
    (paths_inside network c.self.invariant.rules c.args.stream d within))

pub along-requires-clause-apart : goal.along-requires-clause-apart
along-requires-clause-apart c =
    let network : DeclaredNetwork = c.self.inside.network.now in
    let same : network ≡ c.args.self.now.network = ap (λ (d : NetworkRows). d.network) c.self.view_is in
    let within : c.args.stream < length network.streams =
    subst (λ (n : DeclaredNetwork). c.args.stream < length n.streams) (sym same) c.requires.stream in
    let d : DeclaredStream = c.index-streams-stream.result in
    let item : d ≡ get_or network.streams c.args.stream d =
    c.index-streams-stream.is
    ∙ ap (λ (streams : List DeclaredStream). get_or streams c.args.stream d) c.streams.ensures.value in
    subst (λ (s : DeclaredStream). AllPairs (λ p q. p ≢ q) s.ports) (sym item)
    (paths_apart network c.self.invariant.rules c.args.stream d within)
