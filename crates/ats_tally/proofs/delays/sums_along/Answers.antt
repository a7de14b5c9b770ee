use Rattle.std.proofs.Common.{◌≡◌, ◌≢◌, ◌<◌, ℕ, List, length, slice_index_or, ap, sym, subst, ◌∙◌, arith}
use Rattle.std.specs.List.{All, AllPairs}
use Rattle.ats_streams.specs.Stream.{DeclaredStream}
use Rattle.ats_tally.proofs.Paths.{paths_inside, paths_apart}
use Rattle.ats_tally.proofs.delays.sums_along.Goals as goal

pub push_sums-requires-clause-ports : goal.push_sums-requires-clause-ports
push_sums-requires-clause-ports c =
    let long : length c.streams-streams.result.now ≡ length c.args.network.now.streams =
    ap (λ (streams : List DeclaredStream). length streams) c.streams-streams.ensures.value in
    let item : c.stream-item.result
    ≡ slice_index_or c.args.network.now.streams c.loop-stream.stream-index c.stream-item.result =
    c.stream-item.is ∙ ap (λ (streams : List DeclaredStream).
    slice_index_or streams c.loop-stream.stream-index c.stream-item.result) c.streams-streams.ensures.value in
    subst (λ (s : DeclaredStream). All (λ p. p < c.args.bounds.now.ports) s.ports) (sym item)
    (subst (λ (n : ℕ). All (λ p. p < n)
    (slice_index_or c.args.network.now.streams c.loop-stream.stream-index c.stream-item.result).ports)
    (sym c.requires)
    (paths_inside c.args.network.now c.streams-streams.ensures.rules c.loop-stream.stream-index c.stream-item.result
    (omega (arith, long))))

pub push_sums-requires-clause-apart : goal.push_sums-requires-clause-apart
push_sums-requires-clause-apart c =
    let long : length c.streams-streams.result.now ≡ length c.args.network.now.streams =
    ap (λ (streams : List DeclaredStream). length streams) c.streams-streams.ensures.value in
    let item : c.stream-item.result
    ≡ slice_index_or c.args.network.now.streams c.loop-stream.stream-index c.stream-item.result =
    c.stream-item.is ∙ ap (λ (streams : List DeclaredStream).
    slice_index_or streams c.loop-stream.stream-index c.stream-item.result) c.streams-streams.ensures.value in
    subst (λ (s : DeclaredStream). AllPairs (λ p q. p ≢ q) s.ports) (sym item)
    (paths_apart c.args.network.now c.streams-streams.ensures.rules c.loop-stream.stream-index c.stream-item.result
    (omega (arith, long)))
