use Rattle.std.proofs.Common.{◌≡◌, ◌≢◌, ℕ, List, length, slice_index_or, ap, sym, subst, ◌∙◌, arith}
use Rattle.std.specs.List.{All, AllPairs}
use Rattle.std.proofs.lemmas.List.Sums.{sum_by_more, sum_by_more_le}
use Rattle.ats_streams.specs.Stream.{DeclaredStream}
use Rattle.ats_network.specs.Network.{DeclaredNetwork}
use Rattle.ats_tally.proofs.Paths.{paths_apart}
use Rattle.ats_explain.specs.Parts.{HopIsUsed}
use Rattle.ats_explain.specs.Totals.{over_among}
use Rattle.ats_explain.proofs.Hops.{hops_used}
use Rattle.ats_explain.proofs.explanation.Explanation.over.Goals as goal

pub over_along-over-requires-clause-used : goal.over_along-over-requires-clause-used
over_along-over-requires-clause-used c =
    let network : DeclaredNetwork = c.args.self.now in
    let items : c.streams-stream-items.result.now ≡ network.streams =
    c.streams-stream-items.ensures.value
    ∙ ap (λ (n : DeclaredNetwork). n.streams) c.network.ensures.value in
    let long : length c.streams-stream-items.result.now ≡ length network.streams =
    ap (λ (streams : List DeclaredStream). length streams) items in
    let item : c.stream-item.result
    ≡ slice_index_or network.streams c.loop-stream.stream-index c.stream-item.result =
    c.stream-item.is ∙ ap (λ (streams : List DeclaredStream).
    slice_index_or streams c.loop-stream.stream-index c.stream-item.result) items in
    subst (λ (s : DeclaredStream). All (HopIsUsed network s) s.ports) (sym item)
    (hops_used network c.loop-stream.stream-index c.stream-item.result (omega (arith, long)))

pub over_along-over-requires-clause-apart : goal.over_along-over-requires-clause-apart
over_along-over-requires-clause-apart c =
    let network : DeclaredNetwork = c.args.self.now in
    let items : c.streams-stream-items.result.now ≡ network.streams =
    c.streams-stream-items.ensures.value
    ∙ ap (λ (n : DeclaredNetwork). n.streams) c.network.ensures.value in
    let long : length c.streams-stream-items.result.now ≡ length network.streams =
    ap (λ (streams : List DeclaredStream). length streams) items in
    let item : c.stream-item.result
    ≡ slice_index_or network.streams c.loop-stream.stream-index c.stream-item.result =
    c.stream-item.is ∙ ap (λ (streams : List DeclaredStream).
    slice_index_or streams c.loop-stream.stream-index c.stream-item.result) items in
    subst (λ (s : DeclaredStream). AllPairs (λ p q. p ≢ q) s.ports) (sym item)
    (paths_apart network c.network.ensures.rules c.loop-stream.stream-index c.stream-item.result (omega (arith, long)))

pub overflow_add-over : goal.overflow_add-over
overflow_add-over c =
    let few = c.network.ensures.rules.few_ports in
    let items : c.streams-stream-items.result.now ≡ c.args.self.now.streams =
    c.streams-stream-items.ensures.value
    ∙ ap (λ (n : DeclaredNetwork). n.streams) c.network.ensures.value in
    let long : length c.streams-stream-items.result.now ≡ length c.args.self.now.streams =
    ap (λ (streams : List DeclaredStream). length streams) items in
    let i : ℕ = c.loop-stream.stream-index in
    let item : c.stream-item.result ≡ slice_index_or c.args.self.now.streams i c.stream-item.result =
    c.stream-item.is ∙ ap (λ (streams : List DeclaredStream). slice_index_or streams i c.stream-item.result) items in
    let all = sum_by_more_le (λ (s : DeclaredStream). length s.ports) c.args.self.now.streams i c.stream-item.result
    (omega (arith, long)) in
    omega (
      arith,
      few,
      all,
      ap (λ (s : DeclaredStream). length s.ports) item,
      c.loop-stream.invariant.most,
      c.over_along-over.ensures.most,
    )

pub loop-stream-preserved : goal.loop-stream-preserved
loop-stream-preserved c =
    let network : DeclaredNetwork = c.args.self.now in
    let items : c.streams-stream-items.result.now ≡ network.streams =
    c.streams-stream-items.ensures.value
    ∙ ap (λ (n : DeclaredNetwork). n.streams) c.network.ensures.value in
    let long : length c.streams-stream-items.result.now ≡ length network.streams =
    ap (λ (streams : List DeclaredStream). length streams) items in
    let i : ℕ = c.loop-stream.stream-index in
    let item : c.stream-item.result ≡ slice_index_or network.streams i c.stream-item.result =
    c.stream-item.is ∙ ap (λ (streams : List DeclaredStream). slice_index_or streams i c.stream-item.result) items in
    let more = sum_by_more (λ (s : DeclaredStream). over_among network s s.ports) network.streams i c.stream-item.result
    (omega (arith, long)) in
    let ports = sum_by_more (λ (s : DeclaredStream). length s.ports) network.streams i c.stream-item.result
    (omega (arith, long)) in
    let here : c.over_along-over.result
    ≡ over_among network (slice_index_or network.streams i c.stream-item.result)
    (slice_index_or network.streams i c.stream-item.result).ports =
    c.over_along-over.ensures.value ∙ ap (λ (s : DeclaredStream). over_among network s s.ports) item in
    record {
      sum = omega (arith, more, here, c.loop-stream.invariant.sum);
      most = omega (
        arith,
        ports,
        ap (λ (s : DeclaredStream). length s.ports) item,
        c.loop-stream.invariant.most,
        c.over_along-over.ensures.most,
      );
    }
