use Rattle.std.proofs.Common.{◌≡◌, ◌<◌, ◌+◌, ℕ, List, length, length-take, take, slice_index_or, ap, sym, ◌∙◌, arith}
use Rattle.std.proofs.lemmas.List.Sums.{count_by-le-length, count_by_more_no, count_by_more_yes}
use Rattle.ats_streams.specs.Stream.{DeclaredStream}
use Rattle.ats_network.specs.Class.{class_at}
use Rattle.ats_network.specs.Sender.{stream_sender}
use Rattle.ats_network.proofs.ClassLemmas.{class_along-at}
use Rattle.ats_certificate.specs.PortSums.{is_used}
use Rattle.ats_explain.specs.Parts.{is_over, parts_at, parts_of_hop}
use Rattle.ats_explain.specs.declared.parts.Parts.{Parts}
use Rattle.ats_explain.proofs.explanation.Explanation.over_along.Goals.{then-is_over, else-is_over}
use Rattle.ats_explain.proofs.explanation.Explanation.over_along.Goals as goal

pub parts-requires : goal.parts-requires
parts-requires c =
    let stream : DeclaredStream = c.args.stream.now in
    let hop : ℕ = c.loop-hop.hop in
    let long : length c.ports-port-items.result.now ≡ length stream.ports =
    ap (λ (ports : List ℕ). length ports) c.ports-port-items.ensures.value in
    let within : hop < length stream.ports = omega (arith, long) in
    let class : slice_index_or c.classes-classes.result.now hop 0
    ≡ class_at (stream_sender stream) (slice_index_or stream.ports hop 0) =
    ap (λ (classes : List ℕ). slice_index_or classes hop 0) c.classes-classes.ensures.value
    ∙ sym (class_along-at stream.ports stream.classes hop c.requires.apart c.classes-classes.ensures.rules.each_port
    within) in
    ap (λ (ports : List ℕ). is_used c.args.self.now (slice_index_or ports hop 0)
    (slice_index_or c.classes-classes.result.now hop 0)) c.ports-port-items.ensures.value
    ∙ ap (is_used c.args.self.now (slice_index_or stream.ports hop 0)) class
    ∙ c.requires.used hop 0 within

pub loop-hop-preserved : goal.loop-hop-preserved
loop-hop-preserved c =
    let stream : DeclaredStream = c.args.stream.now in
    let hop : ℕ = c.loop-hop.hop in
    let long : length c.ports-port-items.result.now ≡ length stream.ports =
    ap (λ (ports : List ℕ). length ports) c.ports-port-items.ensures.value in
    let within : hop < length stream.ports = omega (arith, long) in
    let class : slice_index_or c.classes-classes.result.now hop 0
    ≡ class_at (stream_sender stream) (slice_index_or stream.ports hop 0) =
    ap (λ (classes : List ℕ). slice_index_or classes hop 0) c.classes-classes.ensures.value
    ∙ sym (class_along-at stream.ports stream.classes hop c.requires.apart c.classes-classes.ensures.rules.each_port
    within) in
    let parts : c.parts.result ≡ parts_of_hop c.args.self.now stream (slice_index_or stream.ports hop 0) =
    c.parts.ensures
    ∙ ap (λ (ports : List ℕ). parts_at c.args.self.now (slice_index_or ports hop 0)
    (slice_index_or c.classes-classes.result.now hop 0)) c.ports-port-items.ensures.value
    ∙ ap (parts_at c.args.self.now (slice_index_or stream.ports hop 0)) class in
    let test : c.is_over.result
    ≡ is_over (parts_of_hop c.args.self.now stream (slice_index_or stream.ports hop 0)).stay =
    c.is_over.ensures ∙ ap (λ (p : Parts). is_over p.stay) parts in
    elim c.if-is_over.branch [
      | then-is_over w ↦ w.over-is ∙ ap (λ (n : ℕ). n + 1) c.loop-hop.invariant
          ∙ sym (count_by_more_yes (λ port. is_over (parts_of_hop c.args.self.now stream port).stay) stream.ports hop 0
          within (sym test ∙ w.if-is_over.true))
      | else-is_over w ↦ w.over-is ∙ c.loop-hop.invariant
          ∙ sym (count_by_more_no (λ port. is_over (parts_of_hop c.args.self.now stream port).stay) stream.ports hop 0
          within (sym test ∙ w.if-is_over.false))
    ]

pub returns-clause-most : goal.returns-clause-most
returns-clause-most c =
    let stream : DeclaredStream = c.args.stream.now in
    omega (
      arith,
      c.loop-hop.invariant,
      count_by-le-length (λ port. is_over (parts_of_hop c.args.self.now stream port).stay)
          (take c.loop-hop.hop stream.ports),
      length-take c.loop-hop.hop stream.ports,
    )
