use Rattle.std.proofs.Common.{List, ℕ, ◌<◌, length, Option, ap, ◌∙◌, arith}
use Rattle.std.proofs.Math.Seq.{map-set_same}
use Rattle.std.proofs.lemmas.List.Sums.{sum_by-set}
use Rattle.ats_streams.specs.Stream.{DeclaredStream}
use Rattle.ats_network.proofs.TableLemmas.{shown_table}
use Rattle.ats_network.proofs.stream_table.StreamTable.set_burst.Goals as goal

pub invariant_of-self : goal.invariant_of-self
invariant_of-self c =
    let name : DeclaredStream → List ℕ = λ s. s.name in
    let identity : DeclaredStream → Option (ℕ × ℕ) = λ s. s.identity in
    let ports : DeclaredStream → List ℕ = λ s. s.ports in
    let many : DeclaredStream → ℕ = λ s. length s.ports in
    let streams : List DeclaredStream = c.self.inside.streams.items in
    let within : c.args.stream < length streams = omega (arith, c.requires.stream, ap length c.self.view_is) in
    let same = ap ports c.set_burst.ensures ∙ ap ports c.index_mut.ensures.value in (
      shown_table c.self.inside.streams.items _ c.self.inside.serials.items c.self.inside.names c.self.inside.identities
          c.self.invariant.0
          (map-set_same name c.self.inside.streams.items c.args.stream c.set_burst.new.self c.index_mut.result.now
          (ap name c.set_burst.ensures ∙ ap name c.index_mut.ensures.value))
          (map-set_same identity c.self.inside.streams.items c.args.stream c.set_burst.new.self c.index_mut.result.now
          (ap identity c.set_burst.ensures ∙ ap identity c.index_mut.ensures.value)),
      omega (
        arith,
        sum_by-set many streams c.args.stream c.set_burst.new.self c.index_mut.result.now within,
        ap length same,
        c.self.invariant.1,
      ),
    )
