use Rattle.std.proofs.Common.{◌≡◌, ℕ, ◌+◌, ◌<◌, None, List, ◌∷◌, ◌++◌, length, take, drop, get_or, sym, ap, subst, ◌∙◌}
use Rattle.std.proofs.Common.{arith}
use Rattle.std.proofs.lemmas.List.{get_or_default, take-append-drop, drop_more}
use Rattle.std.proofs.lemmas.List.Sums.{sum_by-remove}
use Rattle.ats_topology.specs.Node.{AreApart}
use Rattle.ats_streams.specs.Stream.{DeclaredStream}
use Rattle.ats_network.specs.Edits.{no_stream}
use Rattle.ats_network.specs.Network.{AreIdentified}
use Rattle.ats_network.specs.Tables.{Identifies, Names, stream_names}
use Rattle.ats_network.proofs.TableLemmas.{table_less}
use Rattle.ats_network.proofs.stream_table.StreamTable.take.Goals as goal

pub invariant_of-self : goal.invariant_of-self
invariant_of-self c =
    let streams : List DeclaredStream = c.self.inside.streams.items in
    let long : length streams ≡ length c.args.self.now = ap length c.self.view_is in
    let within : c.in_ok-place.field-0 < length streams = omega (arith, long, c.in_ok-place.ensures.within) in
    let it : c.remove-stream.result ≡ get_or streams c.in_ok-place.field-0 no_stream =
    c.remove-stream.ensures.value ∙ get_or_default streams c.in_ok-place.field-0 c.remove-stream.result no_stream
    within in
    let many : DeclaredStream → ℕ = λ s. length s.ports in
    rw (c.remove-stream.ensures.items, c.remove.ensures.items) (
      table_less streams c.in_ok-place.field-0 c.self.inside.serials.items c.self.inside.names c.forget.new.names
          c.self.inside.identities c.forget.new.identities c.self.invariant.0 within
          (subst (λ (s : List DeclaredStream). AreApart (stream_names s)) (sym c.self.view_is) c.requires.names)
          (subst AreIdentified (sym c.self.view_is) c.requires.identities)
          (subst (λ (s : DeclaredStream). Names c.self.inside.names c.forget.new.names s.name None) it
          c.forget.ensures.names)
          (subst (λ (s : DeclaredStream). Identifies c.self.inside.identities c.forget.new.identities s.identity None)
          it c.forget.ensures.identities),
      omega (
        arith,
        sum_by-remove many streams c.in_ok-place.field-0 no_stream within,
        ap many it,
        c.self.invariant.1,
        ap length c.ports.ensures.value,
      ),
    )

pub returns-clause-less : goal.returns-clause-less
returns-clause-less c =
    let streams : List DeclaredStream = c.self.inside.streams.items in
    let i : ℕ = c.in_ok-place.field-0 in
    let it : DeclaredStream = c.remove-stream.result in
    let long : length streams ≡ length c.args.self.now = ap length c.self.view_is in
    let rest : drop i streams ≡ it ∷ drop (i + 1) streams =
    drop_more streams i it (omega (arith, long, c.in_ok-place.ensures.within))
    ∙ ap (λ (s : DeclaredStream). s ∷ drop (i + 1) streams) (sym c.remove-stream.ensures.value) in
    record {
      front = take i streams;
      back = drop (i + 1) streams;
      old_is = sym c.self.view_is ∙ sym (take-append-drop i streams)
          ∙ ap (λ (xs : List DeclaredStream). take i streams ++ xs) rest;
      new_is = c.remove-stream.ensures.by_index.2;
    }
