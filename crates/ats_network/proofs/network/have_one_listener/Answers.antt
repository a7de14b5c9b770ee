use Rattle.std.proofs.Common.{◌≡◌, ℕ, List, [], get_or, refl, subst, sym, take, arith}
use Rattle.std.specs.List.{All}
use Rattle.std.proofs.lemmas.List.{nil_from_length, take_all, take_more}
use Rattle.std.proofs.lemmas.List.Elements.{All-push}
use Rattle.ats_streams.specs.Stream.{DeclaredStream}
use Rattle.ats_network.proofs.network.have_one_listener.Goals as goal

pub loop-stream-preserved : goal.loop-stream-preserved
loop-stream-preserved c =
    let streams : List DeclaredStream = c.args.streams.now in
    let i : ℕ = c.loop-stream.stream-index in
    subst (All (λ (s : DeclaredStream). s.branches ≡ []))
    (sym (take_more streams i c.stream-item.result c.loop-stream-test.true))
    (All-push (λ (s : DeclaredStream). s.branches ≡ []) (take i streams) (get_or streams i c.stream-item.result)
    c.loop-stream.invariant
    (subst (λ (s : DeclaredStream). s.branches ≡ []) c.stream-item.is (nil_from_length c.stream-item.result.branches
    (omega (arith, c.legs.ensures.value, c.if-legs-ne1.false)))))

pub returns : goal.returns
returns c = (
  λ _. subst (All (λ (s : DeclaredStream). s.branches ≡ []))
      (take_all c.loop-stream.stream-index c.args.streams.now (omega (arith, c.loop-stream-test.false)))
      c.loop-stream.invariant,
  λ _. refl,
)
