use Rattle.std.proofs.Common.{◌<◌, ℕ, List, length, Result, Ok, Err, arith, sym, subst}
use Rattle.std.specs.Prelude.{OnErr}
use Rattle.std.specs.List.{All}
use Rattle.ats_class_table.specs.Table.{Table}
use Rattle.ats_streams.specs.Stream.{DeclaredStream}
use Rattle.ats_network.specs.Network.{DeclaredNetwork}
use Rattle.ats_admission_shares.specs.PortShares.{stream_at, without_at}
use Rattle.ats_admission_state.specs.Kept.{AreLeastBeside, IsKeptBeside, KeptState}
use Rattle.ats_admission_state.specs.Laws.{StayBeside}
use Rattle.ats_admission_state.specs.Routes.{RouteState}
use Rattle.ats_admission_state.specs.Spares.{AreSpares}
use Rattle.ats_admission_state.proofs.Beside.{bounds_stay_beside}
use Rattle.ats_admission_state.proofs.Last.{few_ports, less_by, stream_is}
use Rattle.ats_admission_state.proofs.Spared.{written_back}
use Rattle.ats_admission_state.proofs.kept.Kept.judge.Goals as goal

-- what holds anyway holds of a failure
on_err : {A E : Type 0} (r : Result A E) (P : Type 0) → P → OnErr r P
on_err (Ok x) P p = tt
on_err (Err e) P p = p

-- beside the path of a network's stream the least bounds are those without it
stay : (network : DeclaredNetwork) (n : ℕ) (bounds : Table ℕ) → n < length network.streams
    → StayBeside network (without_at network n) (stream_at network n) bounds
stay network n bounds within =
    bounds_stay_beside network (without_at network n) (stream_at network n) bounds (less_by network n within)

pub of-requires : goal.of-requires
of-requires c =
    let network : DeclaredNetwork = c.args.network.now in
    let within : c.args.stream < length network.streams = omega (arith, c.requires.last) in
    let stream = stream_is network c.streams.result.now c.args.stream c.index-streams-stream.result within
    c.streams.ensures.value c.index-streams-stream.is in
    subst (λ (s : DeclaredStream). All (λ p. p < 4096) s.ports) (sym stream)
    (few_ports network c.args.stream c.streams.ensures.rules within)

pub judge_stream-judged-requires-clause-beside : goal.judge_stream-judged-requires-clause-beside
judge_stream-judged-requires-clause-beside c =
    let network : DeclaredNetwork = c.args.network.now in
    let n : ℕ = c.args.stream in
    (stay network n c.self.inside.bounds (omega (arith, c.requires.last))).entered
    (subst (λ (kept : KeptState). AreLeastBeside (without_at network n) (stream_at network n).ports kept.bounds)
    (sym c.self.view_is) c.requires.beside.bounds)

pub returns-in-Err-clause-err : goal.returns-in-Err-clause-err
returns-in-Err-clause-err c =
    let network : DeclaredNetwork = c.args.network.now in
    let n : ℕ = c.args.stream in
    let before : IsKeptBeside (without_at network n) (stream_at network n).ports _ =
    subst (IsKeptBeside (without_at network n) (stream_at network n).ports) (sym c.self.view_is) c.requires.beside in
    record {
      keeps = before.keeps;
      bounds = (stay network n c.judge_stream-judged.new.bounds (omega (arith, c.requires.last))).left
          c.judge_stream-judged.ensures.beside;
    }

pub returns-in_err-enter-clause-err : goal.returns-in_err-enter-clause-err
returns-in_err-enter-clause-err c =
    let network : DeclaredNetwork = c.args.network.now in
    let n : ℕ = c.args.stream in
    on_err c.from_residual-in_err-enter.result _ (record {
      keeps = c.in_err-enter.ensures.err;
      bounds = (stay network n c.judge_stream-judged.new.bounds (omega (arith, c.requires.last))).left
          c.judge_stream-judged.ensures.beside;
    })

pub invariant_of-self-in_err-enter : goal.invariant_of-self-in_err-enter
invariant_of-self-in_err-enter c =
    let bounds : Table ℕ = c.judge_stream-judged.new.bounds in
    let spares : List ℕ = c.judge_stream-judged.new.spares in
    c.enter.ensures.spares bounds
    (subst (AreSpares bounds c.self.inside.routes.items)
    (sym (written_back c.self.inside.spares.len spares c.self.inside.spares.items
    (omega (arith, c.judge_stream-judged.auto.spares, c.deref_mut.ensures.len))))
    (subst (λ (routes : List RouteState). AreSpares bounds routes spares) c.deref.ensures.value
    c.judge_stream-judged.ensures.spares))

pub invariant_of-self-2 : goal.invariant_of-self-2
invariant_of-self-2 c =
    let bounds : Table ℕ = c.judge_stream-judged.new.bounds in
    let spares : List ℕ = c.judge_stream-judged.new.spares in
    c.enter.ensures.spares bounds
    (subst (AreSpares bounds c.self.inside.routes.items)
    (sym (written_back c.self.inside.spares.len spares c.self.inside.spares.items
    (omega (arith, c.judge_stream-judged.auto.spares, c.deref_mut.ensures.len))))
    (subst (λ (routes : List RouteState). AreSpares bounds routes spares) c.deref.ensures.value
    c.judge_stream-judged.ensures.spares))
