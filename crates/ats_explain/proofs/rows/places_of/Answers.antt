use Rattle.std.proofs.Common.{◌≡◌, ◌<◌, List, length, get_or, ap, sym, subst, ◌∙◌, arith}
use Rattle.std.specs.List.{All}
use Rattle.ats_certificate.specs.declared.row.Row.{Row}
use Rattle.ats_bound.proofs.LeastHolds.{ports_exist}
use Rattle.ats_explain.proofs.PlacedRows.{placed_more}
use Rattle.ats_explain.proofs.rows.places_of.Goals as goal

pub set-requires-clause-port : goal.set-requires-clause-port
set-requires-clause-port c =
    let inside : All (λ (row : Row). row.port < length c.args.network.now.topology.ports) c.rows-rows.result.now =
    subst (All (λ (row : Row). row.port < length c.args.network.now.topology.ports))
    (sym (c.rows-rows.ensures.value ∙ c.requires)) (ports_exist c.args.network.now c.topology.ensures.rules) in
    let d : Row = record {
      port = 0;
      class = 0;
      higher = 0;
      equal = 0;
      bursts = 0;
      lower = 0;
      least = 0;
      wait = 0;
      bound = 0;
    } in
    let here = inside c.loop-place.place d c.loop-place-test.true in
    omega (arith, here, c.loop-place.invariant.count)

pub loop-place-preserved : goal.loop-place-preserved
loop-place-preserved c =
    let count : length c.rows-rows.result.now ≡ length c.args.certificate.now =
    ap (λ (rows : List Row). length rows) c.rows-rows.ensures.value in
    placed_more (length c.args.network.now.topology.ports) c.args.certificate.now c.loop-place.place _ _
    c.loop-place.places c.set.new.self c.rows-rows.ensures.form.ordered
    (omega (arith, count, c.loop-place-test.true))
    (ap (λ (rows : List Row). get_or rows c.loop-place.place _) c.rows-rows.ensures.value)
    c.loop-place.invariant c.set.ensures
