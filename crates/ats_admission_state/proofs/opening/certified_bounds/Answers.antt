use Rattle.std.proofs.Common.{◌≡◌, ◌-◌, ◌<◌, ℕ, List, Some, length, drop, ap, sym, subst, ◌∙◌, arith}
use Rattle.std.specs.List.{All}
use Rattle.ats_certificate.specs.Certificate.{bound_at}
use Rattle.ats_certificate.specs.Form.{IsRow}
use Rattle.ats_certificate.specs.declared.row.Row.{Row}
use Rattle.ats_bound.proofs.LeastHolds.{ports_exist}
use Rattle.ats_admission_state.proofs.Bounds.{least_is}
use Rattle.ats_admission_state.proofs.Placed.{AreBoundsOf}
use Rattle.ats_admission_state.proofs.opening.certified_bounds.Goals as goal

-- for places past the last row
abbrev no_row : Row
no_row = record {
  port = 0;
  class = 0;
  higher = 0;
  equal = 0;
  bursts = 0;
  lower = 0;
  least = 0;
  wait = 0;
  bound = 0;
}

pub set-requires-clause-port : goal.set-requires-clause-port
set-requires-clause-port c =
    let ports : ℕ = length c.args.network.now.topology.ports in
    let inside : All (λ (row : Row). row.port < ports) c.rows-rows.result.now =
    subst (All (λ (row : Row). row.port < ports)) (sym (c.rows-rows.ensures.value ∙ c.requires))
    (ports_exist c.args.network.now c.topology.ensures.rules) in
    let port = inside (c.loop-i.i - 1) no_row (omega (arith, c.loop-i-test.true)) in
    omega (arith, port, c.loop-i.invariant.count)

pub set-requires-clause-class : goal.set-requires-clause-class
set-requires-clause-class c =
    let form : All IsRow c.rows-rows.result.now =
    subst (All IsRow) (sym c.rows-rows.ensures.value) c.rows-rows.ensures.form.each in
    (form (c.loop-i.i - 1) no_row (omega (arith, c.loop-i-test.true))).class_most

pub returns : goal.returns
returns c =
    let network = c.args.network.now in
    let none : c.loop-i.i ≡ 0 = omega (arith, c.loop-i-test.false) in
    let all : AreBoundsOf (length network.topology.ports) c.args.certificate.now c.loop-i.bounds =
    subst (λ (n : ℕ). AreBoundsOf (length network.topology.ports) (drop n c.args.certificate.now) c.loop-i.bounds)
    none c.loop-i.invariant in
    record {
      count = all.count;
      each = λ port class within some most. all.each port class within most
          ∙ ap (λ (rows : List Row). Some (bound_at rows port class)) c.requires
          ∙ ap Some (sym (least_is network port class c.topology.ensures.rules));
    }
