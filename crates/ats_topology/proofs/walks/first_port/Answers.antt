use Rattle.std.proofs.Common.{ℕ, ◌+◌, Bool, true, false, List, Option, length, get_or, take, sym, ap, ◌∙◌, arith}
use Rattle.std.specs.List.{find}
use Rattle.ats_topology.specs.declared.port.Port.{Port}
use Rattle.ats_topology.specs.Port.{port_at}
use Rattle.ats_topology.specs.Search.{distance, is_at}
use Rattle.ats_topology.proofs.Leaving.{leaving_at, find-here, find-over}
use Rattle.ats_topology.proofs.LeastWalks.{is_far_as}
use Rattle.ats_topology.proofs.walks.first_port.Goals as goal

pub bounds-ports-port : goal.bounds-ports-port
bounds-ports-port c =
    let port = leaving_at c.args.node c.args.table.now.ports c.leaving-port-items.result.now c.loop-port.port-index
    c.leaving-port-items.ensures c.loop-port-test.true in
    omega (arith, port.within, ap (λ (ps : List Port). length ps) c.ports-ports.ensures)

pub returns-then-eq : goal.returns-then-eq
returns-then-eq c =
    let ports : List Port = c.args.table.now.ports in
    let distances : List (Option ℕ) = c.args.distances.now in
    let items : List ℕ = c.leaving-port-items.result.now in
    let place : ℕ = c.loop-port.port-index in
    let test : ℕ → Bool = λ p. is_at c.args.far (distance distances (port_at ports p).to) in
    sym (ap (find test) (sym c.leaving-port-items.ensures)
    ∙ find-here test items place 0
    (ap (λ (xs : List ℕ). find test (take place xs)) c.leaving-port-items.ensures ∙ c.loop-port.invariant)
    c.loop-port-test.true
    (is_far_as c.args.far (get_or items place 0) distances ports c.ports-ports.result.now c.eq.result true
    c.ports-ports.ensures c.eq.ensures c.if-eq.true))

pub loop-port-preserved : goal.loop-port-preserved
loop-port-preserved c =
    let items : List ℕ = c.leaving-port-items.result.now in
    let place : ℕ = c.loop-port.port-index in
    let test : ℕ → Bool = λ p. is_at c.args.far (distance c.args.distances.now (port_at c.args.table.now.ports p).to) in
    ap (λ (xs : List ℕ). find test (take (place + 1) xs)) (sym c.leaving-port-items.ensures)
    ∙ find-over test items place 0
    (ap (λ (xs : List ℕ). find test (take place xs)) c.leaving-port-items.ensures ∙ c.loop-port.invariant)
    c.loop-port-test.true
    (is_far_as c.args.far (get_or items place 0) c.args.distances.now c.args.table.now.ports
    c.ports-ports.result.now c.eq.result false c.ports-ports.ensures c.eq.ensures c.if-eq.false)
