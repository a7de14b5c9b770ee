use Rattle.std.proofs.Common.{◌≡◌, List, length, get_or, sym, ap, ◌∙◌, arith}
use Rattle.ats_topology.specs.declared.port.Port.{Port}
use Rattle.ats_topology.proofs.Leaving.{leaving_at}
use Rattle.ats_topology.proofs.Spreading.{step_over, step_to, to_within}
use Rattle.ats_topology.proofs.walks.spread.Goals as goal

pub bounds-ports-p : goal.bounds-ports-p
bounds-ports-p c =
    let port = leaving_at c.args.node c.args.table.now.ports c.leaving-p-items.result.now c.loop-p.p-index
    c.leaving-p-items.ensures c.loop-p-test.true in
    omega (arith, port.within, ap (λ (ps : List Port). length ps) c.ports-ports.ensures)

pub loop-p-preserved-then-is_some : goal.loop-p-preserved-then-is_some
loop-p-preserved-then-is_some c =
    let ports = c.ports-ports.result.now in
    let items = c.leaving-p-items.result.now in
    let distances = c.loop-p.distances.items in
    let port = leaving_at c.args.node c.args.table.now.ports items c.loop-p.p-index c.leaving-p-items.ensures
    c.loop-p-test.true in
    let long : length distances ≡ c.args.table.now.nodes = c.loop-p.invariant.long ∙ c.requires.long in
    let inside = to_within c.args.table.now.nodes c.args.table.now.ports ports (get_or items c.loop-p.p-index 0)
    distances c.requires.inside c.ports-ports.ensures port.within long in
    step_over c.args.node c.args.far c.loop-p.p-index c.args.table.now.ports ports items c.args.distances.now.items
    distances c.args.queue.now.items c.loop-p.queue.items _
    c.ports-ports.ensures c.leaving-p-items.ensures c.loop-p-test.true inside c.index.ensures
    (sym c.is_some.ensures ∙ c.if-is_some.true) c.loop-p.invariant

pub loop-p-preserved : goal.loop-p-preserved
loop-p-preserved c =
    let ports = c.ports-ports.result.now in
    let items = c.leaving-p-items.result.now in
    let distances = c.loop-p.distances.items in
    let port = leaving_at c.args.node c.args.table.now.ports items c.loop-p.p-index c.leaving-p-items.ensures
    c.loop-p-test.true in
    let long : length distances ≡ c.args.table.now.nodes = c.loop-p.invariant.long ∙ c.requires.long in
    let inside = to_within c.args.table.now.nodes c.args.table.now.ports ports (get_or items c.loop-p.p-index 0)
    distances c.requires.inside c.ports-ports.ensures port.within long in
    step_to c.args.node c.args.far c.loop-p.p-index c.args.table.now.ports ports items c.args.distances.now.items
    distances c.args.queue.now.items c.loop-p.queue.items c.push.new.self.items _
    c.ports-ports.ensures c.leaving-p-items.ensures c.loop-p-test.true inside c.index.ensures
    (sym c.is_some.ensures ∙ c.if-is_some.false) c.in_ok-push.ensures.items c.loop-p.invariant
