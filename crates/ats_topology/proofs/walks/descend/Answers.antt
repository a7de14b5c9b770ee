use Rattle.std.proofs.Common.{◌≡◌, ℕ, ◌-◌, List, [], length, sym, ap, ◌∙◌, arith, subst}
use Rattle.std.proofs.lemmas.List.{append-nil}
use Rattle.ats_topology.specs.Port.{port_at}
use Rattle.ats_topology.specs.Walks.{IsWalk, IsLeastWalk}
use Rattle.ats_topology.specs.Search.{distance}
use Rattle.ats_topology.specs.declared.port.Port.{Port}
use Rattle.ats_topology.proofs.LeastWalks.{far_positive, nearer_found, nearer_end, nearer_within, nearer_falls}
use Rattle.ats_topology.proofs.LeastWalks.{not_none, some_there, least_so_far, least_here, walk_ports}
use Rattle.ats_topology.proofs.walks.descend.Goals as goal

pub overflow_sub-far : goal.overflow_sub-far
overflow_sub-far c = far_positive c.args.table.now.ports c.args.to c.args.distances.now c.loop-at.at c.unwrap-far.result
    c.requires.exact c.unwrap-far.ensures c.loop-at-test.true

pub unwrap-port-requires : goal.unwrap-port-requires
unwrap-port-requires c =
    not_none c.first_port.result
    (λ none. nearer_found c.args.table.now.ports c.args.to c.args.distances.now c.loop-at.at c.unwrap-far.result
    c.requires.exact c.unwrap-far.ensures c.loop-at-test.true (sym c.first_port.ensures ∙ none))

pub bounds-ports-port : goal.bounds-ports-port
bounds-ports-port c =
    let within = nearer_within c.args.table.now.ports c.args.distances.now c.loop-at.at (c.unwrap-far.result - 1)
    c.unwrap-port.result (sym c.first_port.ensures ∙ c.unwrap-port.ensures) in
    omega (arith, within, ap (λ (ps : List Port). length ps) c.ports.ensures)

pub loop-at-smaller : goal.loop-at-smaller
loop-at-smaller c =
    let end = nearer_end c.args.table.now.ports c.args.distances.now c.loop-at.at (c.unwrap-far.result - 1)
    c.unwrap-port.result (sym c.first_port.ensures ∙ c.unwrap-port.ensures) in
    let positive = far_positive c.args.table.now.ports c.args.to c.args.distances.now c.loop-at.at c.unwrap-far.result
    c.requires.exact c.unwrap-far.ensures c.loop-at-test.true in
    nearer_falls (distance c.args.distances.now (port_at c.ports.result.now c.unwrap-port.result).to)
    (distance c.args.distances.now c.loop-at.at) c.unwrap-far.result positive
    (ap (λ (ps : List Port). distance c.args.distances.now (port_at ps c.unwrap-port.result).to) c.ports.ensures ∙ end)
    c.unwrap-far.ensures

pub loop-at-preserved : goal.loop-at-preserved
loop-at-preserved c =
    let found = sym c.first_port.ensures ∙ c.unwrap-port.ensures in
    let to : (port_at c.ports.result.now c.unwrap-port.result).to
    ≡ (port_at c.args.table.now.ports c.unwrap-port.result).to =
    ap (λ (ps : List Port). (port_at ps c.unwrap-port.result).to) c.ports.ensures in
    let end = nearer_end c.args.table.now.ports c.args.distances.now c.loop-at.at (c.unwrap-far.result - 1)
    c.unwrap-port.result found in
    record {
      least = λ rest l. least_so_far c.args.table.now.ports c.args.from c.args.to c.args.distances.now c.loop-at.at
          c.unwrap-far.result c.unwrap-port.result c.loop-at.walk.items c.push.new.self.items
          c.requires.exact c.unwrap-far.ensures c.loop-at-test.true found c.in_ok-push.ensures.items
          c.loop-at.invariant.least rest
          (subst (λ (n : ℕ). IsLeastWalk c.args.table.now.ports n c.args.to rest) to l);
      reached = some_there (distance c.args.distances.now (port_at c.ports.result.now c.unwrap-port.result).to)
          (c.unwrap-far.result - 1) (ap (distance c.args.distances.now) to ∙ end);
    }

pub returns-clause-ports : goal.returns-clause-ports
returns-clause-ports c =
    walk_ports c.args.table.now.ports c.args.to c.args.from c.loop-at.walk.items
    (subst (IsWalk c.args.table.now.ports c.args.from c.args.to) (append-nil c.loop-at.walk.items)
    (c.loop-at.invariant.least
    [] (least_here c.args.table.now.ports c.loop-at.at c.args.to c.loop-at-test.false)).walk_is)

pub returns-clause-walk : goal.returns-clause-walk
returns-clause-walk c =
    subst (IsLeastWalk c.args.table.now.ports c.args.from c.args.to) (append-nil c.loop-at.walk.items)
    (c.loop-at.invariant.least [] (least_here c.args.table.now.ports c.loop-at.at c.args.to c.loop-at-test.false))
