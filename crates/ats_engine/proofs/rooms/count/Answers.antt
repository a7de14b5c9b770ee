use Rattle.std.proofs.Common.{◌≡◌, ℕ, ◌+◌, ◌*◌, ◌<◌, List, length, get_or, set, take, arith, subst, sym, ap, ◌∙◌}
use Rattle.std.proofs.lemmas.List.{get_or_default}
use Rattle.ats_network.specs.Class.{class_at}
use Rattle.ats_network.specs.Senders.{sender_at}
use Rattle.ats_engine.specs.Rooms.{CountsOver}
use Rattle.ats_engine.proofs.Counting.{at-hop, none-here, counts-more, ports-few}
use Rattle.ats_engine.proofs.rooms.count.Goals as goal

pub overflow_cast-at : goal.overflow_cast-at
overflow_cast-at c =
    omega (
      arith,
      ports-few c.args.net.now c.args.sender c.sender_ports-ports.result.now c.sender_ports-ports.ensures.rules
          c.requires.sender c.sender_ports-ports.ensures.value,
    )

pub index_mut-requires : goal.index_mut-requires
index_mut-requires c =
    let at = at-hop c.sender_ports-ports.ensures.rules c.requires.sender c.sender_ports-ports.ensures.value
    c.loop-at-test.true c.sender_class-class.ensures.value in
    omega (arith, at.port, at.low, c.loop-at.invariant.all, c.requires.below.all)

pub overflow_add-index_mut : goal.overflow_add-index_mut
overflow_add-index_mut c =
    let at = at-hop c.sender_ports-ports.ensures.rules c.requires.sender c.sender_ports-ports.ensures.value
    c.loop-at-test.true c.sender_class-class.ensures.value in
    let port : ℕ = get_or c.sender_ports-ports.result.now c.loop-at.at 0 in
    let class : ℕ = c.sender_class-class.result in
    let fits : 8 * port + class < length c.loop-at.counts.items =
    omega (arith, at.port, at.low, c.loop-at.invariant.all, c.requires.below.all) in
    let read = c.index_mut.ensures.value
    ∙ get_or_default c.loop-at.counts.items (8 * port + class) c.index_mut.result.now 0 fits in
    omega (arith, read, none-here at c.loop-at.invariant, c.requires.below.each port class at.port at.low)

pub loop-at-preserved : goal.loop-at-preserved
loop-at-preserved c =
    let at = at-hop c.sender_ports-ports.ensures.rules c.requires.sender c.sender_ports-ports.ensures.value
    c.loop-at-test.true c.sender_class-class.ensures.value in
    let ports : List ℕ = c.sender_ports-ports.result.now in
    let port : ℕ = get_or ports c.loop-at.at 0 in
    let class : ℕ = c.sender_class-class.result in
    let fits : 8 * port + class < length c.loop-at.counts.items =
    omega (arith, at.port, at.low, c.loop-at.invariant.all, c.requires.below.all) in
    let read = c.index_mut.ensures.value
    ∙ get_or_default c.loop-at.counts.items (8 * port + class) c.index_mut.result.now 0 fits in
    let here : class ≡ class_at (sender_at c.args.net.now c.args.sender) port = c.sender_class-class.ensures.port
    ∙ ap (λ (l : List ℕ). class_at (sender_at c.args.net.now c.args.sender) (get_or l c.loop-at.at 0))
    (sym c.sender_ports-ports.ensures.value) in
    subst (λ (n : ℕ). CountsOver c.args.net.now c.args.sender (take (c.loop-at.at + 1) ports)
    c.args.counts.now.items (set c.loop-at.counts.items (8 * port + class) (n + 1))) (sym read)
    (counts-more at here fits c.loop-at.invariant)
