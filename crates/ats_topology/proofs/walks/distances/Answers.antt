use Rattle.std.proofs.Common.{◌≡◌, ℕ, ◌<◌, ◌≤◌, List, length, replicate, sym, ap, ◌∙◌, arith, rules, Option, Some, None}
use Rattle.std.proofs.Common.{subst, length-set, length-append}
use Rattle.std.proofs.lemmas.List.{length-replicate, drop_all}
use Rattle.std.proofs.lemmas.Option.{same_Some}
use Rattle.ats_topology.proofs.Spreading.{distance_within, read_is}
use Rattle.ats_topology.proofs.Searching.{IsSearch, turn_at, turn_small, search_on, search_start, found_all}
use Rattle.ats_topology.proofs.Searching.{unreached_start}
use Rattle.ats_topology.proofs.LeastWalks.{some_there}
use Rattle.ats_topology.proofs.walks.distances.Goals as goal

pub loop-head-init : goal.loop-head-init
loop-head-init c =
    let first : c.in_ok-distances.distances.items ≡ replicate c.args.table.now.nodes None =
    c.in_ok-distances.ensures.items_if_clones_equal (λ y h. search rules)
    ∙ ap (λ (n : ℕ). replicate n None) c.nodes.ensures in
    let nothing : Option ℕ = None in
    let queue = c.in_ok-queue.ensures.items in
    rw (first, queue)
    (record {
      long = length-set (replicate c.args.table.now.nodes nothing) c.args.to (Some 0)
          ∙ length-replicate c.args.table.now.nodes nothing;
      count = unreached_start c.args.table.now.nodes c.args.to c.requires.to;
      within = omega arith;
      search = search_start c.args.table.now.ports c.args.table.now.nodes c.args.to c.requires.to;
    })

pub index-requires : goal.index-requires
index-requires c =
    let queue = c.loop-head.queue.items in
    let inside : c.loop-head.head < length queue =
    omega (arith, c.loop-head-test.true, c.len.ensures, c.loop-head.queue.ok.0) in
    let t = turn_at c.args.table.now.ports c.args.to c.loop-head.distances.items c.loop-head.head
    c.index-node.result.now queue inside c.index-node.ensures c.loop-head.invariant.search in
    omega (
      arith,
      distance_within c.loop-head.distances.items c.index-node.result.now t.far t.at,
      c.loop-head.distances.ok.0,
    )

pub unwrap-far-requires : goal.unwrap-far-requires
unwrap-far-requires c =
    let queue = c.loop-head.queue.items in
    let inside : c.loop-head.head < length queue =
    omega (arith, c.loop-head-test.true, c.len.ensures, c.loop-head.queue.ok.0) in
    let t = turn_at c.args.table.now.ports c.args.to c.loop-head.distances.items c.loop-head.head
    c.index-node.result.now queue inside c.index-node.ensures c.loop-head.invariant.search in
    let known = distance_within c.loop-head.distances.items c.index-node.result.now t.far t.at in
    some_there c.index.result.now t.far (sym
    (read_is c.loop-head.distances.items c.index-node.result.now c.index.result.now known c.index.ensures) ∙ t.at)

pub overflow_add-far : goal.overflow_add-far
overflow_add-far c =
    let queue = c.loop-head.queue.items in
    let inside : c.loop-head.head < length queue =
    omega (arith, c.loop-head-test.true, c.len.ensures, c.loop-head.queue.ok.0) in
    let t = turn_at c.args.table.now.ports c.args.to c.loop-head.distances.items c.loop-head.head
    c.index-node.result.now queue inside c.index-node.ensures c.loop-head.invariant.search in
    let known = distance_within c.loop-head.distances.items c.index-node.result.now t.far t.at in
    let same = same_Some c.unwrap-far.result t.far (sym c.unwrap-far.ensures ∙ sym (read_is c.loop-head.distances.items
    c.index-node.result.now c.index.result.now known c.index.ensures) ∙ t.at) in
    omega (
      arith,
      same,
      turn_small c.args.table.now.ports c.args.to c.loop-head.distances.items c.loop-head.head
          c.index-node.result.now queue inside t,
      c.loop-head.invariant.count,
      c.requires.few,
    )

pub spread-requires-clause-node : goal.spread-requires-clause-node
spread-requires-clause-node c =
    let queue = c.loop-head.queue.items in
    let inside : c.loop-head.head < length queue =
    omega (arith, c.loop-head-test.true, c.len.ensures, c.loop-head.queue.ok.0) in
    let t = turn_at c.args.table.now.ports c.args.to c.loop-head.distances.items c.loop-head.head
    c.index-node.result.now queue inside c.index-node.ensures c.loop-head.invariant.search in
    omega (
      arith,
      distance_within c.loop-head.distances.items c.index-node.result.now t.far t.at,
      c.loop-head.invariant.long,
    )

pub loop-head-preserved : goal.loop-head-preserved
loop-head-preserved c =
    let queue = c.loop-head.queue.items in
    let spread = c.in_ok-spread.ensures in
    let inside : c.loop-head.head < length queue =
    omega (arith, c.loop-head-test.true, c.len.ensures, c.loop-head.queue.ok.0) in
    let t = turn_at c.args.table.now.ports c.args.to c.loop-head.distances.items c.loop-head.head
    c.index-node.result.now queue inside c.index-node.ensures c.loop-head.invariant.search in
    let known = distance_within c.loop-head.distances.items c.index-node.result.now t.far t.at in
    let is = read_is c.loop-head.distances.items c.index-node.result.now c.index.result.now known c.index.ensures
    ∙ c.unwrap-far.ensures in
    record {
      long = spread.long ∙ c.loop-head.invariant.long;
      count = spread.count ∙ c.loop-head.invariant.count;
      within = omega (arith, inside, ap (λ (q : List ℕ). length q) spread.queued, length-append queue spread.added);
      search = search_on c.args.table.now.ports c.args.to c.loop-head.distances.items c.spread.new.distances.items
          c.loop-head.head c.index-node.result.now c.unwrap-far.result queue c.spread.new.queue.items
          c.requires.paired inside c.index-node.ensures c.loop-head.invariant.search is spread;
    }

pub returns-clause-exact : goal.returns-clause-exact
returns-clause-exact c =
    let queue = c.loop-head.queue.items in
    let past : length queue ≤ c.loop-head.head =
    omega (arith, c.loop-head-test.false, c.len.ensures, c.loop-head.queue.ok.0) in
    found_all c.args.table.now.ports c.args.to c.loop-head.distances.items c.loop-head.head c.requires.paired
    (subst (IsSearch c.args.table.now.ports c.args.to c.loop-head.distances.items c.loop-head.head)
    (drop_all c.loop-head.head queue past) c.loop-head.invariant.search)
