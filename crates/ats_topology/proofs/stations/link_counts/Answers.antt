use Rattle.std.proofs.Common.{◌≡◌, ℕ, List, take, replicate, ◌+◌, ◌<◌, length, set, sym, ap, ◌∙◌, arith}
use Rattle.std.proofs.Common.{get_or-set_other, length-set}
use Rattle.ats_topology.proofs.NameLemmas.{length-names_of}
use Rattle.std.proofs.lemmas.List.{get_or_default}
use Rattle.ats_topology.proofs.Known.{table_apart, table_open, is_there, is_number}
use Rattle.ats_topology.proofs.CountLemmas.{counts_more, counts_none, count_small, number_within}
use Rattle.ats_topology.proofs.stations.link_counts.Goals as goal

pub loop-link-init : goal.loop-link-init
loop-link-init c =
    let long : length c.args.nodes.now ≡ length c.args.names.now =
    sym (ap (λ (t : List (List ℕ)). length t) c.requires.names ∙ length-names_of c.args.nodes.now) in
    c.in_ok-counts.ensures.items_if_clones_equal (λ y h. h) ∙ ap (λ (n : ℕ). replicate n 0) long
    ∙ counts_none c.args.names.now

pub unwrap-a-requires : goal.unwrap-a-requires
unwrap-a-requires c =
    let o = table_open c.args.names.now c.args.nodes.now c.args.links.now c.requires.names c.requires.known
    c.requires.open c.loop-link.link-index c.link-item.result c.loop-link-test.true c.link-item.is in
    is_there c.place.result _ o.a c.place.ensures.place o.a_at

pub unwrap-b-requires : goal.unwrap-b-requires
unwrap-b-requires c =
    let o = table_open c.args.names.now c.args.nodes.now c.args.links.now c.requires.names c.requires.known
    c.requires.open c.loop-link.link-index c.link-item.result c.loop-link-test.true c.link-item.is in
    is_there c.place-in-loop-link.result _ o.b c.place-in-loop-link.ensures.place o.b_at

pub overflow_add-index_mut : goal.overflow_add-index_mut
overflow_add-index_mut c =
    let counts = c.loop-link.counts.items in
    let inside = number_within c.args.names.now (take c.loop-link.link-index c.args.links.now)
    counts c.place.result c.unwrap-a.result c.loop-link.invariant c.place.ensures.within c.unwrap-a.ensures in
    let small = count_small c.args.names.now c.args.links.now c.loop-link.link-index counts c.unwrap-a.result
    c.index_mut.result.now c.loop-link.invariant c.loop-link-test.true inside
    (c.index_mut.ensures.value ∙ get_or_default counts c.unwrap-a.result _ 0 inside) in
    omega (arith, small)

pub overflow_add-index_mut-in-loop-link : goal.overflow_add-index_mut-in-loop-link
overflow_add-index_mut-in-loop-link c =
    let counts = c.loop-link.counts.items in
    let o = table_open c.args.names.now c.args.nodes.now c.args.links.now c.requires.names c.requires.known
    c.requires.open c.loop-link.link-index c.link-item.result c.loop-link-test.true c.link-item.is in
    let a = is_number c.place.result _ c.unwrap-a.result o.a c.unwrap-a.ensures c.place.ensures.place o.a_at in
    let b = is_number c.place-in-loop-link.result _ c.unwrap-b.result o.b c.unwrap-b.ensures
    c.place-in-loop-link.ensures.place o.b_at in
    let inside =
    number_within c.args.names.now (take c.loop-link.link-index c.args.links.now) counts c.place-in-loop-link.result
    c.unwrap-b.result c.loop-link.invariant c.place-in-loop-link.ensures.within c.unwrap-b.ensures in
    let differ : c.unwrap-b.result ≡ c.unwrap-a.result → ⊥ = λ same. o.differ (sym a ∙ sym same ∙ b) in
    let small = count_small c.args.names.now c.args.links.now c.loop-link.link-index counts c.unwrap-b.result
    c.index_mut-in-loop-link.result.now c.loop-link.invariant c.loop-link-test.true inside
    (c.index_mut-in-loop-link.ensures.value ∙ get_or-set_other counts c.unwrap-a.result c.unwrap-b.result
    (c.index_mut.result.now + 1) _ differ ∙ get_or_default counts c.unwrap-b.result _ 0 inside) in
    omega (arith, small)

pub loop-link-preserved : goal.loop-link-preserved
loop-link-preserved c =
    let counts = c.loop-link.counts.items in
    let o = table_open c.args.names.now c.args.nodes.now c.args.links.now c.requires.names c.requires.known
    c.requires.open c.loop-link.link-index c.link-item.result c.loop-link-test.true c.link-item.is in
    let a = is_number c.place.result _ c.unwrap-a.result o.a c.unwrap-a.ensures c.place.ensures.place o.a_at in
    let b = is_number c.place-in-loop-link.result _ c.unwrap-b.result o.b c.unwrap-b.ensures
    c.place-in-loop-link.ensures.place o.b_at in
    let in_a = number_within c.args.names.now (take c.loop-link.link-index c.args.links.now)
    counts c.place.result c.unwrap-a.result c.loop-link.invariant c.place.ensures.within c.unwrap-a.ensures in
    let in_b =
    number_within c.args.names.now (take c.loop-link.link-index c.args.links.now) counts c.place-in-loop-link.result
    c.unwrap-b.result c.loop-link.invariant c.place-in-loop-link.ensures.within c.unwrap-b.ensures in
    let in_set : c.unwrap-b.result < length (set counts c.unwrap-a.result (c.index_mut.result.now + 1)) =
    omega (arith, in_b, length-set {A = ℕ}) in
    counts_more c.args.names.now (table_apart c.args.names.now c.args.nodes.now c.requires.names c.requires.apart)
    c.args.links.now c.loop-link.link-index c.link-item.result o counts c.unwrap-a.result c.unwrap-b.result
    c.index_mut.result.now c.index_mut-in-loop-link.result.now
    c.loop-link-test.true c.link-item.is c.loop-link.invariant a b in_a in_b
    (c.index_mut.ensures.value ∙ get_or_default counts c.unwrap-a.result _ 0 in_a)
    (c.index_mut-in-loop-link.ensures.value
    ∙ get_or_default (set counts c.unwrap-a.result (c.index_mut.result.now + 1)) c.unwrap-b.result _ 0 in_set)
