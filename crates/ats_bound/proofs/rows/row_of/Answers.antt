use Rattle.std.proofs.Common.{◌≡◌, List, length, ap, ◌∙◌, sym, subst, arith}
use Rattle.ats_topology.specs.Port.{port_at}
use Rattle.ats_topology.specs.Rates.{IsPsPerBit}
use Rattle.ats_topology.specs.declared.port.Port.{Port}
use Rattle.ats_tally.proofs.Places.{IsPlace, is_place, used_class}
use Rattle.ats_tally.proofs.Network.{all_within}
use Rattle.ats_bound.proofs.rows.row_of.Goals as goal

pub bounds-ports-port : goal.bounds-ports-port
bounds-ports-port c =
    let at : IsPlace c.args.network.now c.args.port c.args.class =
    is_place c.args.network.now c.args.port c.args.class c.topology.ensures.rules c.requires.used in
    let long : length c.ports-ports.result.now ≡ length c.args.network.now.topology.ports =
    ap (λ (ports : List Port). length ports) c.ports-ports.ensures.value
    ∙ ap (λ t. length t.ports) c.topology.ensures.value in
    omega (arith, at.within, long)

pub row_from-requires-clause-ps : goal.row_from-requires-clause-ps
row_from-requires-clause-ps c =
    let at : IsPlace c.args.network.now c.args.port c.args.class =
    is_place c.args.network.now c.args.port c.args.class c.topology.ensures.rules c.requires.used in
    let same : c.args.network.now.topology.ports ≡ c.ports-ports.result.now =
    sym (c.ports-ports.ensures.value ∙ ap (λ t. t.ports) c.topology.ensures.value) in
    subst (λ (ports : List Port). IsPsPerBit (port_at ports c.args.port).ps_per_bit) same at.is_port.rate

pub row_from-requires-clause-class_least : goal.row_from-requires-clause-class_least
row_from-requires-clause-class_least c =
    used_class c.args.network.now c.args.port c.args.class c.topology.ensures.rules c.requires.used

pub row_from-requires-clause-class_most : goal.row_from-requires-clause-class_most
row_from-requires-clause-class_most c =
    (is_place c.args.network.now c.args.port c.args.class c.topology.ensures.rules c.requires.used).most

pub row_from-requires-clause-tally : goal.row_from-requires-clause-tally
row_from-requires-clause-tally c =
    all_within c.args.network.now c.args.port c.args.class c.args.tally c.topology.ensures.rules
    (used_class c.args.network.now c.args.port c.args.class c.topology.ensures.rules c.requires.used)
    c.requires.tally

pub row_from-requires-clause-equal : goal.row_from-requires-clause-equal
row_from-requires-clause-equal c =
    let at : IsPlace c.args.network.now c.args.port c.args.class =
    is_place c.args.network.now c.args.port c.args.class c.topology.ensures.rules c.requires.used in
    omega (arith, at.rate, c.requires.tally.equal)
