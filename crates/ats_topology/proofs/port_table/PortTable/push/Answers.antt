use Rattle.std.proofs.Common.{◌≡◌, ◌+◌, ◌<◌, ◌^◌, ℕ, List, [], ◌∷◌, ◌++◌, length, ap, ◌∙◌, arith, None, get_or-set_same}
use Rattle.std.specs.Global.{Vec}
use Rattle.ats_topology.specs.Port.{port_between}
use Rattle.ats_topology.specs.PortTable.{NodePorts}
use Rattle.ats_topology.specs.declared.port.Port.{Port}
use Rattle.ats_topology.proofs.TableLemmas.{indexed_push}
use Rattle.ats_topology.proofs.port_table.PortTable.push.Goals as goal

pub invariant_of-self-2 : goal.invariant_of-self-2
invariant_of-self-2 c =
    let ports : List Port = c.self.inside.ports.items in
    let lists : List (Vec ℕ) = c.self.inside.lists.items in
    let one : Vec ℕ = c.reserve-2.new.self in
    let from : ℕ = c.args.port.from in
    let count : length lists ≡ c.args.self.now.nodes = ap (λ (v : NodePorts). v.nodes) c.self.view_is in
    let inside : from < length lists = omega (arith, count, c.requires.from) in
    let long : length ports ≡ length c.args.self.now.ports = ap (λ (v : NodePorts). length v.ports) c.self.view_is in
    let room : length ports + 1 < 2 ^ 32 = omega (arith, long, c.requires.room) in
    let absent : port_between from c.args.port.to ports ≡ None =
    ap (λ (v : NodePorts). port_between from c.args.port.to v.ports) c.self.view_is ∙ c.requires.absent in
    let place : c.len-place.result ≡ length ports = c.len-place.ensures ∙ c.self.inside.ports.ok.0 in
    let second : c.push_reserved.new.self.items ≡ one.items ++ length ports ∷ [] =
    c.push_reserved.ensures.items
    ∙ ap (λ (v : Vec ℕ). v.items ++ c.len-place.result ∷ [])
    (c.index_mut-2.ensures.value ∙ get_or-set_same lists from one c.index_mut-2.result.now inside)
    ∙ ap (λ (n : ℕ). one.items ++ n ∷ []) place in
    rw (c.push_reserved-2.ensures.items, c.reserve.ensures.items)
    (indexed_push ports c.args.port c.self.inside.places c.insert.new.self lists one c.push_reserved.new.self
    c.self.invariant inside absent room (rw place at c.in_ok-insert.ensures.updates)
    (c.reserve-2.ensures.items ∙ ap (λ (v : Vec ℕ). v.items) c.index_mut.ensures.value
    ∙ c.self.invariant.leaving from c.index_mut.result.now inside) second)
