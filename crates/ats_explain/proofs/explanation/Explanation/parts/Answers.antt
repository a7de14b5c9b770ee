use Rattle.std.proofs.Common.{◌≡◌, ℕ, true, List, length, Option, ap, sym, subst, ◌∙◌, arith}
use Rattle.std.proofs.lemmas.Option.{same_Some}
use Rattle.ats_topology.specs.Port.{port_at}
use Rattle.ats_topology.specs.declared.port.Port.{Port}
use Rattle.ats_network.specs.Network.{DeclaredNetwork}
use Rattle.ats_certificate.specs.PortSums.{is_used}
use Rattle.ats_certificate.specs.declared.row.Row.{Row}
use Rattle.ats_tally.proofs.Places.{IsPlace, is_place}
use Rattle.ats_bound.specs.Least.{least_row}
use Rattle.ats_explain.specs.Parts.{parts_by, stay_behind}
use Rattle.ats_explain.specs.Senders.{lower_name}
use Rattle.ats_explain.proofs.explanation.Explanation.parts.Goals as goal

pub bounds-ports-port : goal.bounds-ports-port
bounds-ports-port c =
    let at : IsPlace c.args.self.now c.args.port c.args.class =
    is_place c.args.self.now c.args.port c.args.class c.network-network.ensures.rules c.requires in
    let long : length c.ports.result.now ≡ length c.args.self.now.topology.ports =
    ap (λ (ports : List Port). length ports) c.ports.ensures.value
    ∙ ap (λ t. length t.ports) c.topology.ensures.value
    ∙ ap (λ (n : DeclaredNetwork). length n.topology.ports) c.network-network.ensures.value in
    omega (arith, at.within, long)

pub get-requires-clause-port : goal.get-requires-clause-port
get-requires-clause-port c =
    let network : DeclaredNetwork = c.self.inside.tallies in
    let used : is_used network c.args.port c.args.class ≡ true =
    subst (λ (n : DeclaredNetwork). is_used n c.args.port c.args.class ≡ true) (sym c.self.view_is) c.requires in
    let at : IsPlace network c.args.port c.args.class =
    is_place network c.args.port c.args.class c.self.invariant.rules used in
    omega (arith, at.within, c.self.invariant.named.count)

pub stay_behind-requires-clause-port : goal.stay_behind-requires-clause-port
stay_behind-requires-clause-port c =
    let at : IsPlace c.args.self.now c.args.port c.args.class =
    is_place c.args.self.now c.args.port c.args.class c.network-network.ensures.rules c.requires in
    let same = ap (λ (n : DeclaredNetwork). length n.topology.ports) c.network-network.ensures.value in
    omega (arith, at.within, same)

pub returns : goal.returns
returns c =
    let network : DeclaredNetwork = c.self.inside.tallies in
    let now : DeclaredNetwork = c.args.self.now in
    let port : ℕ = c.args.port in
    let class : ℕ = c.args.class in
    let used : is_used network port class ≡ true =
    subst (λ (n : DeclaredNetwork). is_used n port class ≡ true) (sym c.self.view_is) c.requires in
    let at : IsPlace network port class = is_place network port class c.self.invariant.rules used in
    let ports : c.ports.result.now ≡ now.topology.ports =
    c.ports.ensures.value ∙ ap (λ t. t.ports) c.topology.ensures.value
    ∙ ap (λ (n : DeclaredNetwork). n.topology.ports) c.network-network.ensures.value in
    let name : c.get.result ≡ lower_name now port class =
    same_Some c.get.result (lower_name network port class)
    (sym c.get.ensures ∙ c.self.invariant.named.each port class at.within at.least at.most)
    ∙ ap (λ (n : DeclaredNetwork). lower_name n port class) c.self.view_is in
    let stay : c.stay_behind.result ≡ stay_behind now port (least_row now (port, class)).wait =
    c.stay_behind.ensures
    ∙ ap (λ (n : DeclaredNetwork). stay_behind n port c.row-row.result.now.wait) c.network-network.ensures.value
    ∙ ap (λ (r : Row). stay_behind now port r.wait) c.row-row.ensures.row in
    c.of.ensures
    ∙ ap (λ (l : List Port). parts_by (port_at l port) c.row-row.result.now c.get.result c.stay_behind.result) ports
    ∙ ap (λ (r : Row). parts_by (port_at now.topology.ports port) r c.get.result c.stay_behind.result)
    c.row-row.ensures.row
    ∙ ap (λ (n : Option (List ℕ)). parts_by (port_at now.topology.ports port) (least_row now (port, class)) n
    c.stay_behind.result) name
    ∙ ap (parts_by (port_at now.topology.ports port) (least_row now (port, class)) (lower_name now port class)) stay
