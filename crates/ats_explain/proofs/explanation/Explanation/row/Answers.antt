use Rattle.std.proofs.Common.{◌≡◌, ◌≤◌, true, List, length, get_or, ap, sym, subst, ◌∙◌, arith}
use Rattle.ats_network.specs.Network.{DeclaredNetwork}
use Rattle.ats_certificate.specs.Form.{IsRow}
use Rattle.ats_certificate.specs.PortSums.{is_used}
use Rattle.ats_certificate.specs.declared.row.Row.{Row}
use Rattle.ats_tally.proofs.Places.{IsPlace, is_place}
use Rattle.ats_bound.specs.Least.{least_certificate, least_row}
use Rattle.ats_explain.specs.Table.{ArePlaced}
use Rattle.ats_explain.proofs.Hops.{bursts_most}
use Rattle.ats_explain.proofs.PlacedRows.{IsPlacedAt, placed_at}
use Rattle.ats_explain.proofs.explanation.Explanation.row.Goals as goal

pub get-requires-clause-port : goal.get-requires-clause-port
get-requires-clause-port c =
    let network : DeclaredNetwork = c.self.inside.tallies in
    let used : is_used network c.args.port c.args.class ≡ true =
    subst (λ (n : DeclaredNetwork). is_used n c.args.port c.args.class ≡ true) (sym c.self.view_is) c.requires in
    let at : IsPlace network c.args.port c.args.class =
    is_place network c.args.port c.args.class c.self.invariant.rules used in
    omega (arith, at.within, c.self.invariant.placed.count)

pub get-requires-clause-class : goal.get-requires-clause-class
get-requires-clause-class c =
    let network : DeclaredNetwork = c.self.inside.tallies in
    let used : is_used network c.args.port c.args.class ≡ true =
    subst (λ (n : DeclaredNetwork). is_used n c.args.port c.args.class ≡ true) (sym c.self.view_is) c.requires in
    let at : IsPlace network c.args.port c.args.class =
    is_place network c.args.port c.args.class c.self.invariant.rules used in
    at.most

pub offset_bounds-rows-get : goal.offset_bounds-rows-get
offset_bounds-rows-get c =
    let network : DeclaredNetwork = c.self.inside.tallies in
    let used : is_used network c.args.port c.args.class ≡ true =
    subst (λ (n : DeclaredNetwork). is_used n c.args.port c.args.class ≡ true) (sym c.self.view_is) c.requires in
    let placed = subst (λ (rows : List Row). ArePlaced (length network.topology.ports) rows (length rows)
    c.self.inside.places) c.self.invariant.least c.self.invariant.placed in
    let found : IsPlacedAt network c.args.port c.args.class c.get.result =
    placed_at network c.self.inside.places c.args.port c.args.class c.get.result c.self.invariant.rules placed used
    c.get.ensures in
    let rows : c.rows.result.now ≡ least_certificate network = c.rows.ensures.value ∙ c.self.invariant.least in
    let long : length c.rows.result.now ≡ length (least_certificate network) =
    ap (λ (rows : List Row). length rows) rows in
    omega (arith, found.within, long, c.rows.type_inv.1)

pub bounds-rows-get : goal.bounds-rows-get
bounds-rows-get c =
    let network : DeclaredNetwork = c.self.inside.tallies in
    let used : is_used network c.args.port c.args.class ≡ true =
    subst (λ (n : DeclaredNetwork). is_used n c.args.port c.args.class ≡ true) (sym c.self.view_is) c.requires in
    let placed = subst (λ (rows : List Row). ArePlaced (length network.topology.ports) rows (length rows)
    c.self.inside.places) c.self.invariant.least c.self.invariant.placed in
    let found : IsPlacedAt network c.args.port c.args.class c.get.result =
    placed_at network c.self.inside.places c.args.port c.args.class c.get.result c.self.invariant.rules placed used
    c.get.ensures in
    let rows : c.rows.result.now ≡ least_certificate network = c.rows.ensures.value ∙ c.self.invariant.least in
    let long : length c.rows.result.now ≡ length (least_certificate network) =
    ap (λ (rows : List Row). length rows) rows in
    omega (arith, found.within, long)

pub returns-clause-row : goal.returns-clause-row
returns-clause-row c =
    let network : DeclaredNetwork = c.self.inside.tallies in
    let used : is_used network c.args.port c.args.class ≡ true =
    subst (λ (n : DeclaredNetwork). is_used n c.args.port c.args.class ≡ true) (sym c.self.view_is) c.requires in
    let placed = subst (λ (rows : List Row). ArePlaced (length network.topology.ports) rows (length rows)
    c.self.inside.places) c.self.invariant.least c.self.invariant.placed in
    let found : IsPlacedAt network c.args.port c.args.class c.get.result =
    placed_at network c.self.inside.places c.args.port c.args.class c.get.result c.self.invariant.rules placed used
    c.get.ensures in
    let rows : c.rows.result.now ≡ least_certificate network = c.rows.ensures.value ∙ c.self.invariant.least in
    ap (λ (rows : List Row). get_or rows c.get.result _) rows ∙ found.row _
    ∙ ap (λ (n : DeclaredNetwork). least_row n (c.args.port, c.args.class)) c.self.view_is

pub returns-clause-form : goal.returns-clause-form
returns-clause-form c =
    let network : DeclaredNetwork = c.self.inside.tallies in
    let used : is_used network c.args.port c.args.class ≡ true =
    subst (λ (n : DeclaredNetwork). is_used n c.args.port c.args.class ≡ true) (sym c.self.view_is) c.requires in
    let placed = subst (λ (rows : List Row). ArePlaced (length network.topology.ports) rows (length rows)
    c.self.inside.places) c.self.invariant.least c.self.invariant.placed in
    let found : IsPlacedAt network c.args.port c.args.class c.get.result =
    placed_at network c.self.inside.places c.args.port c.args.class c.get.result c.self.invariant.rules placed used
    c.get.ensures in
    let rows : c.rows.result.now ≡ least_certificate network = c.rows.ensures.value ∙ c.self.invariant.least in
    let count : length c.rows.result.now ≡ length c.self.inside.certificate =
    ap (λ (rows : List Row). length rows) c.rows.ensures.value in
    let long : length c.rows.result.now ≡ length (least_certificate network) =
    ap (λ (rows : List Row). length rows) rows in
    subst (λ (rows : List Row). IsRow (get_or rows c.get.result _)) (sym c.rows.ensures.value)
    (c.rows.ensures.form.each c.get.result _ (omega (arith, found.within, long, count)))

pub returns-clause-bursts : goal.returns-clause-bursts
returns-clause-bursts c =
    let network : DeclaredNetwork = c.self.inside.tallies in
    let used : is_used network c.args.port c.args.class ≡ true =
    subst (λ (n : DeclaredNetwork). is_used n c.args.port c.args.class ≡ true) (sym c.self.view_is) c.requires in
    let placed = subst (λ (rows : List Row). ArePlaced (length network.topology.ports) rows (length rows)
    c.self.inside.places) c.self.invariant.least c.self.invariant.placed in
    let found : IsPlacedAt network c.args.port c.args.class c.get.result =
    placed_at network c.self.inside.places c.args.port c.args.class c.get.result c.self.invariant.rules placed used
    c.get.ensures in
    let rows : c.rows.result.now ≡ least_certificate network = c.rows.ensures.value ∙ c.self.invariant.least in
    subst (λ (r : Row). r.bursts ≤ 8192000000000)
    (sym (ap (λ (rows : List Row). get_or rows c.get.result _) rows ∙ found.row _))
    (bursts_most network c.args.port c.args.class c.self.invariant.rules used)
