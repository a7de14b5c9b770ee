use Rattle.std.proofs.Common.{◌≡◌, ℕ, List, length, ap, ◌∙◌, arith}
use Rattle.ats_num.specs.Places.{place_of}
use Rattle.ats_num.proofs.Numbered.{numbered_push}
use Rattle.ats_num.proofs.name_table.NameTable.push.Goals as goal

pub invariant_of-self-2 : goal.invariant_of-self-2
invariant_of-self-2 c =
    let names : List (List ℕ) = c.self.inside.names.items in
    let same : length names ≡ length c.args.self.now = ap length c.self.view_is in
    let place : c.len-place.result ≡ length names =
    c.len-place.ensures ∙ c.reserve.ensures.len ∙ c.self.inside.names.ok.0 in
    rw (c.push_reserved.ensures.items, c.reserve.ensures.items)
    (numbered_push names c.args.name c.self.inside.places c.insert.new.self c.self.invariant
    (ap (place_of c.args.name) c.self.view_is ∙ c.requires.absent) (omega arith)
    (rw place at c.in_ok-insert.ensures.updates))
