use Rattle.std.proofs.Common.{◌≡◌, ◌<◌, ◌-◌, ℕ, suc, List, length, get_or, take, sym, ap, subst, ◌∙◌, arith}
use Rattle.std.specs.List.{All, remove}
use Rattle.std.proofs.lemmas.List.{get_or-take, length-take-le}
use Rattle.ats_admission_users.specs.Users.{UsersState, ListsPaths}
use Rattle.ats_admission_users.specs.Lists.{items_of, EntriesDiffer, Leaves}
use Rattle.ats_admission_users.proofs.Places.{take_freed, used_differ}
use Rattle.ats_admission_users.proofs.StateLemmas.{listed_less}
use Rattle.ats_admission_users.proofs.port_users.PortUsers.take.Goals as goal

pub returns : goal.returns
returns c ports paths listed is =
    let used : ℕ = c.self.inside.used in
    let slots : List ℕ = c.self.inside.slots.items in
    let n : ℕ = c.args.number in
    let old : UsersState = record { slots = take used slots; lists = items_of c.self.inside.lists.items } in
    let long : length (take used slots) ≡ length c.args.self.now.slots =
    ap (λ (u : UsersState). length u.slots) c.self.view_is in
    let within : n < length (take used slots) = omega (arith, long, c.requires) in
    let short = length-take-le used slots c.self.invariant.within in
    let before : n < used = omega (arith, within, short) in
    let next : suc (used - 1) ≡ used = omega (arith, before) in
    let slot : c.free-slot.result ≡ get_or (take used slots) n 0 =
    c.free-slot.ensures.slot ∙ sym (get_or-take used slots n 0 before) in
    listed_less ports paths n c.args.path.now old _
    (subst (ListsPaths ports paths) (sym c.self.view_is) listed)
    (used_differ used slots c.self.inside.places.items c.self.invariant) within is
    (ap (take (used - 1)) c.free-slot.ensures.items
    ∙ take_freed slots n (used - 1) c.free-slot.result (omega (arith, before))
    (omega (arith, before, c.self.invariant.within))
    ∙ ap (λ (k : ℕ). remove (take k slots) n) next)
    (subst (λ (k : ℕ). All EntriesDiffer (items_of c.self.inside.lists.items)
    → Leaves k c.args.path.now (items_of c.self.inside.lists.items) (items_of c.leave.new.lists.items)) slot
    c.leave.ensures)
