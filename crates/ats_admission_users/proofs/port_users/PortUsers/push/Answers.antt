use Rattle.std.proofs.Common.{◌∷◌, [], ◌++◌, List, ℕ, get_or, take, sym, ap, subst, ◌∙◌, arith}
use Rattle.std.proofs.lemmas.List.{take_more}
use Rattle.ats_admission_users.specs.Users.{UsersState, ListsPaths, entry_at}
use Rattle.ats_admission_users.specs.Lists.{items_of, Enters}
use Rattle.ats_admission_users.specs.declared.entry.Entry.{Entry}
use Rattle.ats_admission_users.proofs.StateLemmas.{listed_push}
use Rattle.ats_admission_users.proofs.port_users.PortUsers.push.Goals as goal

pub returns-clause-ok : goal.returns-clause-ok
returns-clause-ok c ports paths listed =
    let used : ℕ = c.self.inside.used in
    let slots : List ℕ = c.free_slot.new.slots.items in
    let old : UsersState = record {
      slots = take used c.self.inside.slots.items;
      lists = items_of c.self.inside.lists.items;
    } in
    listed_push ports paths c.args.path.now c.in_ok-slot.slot old _
    (subst (ListsPaths ports paths) (sym c.self.view_is) listed)
    (take_more slots used 0 (omega (arith, c.in_ok-slot.ensures.ok.within))
    ∙ ap (λ (l : List ℕ). l ++ get_or slots used 0 ∷ []) c.in_ok-slot.ensures.first
    ∙ ap (λ (slot : ℕ). take used c.self.inside.slots.items ++ slot ∷ []) c.in_ok-slot.ensures.slot)
    (subst (λ (l : List (List Entry)).
    Enters (λ port. entry_at port c.in_ok-slot.slot c.args.path.now) c.args.path.now l
    (items_of c.enter.new.lists.items)) c.make_room.ensures.items c.enter.ensures)
