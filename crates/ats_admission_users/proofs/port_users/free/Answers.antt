use Rattle.std.proofs.Common.{◌<◌, List, ℕ, length, sym, subst, ◌∙◌}
use Rattle.std.specs.List.{All}
use Rattle.ats_admission_users.specs.Lists.{AllDiffer, Tells}
use Rattle.ats_admission_users.proofs.Places.{are_freed, freed_is, freed_slots}
use Rattle.ats_admission_users.proofs.port_users.free.Goals as goal

pub tell-requires-clause-differ : goal.tell-requires-clause-differ
tell-requires-clause-differ c =
    let slots : List ℕ = c.args.slots.now.items in
    let is = freed_is slots c.remove-slot.new.self.items c.push_reserved.new.self.items c.args.number
    c.remove-slot.result c.requires.number c.remove-slot.ensures.value c.remove-slot.ensures.items
    c.push_reserved.ensures.items in
    subst AllDiffer (sym (c.deref.ensures.value ∙ is))
    (are_freed slots c.args.places.now.items c.args.number c.requires.are c.requires.number).differ

pub tell-requires-clause-inside : goal.tell-requires-clause-inside
tell-requires-clause-inside c =
    let slots : List ℕ = c.args.slots.now.items in
    let is = freed_is slots c.remove-slot.new.self.items c.push_reserved.new.self.items c.args.number
    c.remove-slot.result c.requires.number c.remove-slot.ensures.value c.remove-slot.ensures.items
    c.push_reserved.ensures.items in
    subst (λ (l : List ℕ). All (λ slot. slot < length c.args.places.now.items) l) (sym (c.deref.ensures.value ∙ is))
    (are_freed slots c.args.places.now.items c.args.number c.requires.are c.requires.number).inside

pub returns-clause-told : goal.returns-clause-told
returns-clause-told c =
    let slots : List ℕ = c.args.slots.now.items in
    let is = freed_is slots c.remove-slot.new.self.items c.push_reserved.new.self.items c.args.number
    c.remove-slot.result c.requires.number c.remove-slot.ensures.value c.remove-slot.ensures.items
    c.push_reserved.ensures.items in
    freed_slots slots c.args.places.now.items c.push_reserved.new.self.items c.tell.new.places.items
    c.args.number c.requires.are c.requires.number is c.tell.ensures.many
    (subst (λ (l : List ℕ). Tells l c.tell.new.places.items (length l)) c.deref.ensures.value c.tell.ensures.told)
