use Rattle.std.proofs.Common.{◌≡◌, ◌<◌, List, ℕ, [], length, get_or, take, sym, ap, ◌∙◌, arith}
use Rattle.std.specs.Global.{Vec}
use Rattle.std.proofs.lemmas.List.{length-map}
use Rattle.ats_admission_users.specs.Users.{UsersState, ListsPaths, entry_at, users_of}
use Rattle.ats_admission_users.specs.declared.entry.Entry.{Entry}
use Rattle.ats_admission_users.proofs.ListLemmas.{item_at}
use Rattle.ats_admission_users.proofs.Places.{place_told}
use Rattle.ats_admission_users.proofs.StateLemmas.{IsUserAt, user_is}
use Rattle.ats_admission_users.proofs.port_users.PortUsers.user.Goals as goal

-- the number of the path whose slot it is
value : (c : goal.After-told) (ports : ℕ) (paths : List (List ℕ)) → ListsPaths ports paths c.args.self.now
    → c.told.result ≡ get_or (users_of paths c.args.port) c.args.place 0
value c ports paths listed =
    let lists : List (Vec Entry) = c.self.inside.lists.items in
    let is : IsUserAt paths c.args.self.now c.args.port c.args.place =
    user_is ports paths c.args.self.now c.args.port c.args.place listed c.requires.port c.requires.place in
    let long : length lists ≡ length c.args.self.now.lists =
    sym (length-map lists (λ (v : Vec Entry). v.items)) ∙ ap (λ (u : UsersState). length u.lists) c.self.view_is in
    let list : c.index-list.result.now.items ≡ get_or c.args.self.now.lists c.args.port [] =
    ap (λ (v : Vec Entry). v.items) c.index-list.ensures
    ∙ sym (item_at lists c.args.port c.index-list.result.now [] (omega (arith, long, c.requires.port)))
    ∙ ap (λ (u : UsersState). get_or u.lists c.args.port []) c.self.view_is in
    let inside : c.args.place < length c.index-list.result.now.items =
    omega (arith, c.requires.place, ap (λ (l : List Entry). length l) list) in
    let n : ℕ = get_or (users_of paths c.args.port) c.args.place 0 in
    let slots : take c.self.inside.used c.self.inside.slots.items ≡ c.args.self.now.slots =
    ap (λ (u : UsersState). u.slots) c.self.view_is in
    let entry : c.index.result.now ≡ entry_at c.args.port (get_or c.args.self.now.slots n 0) (get_or paths n []) =
    c.index.ensures ∙ ap (λ (l : List Entry). get_or l c.args.place c.index.result.now) list
    ∙ is.stands c.index.result.now in
    let slot : c.index.result.now.slot ≡ get_or (take c.self.inside.used c.self.inside.slots.items) n 0 =
    ap (λ (e : Entry). e.slot) entry ∙ sym (ap (λ (l : List ℕ). get_or l n 0) slots) in
    c.told.ensures
    ∙ ap (λ (l : List ℕ). get_or l c.index.result.now.slot 0) c.deref.ensures.value
    ∙ place_told c.self.inside.used c.self.inside.slots.items c.self.inside.places.items n c.index.result.now.slot
    c.self.invariant (omega (arith, is.within, ap (λ (l : List ℕ). length l) slots)) slot

pub returns-clause-value : goal.returns-clause-value
returns-clause-value c ports paths listed = value c ports paths listed

pub returns-clause-within : goal.returns-clause-within
returns-clause-within c ports paths listed =
    let is : IsUserAt paths c.args.self.now c.args.port c.args.place =
    user_is ports paths c.args.self.now c.args.port c.args.place listed c.requires.port c.requires.place in
    omega (arith, is.below, value c ports paths listed)
