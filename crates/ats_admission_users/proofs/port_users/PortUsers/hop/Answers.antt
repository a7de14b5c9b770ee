use Rattle.std.proofs.Common.{◌≡◌, List, ℕ, [], length, get_or, sym, ap, subst, ◌∙◌, arith}
use Rattle.std.specs.Global.{Vec}
use Rattle.std.proofs.lemmas.List.{length-map}
use Rattle.ats_admission_users.specs.Users.{IsHop, UsersState, entry_at, users_of}
use Rattle.ats_admission_users.specs.declared.entry.Entry.{Entry}
use Rattle.ats_admission_users.proofs.ListLemmas.{item_at}
use Rattle.ats_admission_users.proofs.Slots.{hop_stands}
use Rattle.ats_admission_users.proofs.StateLemmas.{IsUserAt, user_is}
use Rattle.ats_admission_users.proofs.port_users.PortUsers.hop.Goals as goal

pub returns : goal.returns
returns c ports paths listed =
    let lists : List (Vec Entry) = c.self.inside.lists.items in
    let port : ℕ = c.args.port in
    let is : IsUserAt paths c.args.self.now port c.args.place =
    user_is ports paths c.args.self.now port c.args.place listed c.requires.port c.requires.place in
    let long : length lists ≡ length c.args.self.now.lists =
    sym (length-map lists (λ (v : Vec Entry). v.items)) ∙ ap (λ (u : UsersState). length u.lists) c.self.view_is in
    let list : c.index.result.now.items ≡ get_or c.args.self.now.lists port [] =
    ap (λ (v : Vec Entry). v.items) c.index.ensures
    ∙ sym (item_at lists port c.index.result.now [] (omega (arith, long, c.requires.port)))
    ∙ ap (λ (u : UsersState). get_or u.lists port []) c.self.view_is in
    let n : ℕ = get_or (users_of paths port) c.args.place 0 in
    let entry : c.index-2.result.now ≡ entry_at port (get_or c.args.self.now.slots n 0) (get_or paths n []) =
    c.index-2.ensures ∙ ap (λ (l : List Entry). get_or l c.args.place c.index-2.result.now) list
    ∙ is.stands c.index-2.result.now in
    subst (IsHop port (get_or paths n [])) (sym (ap (λ (e : Entry). e.hop) entry))
    (hop_stands port (get_or paths n []) is.has)
