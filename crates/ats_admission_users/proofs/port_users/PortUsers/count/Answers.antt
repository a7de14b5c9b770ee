use Rattle.std.proofs.Common.{◌≡◌, List, [], length, get_or, sym, ap, ◌∙◌, arith}
use Rattle.std.specs.Global.{Vec}
use Rattle.std.proofs.lemmas.List.{length-map}
use Rattle.ats_admission_users.specs.Users.{UsersState}
use Rattle.ats_admission_users.specs.declared.entry.Entry.{Entry}
use Rattle.ats_admission_users.proofs.ListLemmas.{item_at}
use Rattle.ats_admission_users.proofs.StateLemmas.{count_is}
use Rattle.ats_admission_users.proofs.port_users.PortUsers.count.Goals as goal

-- as many as the list of the port has
listed : (c : goal.After-len) → c.len.result ≡ length (get_or c.args.self.now.lists c.args.port [])
listed c =
    let lists : List (Vec Entry) = c.self.inside.lists.items in
    let long : length lists ≡ length c.args.self.now.lists =
    sym (length-map lists (λ (v : Vec Entry). v.items)) ∙ ap (λ (u : UsersState). length u.lists) c.self.view_is in
    c.len.ensures ∙ c.index.result.now.ok.0
    ∙ ap (λ (v : Vec Entry). length v.items) c.index.ensures
    ∙ sym (ap (λ (l : List Entry). length l)
    (item_at lists c.args.port c.index.result.now [] (omega (arith, long, c.requires))))
    ∙ ap (λ (u : UsersState). length (get_or u.lists c.args.port [])) c.self.view_is

pub returns-clause-listed : goal.returns-clause-listed
returns-clause-listed c = listed c

pub returns-clause-users : goal.returns-clause-users
returns-clause-users c ports paths is =
    listed c ∙ count_is ports paths c.args.self.now c.args.port [] is c.requires
