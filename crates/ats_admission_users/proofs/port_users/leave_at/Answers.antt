use Rattle.std.proofs.Common.{◌≡◌, ◌≢◌, ◌<◌, List, ℕ, length, get_or, ap, subst, sym, ◌∙◌, arith}
use Rattle.std.specs.Global.{Vec}
use Rattle.std.specs.List.{All}
use Rattle.std.proofs.lemmas.List.{get_or_default}
use Rattle.ats_admission_users.specs.declared.entry.Entry.{Entry}
use Rattle.ats_admission_users.proofs.ListLemmas.{leaves_found, leaves_unfound}
use Rattle.ats_admission_users.proofs.port_users.leave_at.Goals as goal

pub returns-in-Some : goal.returns-in-Some
returns-in-Some c differ =
    let lists : List (Vec Entry) = c.args.lists.now.items in
    let at : ℕ = c.in-Some.at in
    let within : c.args.port < length lists =
    omega (arith, c.if-place-len.false, c.len.ensures, c.args.lists.now.ok.0) in
    let seen : c.deref.result.now ≡ c.index_mut.result.now.items = c.deref.ensures.value
    ∙ ap (λ (v : Vec Entry). v.items) (c.index.ensures
    ∙ get_or_default lists c.args.port c.index.result.now c.index_mut.result.now within
    ∙ sym c.index_mut.ensures.value) in
    leaves_found c.args.slot c.args.port at lists c.index_mut.result.now c.remove.new.self within differ
    c.index_mut.ensures.value (subst (λ (l : List Entry). at < length l) seen c.in-Some.ensures.within)
    (λ d. sym (ap (λ (l : List Entry). (get_or l at d).slot) seen) ∙ c.in-Some.ensures.stands d) c.remove.ensures.items

pub returns-in_default : goal.returns-in_default
returns-in_default c differ =
    let lists : List (Vec Entry) = c.args.lists.now.items in
    let within : c.args.port < length lists =
    omega (arith, c.if-place-len.false, c.len.ensures, c.args.lists.now.ok.0) in
    leaves_unfound c.args.slot c.args.port lists c.index.result.now within c.index.ensures
    (subst (λ (l : List Entry). All (λ (e : Entry). e.slot ≢ c.args.slot) l) c.deref.ensures.value
    c.in_default.ensures.none)
