use Rattle.std.proofs.Common.{List, ℕ, take, get_or, sym, subst}
use Rattle.std.proofs.lemmas.List.{take_more}
use Rattle.ats_admission_users.specs.Lists.{items_of, Leaves}
use Rattle.ats_admission_users.proofs.ListLemmas.{leaves_more, leaves_differ}
use Rattle.ats_admission_users.proofs.port_users.leave.Goals as goal

pub loop-port-preserved : goal.loop-port-preserved
loop-port-preserved c differ =
    let i : ℕ = c.loop-port.port-index in
    let first : Leaves c.args.slot (take i c.args.path.now) (items_of c.args.lists.now.items)
    (items_of c.loop-port.lists.items) = c.loop-port.invariant differ in
    subst (λ (path : List ℕ). Leaves c.args.slot path (items_of c.args.lists.now.items)
    (items_of c.leave_at.new.lists.items)) (sym (take_more c.args.path.now i 0 c.loop-port-test.true))
    (leaves_more c.args.slot (get_or c.args.path.now i 0) (take i c.args.path.now)
    (items_of c.args.lists.now.items) (items_of c.loop-port.lists.items) (items_of c.leave_at.new.lists.items) first
    (c.leave_at.ensures (leaves_differ c.args.slot (take i c.args.path.now) (items_of c.args.lists.now.items)
    (items_of c.loop-port.lists.items) differ first)))
