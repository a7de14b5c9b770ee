use Rattle.std.proofs.Common.{◌≡◌, ℕ, Bool, true, false, cond, None, sym, ap, subst, ◌∙◌}
use Rattle.std.specs.Prelude.{not}
use Rattle.ats_class_table.specs.Table.{Sets}
use Rattle.ats_certificate.specs.PortSums.{is_used}
use Rattle.ats_certificate.specs.declared.row.Row.{Row}
use Rattle.ats_tally.specs.Reason.{overstay}
use Rattle.ats_tally.proofs.Counted.{used_is}
use Rattle.ats_bound.specs.Least.{least_row}
use Rattle.ats_bound.specs.Reason.{overload}
use Rattle.ats_bound.proofs.Beginnings.{overload-of_load, row_ok}
use Rattle.ats_admission_law.specs.Near.{overstay_at}
use Rattle.ats_admission_state.proofs.Found.{or_none}
use Rattle.ats_admission_state.proofs.ports.judge_class.Goals as goal

pub returns-then-is_none-clause-stay : goal.returns-then-is_none-clause-stay
returns-then-is_none-clause-stay c =
    let network = c.args.network.now in
    let unused : is_used network c.args.port c.args.class ≡ false =
    sym (used_is network c.args.port c.args.class c.args.tally c.requires.class_least c.requires.tally)
    ∙ c.is_none.ensures ∙ ap not c.if-is_none.true in
    sym (ap (λ (b : Bool). cond b (overstay_at network (c.args.port, c.args.class)) None) unused)

pub returns-then-is_none-clause-fits : goal.returns-then-is_none-clause-fits
returns-then-is_none-clause-fits c =
    let network = c.args.network.now in
    let unused : is_used network c.args.port c.args.class ≡ false =
    sym (used_is network c.args.port c.args.class c.args.tally c.requires.class_least c.requires.tally)
    ∙ c.is_none.ensures ∙ ap not c.if-is_none.true in
    ap (λ (b : Bool). cond b (overload network (c.args.port, c.args.class)) None) unused

pub returns-then-is_none-clause-set : goal.returns-then-is_none-clause-set
returns-then-is_none-clause-set c =
    let network = c.args.network.now in
    let unused : is_used network c.args.port c.args.class ≡ false =
    sym (used_is network c.args.port c.args.class c.args.tally c.requires.class_least c.requires.tally)
    ∙ c.is_none.ensures ∙ ap not c.if-is_none.true in
    subst (λ (n : ℕ). Sets c.args.port c.args.class n c.args.bounds.now c.set.new.self)
    (sym (ap (λ (b : Bool). cond b (least_row network (c.args.port, c.args.class)).bound 0) unused)) c.set.ensures

pub row_of-requires-clause-used : goal.row_of-requires-clause-used
row_of-requires-clause-used c =
    sym (used_is c.args.network.now c.args.port c.args.class c.args.tally c.requires.class_least c.requires.tally)
    ∙ c.is_none.ensures ∙ ap not c.if-is_none.false

pub returns-in-Ok-clause-stay : goal.returns-in-Ok-clause-stay
returns-in-Ok-clause-stay c =
    let network = c.args.network.now in
    let used : is_used network c.args.port c.args.class ≡ true =
    sym (used_is network c.args.port c.args.class c.args.tally c.requires.class_least c.requires.tally)
    ∙ c.is_none.ensures ∙ ap not c.if-is_none.false in
    c.first_overstay.ensures
    ∙ or_none (overstay network c.in-Ok.row)
    ∙ ap (overstay network) (row_ok network (c.args.port, c.args.class) c.in-Ok.row (sym c.in-Ok.ensures.row))
    ∙ sym (ap (λ (b : Bool). cond b (overstay_at network (c.args.port, c.args.class)) None) used)

pub returns-in-Ok-clause-set : goal.returns-in-Ok-clause-set
returns-in-Ok-clause-set c =
    let network = c.args.network.now in
    let used : is_used network c.args.port c.args.class ≡ true =
    sym (used_is network c.args.port c.args.class c.args.tally c.requires.class_least c.requires.tally)
    ∙ c.is_none.ensures ∙ ap not c.if-is_none.false in
    subst (λ (n : ℕ). Sets c.args.port c.args.class n c.args.bounds.now c.set-in-Ok.new.self)
    (ap (λ (r : Row). r.bound) (row_ok network (c.args.port, c.args.class) c.in-Ok.row (sym c.in-Ok.ensures.row))
    ∙ sym (ap (λ (b : Bool). cond b (least_row network (c.args.port, c.args.class)).bound 0) used))
    c.set-in-Ok.ensures

pub returns-in-Err-clause-load : goal.returns-in-Err-clause-load
returns-in-Err-clause-load c =
    let network = c.args.network.now in
    let used : is_used network c.args.port c.args.class ≡ true =
    sym (used_is network c.args.port c.args.class c.args.tally c.requires.class_least c.requires.tally)
    ∙ c.is_none.ensures ∙ ap not c.if-is_none.false in
    ap (λ (b : Bool). cond b (overload network (c.args.port, c.args.class)) None) used
    ∙ overload-of_load network (c.args.port, c.args.class) c.in-Err.load (sym c.in-Err.ensures.row)
