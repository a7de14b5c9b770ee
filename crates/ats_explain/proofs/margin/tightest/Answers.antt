use Rattle.std.proofs.Common.{◌≡◌, ◌≢◌, ◌∙◌, ℕ, length, sym, subst, arith}
use Rattle.std.proofs.lemmas.Bool.{eqb-false}
use Rattle.ats_explain.proofs.Tightness.{IsBest, best_is}
use Rattle.ats_explain.proofs.margin.tightest.Goals as goal

pub returns-clause-place : goal.returns-clause-place
returns-clause-place c =
    let some : length c.args.margins.now ≢ 0 =
    eqb-false (length c.args.margins.now) 0 (sym c.is_empty.ensures ∙ c.if-is_empty.false) in
    let all : c.loop-i.i ≡ length c.args.margins.now = omega (arith, some) in
    best_is c.args.margins.now c.loop-i.place
    (subst (λ (n : ℕ). IsBest c.args.margins.now n c.loop-i.place) all c.loop-i.invariant)
