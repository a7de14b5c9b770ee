use Rattle.std.proofs.Common.{◌+◌, ◌-◌, ◌<◌, ℕ, List, length, set, take, ap, subst, sym, ◌∙◌, arith}
use Rattle.std.proofs.lemmas.List.{take_all}
use Rattle.ats_admission_users.specs.Users.{users_of}
use Rattle.ats_admission_state.specs.Spares.{AreLowered}
use Rattle.ats_admission_state.proofs.Spared.{lowered_first, lowered_more}
use Rattle.ats_admission_state.proofs.spares.lower_users.Goals as goal

pub loop-rank-init : goal.loop-rank-init
loop-rank-init c = λ paths lists. lowered_first (users_of paths c.args.port) c.args.spares.now c.args.rise

pub loop-rank-preserved : goal.loop-rank-preserved
loop-rank-preserved c = λ paths lists.
    let ports : ℕ = length c.args.users.now.lists in
    let users : List ℕ = users_of paths c.args.port in
    let rank : ℕ = c.loop-rank.rank in
    let number : ℕ = c.user-number.result in
    let now : List ℕ = c.loop-rank.spares in
    let rise : ℕ = c.args.rise in
    let so_far : AreLowered (take rank users) rise c.args.spares.now now = c.loop-rank.invariant paths lists in
    let within : rank < length users =
    omega (arith, c.count-rank-end.ensures.users ports paths lists, c.loop-rank-test.true) in
    let inside : number < length now =
    omega (
      arith,
      c.user-number.ensures.within ports c.requires.users.paths c.requires.users.lists,
      c.requires.users.many,
      so_far.count,
    ) in
    subst (λ (spare : ℕ). AreLowered (take (rank + 1) users) rise c.args.spares.now (set now number spare))
    (sym (c.saturating_sub.ensures ∙ ap (λ (n : ℕ). n - rise) c.from.ensures))
    (lowered_more users rank rise number c.args.spares.now now within (c.user-number.ensures.value ports paths lists)
    inside so_far)

pub returns : goal.returns
returns c = λ paths lists.
    let many = c.count-rank-end.ensures.users (length c.args.users.now.lists) paths lists in
    let users : List ℕ = users_of paths c.args.port in
    subst (λ (numbers : List ℕ). AreLowered numbers c.args.rise c.args.spares.now c.loop-rank.spares)
    (take_all c.loop-rank.rank users (omega (arith, many, c.loop-rank-test.false)))
    (c.loop-rank.invariant paths lists)
