use Rattle.std.proofs.Common.{◌≡◌, arith}
use Rattle.ats_admission_users.specs.Users.{users_of}
use Rattle.ats_admission_state.proofs.Spared.{keeps_lowered, lowered_none, rises_over}
use Rattle.ats_admission_state.proofs.spares.keep_spares.Goals as goal

pub returns-then-rise-gt0 : goal.returns-then-rise-gt0
returns-then-rise-gt0 c = λ old values keeps.
    keeps_lowered c.args.port c.rise_over-rise.result c.args.users.now old c.args.bounds.now c.args.spares.now
    c.lower.new.spares keeps
    (rises_over c.args.port c.rise_over-rise.result old c.args.bounds.now c.args.before.now values
    c.rise_over-rise.ensures) c.requires.users c.lower.ensures

pub returns-else-rise-gt0 : goal.returns-else-rise-gt0
returns-else-rise-gt0 c = λ old values keeps.
    let none : c.rise_over-rise.result ≡ 0 = omega (arith, c.if-rise-gt0.false) in
    keeps_lowered c.args.port c.rise_over-rise.result c.args.users.now old c.args.bounds.now c.args.spares.now
    c.args.spares.now keeps
    (rises_over c.args.port c.rise_over-rise.result old c.args.bounds.now c.args.before.now values
    c.rise_over-rise.ensures) c.requires.users
    (λ paths lists. lowered_none (users_of paths c.args.port) c.args.spares.now c.rise_over-rise.result none)
