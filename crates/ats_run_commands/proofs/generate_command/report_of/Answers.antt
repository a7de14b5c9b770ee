use Rattle.std.proofs.Common.{◌≡◌, ℕ, List, Option, Some, sym, ap, subst, ◌∙◌}
use Rattle.std.specs.Prelude.{IfOk}
use Rattle.std.specs.Global.{Vec}
use Rattle.ats_tally.specs.Delays.{rows_for}
use Rattle.ats_replay.specs.Report.{report_text}
use Rattle.ats_run_commands.proofs.Generated.{least_sums_are}
use Rattle.ats_run_commands.proofs.generate_command.report_of.Goals as goal

pub returns-in_ok-delays-in-Ok : goal.returns-in_ok-delays-in-Ok
returns-in_ok-delays-in-Ok c =
    subst (λ (sums : Option (List ℕ)). IfOk c.report.result
    (λ (text : Vec ℕ). text.items ≡ report_text c.args.network.now c.args.ends.now sums))
    (sym (least_sums_are c.args.network.now c.in_ok-delays-in-Ok.delays c.sums.result.now
    c.in-Ok.ensures.sound (c.in_ok-delays-in-Ok.ensures ∙ ap (rows_for c.args.network.now) c.in-Ok.ensures.value)
    c.sums.ensures)) c.report.ensures
