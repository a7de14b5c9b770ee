use Rattle.std.proofs.Common.{◌≡◌, Option, Some, Result, Ok, Err, sym, ◌∙◌}
use Rattle.std.specs.Prelude.{IfErr, OnOk}
use Rattle.std.proofs.lemmas.Option.{none-some}
use Rattle.ats_tally.specs.declared.reason.Reason.{Reason}
use Rattle.ats_bound.specs.Reason.{overload}
use Rattle.ats_admission_law.specs.Lowest.{found_at}
use Rattle.ats_admission_state.specs.Judging.{SetsBelow}
use Rattle.ats_admission_state.proofs.Found.{no_overload}
use Rattle.ats_admission_state.proofs.ports.renew_port.Goals as goal

pub returns : goal.returns
returns c =
    by c.judge_port.result c.judge_port.ensures.set c.judge_port.ensures.load
  where
    by : (r : Result (Option Reason) Reason)
        → OnOk r (SetsBelow c.args.network.now c.args.port 8 c.args.bounds.now c.judge_port.new.bounds)
        → IfErr r (λ load. found_at (overload c.args.network.now) c.args.network.now c.args.port ≡ Some load)
        → SetsBelow c.args.network.now c.args.port 8 c.args.bounds.now c.judge_port.new.bounds
    by (Ok stay) sets none = sets
    by (Err load) sets some = absurd (none-some load
        (sym (no_overload c.args.network.now c.args.port c.requires.port c.requires.free) ∙ some))
