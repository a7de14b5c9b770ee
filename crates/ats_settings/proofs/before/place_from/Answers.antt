use Rattle.std.proofs.Common.{inr, refl, subst, arith}
use Rattle.ats_network.specs.Sender.{Sender}
use Rattle.ats_settings.specs.Before.{IsFrom}
use Rattle.ats_settings.proofs.before.place_from.Goals as goal

pub returns-in-Stream-clause-from : goal.returns-in-Stream-clause-from
returns-in-Stream-clause-from c =
    subst (λ (s : Sender). IsFrom s.branches c.args.place c.place_in.result) c.in-Stream.ensures.value
    c.place_in.ensures

pub returns-in-Flow-clause-from : goal.returns-in-Flow-clause-from
returns-in-Flow-clause-from c =
    subst (λ (s : Sender). IsFrom s.branches c.args.place c.args.place) c.in-Flow.ensures.value
    (inr (record { elsewhere = λ n within. absurd (omega arith); is = refl }))
