-- What answers to `conform` there are.
use Rattle.std.proofs.Common.{◌≡◌, List, length, Result, Ok, Err, refl, sym, ap, inl, inr, ◌∙◌}
use Rattle.std.specs.Prelude.{IfOk, ◌⊎◌}
use Rattle.ats_network.specs.Network.{DeclaredNetwork}
use Rattle.ats_trace.specs.Releases.{AreReleases}
use Rattle.ats_trace.specs.declared.journey.Release.{Release}
use Rattle.ats_conform.specs.declared.broken.Broken.{Broken}
use Rattle.ats_conform.specs.Broken.{Breaks}
use Rattle.ats_conform.specs.Releases.{AllKeepBuckets}
use Rattle.ats_conform.proofs.Prefix.{one-breaks}
use Rattle.ats_conform.proofs.Either.{keep-or_break}
use Rattle.ats_conform.proofs.OneBroken.{broken-one}
use Rattle.ats_verdict_text.specs.Text.{refused_text}
use Rattle.ats_command_input.specs.Answer.{Answer}
use Rattle.ats_command_input.specs.declared.status.Status.TheVariants as status
use Rattle.ats_command_due.specs.Conformed.{IsAnswerTo, JudgesReleases, JudgesScheduled, broken_text, conforms_text}
use Rattle.ats_command_due.specs.Replayed.{Scheduled}

-- two answers that judge releases are the same
same_judged : (network : DeclaredNetwork) (releases : List Release) (one other : Answer)
    → JudgesReleases network releases one → JudgesReleases network releases other → one ≡ other
same_judged network releases one other (inl a) (inl b) = a.done ∙ sym b.done
same_judged network releases one other (inl a) (inr (broken, b)) =
    absurd (one-breaks network releases broken b.breaks a.keeps)
same_judged network releases one other (inr (broken, a)) (inl b) =
    absurd (one-breaks network releases broken a.breaks b.keeps)
same_judged network releases one other (inr (first, a)) (inr (second, b)) =
    a.refused
    ∙ ap (λ (broken : Broken). let r : Answer =
    record { status = status.Refused; text = refused_text (broken_text broken) } in r)
    (broken-one network releases first second a.breaks b.breaks)
    ∙ sym b.refused

pub same_judgement : (due : Result Scheduled Answer) (one other : Answer) → IsAnswerTo JudgesScheduled due one
    → IsAnswerTo JudgesScheduled due other → one ≡ other
same_judgement (Ok scheduled) one other h k = same_judged scheduled.network scheduled.releases one other h k
same_judgement (Err answer) one other h k = h ∙ sym k

-- and there is one
judged_so : (network : DeclaredNetwork) (releases : List Release)
    → AllKeepBuckets network releases ⊎ ((broken : Broken) × Breaks network releases broken)
    → (answer : Answer) × JudgesReleases network releases answer
judged_so network releases (inl keeps) = (
  record { status = status.Done; text = conforms_text (length releases) },
  inl (record { keeps = keeps; done = refl }),
)
judged_so network releases (inr (broken, breaks)) = (
  record { status = status.Refused; text = refused_text (broken_text broken) },
  inr (broken, record { breaks = breaks; refused = refl }),
)

pub one_judgement : (due : Result Scheduled Answer)
    → IfOk due (λ (s : Scheduled). AreReleases s.network s.releases)
    → (answer : Answer) × (IsAnswerTo JudgesScheduled due answer)
    × ((other : Answer) → IsAnswerTo JudgesScheduled due other → other ≡ answer)
one_judgement (Ok scheduled) are =
    let judged = judged_so scheduled.network scheduled.releases
    (keep-or_break scheduled.network scheduled.releases are) in
    (judged.0, judged.1, λ other is. same_judgement (Ok scheduled) other judged.0 is judged.1)
one_judgement (Err answer) are = (answer, refl, λ other is. is)
