-- What an answer to `conform` has to do with those to `check` and `replay`.
use Rattle.std.proofs.Common.{◌≡◌, ℕ, List, Result, Ok, ap, subst, inl, inr}
use Rattle.ats_network.specs.Network.{DeclaredNetwork}
use Rattle.ats_trace.specs.Talker.{talker_of}
use Rattle.ats_trace.specs.declared.journey.Release.{Release}
use Rattle.ats_num.specs.Failure.{◌>>=◌}
use Rattle.ats_conform.specs.Releases.{AllKeepBuckets}
use Rattle.ats_command_input.specs.Answer.{Answer}
use Rattle.ats_command_input.specs.Input.{network_in, releases_in}
use Rattle.ats_command_input.specs.declared.status.Status.{Status}
use Rattle.ats_command_input.specs.declared.status.Status.TheVariants.{Done, Refused}
use Rattle.ats_command_due.specs.Conformed.{IsAnswerTo, JudgesReleases, JudgesScheduled}
use Rattle.ats_command_law.specs.ConformBounds.{ConformKeepsBounds}
use Rattle.ats_command_due.specs.Due.{told_bytes}
use Rattle.ats_command_due.specs.Replayed.{scheduled_in}
use Rattle.ats_command_law.proofs.ReplayMeanings.{replay_keeps_bounds, within_all}

done_is_not_refused : (text : List ℕ) (answer : Answer) → answer ≡ record { status = Refused; text = text }
    → answer.status ≡ Done → ⊥
done_is_not_refused text answer h done =
    let clash : answer.status ≡ Refused = ap (λ (a : Answer). a.status) h in cc

-- an answer that is done says that every node keeps its buckets
pub done_keeps : (network : DeclaredNetwork) (releases : List Release) (text : List ℕ)
    → JudgesReleases network releases (record { status = Done; text = text }) → AllKeepBuckets network releases
done_keeps network releases text (inl conforming) = conforming.keeps
done_keeps network releases text (inr (broken, is)) =
    let done : Status = Done in
    absurd (done_is_not_refused _ (record { status = Done; text = text }) is.refused (let e : done ≡ Done = cc in e))

-- what both files declare is judged
declared_judged : (network : DeclaredNetwork) (releases : List Release) (declared : Result DeclaredNetwork Answer)
    (scheduled : DeclaredNetwork → Result (List Release) Answer) (answer : Answer) → declared ≡ Ok network
    → scheduled network ≡ Ok releases
    → IsAnswerTo JudgesScheduled (declared >>= λ n. scheduled n >>= λ rs. Ok (record { network = n; releases = rs }))
    answer → JudgesReleases network releases answer
declared_judged network releases declared scheduled answer one two is =
    let with_network = subst (λ (d : Result DeclaredNetwork Answer). IsAnswerTo JudgesScheduled
    (d >>= λ n. scheduled n >>= λ rs. Ok (record { network = n; releases = rs })) answer) one is in
    subst (λ (d : Result (List Release) Answer). IsAnswerTo JudgesScheduled
    (d >>= λ rs. Ok (record { network = network; releases = rs })) answer) two with_network

pub conform_keeps_bounds : ConformKeepsBounds
unfolding scheduled_in
conform_keeps_bounds told net certificate schedule order conformed checked replayed conform_due check_due replay_due =
    let all = replay_keeps_bounds told net certificate schedule order checked replayed check_due replay_due in
    let network : DeclaredNetwork = all.0 in
    let releases : List Release = all.2 in
    let keeps : AllKeepBuckets network releases =
    done_keeps network releases conformed
    (declared_judged network releases (network_in net (told_bytes told net))
    (λ n. releases_in n schedule (told_bytes told schedule)) (record { status = Done; text = conformed })
    all.4.run_out.network_declared all.4.run_out.releases_declared conform_due.answers) in (
      network,
      all.1,
      releases,
      all.3,
      record {
        texts = all.4;
        keeps = keeps;
        within = within_all network all.1 releases all.3 all.4.within keeps;
      },
    )
