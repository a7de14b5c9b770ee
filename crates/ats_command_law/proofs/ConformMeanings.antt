-- What the answers to `conform` mean.
use Rattle.std.proofs.Common.{◌≡◌, ℕ, List, Result, Ok, Err, refl, sym, ap, subst, inl, inr, ◌∙◌}
use Rattle.std.specs.Prelude.{MatchResult}
use Rattle.ats_network.specs.Network.{DeclaredNetwork, IsNetwork}
use Rattle.ats_trace.specs.declared.journey.Release.{Release}
use Rattle.ats_conform.proofs.Prefix.{one-breaks}
use Rattle.ats_num.specs.Failure.{◌>>=◌}
use Rattle.ats_command_input.specs.Answer.{Answer}
use Rattle.ats_command_input.specs.Input.{network_in, releases_in}
use Rattle.ats_command_due.specs.Conformed.{IsAnswerTo, JudgesReleases, JudgesScheduled}
use Rattle.ats_command_due.specs.Replayed.{scheduled_in}
use Rattle.ats_command_law.proofs.Meanings.{IsInput, network_gives, none_declared}
use Rattle.ats_command_law.proofs.ReplayMeanings.{releases_give}
use Rattle.ats_command_law.specs.ConformMeaning.{ConformMeans, ConformSays}

-- where both declare what they should
judgement_says : (net schedule net_bytes schedule_bytes : List ℕ) (network : DeclaredNetwork) (releases : List Release)
    (answer : Answer) → network_in net net_bytes ≡ Ok network
    → releases_in network schedule schedule_bytes ≡ Ok releases → IsNetwork network
    → JudgesReleases network releases answer
    → ConformSays net schedule net_bytes schedule_bytes answer.text answer.status
judgement_says net schedule net_bytes schedule_bytes network releases answer declared scheduled rules (inl is) =
    subst (λ (a : Answer). ConformSays net schedule net_bytes schedule_bytes a.text a.status) (sym is.done) (
      network,
      releases,
      record {
        network_declared = declared;
        releases_declared = scheduled;
        rules = rules;
        keeps = is.keeps;
        written = refl;
      },
    )
judgement_says net schedule net_bytes schedule_bytes network releases answer declared scheduled rules
    (inr (broken, is)) =
    subst (λ (a : Answer). ConformSays net schedule net_bytes schedule_bytes a.text a.status) (sym is.refused) (
      network,
      releases,
      broken,
      record {
        network_declared = declared;
        releases_declared = scheduled;
        rules = rules;
        breaks = is.breaks;
        not_kept = one-breaks network releases broken is.breaks;
        written = refl;
      },
    )

-- where the first declares a network
releases_say : (net schedule net_bytes schedule_bytes : List ℕ) (network : DeclaredNetwork)
    (declared : Result (List Release) Answer) (answer : Answer) → network_in net net_bytes ≡ Ok network
    → IsNetwork network → releases_in network schedule schedule_bytes ≡ declared
    → MatchResult declared (λ (releases : List Release). Unit {0}) IsInput
    → IsAnswerTo JudgesScheduled
    (declared >>= λ releases. Ok (record { network = network; releases = releases })) answer
    → ConformSays net schedule net_bytes schedule_bytes answer.text answer.status
releases_say net schedule net_bytes schedule_bytes network (Ok releases) answer declared rules is input judges =
    judgement_says net schedule net_bytes schedule_bytes network releases answer declared is rules judges
releases_say net schedule net_bytes schedule_bytes network (Err due) answer declared rules is input judges =
    subst (ConformSays net schedule net_bytes schedule_bytes answer.text)
    (sym (ap (λ (a : Answer). a.status) judges ∙ input))
    (inr (
      network,
      record {
        network_declared = declared;
        no_releases = none_declared (releases_in network schedule schedule_bytes) due is;
      },
    ))

conform_says : (net schedule net_bytes schedule_bytes : List ℕ) (declared : Result DeclaredNetwork Answer)
    (answer : Answer) → network_in net net_bytes ≡ declared → MatchResult declared IsNetwork IsInput
    → IsAnswerTo JudgesScheduled (declared >>= λ network. releases_in network schedule schedule_bytes
    >>= λ releases. Ok (record { network = network; releases = releases })) answer
    → ConformSays net schedule net_bytes schedule_bytes answer.text answer.status
conform_says net schedule net_bytes schedule_bytes (Ok network) answer is rules judges =
    releases_say net schedule net_bytes schedule_bytes network (releases_in network schedule schedule_bytes) answer
    is rules refl (releases_give network schedule schedule_bytes) judges
conform_says net schedule net_bytes schedule_bytes (Err due) answer is input judges =
    subst (ConformSays net schedule net_bytes schedule_bytes answer.text)
    (sym (ap (λ (a : Answer). a.status) judges ∙ input)) (inl (none_declared (network_in net net_bytes) due is))

pub conform_means : ConformMeans
unfolding scheduled_in
conform_means net schedule net_bytes schedule_bytes answer judges =
    conform_says net schedule net_bytes schedule_bytes (network_in net net_bytes) answer refl
    (network_gives net net_bytes) judges
