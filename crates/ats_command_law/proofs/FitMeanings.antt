-- What the answers to `fit` mean, and what they have to do with those to `conform`.
use Rattle.std.proofs.Common.{◌≡◌, ◌↔◌, ℕ, ◌+◌, ◌<◌, ◌≤◌, List, length, map, Option, Some, None, Result, Ok, Err}
use Rattle.std.proofs.Common.{refl, sym, ap, subst, inl, inr, ◌∙◌, arith}
use Rattle.std.specs.Prelude.{MatchResult, slice_index_or}
use Rattle.std.proofs.lemmas.List.{length-append, length-map}
use Rattle.ats_network.specs.Network.{DeclaredNetwork, IsNetwork, senders_of}
use Rattle.ats_network.specs.Sender.{flow_sender, stream_sender}
use Rattle.ats_trace.specs.declared.journey.Release.{Release}
use Rattle.ats_conform.specs.Releases.{AllKeepBuckets}
use Rattle.ats_conform.proofs.Prefix.{one-breaks}
use Rattle.ats_fit.specs.Laws.{NoneOverIsKept}
use Rattle.ats_fit.specs.Measured.{AreMeasured, IsBurstOf}
use Rattle.ats_fit.specs.declared.measured.Measured.{Measured}
use Rattle.ats_fit_text.specs.Text.{IsFitText}
use Rattle.ats_num.specs.Failure.{◌>>=◌}
use Rattle.ats_command_input.specs.Answer.{Answer}
use Rattle.ats_command_input.specs.Input.{network_in, releases_in}
use Rattle.ats_command_input.specs.declared.status.Status.{Status}
use Rattle.ats_command_input.specs.declared.status.Status.TheVariants.{Done, Refused}
use Rattle.ats_command_due.specs.Conformed.{IsAnswerTo, JudgesReleases, JudgesScheduled}
use Rattle.ats_command_due.specs.Due.{told_bytes}
use Rattle.ats_command_due.specs.Fitted.{IsFitted}
use Rattle.ats_command_due.specs.Replayed.{IsOneOf, Scheduled, scheduled_in}
use Rattle.ats_command_law.proofs.Meanings.{IsInput, network_gives, none_declared}
use Rattle.ats_command_law.proofs.ReleasesBounds.{scheduled_by}
use Rattle.ats_command_law.proofs.ReplayMeanings.{releases_give}
use Rattle.ats_command_law.specs.FitMeaning.{FitAgreesWithConform, FitMeans, FitSays, IsFitOf, IsJustEnough}
use Rattle.ats_command_law.specs.FitMeaning.{StreamsHaveBursts}

-- the burst of a stream is just enough
just_enough : (network : DeclaredNetwork) (releases : List Release) (i : ℕ) (measured : Option ℕ)
    → i < length network.streams → IsBurstOf network releases i measured
    → (burst : ℕ) × (measured ≡ Some burst) × IsJustEnough network releases i burst
just_enough network releases i None there past = absurd (omega (arith, there, past))
just_enough network releases i (Some burst) there is = (
  burst,
  refl,
  record {
    enough = is.1.conforms;
    no_less = λ less below conforms. (let no : burst ≤ less = is.1.least less conforms in omega (arith, below, no));
  },
)

bursts_are : (network : DeclaredNetwork) (releases : List Release) (measured : List Measured)
    → AreMeasured network releases measured → StreamsHaveBursts network releases measured
bursts_are network releases measured are i d there =
    let many : length (senders_of network) ≡ length network.streams + length network.flows =
    length-append (map stream_sender network.streams) (map flow_sender network.flows)
    ∙ (omega (arith, length-map network.streams stream_sender, length-map network.flows flow_sender)) in
    just_enough network releases i (slice_index_or measured i d).burst_bits there
    (are.each i d (omega (arith, are.count, many, there))).burst

-- where both files declare what they should
fit_of : NoneOverIsKept → (net schedule net_bytes schedule_bytes text : List ℕ) (network : DeclaredNetwork)
    (releases : List Release) → network_in net net_bytes ≡ Ok network
    → releases_in network schedule schedule_bytes ≡ Ok releases → IsNetwork network
    → (is : IsFitText network releases text)
    → IsFitOf net schedule net_bytes schedule_bytes text network releases is.measured
fit_of none_over net schedule net_bytes schedule_bytes text network releases declared are rules is = record {
  network_declared = declared;
  releases_declared = are;
  rules = rules;
  are_measured = is.are;
  bursts = bursts_are network releases is.measured is.are;
  none_over = none_over network releases is.measured is.are;
  written = is.printed;
}

-- where the first declares a network
releases_say : NoneOverIsKept → (net schedule net_bytes schedule_bytes : List ℕ) (network : DeclaredNetwork)
    (declared : Result (List Release) Answer) (answer : Answer) → network_in net net_bytes ≡ Ok network
    → IsNetwork network → releases_in network schedule schedule_bytes ≡ declared
    → MatchResult declared (λ (releases : List Release). Unit {0}) IsInput
    → IsOneOf IsFitted (declared >>= λ releases. Ok (record { network = network; releases = releases })) answer
    → FitSays net schedule net_bytes schedule_bytes answer.text answer.status
releases_say none_over net schedule net_bytes schedule_bytes network (Ok releases) answer declared rules is input one =
    subst (FitSays net schedule net_bytes schedule_bytes answer.text) (sym one.0) (
      network,
      releases,
      one.1.measured,
      fit_of none_over net schedule net_bytes schedule_bytes answer.text network releases declared is rules one.1,
    )
releases_say none_over net schedule net_bytes schedule_bytes network (Err due) answer declared rules is input one =
    subst (FitSays net schedule net_bytes schedule_bytes answer.text)
    (sym (ap (λ (a : Answer). a.status) one ∙ input))
    (inr (
      network,
      record {
        network_declared = declared;
        no_releases = none_declared (releases_in network schedule schedule_bytes) due is;
      },
    ))

fit_says : NoneOverIsKept → (net schedule net_bytes schedule_bytes : List ℕ) (declared : Result DeclaredNetwork Answer)
    (answer : Answer) → network_in net net_bytes ≡ declared → MatchResult declared IsNetwork IsInput
    → IsOneOf IsFitted (declared >>= λ network. releases_in network schedule schedule_bytes
    >>= λ releases. Ok (record { network = network; releases = releases })) answer
    → FitSays net schedule net_bytes schedule_bytes answer.text answer.status
fit_says none_over net schedule net_bytes schedule_bytes (Ok network) answer is rules one =
    releases_say none_over net schedule net_bytes schedule_bytes network
    (releases_in network schedule schedule_bytes) answer is rules refl
    (releases_give network schedule schedule_bytes) one
fit_says none_over net schedule net_bytes schedule_bytes (Err due) answer is input one =
    subst (FitSays net schedule net_bytes schedule_bytes answer.text)
    (sym (ap (λ (a : Answer). a.status) one ∙ input)) (inl (none_declared (network_in net net_bytes) due is))

pub fit_means : NoneOverIsKept → FitMeans
unfolding scheduled_in
fit_means none_over net schedule net_bytes schedule_bytes answer one =
    fit_says none_over net schedule net_bytes schedule_bytes (network_in net net_bytes) answer refl
    (network_gives net net_bytes) one

refused_is_not : ◌≡◌ {A = Status} Refused Done → ⊥
refused_is_not h = cc

-- an answer that judges releases is done exactly where every node keeps its buckets
done_where_kept : (network : DeclaredNetwork) (releases : List Release) (judged : Answer)
    → JudgesReleases network releases judged → (judged.status ≡ Done) ↔ AllKeepBuckets network releases
done_where_kept network releases judged (inl is) =
    (λ done. is.keeps, λ keeps. ap (λ (a : Answer). a.status) is.done)
done_where_kept network releases judged (inr (broken, is)) = (
  λ done. absurd (refused_is_not (sym (ap (λ (a : Answer). a.status) is.refused) ∙ done)),
  λ keeps. absurd (one-breaks network releases broken is.breaks keeps),
)

pub fit_agrees_with_conform : NoneOverIsKept → FitAgreesWithConform
fit_agrees_with_conform none_over told net schedule text judged fit_due conform_due =
    let net_bytes : List ℕ = told_bytes told net in
    let bytes : List ℕ = told_bytes told schedule in
    let says : FitSays net schedule net_bytes bytes text Done =
    fit_means none_over net schedule net_bytes bytes (record { status = Done; text = text }) fit_due.answers in
    let network : DeclaredNetwork = says.0 in
    let releases : List Release = says.1 in
    let is_done : (judged.status ≡ Done) ↔ AllKeepBuckets network releases =
    done_where_kept network releases judged
    (subst (λ (d : Result Scheduled Answer). IsAnswerTo JudgesScheduled d judged)
    (scheduled_by net schedule net_bytes bytes network releases says.3.network_declared says.3.releases_declared)
    conform_due.answers) in (
      network,
      releases,
      says.2,
      says.3,
      (λ none. is_done.1 (says.3.none_over.0 none), λ done. says.3.none_over.1 (is_done.0 done)),
    )
