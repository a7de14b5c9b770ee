-- What the answers to `admit` mean.
use Rattle.std.proofs.Common.{◌≡◌, ℕ, List, take, drop, Option}
use Rattle.std.proofs.Common.{Some, None, Result, Ok, Err, refl, sym, subst, inl, inr}
use Rattle.std.specs.Prelude.{MatchResult}
use Rattle.std.specs.List.{All}
use Rattle.std.specs.Option.{option_map}
use Rattle.std.proofs.lemmas.List.{take-append-drop}
use Rattle.ats_facts.proofs.Lists.{all_left}
use Rattle.ats_topology.specs.Topology.{IsTopology}
use Rattle.ats_network.specs.Network.{DeclaredNetwork, IsNetwork}
use Rattle.ats_tally.specs.declared.reason.Reason.{Reason}
use Rattle.ats_bound.specs.Least.{least_certificate}
use Rattle.ats_bound.specs.Reason.{reason_of}
use Rattle.ats_bound.proofs.FirstReason.{each_reason_is_the_first}
use Rattle.ats_bound.proofs.LeastHolds.{least_certificate_holds}
use Rattle.ats_bound.proofs.NoneHolds.{reason_leaves_none}
use Rattle.ats_soundness_law.proofs.TrueTime.{certificate_is_sound}
use Rattle.ats_checker.proofs.InTime.{holding_is_in_time}
use Rattle.ats_verdict_text.specs.Text.{reason_text}
use Rattle.ats_requests.specs.Laws.{IsCertified}
use Rattle.ats_requests.specs.Requests.{MayAsk}
use Rattle.ats_requests.specs.declared.request.Request.{Request}
use Rattle.ats_requests.proofs.Requests.{requests_keep}
use Rattle.ats_request_file.specs.Reading.{requests_of}
use Rattle.ats_request_file.specs.FaultText as file
use Rattle.ats_admission_text.specs.Text.{admission_text}
use Rattle.ats_num.specs.Failure.{◌>>=◌}
use Rattle.ats_command_input.specs.Answer.{Answer, settled}
use Rattle.ats_command_input.specs.Input.{network_in, requests_in}
use Rattle.ats_command_input.proofs.Requested.{requests_may}
use Rattle.ats_command_law.specs.AdmitMeaning.{AdmitMeans, AdmitSays, IsSoundlyBounded, network_after}
use Rattle.ats_command_due.specs.Due as due
use Rattle.ats_command_due.specs.Judged.{admission_judged, judged}
use Rattle.ats_command_law.proofs.Meanings.{IsInput, file_gives, network_gives, none_declared}
use Rattle.ats_command_law.proofs.Answered.{AreAsked, are_answers}
use Rattle.ats_command_law.proofs.OneClass.{requests_one}

-- what requests a file makes may be asked, and where it makes none, it has a fault
requests_give : (network : DeclaredNetwork) (name bytes : List ℕ) → IsTopology network.topology
    → MatchResult (requests_in network name bytes) (AreAsked network) IsInput
unfolding requests_in
requests_give network name bytes is =
    file_gives 16777216 name bytes file.fault_text (requests_of network) (AreAsked network)
    (λ text asked read.
    record { may = requests_may network text asked is read; one = requests_one network text asked read })

soundly_bounded : (network : DeclaredNetwork) → IsCertified network → IsSoundlyBounded network
soundly_bounded network is =
    let holds = (least_certificate_holds network is.rules is.free).holds in
    record {
      rules = is.rules;
      holds = holds;
      sound = certificate_is_sound network (least_certificate network) is.rules holds;
      in_time = holding_is_in_time network (least_certificate network) is.rules holds;
    }

-- so it is after the first so many requests
sound_after : (network : DeclaredNetwork) (asked : List Request) → IsCertified network
    → All (MayAsk network) asked → (k : ℕ) → IsSoundlyBounded (network_after network asked k)
sound_after network asked is may k =
    soundly_bounded (network_after network asked k)
    (requests_keep network (take k asked) is
    (all_left (MayAsk network) (take k asked) (drop k asked)
    (subst (λ (rs : List Request). All (MayAsk network) rs) (sym (take-append-drop k asked)) may))).certified

-- where both files declare what they should
judged_admission : (net requests net_bytes requests_bytes : List ℕ) (network : DeclaredNetwork) (asked : List Request)
    (reason : Option Reason) → network_in net net_bytes ≡ Ok network
    → requests_in network requests requests_bytes ≡ Ok asked → IsNetwork network
    → AreAsked network asked → reason_of network ≡ reason
    → (let answer = settled (judged (admission_text network asked)
    (option_map (reason_text network.topology) reason))
    in AdmitSays net requests net_bytes requests_bytes answer.text answer.status)
judged_admission net requests net_bytes requests_bytes network asked None declared made rules are is = (
  network,
  asked,
  record {
    network_declared = declared;
    requests_made = made;
    sound = sound_after network asked (record { rules = rules; free = is }) are.may;
    answered = are_answers network asked (record { rules = rules; free = is }) are;
    written = refl;
  },
)
judged_admission net requests net_bytes requests_bytes network asked (Some reason) declared made rules are is = (
  network,
  asked,
  reason,
  record {
    network_declared = declared;
    requests_made = made;
    rules = rules;
    first = (each_reason_is_the_first network reason rules).0 is;
    none_holds = λ rows. reason_leaves_none network reason rows rules is;
    written = refl;
  },
)

-- where the first declares a network
requests_say : (net requests net_bytes requests_bytes : List ℕ) (network : DeclaredNetwork)
    (made : Result (List Request) Answer) → network_in net net_bytes ≡ Ok network → IsNetwork network
    → requests_in network requests requests_bytes ≡ made
    → MatchResult made (AreAsked network) IsInput
    → (let answer = settled (made >>= λ asked. admission_judged network asked)
    in AdmitSays net requests net_bytes requests_bytes answer.text answer.status)
unfolding admission_judged
requests_say net requests net_bytes requests_bytes network (Ok asked) declared rules is are =
    judged_admission net requests net_bytes requests_bytes network asked (reason_of network) declared is rules are refl
requests_say net requests net_bytes requests_bytes network (Err answer) declared rules is input =
    subst (AdmitSays net requests net_bytes requests_bytes answer.text) (sym input)
    (inr (
      network,
      record {
        network_declared = declared;
        no_requests = none_declared (requests_in network requests requests_bytes) answer is;
      },
    ))

admit_says : (net requests net_bytes requests_bytes : List ℕ) (declared : Result DeclaredNetwork Answer)
    → network_in net net_bytes ≡ declared → MatchResult declared IsNetwork IsInput
    → (let answer = settled (declared >>= λ network. requests_in network requests requests_bytes
    >>= λ asked. admission_judged network asked)
    in AdmitSays net requests net_bytes requests_bytes answer.text answer.status)
admit_says net requests net_bytes requests_bytes (Ok network) is rules =
    requests_say net requests net_bytes requests_bytes network
    (requests_in network requests requests_bytes) is rules refl
    (requests_give network requests requests_bytes rules.topology)
admit_says net requests net_bytes requests_bytes (Err answer) is input =
    subst (AdmitSays net requests net_bytes requests_bytes answer.text) (sym input)
    (inl (none_declared (network_in net net_bytes) answer is))

pub admit_means : AdmitMeans
unfolding due.admit_answer
admit_means net requests net_bytes requests_bytes =
    admit_says net requests net_bytes requests_bytes (network_in net net_bytes) refl (network_gives net net_bytes)
