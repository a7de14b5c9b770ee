-- What the answers to `explain` mean.
use Rattle.std.proofs.Common.{◌≡◌, ℕ, List, Option, Some, None, Result, Ok, Err, refl, sym, subst}
use Rattle.std.specs.Prelude.{MatchResult}
use Rattle.std.specs.Option.{option_map}
use Rattle.ats_network.specs.Network.{DeclaredNetwork, IsNetwork}
use Rattle.ats_certificate.specs.Used.{places_of}
use Rattle.ats_tally.specs.Reason.{first_some}
use Rattle.ats_tally.specs.declared.reason.Reason.{Reason}
use Rattle.ats_tally.specs.declared.reason.Reason.TheVariants.{Overloaded}
use Rattle.ats_bound.specs.Reason.{overload}
use Rattle.ats_bound.proofs.FirstReason.{each_reason_is_the_first}
use Rattle.ats_bound.proofs.FoundReason.{of_load}
use Rattle.ats_bound.proofs.NoneHolds.{reason_leaves_none}
use Rattle.ats_explain.specs.Laws.{ClearWhereOneHolds, EachStreamAddsUp}
use Rattle.ats_explain_text.specs.Text.{explain_text}
use Rattle.ats_verdict_text.specs.Text.{reason_text, refused_text}
use Rattle.ats_num.specs.Failure.{◌>>=◌}
use Rattle.ats_command_input.specs.Answer.{Answer, settled}
use Rattle.ats_command_input.specs.Input.{network_in}
use Rattle.ats_command_input.specs.declared.status.Status.TheVariants.{Refused}
use Rattle.ats_command_due.specs.Due.{explain_answer}
use Rattle.ats_command_due.specs.Judged.{explain_judged, judged}
use Rattle.ats_command_law.proofs.Meanings.{IsInput, network_gives, none_declared}
use Rattle.ats_command_law.specs.ExplainMeaning.{ExplainMeans, ExplainSays}

-- where the file declares a network
judged_explanation : EachStreamAddsUp → ClearWhereOneHolds → (net bytes : List ℕ) (network : DeclaredNetwork)
    (first : Option Reason) → network_in net bytes ≡ Ok network → IsNetwork network
    → first_some (overload network) (places_of network) ≡ first
    → (let answer = settled (judged (explain_text network) (option_map (reason_text network.topology) first))
    in ExplainSays net bytes answer.text answer.status)
judged_explanation adds clears net bytes network None declared rules is = (
  network,
  record {
    declared = declared;
    rules = rules;
    carries = is;
    adds_up = adds network rules is;
    clear = clears network rules is;
    written = refl;
  },
)
judged_explanation adds clears net bytes network (Some reason) declared rules is =
    of_load network rules
    (λ (r : Reason). ExplainSays net bytes (refused_text (reason_text network.topology r)) Refused)
    (λ port class load first. (
      network,
      port,
      class,
      load,
      record {
        declared = declared;
        rules = rules;
        first = first;
        none_holds = λ rows. reason_leaves_none network (Overloaded port class load) rows rules
            ((each_reason_is_the_first network (Overloaded port class load) rules).1 first);
        written = refl;
      },
    ))
    reason is

explain_says : EachStreamAddsUp → ClearWhereOneHolds → (net bytes : List ℕ)
    (declared : Result DeclaredNetwork Answer) → network_in net bytes ≡ declared
    → MatchResult declared IsNetwork IsInput
    → (let answer = settled (declared >>= explain_judged) in ExplainSays net bytes answer.text answer.status)
unfolding explain_judged
explain_says adds clears net bytes (Ok network) is rules =
    judged_explanation adds clears net bytes network (first_some (overload network) (places_of network)) is rules refl
explain_says adds clears net bytes (Err answer) is input =
    subst (ExplainSays net bytes answer.text) (sym input) (none_declared (network_in net bytes) answer is)

pub explain_means : EachStreamAddsUp → ClearWhereOneHolds → ExplainMeans
unfolding explain_answer
explain_means adds clears net bytes =
    explain_says adds clears net bytes (network_in net bytes) refl (network_gives net bytes)
