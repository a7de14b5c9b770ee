-- What the answers to `lrq bound` and `lrq check` mean.
use Rattle.std.proofs.Common.{◌≡◌, ◌∙◌, ℕ, List, Option, Some, None, Result, Ok, Err, refl, sym, subst, inl, inr}
use Rattle.std.specs.Prelude.{MatchResult, AllPairs}
use Rattle.std.specs.Option.{option_map}
use Rattle.ats_network.specs.Network.{DeclaredNetwork, IsNetwork}
use Rattle.ats_certificate.specs.Certificate.{IsBefore}
use Rattle.ats_certificate.specs.declared.row.Row.{Row}
use Rattle.ats_certificate_file.specs.Text.{certificate_text}
use Rattle.ats_bound.specs.Least.{least_certificate}
use Rattle.ats_bound.specs.Reason.{reason_of}
use Rattle.ats_bound.proofs.FirstReason.{each_reason_is_the_first}
use Rattle.ats_bound.proofs.LeastHolds.{least_certificate_holds}
use Rattle.ats_bound.proofs.NoneHolds.{reason_leaves_none}
use Rattle.ats_tally.specs.declared.reason.Reason.{Reason}
use Rattle.ats_checker.specs.Refusal.{refusal_of}
use Rattle.ats_checker.specs.declared.refusal.Refusal.{Refusal}
use Rattle.ats_checker.proofs.FirstRefusal.{each_refusal_is_the_first}
use Rattle.ats_checker.proofs.Refused.{refused_unless_holding}
use Rattle.ats_verdict_text.specs.Text.{accepted_text, reason_text, refusal_text}
use Rattle.ats_lrq.specs.Narrow.{narrowed}
use Rattle.ats_lrq_law.proofs.Narrowed.{narrowed_is_network, narrowed_is_sound}
use Rattle.ats_command.proofs.Narrowed.{narrowed_is_in_time, narrowed_text_is_sound}
use Rattle.ats_num.specs.Failure.{◌>>=◌}
use Rattle.ats_command_input.specs.Answer.{Answer, settled}
use Rattle.ats_command_input.specs.Input.{network_in, rows_in}
use Rattle.ats_command_due.specs.Due.{lrq_bound_answer, lrq_check_answer}
use Rattle.ats_command_due.specs.Judged.{judged, bound_judged, check_judged}
use Rattle.ats_command_law.specs.LrqMeaning.{LrqBoundMeans, LrqBoundSays, LrqCheckMeans, LrqCheckSays}
use Rattle.ats_command_law.proofs.Meanings.{IsInput, network_gives, rows_give, none_declared}

-- `lrq bound`, where the file declares a network
judged_bound : (net bytes : List ℕ) (network : DeclaredNetwork) (reason : Option Reason)
    → network_in net bytes ≡ Ok network → IsNetwork network → reason_of (narrowed network) ≡ reason
    → (let answer = settled (judged (certificate_text network.topology (least_certificate (narrowed network)))
    (option_map (reason_text network.topology) reason)) in LrqBoundSays net bytes answer.text answer.status)
judged_bound net bytes network None declared rules is =
    let rows : List Row = least_certificate (narrowed network) in
    let holds = (least_certificate_holds (narrowed network) (narrowed_is_network network rules) is).holds in (
      network,
      record {
        declared = declared;
        rules = rules;
        holds = holds;
        sound = narrowed_is_sound network rows rules holds;
        in_time = narrowed_is_in_time network rows rules holds;
        written = refl;
      },
    )
judged_bound net bytes network (Some reason) declared rules is =
    let narrow : IsNetwork (narrowed network) = narrowed_is_network network rules in (
      network,
      reason,
      record {
        declared = declared;
        rules = rules;
        first = (each_reason_is_the_first (narrowed network) reason narrow).0 is;
        none_holds = λ rows. reason_leaves_none (narrowed network) reason rows narrow is;
        written = refl;
      },
    )

bound_says : (net bytes : List ℕ) (declared : Result DeclaredNetwork Answer) → network_in net bytes ≡ declared
    → MatchResult declared IsNetwork IsInput
    → (let answer = settled (declared >>= λ network. bound_judged (narrowed network))
    in LrqBoundSays net bytes answer.text answer.status)
unfolding bound_judged
bound_says net bytes (Ok network) is rules =
    judged_bound net bytes network (reason_of (narrowed network)) is rules refl
bound_says net bytes (Err answer) is input =
    subst (LrqBoundSays net bytes answer.text) (sym input) (none_declared (network_in net bytes) answer is)

pub lrq_bound_means : LrqBoundMeans
unfolding lrq_bound_answer
lrq_bound_means net bytes = bound_says net bytes (network_in net bytes) refl (network_gives net bytes)

-- `lrq check`, where both files declare what they should
judged_check : (net certificate net_bytes certificate_bytes : List ℕ) (network : DeclaredNetwork) (rows : List Row)
    (refusal : Option Refusal)
    → network_in net net_bytes ≡ Ok network → rows_in network.topology certificate certificate_bytes ≡ Ok rows
    → IsNetwork network → AllPairs IsBefore rows → refusal_of (narrowed network) rows ≡ refusal
    → (let answer = settled (judged (accepted_text (narrowed network) rows)
    (option_map (refusal_text network.topology) refusal))
    in LrqCheckSays net certificate net_bytes certificate_bytes answer.text answer.status)
judged_check net certificate net_bytes certificate_bytes network rows None network_is rows_are rules ordered is =
    let holds =
    (refused_unless_holding (narrowed network) rows (narrowed_is_network network rules) ordered).0 is in (
      network,
      rows,
      record {
        rules = rules;
        holds = holds;
        sound = record {
          network_declared = network_is;
          rows_declared = rows_are;
          is_sound =
              narrowed_text_is_sound network rows (accepted_text (narrowed network) rows) rules holds refl;
        };
      },
    )
judged_check net certificate net_bytes certificate_bytes network rows (Some refusal)
    network_is rows_are rules ordered is =
    let narrow : IsNetwork (narrowed network) = narrowed_is_network network rules in (
      network,
      rows,
      refusal,
      record {
        network_declared = network_is;
        rows_declared = rows_are;
        rules = rules;
        first = (each_refusal_is_the_first (narrowed network) rows refusal narrow ordered).0 is;
        fails = λ holds. other refusal
            (sym is ∙ (refused_unless_holding (narrowed network) rows narrow ordered).1 holds);
        written = refl;
      },
    )
  where
    other : (refusal : Refusal) → Some refusal ≡ None → ⊥
    other refusal h = cc

-- where the first declares a network
rows_say : (net certificate net_bytes certificate_bytes : List ℕ) (network : DeclaredNetwork)
    (declared : Result (List Row) Answer)
    → network_in net net_bytes ≡ Ok network → IsNetwork network → rows_in network.topology certificate certificate_bytes
    ≡ declared → MatchResult declared (AllPairs IsBefore) IsInput
    → (let answer = settled (declared >>= λ rows. check_judged (narrowed network) rows)
    in LrqCheckSays net certificate net_bytes certificate_bytes answer.text answer.status)
unfolding check_judged
rows_say net certificate net_bytes certificate_bytes network (Ok rows) network_is rules is ordered =
    judged_check net certificate net_bytes certificate_bytes network rows (refusal_of (narrowed network) rows)
    network_is is rules ordered refl
rows_say net certificate net_bytes certificate_bytes network (Err answer) network_is rules is input =
    subst (LrqCheckSays net certificate net_bytes certificate_bytes answer.text) (sym input)
    (inr (
      network,
      record {
        network_declared = network_is;
        no_rows = none_declared (rows_in network.topology certificate certificate_bytes) answer is;
      },
    ))

check_says : (net certificate net_bytes certificate_bytes : List ℕ) (declared : Result DeclaredNetwork Answer)
    → network_in net net_bytes ≡ declared → MatchResult declared IsNetwork IsInput
    → (let answer = settled (declared >>= λ network.
    rows_in network.topology certificate certificate_bytes >>= λ rows. check_judged (narrowed network) rows)
    in LrqCheckSays net certificate net_bytes certificate_bytes answer.text answer.status)
check_says net certificate net_bytes certificate_bytes (Ok network) is rules =
    rows_say net certificate net_bytes certificate_bytes network
    (rows_in network.topology certificate certificate_bytes) is rules refl
    (rows_give network.topology certificate certificate_bytes)
check_says net certificate net_bytes certificate_bytes (Err answer) is input =
    subst (LrqCheckSays net certificate net_bytes certificate_bytes answer.text) (sym input)
    (inl (none_declared (network_in net net_bytes) answer is))

pub lrq_check_means : LrqCheckMeans
unfolding lrq_check_answer
lrq_check_means net certificate net_bytes certificate_bytes =
    check_says net certificate net_bytes certificate_bytes (network_in net net_bytes) refl (network_gives net net_bytes)
