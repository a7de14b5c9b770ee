-- What the answers to `bound` and `check` mean.
use Rattle.std.proofs.Common.{◌≡◌, ℕ, Bool, true, false, cond, List, length, Option, Some, None, Result, Ok, Err, refl}
use Rattle.std.proofs.Common.{sym, subst, inl, inr, ◌∙◌}
use Rattle.std.specs.Prelude.{nat_lt, codes, IsErr, MatchResult, AllPairs}
use Rattle.std.specs.Option.{option_map}
use Rattle.ats_topology.specs.Topology.{DeclaredTopology}
use Rattle.ats_network.specs.Network.{DeclaredNetwork, IsNetwork}
use Rattle.ats_network_file.specs.Reading.{network_of}
use Rattle.ats_network_file.specs.FaultText as network
use Rattle.ats_network_file.proofs.Networks.{declared_is_network}
use Rattle.ats_certificate.specs.Certificate.{IsBefore}
use Rattle.ats_certificate.specs.declared.row.Row.{Row}
use Rattle.ats_certificate_file.specs.Reading.{rows_of}
use Rattle.ats_certificate_file.specs.FaultText as certificate
use Rattle.ats_certificate_file.specs.Text.{certificate_text}
use Rattle.ats_bound.specs.Least.{least_certificate}
use Rattle.ats_bound.specs.Reason.{reason_of}
use Rattle.ats_tally.specs.declared.reason.Reason.{Reason}
use Rattle.ats_bound.proofs.FirstReason.{each_reason_is_the_first}
use Rattle.ats_bound.proofs.LeastHolds.{least_certificate_holds}
use Rattle.ats_bound.proofs.NoneHolds.{reason_leaves_none}
use Rattle.ats_checker.specs.Refusal.{refusal_of}
use Rattle.ats_checker.specs.declared.refusal.Refusal.{Refusal}
use Rattle.ats_checker.proofs.FirstRefusal.{each_refusal_is_the_first}
use Rattle.ats_checker.proofs.Refused.{refused_unless_holding}
use Rattle.ats_verdict_text.specs.Text.{accepted_text, reason_text, refusal_text, refused_text}
use Rattle.ats_soundness_law.proofs.TrueTime.{certificate_is_sound}
use Rattle.ats_checker.proofs.InTime.{holding_is_in_time}
use Rattle.ats_num.specs.Failure.{◌>>=◌}
use Rattle.ats_command_input.specs.Answer.{Answer, input_answer, settled}
use Rattle.ats_command_due.specs.Due.{bound_answer, check_answer}
use Rattle.ats_command_input.specs.Input.{bytes_in, declared_in, network_in, rows_in}
use Rattle.ats_command_due.specs.Judged.{judged, bound_judged, check_judged}
use Rattle.ats_command_law.specs.Meaning.{BoundSays, BoundMeans, CheckSays, CheckMeans, IsRefused}
use Rattle.ats_command_input.specs.declared.status.Status.TheVariants.{Input}
use Rattle.ats_command_law.proofs.RowOrder.{rows_ascend}

-- a fault of a file is answered so
abbrev pub IsInput : Answer → Type 0
IsInput answer = answer.status ≡ Input

read_gives : {A F : Type 0} (file : List ℕ) (words : F → List ℕ) (read : Result A F) (P : A → Type 0)
    → ((value : A) → read ≡ Ok value → P value) → MatchResult (declared_in file words read) P IsInput
read_gives file words (Ok value) P h = h value refl
read_gives file words (Err fault) P h = refl

-- what holds of each value that some bytes are read as holds of what a file declares, if it has no fault
pub file_gives : {A F : Type 0} (most : ℕ) (file bytes : List ℕ) (words : F → List ℕ)
    (reading : List ℕ → Result A F) (P : A → Type 0)
    → ((text : List ℕ) (value : A) → reading text ≡ Ok value → P value)
    → MatchResult (bytes_in most file bytes >>= λ text. declared_in file words (reading text)) P IsInput
file_gives {A} {F} most file bytes words reading P h = choose (nat_lt most (length bytes))
  where
    choose : (long : Bool) → MatchResult (cond long (Err (input_answer file (codes "too-long"))) (Ok bytes)
        >>= λ text. declared_in file words (reading text)) P IsInput
    choose true = refl
    choose false = read_gives file words (reading bytes) P (h bytes)

pub network_gives : (net bytes : List ℕ) → MatchResult (network_in net bytes) IsNetwork IsInput
unfolding network_in
network_gives net bytes = file_gives 16777216 net bytes network.fault_text network_of IsNetwork declared_is_network

pub rows_give : (topology : DeclaredTopology) (file bytes : List ℕ)
    → MatchResult (rows_in topology file bytes) (AllPairs IsBefore) IsInput
unfolding rows_in
rows_give topology file bytes =
    file_gives 16777216 file bytes certificate.fault_text (rows_of topology) (AllPairs IsBefore) (rows_ascend topology)

-- an answer in place of a value
pub none_declared : {A : Type 0} (declared : Result A Answer) (answer : Answer) → declared ≡ Err answer → IsErr declared
none_declared declared answer is = rw is refl

-- `bound`, where the file declares a network
judged_bound : (net bytes : List ℕ) (network : DeclaredNetwork) (reason : Option Reason)
    → network_in net bytes ≡ Ok network → IsNetwork network → reason_of network ≡ reason
    → (let answer = settled (judged (certificate_text network.topology (least_certificate network))
    (option_map (reason_text network.topology) reason)) in BoundSays net bytes answer.text answer.status)
judged_bound net bytes network None declared rules is =
    let holds = (least_certificate_holds network rules is).holds in (
      network,
      record {
        declared = declared;
        rules = rules;
        holds = holds;
        sound = certificate_is_sound network (least_certificate network) rules holds;
        in_time = holding_is_in_time network (least_certificate network) rules holds;
        written = refl;
      },
    )
judged_bound net bytes network (Some reason) declared rules is = (
  network,
  reason,
  record {
    declared = declared;
    rules = rules;
    first = (each_reason_is_the_first network reason rules).0 is;
    none_holds = λ rows. reason_leaves_none network reason rows rules is;
    written = refl;
  },
)

bound_says : (net bytes : List ℕ) (declared : Result DeclaredNetwork Answer) → network_in net bytes ≡ declared
    → MatchResult declared IsNetwork IsInput
    → (let answer = settled (declared >>= bound_judged) in BoundSays net bytes answer.text answer.status)
unfolding bound_judged
bound_says net bytes (Ok network) is rules = judged_bound net bytes network (reason_of network) is rules refl
bound_says net bytes (Err answer) is input =
    subst (BoundSays net bytes answer.text) (sym input) (none_declared (network_in net bytes) answer is)

pub bound_means : BoundMeans
unfolding bound_answer
bound_means net bytes = bound_says net bytes (network_in net bytes) refl (network_gives net bytes)

-- a certificate with a refusal, where both files declare what they should
pub is_refused : (net certificate net_bytes certificate_bytes : List ℕ) (network : DeclaredNetwork) (rows : List Row)
    (refusal : Refusal)
    → network_in net net_bytes ≡ Ok network → rows_in network.topology certificate certificate_bytes ≡ Ok rows
    → IsNetwork network → AllPairs IsBefore rows → refusal_of network rows ≡ Some refusal
    → IsRefused net certificate net_bytes certificate_bytes (refused_text (refusal_text network.topology refusal))
    network rows refusal
is_refused net certificate net_bytes certificate_bytes network rows refusal network_is rows_are rules ordered is =
    record {
      network_declared = network_is;
      rows_declared = rows_are;
      rules = rules;
      first = (each_refusal_is_the_first network rows refusal rules ordered).0 is;
      fails = λ holds. other refusal (sym is ∙ (refused_unless_holding network rows rules ordered).1 holds);
      written = refl;
    }
  where
    other : (refusal : Refusal) → Some refusal ≡ None → ⊥
    other refusal h = cc

-- `check`, where both files declare what they should
pub judged_check : (net certificate net_bytes certificate_bytes : List ℕ) (network : DeclaredNetwork) (rows : List Row)
    (refusal : Option Refusal)
    → network_in net net_bytes ≡ Ok network → rows_in network.topology certificate certificate_bytes ≡ Ok rows
    → IsNetwork network → AllPairs IsBefore rows → refusal_of network rows ≡ refusal
    → (let answer = settled (judged (accepted_text network rows) (option_map (refusal_text network.topology) refusal))
    in CheckSays net certificate net_bytes certificate_bytes answer.text answer.status)
judged_check net certificate net_bytes certificate_bytes network rows None network_is rows_are rules ordered is =
    let holds = (refused_unless_holding network rows rules ordered).0 is in (
      network,
      rows,
      record {
        network_declared = network_is;
        rows_declared = rows_are;
        rules = rules;
        holds = holds;
        sound = certificate_is_sound network rows rules holds;
        in_time = holding_is_in_time network rows rules holds;
        written = refl;
      },
    )
judged_check net certificate net_bytes certificate_bytes network rows (Some refusal) network_is rows_are rules ordered
    is = (
      network,
      rows,
      refusal,
      is_refused net certificate net_bytes certificate_bytes network rows refusal network_is rows_are rules ordered is,
    )

-- where the first declares a network
rows_say : (net certificate net_bytes certificate_bytes : List ℕ) (network : DeclaredNetwork)
    (declared : Result (List Row) Answer)
    → network_in net net_bytes ≡ Ok network → IsNetwork network → rows_in network.topology certificate certificate_bytes
    ≡ declared → MatchResult declared (AllPairs IsBefore) IsInput
    → (let answer = settled (declared >>= λ rows. check_judged network rows)
    in CheckSays net certificate net_bytes certificate_bytes answer.text answer.status)
unfolding check_judged
rows_say net certificate net_bytes certificate_bytes network (Ok rows) network_is rules is ordered =
    judged_check net certificate net_bytes certificate_bytes network rows (refusal_of network rows)
    network_is is rules ordered refl
rows_say net certificate net_bytes certificate_bytes network (Err answer) network_is rules is input =
    subst (CheckSays net certificate net_bytes certificate_bytes answer.text) (sym input)
    (inr (
      network,
      record {
        network_declared = network_is;
        no_rows = none_declared (rows_in network.topology certificate certificate_bytes) answer is;
      },
    ))

check_says : (net certificate net_bytes certificate_bytes : List ℕ) (declared : Result DeclaredNetwork Answer)
    → network_in net net_bytes ≡ declared → MatchResult declared IsNetwork IsInput
    → (let answer = settled (declared >>= λ network.
    rows_in network.topology certificate certificate_bytes >>= λ rows. check_judged network rows)
    in CheckSays net certificate net_bytes certificate_bytes answer.text answer.status)
check_says net certificate net_bytes certificate_bytes (Ok network) is rules =
    rows_say net certificate net_bytes certificate_bytes network
    (rows_in network.topology certificate certificate_bytes) is rules refl
    (rows_give network.topology certificate certificate_bytes)
check_says net certificate net_bytes certificate_bytes (Err answer) is input =
    subst (CheckSays net certificate net_bytes certificate_bytes answer.text) (sym input)
    (inl (none_declared (network_in net net_bytes) answer is))

pub check_means : CheckMeans
unfolding check_answer
check_means net certificate net_bytes certificate_bytes =
    check_says net certificate net_bytes certificate_bytes (network_in net net_bytes) refl (network_gives net net_bytes)
