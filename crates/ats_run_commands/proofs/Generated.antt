-- What stands in place of a summary, that one is due, and which sums it has.
use Rattle.std.proofs.Common.{◌≡◌, ℕ, List, Option, Some, None, Result, Ok, Err, sym, ap, ◌∙◌}
use Rattle.ats_network.specs.Network.{DeclaredNetwork}
use Rattle.ats_tally.specs.Delays.{NetworkRows, rows_for, sums_for}
use Rattle.ats_bound.specs.Least.{least_certificate}
use Rattle.ats_bound.specs.Reason.{reason_of}
use Rattle.ats_gen.specs.Made.{gen_fault}
use Rattle.ats_gen.specs.declared.fault.GenFault.{GenFault}
use Rattle.ats_verdict_text.specs.Text.{refused_text}
use Rattle.ats_command_input.specs.Answer.{Answer}
use Rattle.ats_command_input.specs.declared.status.Status.TheVariants as status
use Rattle.ats_command_due.specs.Generated.{gen_fault_text, least_sums, made_for, network_unless, sums_unless}

-- a refusal with this text
refused_with : List ℕ → Result DeclaredNetwork Answer
refused_with text = Err (record { status = status.Refused; text = text })

-- where there is no fault, releases are made for the network
pub made_is : (network : DeclaredNetwork) (seed count : ℕ) → gen_fault network seed count ≡ None
    → made_for seed count network ≡ Ok network
unfolding made_for
made_is network seed count none = ap (λ (o : Option GenFault). network_unless network o) none

-- and the line for the fault, where there is one
pub made_refused : (network : DeclaredNetwork) (seed count : ℕ) (fault : GenFault) (text : List ℕ)
    → gen_fault network seed count ≡ Some fault → text ≡ refused_text (gen_fault_text fault)
    → made_for seed count network ≡ Err (record { status = status.Refused; text = text })
unfolding made_for refused_with
made_refused network seed count fault text why written =
    ap (λ (o : Option GenFault). network_unless network o) why ∙ ap refused_with (sym written)

-- where there is no reason against the network, the least sums are those of the delays by the least certificate
pub least_sums_are : (network : DeclaredNetwork) (delays : NetworkRows) (sums : List ℕ) → reason_of network ≡ None
    → delays ≡ rows_for network (least_certificate network) → sums ≡ sums_for delays.network delays.rows
    → least_sums network ≡ Some sums
least_sums_are network delays sums none same summed =
    ap (sums_unless network) none
    ∙ ap Some (sym (summed ∙ ap (λ (d : NetworkRows). sums_for d.network d.rows) same))
