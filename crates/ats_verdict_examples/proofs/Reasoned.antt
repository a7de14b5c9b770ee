use Rattle.std.proofs.Common.{◌≡◌, ◌≢◌, ℕ, List, Some, None, refl, ap, arith}
use Rattle.std.specs.Prelude.{codes}
use Rattle.ats_network.specs.Network.{DeclaredNetwork, IsNetwork}
use Rattle.ats_certificate.specs.declared.row.Row.{Row}
use Rattle.ats_tally.specs.declared.reason.Reason.{Reason}
use Rattle.ats_tally.specs.declared.reason.Reason.TheVariants.{Overloaded, Residence, Deadline}
use Rattle.ats_bound.specs.First.{IsFirstReason}
use Rattle.ats_bound.specs.Reason.{reason_of}
use Rattle.ats_bound.proofs.FirstReason.{each_reason_is_the_first, first_reason_is_one}
use Rattle.ats_bound.proofs.LeastHolds.{least_certificate_holds}
use Rattle.ats_bound.proofs.NoneHolds.{reason_leaves_none}
use Rattle.ats_examples.specs.Networks.{fast, pair}
use Rattle.ats_examples.proofs.NetworkProofs.{fast_is}
use Rattle.ats_verdict_examples.specs.Networks.{line_until}
use Rattle.ats_verdict_examples.specs.Reasons.{HasReason, HasNoReason, ReasonsAreMet}
use Rattle.ats_verdict_examples.proofs.NetworkProofs.{line_late, line_in_time, pair_over, pair_fits}

-- Reasons by computation, and what the laws say of them.

-- reasons are told apart by a number of theirs
abbrev number_in : Reason → ℕ
number_in (Overloaded port class load) = port
number_in (Residence port class need) = need
number_in (Deadline stream listener sum) = sum

reason_by : (network : DeclaredNetwork) (reason other : Reason) → IsNetwork network → reason_of network ≡ Some reason
    → reason ≢ other → HasReason network reason other
reason_by network reason other rules given differ =
    let first : IsFirstReason network reason = (each_reason_is_the_first network reason rules).0 given in
    record {
      rules = rules;
      given = given;
      first = first;
      not_first = λ h. differ (first_reason_is_one network reason other rules first h);
      none_holds = λ (rows : List Row). reason_leaves_none network reason rows rules given;
    }

none_by : (network : DeclaredNetwork) → IsNetwork network → reason_of network ≡ None → HasNoReason network
none_by network rules free =
    record { rules = rules; free = free; answered = least_certificate_holds network rules free }

not_second : Overloaded 0 6 2000000000000 ≢ Overloaded 2 6 2000000000000
not_second same = let e : ◌≡◌ {A = ℕ} 0 2 = ap number_in same in absurd (omega arith)

not_overloaded : Residence 0 6 12336000 ≢ Overloaded 0 6 150000000000
not_overloaded same = let e : ◌≡◌ {A = ℕ} 12336000 0 = ap number_in same in absurd (omega arith)

not_less : Deadline (codes "a") None 26672000 ≢ Deadline (codes "a") None 26671000
not_less same = let e : ◌≡◌ {A = ℕ} 26672000 26671000 = ap number_in same in absurd (omega arith)

pub reasons_are_met : ReasonsAreMet
reasons_are_met = record {
  overloaded = reason_by fast (Overloaded 0 6 2000000000000) (Overloaded 2 6 2000000000000) fast_is refl not_second;
  overstays = reason_by (pair 12335) (Residence 0 6 12336000) (Overloaded 0 6 150000000000) pair_over refl
      not_overloaded;
  may_stay = none_by (pair 12336) pair_fits refl;
  late = reason_by (line_until 26671) (Deadline (codes "a") None 26672000) (Deadline (codes "a") None 26671000)
      line_late refl not_less;
  in_time = none_by (line_until 26672) line_in_time refl;
}
