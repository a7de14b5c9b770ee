use Rattle.std.proofs.Common.{ℕ, zero, suc, ◌<◌, List, [], ◌∷◌, length, get_or, All}
use Rattle.std.proofs.Common.{refl, sym, ap, arith, lit<, lit≤}
use Rattle.std.specs.Prelude.{IsTrue, nat_lt, ◌==◌}
use Rattle.std.specs.List.{list_any}
use Rattle.std.proofs.lemmas.Bool.{false≢true}
use Rattle.ats_streams.specs.Branches.{trunk_of}
use Rattle.ats_bound.specs.Laws.{IsAnswered}
use Rattle.ats_bound.specs.Least.{least_certificate}
use Rattle.ats_bound.specs.Reason.{overload}
use Rattle.ats_bound.proofs.LeastHolds.{least_certificate_holds}
use Rattle.ats_admission_law.specs.Less.{IsLessBy}
use Rattle.ats_admission_law.specs.Near.{IsNear, AreNear}
use Rattle.ats_admission_law.proofs.Along.{reason_is_along, reason_is_judged}
use Rattle.ats_admission_law.proofs.Lowest.{path_finds_first}
use Rattle.ats_admission_law.proofs.Near.{near_finds_late}
use Rattle.ats_admission_law.proofs.Networks.{less_is_network}
use Rattle.ats_admission_law.proofs.NoneRises.{less_has_no_reason, less_holds, no_sum_rises, nothing_rises}
use Rattle.ats_admission_law.proofs.Others.{other_ports_stay, other_sums_stay}
use Rattle.ats_examples.proofs.Tests.{lt_of, all_by}
use Rattle.ats_verdict_examples.specs.Networks.{x_until, y, z, of_three, of_two, too_fast, with_too_fast}
use Rattle.ats_verdict_examples.specs.OneLess.{LessIsMet, LateIsMet, PathIsMet, AdmissionIsMet}
use Rattle.ats_verdict_examples.proofs.NetworkProofs.{three_in_time, three_late, too_fast_is}

-- What the laws of admission say of three streams.

less_by : (deadline_ns : ℕ) → IsLessBy (of_three deadline_ns) (of_two deadline_ns) y
less_by deadline_ns = record {
  topology = refl;
  most_ports = refl;
  flows = refl;
  streams = record { front = x_until deadline_ns ∷ []; back = z ∷ []; old_is = refl; new_is = refl };
}

pub less_is_met : LessIsMet
less_is_met = record {
  less = less_by 91352;
  rules = three_in_time;
  free = refl;
  rules_left = less_is_network (of_three 91352) (of_two 91352) y (less_by 91352) three_in_time;
  free_left = less_has_no_reason (of_three 91352) (of_two 91352) y (less_by 91352) three_in_time refl;
  held = held.holds;
  held_left = less_holds (of_three 91352) (of_two 91352) y (least_certificate (of_three 91352)) (less_by 91352)
      three_in_time held.holds;
  load = refl;
  load_left = refl;
  falls = nothing_rises (of_three 91352) (of_two 91352) y 4 6 (less_by 91352) three_in_time (lit≤ tt) refl;
  sum = refl;
  sum_left = refl;
  no_more = no_sum_rises (of_three 91352) (of_two 91352) y (x_until 91352)
      (trunk_of (x_until 91352).ports (x_until 91352).branches) (less_by 91352) three_in_time refl;
  meets = refl;
  apart = refl;
  same = other_ports_stay (of_three 91352) (of_two 91352) y 9 6 (less_by 91352) refl;
  shares_some = refl;
  shares_none = refl;
  sum_of_z = refl;
  same_sum = ap (λ (sums : List ℕ). get_or sums 0 0)
      (other_sums_stay (of_three 91352) (of_two 91352) y z (less_by 91352) three_in_time refl);
}
  where
    held : IsAnswered (of_three 91352)
    held = least_certificate_holds (of_three 91352) three_in_time refl

-- y shares a port with x and with itself, and none with z
all_near : (n : ℕ) → IsNear (of_three 91351) y n → IsTrue (list_any (λ (m : ℕ). m == n) (1 ∷ 0 ∷ []))
all_near zero h = refl
all_near (suc zero) h = refl
all_near (suc (suc zero)) h = absurd (false≢true h.shares)
all_near (suc (suc (suc n))) h = let past = h.within in absurd (omega arith)

near : AreNear (of_three 91351) y (1 ∷ 0 ∷ [])
near = record { near = each; complete = all_near }
  where
    each : All (IsNear (of_three 91351) y) (1 ∷ 0 ∷ [])
    each zero d h = record { within = lit< tt; shares = refl }
    each (suc zero) d h = record { within = lit< tt; shares = refl }
    each (suc (suc k)) d h = absurd (omega arith)

pub late_is_met : LateIsMet
late_is_met = record {
  less = less_by 91351;
  rules = three_late;
  free_left = refl;
  reason = refl;
  along = sym (reason_is_along (of_three 91351) (of_two 91351) y (less_by 91351) three_late refl);
  judged = sym (reason_is_judged (of_three 91351) (of_two 91351) y (less_by 91351) three_late refl);
  near = near;
  late = refl;
  lowest = sym (near_finds_late (of_three 91351) y (1 ∷ 0 ∷ []) near);
}

pub path_is_met : PathIsMet
path_is_met = record {
  rules = too_fast_is;
  ports = ports;
  first = refl;
  lowest = sym (path_finds_first (overload with_too_fast) with_too_fast too_fast.ports ports);
}
  where
    ports : All (λ port. port < length with_too_fast.topology.ports) too_fast.ports
    ports = all_by (λ (port : ℕ). port < length with_too_fast.topology.ports)
        (λ (port : ℕ). nat_lt port (length with_too_fast.topology.ports))
        (λ port. lt_of port (length with_too_fast.topology.ports)) too_fast.ports refl

pub admission_is_met : AdmissionIsMet
admission_is_met = record { less = less_is_met; late = late_is_met; path = path_is_met }
