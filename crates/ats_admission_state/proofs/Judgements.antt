-- What is found along the last stream's path, and among the streams near it, as a judgement of the network.
use Rattle.std.proofs.Common.{◌≡◌, ℕ, ◌+◌, length, Option, Some, None, Result, Err, sym, ap, ◌∙◌, arith}
use Rattle.std.specs.Option.{option_or}
use Rattle.ats_num.specs.Failure.{unless}
use Rattle.ats_streams.specs.Stream.{DeclaredStream}
use Rattle.ats_network.specs.Network.{DeclaredNetwork, IsNetwork}
use Rattle.ats_tally.specs.declared.reason.Reason.{Reason}
use Rattle.ats_bound.specs.Reason.{overload, reason_of}
use Rattle.ats_admission_law.specs.Lowest.{lowest_found}
use Rattle.ats_admission_law.specs.Near.{found_there, late_near, overstay_at}
use Rattle.ats_admission_law.proofs.Along.{reason_is_judged}
use Rattle.ats_admission_shares.specs.PortShares.{stream_at, without_at}
use Rattle.ats_admission_state.specs.Judged.{judged, sum_at}
use Rattle.ats_admission_state.specs.Judging.{found_on}
use Rattle.ats_admission_state.proofs.Found.{or_assoc}
use Rattle.ats_admission_state.proofs.Last.{less_by}

module _ (network : DeclaredNetwork) (n : ℕ) (last : n + 1 ≡ length network.streams) (rules : IsNetwork network)
    (free : reason_of (without_at network n) ≡ None) where
  abbrev x : DeclaredStream
  x = stream_at network n

  reason_is : reason_of network ≡ option_or (found_on network x.ports) (late_near network x)
  reason_is =
      let loads : Option Reason = found_there (lowest_found (overload network) network x.ports) in
      let stays : Option Reason = found_there (lowest_found (overstay_at network) network x.ports) in
      reason_is_judged network (without_at network n) x (less_by network n (omega (arith, last))) rules free
      ∙ sym (or_assoc loads stays (late_near network x))

  abbrev by_reason : Option Reason → Result ℕ Reason
  by_reason o = unless (λ (reason : Reason). reason) o (sum_at network n)

  pub found_err : (reason : Reason) → Some reason ≡ found_on network x.ports → Err reason ≡ judged network n
  found_err reason found =
      ap (λ (o : Option Reason). by_reason (option_or o (late_near network x))) found ∙ sym (ap by_reason reason_is)

  -- where nothing is found along the path, the sums are left to judge
  pub sums_left : None ≡ found_on network x.ports
      → unless (λ (reason : Reason). reason) (late_near network x) (sum_at network n) ≡ judged network n
  sums_left none =
      ap (λ (o : Option Reason). by_reason (option_or o (late_near network x))) none ∙ sym (ap by_reason reason_is)
