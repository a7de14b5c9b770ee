-- What a judgement tells.
use Rattle.std.proofs.Common.{◌≡◌, ℕ, Option, Some, None, Ok, Err, refl, ap}
use Rattle.ats_num.specs.Failure.{unless}
use Rattle.ats_network.specs.Network.{DeclaredNetwork}
use Rattle.ats_tally.specs.declared.reason.Reason.{Reason}
use Rattle.ats_bound.specs.Reason.{reason_of}
use Rattle.ats_admission_state.specs.Judged.{judged, sum_at}

-- a sum is given where there is no reason, and it is the stream's
pub record IsFree (network : DeclaredNetwork) (n sum : ℕ) : Type 0 where
  pub free : reason_of network ≡ None
  pub sum_is : sum ≡ sum_at network n

pub judged_ok : (network : DeclaredNetwork) (n sum : ℕ) → judged network n ≡ Ok sum → IsFree network n sum
judged_ok network n sum h = by (reason_of network) refl h
  where
    by : (o : Option Reason) → reason_of network ≡ o → unless (λ reason. reason) o (sum_at network n) ≡ Ok sum
        → IsFree network n sum
    by None e h = record { free = e; sum_is = cc h }
    by (Some reason) e h = absurd (let no : Err reason ≡ Ok sum = h in cc)

-- a reason is the one against the network
pub judged_err : (network : DeclaredNetwork) (n : ℕ) (reason : Reason) → judged network n ≡ Err reason
    → reason_of network ≡ Some reason
judged_err network n reason h = by (reason_of network) refl h
  where
    by : (o : Option Reason) → reason_of network ≡ o → unless (λ reason. reason) o (sum_at network n) ≡ Err reason
        → o ≡ Some reason
    by None e h = absurd (let no : Ok (sum_at network n) ≡ Err reason = h in cc)
    by (Some other) e h = let same : other ≡ reason = cc h in ap (λ (r : Reason). Some r) same
