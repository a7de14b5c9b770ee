-- The network after an answer.
use Rattle.std.proofs.Common.{◌≡◌, ℕ, cond, Option, Some, None, Result, Ok, Err, refl, ap}
use Rattle.std.specs.Prelude.{is_some}
use Rattle.ats_num.specs.Failure.{unless}
use Rattle.ats_streams.specs.Stream.{DeclaredStream, with_class}
use Rattle.ats_network.specs.Network.{DeclaredNetwork}
use Rattle.ats_network.specs.Pushes.{with_stream}
use Rattle.ats_requests.specs.Admission.{added_given, admit, admit_fault, admit_lowest, after_admit, after_lowest}
use Rattle.ats_requests.specs.Admission.{lowest_class, sum_given, sum_with}
use Rattle.ats_requests.specs.declared.denied.Denied.{Denied}

-- a stream that is admitted is the last
pub after_ok : (network : DeclaredNetwork) (stream : DeclaredStream) (sum : ℕ) → admit network stream ≡ Ok sum
    → after_admit network stream ≡ with_stream network stream
after_ok network stream sum h = by (admit_fault network stream) h
  where
    by : (o : Option Denied) → unless (λ denied. denied) o (sum_with network stream) ≡ Ok sum
        → cond (is_some o) network (with_stream network stream) ≡ with_stream network stream
    by None h = refl
    by (Some denied) h = absurd (let no : Err denied ≡ Ok sum = h in cc)

-- where it is refused, nothing changes
pub after_err : (network : DeclaredNetwork) (stream : DeclaredStream) (denied : Denied)
    → admit network stream ≡ Err denied → after_admit network stream ≡ network
after_err network stream denied h = by (admit_fault network stream) h
  where
    by : (o : Option Denied) → unless (λ denied. denied) o (sum_with network stream) ≡ Err denied
        → cond (is_some o) network (with_stream network stream) ≡ network
    by None h = absurd (let no : Ok (sum_with network stream) ≡ Err denied = h in cc)
    by (Some other) h = refl

-- the same with the lowest class
pub lowest_ok : (network : DeclaredNetwork) (stream : DeclaredStream) (class sum : ℕ)
    → admit_lowest network stream ≡ Ok (class, sum)
    → after_lowest network stream ≡ with_stream network (with_class stream class)
lowest_ok network stream class sum h = by (lowest_class network stream) h
  where
    by : (r : Result ℕ Denied) → sum_given network stream r ≡ Ok (class, sum)
        → added_given network stream r ≡ with_stream network (with_class stream class)
    by (Ok given) h =
        let pair : (given, sum_with network (with_class stream given)) ≡ (class, sum) = cc h in
        ap (λ (p : ℕ × ℕ). with_stream network (with_class stream p.0)) pair
    by (Err denied) h = absurd (let no : Err denied ≡ Ok (class, sum) = h in cc)

pub lowest_err : (network : DeclaredNetwork) (stream : DeclaredStream) (denied : Denied)
    → admit_lowest network stream ≡ Err denied → after_lowest network stream ≡ network
lowest_err network stream denied h = by (lowest_class network stream) h
  where
    by : (r : Result ℕ Denied) → sum_given network stream r ≡ Err denied → added_given network stream r ≡ network
    by (Ok given) h =
        absurd (let no : Ok (given, sum_with network (with_class stream given)) ≡ Err denied = h in cc)
    by (Err other) h = refl
