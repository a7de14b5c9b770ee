use Rattle.std.specs.Prelude.{◌≡◌, ◌↔◌, List, AllPairs, Some, None}
use Rattle.ats_network.specs.Network.{DeclaredNetwork, IsNetwork}
use Rattle.ats_certificate.specs.Certificate.{Holds, IsBefore}
use Rattle.ats_certificate.specs.declared.row.Row.{Row}
use Rattle.ats_bound.specs.Least.{least_certificate}
use Rattle.ats_bound.specs.Reason.{reason_of}
use Rattle.ats_checker.specs.Refusal.{refusal_of}
use Rattle.ats_checker.specs.First.{IsFirst}
use Rattle.ats_checker.specs.declared.refusal.Refusal.{Refusal}

-- rows in order are refused exactly where they do not hold
abbrev pub RefusedUnlessHolding : Type 0
RefusedUnlessHolding =
    (network : DeclaredNetwork) (rows : List Row) → IsNetwork network → AllPairs IsBefore rows
    → refusal_of network rows ≡ None ↔ Holds network rows

-- a refusal of rows in order is given exactly where it is the first: so there is no more than one that is
abbrev pub EachRefusalIsTheFirst : Type 0
EachRefusalIsTheFirst =
    (network : DeclaredNetwork) (rows : List Row) (refusal : Refusal) → IsNetwork network → AllPairs IsBefore rows
    → refusal_of network rows ≡ Some refusal ↔ IsFirst network rows refusal

-- where a network has no reason against it, its least certificate is not refused
abbrev pub LeastIsAccepted : Type 0
LeastIsAccepted =
    (network : DeclaredNetwork) → IsNetwork network → reason_of network ≡ None
    → refusal_of network (least_certificate network) ≡ None
