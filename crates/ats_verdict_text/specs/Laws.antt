use Rattle.std.specs.Prelude.{◌≡◌, Some}
use Rattle.ats_network.specs.Network.{DeclaredNetwork, IsNetwork}
use Rattle.ats_tally.specs.Reason.{ReasonInside}
use Rattle.ats_tally.specs.declared.reason.Reason.{Reason}
use Rattle.ats_bound.specs.Reason.{reason_of}

-- a network's reason names a port that is there
abbrev pub EachReasonIsInside : Type 0
EachReasonIsInside =
    (network : DeclaredNetwork) (reason : Reason) → IsNetwork network → reason_of network ≡ Some reason
    → ReasonInside network.topology reason
