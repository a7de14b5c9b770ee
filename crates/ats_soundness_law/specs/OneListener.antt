use Rattle.std.specs.Prelude.{◌≡◌, ◌↔◌, List, []}
use Rattle.ats_network.specs.Sender.{Sender}
use Rattle.ats_certificate.specs.declared.row.Row.{Row}
use Rattle.ats_trace.specs.Journey.{Leg, Travel}
use Rattle.ats_soundness_law.specs.Sound.{IsContained, IsContainedOn, IsServed, IsServedOn}

-- what happened along the trunk
abbrev pub trunk_leg : Travel → Leg
trunk_leg journey = record { hops = journey.hops; ending = journey.ending }

-- what the definitions say of a frame whose sender has one listener: it is served, and contained, on its way along the
-- sender's ports
pub record IsServedAlone (rows : List Row) (sender : Sender) (journey : Travel) : Type 0 where
  pub served : IsServed rows sender journey
      ↔ IsServedOn rows sender journey.release sender.ports (trunk_leg journey)
  pub contained : IsContained rows sender journey ↔ IsContainedOn rows sender sender.ports (trunk_leg journey)

abbrev pub OneListenerIsServedAlone : Type 0
OneListenerIsServedAlone = (rows : List Row) (sender : Sender) (journey : Travel) → sender.branches ≡ []
    → IsServedAlone rows sender journey
