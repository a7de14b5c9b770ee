-- A frame whose sender has one listener goes along the ports of the sender.
use Rattle.std.proofs.Common.{◌≡◌, ℕ, zero, suc, ◌<◌, List, [], ◌∷◌, arith}
use Rattle.ats_streams.specs.declared.branch.Branch.{Branch}
use Rattle.ats_network.specs.Sender.{Sender}
use Rattle.ats_trace.specs.Journey.{Leg, Travel}
use Rattle.ats_trace.specs.Ways.{listener_count, route_to, way_to}
use Rattle.ats_soundness_law.specs.OneListener.{IsServedAlone, OneListenerIsServedAlone, trunk_leg}
use Rattle.ats_soundness_law.specs.Sound.{IsContainedOn, IsServedOn}

-- the sender with no branches
abbrev alone : Sender → Sender
alone s = record s { branches = [] }

-- what holds of the one route holds of each
one_route : (P : List ℕ → Leg → Type 0) (s : Sender) (j : Travel) → P s.ports (trunk_leg j)
    → (m : ℕ) → m < listener_count (alone s) → P (route_to (alone s) m) (way_to (alone s) j m)
one_route P s j one zero below = one
one_route P s j one (suc m) below = absurd (omega arith)

pub one_listener_is_served_alone : OneListenerIsServedAlone
one_listener_is_served_alone rows s j none = by s.branches none
  where
    by : (branches : List Branch) → branches ≡ [] → IsServedAlone rows (record s { branches = branches }) j
    by [] none = record {
      served = (λ each. each 0 (omega arith), one_route (IsServedOn rows (alone s) j.release) s j);
      contained = (λ each. each 0 (omega arith), one_route (IsContainedOn rows (alone s)) s j);
    }
    by (b ∷ branches) none = cc (none)
