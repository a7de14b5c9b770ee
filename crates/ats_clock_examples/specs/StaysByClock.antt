use Rattle.std.specs.Prelude.{ℕ, ◌+◌, ◌*◌, List, [], ◌∷◌}
use Rattle.ats_num.specs.Wire.{bits_of}
use Rattle.ats_clock_law.specs.Examples.{fast, ticking}
use Rattle.ats_network.specs.Network.{IsNetwork}
use Rattle.ats_trace.specs.Journey.{Travel}
use Rattle.ats_examples.specs.ClockedRuns.{slow}
use Rattle.ats_examples.specs.Runs.{hop, sunk}
use Rattle.ats_tree_examples.specs.Runs.{late_by, stopped}
use Rattle.ats_clock_examples.specs.Clocked.{IsLegalWith, true_time}
use Rattle.ats_clock_examples.specs.Needs.{staying}

-- Frames that stay in a bridge as long as they may by its clock, and not as long in true time.

-- of the nodes of the line the bridge, the third one, goes by this clock
abbrev pub bridge_shows : (ℕ → ℕ) → List (ℕ → ℕ)
bridge_shows shows = true_time ∷ true_time ∷ shows ∷ []

-- a frame that is as long as the burst
abbrev pub whole_burst : Travel
whole_burst = sunk 0 0 1522 (hop 0 0 0 12336000 ∷ hop 13836000 13836000 13836000 26172000 ∷ []) 26672000

-- how long a frame with so many octets is sent
abbrev pub sending : ℕ → ℕ
sending octets = 1000 * bits_of octets

-- behind it one with so many octets, which the bridge holds until this time
abbrev pub let_go : ℕ → ℕ → List Travel
let_go octets eligible =
    whole_burst
    ∷ sunk 6720000 0 octets
    (hop 6720000 6720000 12336000 (12336000 + sending octets)
    ∷ hop (13836000 + sending octets) eligible 26172000 (26172000 + sending octets)
    ∷ [])
    (26672000 + sending octets)
    ∷ []

-- or which it discards, since it would hold it until then
abbrev pub discarded : ℕ → ℕ → List Travel
discarded octets eligible =
    whole_burst
    ∷ stopped 6720000 0 octets
    (hop 6720000 6720000 12336000 (12336000 + sending octets) ∷ late_by (13836000 + sending octets) eligible ∷ [])
    ∷ []

-- by the clock that ticks a frame of 64 octets comes at 14504000 and may go at 20542000, which is 6038000 ps later. It
-- comes at 14508000 in true time and may go at 20544000, which is 2000 ps less. So it may go where the residence is
-- 6038 ns, and is late where that is 6037 ns
pub record TickingStays : Type 0 where
  pub network : IsNetwork (staying 6038 0 8000)
  pub shown : IsLegalWith (bridge_shows ticking) (staying 6038 0 8000) (let_go 64 20544000)
  pub shorter : IsNetwork (staying 6037 0 8000)
  pub late : IsLegalWith (bridge_shows ticking) (staying 6037 0 8000) (discarded 64 20544000)
  pub not_let_go : ¬ IsLegalWith (bridge_shows ticking) (staying 6037 0 8000) (let_go 64 20544000)

-- by the slow clock a frame of 119 octets comes at 14946505 and may go at 24943505, which is 9997000 ps later. It comes
-- at 14948000 in true time and may go at 24946000, which is 1000 ps more. So it may go where the residence is 9997 ns
pub record SlowStays : Type 0 where
  pub network : IsNetwork (staying 9997 100 1)
  pub shown : IsLegalWith (bridge_shows slow) (staying 9997 100 1) (let_go 119 24946000)
  pub not_late : ¬ IsLegalWith (bridge_shows slow) (staying 9997 100 1) (discarded 119 24946000)
  pub shorter : IsNetwork (staying 9996 100 1)
  pub late : IsLegalWith (bridge_shows slow) (staying 9996 100 1) (discarded 119 24946000)

-- by the fast clock a frame of 64 octets comes at 14509450 and may go at 20546712, which is 6037262 ps later. It comes
-- at 14508000 in true time and may go at 20544658, which is 604 ps less. So it is late where the residence is 6037 ns
pub record FastStays : Type 0 where
  pub network : IsNetwork (staying 6038 100 1)
  pub shown : IsLegalWith (bridge_shows fast) (staying 6038 100 1) (let_go 64 20544658)
  pub shorter : IsNetwork (staying 6037 100 1)
  pub late : IsLegalWith (bridge_shows fast) (staying 6037 100 1) (discarded 64 20544658)
  pub not_let_go : ¬ IsLegalWith (bridge_shows fast) (staying 6037 100 1) (let_go 64 20544658)

-- each of these
pub record StaysAreByClock : Type 0 where
  pub ticking : TickingStays
  pub slow : SlowStays
  pub fast : FastStays
