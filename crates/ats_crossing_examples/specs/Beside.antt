use Rattle.std.specs.Prelude.{ℕ, ◌+◌, List, [], ◌∷◌}
use Rattle.ats_num.specs.Pace.{drawn_wait}
use Rattle.ats_num.specs.Tie.{late_key, mixed_key}
use Rattle.ats_trace.specs.Journey.{Travel}
use Rattle.ats_trace.specs.Parts.{groups}
use Rattle.ats_trace.specs.Run.{IsRunBy}
use Rattle.ats_examples.specs.Deviations.{BreaksAlone}
use Rattle.ats_examples.specs.LegalRuns.{frame_key, greatest_wait, least_wait}
use Rattle.ats_examples.specs.Runs.{hop, sunk}
use Rattle.ats_crossing_examples.specs.Networks.{crossed}

-- Frames that the first bridge sends itself, beside those of the same class that pass through it.

-- the bridge sends two frames at once. The second bridge holds the second of them until its bucket has room; behind it
-- comes a frame from s1, which is eligible there at this time and sent from that on
abbrev pub behind_own : ℕ → ℕ → List Travel
behind_own eligible start =
    sunk 0 1 64 (hop 0 0 0 672000 ∷ hop 2172000 2172000 2172000 2844000 ∷ []) 3344000
    ∷ sunk 0 1 64 (hop 0 0 672000 1344000 ∷ hop 2844000 69372000 69372000 70044000 ∷ []) 70544000
    ∷ sunk 0 0 64
    (hop 0 0 0 672000 ∷ hop 2172000 2172000 2172000 2844000 ∷ hop 4344000 eligible start (start + 672000) ∷ [])
    (start + 1172000)
    ∷ []

-- two frames from s1, each as large as the burst. The first comes to the second bridge as late as it may, and the other
-- as early as it may, where it is held for 800000 ps and sent from that time on; behind it comes a frame of the first
-- bridge, which is eligible there at this time and sent from that on
abbrev pub own_behind : ℕ → ℕ → ℕ → List Travel
own_behind held eligible start =
    sunk 0 0 1522
    (hop 0 0 0 12336000 ∷ hop 13836000 13836000 13836000 26172000 ∷ hop 27672000 27672000 27672000 40008000 ∷ [])
    40508000
    ∷ sunk 0 0 1522
    (hop 0 0 12336000 24672000 ∷ hop 26172000 137196000 137196000 149532000
    ∷ hop 150232000 151032000 held (held + 12336000)
    ∷ []) (held + 12836000)
    ∷ sunk 149532000 1 64
    (hop 149532000 149532000 149532000 150204000 ∷ hop 150904001 eligible start (start + 672000) ∷ [])
    (start + 1172000)
    ∷ []

-- behind the port they are in one group: a frame from s1 waits for one of the bridge, and one of the bridge for one
-- from s1. Refuses a group of a bridge's own frames
pub record OneGroupHasBoth : Type 0 where
  pub held : IsRunBy late_key greatest_wait crossed (behind_own 69372000 70044000)
  pub at_arrival : BreaksAlone groups crossed (behind_own 4344000 4344000)
  pub own_held : IsRunBy (mixed_key 800000) (drawn_wait 800000) crossed (own_behind 151032000 151032000 163368000)
  pub own_at_arrival : BreaksAlone groups crossed (own_behind 151576001 150904001 150904001)

-- a frame from s1 comes to the first bridge when this releases one of its own, and goes first; both come to the second
-- bridge so long after they were sent
abbrev pub passing_first : ℕ → List Travel
passing_first after =
    sunk 0 0 64
    (hop 0 0 0 672000 ∷ hop 2172000 2172000 2172000 2844000
    ∷ hop (2844000 + after) (2844000 + after) (2844000 + after) (3516000 + after)
    ∷ []) (4016000 + after)
    ∷ sunk 2172000 1 64
    (hop 2172000 2172000 2844000 3516000
    ∷ hop (3516000 + after) (3516000 + after) (3516000 + after) (4188000 + after)
    ∷ []) (4688000 + after)
    ∷ []

-- and the same where the bridge's own goes first
abbrev pub own_first : ℕ → List Travel
own_first after =
    sunk 0 0 64
    (hop 0 0 0 672000 ∷ hop 2172000 2172000 2844000 3516000
    ∷ hop (3516000 + after) (3516000 + after) (3516000 + after) (4188000 + after)
    ∷ []) (4688000 + after)
    ∷ sunk 2172000 1 64
    (hop 2172000 2172000 2172000 2844000
    ∷ hop (2844000 + after) (2844000 + after) (2844000 + after) (3516000 + after)
    ∷ []) (4016000 + after)
    ∷ []

-- which of them goes first the key says. Refuses ties in which own frames go first, or last, whatever their keys
pub record TiesGoByKeys : Type 0 where
  pub by_frame : IsRunBy frame_key least_wait crossed (passing_first 700000)
  pub not_own : ¬ IsRunBy frame_key least_wait crossed (own_first 700000)
  pub by_sender : IsRunBy late_key greatest_wait crossed (own_first 1500000)
  pub not_passing : ¬ IsRunBy late_key greatest_wait crossed (passing_first 1500000)

pub record OwnFramesAreAmongOthers : Type 0 where
  pub groups : OneGroupHasBoth
  pub ties : TiesGoByKeys
