use Rattle.std.specs.Prelude.{ℕ, ◌+◌, List, [], ◌∷◌}
use Rattle.ats_num.specs.Pace.{drawn_wait}
use Rattle.ats_num.specs.Tie.{late_key, mixed_key}
use Rattle.ats_trace.specs.Journey.{Travel}
use Rattle.ats_trace.specs.Parts.{links}
use Rattle.ats_trace.specs.Run.{IsRunBy}
use Rattle.ats_examples.specs.Deviations.{BreaksAlone}
use Rattle.ats_examples.specs.LegalRuns.{frame_key, greatest_wait, least_wait}
use Rattle.ats_examples.specs.Runs.{hop, sunk}
use Rattle.ats_crossing_examples.specs.Networks.{NetworksAreRight, crossed, paced}

-- Frames that end at a bridge with a processing interval, and frames of a bridge that come to one.

-- a frame of 64 octets of this sender, which ends at the bridge at this time: it may from 1372000 to 2172000
abbrev pub ended_at : ℕ → ℕ → List Travel
ended_at sender at = sunk 0 sender 64 (hop 0 0 0 672000 ∷ []) at ∷ []

-- it arrives by the pace, and not a picosecond earlier or later. Refuses a pace of frames alone that go on
pub record EndsHavePaces : Type 0 where
  pub least : IsRunBy frame_key least_wait paced (ended_at 1 1372000)
  pub greatest : IsRunBy late_key greatest_wait paced (ended_at 1 2172000)
  pub drawn : IsRunBy (mixed_key 7) (drawn_wait 7) paced (ended_at 1 1372007)
  pub flow_least : IsRunBy frame_key least_wait paced (ended_at 2 1372000)
  pub flow_greatest : IsRunBy late_key greatest_wait paced (ended_at 2 2172000)
  pub not_least : ¬ IsRunBy frame_key least_wait paced (ended_at 1 1372001)
  pub not_greatest : ¬ IsRunBy late_key greatest_wait paced (ended_at 1 2171999)
  pub not_drawn : ¬ IsRunBy (mixed_key 7) (drawn_wait 7) paced (ended_at 1 1372008)
  pub early : BreaksAlone links paced (ended_at 1 1371999)
  pub late : BreaksAlone links paced (ended_at 1 2172001)

-- a frame ends at the bridge as late as it may, and behind it one that goes on comes there at this time; it could from
-- 2044000 on
abbrev pub behind_ending : ℕ → List Travel
behind_ending at =
    sunk 0 1 64 (hop 0 0 0 672000 ∷ []) 2172000
    ∷ sunk 1 0 64 (hop 1 1 672000 1344000 ∷ hop at at at (at + 672000) ∷ []) (at + 1172000)
    ∷ []

-- and the same where the first goes on, and the second ends there
abbrev pub ending_behind : ℕ → List Travel
ending_behind at =
    sunk 0 0 64 (hop 0 0 0 672000 ∷ hop 2172000 2172000 2172000 2844000 ∷ []) 3344000
    ∷ sunk 1 1 64 (hop 1 1 672000 1344000 ∷ []) at
    ∷ []

-- and where both end there
abbrev pub both_ending : ℕ → List Travel
both_ending at = sunk 0 1 64 (hop 0 0 0 672000 ∷ []) 2172000 ∷ sunk 0 1 64 (hop 0 0 672000 1344000 ∷ []) at ∷ []

-- by the pace the second arrives a picosecond behind the first; in no run does it arrive with it or before it. Refuses
-- an order of frames alone that go on
pub record EndsKeepOrder : Type 0 where
  pub behind : IsRunBy (mixed_key 800000) (drawn_wait 800000) paced (behind_ending 2172001)
  pub not_behind : ¬ IsRunBy (mixed_key 800000) (drawn_wait 800000) paced (behind_ending 2172002)
  pub together : BreaksAlone links paced (behind_ending 2172000)
  pub overtaken : BreaksAlone links paced (behind_ending 2044000)
  pub ends_behind : IsRunBy (mixed_key 800000) (drawn_wait 800000) paced (ending_behind 2172001)
  pub not_ends_behind : ¬ IsRunBy (mixed_key 800000) (drawn_wait 800000) paced (ending_behind 2172002)
  pub ends_together : BreaksAlone links paced (ending_behind 2172000)
  pub overtakes : BreaksAlone links paced (ending_behind 2044000)
  pub both : IsRunBy (mixed_key 800000) (drawn_wait 800000) paced (both_ending 2172001)
  pub both_together : BreaksAlone links paced (both_ending 2172000)

-- a frame of 64 octets of this sender that the first bridge sends, and that comes to the second at this time
abbrev pub own_crossing : ℕ → ℕ → List Travel
own_crossing sender at =
    sunk 0 sender 64 (hop 0 0 0 672000 ∷ hop at at at (at + 672000) ∷ []) (at + 1172000) ∷ []

-- it arrives by the pace too. Refuses a pace of frames alone that come from stations
pub record OwnHavePaces : Type 0 where
  pub least : IsRunBy frame_key least_wait crossed (own_crossing 1 1372000)
  pub greatest : IsRunBy late_key greatest_wait crossed (own_crossing 1 2172000)
  pub drawn : IsRunBy (mixed_key 7) (drawn_wait 7) crossed (own_crossing 1 1372007)
  pub flow_least : IsRunBy frame_key least_wait crossed (own_crossing 3 1372000)
  pub flow_greatest : IsRunBy late_key greatest_wait crossed (own_crossing 3 2172000)
  pub not_least : ¬ IsRunBy frame_key least_wait crossed (own_crossing 1 1372001)
  pub not_greatest : ¬ IsRunBy late_key greatest_wait crossed (own_crossing 1 2171999)
  pub not_drawn : ¬ IsRunBy (mixed_key 7) (drawn_wait 7) crossed (own_crossing 1 1372008)
  pub early : BreaksAlone links crossed (own_crossing 1 1371999)
  pub late : BreaksAlone links crossed (own_crossing 1 2172001)

pub record EndsKeepPaces : Type 0 where
  pub networks : NetworksAreRight
  pub paces : EndsHavePaces
  pub order : EndsKeepOrder
  pub own : OwnHavePaces
