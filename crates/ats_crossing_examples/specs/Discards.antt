use Rattle.std.specs.Prelude.{ℕ, ◌+◌, List, [], ◌∷◌, ◌++◌, None}
use Rattle.ats_num.specs.Pace.{drawn_wait}
use Rattle.ats_num.specs.Tie.{late_key, mixed_key}
use Rattle.ats_group.specs.declared.verdict.Verdict.TheVariants.{Late}
use Rattle.ats_trace.specs.HopRecord.{HopRecord}
use Rattle.ats_trace.specs.Journey.{Travel}
use Rattle.ats_trace.specs.Parts.{links}
use Rattle.ats_trace.specs.Run.{IsRunBy}
use Rattle.ats_trace.specs.declared.journey.Ending.TheVariants.{Discard}
use Rattle.ats_examples.specs.BrokenRuns.{too_long}
use Rattle.ats_examples.specs.Deviations.{BreaksAlone}
use Rattle.ats_examples.specs.LegalRuns.{frame_key, greatest_wait, least_wait}
use Rattle.ats_examples.specs.Runs.{hop, sunk}
use Rattle.ats_crossing_examples.specs.Networks.{paced}

-- Frames that a bridge with a processing interval discards.

-- a frame of this sender and so many octets that is released at 0 and discarded, with these records
abbrev pub discarded : ℕ → ℕ → List HopRecord → Travel
discarded sender octets hops = record {
  release = record { at = record { 0 = 0 }; sender = sender; octets = octets };
  hops = hops;
  ending = Discard;
  copies = [];
}

-- a frame that is longer than its stream declares comes to the bridge at this time: it may from 13044000 to 13844000
abbrev pub long_at : ℕ → List Travel
long_at at = discarded 0 1523 (hop 0 0 0 12344000 ∷ too_long at ∷ []) ∷ []

-- it comes by the pace, and not a picosecond earlier or later. Refuses a pace of frames alone that the next bridge lets
-- through
pub record LongHavePaces : Type 0 where
  pub least : IsRunBy frame_key least_wait paced (long_at 13044000)
  pub greatest : IsRunBy late_key greatest_wait paced (long_at 13844000)
  pub drawn : IsRunBy (mixed_key 7) (drawn_wait 7) paced (long_at 13044007)
  pub not_least : ¬ IsRunBy frame_key least_wait paced (long_at 13044001)
  pub not_greatest : ¬ IsRunBy late_key greatest_wait paced (long_at 13843999)
  pub not_drawn : ¬ IsRunBy (mixed_key 7) (drawn_wait 7) paced (long_at 13044008)
  pub early : BreaksAlone links paced (long_at 13043999)
  pub late : BreaksAlone links paced (long_at 13844001)

-- it comes as late as it may, and behind it a small one at this time; that could from 13716000 on
abbrev pub behind_long : ℕ → List Travel
behind_long at = long_at 13844000
    ++ sunk 0 0 64 (hop 0 0 12344000 13016000 ∷ hop at at at (at + 672000) ∷ []) (at + 1172000) ∷ []

-- which is kept behind it all the same. Refuses an order of frames alone that the next bridge lets through
pub record LongKeepOrder : Type 0 where
  pub behind : IsRunBy (mixed_key 800000) (drawn_wait 800000) paced (behind_long 13844001)
  pub not_behind : ¬ IsRunBy (mixed_key 800000) (drawn_wait 800000) paced (behind_long 13844002)
  pub together : BreaksAlone links paced (behind_long 13844000)
  pub overtaken : BreaksAlone links paced (behind_long 13716000)

-- the record of a frame that comes at this time, and would be eligible too late, at that
abbrev pub late_for : ℕ → ℕ → HopRecord
late_for at eligible =
    record { arrival = record { 0 = at }; verdict = Late (record { 0 = eligible }); sent = None }

-- two frames, each as large as the burst. They come to the bridge at these times: the first may from 13036000 to
-- 13836000, and the second from 25372000 to 26172000. That one is late: it would be eligible at this time
abbrev pub late_at : ℕ → ℕ → ℕ → List Travel
late_at first second eligible =
    sunk 0 0 1522 (hop 0 0 0 12336000 ∷ hop first first first (first + 12336000) ∷ []) (first + 12836000)
    ∷ discarded 0 1522 (hop 0 0 12336000 24672000 ∷ late_for second eligible ∷ [])
    ∷ []

-- the late one comes by the pace too
pub record LateHavePaces : Type 0 where
  pub least : IsRunBy frame_key least_wait paced (late_at 13036000 25372000 136396000)
  pub greatest : IsRunBy late_key greatest_wait paced (late_at 13836000 26172000 137196000)
  pub not_least : ¬ IsRunBy frame_key least_wait paced (late_at 13036000 25372001 136396000)
  pub not_greatest : ¬ IsRunBy late_key greatest_wait paced (late_at 13836000 26171999 137196000)
  pub early : BreaksAlone links paced (late_at 13836000 25371999 137196000)
  pub late : BreaksAlone links paced (late_at 13036000 26172001 136396000)

-- the late one comes as late as it may. At this time comes a small one that was sent behind it, and could come from
-- 26044000 on
abbrev pub behind_late : ℕ → ℕ → List Travel
behind_late at eligible = late_at 13036000 26172000 eligible
    ++ sunk 0 0 64 (hop 0 0 24672000 25344000 ∷ hop at at at (at + 672000) ∷ []) (at + 1172000) ∷ []

-- which is kept behind it. If it came first, it would take of their bucket, and the late one would be later still
pub record LateKeepOrder : Type 0 where
  pub behind : IsRunBy (mixed_key 800001) (drawn_wait 800001) paced (behind_late 26172001 136396000)
  pub not_behind : ¬ IsRunBy (mixed_key 800001) (drawn_wait 800001) paced (behind_late 26172002 136396000)
  pub together : BreaksAlone links paced (behind_late 26172000 136396000)
  pub overtaken : BreaksAlone links paced (behind_late 26044002 143116000)

pub record DiscardedKeepPaces : Type 0 where
  pub long : LongHavePaces
  pub behind_long : LongKeepOrder
  pub late : LateHavePaces
  pub behind_late : LateKeepOrder
