use Rattle.std.specs.Prelude.{◌↔◌, ℕ, ◌+◌, ◌≤◌, List, [], ◌∷◌, Option, sum_by}
use Rattle.ats_num.specs.declared.time.Ps.{Ps}
use Rattle.ats_network.specs.Sender.{Sender}
use Rattle.ats_network.specs.Senders.{sender_at}
use Rattle.ats_certificate.specs.Certificate.{bound_of_hop}
use Rattle.ats_certificate.specs.declared.row.Row.{Row}
use Rattle.ats_group.specs.declared.verdict.Verdict.{Verdict}
use Rattle.ats_group.specs.declared.verdict.Verdict.TheVariants.{Eligible, Late, Size}
use Rattle.ats_trace.specs.HopRecord.{HopRecord}
use Rattle.ats_trace.specs.Journey.{Leg, Travel}
use Rattle.ats_trace.specs.declared.journey.Ending.{Ending}
use Rattle.ats_trace.specs.declared.journey.Ending.TheVariants.{Sink, Discard}
use Rattle.ats_trace.specs.declared.journey.Release.{Release}
use Rattle.ats_soundness_law.specs.Sound.{ArrivesBy, IsContained, IsContainedOn, IsPrompt, IsServed, IsServedOn}
use Rattle.ats_examples.specs.Networks.{over_two_ranged}
use Rattle.ats_examples.specs.Rows.{two_rows}
use Rattle.ats_examples.specs.Runs.{hop, sunk}

-- How soon a frame comes to each port on its way, and to its listener: by the bound of the port before since it was
-- eligible there, wherever that is.

-- the record of a frame with this verdict
abbrev pub record_with : Ps → Verdict → Option (Ps × Ps) → HopRecord
record_with arrival verdict sent = record { arrival = arrival; verdict = verdict; sent = sent }

-- what prompt is, both ways, by any bounds: behind the last port a frame arrives by the limit; before it, at each port,
-- the last as well, it is eligible by the limit, and the next one goes on from its own time and this port's bound. One
-- that is discarded is not prompt, nor one with a record more or less
pub record PromptIsMeant : Type 0 where
  pub listener : (bound : ℕ → ℕ) (limit : ℕ) (at : Ps) → IsPrompt bound limit [] [] (Sink at) ↔ (at.0 ≤ limit)
  pub port : (bound : ℕ → ℕ) (limit p : ℕ) (path : List ℕ) (arrival e : Ps) (sent : Option (Ps × Ps))
      (hops : List HopRecord) (ending : Ending)
      → IsPrompt bound limit (p ∷ path) (record_with arrival (Eligible e) sent ∷ hops) ending
      ↔ ((e.0 ≤ limit) × IsPrompt bound (e.0 + bound p) path hops ending)
  pub discarded : (bound : ℕ → ℕ) (limit : ℕ) → ¬ IsPrompt bound limit [] [] Discard
  pub late : (bound : ℕ → ℕ) (limit p : ℕ) (path : List ℕ) (arrival e : Ps) (sent : Option (Ps × Ps))
      (hops : List HopRecord) (ending : Ending)
      → ¬ IsPrompt bound limit (p ∷ path) (record_with arrival (Late e) sent ∷ hops) ending
  pub size : (bound : ℕ → ℕ) (limit p : ℕ) (path : List ℕ) (arrival : Ps) (sent : Option (Ps × Ps))
      (hops : List HopRecord) (ending : Ending)
      → ¬ IsPrompt bound limit (p ∷ path) (record_with arrival Size sent ∷ hops) ending
  pub more : (bound : ℕ → ℕ) (limit : ℕ) (hop : HopRecord) (hops : List HopRecord) (ending : Ending)
      → ¬ IsPrompt bound limit [] (hop ∷ hops) ending
  pub less : (bound : ℕ → ℕ) (limit p : ℕ) (path : List ℕ) (ending : Ending)
      → ¬ IsPrompt bound limit (p ∷ path) [] ending

-- what served and contained are, by any rows: prompt since the release, and within the sum; and prompt since the frame
-- was eligible at the first port behind that of its station, if it was
pub record ServedIsMeant : Type 0 where
  pub served : (rows : List Row) (sender : Sender) (release : Release) (route : List ℕ) (way : Leg)
      → IsServedOn rows sender release route way
      ↔ (IsPrompt (bound_of_hop rows sender) release.at.0 route way.hops way.ending
      × ArrivesBy (release.at.0 + sum_by (bound_of_hop rows sender) route) way.ending)
  pub contained : (rows : List Row) (sender : Sender) (p q : ℕ) (path : List ℕ) (first : HopRecord) (arrival e : Ps)
      (sent : Option (Ps × Ps)) (hops : List HopRecord) (ending : Ending)
      → IsContainedOn rows sender (p ∷ q ∷ path)
      (record { hops = first ∷ record_with arrival (Eligible e) sent ∷ hops; ending = ending })
      ↔ IsPrompt (bound_of_hop rows sender) (e.0 + bound_of_hop rows sender q) path hops ending

-- a frame that comes to both bridges as early as it may, to the second, where it is eligible at once, at this time, and
-- to its listener at that
abbrev pub early_until : ℕ → ℕ → Travel
early_until at arrival =
    sunk 0 0 1522
    (hop 0 0 0 12336000 ∷ hop 13036000 13036000 13036000 25372000 ∷ hop at at at (at + 12336000) ∷ []) arrival

-- to the listener too it comes within the last bound, of 12836000 ps, since it was eligible at the last port, though
-- the sum is over at 40508000 only, and 12836000 ps after the last limit at 39708000. To the second bridge it comes
-- within 13836000 ps
pub record EarlyIsPrompt : Type 0 where
  pub last : IsServed two_rows (sender_at over_two_ranged 0) (early_until 26072000 38908000)
  pub last_late : ¬ IsServed two_rows (sender_at over_two_ranged 0) (early_until 26072000 38908001)
  pub last_contained : IsContained two_rows (sender_at over_two_ranged 0) (early_until 26072000 38908000)
  pub last_not_contained : ¬ IsContained two_rows (sender_at over_two_ranged 0) (early_until 26072000 38908001)
  pub next_contained : IsContained two_rows (sender_at over_two_ranged 0) (early_until 26872000 39708000)
  pub next_not_contained : ¬ IsContained two_rows (sender_at over_two_ranged 0) (early_until 26872001 39708001)

pub record PromptIsByEachBound : Type 0 where
  pub prompt : PromptIsMeant
  pub served : ServedIsMeant
  pub early : EarlyIsPrompt
