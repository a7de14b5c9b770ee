use Rattle.std.specs.Prelude.{◌↔◌, ℕ, ◌<◌, ◌^◌, List, length, All, Some, None}
use Rattle.ats_num.specs.declared.time.Ps.{Ps}
use Rattle.ats_network.specs.Network.{DeclaredNetwork, senders_of}
use Rattle.ats_network.specs.Senders.{sender_at}
use Rattle.ats_group.specs.declared.verdict.Verdict.TheVariants.{Eligible, Late, Size}
use Rattle.ats_trace.specs.HopRecord.{HopRecord}
use Rattle.ats_trace.specs.Journey.{IsJourney, Leg, Travel, legs_in}
use Rattle.ats_trace.specs.Ways.{listener_count}
use Rattle.ats_trace.specs.declared.journey.Ending.TheVariants.{Discard, Sink}
use Rattle.ats_replay.specs.Summary.{summary_for}
use Rattle.ats_replay.specs.declared.summary.Summary.{Summary}
use Rattle.ats_replay.specs.declared.totals.Totals.{Totals}
use Rattle.ats_text_law.specs.Laws.{IsPrintable, IsReportable}
use Rattle.ats_text_law.specs.Short.{AreShort, AreShortCounts}
use Rattle.ats_text_law.specs.Short.{HasShortNumbers}
use Rattle.ats_text_law.specs.Short.{HasShortTimes, IsShortEnding, IsShortHop, IsShortLeg, IsShortSent}
use Rattle.ats_text_law.specs.Short.{IsShortVerdict}

-- What it comes to that a text can hold runs and reports, part by part, both ways, for all of them. The laws on printed
-- texts only ask for these words: one that asked for more would keep each such law.

-- of a run, each time has at most 64 digits
pub record TimesAreMeant : Type 0 where
  pub eligible : (e : Ps) → IsShortVerdict (Eligible e) ↔ (e.0 < 10 ^ 64)
  pub late : (e : Ps) → IsShortVerdict (Late e) ↔ (e.0 < 10 ^ 64)
  pub size : IsShortVerdict Size
  pub not_sent : IsShortSent None
  pub sent : (start end : Ps) → IsShortSent (Some (start, end)) ↔ ((start.0 < 10 ^ 64) × (end.0 < 10 ^ 64))
  pub hop : (hop : HopRecord)
      → IsShortHop hop ↔ ((hop.arrival.0 < 10 ^ 64) × IsShortVerdict hop.verdict × IsShortSent hop.sent)
  pub sink : (at : Ps) → IsShortEnding (Sink at) ↔ (at.0 < 10 ^ 64)
  pub discard : IsShortEnding Discard
  pub leg : (leg : Leg) → IsShortLeg leg ↔ (All IsShortHop leg.hops × IsShortEnding leg.ending)
  pub journey : (journey : Travel)
      → HasShortTimes journey ↔ ((journey.release.at.0 < 10 ^ 64) × All IsShortLeg (legs_in journey))

-- a run has journeys and such times; a report has counts, times and sums of so few digits
pub record RunsAreMeant : Type 0 where
  pub printable : (network : DeclaredNetwork) (run : List Travel)
      → IsPrintable network run ↔ (All (IsJourney network) run × All HasShortTimes run)
  pub counts : (t : Totals)
      → AreShortCounts t ↔ ((t.frames < 10 ^ 64) × (t.sunk < 10 ^ 64) × (t.late < 10 ^ 64) × (t.size < 10 ^ 64))
  pub numbers : (s : Summary) → HasShortNumbers s ↔ (AreShortCounts s.totals × (s.worst.0 < 10 ^ 64))
  pub no_sums : AreShort None
  pub sums : (sums : List ℕ) → AreShort (Some sums) ↔ All (λ sum. sum < 10 ^ 64) sums
  pub reportable : (network : DeclaredNetwork) (run : List Travel) (sums : List ℕ)
      → IsReportable network run (Some sums)
      ↔ (((sender listener : ℕ) → sender < length (senders_of network)
      → listener < listener_count (sender_at network sender)
      → HasShortNumbers (summary_for network run sender listener))
      × AreShort (Some sums))
  pub reportable_alone : (network : DeclaredNetwork) (run : List Travel)
      → IsReportable network run None
      ↔ ((sender listener : ℕ) → sender < length (senders_of network)
      → listener < listener_count (sender_at network sender)
      → HasShortNumbers (summary_for network run sender listener))

pub record PremisesAreMeant : Type 0 where
  pub times : TimesAreMeant
  pub runs : RunsAreMeant
