use Rattle.std.specs.Prelude.{◌≡◌, ℕ, ◌+◌, ◌-◌, ◌==◌, max, true, false, List, length, map, filter, fold, sum_by, take}
use Rattle.std.specs.Prelude.{slice_get, slice_index_or, Some, None}
use Rattle.std.specs.List.{count_by, flat_map, range_with_len}
use Rattle.ats_num.specs.declared.time.Ps.{Ps}
use Rattle.ats_streams.specs.Branches.{leg_at, routes_of, with_leads}
use Rattle.ats_network.specs.Network.{DeclaredNetwork, senders_of}
use Rattle.ats_network.specs.Sender.{Sender}
use Rattle.ats_network.specs.Senders.{sender_at}
use Rattle.ats_group.specs.declared.verdict.Verdict.TheVariants.{Eligible, Late, Size}
use Rattle.ats_trace.specs.HopRecord.{HopRecord}
use Rattle.ats_trace.specs.Journey.{Leg, Travel, legs_in, no_leg}
use Rattle.ats_trace.specs.Ways.{listener_count, route_to, routes_by, way_to}
use Rattle.ats_trace.specs.declared.journey.Ending.TheVariants.{Discard, Sink}
use Rattle.ats_replay.specs.Summary.{delay_of, delay_to, first_of, frames_of, place_of, summary_for, worst_of}
use Rattle.ats_replay.specs.Totals.{is_late, is_oversize, is_sunk, totals_of, totals_on, ways_in}

-- What is counted of a run, and the longest time of its frames, written out for all runs.

-- the ways of a frame: one to each listener of its sender, over the legs on the route there
pub record WaysAreMeant : Type 0 where
  pub routes : (s : Sender) → routes_by s ≡ routes_of s.ports s.branches
  pub count : (s : Sender) → listener_count s ≡ length (routes_by s)
  pub route : (s : Sender) (n : ℕ) → route_to s n ≡ leg_at (routes_by s) n
  pub way : (s : Sender) (j : Travel) (n : ℕ) → way_to s j n ≡ record {
    hops = leg_at (with_leads (map (λ (leg : Leg). leg.hops) (legs_in j)) s.branches) n;
    ending = (slice_index_or (legs_in j) n no_leg).ending;
  }
  pub ways : (network : DeclaredNetwork) (j : Travel) → ways_in network j
      ≡ map (way_to (sender_at network j.release.sender) j)
      (range_with_len 0 (listener_count (sender_at network j.release.sender)))

-- a way is counted where it ended at a sink, where the last verdict was that it was late, or of a wrong size
pub record CountsAreMeant : Type 0 where
  pub sink : (at : Ps) → is_sunk (Sink at) ≡ true
  pub discard : is_sunk Discard ≡ false
  pub late : (hops : List HopRecord) (last : HopRecord) (e : Ps) → slice_get hops (length hops - 1) ≡ Some last
      → last.verdict ≡ Late e → (is_late hops ≡ true) × (is_oversize hops ≡ false)
  pub size : (hops : List HopRecord) (last : HopRecord) → slice_get hops (length hops - 1) ≡ Some last
      → last.verdict ≡ Size → (is_late hops ≡ false) × (is_oversize hops ≡ true)
  pub eligible : (hops : List HopRecord) (last : HopRecord) (e : Ps)
      → slice_get hops (length hops - 1) ≡ Some last → last.verdict ≡ Eligible e
      → (is_late hops ≡ false) × (is_oversize hops ≡ false)
  pub none : (hops : List HopRecord) → slice_get hops (length hops - 1) ≡ None
      → (is_late hops ≡ false) × (is_oversize hops ≡ false)
  pub totals : (frames : ℕ) (ways : List Leg) → totals_on frames ways ≡ record {
    frames = frames;
    sunk = count_by (λ (way : Leg). is_sunk way.ending) ways;
    late = count_by (λ (way : Leg). is_late way.hops) ways;
    size = count_by (λ (way : Leg). is_oversize way.hops) ways;
  }
  pub run : (network : DeclaredNetwork) (run : List Travel) → totals_of network run
      ≡ totals_on (length run) (flat_map (ways_in network) run)

-- of a sender's frames for one listener, the counts and the longest time from its release to the sink there
pub record SummariesAreMeant : Type 0 where
  pub arrived : (release : ℕ) (at : Ps) → delay_to release (Sink at) ≡ at.0 - release
  pub discarded : (release : ℕ) → delay_to release Discard ≡ 0
  pub delay : (s : Sender) (n : ℕ) (j : Travel) → delay_of s n j ≡ delay_to j.release.at.0 (way_to s j n).ending
  pub worst : (s : Sender) (n : ℕ) (frames : List Travel) → worst_of s n frames ≡ fold max 0 (map (delay_of s n) frames)
  pub frames : (run : List Travel) (sender : ℕ) → frames_of run sender
      ≡ filter (λ (j : Travel). j.release.sender == sender) run
  pub summary : (network : DeclaredNetwork) (run : List Travel) (sender n : ℕ) → summary_for network run sender n
      ≡ record {
        totals = totals_on (length (frames_of run sender))
            (map (λ j. way_to (sender_at network sender) j n) (frames_of run sender));
        worst = record { 0 = worst_of (sender_at network sender) n (frames_of run sender) };
      }
  pub before : (network : DeclaredNetwork) (sender : ℕ) → first_of network sender
      ≡ sum_by listener_count (take sender (senders_of network))
  pub place : (network : DeclaredNetwork) (sender n : ℕ) → place_of network sender n ≡ first_of network sender + n

pub record RunTotalsAreMeant : Type 0 where
  pub ways : WaysAreMeant
  pub counts : CountsAreMeant
  pub summaries : SummariesAreMeant
