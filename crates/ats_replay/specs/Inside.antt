-- What the counting of totals and summaries keeps, way by way; what they mean stands in Totals and Summary.
use Rattle.std.specs.Prelude.{◌≡◌, ℕ, ◌+◌, ◌<◌, ◌^◌, List, [], length, max, slice_index_or, if◌then◌else◌}
use Rattle.ats_network.specs.Network.{DeclaredNetwork, senders_of}
use Rattle.ats_network.specs.Senders.{no_sender, sender_at}
use Rattle.ats_trace.specs.Journey.{Leg, Travel}
use Rattle.ats_trace.specs.Ways.{listener_count}
use Rattle.ats_replay.specs.Summary.{delay_to, first_of, place_of, summary_for, summary_of}
use Rattle.ats_replay.specs.Totals.{is_late, is_oversize, is_sunk}
use Rattle.ats_replay.specs.declared.summary.Summary.{Summary}
use Rattle.ats_replay.specs.declared.totals.Totals.{Totals}

-- totals with one way more
abbrev pub with_way : Totals → Leg → Totals
with_way totals way = record {
  frames = totals.frames;
  sunk = totals.sunk + (if is_sunk way.ending then 1 else 0);
  late = totals.late + (if is_late way.hops then 1 else 0);
  size = totals.size + (if is_oversize way.hops then 1 else 0);
}

-- there is room for one more of each
pub record HaveRoom (totals : Totals) : Type 0 where
  pub frames : totals.frames + 1 < 2 ^ 32
  pub sunk : totals.sunk + 1 < 2 ^ 64
  pub late : totals.late + 1 < 2 ^ 64
  pub size : totals.size + 1 < 2 ^ 64

-- a summary with one frame more, of this release, by its way to the listener
abbrev pub with_frame : Summary → ℕ → Leg → Summary
with_frame summary release way = record {
  totals = record (with_way summary.totals way) { frames = summary.totals.frames + 1 };
  worst = record { 0 = max summary.worst.0 (delay_to release way.ending) };
}

-- for numbers past the last listener
abbrev pub no_summary : Summary
no_summary = summary_of no_sender 0 []

-- the summary for a listener, by its place
abbrev pub summary_at : DeclaredNetwork → List Summary → ℕ → ℕ → Summary
summary_at network summaries sender listener = slice_index_or summaries (place_of network sender listener) no_summary

-- a summary for each listener, sender by sender
pub record AreSummaries (network : DeclaredNetwork) (run : List Travel) (summaries : List Summary) : Type 0 where
  pub all : length summaries ≡ first_of network (length (senders_of network))
  pub each : (sender listener : ℕ) → sender < length (senders_of network)
      → listener < listener_count (sender_at network sender)
      → summary_at network summaries sender listener ≡ summary_for network run sender listener
