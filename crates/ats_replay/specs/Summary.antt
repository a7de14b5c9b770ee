use Rattle.std.specs.Prelude.{ℕ, ◌+◌, ◌-◌, ◌==◌, max, List, fold, length, map, filter, sum_by, take}
use Rattle.ats_network.specs.Network.{DeclaredNetwork, senders_of}
use Rattle.ats_network.specs.Sender.{Sender}
use Rattle.ats_network.specs.Senders.{sender_at}
use Rattle.ats_trace.specs.Journey.{Travel}
use Rattle.ats_trace.specs.Ways.{listener_count, way_to}
use Rattle.ats_trace.specs.declared.journey.Ending.{Ending}
use Rattle.ats_trace.specs.declared.journey.Ending.TheVariants.{Sink, Discard}
use Rattle.ats_replay.specs.Totals.{totals_on}
use Rattle.ats_replay.specs.declared.summary.Summary.{Summary}

-- how long a frame took from this release to a listener; 0 where it did not arrive there
abbrev pub delay_to : ℕ → Ending → ℕ
delay_to release (Sink at) = at.0 - release
delay_to release Discard = 0

-- to the listener with a number
abbrev pub delay_of : Sender → ℕ → Travel → ℕ
delay_of sender listener j = delay_to j.release.at.0 (way_to sender j listener).ending

-- the longest that one of some frames took to it; 0 where none arrived there
abbrev pub worst_of : Sender → ℕ → List Travel → ℕ
worst_of sender listener frames = fold max 0 (map (delay_of sender listener) frames)

-- what came of some frames of a sender for the listener with a number
abbrev pub summary_of : Sender → ℕ → List Travel → Summary
summary_of sender listener frames = record {
  totals = totals_on (length frames) (map (λ j. way_to sender j listener) frames);
  worst = record { 0 = worst_of sender listener frames };
}

-- the frames of a sender, in order
abbrev pub frames_of : List Travel → ℕ → List Travel
frames_of run sender = filter (λ (j : Travel). j.release.sender == sender) run

-- what came of the frames of a sender for a listener, by their numbers
abbrev pub summary_for : DeclaredNetwork → List Travel → ℕ → ℕ → Summary
summary_for network run sender listener = summary_of (sender_at network sender) listener (frames_of run sender)

-- how many listeners the senders in front of one have
abbrev pub first_of : DeclaredNetwork → ℕ → ℕ
first_of network sender = sum_by listener_count (take sender (senders_of network))

-- the place of a listener among those of all senders, sender by sender
abbrev pub place_of : DeclaredNetwork → ℕ → ℕ → ℕ
place_of network sender listener = first_of network sender + listener
