use Rattle.std.specs.Prelude.{◌≡◌, ℕ, ◌+◌, ◌<◌, List, All, length, sum_by}
use Rattle.ats_network.specs.Network.{DeclaredNetwork, IsNetwork, senders_of}
use Rattle.ats_network.specs.Senders.{sender_at}
use Rattle.ats_trace.specs.Journey.{IsJourney, Travel}
use Rattle.ats_trace.specs.Ways.{listener_count}
use Rattle.ats_replay.specs.Summary.{summary_for}
use Rattle.ats_replay.specs.Totals.{totals_of}
use Rattle.ats_replay.specs.declared.totals.Totals.{Totals}

-- the listeners of frames, counted together: of each frame those of its sender
abbrev pub listeners_together : DeclaredNetwork → List Travel → ℕ
listeners_together network run =
    sum_by (λ (j : Travel). listener_count (sender_at network j.release.sender)) run

-- how many ways totals count, whichever way each ended
abbrev pub counted_in : Totals → ℕ
counted_in totals = totals.sunk + totals.late + totals.size

-- of each frame of a run and each of its listeners one of three numbers counts one: it arrived there, or it was
-- discarded on the way as late, or for its size; so of all frames together, and for each listener by itself
pub record CountsEachOnce (network : DeclaredNetwork) (run : List Travel) : Type 0 where
  pub together : counted_in (totals_of network run) ≡ listeners_together network run
  pub for_each : (sender listener : ℕ) → sender < length (senders_of network)
      → listener < listener_count (sender_at network sender)
      → counted_in (summary_for network run sender listener).totals
      ≡ (summary_for network run sender listener).totals.frames

-- and that in every run
abbrev pub EachListenerCountsOnce : Type 0
EachListenerCountsOnce = (network : DeclaredNetwork) (run : List Travel) → IsNetwork network
    → All (IsJourney network) run → CountsEachOnce network run
