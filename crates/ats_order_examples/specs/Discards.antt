use Rattle.std.specs.Prelude.{ℕ, List, [], ◌∷◌, Some}
use Rattle.ats_group.specs.declared.verdict.Verdict.{Verdict}
use Rattle.ats_group.specs.declared.verdict.Verdict.TheVariants.{Late, Size}
use Rattle.ats_trace.specs.Journey.{Travel}
use Rattle.ats_trace.specs.Parts.{way}
use Rattle.ats_trace.specs.HopRecord.{HopRecord}
use Rattle.ats_trace.specs.declared.journey.Ending.TheVariants.{Discard}
use Rattle.ats_examples.specs.Deviations.{BreaksAlone}
use Rattle.ats_examples.specs.Networks.{fork, line_and_flow}
use Rattle.ats_examples.specs.Runs.{hop, sunk}

-- Frames that a bridge discards, and of which it is told when it sends them.

-- a frame that comes to the bridge at this time, its verdict there, and when it is sent from there
abbrev pub judged_and_sent : ℕ → Verdict → ℕ → ℕ → HopRecord
judged_and_sent arrival verdict start end = record {
  arrival = record { 0 = arrival };
  verdict = verdict;
  sent = Some (record { 0 = start }, record { 0 = end });
}

-- a frame of this sender and so many octets that is released at 0, its two records, and that it is discarded
abbrev pub discarded : ℕ → ℕ → HopRecord → HopRecord → Travel
discarded sender octets at_station at_bridge = record {
  release = record { at = record { 0 = 0 }; sender = sender; octets = octets };
  hops = at_station ∷ at_bridge ∷ [];
  ending = Discard;
  copies = [];
}

-- the second of two frames is late
abbrev pub late_and_sent : List Travel
late_and_sent =
    sunk 0 0 1522 (hop 0 0 0 12336000 ∷ hop 13836000 13836000 13836000 26172000 ∷ []) 26672000
    ∷ discarded 0 1522 (hop 0 0 12336000 24672000)
    (judged_and_sent 26172000 (Late (record { 0 = 137196000 })) 137196000 149532000)
    ∷ []

-- a frame of a flow is an octet too long
abbrev pub long_and_sent : List Travel
long_and_sent =
    discarded 1 1523 (hop 0 0 0 12344000) (judged_and_sent 13844000 Size 13844000 26188000) ∷ []

-- of a frame that is discarded no times are told at which it is sent; else all parts would be kept
pub record DiscardedAreNotSent : Type 0 where
  pub late : BreaksAlone way fork late_and_sent
  pub long : BreaksAlone way line_and_flow long_and_sent
