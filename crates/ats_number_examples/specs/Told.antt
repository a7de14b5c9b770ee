use Rattle.std.specs.Prelude.{◌≡◌, ℕ, List, [], ◌∷◌, ◌++◌, codes, Some, None}
use Rattle.ats_topology.specs.Port.{port_at}
use Rattle.ats_group.specs.declared.verdict.Verdict.{Verdict}
use Rattle.ats_group.specs.declared.verdict.Verdict.TheVariants.{Late, Size}
use Rattle.ats_trace.specs.Journey.{Travel}
use Rattle.ats_trace.specs.declared.journey.Ending.TheVariants.{Discard}
use Rattle.ats_replay.specs.Report.{report_text}
use Rattle.ats_replay.specs.Totals.{totals_of}
use Rattle.ats_network_text.specs.Text.{port_line}
use Rattle.ats_examples.specs.Networks.{line_and_flow}
use Rattle.ats_examples.specs.Runs.{first_goes_first, hop, sunk}
use Rattle.ats_number_examples.specs.Networks.{at_once}

-- What is told of more than one frame, and of a port whose earliest latency is 0.

-- a frame of this sender that is released at 5 and arrives at the listener at this time
abbrev pub arrives : ℕ → ℕ → Travel
arrives sender at = sunk 5 sender 64 (hop 5 5 5 10 ∷ hop 15 15 15 20 ∷ []) at

-- and one that the bridge discards with this verdict
abbrev pub ends : ℕ → Verdict → Travel
ends sender verdict = record {
  release = record { at = record { 0 = 5 }; sender = sender; octets = 64 };
  hops = hop 5 5 5 10 ∷ record { arrival = record { 0 = 15 }; verdict = verdict; sent = None } ∷ [];
  ending = Discard;
  copies = [];
}

-- of the stream three frames arrive, two are late and four of a wrong size; of the flow two arrive, and two are of a
-- wrong size
abbrev pub many : List Travel
many =
    arrives 0 30 ∷ ends 0 (Late (record { 0 = 90 })) ∷ arrives 1 90 ∷ ends 0 Size ∷ arrives 0 37 ∷ ends 0 Size
    ∷ ends 0 (Late (record { 0 = 90 })) ∷ ends 1 Size ∷ arrives 1 25 ∷ ends 0 Size ∷ arrives 0 25 ∷ ends 1 Size
    ∷ ends 0 Size ∷ []

-- each frame counts, of its sender and in all, where each has one listener
pub record EachIsTold : Type 0 where
  pub two : totals_of line_and_flow first_goes_first ≡ record { frames = 2; sunk = 2; late = 0; size = 0 }
  pub totals : totals_of line_and_flow many ≡ record { frames = 13; sunk = 5; late = 2; size = 6 }
  pub report : report_text line_and_flow many (Some (77 ∷ []))
      ≡ codes "stream a frames 9 sunk 3 late 2 size 4 worst 32 bound 77\n"
      ++ codes "flow f frames 4 sunk 2 late 0 size 2 worst 85 bound -\n"
      ++ codes "total frames 13 sunk 5 late 2 size 6\n"

-- a spread is told by the earliest latency, also where this is 0
pub record SpreadIsTold : Type 0 where
  pub there : port_line at_once (0, port_at at_once.ports 0) ≡ codes "port 0 s1>b1 1000 1500000 0\n"
  pub back : port_line at_once (1, port_at at_once.ports 1) ≡ codes "port 1 b1>s1 1000 0\n"

pub record NumbersAreTold : Type 0 where
  pub frames : EachIsTold
  pub ports : SpreadIsTold
