use Rattle.std.specs.Prelude.{◌≡◌, ℕ, List, [], ◌∷◌, ◌++◌, codes, Some, None}
use Rattle.ats_num.specs.declared.time.Ps.{Ps}
use Rattle.ats_group.specs.declared.verdict.Verdict.TheVariants.{Eligible, Late, Size}
use Rattle.ats_network.specs.Network.{DeclaredNetwork}
use Rattle.ats_trace.specs.Journey.{Travel}
use Rattle.ats_trace.specs.declared.journey.Release.{Release}
use Rattle.ats_trace.specs.HopRecord.{HopRecord}
use Rattle.ats_trace.specs.declared.journey.Ending.TheVariants.{Sink, Discard}
use Rattle.ats_replay.specs.Departures.{departures_text}
use Rattle.ats_replay.specs.Report.{report_text}
use Rattle.ats_capture.specs.Counts.{counts_text}
use Rattle.ats_capture.specs.Traffic.{Traffic}
use Rattle.ats_command_input.specs.declared.order.Order.{Order}
use Rattle.ats_command_due.specs.Captured.{IsCaptureReplay}
use Rattle.ats_command_due.specs.Generated.{IsReport, least_sums}
use Rattle.ats_command_due.specs.Replayed.{IsReplay}
use Rattle.ats_text_examples.specs.Worked.{way}

-- What is printed of journeys over the worked network, whether they make a legal run or not.

abbrev pub at : ℕ → Ps
at time = record { 0 = time }

abbrev pub release : ℕ → ℕ → ℕ → Release
release time sender octets = record { at = at time; sender = sender; octets = octets }

-- a frame came to a port, was eligible, and was sent from one time to another
abbrev pub sent_hop : ℕ → ℕ → ℕ → ℕ → HopRecord
sent_hop arrival eligible start end =
    record { arrival = at arrival; verdict = Eligible (at eligible); sent = Some (at start, at end) }

-- a frame that was discarded at its second port: eligible too late, or of an undeclared size
abbrev pub late_travel : Release → ℕ → ℕ → ℕ → ℕ → Travel
late_travel released start end arrival eligible = record {
  release = released;
  hops = sent_hop released.at.0 released.at.0 start end
      ∷ record { arrival = at arrival; verdict = Late (at eligible); sent = None } ∷ [];
  ending = Discard;
  copies = [];
}

abbrev pub size_travel : Release → ℕ → ℕ → ℕ → Travel
size_travel released start end arrival = record {
  release = released;
  hops = sent_hop released.at.0 released.at.0 start end
      ∷ record { arrival = at arrival; verdict = Size; sent = None } ∷ [];
  ending = Discard;
  copies = [];
}

-- one frame that arrived, two that were late, and three of an undeclared size
abbrev pub journeys : List Travel
journeys =
    record {
      release = release 1001 0 501;
      hops = sent_hop 1001 1001 1102 5203 ∷ sent_hop 6304 7405 8506 9607 ∷ sent_hop 10708 11809 12910 14011 ∷ [];
      ending = Sink (at 15112);
      copies = [];
    }
    ∷ late_travel (release 2001 1 602) 5204 5305 6306 77777
    ∷ size_travel (release 3001 2 1403) 5306 5407 6408
    ∷ late_travel (release 4001 0 704) 5408 5509 6510 88888
    ∷ size_travel (release 5001 2 1405) 5510 5611 6612
    ∷ size_travel (release 6001 2 1406) 6602 6703 7704 ∷ []

abbrev pub departures : List ℕ
departures =
    codes "frame 0 u 501 1001\n"
    ++ codes "hop s1>b1 1001 eligible 1001 start 1102 end 5203\n"
    ++ codes "hop b1>b2 6304 eligible 7405 start 8506 end 9607\n"
    ++ codes "hop b2>s2 10708 eligible 11809 start 12910 end 14011\n"
    ++ codes "sink 15112\n"
    ++ codes "frame 1 v 602 2001\n"
    ++ codes "hop s1>b1 2001 eligible 2001 start 5204 end 5305\n"
    ++ codes "hop b1>b2 6306 late 77777\n"
    ++ codes "discard\n"
    ++ codes "frame 2 f 1403 3001\n"
    ++ codes "hop s1>b1 3001 eligible 3001 start 5306 end 5407\n"
    ++ codes "hop b1>b2 6408 size\n"
    ++ codes "discard\n"
    ++ codes "frame 3 u 704 4001\n"
    ++ codes "hop s1>b1 4001 eligible 4001 start 5408 end 5509\n"
    ++ codes "hop b1>b2 6510 late 88888\n"
    ++ codes "discard\n"
    ++ codes "frame 4 f 1405 5001\n"
    ++ codes "hop s1>b1 5001 eligible 5001 start 5510 end 5611\n"
    ++ codes "hop b1>b2 6612 size\n"
    ++ codes "discard\n"
    ++ codes "frame 5 f 1406 6001\n"
    ++ codes "hop s1>b1 6001 eligible 6001 start 6602 end 6703\n"
    ++ codes "hop b1>b2 7704 size\n"
    ++ codes "discard\n"
    ++ codes "total frames 6 sunk 1 late 2 size 3\n"

-- the summary of each sender, with bounds for both streams, and with none
abbrev pub summed : List ℕ
summed =
    codes "stream u frames 2 sunk 1 late 1 size 0 worst 14111 bound 20002\n"
    ++ codes "stream v frames 1 sunk 0 late 1 size 0 worst 0 bound 30003\n"
    ++ codes "flow f frames 3 sunk 0 late 0 size 3 worst 0 bound -\n"
    ++ codes "total frames 6 sunk 1 late 2 size 3\n"

abbrev pub summed_unbounded : List ℕ
summed_unbounded =
    codes "stream u frames 2 sunk 1 late 1 size 0 worst 14111 bound -\n"
    ++ codes "stream v frames 1 sunk 0 late 1 size 0 worst 0 bound -\n"
    ++ codes "flow f frames 3 sunk 0 late 0 size 3 worst 0 bound -\n"
    ++ codes "total frames 6 sunk 1 late 2 size 3\n"

-- of which texts the laws of `replay`, `capture` and `generate` speak
pub record TextsAreOfRuns : Type 0 where
  pub replayed : (order : Order) (network : DeclaredNetwork) (releases : List Release) (text : List ℕ)
      (run : List Travel) → IsReplay order network releases text run → text ≡ departures_text network run
  pub captured : (order : Order) (network : DeclaredNetwork) (traffic : Traffic) (text : List ℕ) (run : List Travel)
      → IsCaptureReplay order network traffic text run → text ≡ departures_text network run ++ counts_text traffic
  pub generated : (network : DeclaredNetwork) (releases : List Release) (text : List ℕ) (run : List Travel)
      → IsReport network releases text run → text ≡ report_text network run (least_sums network)

-- to `replay`, to `generate`, and what `capture` adds
pub record RunsAreWritten : Type 0 where
  pub texts : TextsAreOfRuns
  pub replay : departures_text way journeys ≡ departures
  pub generate : report_text way journeys (Some (20002 ∷ 30003 ∷ [])) ≡ summed
  pub unbounded : report_text way journeys None ≡ summed_unbounded
  pub capture : counts_text (record { releases = []; records = 31; unidentified = 12; oversize = 7 })
      ≡ codes "records 31 unidentified 12 oversize 7\n"
