use Rattle.std.specs.Prelude.{◌≡◌, ℕ, ◌*◌, max, List, [], ◌++◌, length, map, codes, decimal, sum_by, count_by, fold}
use Rattle.std.specs.Prelude.{All, Option}
use Rattle.std.specs.List.{enumerate_from, flat_map, range_with_len, zip}
use Rattle.ats_num.specs.declared.time.TheConstants.{PS_PER_NS}
use Rattle.ats_streams.specs.Stream.{DeclaredStream}
use Rattle.ats_topology.specs.Topology.{DeclaredTopology}
use Rattle.ats_network.specs.Network.{DeclaredNetwork, HasOneListener, senders_of}
use Rattle.ats_network.specs.Senders.{sender_at}
use Rattle.ats_network.specs.Sender.{stream_sender}
use Rattle.ats_certificate.specs.Certificate.{bound_of_hop}
use Rattle.ats_certificate.specs.declared.row.Row.{Row}
use Rattle.ats_bound.specs.Least.{least_certificate}
use Rattle.ats_explain.specs.declared.margin.Margin.{Margin}
use Rattle.ats_trace.specs.Journey.{IsJourney, Travel}
use Rattle.ats_replay.specs.Departures as replayed
use Rattle.ats_replay.specs.Report as reported
use Rattle.ats_replay.specs.Summary as summed
use Rattle.ats_replay.specs.Totals as counted
use Rattle.ats_replay.specs.declared.summary.Summary.{Summary}
use Rattle.ats_replay.specs.declared.totals.Totals.{Totals}
use Rattle.ats_network_text.specs.Text as shown
use Rattle.ats_verdict_text.specs.Text as checked
use Rattle.ats_explain_text.specs.Text as explained

-- Where a stream has no branch, each text has of it what it has of one path: of all ports, and with no listener's name.

-- the sum of a stream's bounds at all its ports
abbrev pub sum_along : List Row → DeclaredStream → ℕ
sum_along rows s = sum_by (bound_of_hop rows (stream_sender s)) s.ports

-- the line of each port, then `sum NAME SUM` with the sum along all ports
abbrev pub lines_and_sum : DeclaredTopology → List Row → DeclaredStream → List ℕ
lines_and_sum topology rows s =
    flat_map (checked.hop_line topology rows s) s.ports ++ codes "sum " ++ s.name ++ codes " "
    ++ decimal (sum_along rows s) ++ codes "\n"

-- this is what `check` prints of a stream without branches
abbrev pub CheckTellsOneSum : Type 0
CheckTellsOneSum = (topology : DeclaredTopology) (rows : List Row) (s : DeclaredStream) → s.branches ≡ []
    → checked.stream_lines topology rows s ≡ lines_and_sum topology rows s

-- the sum of a stream's least bounds at all its ports, and its deadline, in picoseconds
abbrev pub margin_along : DeclaredNetwork → DeclaredStream → Margin
margin_along network s =
    record { sum = sum_along (least_certificate network) s; deadline = PS_PER_NS * s.deadline_ns }

-- `stream NAME sum SUM deadline DEADLINE` and the slack
abbrev pub margin_line : List ℕ → Margin → List ℕ
margin_line name margin =
    codes "stream " ++ name ++ codes " sum " ++ decimal margin.sum ++ codes " deadline " ++ decimal margin.deadline
    ++ explained.slack_text margin ++ codes "\n"

-- this line and that of each port are what `explain` prints of a stream without branches
abbrev pub ExplainTellsOneMargin : Type 0
ExplainTellsOneMargin = (network : DeclaredNetwork) (s : DeclaredStream) → s.branches ≡ []
    → explained.stream_text network s
    ≡ margin_line s.name (margin_along network s) ++ flat_map (explained.hop_text network s) s.ports

-- `stream NAME`, all classes and all ports are what `show` prints of a stream without branches
abbrev pub ShowTellsOneLine : Type 0
ShowTellsOneLine = (topology : DeclaredTopology) (s : DeclaredStream) → s.branches ≡ []
    → shown.stream_lines topology s ≡ shown.sender_line topology (codes "stream") s.name s.classes s.ports

-- the line of a frame, one for each of its records with the port at its place among all ports, and that of its end
abbrev pub frame_lines : DeclaredNetwork → ℕ × Travel → List ℕ
frame_lines network numbered =
    replayed.frame_line network numbered.0 numbered.1.release
    ++ flat_map (replayed.hop_line network.topology)
    (zip (sender_at network numbered.1.release.sender).ports numbered.1.hops)
    ++ replayed.ending_line numbered.1.ending

-- how many frames there are, how many of them arrived, and how many had each last verdict
abbrev pub counts_of : List Travel → Totals
counts_of run = record {
  frames = length run;
  sunk = count_by (λ (j : Travel). counted.is_sunk j.ending) run;
  late = count_by (λ (j : Travel). counted.is_late j.hops) run;
  size = count_by (λ (j : Travel). counted.is_oversize j.hops) run;
}

-- the lines of each frame, and these counts, are what `replay` prints of a run where no stream has a branch
abbrev pub ReplayTellsOneWay : Type 0
ReplayTellsOneWay = (network : DeclaredNetwork) (run : List Travel) → HasOneListener network
    → All (IsJourney network) run
    → replayed.departures_text network run
    ≡ flat_map (frame_lines network) (enumerate_from 0 run) ++ counted.totals_line (counts_of run)

-- these counts of a sender's frames, and the longest that one took from its release to its end
abbrev pub came_of : List Travel → ℕ → Summary
came_of run sender = record {
  totals = counts_of (summed.frames_of run sender);
  worst = record {
    0 = fold max 0
        (map (λ (j : Travel). summed.delay_to j.release.at.0 j.ending) (summed.frames_of run sender));
  };
}

-- a sender's line, with the sum that stands at its own number
abbrev pub line_of : DeclaredNetwork → List Travel → Option (List ℕ) → ℕ → List ℕ
line_of network run sums sender =
    reported.kind_text network sender ++ (sender_at network sender).name
    ++ reported.summary_text (came_of run sender) (reported.bound_at network sums sender sender)

-- that of each sender, and the counts, are what `generate` prints of it
abbrev pub GenerateTellsOneLine : Type 0
GenerateTellsOneLine = (network : DeclaredNetwork) (run : List Travel) (sums : Option (List ℕ))
    → HasOneListener network → All (IsJourney network) run
    → reported.report_text network run sums
    ≡ flat_map (line_of network run sums) (range_with_len 0 (length (senders_of network)))
    ++ counted.totals_line (counts_of run)
