use Rattle.std.proofs.Common.{zero, suc, ◌+◌, ◌≤◌, All, refl, arith, lit<}
use Rattle.ats_port_rule.specs.Transmission.{Transmission}
use Rattle.ats_port_law.specs.PortLaw.{IsDeclared, IsWithinBound}
use Rattle.ats_examples.specs.Networks.{line_and_flow, fork, with_longer_flow}
use Rattle.ats_examples.specs.Rows.{row_with_flow, row_of_line, row_of_flows}
use Rattle.ats_examples.specs.Premises.{sent_late, sent_twice, sent_behind_longer, sent_by_flow, StreamsConform}
use Rattle.ats_examples.specs.Premises.{PortRuleCounts, ConformingCounts, SizesCount, StreamsCount}
use Rattle.ats_examples.proofs.NetworkProofs.{with_flow_is}
use Rattle.ats_examples.proofs.PortTest.{port_rule_by}
use Rattle.ats_examples.proofs.PortProofs.{all_one, all_two, one_in_order, none_in_order, at_station}
use Rattle.ats_examples.proofs.PortProofs.{at_s1}

-- what stands for a transmission where there is none
abbrev some_frame : Transmission
some_frame = record { frame = 0; sender = 0; class = 0; bits = 0; eligible = 0; start = 0; end = 0 }

late_streams : StreamsConform fork 0 sent_late
late_streams zero h = one_in_order 100000000 12336 (record { at = 0; bits = 12336 }) (omega arith)
late_streams (suc zero) h = none_in_order 100000000 12336
late_streams (suc (suc i)) h = absurd (omega arith)

late_beyond : ¬ All (IsWithinBound fork (row_of_line 0 13836000)) sent_late
late_beyond within =
    let over : 12336001 + 1500000 ≤ 0 + 13836000 = within 0 some_frame (lit< tt) refl in
    absurd (omega arith)

pub port_rule_counts : PortRuleCounts
port_rule_counts = record {
  used = refl;
  offered = record {
    each = all_one (IsDeclared fork 0) _
        (record { exists = omega arith; uses = refl; class = refl; least = omega arith; most = omega arith });
    streams = late_streams;
  };
  exceeded = record { valid = at_s1.valid; covers = at_s1.covers; beyond = late_beyond };
}

twice_beyond : ¬ All (IsWithinBound fork (row_of_line 0 13836000)) sent_twice
twice_beyond within =
    let over : 24672000 + 1500000 ≤ 0 + 13836000 = within 1 some_frame (lit< tt) refl in
    absurd (omega arith)

pub conforming_counts : ConformingCounts
conforming_counts = record {
  used = refl;
  rule = port_rule_by 1000 sent_twice refl;
  declared = all_two (IsDeclared fork 0) _ _
      (record { exists = omega arith; uses = refl; class = refl; least = omega arith; most = omega arith })
      (record { exists = omega arith; uses = refl; class = refl; least = omega arith; most = omega arith });
  exceeded = record { valid = at_s1.valid; covers = at_s1.covers; beyond = twice_beyond };
}

longer_streams : StreamsConform line_and_flow 0 sent_behind_longer
longer_streams zero h = one_in_order 100000000 12336 (record { at = 1; bits = 12336 }) (omega arith)
longer_streams (suc i) h = absurd (omega arith)

longer_beyond : ¬ All (IsWithinBound line_and_flow row_with_flow) sent_behind_longer
longer_beyond within =
    let over : 24680000 + 1500000 ≤ 1 + 26172000 = within 1 some_frame (lit< tt) refl in
    absurd (omega arith)

pub sizes_count : SizesCount
sizes_count = record {
  used = refl;
  rule = port_rule_by 1000 sent_behind_longer refl;
  conform = longer_streams;
  longer = all_two (IsDeclared with_longer_flow 0) _ _
      (record { exists = omega arith; uses = refl; class = refl; least = omega arith; most = omega arith })
      (record { exists = omega arith; uses = refl; class = refl; least = omega arith; most = omega arith });
  exceeded = record { valid = at_station.valid; covers = at_station.covers; beyond = longer_beyond };
}

flow_streams : StreamsConform line_and_flow 0 sent_by_flow
flow_streams zero h = none_in_order 100000000 12336
flow_streams (suc i) h = absurd (omega arith)

flow_beyond : ¬ All (IsWithinBound line_and_flow row_of_flows) sent_by_flow
flow_beyond within =
    let over : 24672000 + 1500000 ≤ 0 + 15132000 = within 1 some_frame (lit< tt) refl in
    absurd (omega arith)

pub streams_count : StreamsCount
streams_count = record {
  unused = refl;
  rule = port_rule_by 1000 sent_by_flow refl;
  offered = record {
    each = all_two (IsDeclared line_and_flow 0) _ _
        (record { exists = omega arith; uses = refl; class = refl; least = omega arith; most = omega arith })
        (record { exists = omega arith; uses = refl; class = refl; least = omega arith; most = omega arith });
    streams = flow_streams;
  };
  exceeded = record {
    valid = with_flow_is;
    covers = record {
      sums = record { higher = refl; equal = refl; bursts = refl; lower = refl; least = refl };
      bound = refl;
      load = omega arith;
      wait = omega arith;
    };
    beyond = flow_beyond;
  };
}
