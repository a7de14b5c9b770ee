use Rattle.std.proofs.Common.{◌<◌, ◌≤◌, get_or, refl, arith, lit<, lit≤}
use Rattle.ats_num.specs.Tie.{late_key}
use Rattle.ats_port_rule.specs.PortRule.{IsAhead}
use Rattle.ats_trace.specs.Parts.{Keeps, chosen}
use Rattle.ats_trace.specs.Projections.{sent_by}
use Rattle.ats_trace.specs.Run.{IsRunBy}
use Rattle.ats_examples.specs.LegalRuns.{frame_key, greatest_wait, least_wait}
use Rattle.ats_examples.proofs.ChangeProofs.{no_transmission}
use Rattle.ats_examples.proofs.LegalProofs.{run_by}
use Rattle.ats_examples.proofs.PartTest.{others_by}
use Rattle.ats_meeting_examples.specs.Flows.{BridgesMixFlows, FlowsSharePorts, StationsMixFlows, in_turn}
use Rattle.ats_meeting_examples.specs.Flows.{last_goes_second, turned, two_come}
use Rattle.ats_meeting_examples.specs.Networks.{fork_of_flows, two_flows}

-- Frames of two flows at a port, by computation.

-- frame 2 starts before frame 1, which was eligible before it
not_overtaking : (keeps : Keeps chosen two_flows (last_goes_second 2 1)) → ⊥
not_overtaking keeps =
    let ahead : IsAhead (get_or (sent_by two_flows (last_goes_second 2 1) 0) 2 no_transmission)
    (get_or (sent_by two_flows (last_goes_second 2 1) 0) 1 no_transmission)
    = keeps 0 (lit< tt) 2 no_transmission (lit< tt) 1 no_transmission (lit< tt) (lit< tt) (lit≤ tt) in
    let earlier : 2 ≤ 1 = ahead.no_later refl in
    absurd (omega arith)

not_overtaken : (keeps : Keeps chosen two_flows (last_goes_second 1 2)) → ⊥
not_overtaken keeps =
    let ahead : IsAhead (get_or (sent_by two_flows (last_goes_second 1 2) 0) 2 no_transmission)
    (get_or (sent_by two_flows (last_goes_second 1 2) 0) 1 no_transmission)
    = keeps 0 (lit< tt) 2 no_transmission (lit< tt) 1 no_transmission (lit< tt) (lit< tt) (lit≤ tt) in
    let earlier : 2 ≤ 1 = ahead.no_later refl in
    absurd (omega arith)

-- frame 1 starts first, so its key would have to be the lesser
not_by_frame : ¬ IsRunBy frame_key least_wait two_flows (turned 1 2)
not_by_frame h =
    let first : 1 < 0 =
    h.tie 0 (lit< tt) 1 no_transmission (lit< tt) 0 no_transmission (lit< tt) refl refl (lit< tt) in
    absurd (omega arith)

not_by_lesser : ¬ IsRunBy late_key greatest_wait two_flows (turned 2 1)
not_by_lesser h =
    let first : late_key 1 1 < late_key 2 0 =
    h.tie 0 (lit< tt) 1 no_transmission (lit< tt) 0 no_transmission (lit< tt) refl refl (lit< tt) in
    absurd (omega arith)

stations_mix_flows : StationsMixFlows
stations_mix_flows = record {
  greater_last = run_by late_key greatest_wait two_flows (in_turn 1 2) refl refl refl;
  greater_first = run_by late_key greatest_wait two_flows (in_turn 2 1) refl refl refl;
  lesser_overtakes = record {
    broken = not_overtaking;
    others = others_by chosen two_flows (last_goes_second 2 1) refl;
  };
  greater_overtakes = record {
    broken = not_overtaken;
    others = others_by chosen two_flows (last_goes_second 1 2) refl;
  };
  by_sender = run_by late_key greatest_wait two_flows (turned 1 2) refl refl refl;
  not_by_frame = not_by_frame;
  not_by_lesser = not_by_lesser;
}

-- at port 2 the first flow's small frame is transmission 1, and the second flow's transmission 2
not_second_overtakes : (keeps : Keeps chosen fork_of_flows (two_come 12336001 26844000 26172000)) → ⊥
not_second_overtakes keeps =
    let ahead : IsAhead (get_or (sent_by fork_of_flows (two_come 12336001 26844000 26172000) 2) 2 no_transmission)
    (get_or (sent_by fork_of_flows (two_come 12336001 26844000 26172000) 2) 1 no_transmission)
    = keeps 2 (lit< tt) 2 no_transmission (lit< tt) 1 no_transmission (lit< tt) (lit< tt) (lit≤ tt) in
    let earlier : 14508001 ≤ 14508000 = ahead.no_later refl in
    absurd (omega arith)

not_first_overtakes : (keeps : Keeps chosen fork_of_flows (two_come 12335999 26172000 26844000)) → ⊥
not_first_overtakes keeps =
    let ahead : IsAhead (get_or (sent_by fork_of_flows (two_come 12335999 26172000 26844000) 2) 1 no_transmission)
    (get_or (sent_by fork_of_flows (two_come 12335999 26172000 26844000) 2) 2 no_transmission)
    = keeps 2 (lit< tt) 1 no_transmission (lit< tt) 2 no_transmission (lit< tt) (lit< tt) (lit≤ tt) in
    let earlier : 14508000 ≤ 14507999 = ahead.no_later refl in
    absurd (omega arith)

not_by_frame_there : ¬ IsRunBy frame_key least_wait fork_of_flows (two_come 12336000 26844000 26172000)
not_by_frame_there h =
    let first : 2 < 1 =
    h.tie 2 (lit< tt) 2 no_transmission (lit< tt) 1 no_transmission (lit< tt) refl refl (lit< tt) in
    absurd (omega arith)

bridges_mix_flows : BridgesMixFlows
bridges_mix_flows = record {
  first_before = run_by late_key greatest_wait fork_of_flows (two_come 12336001 26172000 26844000) refl refl refl;
  second_before = run_by frame_key least_wait fork_of_flows (two_come 12335999 26844000 26172000) refl refl refl;
  second_overtakes = record {
    broken = not_second_overtakes;
    others = others_by chosen fork_of_flows (two_come 12336001 26844000 26172000) refl;
  };
  first_overtakes = record {
    broken = not_first_overtakes;
    others = others_by chosen fork_of_flows (two_come 12335999 26172000 26844000) refl;
  };
  by_sender = run_by late_key greatest_wait fork_of_flows (two_come 12336000 26844000 26172000) refl refl refl;
  not_by_frame = not_by_frame_there;
}

pub flows_share_ports : FlowsSharePorts
flows_share_ports = record { at_station = stations_mix_flows; at_bridge = bridges_mix_flows }
