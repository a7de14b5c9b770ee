use Rattle.std.specs.Prelude.{◌≡◌, ◌+◌, sum_by, Contains}
use Rattle.ats_topology.specs.Port.{port_at}
use Rattle.ats_network.specs.Bridges.{IsBridgeAt}
use Rattle.ats_network.specs.Network.{IsNetwork}
use Rattle.ats_topology.specs.Topology.{IsStationAt}
use Rattle.ats_network.specs.Listeners.{end_of}
use Rattle.ats_network.specs.Senders.{sender_at}
use Rattle.ats_certificate.specs.Certificate.{Holds}
use Rattle.ats_group.specs.Judge.{bucket_rule}
use Rattle.ats_trace.specs.Journey.{Travel, IsOfStream}
use Rattle.ats_trace.specs.Run.{IsIdeal, releases_of}
use Rattle.ats_trace.specs.Stored.{travel_at}
use Rattle.ats_trace.specs.Talker.{talker_of, KeepsBuckets}
use Rattle.ats_trace.specs.Ways.{route_to}
use Rattle.ats_trace.specs.declared.journey.Ending.TheVariants.{Sink}
use Rattle.ats_soundness_law.specs.Sound.{BridgesKeep, IsPromptIfEligible, IsServed, bounds_of}
use Rattle.ats_examples.specs.Networks.{line}
use Rattle.ats_examples.specs.OwnFrames.{own, own_frames, own_rows}
use Rattle.ats_examples.specs.Runs.{one_frame, regulated}
use Rattle.ats_examples.specs.Rows.{line_rows}

-- A network, a certificate and a run for which all that the laws ask holds.

-- the frame that runs over the line
abbrev pub the_frame : Travel
the_frame = travel_at one_frame 0

-- a frame that the bridge holds back, because its talker sent more than its burst
abbrev pub held_back : Travel
held_back = travel_at regulated 1

-- the line is a network, its certificate holds, and one frame's run over it is legal; the frame is of a stream whose
-- talker keeps its buckets; the first port of its path leaves a station and leads to a bridge, and the second leaves
-- that bridge. The frame arrives exactly when the sum of the bounds is over. And a legal run of the same network has a
-- talker that does not keep its buckets, so that containment alone speaks of it: a frame is not served there, nor
-- prompt from the talker on
pub record LawsAreMet : Type 0 where
  pub network : IsNetwork line
  pub holds : Holds line line_rows
  pub legal : IsIdeal line one_frame
  pub among : Contains one_frame the_frame
  pub of_stream : IsOfStream line the_frame
  pub keeps : KeepsBuckets line (releases_of one_frame) (talker_of line the_frame.release.sender)
  pub station : IsStationAt line.topology (port_at line.topology.ports 0).from
  pub to_bridge : IsBridgeAt line.topology (port_at line.topology.ports 0).to
  pub from_bridge : IsBridgeAt line.topology (port_at line.topology.ports 2).from
  pub whole : the_frame.ending
      ≡ Sink (record {
        0 = the_frame.release.at.0 + sum_by (bounds_of line_rows (sender_at line the_frame.release.sender))
            (sender_at line the_frame.release.sender).ports;
      })
  pub sum : sum_by (bounds_of line_rows (sender_at line the_frame.release.sender))
      (sender_at line the_frame.release.sender).ports ≡ 26672000
  pub beyond : IsIdeal line regulated
  pub not_kept : ¬ KeepsBuckets line (releases_of regulated) (talker_of line 0)
  pub not_served : ¬ IsServed line_rows (sender_at line 0) held_back
  pub not_prompt : ¬ IsPromptIfEligible (bounds_of line_rows (sender_at line 0)) (sender_at line 0).ports held_back.hops
      held_back.ending

-- so it is over a line whose bridge has a stream of its own, and takes one: the frame of the stream from end to end has
-- a way that the bridge is asked for, which keeps its buckets though it sends a frame itself
pub record BridgesAreMet : Type 0 where
  pub network : IsNetwork own
  pub holds : Holds own own_rows
  pub legal : IsIdeal own own_frames
  pub among : Contains own_frames (travel_at own_frames 2)
  pub of_stream : IsOfStream own (travel_at own_frames 2)
  pub keeps : KeepsBuckets own (releases_of own_frames) (talker_of own 0)
  pub bridge : IsBridgeAt own.topology (port_at own.topology.ports 2).from
  pub begins_there : talker_of own 1 ≡ (port_at own.topology.ports 2).from
  pub ends_there : end_of own.topology.ports (route_to (sender_at own 2) 0) ≡ (port_at own.topology.ports 2).from
  pub bridges_keep : BridgesKeep bucket_rule own (releases_of own_frames) (route_to (sender_at own 0) 0)
