use Rattle.std.specs.Prelude.{◌≡◌, ℕ, List, [], ◌∷◌, codes, None}
use Rattle.ats_clock.specs.Rates.{committed}
use Rattle.ats_topology.specs.Topology.{topology_of}
use Rattle.ats_topology.specs.declared.node.Kind.TheVariants.{Bridge}
use Rattle.ats_topology.specs.declared.node.Node.{Node}
use Rattle.ats_streams.specs.Stream.{declared_stream}
use Rattle.ats_network.specs.Network.{DeclaredNetwork, IsNetwork, declared_network}
use Rattle.ats_network.specs.Rates.{IsRated, committed_at, scheduled_at}
use Rattle.ats_network.specs.Sender.{Sender, stream_sender}
use Rattle.ats_network.specs.Senders.{sender_at}
use Rattle.ats_examples.specs.Networks.{flow, station, stream, two_links}

-- Rates and bursts along a line of two bridges whose clocks are not ideal.

-- a bridge whose clock deviates by 100 parts in a million at most and ticks every 8 ns
abbrev pub slow_bridge : List ℕ → Node
slow_bridge name = record { name = name; kind = Bridge 1000 1000 1000000 100 8000 }

abbrev pub slow_nodes : List Node
slow_nodes =
    station (codes "s1") ∷ station (codes "s2") ∷ slow_bridge (codes "b1") ∷ slow_bridge (codes "b2") ∷ []

-- over it a stream from s1 to s2, which has number 0, one that the first bridge sends, number 1, and a flow, number 2
abbrev pub over_slow : DeclaredNetwork
over_slow = declared_network (topology_of slow_nodes two_links)
    (stream (codes "a") (0 ∷ 2 ∷ 4 ∷ []) ∷ stream (codes "b") (2 ∷ 4 ∷ []) ∷ [])
    (flow (codes "f") (0 ∷ 2 ∷ 4 ∷ []) ∷ [])

-- one with the greatest rate that a stream may have
abbrev pub fastest : Sender
fastest = stream_sender
    (declared_stream (codes "c") (0 ∷ 2 ∷ 4 ∷ []) (6 ∷ 6 ∷ 6 ∷ []) 100000000000 12336 64 1522 1000000 None)

-- both streams declare 100 Mb/s and a burst of 12336 bits. The first leaves its station with these; the scheduler in
-- each bridge is to have more, and lets more through. The last port leads to a station, where the clock is ideal. The
-- second begins by the first bridge's clock, and the flow has no rate anywhere. All that a scheduler may have, but the
-- greatest rate leaves no more for the first bridge
pub record SlowClocks : Type 0 where
  pub network : IsNetwork over_slow
  pub from_station : committed_at over_slow.topology 0 (sender_at over_slow 0) ≡ committed 100000000 12336
  pub first_scheduler : scheduled_at over_slow.topology 0 (sender_at over_slow 0) ≡ committed 100010002 12337
  pub behind_first : committed_at over_slow.topology 2 (sender_at over_slow 0) ≡ committed 100020004 12338
  pub second_scheduler : scheduled_at over_slow.topology 2 (sender_at over_slow 0) ≡ committed 100030008 12339
  pub behind_second : committed_at over_slow.topology 4 (sender_at over_slow 0) ≡ committed 100040012 12340
  pub at_station : scheduled_at over_slow.topology 4 (sender_at over_slow 0) ≡ committed 100040012 12340
  pub from_bridge : committed_at over_slow.topology 2 (sender_at over_slow 1) ≡ committed 100010000 12337
  pub of_flow : scheduled_at over_slow.topology 2 (sender_at over_slow 2) ≡ committed 0 0
  pub rated : IsRated over_slow.topology (sender_at over_slow 0) 4
  pub not_rated : ¬ IsRated over_slow.topology fastest 0
