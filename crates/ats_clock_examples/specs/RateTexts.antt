use Rattle.std.specs.Prelude.{◌≡◌, List, [], ◌∷◌, ◌++◌, codes}
use Rattle.ats_topology.specs.Topology.{DeclaredTopology, topology_of}
use Rattle.ats_topology.specs.declared.node.Node.{Node}
use Rattle.ats_streams.specs.Stream.{DeclaredStream}
use Rattle.ats_network.specs.Network.{DeclaredNetwork, IsNetwork, long_network}
use Rattle.ats_network_text.specs.Text.{stream_text}
use Rattle.ats_examples.specs.Networks.{bridge, station}
use Rattle.ats_tree_examples.specs.Networks.{branch, stream, tree_links}
use Rattle.ats_clock_examples.specs.Needs.{clocked_bridge}

-- Where a stream has a line of rates, and which words stand there.

-- the tree of five stations. The clock of the first bridge deviates by 100 parts in a million and ticks every 8 ns,
-- that of the second is kept within 2 us and does not deviate, and that of the third is ideal
abbrev pub shown_nodes : List Node
shown_nodes =
    station (codes "s1") ∷ station (codes "s2") ∷ station (codes "s3") ∷ station (codes "s4") ∷ station (codes "s5")
    ∷ clocked_bridge (codes "b1") 1000000 100 8000 ∷ clocked_bridge (codes "b2") 1000000 0 2000000
    ∷ bridge (codes "b3") 1000000 ∷ []

abbrev pub shown_tree : DeclaredTopology
shown_tree = topology_of shown_nodes tree_links

-- streams that end at a bridge: from s4 at the second one, over the ideal one alone, and from s1 there too, over the
-- first one
abbrev pub ending : DeclaredStream
ending = stream (codes "d") (11 ∷ 9 ∷ []) []

abbrev pub ending_behind : DeclaredStream
ending_behind = stream (codes "h") (0 ∷ 2 ∷ []) []

-- streams from the ideal bridge to s2, over the second bridge, and to s5, with the one or the other of these first
abbrev pub later_declared : DeclaredStream
later_declared = stream (codes "e") (9 ∷ 4 ∷ 12 ∷ []) (branch 2 0 0 ∷ [])

abbrev pub first_declared : DeclaredStream
first_declared = stream (codes "g") (12 ∷ 9 ∷ 4 ∷ []) (branch 1 0 0 ∷ [])

-- a stream from s2 to s4, over the second bridge and the ideal one
abbrev pub stepped : DeclaredStream
stepped = stream (codes "i") (5 ∷ 8 ∷ 10 ∷ []) []

-- streams from bridges with clocks: from the second one to s2 and to s5, and from the first one to s3
abbrev pub own_stepped : DeclaredStream
own_stepped = stream (codes "k") (4 ∷ 8 ∷ 12 ∷ []) (branch 1 0 0 ∷ [])

abbrev pub own : DeclaredStream
own = stream (codes "m") (6 ∷ []) []

abbrev pub shown : DeclaredNetwork
shown = long_network shown_tree
    (ending ∷ ending_behind ∷ later_declared ∷ first_declared ∷ stepped ∷ own_stepped ∷ own ∷ []) []

-- the clock of a bridge at which a stream ends changes nothing
pub record EndsChangeNothing : Type 0 where
  pub none : stream_text shown_tree ending ≡ codes "stream d 6 s4>b3 b3>b2\n"
  pub behind : stream_text shown_tree ending_behind
      ≡ codes "stream h 6 s1>b1 b1>b2\n" ++ codes "rates h 100010002:12337 100020004:12338\n"

-- there is a line where one port of one leg sees something else than what is declared, be it the first leg or the last
-- one; and a port of the talker that sees what is declared has no word there
pub record OnePortIsEnough : Type 0 where
  pub not_last : stream_text shown_tree later_declared
      ≡ codes "stream e 6 b3>b2 b2>s2\n" ++ codes "listener e s5 6 b3>s5\n"
      ++ codes "rates e 100000000:12536 100000000:12736\n"
  pub not_first : stream_text shown_tree first_declared
      ≡ codes "stream g 6 b3>s5\n" ++ codes "listener g s2 6 b3>b2 b2>s2\n"
      ++ codes "rates g 100000000:12536 100000000:12736\n"

-- a clock with a step that does not deviate changes bursts alone
pub record BurstsAreEnough : Type 0 where
  pub passing : stream_text shown_tree stepped
      ≡ codes "stream i 6 s2>b2 b2>b3 b3>s4\n"
      ++ codes "rates i 100000000:12536 100000000:12736 100000000:12736 100000000:12736\n"
  pub talking : stream_text shown_tree own_stepped
      ≡ codes "stream k 6 b2>s2\n" ++ codes "listener k s5 6 b2>b3 b3>s5\n"
      ++ codes "rates k 100000000:12536 100000000:12536 100000000:12536 100000000:12536\n"

-- each port of a talker with a clock has a word, also where there is no other
pub record TalkersHaveAWord : Type 0 where
  pub alone : stream_text shown_tree own ≡ codes "stream m 6 b1>s3\n" ++ codes "rates m 100010000:12337\n"

pub record ChangedRatesAreShown : Type 0 where
  pub network : IsNetwork shown
  pub ends : EndsChangeNothing
  pub ports : OnePortIsEnough
  pub bursts : BurstsAreEnough
  pub talkers : TalkersHaveAWord
