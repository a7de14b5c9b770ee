use Rattle.std.specs.Prelude.{◌≡◌, ℕ, List, [], ◌∷◌, codes, None}
use Rattle.ats_clock.specs.Rates.{committed}
use Rattle.ats_clock.specs.declared.committed.Committed.{Committed}
use Rattle.ats_topology.specs.Topology.{topology_of}
use Rattle.ats_topology.specs.declared.link.Link.{Link}
use Rattle.ats_topology.specs.declared.node.Kind.TheVariants.{Bridge}
use Rattle.ats_topology.specs.declared.node.Node.{Node}
use Rattle.ats_streams.specs.Stream.{declared_stream}
use Rattle.ats_network.specs.Network.{DeclaredNetwork, long_network}
use Rattle.ats_network.specs.Rates.{committed_at, scheduled_at}
use Rattle.ats_network.specs.Senders.{sender_at}
use Rattle.ats_certificate.specs.Certificate.{need_behind}
use Rattle.ats_certificate.specs.declared.row.Row.{Row}
use Rattle.ats_examples.specs.Networks.{link, station}
use Rattle.ats_examples.specs.Rows.{row_with}
use Rattle.ats_tree_examples.specs.Bounds.{IsBounded}
use Rattle.ats_tree_examples.specs.Networks.{branch, stream}
use Rattle.ats_clock_examples.specs.Needs.{clocked_bridge}

-- A tree of three bridges whose clocks are three different ones.

-- port 0 leads from s1 to b1, port 2 from there to b2, port 4 to b3; ports 6 and 8 lead from b2 to s2 and s3, and port
-- 10 from b3 to s4
abbrev pub tree_links : List Link
tree_links =
    link (codes "s1") (codes "b1") ∷ link (codes "b1") (codes "b2") ∷ link (codes "b1") (codes "b3")
    ∷ link (codes "b2") (codes "s2") ∷ link (codes "b2") (codes "s3") ∷ link (codes "b3") (codes "s4") ∷ []

abbrev pub tree_stations : List Node
tree_stations = station (codes "s1") ∷ station (codes "s2") ∷ station (codes "s3") ∷ station (codes "s4") ∷ []

-- the first bridge takes 500 to 1000 ns to process a frame, and its clock deviates by 100 parts in a million and ticks
-- every 8 ns; that of the second is kept within a microsecond; that of the third deviates by 50 parts in a million
-- without a step
abbrev pub clocked_nodes : List Node
clocked_nodes =
    station (codes "s1") ∷ station (codes "s2") ∷ station (codes "s3") ∷ station (codes "s4")
    ∷ record { name = codes "b1"; kind = Bridge 500 1000 1000000 100 8000 }
    ∷ clocked_bridge (codes "b2") 1000000 0 2000000 ∷ clocked_bridge (codes "b3") 1000000 50 0 ∷ []

-- with a stream from s1 to s2, s3 and s4, which has number 0, and one of class 7 from s1 to s4, with a rate of 5 Mb/s,
-- a burst of 2000 bits and 64 to 200 octets, which has number 1
abbrev pub clocked_tree : DeclaredNetwork
clocked_tree = long_network (topology_of clocked_nodes tree_links)
    (stream (codes "a") (0 ∷ 2 ∷ 6 ∷ 8 ∷ 4 ∷ 10 ∷ []) (branch 3 0 2 ∷ branch 4 0 1 ∷ [])
    ∷ declared_stream (codes "b") (0 ∷ 4 ∷ 10 ∷ []) (7 ∷ 7 ∷ 7 ∷ []) 5000000 2000 64 200 1000000 None
    ∷ [])
    []

-- its certificate
abbrev pub clocked_tree_rows : List Row
clocked_tree_rows =
    row_with 0 6 5000000000 100000000000 14336 0 672 13732664 15904664
    ∷ row_with 0 7 0 5000000000 2000 12336 672 13664000 15836000
    ∷ row_with 2 6 0 100020004000 12338 0 672 11666000 13838000
    ∷ row_with 4 6 5001002000 100020004000 14340 0 672 13736698 15908698
    ∷ row_with 4 7 0 5001002000 2002 12336 672 13666000 15838000
    ∷ row_with 6 6 0 100020004000 12740 0 672 12068000 13240000
    ∷ row_with 8 6 0 100020004000 12740 0 672 12068000 13240000
    ∷ row_with 10 6 5001504000 100030008000 14342 0 672 13738715 14910715
    ∷ row_with 10 7 0 5001504000 2003 12336 672 13667000 14839000
    ∷ []

-- the tree with a stream that its first bridge sends to s2 and s4: the branch begins at the talker too
abbrev pub talking_tree : DeclaredNetwork
talking_tree = long_network (topology_of clocked_nodes tree_links)
    (stream (codes "h") (2 ∷ 6 ∷ 4 ∷ 10 ∷ []) (branch 2 0 0 ∷ []) ∷ []) []

abbrev pub talking_tree_rows : List Row
talking_tree_rows =
    row_with 2 6 0 100010000000 12337 0 672 11665000 13837000
    ∷ row_with 4 6 0 100010000000 12337 0 672 11665000 13837000
    ∷ row_with 6 6 0 100010000000 12739 0 672 12067000 13239000
    ∷ row_with 10 6 0 100020002000 12338 0 672 11666000 12838000
    ∷ []

-- what comes of a sender of a network to a port, and what its scheduler behind the port has
abbrev pub coming : DeclaredNetwork → ℕ → ℕ → Committed
coming network sender port = committed_at network.topology port (sender_at network sender)

abbrev pub scheduled : DeclaredNetwork → ℕ → ℕ → Committed
scheduled network sender port = scheduled_at network.topology port (sender_at network sender)

-- to the ports from the second bridge the first stream comes by the clocks of the first one and of the second, in this
-- order, and to the port to the third bridge by that of the first alone, though the ports from the second stand before
-- it among the stream's
pub record BranchesHaveOwnRates : Type 0 where
  pub from_station : coming clocked_tree 0 0 ≡ committed 100000000 12336
  pub to_second : coming clocked_tree 0 2 ≡ committed 100020004 12338
  pub to_third : coming clocked_tree 0 4 ≡ committed 100020004 12338
  pub to_first_listener : coming clocked_tree 0 6 ≡ committed 100020004 12740
  pub to_second_listener : coming clocked_tree 0 8 ≡ committed 100020004 12740
  pub to_third_listener : coming clocked_tree 0 10 ≡ committed 100030008 12339
  pub in_first : scheduled clocked_tree 0 0 ≡ committed 100010002 12337
  pub in_second : scheduled clocked_tree 0 2 ≡ committed 100020004 12539
  pub in_third : scheduled clocked_tree 0 4 ≡ committed 100025006 12338
  pub at_listener : scheduled clocked_tree 0 10 ≡ committed 100030008 12339
  pub alone_to_third : coming clocked_tree 1 4 ≡ committed 5001002 2002
  pub alone_to_listener : coming clocked_tree 1 10 ≡ committed 5001504 2003
  pub alone_in_first : scheduled clocked_tree 1 0 ≡ committed 5000501 2001
  pub alone_in_third : scheduled clocked_tree 1 4 ≡ committed 5001253 2002

-- the frames of a bridge leave it by its clock over either port, and no scheduler there has more for them. On each
-- branch they go on by the clock of one bridge
pub record TalkersHaveOwnRates : Type 0 where
  pub to_second : coming talking_tree 0 2 ≡ committed 100010000 12337
  pub to_third : coming talking_tree 0 4 ≡ committed 100010000 12337
  pub to_first_listener : coming talking_tree 0 6 ≡ committed 100010000 12739
  pub to_other_listener : coming talking_tree 0 10 ≡ committed 100020002 12338
  pub in_second : scheduled talking_tree 0 2 ≡ committed 100010000 12538
  pub in_third : scheduled talking_tree 0 4 ≡ committed 100015001 12337

-- the need behind a port is by the clock of the bridge that it leads to; the port to the first bridge has a spread of
-- 500000 ps, which deviates with the wait
pub record BranchesHaveOwnNeeds : Type 0 where
  pub in_first : need_behind clocked_tree 0 13732664 ≡ 14242088
  pub higher_in_first : need_behind clocked_tree 0 13664000 ≡ 14173417
  pub in_second : need_behind clocked_tree 2 11666000 ≡ 13666000
  pub in_third : need_behind clocked_tree 4 13736698 ≡ 13737385
  pub higher_in_third : need_behind clocked_tree 4 13666000 ≡ 13666684

pub record BranchesHaveOwnClocks : Type 0 where
  pub bounded : IsBounded clocked_tree clocked_tree_rows
  pub rates : BranchesHaveOwnRates
  pub needs : BranchesHaveOwnNeeds
  pub talking_bounded : IsBounded talking_tree talking_tree_rows
  pub talkers : TalkersHaveOwnRates
