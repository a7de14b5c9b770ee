use Rattle.std.specs.Prelude.{◌≡◌, ℕ, List, [], ◌∷◌, ◌++◌, codes}
use Rattle.ats_topology.specs.Topology.{topology_of}
use Rattle.ats_topology.specs.declared.node.Kind.TheVariants.{Bridge}
use Rattle.ats_topology.specs.declared.node.Node.{Node}
use Rattle.ats_network.specs.Network.{DeclaredNetwork, long_network}
use Rattle.ats_network_text.specs.Text.{show_text}
use Rattle.ats_examples.specs.Networks.{bridge, flow, station}
use Rattle.ats_tree_examples.specs.Networks.{behind_branches, behind_ports, stream, tree_links, turned_branches}
use Rattle.ats_tree_examples.specs.Networks.{turned_ports}

-- What is printed of rates and bursts that clocks change.

-- a bridge whose clock deviates by so many parts in a million at most, and has a step of so many picoseconds
abbrev pub clocked : List ℕ → ℕ → ℕ → Node
clocked name ppm step = record { name = name; kind = Bridge 1000 1000 1000000 ppm step }

-- the nodes of the tree, where two bridges have clocks that are not ideal
abbrev pub clocked_nodes : List Node
clocked_nodes =
    station (codes "s1") ∷ station (codes "s2") ∷ station (codes "s3") ∷ station (codes "s4") ∷ station (codes "s5")
    ∷ clocked (codes "b1") 100 8000 ∷ clocked (codes "b2") 0 2000000 ∷ bridge (codes "b3") 1000000 ∷ []

-- the tree with its listeners in another order, a stream that begins at the second bridge and has a branch there and
-- one behind it, one from the third bridge to a station, and a flow
abbrev pub by_clocks : DeclaredNetwork
by_clocks = long_network (topology_of clocked_nodes tree_links)
    (stream (codes "a") turned_ports turned_branches
    ∷ stream (codes "b") behind_ports behind_branches
    ∷ stream (codes "c") (12 ∷ []) []
    ∷ [])
    (flow (codes "f") (7 ∷ 2 ∷ 4 ∷ []) ∷ [])

abbrev pub shown_by_clocks : List ℕ
shown_by_clocks =
    codes "port 0 s1>b1 1000 1500000\n"
    ++ codes "port 1 b1>s1 1000 500000\n"
    ++ codes "port 2 b1>b2 1000 1500000\n"
    ++ codes "port 3 b2>b1 1000 1500000\n"
    ++ codes "port 4 b2>s2 1000 500000\n"
    ++ codes "port 5 s2>b2 1000 1500000\n"
    ++ codes "port 6 b1>s3 1000 500000\n"
    ++ codes "port 7 s3>b1 1000 1500000\n"
    ++ codes "port 8 b2>b3 1000 1500000\n"
    ++ codes "port 9 b3>b2 1000 1500000\n"
    ++ codes "port 10 b3>s4 1000 500000\n"
    ++ codes "port 11 s4>b3 1000 1500000\n"
    ++ codes "port 12 b3>s5 1000 500000\n"
    ++ codes "port 13 s5>b3 1000 1500000\n"
    ++ codes "stream a 6 s1>b1 b1>s3\n"
    ++ codes "listener a s2 6 b1>b2 b2>s2\n"
    ++ codes "listener a s5 6 b2>b3 b3>s5\n"
    ++ codes "listener a s4 6 b3>s4\n"
    ++ codes "rates a"
    ++ codes " 100010002:12337 100020004:12338"
    ++ codes " 100010002:12337 100020004:12338 100020004:12539 100020004:12740"
    ++ codes " 100020004:12539 100020004:12740 100020004:12740 100020004:12740"
    ++ codes " 100020004:12740 100020004:12740\n"
    ++ codes "stream b 6 b2>s2\n"
    ++ codes "listener b s3 6 b2>b1 b1>s3\n"
    ++ codes "listener b s1 6 b1>s1\n"
    ++ codes "rates b 100000000:12536"
    ++ codes " 100000000:12536 100010002:12537 100020004:12538"
    ++ codes " 100010002:12537 100020004:12538\n"
    ++ codes "stream c 6 b3>s5\n"
    ++ codes "flow f 0 s3>b1 b1>b2 b2>s2\n"
    ++ codes "total ports 14 streams 3 flows 1\n"

-- for each port of a stream, in the order of its legs, what its scheduler has and what the port sees. At a port of the
-- talker there is just what the port sees, where it is not what is declared: not at that of a station, and at each of
-- those by which a bridge sends its own. Behind an ideal clock both are what the port before sees; and where all of a
-- stream is as declared there is no line
pub record RatesAreShown : Type 0 where
  pub show : show_text by_clocks ≡ shown_by_clocks
