use Rattle.std.specs.Prelude.{ℕ, ◌+◌, List, [], ◌∷◌, ◌++◌, codes}
use Rattle.ats_topology.specs.Topology.{topology_of}
use Rattle.ats_network.specs.Network.{DeclaredNetwork, long_network}
use Rattle.ats_trace.specs.Journey.{Travel}
use Rattle.ats_examples.specs.Runs.{hop, sunk}
use Rattle.ats_tree_examples.specs.Networks.{branch, stream, tree_links, tree_nodes, turned}
use Rattle.ats_tree_examples.specs.Runs.{copied, copy}

-- Runs of streams whose listeners are in an order of their own, and what is printed of them.

-- the tree with its listeners in the order s3, s2, s5 and s4, and behind its stream another one, from s5 to s4, which
-- has number 1
abbrev pub turned_and_stream : DeclaredNetwork
turned_and_stream = long_network turned.topology (turned.streams ++ stream (codes "z") (13 ∷ 10 ∷ []) [] ∷ []) []

-- the tree with its listeners in the order s4, s5, s2 and s3: each branch begins on the trunk, in front of the one
-- before it. Their first ports are 12, 4 and 6, and their order is neither that of these, nor of names, nor of nodes
abbrev pub backward : DeclaredNetwork
backward = long_network (topology_of (tree_nodes 1000000) tree_links)
    (stream (codes "a") (0 ∷ 2 ∷ 8 ∷ 10 ∷ 12 ∷ 4 ∷ 6 ∷ []) (branch 4 0 3 ∷ branch 5 0 2 ∷ branch 6 0 1 ∷ []) ∷ []) []

-- one frame over the turned tree, which each bridge sends on when it comes, but for the last listener's copy, which the
-- last bridge sends from this time on
abbrev pub over_turned : ℕ → Travel
over_turned start =
    copied (sunk 0 0 1522 (hop 0 0 0 12336000 ∷ hop 13836000 13836000 13836000 26172000 ∷ []) 26672000)
    (
    copy (hop 13836000 13836000 13836000 26172000 ∷ hop 27672000 27672000 27672000 40008000 ∷ []) 40508000
    ∷ copy (hop 27672000 27672000 27672000 40008000 ∷ hop 41508000 41508000 41508000 53844000 ∷ []) 54344000
    ∷ copy (hop 41508000 41508000 start (start + 12336000) ∷ []) (start + 12836000)
    ∷ []
    )

-- when it comes
abbrev pub one_turned : List Travel
one_turned = over_turned 41508000 ∷ []

-- behind a frame of the other stream, which comes there 1 ps earlier
abbrev pub two_turned : List Travel
two_turned =
    over_turned 53843999
    ∷ sunk 27671999 1 1522
    (hop 27671999 27671999 27671999 40007999 ∷ hop 41507999 41507999 41507999 53843999 ∷ [])
    54343999
    ∷ []

-- one frame over the tree whose branches begin backward
abbrev pub one_backward : List Travel
one_backward =
    copied
    (sunk 0 0 1522
    (hop 0 0 0 12336000 ∷ hop 13836000 13836000 13836000 26172000 ∷ hop 27672000 27672000 27672000 40008000
    ∷ hop 41508000 41508000 41508000 53844000 ∷ [])
    54344000)
    (
    copy (hop 41508000 41508000 41508000 53844000 ∷ []) 54344000
    ∷ copy (hop 27672000 27672000 27672000 40008000 ∷ []) 40508000
    ∷ copy (hop 13836000 13836000 13836000 26172000 ∷ []) 26672000
    ∷ []
    )
    ∷ []

-- the lines of listeners go by legs
abbrev pub sent_turned : List ℕ
sent_turned =
    codes "frame 0 a 1522 0\n"
    ++ codes "hop s1>b1 0 eligible 0 start 0 end 12336000\n"
    ++ codes "hop b1>s3 13836000 eligible 13836000 start 13836000 end 26172000\n"
    ++ codes "sink 26672000\n"
    ++ codes "listener s2\n"
    ++ codes "hop b1>b2 13836000 eligible 13836000 start 13836000 end 26172000\n"
    ++ codes "hop b2>s2 27672000 eligible 27672000 start 27672000 end 40008000\n"
    ++ codes "sink 40508000\n"
    ++ codes "listener s5\n"
    ++ codes "hop b2>b3 27672000 eligible 27672000 start 27672000 end 40008000\n"
    ++ codes "hop b3>s5 41508000 eligible 41508000 start 41508000 end 53844000\n"
    ++ codes "sink 54344000\n"
    ++ codes "listener s4\n"
    ++ codes "hop b3>s4 41508000 eligible 41508000 start 41508000 end 53844000\n"
    ++ codes "sink 54344000\n"
    ++ codes "total frames 1 sunk 4 late 0 size 0\n"

abbrev pub sent_backward : List ℕ
sent_backward =
    codes "frame 0 a 1522 0\n"
    ++ codes "hop s1>b1 0 eligible 0 start 0 end 12336000\n"
    ++ codes "hop b1>b2 13836000 eligible 13836000 start 13836000 end 26172000\n"
    ++ codes "hop b2>b3 27672000 eligible 27672000 start 27672000 end 40008000\n"
    ++ codes "hop b3>s4 41508000 eligible 41508000 start 41508000 end 53844000\n"
    ++ codes "sink 54344000\n"
    ++ codes "listener s5\n"
    ++ codes "hop b3>s5 41508000 eligible 41508000 start 41508000 end 53844000\n"
    ++ codes "sink 54344000\n"
    ++ codes "listener s2\n"
    ++ codes "hop b2>s2 27672000 eligible 27672000 start 27672000 end 40008000\n"
    ++ codes "sink 40508000\n"
    ++ codes "listener s3\n"
    ++ codes "hop b1>s3 13836000 eligible 13836000 start 13836000 end 26172000\n"
    ++ codes "sink 26672000\n"
    ++ codes "total frames 1 sunk 4 late 0 size 0\n"

-- those of a stream's listeners stand directly behind its own, in front of the next stream's
abbrev pub turned_report : List ℕ
turned_report =
    codes "stream a frames 1 sunk 1 late 0 size 0 worst 26672000 bound 11\n"
    ++ codes "listener a s2 frames 1 sunk 1 late 0 size 0 worst 40508000 bound 22\n"
    ++ codes "listener a s5 frames 1 sunk 1 late 0 size 0 worst 54344000 bound 33\n"
    ++ codes "listener a s4 frames 1 sunk 1 late 0 size 0 worst 66679999 bound 44\n"
    ++ codes "stream z frames 1 sunk 1 late 0 size 0 worst 26672000 bound 55\n"
    ++ codes "total frames 2 sunk 5 late 0 size 0\n"

abbrev pub backward_report : List ℕ
backward_report =
    codes "stream a frames 1 sunk 1 late 0 size 0 worst 54344000 bound 11\n"
    ++ codes "listener a s5 frames 1 sunk 1 late 0 size 0 worst 54344000 bound 22\n"
    ++ codes "listener a s2 frames 1 sunk 1 late 0 size 0 worst 40508000 bound 33\n"
    ++ codes "listener a s3 frames 1 sunk 1 late 0 size 0 worst 26672000 bound 44\n"
    ++ codes "total frames 1 sunk 4 late 0 size 0\n"
