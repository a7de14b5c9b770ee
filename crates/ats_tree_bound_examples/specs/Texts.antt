use Rattle.std.specs.Prelude.{◌≡◌, ℕ, List, [], ◌∷◌, ◌++◌, codes, Some, None}
use Rattle.std.specs.List.{flat_map}
use Rattle.std.specs.Option.{option_map}
use Rattle.ats_topology.specs.Topology.{topology_of}
use Rattle.ats_network.specs.Network.{DeclaredNetwork, long_network}
use Rattle.ats_tally.specs.declared.reason.Reason.TheVariants.{Deadline}
use Rattle.ats_bound.specs.Reason.{reason_of}
use Rattle.ats_checker.specs.Refusal.{refusal_of}
use Rattle.ats_network_text.specs.Text.{show_text, stream_lines}
use Rattle.ats_verdict_text.specs.Text.{accepted_text, reason_text, refusal_text, refused_text}
use Rattle.ats_explain_text.specs.Text.{explain_text}
use Rattle.ats_tree_examples.specs.Networks.{stream_of, split_by_class, split_topology, tree, tree_branches, tree_links}
use Rattle.ats_tree_examples.specs.Networks.{tree_nodes, tree_ports, tree_within, turned, turned_within}
use Rattle.ats_tree_examples.specs.Bounds.{tree_rows}

-- What is printed of streams with several listeners.

-- a further listener is named behind its stream, and the first by the stream alone
pub record ReasonsAreWritten : Type 0 where
  pub for_further : reason_text split_topology (Deadline (codes "v") (Some (codes "s3")) 21) ≡ codes "deadline v s3 21"
  pub for_first : reason_text split_topology (Deadline (codes "v") None 21) ≡ codes "deadline v 21"
  pub bound : option_map (reason_text tree.topology) (reason_of (tree_within 54343))
      ≡ Some (codes "deadline a s4 54344000")
  pub check : option_map (λ refusal. refused_text (refusal_text turned.topology refusal))
      (refusal_of (turned_within 54343) tree_rows)
      ≡ Some (codes "refused deadline a s5 54344000\n")
  pub check_first : option_map (λ refusal. refused_text (refusal_text tree.topology refusal))
      (refusal_of (tree_within 40507) tree_rows)
      ≡ Some (codes "refused deadline a 40508000\n")

abbrev pub accepted : List ℕ
accepted =
    codes "hop a s1>b1 13836000\n"
    ++ codes "hop a b1>b2 13836000\n"
    ++ codes "hop a b2>s2 12836000\n"
    ++ codes "sum a 40508000\n"
    ++ codes "hop a b1>s3 12836000\n"
    ++ codes "sum a s3 26672000\n"
    ++ codes "hop a b2>b3 13836000\n"
    ++ codes "hop a b3>s4 12836000\n"
    ++ codes "sum a s4 54344000\n"
    ++ codes "hop a b3>s5 12836000\n"
    ++ codes "sum a s5 54344000\n"
    ++ codes "accepted 1\n"

-- with the listeners in another order
abbrev pub accepted_turned : List ℕ
accepted_turned =
    codes "hop a s1>b1 13836000\n"
    ++ codes "hop a b1>s3 12836000\n"
    ++ codes "sum a 26672000\n"
    ++ codes "hop a b1>b2 13836000\n"
    ++ codes "hop a b2>s2 12836000\n"
    ++ codes "sum a s2 40508000\n"
    ++ codes "hop a b2>b3 13836000\n"
    ++ codes "hop a b3>s5 12836000\n"
    ++ codes "sum a s5 54344000\n"
    ++ codes "hop a b3>s4 12836000\n"
    ++ codes "sum a s4 54344000\n"
    ++ codes "accepted 1\n"

-- each port of a stream has one line, in the leg that it stands in, and not one for each listener behind it; a sum has
-- the ports in front of its leg too; and listeners are in the order of legs, each by the name of its station
pub record BoundsAreWritten : Type 0 where
  pub in_order : accepted_text tree tree_rows ≡ accepted
  pub in_another_order : accepted_text turned tree_rows ≡ accepted_turned

-- the tree, where the stream has another class at each port
abbrev pub tree_of_classes : DeclaredNetwork
tree_of_classes = long_network (topology_of (tree_nodes 1000000) tree_links)
    (stream_of (codes "a") tree_ports tree_branches (1 ∷ 2 ∷ 3 ∷ 4 ∷ 5 ∷ 6 ∷ 7 ∷ []) 1000000 ∷ []) []

abbrev pub shown : List ℕ
shown =
    codes "port 0 s1>b1 1000 1500000\n"
    ++ codes "port 1 b1>s1 1000 500000\n"
    ++ codes "port 2 b1>b2 1000 1500000\n"
    ++ codes "port 3 b2>b1 1000 1500000\n"
    ++ codes "port 4 b2>s2 1000 500000\n"
    ++ codes "port 5 s2>b2 1000 1500000\n"
    ++ codes "port 6 b1>s3 1000 500000\n"
    ++ codes "port 7 s3>b1 1000 1500000\n"
    ++ codes "port 8 b2>b3 1000 1500000\n"
    ++ codes "port 9 b3>b2 1000 1500000\n"
    ++ codes "port 10 b3>s4 1000 500000\n"
    ++ codes "port 11 s4>b3 1000 1500000\n"
    ++ codes "port 12 b3>s5 1000 500000\n"
    ++ codes "port 13 s5>b3 1000 1500000\n"
    ++ codes "stream a 1,2,3 s1>b1 b1>b2 b2>s2\n"
    ++ codes "listener a s3 4 b1>s3\n"
    ++ codes "listener a s4 5,6 b2>b3 b3>s4\n"
    ++ codes "listener a s5 7 b3>s5\n"
    ++ codes "total ports 14 streams 1 flows 0\n"

abbrev pub lines_turned : List ℕ
lines_turned =
    codes "stream a 6 s1>b1 b1>s3\n"
    ++ codes "listener a s2 6 b1>b2 b2>s2\n"
    ++ codes "listener a s5 6 b2>b3 b3>s5\n"
    ++ codes "listener a s4 6 b3>s4\n"

abbrev pub lines_by_class : List ℕ
lines_by_class =
    codes "stream a 6 s1>b1 b1>s2\n"
    ++ codes "listener a s3 5 b1>s3\n"
    ++ codes "stream z 6,5 s1>b1 b1>s3\n"

-- a line has the classes of its own leg, and not those of the trunk; and listeners are those of `check`, in its order
pub record LegsAreShown : Type 0 where
  pub classes : show_text tree_of_classes ≡ shown
  pub in_another_order : flat_map (stream_lines turned.topology) turned.streams ≡ lines_turned
  pub in_another_class : flat_map (stream_lines split_topology) split_by_class.streams ≡ lines_by_class

-- the words of a hop of the trunk or a branch, behind its class: of one that leads to a bridge, and of a last one
abbrev pub to_bridge : List ℕ
to_bridge =
    codes " lower 0 - bursts 11664000 higher 0 frame 672000 latency 1500000 bound 13836000 "
    ++ codes "stay 11664000 of 1000000000\n"

abbrev pub to_station : List ℕ
to_station = codes " lower 0 - bursts 11664000 higher 0 frame 672000 latency 500000 bound 12836000\n"

-- the lines of ports, in the order of their numbers
abbrev pub loads : List ℕ
loads =
    codes "port s1>b1 load 100000000000\n"
    ++ codes "port b1>b2 load 100000000000\n"
    ++ codes "port b2>s2 load 100000000000\n"
    ++ codes "port b1>s3 load 100000000000\n"
    ++ codes "port b2>b3 load 100000000000\n"
    ++ codes "port b3>s4 load 100000000000\n"
    ++ codes "port b3>s5 load 100000000000\n"

abbrev pub explained : List ℕ
explained =
    codes "stream a sum 40508000 deadline 50000000 slack 9492000\n"
    ++ codes "hop s1>b1 6" ++ to_bridge
    ++ codes "hop b1>b2 6" ++ to_bridge
    ++ codes "hop b2>s2 6" ++ to_station
    ++ codes "listener a s3 sum 26672000 deadline 50000000 slack 23328000\n"
    ++ codes "hop b1>s3 6" ++ to_station
    ++ codes "listener a s4 sum 54344000 deadline 50000000 late 4344000\n"
    ++ codes "hop b2>b3 6" ++ to_bridge
    ++ codes "hop b3>s4 6" ++ to_station
    ++ codes "listener a s5 sum 54344000 deadline 50000000 late 4344000\n"
    ++ codes "hop b3>s5 6" ++ to_station
    ++ loads
    ++ codes "total streams 1 late 2 over 0 tightest a s4 late 4344000\n"

-- with the listeners in another order
abbrev pub explained_turned : List ℕ
explained_turned =
    codes "stream a sum 26672000 deadline 50000000 slack 23328000\n"
    ++ codes "hop s1>b1 6" ++ to_bridge
    ++ codes "hop b1>s3 6" ++ to_station
    ++ codes "listener a s2 sum 40508000 deadline 50000000 slack 9492000\n"
    ++ codes "hop b1>b2 6" ++ to_bridge
    ++ codes "hop b2>s2 6" ++ to_station
    ++ codes "listener a s5 sum 54344000 deadline 50000000 late 4344000\n"
    ++ codes "hop b2>b3 6" ++ to_bridge
    ++ codes "hop b3>s5 6" ++ to_station
    ++ codes "listener a s4 sum 54344000 deadline 50000000 late 4344000\n"
    ++ codes "hop b3>s4 6" ++ to_station
    ++ loads
    ++ codes "total streams 1 late 2 over 0 tightest a s5 late 4344000\n"

-- each listener has a line, and behind it the hops of its own leg; a port's load counts the stream once; and the totals
-- count listeners that are late, and name the first of two that are as tight. Listeners are in the order of legs, which
-- need not be that of their names
pub record ExplanationIsWritten : Type 0 where
  pub explain : explain_text (tree_within 50000) ≡ explained
  pub in_another_order : explain_text (turned_within 50000) ≡ explained_turned
