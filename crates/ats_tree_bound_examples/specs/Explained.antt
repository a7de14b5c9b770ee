use Rattle.std.specs.Prelude.{◌≡◌, ℕ, List, [], ◌∷◌, codes, Some, None}
use Rattle.ats_topology.specs.Topology.{topology_of}
use Rattle.ats_topology.specs.declared.node.Node.{Node}
use Rattle.ats_streams.specs.Stream.{branching_stream}
use Rattle.ats_network.specs.Network.{DeclaredNetwork, long_network}
use Rattle.ats_tally.specs.declared.reason.Reason.TheVariants.{Deadline}
use Rattle.ats_explain.specs.Totals.{over_count, totals_of}
use Rattle.ats_explain.specs.declared.totals.Totals.{Totals}
use Rattle.ats_checker.specs.declared.refusal.Refusal.TheVariants.{Network}
use Rattle.ats_examples.specs.Networks.{bridge, station}
use Rattle.ats_tree_examples.specs.Networks.{split_by_class, split_stream, tree, tree_links}
use Rattle.ats_tree_examples.specs.Bounds.{HasReason, rows_by_class}
use Rattle.ats_tree_bound_examples.specs.Refusals.{AreRefused}

-- Hops and listeners of streams with several listeners, each told of once and in their order.

-- the tree, whose second and third bridge have these maximum residence times in nanoseconds
abbrev pub staying_nodes : ℕ → ℕ → List Node
staying_nodes second third =
    station (codes "s1") ∷ station (codes "s2") ∷ station (codes "s3") ∷ station (codes "s4") ∷ station (codes "s5")
    ∷ bridge (codes "b1") 1000000 ∷ bridge (codes "b2") second ∷ bridge (codes "b3") third ∷ []

abbrev pub staying : ℕ → ℕ → DeclaredNetwork
staying second third = long_network (topology_of (staying_nodes second third) tree_links) tree.streams []

-- frames may stay as long as they need, or 1 ns less at the third bridge, behind which are two listeners, or so at the
-- second too, behind which are three. Each such hop counts once, and not for each listener behind it
pub record HopsCountOnce : Type 0 where
  pub none : over_count (staying 11664 11664) ≡ 0
  pub at_third : over_count (staying 11664 11663) ≡ 1
  pub at_second : over_count (staying 11663 11664) ≡ 1
  pub at_both : over_count (staying 11663 11663) ≡ 2

-- the split whose copies have another class, with a stream beside, where both have this deadline
abbrev pub by_class_within : ℕ → DeclaredNetwork
by_class_within deadline_ns = long_network split_by_class.topology
    (split_stream (6 ∷ 6 ∷ 5 ∷ []) deadline_ns
    ∷ branching_stream (codes "z") (0 ∷ 4 ∷ []) [] (6 ∷ 5 ∷ []) 50000000 12336 64 1522 deadline_ns None
    ∷ [])
    []

-- the totals of these two streams, of which so many listeners are late, and the second of the first stream is tightest
abbrev pub totals_of_two : ℕ → ℕ → Totals
totals_of_two late deadline = record {
  streams = 2;
  late = late;
  over = 0;
  tightest = Some (record {
    name = codes "a";
    listener = Some (codes "s3");
    margin = record { sum = 51344000; deadline = deadline };
  });
}

-- the second listener of the first stream and the one of the second have the same sum and the same deadline. The
-- first stream's comes before, though it is no first listener: it is the tightest, and the first that is late
pub record StreamsComeInOrder : Type 0 where
  pub tightest : totals_of split_by_class ≡ totals_of_two 0 1000000000
  pub late : totals_of (by_class_within 50000) ≡ totals_of_two 2 50000000
  pub reason : HasReason (by_class_within 50000) (Deadline (codes "a") (Some (codes "s3")) 51344000)
      (Deadline (codes "z") None 51344000)
  pub refusal : AreRefused (by_class_within 50000) rows_by_class
      (Network (Deadline (codes "a") (Some (codes "s3")) 51344000)) (Network (Deadline (codes "z") None 51344000))

pub record TotalsAreOfEach : Type 0 where
  pub hops : HopsCountOnce
  pub streams : StreamsComeInOrder
