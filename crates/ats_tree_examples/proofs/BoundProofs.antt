use Rattle.std.proofs.Common.{◌≡◌, ◌≢◌, true, false, ℕ, List, [], Some, None, refl, ap, arith}
use Rattle.std.specs.Prelude.{codes, slice_index_or}
use Rattle.std.proofs.lemmas.Bool.{false≢true}
use Rattle.ats_network.specs.Network.{DeclaredNetwork, IsNetwork}
use Rattle.ats_certificate.specs.Certificate.{Holds}
use Rattle.ats_certificate.specs.declared.row.Row.{Row}
use Rattle.ats_tally.specs.declared.reason.Reason.{Reason}
use Rattle.ats_tally.specs.declared.reason.Reason.TheVariants.{Residence, Deadline}
use Rattle.ats_bound.specs.First.{IsFirstReason}
use Rattle.ats_bound.specs.Least.{least_certificate}
use Rattle.ats_bound.specs.Reason.{reason_of}
use Rattle.ats_bound.proofs.FirstReason.{each_reason_is_the_first, first_reason_is_one}
use Rattle.ats_bound.proofs.NoneHolds.{reason_leaves_none}
use Rattle.ats_examples.specs.Rows.{line_rows}
use Rattle.ats_examples.proofs.NetworkTest.{network_passes, long_network_by}
use Rattle.ats_examples.proofs.RuleTest.{all_pass, holds_by, rest_passes}
use Rattle.ats_tree_examples.specs.Networks.{split, split_and_flow, by_two_streams, crossed, tree, tree_and_flow}
use Rattle.ats_tree_examples.specs.Networks.{beside_stream_within, split_nodes, split_links, tree_nodes, tree_links}
use Rattle.ats_tree_examples.specs.Networks.{split_by_class, tree_within, turned, turned_within}
use Rattle.ats_tree_examples.specs.Bounds.{HasReason, IsBounded, ListenersAreExplained, ListenersHaveBounds}
use Rattle.ats_tree_examples.specs.Bounds.{ReasonsNameListeners, SumsCountOnce, crossed_rows, rows_beside_flow}
use Rattle.ats_tree_examples.specs.Bounds.{rows_by_class, rows_of_two, split_rows, tree_rows}
use Rattle.ats_tree_examples.proofs.TreeProofs.{split_is, split_and_flow_is, two_streams_is, crossed_is, tree_is}
use Rattle.ats_tree_examples.proofs.TreeProofs.{by_class_is, tree_and_flow_is, turned_is}

pub sums_count_once : SumsCountOnce
sums_count_once = record {
  once = refl;
  twice = refl;
  at_branch = refl;
  beside_flow = refl;
  with_flow = refl;
  deep = refl;
  load = refl;
  load_of_first = refl;
  load_of_two = refl;
}

-- by the tests of the rules
pub bounded : (network : DeclaredNetwork) (rows : List Row) → IsNetwork network → least_certificate network ≡ rows
    → all_pass network rows ≡ true → rest_passes network rows ≡ true → IsBounded network rows
bounded network rows rules least kept rest =
    record { rules = rules; least = least; holds = holds_by network rows kept rest }

-- there is no row of the branch's port
not_of_trunk : ¬ Holds split line_rows
not_of_trunk h =
    let there : false ≡ true = h.rows_of.complete 4 6 refl in
    false≢true there

pub listeners_have_bounds : ListenersHaveBounds
listeners_have_bounds = record {
  over_one = bounded split split_rows split_is refl refl refl;
  beside_flow = bounded split_and_flow rows_beside_flow split_and_flow_is refl refl refl;
  with_two = bounded by_two_streams rows_of_two two_streams_is refl refl refl;
  by_class = bounded split_by_class rows_by_class by_class_is refl refl refl;
  against = bounded crossed crossed_rows crossed_is refl refl refl;
  over_three = bounded tree tree_rows tree_is refl refl refl;
  in_another_order = bounded turned tree_rows turned_is refl refl refl;
  not_of_trunk = not_of_trunk;
  sums_over_one = refl;
  sums_of_two = refl;
  sums_by_class = refl;
  sums_against = refl;
  sums_over_three = refl;
  sums_in_another_order = refl;
}

-- by computation, and what the laws say of reasons
pub reason_by : (network : DeclaredNetwork) (reason other : Reason) → IsNetwork network
    → reason_of network ≡ Some reason → reason ≢ other → HasReason network reason other
reason_by network reason other rules given differ =
    let first : IsFirstReason network reason = (each_reason_is_the_first network reason rules).0 given in
    record {
      rules = rules;
      given = given;
      first = first;
      not_first = λ h. differ (first_reason_is_one network reason other rules first h);
      none_holds = λ (rows : List Row). reason_leaves_none network reason rows rules given;
    }

within_is : (deadline_ns : ℕ) → network_passes (tree_within deadline_ns) ≡ true → IsNetwork (tree_within deadline_ns)
within_is deadline_ns = long_network_by (tree_nodes 1000000) tree_links (tree_within deadline_ns).streams [] refl

turned_within_is : (deadline_ns : ℕ) → network_passes (turned_within deadline_ns) ≡ true
    → IsNetwork (turned_within deadline_ns)
turned_within_is deadline_ns =
    long_network_by (tree_nodes 1000000) tree_links (turned_within deadline_ns).streams [] refl

beside_is : IsNetwork (beside_stream_within 30000)
beside_is = long_network_by (split_nodes 1000000) split_links (beside_stream_within 30000).streams [] refl refl

not_for_first : Deadline (codes "a") (Some (codes "s3")) 39008000 ≢ Deadline (codes "a") None 39008000
not_for_first same = cc

not_the_first : Deadline (codes "a") (Some (codes "s4")) 54344000 ≢ Deadline (codes "a") None 54344000
not_the_first same = cc

not_the_third : Deadline (codes "a") None 40508000 ≢ Deadline (codes "a") (Some (codes "s4")) 54344000
not_the_third same = cc

-- the sum in a reason, and the second code of its listener's name
abbrev sum_in : Reason → ℕ
sum_in (Deadline stream listener sum) = sum
sum_in reason = 0

abbrev number_in : Reason → ℕ
number_in (Deadline stream (Some station) sum) = slice_index_or station 1 0
number_in reason = 0

not_the_greatest : Deadline (codes "a") (Some (codes "s2")) 40508000 ≢ Deadline (codes "a") (Some (codes "s5")) 54344000
not_the_greatest same = let sums : ◌≡◌ {A = ℕ} 40508000 54344000 = ap sum_in same in absurd (omega arith)

not_by_name : Deadline (codes "a") (Some (codes "s5")) 54344000 ≢ Deadline (codes "a") (Some (codes "s4")) 54344000
not_by_name same = let codes_are : ◌≡◌ {A = ℕ} 53 52 = ap number_in same in absurd (omega arith)

not_late : Residence 2 6 24000000 ≢ Deadline (codes "a") None 24000000
not_late same = cc

pub reasons_name_listeners : ReasonsNameListeners
reasons_name_listeners = record {
  late_for_second = reason_by (beside_stream_within 30000) (Deadline (codes "a") (Some (codes "s3")) 39008000)
      (Deadline (codes "a") None 39008000) beside_is refl not_for_first;
  late_for_third = reason_by (tree_within 54343) (Deadline (codes "a") (Some (codes "s4")) 54344000)
      (Deadline (codes "a") None 54344000) (within_is 54343 refl) refl not_the_first;
  late_for_first = reason_by (tree_within 40507) (Deadline (codes "a") None 40508000)
      (Deadline (codes "a") (Some (codes "s4")) 54344000) (within_is 40507 refl) refl not_the_third;
  turned_for_second = reason_by (turned_within 40507) (Deadline (codes "a") (Some (codes "s2")) 40508000)
      (Deadline (codes "a") (Some (codes "s5")) 54344000) (turned_within_is 40507 refl) refl not_the_greatest;
  turned_for_third = reason_by (turned_within 54343) (Deadline (codes "a") (Some (codes "s5")) 54344000)
      (Deadline (codes "a") (Some (codes "s4")) 54344000) (turned_within_is 54343 refl) refl not_by_name;
  in_time = bounded (tree_within 54344) tree_rows (within_is 54344 refl) refl refl refl;
  free = refl;
  overstays = reason_by tree_and_flow (Residence 2 6 24000000) (Deadline (codes "a") None 24000000) tree_and_flow_is
      refl not_late;
}

pub listeners_are_explained : ListenersAreExplained
listeners_are_explained = record { late = refl; late_turned = refl; all_late = refl; as_tight = refl; stay = refl }
