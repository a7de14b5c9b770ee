use Rattle.std.proofs.Common.{◌≡◌, true, ℕ, List, [], Option, Some, None, refl, sym, ap, ◌∙◌}
use Rattle.std.specs.Prelude.{codes, not, ◌==◌, slice_index_or, AllPairs}
use Rattle.std.proofs.lemmas.Option.{none-some}
use Rattle.ats_network.specs.Network.{DeclaredNetwork, IsNetwork}
use Rattle.ats_certificate.specs.Certificate.{IsBefore}
use Rattle.ats_certificate.specs.declared.row.Row.{Row}
use Rattle.ats_tally.specs.declared.reason.Reason.TheVariants.{Deadline}
use Rattle.ats_checker.specs.Refusal.{refusal_of}
use Rattle.ats_checker.specs.declared.refusal.Field.TheVariants as field
use Rattle.ats_checker.specs.declared.refusal.Refusal.{Refusal}
use Rattle.ats_checker.specs.declared.refusal.Refusal.TheVariants.{RowMissing, FieldWrong, WaitTooSmall, Network}
use Rattle.ats_checker.proofs.FirstRefusal.{each_refusal_is_the_first}
use Rattle.ats_checker.proofs.Refused.{refused_unless_holding}
use Rattle.ats_examples.specs.Rows.{line_rows}
use Rattle.ats_examples.proofs.NetworkTest.{apart_by, network_passes, long_network_by}
use Rattle.ats_examples.proofs.RuleTest.{is_before, before_by}
use Rattle.ats_examples.proofs.Tests.{pairs_pass, pairs_by}
use Rattle.ats_tree_examples.specs.Networks.{split, tree, tree_links, tree_nodes, tree_within, turned_within}
use Rattle.ats_tree_examples.specs.Bounds.{rows_of_two, tree_rows}
use Rattle.ats_tree_examples.specs.Served.{short_split_rows}
use Rattle.ats_tree_examples.proofs.TreeProofs.{split_is, tree_is}
use Rattle.ats_tree_bound_examples.specs.Refusals.{AreRefused, RefusalsNameListeners, rows_of_no_wait}
use Rattle.ats_tree_bound_examples.specs.Refusals.{rows_of_two_bursts, rows_without_last}

-- Refusals by computation, and what the laws say of them.

pub within_is : (deadline_ns : ℕ) → network_passes (tree_within deadline_ns) ≡ true
    → IsNetwork (tree_within deadline_ns)
within_is deadline_ns = long_network_by (tree_nodes 1000000) tree_links (tree_within deadline_ns).streams [] refl

turned_is : (deadline_ns : ℕ) → network_passes (turned_within deadline_ns) ≡ true
    → IsNetwork (turned_within deadline_ns)
turned_is deadline_ns = long_network_by (tree_nodes 1000000) tree_links (turned_within deadline_ns).streams [] refl

-- a number by which refusals are told apart: that of a port, a right value, or the second code of a listener's name
abbrev told : Option Refusal → ℕ
told (Some (RowMissing port class)) = port
told (Some (FieldWrong port class column right)) = right
told (Some (WaitTooSmall port class least)) = port
told (Some (Network (Deadline stream (Some station) sum))) = slice_index_or station 1 0
told refusal = 0

-- there is one first refusal, so another one is not it
pub refused : (network : DeclaredNetwork) (rows : List Row) (refusal other : Refusal) → IsNetwork network
    → pairs_pass is_before rows ≡ true → refusal_of network rows ≡ Some refusal
    → not (told (Some refusal) == told (Some other)) ≡ true
    → AreRefused network rows refusal other
refused network rows refusal other rules ordered given differ =
    let before : AllPairs IsBefore rows = pairs_by IsBefore is_before before_by rows ordered in
    record {
      rules = rules;
      ordered = before;
      given = given;
      first = (each_refusal_is_the_first network rows refusal rules before).0 given;
      not_first = λ first. apart_by (told (Some refusal)) (told (Some other)) differ
          (ap told (sym given ∙ (each_refusal_is_the_first network rows other rules before).1 first));
      not_held = λ holds. none-some refusal (sym ((refused_unless_holding network rows rules before).1 holds) ∙ given);
    }

pub refusals_name_listeners : RefusalsNameListeners
refusals_name_listeners = record {
  accepted = refl;
  accepted_turned = refl;
  missing = refused split line_rows (RowMissing 4 6) (RowMissing 2 6) split_is refl refl refl;
  missing_last = refused tree rows_without_last (RowMissing 12 6) (RowMissing 10 6) tree_is refl refl refl;
  rate_for_each = refused split rows_of_two (FieldWrong 0 6 field.Equal 100000000000)
      (FieldWrong 0 6 field.Equal 200000000000) split_is refl refl refl;
  burst_for_each = refused split rows_of_two_bursts (FieldWrong 0 6 field.Bursts 12336)
      (FieldWrong 0 6 field.Bursts 24672) split_is refl refl refl;
  short_bound = refused split short_split_rows (FieldWrong 4 6 field.Bound 12836000) (RowMissing 4 6) split_is refl refl
      refl;
  short_wait = refused split rows_of_no_wait (WaitTooSmall 4 6 11664000) (WaitTooSmall 2 6 11664000) split_is refl refl
      refl;
  late_for_third = refused (tree_within 54343) tree_rows (Network (Deadline (codes "a") (Some (codes "s4")) 54344000))
      (Network (Deadline (codes "a") (Some (codes "s5")) 54344000)) (within_is 54343 refl) refl refl refl;
  late_for_first = refused (tree_within 40507) tree_rows (Network (Deadline (codes "a") None 40508000))
      (Network (Deadline (codes "a") (Some (codes "s4")) 54344000)) (within_is 40507 refl) refl refl refl;
  turned_for_second = refused (turned_within 40507) tree_rows
      (Network (Deadline (codes "a") (Some (codes "s2")) 40508000))
      (Network (Deadline (codes "a") (Some (codes "s5")) 54344000)) (turned_is 40507 refl) refl refl refl;
  turned_for_third = refused (turned_within 54343) tree_rows
      (Network (Deadline (codes "a") (Some (codes "s5")) 54344000))
      (Network (Deadline (codes "a") (Some (codes "s4")) 54344000)) (turned_is 54343 refl) refl refl refl;
}
