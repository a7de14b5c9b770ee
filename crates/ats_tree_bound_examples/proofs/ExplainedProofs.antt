use Rattle.std.proofs.Common.{◌≢◌, List, [], Some, None, refl}
use Rattle.std.specs.Prelude.{codes}
use Rattle.ats_network.specs.Network.{IsNetwork}
use Rattle.ats_certificate.specs.declared.row.Row.{Row}
use Rattle.ats_tally.specs.declared.reason.Reason.{Reason}
use Rattle.ats_tally.specs.declared.reason.Reason.TheVariants.{Deadline}
use Rattle.ats_bound.specs.First.{IsFirstReason}
use Rattle.ats_bound.proofs.FirstReason.{each_reason_is_the_first, first_reason_is_one}
use Rattle.ats_bound.proofs.NoneHolds.{reason_leaves_none}
use Rattle.ats_checker.specs.declared.refusal.Refusal.TheVariants.{Network}
use Rattle.ats_examples.proofs.NetworkTest.{long_network_by}
use Rattle.ats_tree_examples.specs.Networks.{split_links, split_nodes}
use Rattle.ats_tree_examples.specs.Bounds.{HasReason, rows_by_class}
use Rattle.ats_tree_bound_examples.specs.Explained.{TotalsAreOfEach, by_class_within}
use Rattle.ats_tree_bound_examples.proofs.RefusalProofs.{refused}

-- Totals by computation, and what the laws say of reasons and refusals.

within_is : IsNetwork (by_class_within 50000)
within_is = long_network_by (split_nodes 100000) split_links (by_class_within 50000).streams [] refl refl

abbrev of_first : Reason
of_first = Deadline (codes "a") (Some (codes "s3")) 51344000

abbrev of_second : Reason
of_second = Deadline (codes "z") None 51344000

apart : of_first ≢ of_second
apart same = cc

first : IsFirstReason (by_class_within 50000) of_first
first = (each_reason_is_the_first (by_class_within 50000) of_first within_is).0 refl

reason : HasReason (by_class_within 50000) of_first of_second
reason = record {
  rules = within_is;
  given = refl;
  first = first;
  not_first = λ h. apart (first_reason_is_one (by_class_within 50000) of_first of_second within_is first h);
  none_holds = λ (rows : List Row). reason_leaves_none (by_class_within 50000) of_first rows within_is refl;
}

pub totals_are_of_each : TotalsAreOfEach
totals_are_of_each = record {
  hops = record { none = refl; at_third = refl; at_second = refl; at_both = refl };
  streams = record {
    tightest = refl;
    late = refl;
    reason = reason;
    refusal = refused (by_class_within 50000) rows_by_class (Network of_first) (Network of_second) within_is refl refl
        refl;
  };
}
