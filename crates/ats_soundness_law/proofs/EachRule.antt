use Rattle.std.proofs.Common.{List, All}
use Rattle.ats_network.specs.Network.{DeclaredNetwork}
use Rattle.ats_certificate.specs.Certificate.{RowHolds, Holds}
use Rattle.ats_certificate.specs.declared.row.Row.{Row}
use Rattle.ats_soundness_law.specs.Rules.{Rule, rows_are_there, higher_is_right, equal_is_right, bursts_are_right}
use Rattle.ats_soundness_law.specs.Rules.{lower_is_right, least_is_right, bound_follows, load_fits, wait_is_enough}
use Rattle.ats_soundness_law.specs.Rules.{frames_may_stay, Keeps, RestHolds, HoldsIsEachRule}

-- the rules of a certificate that holds
pub rule_of_holding : (network : DeclaredNetwork) (given : List Row) → Holds network given → (rule : Rule)
    → Keeps rule network given
rule_of_holding network given h rows_are_there = h.rows_of.complete
rule_of_holding network given h higher_is_right = λ k d within. (h.each k d within).covers.sums.higher
rule_of_holding network given h equal_is_right = λ k d within. (h.each k d within).covers.sums.equal
rule_of_holding network given h bursts_are_right = λ k d within. (h.each k d within).covers.sums.bursts
rule_of_holding network given h lower_is_right = λ k d within. (h.each k d within).covers.sums.lower
rule_of_holding network given h least_is_right = λ k d within. (h.each k d within).covers.sums.least
rule_of_holding network given h bound_follows = λ k d within. (h.each k d within).covers.bound
rule_of_holding network given h load_fits = λ k d within. (h.each k d within).covers.load
rule_of_holding network given h wait_is_enough = λ k d within. (h.each k d within).covers.wait
rule_of_holding network given h frames_may_stay = λ k d within. (h.each k d within).residence

-- by them each row holds
pub each_row_holds : (network : DeclaredNetwork) (given : List Row) → ((rule : Rule) → Keeps rule network given)
    → All (RowHolds network) given
each_row_holds network given keeps k d within = record {
  covers = record {
    sums = record {
      higher = keeps higher_is_right k d within;
      equal = keeps equal_is_right k d within;
      bursts = keeps bursts_are_right k d within;
      lower = keeps lower_is_right k d within;
      least = keeps least_is_right k d within;
    };
    bound = keeps bound_follows k d within;
    load = keeps load_fits k d within;
    wait = keeps wait_is_enough k d within;
  };
  residence = keeps frames_may_stay k d within;
}

pub holds_of_rules : (network : DeclaredNetwork) (given : List Row) → ((rule : Rule) → Keeps rule network given)
    → RestHolds network given → Holds network given
holds_of_rules network given keeps rest = record {
  rows_of = record { complete = keeps rows_are_there; used = rest.used; ordered = rest.ordered };
  each = each_row_holds network given keeps;
  deadlines = rest.in_time;
}

pub holds_is_each_rule : HoldsIsEachRule
holds_is_each_rule network given = record {
  kept = rule_of_holding network given;
  rest = λ h. record { used = h.rows_of.used; ordered = h.rows_of.ordered; in_time = h.deadlines };
  enough = holds_of_rules network given;
}
