use Rattle.std.proofs.Common.{◌≤◌, [], refl, arith}
use Rattle.ats_examples.specs.Networks.{line_links}
use Rattle.ats_examples.proofs.NetworkTest.{long_network_by}
use Rattle.ats_clock_examples.specs.Limits.{BranchesAreJudged, LaterHopsAreJudged, LimitsAreAtEachHop, TalkersAreJudged}
use Rattle.ats_clock_examples.specs.Limits.{begun, loose_nodes}

-- Limits by computation.

too_fast : 100000000001 ≤ 100000000000 → ⊥
too_fast h = omega arith

talkers : TalkersAreJudged
talkers = record {
  rate = record { most = refl; over = refl };
  burst = record { most = refl; over = refl };
  network = long_network_by loose_nodes line_links (begun 99900099900).streams [] refl refl;
  not_rated = λ rated. too_fast rated.seen.rate.within;
}

hops : LaterHopsAreJudged
hops = record {
  rate = record { most = refl; over = refl };
  burst = record { most = refl; over = refl };
  rate_of_ending = record { most = refl; over = refl };
  burst_of_ending = record { most = refl; over = refl };
  rate_of_talker = record { most = refl; over = refl };
  burst_of_talker = record { most = refl; over = refl };
  rate_of_both = record { most = refl; over = refl };
  burst_of_both = record { most = refl; over = refl };
}

branches : BranchesAreJudged
branches = record {
  rate_of_trunk = record { most = refl; over = refl };
  burst_of_trunk = record { most = refl; over = refl };
  rate_of_branch = record { most = refl; over = refl };
  burst_of_branch = record { most = refl; over = refl };
  rate_between = record { most = refl; over = refl };
  burst_between = record { most = refl; over = refl };
  rate_of_each = record { most = refl; over = refl };
  burst_of_each = record { most = refl; over = refl };
}

pub limits_are_at_each_hop : LimitsAreAtEachHop
limits_are_at_each_hop = record { talkers = talkers; hops = hops; branches = branches }
