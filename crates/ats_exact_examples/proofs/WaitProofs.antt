use Rattle.std.proofs.Common.{ℕ, ◌+◌, ◌-◌, ◌*◌, ◌≤◌, refl, arith}
use Rattle.ats_num.specs.declared.time.TheConstants.{PS_PER_SECOND}
use Rattle.ats_examples.specs.Networks.{line}
use Rattle.ats_examples.proofs.NetworkProofs.{line_is}
use Rattle.ats_examples.proofs.RuleTest.{holds_by}
use Rattle.ats_exact_examples.specs.Waits.{LongBuffers, LongerCovers, LongerHolds, WaitsMayGrow, long_rows}

-- Longer waits.

-- more of a wait is enough where the wait is
enough : (need wait more left : ℕ) → need ≤ wait * left → need ≤ (wait + more) * left
enough need wait more left h = omega (arith, h)

longer_covers : LongerCovers
longer_covers network row more covers = record {
  sums = record {
    higher = covers.sums.higher;
    equal = covers.sums.equal;
    bursts = covers.sums.bursts;
    lower = covers.sums.lower;
    least = covers.sums.least;
  };
  bound = omega (arith, covers.bound);
  load = covers.load;
  wait = enough _ row.wait more (PS_PER_SECOND - row.higher) covers.wait;
}

longer_holds : LongerHolds
longer_holds network row more holds stays = record {
  covers = longer_covers network row more holds.covers;
  residence = stays;
}

long_buffers : LongBuffers
long_buffers = record {
  certified = record { rules = line_is; holds = holds_by line long_rows refl refl };
  buffers = refl;
}

pub waits_may_grow : WaitsMayGrow
waits_may_grow = record {
  covers = longer_covers;
  holds = longer_holds;
  buffers = long_buffers;
}
