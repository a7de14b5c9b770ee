use Rattle.std.proofs.Common.{◌≡◌, ◌∙◌, Bool, false, ◌-◌, List, length, Some, None, refl, ap}
use Rattle.std.specs.Prelude.{slice_get}
use Rattle.ats_group.specs.declared.verdict.Verdict.{Verdict}
use Rattle.ats_group.specs.declared.verdict.Verdict.TheVariants.{Eligible, Late, Size}
use Rattle.ats_trace.specs.HopRecord.{HopRecord}
use Rattle.ats_replay.specs.Totals.{is_late_verdict, is_size_verdict, passes}
use Rattle.ats_meaning_examples.specs.RunTotals.{CountsAreMeant, RunTotalsAreMeant, SummariesAreMeant, WaysAreMeant}

-- Words by their definitions; what is said of the last verdict, where there is one.

ways_are_meant : WaysAreMeant
ways_are_meant = record {
  routes = λ s. refl;
  count = λ s. refl;
  route = λ s n. refl;
  way = λ s j n. refl;
  ways = λ network j. refl;
}

said_of : (test : Verdict → Bool) (hops : List HopRecord) (last : HopRecord) (verdict : Verdict)
    → slice_get hops (length hops - 1) ≡ Some last → last.verdict ≡ verdict
    → passes test (slice_get hops (length hops - 1)) ≡ test verdict
said_of test hops last verdict is same = ap (passes test) is ∙ ap test same

said_of_none : (test : Verdict → Bool) (hops : List HopRecord) → slice_get hops (length hops - 1) ≡ None
    → passes test (slice_get hops (length hops - 1)) ≡ false
said_of_none test hops is = ap (passes test) is

counts_are_meant : CountsAreMeant
counts_are_meant = record {
  sink = λ at. refl;
  discard = refl;
  late = λ hops last e is verdict. (
    said_of is_late_verdict hops last (Late e) is verdict,
    said_of is_size_verdict hops last (Late e) is verdict,
  );
  size = λ hops last is verdict. (
    said_of is_late_verdict hops last Size is verdict,
    said_of is_size_verdict hops last Size is verdict,
  );
  eligible = λ hops last e is verdict. (
    said_of is_late_verdict hops last (Eligible e) is verdict,
    said_of is_size_verdict hops last (Eligible e) is verdict,
  );
  none = λ hops is. (said_of_none is_late_verdict hops is, said_of_none is_size_verdict hops is);
  totals = λ frames ways. refl;
  run = λ network run. refl;
}

summaries_are_meant : SummariesAreMeant
summaries_are_meant = record {
  arrived = λ release at. refl;
  discarded = λ release. refl;
  delay = λ s n j. refl;
  worst = λ s n frames. refl;
  frames = λ run sender. refl;
  summary = λ network run sender n. refl;
  before = λ network sender. refl;
  place = λ network sender n. refl;
}

pub run_totals_are_meant : RunTotalsAreMeant
run_totals_are_meant = record { ways = ways_are_meant; counts = counts_are_meant; summaries = summaries_are_meant }
