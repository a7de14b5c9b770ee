use Rattle.ats_plain_run_law.specs.Clocks.{ToldTimesAreTraced}

-- What clocks tell of frames.
pub told_times_are_traced : ToldTimesAreTraced
told_times_are_traced = record {
  released = λ clocks told network frame r. ((λ is. is), (λ is. is));
  passed = λ shows told h. ((λ is. is), (λ is. is));
}
