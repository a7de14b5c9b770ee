use Rattle.std.proofs.Common.{◌≡◌, ◌+◌, ◌*◌, ◌≤◌, true, false, refl, arith, lit<, lit≤}
use Rattle.std.proofs.lemmas.Bool.{false≢true}
use Rattle.ats_trace.specs.Run.{releases_of}
use Rattle.ats_trace.specs.Talker.{KeepsBuckets}
use Rattle.ats_trace.specs.declared.journey.Release.{Release}
use Rattle.ats_examples.specs.Networks.{line, fork}
use Rattle.ats_examples.specs.Runs.{one_frame, long_frame, first_goes_first}
use Rattle.ats_examples.specs.Talkers.{two_frames, TalkersOfExamples}
use Rattle.ats_examples.proofs.BucketTest.{keeps_by}

not_so_soon : ¬ KeepsBuckets line (two_frames 123359999) 0
not_so_soon h =
    let over : 1000000000000 * 24672 ≤ 100000000 * 123359999 + 1000000000000 * 12336 =
    (h.streams 0 (lit< tt) refl).within 0 1 (lit≤ tt) (lit< tt) in
    absurd (omega arith)

no_release : Release
no_release = record { at = record { 0 = 0 }; sender = 0; octets = 0 }

not_so_long : ¬ KeepsBuckets line (releases_of long_frame) 0
not_so_long h =
    let fits : false ≡ true = h.sizes 0 no_release (lit< tt) (lit< tt) refl in
    absurd (false≢true fits)

pub talkers_of_examples : TalkersOfExamples
talkers_of_examples =
    record {
      one_frame = keeps_by line (releases_of one_frame) 0 refl refl;
      another_station = keeps_by fork (releases_of first_goes_first) 0 refl refl;
      burst_back = keeps_by line (two_frames 123360000) 0 refl refl;
      too_soon = not_so_soon;
      too_long = not_so_long;
    }
