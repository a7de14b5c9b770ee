use Rattle.std.proofs.Common.{◌≡◌, ◌+◌, ◌*◌, ◌≤◌, false, true, refl, arith, lit<, lit≤}
use Rattle.std.proofs.lemmas.Bool.{false≢true}
use Rattle.ats_certificate.specs.Certificate.{bound_at, Holds}
use Rattle.ats_trace.specs.Run.{IsIdeal, releases_of}
use Rattle.ats_trace.specs.Stored.{travel_at}
use Rattle.ats_trace.specs.Talker.{talker_of, KeepsBuckets}
use Rattle.ats_soundness_law.specs.Sound.{ArrivesBy}
use Rattle.ats_examples.specs.Networks.{fork_of_classes}
use Rattle.ats_examples.specs.Rows.{fork_rows, hop_rows}
use Rattle.ats_examples.specs.Runs.{second_goes_first}
use Rattle.ats_examples.specs.SoundRuns.{IsCertified}
use Rattle.ats_examples.specs.ClassBounds.{behind_two, ClassesAreSound}
use Rattle.ats_examples.proofs.BucketTest.{keeps_by}
use Rattle.ats_examples.proofs.NetworkProofs.{classes_is}
use Rattle.ats_examples.proofs.PartTest.{legal_by}
use Rattle.ats_examples.proofs.RuleTest.{holds_by}
use Rattle.ats_examples.proofs.SoundRunProofs.{served_in}

certified : IsCertified fork_of_classes hop_rows
certified = record { rules = classes_is; holds = holds_by fork_of_classes hop_rows refl refl }

-- there is no row of class 5
not_of_one_class : ¬ Holds fork_of_classes fork_rows
not_of_one_class h =
    let there : false ≡ true = h.rows_of.complete 2 5 refl in
    absurd (false≢true there)

together_legal : IsIdeal fork_of_classes second_goes_first
together_legal = legal_by fork_of_classes second_goes_first refl

together_kept : KeepsBuckets fork_of_classes (releases_of second_goes_first) (talker_of fork_of_classes 0)
together_kept = keeps_by fork_of_classes (releases_of second_goes_first) (talker_of fork_of_classes 0) refl refl

other_kept : KeepsBuckets fork_of_classes (releases_of second_goes_first) (talker_of fork_of_classes 1)
other_kept = keeps_by fork_of_classes (releases_of second_goes_first) (talker_of fork_of_classes 1) refl refl

behind_legal : IsIdeal fork_of_classes (behind_two 6720000)
behind_legal = legal_by fork_of_classes (behind_two 6720000) refl

behind_kept : KeepsBuckets fork_of_classes (releases_of (behind_two 6720000)) (talker_of fork_of_classes 0)
behind_kept = keeps_by fork_of_classes (releases_of (behind_two 6720000)) (talker_of fork_of_classes 0) refl refl

beyond : ¬ ArrivesBy (bound_at hop_rows 0 6 + bound_at hop_rows 2 6) (travel_at (behind_two 6720000) 0).ending
beyond arrives =
    let late : 39680000 ≤ 13836000 + 25172000 = arrives in
    absurd (omega arith)

too_soon : ¬ KeepsBuckets fork_of_classes (releases_of (behind_two 6719999)) (talker_of fork_of_classes 1)
too_soon keeps =
    let over : 1000000000000 * 13008 ≤ 100000000 * 6719999 + 1000000000000 * 12336 =
    (keeps.streams 1 (lit< tt) refl).within 0 1 (lit≤ tt) (lit< tt) in
    absurd (omega arith)

pub classes_are_sound : ClassesAreSound
classes_are_sound = record {
  certified = certified;
  not_of_one_class = not_of_one_class;
  lowered = served_in fork_of_classes hop_rows second_goes_first (travel_at second_goes_first 0) certified refl
      together_legal (0, lit< tt, refl) (lit< tt) together_kept;
  other = served_in fork_of_classes hop_rows second_goes_first (travel_at second_goes_first 1) certified refl
      together_legal (1, lit< tt, refl) (lit< tt) other_kept;
  sum_of_lowered = refl;
  sum_of_other = refl;
  legal = behind_legal;
  keeps = behind_kept;
  other_keeps = keeps_by fork_of_classes (releases_of (behind_two 6720000)) (talker_of fork_of_classes 1) refl refl;
  served = served_in fork_of_classes hop_rows (behind_two 6720000) (travel_at (behind_two 6720000) 0) certified refl
      behind_legal (0, lit< tt, refl) (lit< tt) behind_kept;
  beyond = beyond;
  sooner = legal_by fork_of_classes (behind_two 6719999) refl;
  too_soon = too_soon;
}
