use Rattle.std.proofs.Common.{◌≡◌, ℕ, zero, suc, ◌<◌, ◌≤◌, List, [], ◌∷◌, length, arith, lit<, lit≤, refl}
use Rattle.std.specs.Prelude.{codes, nat_le, slice_index_or, Ok, Err, Some}
use Rattle.std.specs.Fmt.{digits}
use Rattle.csv.specs.Machine.{next_record}
use Rattle.csv.specs.Reading.{records_from, strip_bom}
use Rattle.ats_csv.specs.Reading.{records_of, same_fields}
use Rattle.ats_trace.specs.Talker.{frames_of}
use Rattle.ats_trace.specs.declared.journey.Release.{Release}
use Rattle.ats_schedule.specs.Reading.{header, release_after}
use Rattle.ats_fit.specs.Least.{IsLeastBurst}
use Rattle.ats_fit.specs.Measured.{AreMeasured, IsMeasured, octets_of}
use Rattle.ats_fit.specs.declared.measured.Measured.{Measured}
use Rattle.ats_fit_text.specs.Text.{fit_text, sender_line, total_line}
use Rattle.ats_command_input.specs.Input.{releases_in}
use Rattle.ats_command_due.specs.Due.{IsFitAnswer}
use Rattle.ats_command_due.specs.Fitted.{IsFitted}
use Rattle.ats_command_due.specs.Replayed.{IsOneOf, Scheduled, scheduled_in}
use Rattle.ats_examples.proofs.BucketTest.{conforms_by}
use Rattle.ats_examples.proofs.Tests.{all_by, le_of}
use Rattle.ats_call_examples.specs.Files.{crowded_schedule, done_with, faulty_with, network, no_text, rows}
use Rattle.ats_call_examples.specs.Files.{schedule, told}
use Rattle.ats_call_examples.specs.Run.{FitIsAnswered, crowded, fitted}
use Rattle.ats_call_examples.proofs.Line.{line, line_is, one_release}
use Rattle.ats_call_examples.proofs.Scheduled.{neither, no_schedule, schedule_is, scheduled, scheduled_by}
use Rattle.ats_call_examples.proofs.Telling.{of_declared, two_told}

-- Calls that tell of bursts.

-- two frames at once, and a third
abbrev three_releases : List Release
three_releases =
    record { at = record { 0 = 0 }; sender = 0; octets = 1522 }
    ∷ record { at = record { 0 = 0 }; sender = 0; octets = 1522 }
    ∷ record { at = record { 0 = 12336000 }; sender = 0; octets = 64 } ∷ []

abbrev three_scheduled : Scheduled
three_scheduled = record { network = line; releases = three_releases }

crowded_is : scheduled_in (codes "n") (codes "s") network crowded_schedule ≡ Ok three_scheduled
unfolding releases_in next_record records_from strip_bom records_of same_fields header release_after
crowded_is = scheduled_by network crowded_schedule (Ok line) (Ok three_scheduled) line_is refl

-- what is measured of the line's stream
abbrev measured : ℕ → ℕ → ℕ → ℕ → Measured
measured frames least greatest burst =
    record { frames = frames; sizes = Some (record { least = least; greatest = greatest }); burst_bits = Some burst }

-- with less than the bits of one frame, or of two at once, no bucket lets them through
one_least : IsLeastBurst 100000000 (frames_of 0 (one_release 1522)) 12336
one_least = record {
  conforms = conforms_by 100000000 12336 (frames_of 0 (one_release 1522)) refl;
  least = λ other conforms. (let enough = conforms.within 0 0 (lit≤ tt) (lit< tt) in omega (arith, enough));
}

three_least : IsLeastBurst 100000000 (frames_of 0 three_releases) 24672
three_least = record {
  conforms = conforms_by 100000000 24672 (frames_of 0 three_releases) refl;
  least = λ other conforms. (let enough = conforms.within 0 1 (lit≤ tt) (lit< tt) in omega (arith, enough));
}

-- the stream is the one sender
of_one : (releases : List Release) (m : Measured) → IsMeasured line releases 0 m → AreMeasured line releases (m ∷ [])
of_one releases m is = record { count = refl; each = each }
  where
    each : (i : ℕ) (d : Measured) → i < length (m ∷ []) → IsMeasured line releases i (slice_index_or (m ∷ []) i d)
    each zero d h = is
    each (suc i) d h = absurd (omega (arith, h))

one_measured : AreMeasured line (one_release 1522) (measured 1 1522 1522 12336 ∷ [])
one_measured = of_one (one_release 1522) (measured 1 1522 1522 12336) (record {
  frames = refl;
  sizes = record {
    least = (0, lit< tt, refl);
    none_less = all_by (λ n. 1522 ≤ n) (λ n. nat_le 1522 n) (λ n h. le_of 1522 n h) (octets_of 0 (one_release 1522))
        refl;
    greatest = (0, lit< tt, refl);
    none_greater = all_by (λ n. n ≤ 1522) (λ n. nat_le n 1522) (λ n h. le_of n 1522 h)
        (octets_of 0 (one_release 1522)) refl;
  };
  burst = (lit< tt, one_least);
})

three_measured : AreMeasured line three_releases (measured 3 64 1522 24672 ∷ [])
three_measured = of_one three_releases (measured 3 64 1522 24672) (record {
  frames = refl;
  sizes = record {
    least = (2, lit< tt, refl);
    none_less = all_by (λ n. 64 ≤ n) (λ n. nat_le 64 n) (λ n h. le_of 64 n h) (octets_of 0 three_releases) refl;
    greatest = (0, lit< tt, refl);
    none_greater = all_by (λ n. n ≤ 1522) (λ n. nat_le n 1522) (λ n h. le_of n 1522 h) (octets_of 0 three_releases)
        refl;
  };
  burst = (lit< tt, three_least);
})

fitted_is : fitted ≡ fit_text line (one_release 1522) (measured 1 1522 1522 12336 ∷ [])
unfolding digits fit_text sender_line total_line
fitted_is = refl

crowded_text_is : crowded ≡ fit_text line three_releases (measured 3 64 1522 24672 ∷ [])
unfolding digits fit_text sender_line total_line
crowded_text_is = refl

fits : IsFitAnswer (codes "n") (codes "s") network schedule (done_with fitted)
fits = of_declared (IsOneOf IsFitted) (scheduled_in (codes "n") (codes "s") network schedule) (Ok (scheduled 1522))
    (done_with fitted) schedule_is
    (refl, record { measured = measured 1 1522 1522 12336 ∷ []; are = one_measured; printed = fitted_is })

is_over : IsFitAnswer (codes "n") (codes "s") network crowded_schedule (done_with crowded)
is_over = of_declared (IsOneOf IsFitted) (scheduled_in (codes "n") (codes "s") network crowded_schedule)
    (Ok three_scheduled) (done_with crowded) crowded_is
    (refl, record { measured = measured 3 64 1522 24672 ∷ []; are = three_measured; printed = crowded_text_is })

has_none : IsFitAnswer (codes "n") (codes "s") network rows (faulty_with (codes "input s bad-row 1\n"))
has_none = of_declared (IsOneOf IsFitted) (scheduled_in (codes "n") (codes "s") network rows)
    (Err (faulty_with (codes "input s bad-row 1\n"))) (faulty_with (codes "input s bad-row 1\n")) no_schedule refl

has_no_network : IsFitAnswer (codes "n") (codes "s") no_text rows (faulty_with (codes "input n not-toml\n"))
has_no_network = of_declared (IsOneOf IsFitted) (scheduled_in (codes "n") (codes "s") no_text rows)
    (Err (faulty_with (codes "input n not-toml\n"))) (faulty_with (codes "input n not-toml\n")) neither refl

pub fit_is_answered : FitIsAnswered
fit_is_answered = record {
  just = record { is_told = two_told (told network [] schedule) (codes "n") (codes "s") refl refl; answers = fits };
  over = record {
    is_told = two_told (told network [] crowded_schedule) (codes "n") (codes "s") refl refl;
    answers = is_over;
  };
  faulty = record { is_told = two_told (told network [] rows) (codes "n") (codes "s") refl refl; answers = has_none };
  both_faulty = record {
    is_told = two_told (told no_text [] rows) (codes "n") (codes "s") refl refl;
    answers = has_no_network;
  };
}
