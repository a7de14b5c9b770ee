use Rattle.std.proofs.Common.{◌≡◌, ℕ, List, [], ◌∷◌, Option, Some, refl}
use Rattle.std.specs.Prelude.{All, IsSome, codes, Result, Ok, Err}
use Rattle.std.specs.Fmt.{digits}
use Rattle.std.proofs.lemmas.List.Elements.{All-cons}
use Rattle.csv.specs.Machine.{next_record}
use Rattle.csv.specs.Reading.{records_from, strip_bom}
use Rattle.ats_buffer.specs.Buffer.{buffers_of}
use Rattle.ats_buffer_text.specs.Text.{buffers_text, row_line}
use Rattle.ats_certificate_file.specs.Reading as certificate
use Rattle.ats_certificate_file.specs.Reading.{row_in, row_after}
use Rattle.ats_csv.specs.Reading.{records_of, same_fields}
use Rattle.ats_examples.specs.Rows.{line_rows}
use Rattle.ats_examples.proofs.LegalProofs.{run_by}
use Rattle.ats_network.specs.Network.{DeclaredNetwork}
use Rattle.ats_num.specs.Failure.{◌>>=◌}
use Rattle.ats_schedule.specs.Reading.{header, release_after}
use Rattle.ats_trace.specs.declared.journey.Release.{Release}
use Rattle.ats_command_input.specs.Answer.{Answer}
use Rattle.ats_command_input.specs.Input.{network_in, releases_in, rows_in}
use Rattle.ats_command_input.specs.Order.{key_of, wait_of}
use Rattle.ats_command_input.specs.declared.order.Order.TheVariants.{Mixed}
use Rattle.ats_command_due.specs.Due.{IsPeaksAnswer}
use Rattle.ats_command_due.specs.Held.{Held, IsHeldText, held, held_in, held_judged}
use Rattle.ats_command_due.specs.Replayed.{IsOneOf, IsRunIn}
use Rattle.ats_call_examples.specs.Files.{done_with, faulty_with, network, no_text, refused_with, rows, schedule}
use Rattle.ats_call_examples.specs.Files.{short_rows, told}
use Rattle.ats_call_examples.proofs.Line.{answered, line, line_is, no_network}
use Rattle.ats_call_examples.proofs.Telling.{of_declared, two_told}
use Rattle.ats_answer_examples.specs.Told.{PeaksIsAnswered, peaked, two_frames}
use Rattle.ats_answer_examples.proofs.Occupied.{peaks_are, two_journeys, two_peaks}

-- Calls that tell the peaks of a run, which is worked out.

three_told : (tells : List ℕ → Option (List ℕ)) (name other third : List ℕ) → IsSome (tells name)
    → IsSome (tells other) → IsSome (tells third) → All (λ (n : List ℕ). IsSome (tells n)) (name ∷ other ∷ third ∷ [])
three_told tells name other third h k l =
    All-cons (λ (n : List ℕ). IsSome (tells n)) name (other ∷ third ∷ []) h (two_told tells other third k l)

-- what is held of this network, by the bytes of a certificate and a schedule
abbrev held_of : List ℕ → List ℕ → DeclaredNetwork → Result Held Answer
held_of certified scheduled over =
    rows_in over.topology (codes "c") certified >>= λ rows. held_judged over rows (codes "s") scheduled

-- by what the network's file declares
held_by : (net certified scheduled : List ℕ) (declared : Result DeclaredNetwork Answer) (due : Result Held Answer)
    → network_in (codes "n") net ≡ declared → (declared >>= held_of certified scheduled) ≡ due
    → held_in (codes "n") (codes "c") (codes "s") net certified scheduled ≡ due
unfolding held_in
held_by net certified scheduled declared due is h =
    answered (network_in (codes "n") net) (held_of certified scheduled) (λ (r : Result Held Answer). r ≡ due) declared
    is h

abbrev two_releases : List Release
two_releases =
    record { at = record { 0 = 0 }; sender = 0; octets = 1522 }
    ∷ record { at = record { 0 = 12336000 }; sender = 0; octets = 64 } ∷ []

held_is : held_in (codes "n") (codes "c") (codes "s") network rows two_frames ≡ Ok (held line line_rows two_releases)
unfolding
    rows_in releases_in next_record records_from strip_bom records_of same_fields certificate.header row_in row_after
    header release_after
held_is = held_by network rows two_frames (Ok line) (Ok (held line line_rows two_releases)) line_is refl

held_refused : held_in (codes "n") (codes "c") (codes "s") network short_rows two_frames
    ≡ Err (refused_with (codes "refused field s1>b1 6 bound 13836000\n"))
unfolding
    digits rows_in releases_in next_record records_from strip_bom records_of same_fields certificate.header row_in
    row_after header release_after
held_refused = held_by network short_rows two_frames (Ok line)
    (Err (refused_with (codes "refused field s1>b1 6 bound 13836000\n"))) line_is refl

no_schedule : held_in (codes "n") (codes "c") (codes "s") network short_rows rows
    ≡ Err (faulty_with (codes "input s bad-row 1\n"))
unfolding
    digits rows_in releases_in next_record records_from strip_bom records_of same_fields certificate.header row_in
    row_after header
no_schedule = held_by network short_rows rows (Ok line) (Err (faulty_with (codes "input s bad-row 1\n"))) line_is refl

no_rows : held_in (codes "n") (codes "c") (codes "s") network schedule rows
    ≡ Err (faulty_with (codes "input c bad-row 1\n"))
unfolding digits rows_in next_record records_from strip_bom records_of same_fields certificate.header
no_rows = held_by network schedule rows (Ok line) (Err (faulty_with (codes "input c bad-row 1\n"))) line_is refl

neither : held_in (codes "n") (codes "c") (codes "s") no_text schedule rows
    ≡ Err (faulty_with (codes "input n not-toml\n"))
neither = held_by no_text schedule rows (Err (faulty_with (codes "input n not-toml\n")))
    (Err (faulty_with (codes "input n not-toml\n"))) no_network refl

runs_mixed : IsRunIn (Mixed 9) line two_releases two_journeys
runs_mixed = record {
  by_order = run_by (key_of (Mixed 9)) (wait_of (Mixed 9)) line two_journeys refl refl refl;
  exactly = refl;
}

peaked_is : peaked ≡ buffers_text line.topology line_rows (buffers_of line line_rows) (Some two_peaks)
unfolding digits buffers_text row_line
peaked_is = refl

peaks_done : IsPeaksAnswer (codes "n") (codes "c") (codes "s") (Mixed 9) network rows two_frames (done_with peaked)
peaks_done = of_declared (IsOneOf (IsHeldText (Mixed 9)))
    (held_in (codes "n") (codes "c") (codes "s") network rows two_frames) (Ok (held line line_rows two_releases))
    (done_with peaked) held_is
    (refl, (two_journeys, two_peaks, record { is_run = runs_mixed; are_peaks = peaks_are; written = peaked_is }))

peaks_refused : IsPeaksAnswer (codes "n") (codes "c") (codes "s") (Mixed 9) network short_rows two_frames
    (refused_with (codes "refused field s1>b1 6 bound 13836000\n"))
peaks_refused = of_declared (IsOneOf (IsHeldText (Mixed 9)))
    (held_in (codes "n") (codes "c") (codes "s") network short_rows two_frames)
    (Err (refused_with (codes "refused field s1>b1 6 bound 13836000\n")))
    (refused_with (codes "refused field s1>b1 6 bound 13836000\n")) held_refused refl

peaks_unscheduled : IsPeaksAnswer (codes "n") (codes "c") (codes "s") (Mixed 9) network short_rows rows
    (faulty_with (codes "input s bad-row 1\n"))
peaks_unscheduled = of_declared (IsOneOf (IsHeldText (Mixed 9)))
    (held_in (codes "n") (codes "c") (codes "s") network short_rows rows)
    (Err (faulty_with (codes "input s bad-row 1\n"))) (faulty_with (codes "input s bad-row 1\n")) no_schedule refl

peaks_unrowed : IsPeaksAnswer (codes "n") (codes "c") (codes "s") (Mixed 9) network schedule rows
    (faulty_with (codes "input c bad-row 1\n"))
peaks_unrowed = of_declared (IsOneOf (IsHeldText (Mixed 9)))
    (held_in (codes "n") (codes "c") (codes "s") network schedule rows)
    (Err (faulty_with (codes "input c bad-row 1\n"))) (faulty_with (codes "input c bad-row 1\n")) no_rows refl

peaks_nowhere : IsPeaksAnswer (codes "n") (codes "c") (codes "s") (Mixed 9) no_text schedule rows
    (faulty_with (codes "input n not-toml\n"))
peaks_nowhere = of_declared (IsOneOf (IsHeldText (Mixed 9)))
    (held_in (codes "n") (codes "c") (codes "s") no_text schedule rows)
    (Err (faulty_with (codes "input n not-toml\n"))) (faulty_with (codes "input n not-toml\n")) neither refl

pub peaks_is_answered : PeaksIsAnswered
peaks_is_answered = record {
  done = record {
    is_told = three_told (told network rows two_frames) (codes "n") (codes "c") (codes "s") refl refl refl;
    answers = peaks_done;
  };
  refused = record {
    is_told = three_told (told network short_rows two_frames) (codes "n") (codes "c") (codes "s") refl refl refl;
    answers = peaks_refused;
  };
  schedule_faulty = record {
    is_told = three_told (told network short_rows rows) (codes "n") (codes "c") (codes "s") refl refl refl;
    answers = peaks_unscheduled;
  };
  rows_faulty = record {
    is_told = three_told (told network schedule rows) (codes "n") (codes "c") (codes "s") refl refl refl;
    answers = peaks_unrowed;
  };
  all_faulty = record {
    is_told = three_told (told no_text schedule rows) (codes "n") (codes "c") (codes "s") refl refl refl;
    answers = peaks_nowhere;
  };
}
