use Rattle.std.proofs.Common.{◌≡◌, ℕ, List, [], refl}
use Rattle.std.specs.Prelude.{codes, Result, Ok, Err}
use Rattle.std.specs.Fmt.{digits}
use Rattle.csv.specs.Machine.{next_record}
use Rattle.csv.specs.Reading.{records_from, strip_bom}
use Rattle.ats_certificate_file.specs.Reading.{header, row_in, row_after}
use Rattle.ats_csv.specs.Reading.{records_of, same_fields}
use Rattle.ats_lrq.specs.Narrow.{narrowed}
use Rattle.ats_network.specs.Network.{DeclaredNetwork}
use Rattle.ats_shape.specs.Text.{frame_text, totals_text}
use Rattle.ats_verdict_text.specs.Text.{hop_line, listener_lines}
use Rattle.ats_command_input.specs.Answer.{Answer}
use Rattle.ats_command_input.specs.Input.{rows_in, shape_in}
use Rattle.ats_command_due.specs.Due.{bound_answer, check_answer, lrq_bound_answer, lrq_check_answer, lrq_shape_answer}
use Rattle.ats_command_due.specs.Judged.{bound_judged, certificate_judged, check_judged}
use Rattle.ats_call_examples.specs.Files.{done_with, faulty_with, no_text, refused_with, rows, schedule, short_rows}
use Rattle.ats_call_examples.specs.Files.{told}
use Rattle.ats_call_examples.specs.Judged.{accepted}
use Rattle.ats_call_examples.proofs.JudgedByOne.{judged_as}
use Rattle.ats_call_examples.proofs.Line.{no_network}
use Rattle.ats_call_examples.proofs.Telling.{one_told, two_told}
use Rattle.ats_answer_examples.specs.Regulated.{LrqBoundIsAnswered, LrqCheckIsAnswered, LrqShapeIsAnswered, bursts}
use Rattle.ats_answer_examples.specs.Regulated.{late_bursts, shape_text}
use Rattle.ats_answer_examples.proofs.Bursts.{bursts_is, late_is, line_until}

-- Calls about the other regulator: what the network's file declares, and then by computation.

pub lrq_shape_is_answered : LrqShapeIsAnswered
unfolding digits frame_text totals_text lrq_shape_answer shape_in
lrq_shape_is_answered = record {
  done = record { is_told = one_told (told [] [] shape_text) (codes "s") refl; answers = refl };
  faulty = record { is_told = one_told (told [] [] (codes "residence -1\n")) (codes "s") refl; answers = refl };
}

-- the judgements of the narrowed network, and of a certificate with these bytes for it
abbrev judge_narrowed : DeclaredNetwork → Result (List ℕ) Answer
judge_narrowed over = bound_judged (narrowed over)

abbrev judge_rows : List ℕ → DeclaredNetwork → Result (List ℕ) Answer
judge_rows bytes over = certificate_judged (narrowed over) (codes "c") bytes

abbrev judge_declared : List ℕ → DeclaredNetwork → Result (List ℕ) Answer
judge_declared bytes over = certificate_judged over (codes "c") bytes

bound_done : done_with rows ≡ lrq_bound_answer (codes "n") bursts
unfolding digits lrq_bound_answer bound_judged header
bound_done = judged_as judge_narrowed bursts (Ok (line_until 26672)) (done_with rows) bursts_is refl

bound_declared : refused_with (codes "refused deadline a 51344000\n") ≡ bound_answer (codes "n") bursts
unfolding digits bound_answer bound_judged
bound_declared = judged_as bound_judged bursts (Ok (line_until 26672))
    (refused_with (codes "refused deadline a 51344000\n")) bursts_is refl

bound_refused : refused_with (codes "refused deadline a 26672000\n") ≡ lrq_bound_answer (codes "n") late_bursts
unfolding digits lrq_bound_answer bound_judged
bound_refused = judged_as judge_narrowed late_bursts (Ok (line_until 26671))
    (refused_with (codes "refused deadline a 26672000\n")) late_is refl

bound_faulty : faulty_with (codes "input n not-toml\n") ≡ lrq_bound_answer (codes "n") no_text
unfolding lrq_bound_answer
bound_faulty = judged_as judge_narrowed no_text (Err (faulty_with (codes "input n not-toml\n")))
    (faulty_with (codes "input n not-toml\n")) no_network refl

pub lrq_bound_is_answered : LrqBoundIsAnswered
lrq_bound_is_answered = record {
  done = record { is_told = one_told (told bursts [] []) (codes "n") refl; answers = bound_done };
  declared = record { is_told = one_told (told bursts [] []) (codes "n") refl; answers = bound_declared };
  refused = record { is_told = one_told (told late_bursts [] []) (codes "n") refl; answers = bound_refused };
  faulty = record { is_told = one_told (told no_text [] []) (codes "n") refl; answers = bound_faulty };
}

check_done : done_with accepted ≡ lrq_check_answer (codes "n") (codes "c") bursts rows
unfolding
    digits lrq_check_answer rows_in check_judged hop_line listener_lines next_record records_from strip_bom records_of
    same_fields header row_in row_after
check_done = judged_as (judge_rows rows) bursts (Ok (line_until 26672)) (done_with accepted) bursts_is refl

check_declared : refused_with (codes "refused field s1>b1 6 bursts 24672\n")
    ≡ check_answer (codes "n") (codes "c") bursts rows
unfolding
    digits check_answer rows_in check_judged next_record records_from strip_bom records_of same_fields header row_in
    row_after
check_declared = judged_as (judge_declared rows) bursts (Ok (line_until 26672))
    (refused_with (codes "refused field s1>b1 6 bursts 24672\n")) bursts_is refl

check_refused : refused_with (codes "refused field s1>b1 6 bound 13836000\n")
    ≡ lrq_check_answer (codes "n") (codes "c") bursts short_rows
unfolding
    digits lrq_check_answer rows_in check_judged next_record records_from strip_bom records_of same_fields header row_in
    row_after
check_refused = judged_as (judge_rows short_rows) bursts (Ok (line_until 26672))
    (refused_with (codes "refused field s1>b1 6 bound 13836000\n")) bursts_is refl

check_late : refused_with (codes "refused deadline a 26672000\n")
    ≡ lrq_check_answer (codes "n") (codes "c") late_bursts rows
unfolding
    digits lrq_check_answer rows_in check_judged next_record records_from strip_bom records_of same_fields header row_in
    row_after
check_late = judged_as (judge_rows rows) late_bursts (Ok (line_until 26671))
    (refused_with (codes "refused deadline a 26672000\n")) late_is refl

check_faulty : faulty_with (codes "input c bad-row 1\n") ≡ lrq_check_answer (codes "n") (codes "c") bursts schedule
unfolding digits lrq_check_answer rows_in next_record records_from strip_bom records_of same_fields header
check_faulty = judged_as (judge_rows schedule) bursts (Ok (line_until 26672))
    (faulty_with (codes "input c bad-row 1\n")) bursts_is refl

check_both : faulty_with (codes "input n not-toml\n") ≡ lrq_check_answer (codes "n") (codes "c") no_text schedule
unfolding lrq_check_answer
check_both = judged_as (judge_rows schedule) no_text (Err (faulty_with (codes "input n not-toml\n")))
    (faulty_with (codes "input n not-toml\n")) no_network refl

pub lrq_check_is_answered : LrqCheckIsAnswered
lrq_check_is_answered = record {
  done = record { is_told = two_told (told bursts rows []) (codes "n") (codes "c") refl refl; answers = check_done };
  declared = record {
    is_told = two_told (told bursts rows []) (codes "n") (codes "c") refl refl;
    answers = check_declared;
  };
  refused = record {
    is_told = two_told (told bursts short_rows []) (codes "n") (codes "c") refl refl;
    answers = check_refused;
  };
  late = record {
    is_told = two_told (told late_bursts rows []) (codes "n") (codes "c") refl refl;
    answers = check_late;
  };
  faulty = record {
    is_told = two_told (told bursts schedule []) (codes "n") (codes "c") refl refl;
    answers = check_faulty;
  };
  both_faulty = record {
    is_told = two_told (told no_text schedule []) (codes "n") (codes "c") refl refl;
    answers = check_both;
  };
}
