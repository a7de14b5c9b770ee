use Rattle.std.proofs.Common.{◌≡◌, ℕ, List, [], refl}
use Rattle.std.specs.Prelude.{codes, Result, Ok, Err}
use Rattle.std.specs.Fmt.{digits}
use Rattle.csv.specs.Machine.{next_record}
use Rattle.csv.specs.Reading.{records_from, strip_bom}
use Rattle.ats_admission_text.specs.Text.{given_text, reason_end}
use Rattle.ats_certificate_file.specs.Reading.{header, row_in, row_after}
use Rattle.ats_csv.specs.Reading.{records_of, same_fields}
use Rattle.ats_network.specs.Network.{DeclaredNetwork}
use Rattle.ats_verdict_text.specs.Text.{hop_line, listener_lines}
use Rattle.ats_command_input.specs.Answer.{Answer}
use Rattle.ats_command_input.specs.Input.{requests_in, rows_in}
use Rattle.ats_command_due.specs.Due.{admit_answer, check_answer}
use Rattle.ats_command_due.specs.Judged.{admission_judged, certificate_judged, check_judged, requests_judged}
use Rattle.ats_call_examples.specs.Files.{done_with, faulty_with, late, network, no_text, refused_with, rows, schedule}
use Rattle.ats_call_examples.specs.Files.{short_rows, told}
use Rattle.ats_call_examples.specs.Judged.{AdmitIsAnswered, CheckIsAnswered, accepted, requests}
use Rattle.ats_call_examples.proofs.JudgedByOne.{judged_as}
use Rattle.ats_call_examples.proofs.Line.{late_is, line, line_is, line_with, no_network}
use Rattle.ats_call_examples.proofs.Telling.{two_told}

-- Calls that judge two files: what the network's file declares, and then by computation.

-- the judgement of a certificate with these bytes, and that of requests
abbrev judge_rows : List ℕ → DeclaredNetwork → Result (List ℕ) Answer
judge_rows bytes over = certificate_judged over (codes "c") bytes

abbrev judge_requests : List ℕ → DeclaredNetwork → Result (List ℕ) Answer
judge_requests bytes over = requests_judged over (codes "s") bytes

pub check_done : done_with accepted ≡ check_answer (codes "n") (codes "c") network rows
unfolding
    digits check_answer rows_in check_judged hop_line listener_lines next_record records_from strip_bom records_of
    same_fields header row_in row_after
check_done = judged_as (judge_rows rows) network (Ok line) (done_with accepted) line_is refl

check_refused : refused_with (codes "refused field s1>b1 6 bound 13836000\n")
    ≡ check_answer (codes "n") (codes "c") network short_rows
unfolding
    digits check_answer rows_in check_judged next_record records_from strip_bom records_of same_fields header row_in
    row_after
check_refused = judged_as (judge_rows short_rows) network (Ok line)
    (refused_with (codes "refused field s1>b1 6 bound 13836000\n")) line_is refl

check_faulty : faulty_with (codes "input c bad-row 1\n") ≡ check_answer (codes "n") (codes "c") network schedule
unfolding digits check_answer rows_in next_record records_from strip_bom records_of same_fields header
check_faulty = judged_as (judge_rows schedule) network (Ok line) (faulty_with (codes "input c bad-row 1\n")) line_is
    refl

check_both : faulty_with (codes "input n not-toml\n") ≡ check_answer (codes "n") (codes "c") no_text schedule
unfolding check_answer
check_both = judged_as (judge_rows schedule) no_text (Err (faulty_with (codes "input n not-toml\n")))
    (faulty_with (codes "input n not-toml\n")) no_network refl

pub check_is_answered : CheckIsAnswered
check_is_answered = record {
  done = record { is_told = two_told (told network rows []) (codes "n") (codes "c") refl refl; answers = check_done };
  refused = record {
    is_told = two_told (told network short_rows []) (codes "n") (codes "c") refl refl;
    answers = check_refused;
  };
  faulty = record {
    is_told = two_told (told network schedule []) (codes "n") (codes "c") refl refl;
    answers = check_faulty;
  };
  both_faulty = record {
    is_told = two_told (told no_text schedule []) (codes "n") (codes "c") refl refl;
    answers = check_both;
  };
}

admit_done : done_with (codes "denied b deadline a 51344000\nwithdrawn a\nstreams 0\n")
    ≡ admit_answer (codes "n") (codes "s") network requests
unfolding digits admit_answer requests_in admission_judged given_text reason_end
admit_done = judged_as (judge_requests requests) network (Ok line)
    (done_with (codes "denied b deadline a 51344000\nwithdrawn a\nstreams 0\n")) line_is refl

admit_refused : refused_with (codes "refused deadline a 26672000\n")
    ≡ admit_answer (codes "n") (codes "s") late requests
unfolding digits admit_answer requests_in admission_judged
admit_refused = judged_as (judge_requests requests) late (Ok (line_with 100000000 26671))
    (refused_with (codes "refused deadline a 26672000\n")) late_is refl

admit_faulty : faulty_with (codes "input s bad-line 1\n") ≡ admit_answer (codes "n") (codes "s") late rows
unfolding digits admit_answer requests_in
admit_faulty = judged_as (judge_requests rows) late (Ok (line_with 100000000 26671))
    (faulty_with (codes "input s bad-line 1\n")) late_is refl

admit_both : faulty_with (codes "input n not-toml\n") ≡ admit_answer (codes "n") (codes "s") no_text rows
unfolding admit_answer
admit_both = judged_as (judge_requests rows) no_text (Err (faulty_with (codes "input n not-toml\n")))
    (faulty_with (codes "input n not-toml\n")) no_network refl

pub admit_is_answered : AdmitIsAnswered
admit_is_answered = record {
  done = record {
    is_told = two_told (told network [] requests) (codes "n") (codes "s") refl refl;
    answers = admit_done;
  };
  refused = record {
    is_told = two_told (told late [] requests) (codes "n") (codes "s") refl refl;
    answers = admit_refused;
  };
  faulty = record { is_told = two_told (told late [] rows) (codes "n") (codes "s") refl refl; answers = admit_faulty };
  both_faulty = record {
    is_told = two_told (told no_text [] rows) (codes "n") (codes "s") refl refl;
    answers = admit_both;
  };
}
