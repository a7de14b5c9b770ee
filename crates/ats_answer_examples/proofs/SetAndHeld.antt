use Rattle.std.proofs.Common.{◌≡◌, ℕ, Bool, List, [], ◌∷◌, Some, refl, subst}
use Rattle.std.specs.Prelude.{codes, Result, Ok, Err}
use Rattle.std.specs.Cmp.{IsStrictWeakOrder, IsTotalOrder}
use Rattle.std.specs.Fmt.{digits}
use Rattle.std.specs.Ordering.{is_lt}
use Rattle.std.proofs.lemmas.Cmp.{nat_cmp_total, on_total, then_total}
use Rattle.std.proofs.lemmas.List.Sorted.{ranks_by}
use Rattle.csv.specs.Machine.{next_record}
use Rattle.csv.specs.Reading.{records_from, strip_bom}
use Rattle.ats_buffer_text.specs.Text.{buffers_text, row_line}
use Rattle.ats_certificate_file.specs.Reading.{header, row_in, row_after}
use Rattle.ats_csv.specs.Reading.{records_of, same_fields}
use Rattle.ats_network.specs.Network.{DeclaredNetwork}
use Rattle.ats_settings.specs.Settings.{AreSettings, hop_settings, place_cmp, place_of}
use Rattle.ats_settings.specs.declared.setting.Setting.{Setting}
use Rattle.ats_settings_law.proofs.InOrder.{in_order, keeps-ties, permutes, sorts}
use Rattle.ats_settings_text.specs.Text as settings
use Rattle.ats_settings_text.specs.Text.{settings_text}
use Rattle.ats_command_input.specs.Answer.{Answer}
use Rattle.ats_command_input.specs.Input.{network_in, rows_in}
use Rattle.ats_command_due.specs.Conformed.{IsAnswerTo}
use Rattle.ats_command_due.specs.Due.{IsSettingsAnswer, buffers_answer}
use Rattle.ats_command_due.specs.Judged.{buffers_judged, rows_judged}
use Rattle.ats_command_due.specs.Set.{TellsSettings}
use Rattle.ats_call_examples.specs.Files.{done_with, faulty_with, network, no_text, refused_with, rows, schedule}
use Rattle.ats_call_examples.specs.Files.{short_rows, told}
use Rattle.ats_call_examples.proofs.JudgedByOne.{judged_as}
use Rattle.ats_call_examples.proofs.Line.{line, line_is, no_network}
use Rattle.ats_call_examples.proofs.Telling.{of_declared, one_told, two_told}
use Rattle.ats_answer_examples.specs.Told.{BuffersIsAnswered, SettingsIsAnswered, buffered, set}

-- Calls that tell what to set and what may be held: what the network's file declares, and then by computation.

places_total : IsTotalOrder place_cmp
places_total = then_total (then_total (on_total (λ (t : ℕ × ℕ × ℕ). t.0) nat_cmp_total)
    (on_total (λ (t : ℕ × ℕ × ℕ). t.1) nat_cmp_total)) (on_total (λ (t : ℕ × ℕ × ℕ). t.2) nat_cmp_total)

abbrev before : Setting → Setting → Bool
before s t = is_lt (place_cmp (place_of s) (place_of t))

ranks : IsStrictWeakOrder before
ranks = ranks_by places_total place_of

-- the one setting of the line
abbrev one_setting : List Setting
one_setting =
    record {
      bridge = 2;
      received_from = 0;
      class = 6;
      sender = 0;
      scheduler = Some (record { rate_bps = 100000000; burst_bits = 12336; residence_ns = 1000000 });
      max_octets = 1522;
      sent_to = 2;
      class_there = 6;
    } ∷ []

line_is_set : AreSettings line one_setting
line_is_set =
    let is : in_order before ranks (hop_settings line) ≡ one_setting = refl in
    subst (AreSettings line) is (record {
      same = permutes before ranks (hop_settings line);
      by_place = sorts before ranks (hop_settings line);
      ties = keeps-ties before ranks (hop_settings line);
    })

set_is : set ≡ settings_text line one_setting
unfolding digits settings.header
set_is = refl

settings_done : IsSettingsAnswer (codes "n") network (done_with set)
settings_done = of_declared (IsAnswerTo TellsSettings) (network_in (codes "n") network) (Ok line) (done_with set)
    line_is
    (one_setting, record { are = line_is_set; done = subst (λ (t : List ℕ). done_with set ≡ done_with t) set_is refl })

settings_faulty : IsSettingsAnswer (codes "n") no_text (faulty_with (codes "input n not-toml\n"))
settings_faulty = of_declared (IsAnswerTo TellsSettings) (network_in (codes "n") no_text)
    (Err (faulty_with (codes "input n not-toml\n"))) (faulty_with (codes "input n not-toml\n")) no_network refl

pub settings_is_answered : SettingsIsAnswered
settings_is_answered = record {
  done = record { is_told = one_told (told network [] []) (codes "n") refl; answers = settings_done };
  faulty = record { is_told = one_told (told no_text [] []) (codes "n") refl; answers = settings_faulty };
}

-- the judgement of a certificate with these bytes
abbrev judge_rows : List ℕ → DeclaredNetwork → Result (List ℕ) Answer
judge_rows bytes over = rows_judged over (codes "c") bytes

buffers_done : done_with buffered ≡ buffers_answer (codes "n") (codes "c") network rows
unfolding
    digits buffers_answer rows_in buffers_judged buffers_text row_line next_record records_from strip_bom records_of
    same_fields header row_in row_after
buffers_done = judged_as (judge_rows rows) network (Ok line) (done_with buffered) line_is refl

buffers_refused : refused_with (codes "refused field s1>b1 6 bound 13836000\n")
    ≡ buffers_answer (codes "n") (codes "c") network short_rows
unfolding
    digits buffers_answer rows_in buffers_judged next_record records_from strip_bom records_of same_fields header row_in
    row_after
buffers_refused = judged_as (judge_rows short_rows) network (Ok line)
    (refused_with (codes "refused field s1>b1 6 bound 13836000\n")) line_is refl

buffers_faulty : faulty_with (codes "input c bad-row 1\n") ≡ buffers_answer (codes "n") (codes "c") network schedule
unfolding digits buffers_answer rows_in next_record records_from strip_bom records_of same_fields header
buffers_faulty = judged_as (judge_rows schedule) network (Ok line) (faulty_with (codes "input c bad-row 1\n")) line_is
    refl

buffers_both : faulty_with (codes "input n not-toml\n") ≡ buffers_answer (codes "n") (codes "c") no_text schedule
unfolding buffers_answer
buffers_both = judged_as (judge_rows schedule) no_text (Err (faulty_with (codes "input n not-toml\n")))
    (faulty_with (codes "input n not-toml\n")) no_network refl

pub buffers_is_answered : BuffersIsAnswered
buffers_is_answered = record {
  done = record { is_told = two_told (told network rows []) (codes "n") (codes "c") refl refl; answers = buffers_done };
  refused = record {
    is_told = two_told (told network short_rows []) (codes "n") (codes "c") refl refl;
    answers = buffers_refused;
  };
  faulty = record {
    is_told = two_told (told network schedule []) (codes "n") (codes "c") refl refl;
    answers = buffers_faulty;
  };
  both_faulty = record {
    is_told = two_told (told no_text schedule []) (codes "n") (codes "c") refl refl;
    answers = buffers_both;
  };
}
