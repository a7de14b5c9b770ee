use Rattle.std.proofs.Common.{◌≡◌, ℕ, List, [], refl}
use Rattle.std.specs.Prelude.{codes, Result, Ok, Err}
use Rattle.std.specs.Fmt.{digits}
use Rattle.ats_certificate_file.specs.Reading.{header}
use Rattle.ats_explain_text.specs.Text as explain
use Rattle.ats_network.specs.Network.{DeclaredNetwork}
use Rattle.ats_network_text.specs.Text as show
use Rattle.ats_network_text.specs.Text.{show_text}
use Rattle.ats_num.specs.Failure.{◌>>=◌}
use Rattle.ats_shape.specs.Text.{frame_text, totals_text}
use Rattle.ats_command_input.specs.Answer.{Answer, settled}
use Rattle.ats_command_input.specs.Input.{network_in, shape_in}
use Rattle.ats_command_due.specs.Due.{bound_answer, explain_answer, shape_answer, show_answer}
use Rattle.ats_command_due.specs.Judged.{bound_judged, explain_judged}
use Rattle.ats_call_examples.specs.Files.{done_with, faulty_with, late, network, no_text, overloaded, refused_with}
use Rattle.ats_call_examples.specs.Files.{rows, told}
use Rattle.ats_call_examples.specs.Judged.{BoundIsAnswered, ExplainIsAnswered, ShapeIsAnswered, ShowIsAnswered}
use Rattle.ats_call_examples.specs.Judged.{explained, shown}
use Rattle.ats_call_examples.proofs.Line.{answered, late_is, line, line_is, line_with, no_network, overloaded_is}
use Rattle.ats_call_examples.proofs.Telling.{one_told}

-- Calls that judge one file: what the network's file declares, and then by computation.

pub shape_is_answered : ShapeIsAnswered
unfolding digits frame_text totals_text shape_answer shape_in
shape_is_answered = record {
  done = record {
    is_told = one_told
        (told [] [] (codes "residence 20000\nstream a 50000000 8000 64 900\nframe 1001 a 880\n")) (codes "s") refl;
    answers = refl;
  };
  faulty = record { is_told = one_told (told [] [] (codes "residence -1\n")) (codes "s") refl; answers = refl };
}

-- what a judgement of a file with these bytes comes to
pub judged_as : (judge : DeclaredNetwork → Result (List ℕ) Answer) (bytes : List ℕ)
    (declared : Result DeclaredNetwork Answer) (answer : Answer) → network_in (codes "n") bytes ≡ declared
    → answer ≡ settled (declared >>= judge) → answer ≡ settled (network_in (codes "n") bytes >>= judge)
judged_as judge bytes declared answer is h =
    answered (network_in (codes "n") bytes) judge (λ (due : Result (List ℕ) Answer). answer ≡ settled due) declared is h

show_done : done_with shown ≡ show_answer (codes "n") network
unfolding
    digits show_answer show.show_text show.port_line show.classes_text show.rates_line show.sender_line
    show.totals_line
show_done = judged_as (λ over. Ok (show_text over)) network (Ok line) (done_with shown) line_is refl

show_faulty : faulty_with (codes "input n not-toml\n") ≡ show_answer (codes "n") no_text
unfolding show_answer
show_faulty = judged_as (λ over. Ok (show_text over)) no_text (Err (faulty_with (codes "input n not-toml\n")))
    (faulty_with (codes "input n not-toml\n")) no_network refl

pub show_is_answered : ShowIsAnswered
show_is_answered = record {
  done = record { is_told = one_told (told network [] []) (codes "n") refl; answers = show_done };
  faulty = record { is_told = one_told (told no_text [] []) (codes "n") refl; answers = show_faulty };
}

bound_done : done_with rows ≡ bound_answer (codes "n") network
unfolding digits bound_answer bound_judged header
bound_done = judged_as bound_judged network (Ok line) (done_with rows) line_is refl

bound_refused : refused_with (codes "refused deadline a 26672000\n") ≡ bound_answer (codes "n") late
unfolding digits bound_answer bound_judged
bound_refused = judged_as bound_judged late (Ok (line_with 100000000 26671))
    (refused_with (codes "refused deadline a 26672000\n")) late_is refl

bound_faulty : faulty_with (codes "input n not-toml\n") ≡ bound_answer (codes "n") no_text
unfolding bound_answer
bound_faulty = judged_as bound_judged no_text (Err (faulty_with (codes "input n not-toml\n")))
    (faulty_with (codes "input n not-toml\n")) no_network refl

pub bound_is_answered : BoundIsAnswered
bound_is_answered = record {
  done = record { is_told = one_told (told network [] []) (codes "n") refl; answers = bound_done };
  refused = record { is_told = one_told (told late [] []) (codes "n") refl; answers = bound_refused };
  faulty = record { is_told = one_told (told no_text [] []) (codes "n") refl; answers = bound_faulty };
}

explain_done : done_with explained ≡ explain_answer (codes "n") network
unfolding
    digits explain_answer explain_judged explain.explain_text explain.stream_line explain.wait_text explain.bound_text
    explain.hop_line explain.port_line explain.counts_text
explain_done = judged_as explain_judged network (Ok line) (done_with explained) line_is refl

explain_refused : refused_with (codes "refused overloaded s1>b1 6 2000000000000\n")
    ≡ explain_answer (codes "n") overloaded
unfolding digits explain_answer explain_judged
explain_refused = judged_as explain_judged overloaded (Ok (line_with 2000000000 26672))
    (refused_with (codes "refused overloaded s1>b1 6 2000000000000\n")) overloaded_is refl

explain_faulty : faulty_with (codes "input n not-toml\n") ≡ explain_answer (codes "n") no_text
unfolding explain_answer
explain_faulty = judged_as explain_judged no_text (Err (faulty_with (codes "input n not-toml\n")))
    (faulty_with (codes "input n not-toml\n")) no_network refl

pub explain_is_answered : ExplainIsAnswered
explain_is_answered = record {
  done = record { is_told = one_told (told network [] []) (codes "n") refl; answers = explain_done };
  refused = record { is_told = one_told (told overloaded [] []) (codes "n") refl; answers = explain_refused };
  faulty = record { is_told = one_told (told no_text [] []) (codes "n") refl; answers = explain_faulty };
}
