use Rattle.std.proofs.Common.{◌≡◌, ℕ, ◌≤◌, List, [], get_or, arith, refl, subst}
use Rattle.std.specs.Prelude.{◌++◌, codes, IsSome, Result, Ok, Err}
use Rattle.std.specs.Fmt.{digits}
use Rattle.std.proofs.lemmas.List.Elements.{All-nil}
use Rattle.std.proofs.lemmas.List.Sorted.{IsPermutation-refl}
use Rattle.ats_num.specs.Failure.{◌>>=◌}
use Rattle.ats_gen.specs.Made.{AreMade}
use Rattle.ats_network.specs.Network.{DeclaredNetwork}
use Rattle.ats_trace.specs.declared.journey.Release.{Release}
use Rattle.ats_replay.specs.Report.{report_text, summary_text}
use Rattle.ats_replay.specs.Totals.{counts_text, totals_line}
use Rattle.ats_command_input.specs.Answer.{Answer}
use Rattle.ats_command_input.specs.Input.{network_in}
use Rattle.ats_command_input.specs.Order.{key_of, wait_of}
use Rattle.ats_command_input.specs.declared.order.Order.TheVariants.{Early}
use Rattle.ats_command_due.specs.Due.{IsGenerateAnswer}
use Rattle.ats_command_due.specs.Generated.{IsGenerated, generated_in, least_sums, made_for}
use Rattle.ats_command_due.specs.Replayed.{IsOneOf, IsRunIn}
use Rattle.ats_examples.proofs.LegalProofs.{run_by}
use Rattle.ats_call_examples.specs.Files.{done_with, faulty_with, network, no_text, refused_with, told}
use Rattle.ats_call_examples.specs.Run.{GenerateIsAnswered, WordsAreAnswered, still}
use Rattle.ats_call_examples.proofs.Line.{answered, line, line_is, no_network, one_journey, one_release, still_is}
use Rattle.ats_call_examples.proofs.Line.{still_network}
use Rattle.ats_call_examples.proofs.Telling.{of_declared, one_told}

-- Calls that make releases, and words that are no call.

-- the time of a release with this number
abbrev time_at : ℕ → Release → ℕ
time_at i d = (get_or (one_release 1374) i d).at.0

-- one frame is made, and stands by time
made : AreMade line 7 1 (one_release 1374)
made = record {
  same = IsPermutation-refl (one_release 1374);
  by_time = λ i j d before within.
      (let same : i ≡ j = omega (arith, before, within) in
      subst (λ (k : ℕ). time_at i d ≤ time_at k d) same (omega arith));
  ties = λ x. refl;
}

runs : IsRunIn Early line (one_release 1374) (one_journey 1374 11152000)
runs = record {
  by_order = run_by (key_of Early) (wait_of Early) line (one_journey 1374 11152000) refl refl refl;
  exactly = refl;
}

abbrev report : List ℕ
report =
    codes "stream a frames 1 sunk 1 late 0 size 0 worst 24304000 bound 26672000\n"
    ++ codes "total frames 1 sunk 1 late 0 size 0\n"

report_is : report ≡ report_text line (one_journey 1374 11152000) (least_sums line)
unfolding digits report_text summary_text counts_text totals_line
report_is = refl

-- by what the network's file declares
generated_by : (net : List ℕ) (declared due : Result DeclaredNetwork Answer) → network_in (codes "n") net ≡ declared
    → (declared >>= made_for 7 1) ≡ due → generated_in (codes "n") 7 1 net ≡ due
unfolding generated_in
generated_by net declared due is h = answered (network_in (codes "n") net) (made_for 7 1)
    (λ (r : Result DeclaredNetwork Answer). r ≡ due) declared is h

is_made : generated_in (codes "n") 7 1 network ≡ Ok line
unfolding made_for
is_made = generated_by network (Ok line) (Ok line) line_is refl

no_stream : generated_in (codes "n") 7 1 still ≡ Err (refused_with (codes "refused no-stream\n"))
unfolding made_for
no_stream = generated_by still (Ok still_network) (Err (refused_with (codes "refused no-stream\n"))) still_is refl

none_made : generated_in (codes "n") 7 1 no_text ≡ Err (faulty_with (codes "input n not-toml\n"))
none_made = generated_by no_text (Err (faulty_with (codes "input n not-toml\n")))
    (Err (faulty_with (codes "input n not-toml\n"))) no_network refl

reports : IsGenerateAnswer (codes "n") 7 1 network (done_with report)
reports = of_declared (IsOneOf (IsGenerated 7 1)) (generated_in (codes "n") 7 1 network) (Ok line)
    (done_with report) is_made
    (refl, (one_release 1374, made, (one_journey 1374 11152000, record { is_run = runs; written = report_is })))

has_no_stream : IsGenerateAnswer (codes "n") 7 1 still (refused_with (codes "refused no-stream\n"))
has_no_stream = of_declared (IsOneOf (IsGenerated 7 1)) (generated_in (codes "n") 7 1 still)
    (Err (refused_with (codes "refused no-stream\n")))
    (refused_with (codes "refused no-stream\n")) no_stream refl

has_no_network : IsGenerateAnswer (codes "n") 7 1 no_text (faulty_with (codes "input n not-toml\n"))
has_no_network = of_declared (IsOneOf (IsGenerated 7 1)) (generated_in (codes "n") 7 1 no_text)
    (Err (faulty_with (codes "input n not-toml\n")))
    (faulty_with (codes "input n not-toml\n")) none_made refl

pub generate_is_answered : GenerateIsAnswered
generate_is_answered = record {
  done = record { is_told = one_told (told network [] []) (codes "n") refl; answers = reports };
  refused = record { is_told = one_told (told still [] []) (codes "n") refl; answers = has_no_stream };
  faulty = record { is_told = one_told (told no_text [] []) (codes "n") refl; answers = has_no_network };
}

pub words_are_answered : WordsAreAnswered
words_are_answered tells = record { is_told = All-nil (λ (n : List ℕ). IsSome (tells n)); answers = refl }
