use Rattle.std.proofs.Common.{◌≡◌, ℕ, List, [], ◌∷◌, refl}
use Rattle.std.specs.Prelude.{codes, Result, Ok, Err}
use Rattle.std.specs.Fmt.{digits}
use Rattle.ats_num.specs.Failure.{◌>>=◌}
use Rattle.ats_network.specs.Network.{DeclaredNetwork}
use Rattle.ats_witness.specs.Found.{AreFound, FoundDelays, found_delays}
use Rattle.ats_witness_law.proofs.WorkedBursts.{found_delays_are_met}
use Rattle.ats_witness_law.specs.Worked.{release}
use Rattle.ats_witness_text.specs.Text.{found_text, hop_line, release_line, title_line, witness_line, witness_text}
use Rattle.ats_examples.specs.Networks.{fork}
use Rattle.ats_command_input.specs.Answer.{Answer}
use Rattle.ats_command_input.specs.Input.{network_in}
use Rattle.ats_command_input.specs.Stream.{stream_in}
use Rattle.ats_command_due.specs.Due.{IsWitnessAnswer}
use Rattle.ats_command_due.specs.Replayed.{IsOneOf}
use Rattle.ats_command_due.specs.Witnessed as due
use Rattle.ats_command_due.specs.Witnessed.{IsWitnessed, Witnessed, least_sum, witness_judged, witnessed_in}
use Rattle.ats_call_examples.specs.Files.{done_with, faulty_with, fork_text, late, no_text, refused_with, told}
use Rattle.ats_call_examples.specs.Run.{WitnessIsAnswered, witnessed}
use Rattle.ats_call_examples.proofs.Fork.{fork_is}
use Rattle.ats_call_examples.proofs.Line.{answered, late_is, line_with, no_network}
use Rattle.ats_call_examples.proofs.Telling.{of_declared, one_told}

-- Calls that find delays of a stream.

-- of which stream of this network, by its name
abbrev witnessed_of : List ℕ → DeclaredNetwork → Result Witnessed Answer
witnessed_of name over = stream_in over.streams name >>= λ stream. witness_judged over stream

-- by what the network's file declares
witnessed_by : (name net : List ℕ) (declared : Result DeclaredNetwork Answer) (due : Result Witnessed Answer)
    → network_in (codes "n") net ≡ declared → (declared >>= witnessed_of name) ≡ due
    → witnessed_in (codes "n") name net ≡ due
unfolding witnessed_in
witnessed_by name net declared due is h = answered (network_in (codes "n") net) (witnessed_of name)
    (λ (r : Result Witnessed Answer). r ≡ due) declared is h

stream_is : witnessed_in (codes "n") (codes "a") fork_text ≡ Ok (due.witnessed fork 0)
unfolding stream_in witness_judged
stream_is = witnessed_by (codes "a") fork_text (Ok fork) (Ok (due.witnessed fork 0)) fork_is refl

no_stream : witnessed_in (codes "n") (codes "q") fork_text ≡ Err (refused_with (codes "refused stream q\n"))
unfolding stream_in
no_stream = witnessed_by (codes "q") fork_text (Ok fork) (Err (refused_with (codes "refused stream q\n"))) fork_is refl

none_holds : witnessed_in (codes "n") (codes "a") late ≡ Err (refused_with (codes "refused deadline a 26672000\n"))
unfolding digits stream_in witness_judged
none_holds = witnessed_by (codes "a") late (Ok (line_with 100000000 26671))
    (Err (refused_with (codes "refused deadline a 26672000\n"))) late_is refl

none_declared : witnessed_in (codes "n") (codes "a") no_text ≡ Err (faulty_with (codes "input n not-toml\n"))
none_declared = witnessed_by (codes "a") no_text (Err (faulty_with (codes "input n not-toml\n")))
    (Err (faulty_with (codes "input n not-toml\n"))) no_network refl

-- what is found of the first stream
abbrev found : FoundDelays
found = found_delays (26672000 ∷ 39008000 ∷ []) 1 (release 1 0 ∷ release 1 1 ∷ [])

are_found : AreFound fork 0 0 found
are_found = record {
  each = (found_delays_are_met.fork_alone, (found_delays_are_met.fork_together, tt));
  first = found_delays_are_met.fork_greatest;
  burst = found_delays_are_met.fork_second;
}

written : witnessed ≡ witness_text fork 0 (found ∷ []) (least_sum fork 0)
unfolding digits witness_text found_text title_line hop_line release_line witness_line
written = refl

has_delays : IsWitnessAnswer (codes "n") (codes "a") fork_text (done_with witnessed)
has_delays = of_declared (IsOneOf IsWitnessed) (witnessed_in (codes "n") (codes "a") fork_text)
    (Ok (due.witnessed fork 0)) (done_with witnessed) stream_is
    (refl, (found ∷ [], record { are_found = (are_found, tt); written = written }))

has_no_stream : IsWitnessAnswer (codes "n") (codes "q") fork_text (refused_with (codes "refused stream q\n"))
has_no_stream = of_declared (IsOneOf IsWitnessed) (witnessed_in (codes "n") (codes "q") fork_text)
    (Err (refused_with (codes "refused stream q\n"))) (refused_with (codes "refused stream q\n")) no_stream refl

has_none : IsWitnessAnswer (codes "n") (codes "a") late (refused_with (codes "refused deadline a 26672000\n"))
has_none = of_declared (IsOneOf IsWitnessed) (witnessed_in (codes "n") (codes "a") late)
    (Err (refused_with (codes "refused deadline a 26672000\n"))) (refused_with (codes "refused deadline a 26672000\n"))
    none_holds refl

has_no_network : IsWitnessAnswer (codes "n") (codes "a") no_text (faulty_with (codes "input n not-toml\n"))
has_no_network = of_declared (IsOneOf IsWitnessed) (witnessed_in (codes "n") (codes "a") no_text)
    (Err (faulty_with (codes "input n not-toml\n"))) (faulty_with (codes "input n not-toml\n")) none_declared refl

pub witness_is_answered : WitnessIsAnswered
witness_is_answered = record {
  done = record { is_told = one_told (told fork_text [] []) (codes "n") refl; answers = has_delays };
  refused = record { is_told = one_told (told fork_text [] []) (codes "n") refl; answers = has_no_stream };
  none_holds = record { is_told = one_told (told late [] []) (codes "n") refl; answers = has_none };
  faulty = record { is_told = one_told (told no_text [] []) (codes "n") refl; answers = has_no_network };
}
