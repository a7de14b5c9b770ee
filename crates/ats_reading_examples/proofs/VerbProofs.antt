use Rattle.std.proofs.Common.{◌≡◌, ◌∙◌, ℕ, Bool, true, false, cond, List, Option, Some, None, Ok, Err, refl, ap}
use Rattle.std.specs.Prelude.{◌==◌, codes, length}
use Rattle.std.specs.Str.{bytes_eq}
use Rattle.ats_facts.proofs.Bytes.{bytes_eq-true}
use Rattle.ats_network.specs.Network.{DeclaredNetwork}
use Rattle.ats_streams.specs.Stream.{DeclaredStream}
use Rattle.ats_requests.specs.declared.request.Request.{Request}
use Rattle.ats_requests.specs.declared.request.Request.TheVariants.{Withdraw}
use Rattle.ats_words.specs.Words.{word}
use Rattle.ats_request_file.specs.Reading.{admit_line, asked, path_in, stream_made, stream_over}
use Rattle.ats_request_file.specs.Reading.{withdraw_line}
use Rattle.ats_request_file.specs.Words.{admit_in, named}
use Rattle.ats_request_file.specs.declared.fault.RequestFault.{RequestFault}
use Rattle.ats_request_file.specs.declared.fault.RequestFault.TheVariants.{BadLine}
use Rattle.ats_reading_examples.specs.Lines.{VerbsAreTwo, verb_of}
use Rattle.ats_reading_examples.proofs.Steps.{both, passed, same_value}

-- The first word of a line that asks something.

asks_stream : (class : Option ℕ) (stream : DeclaredStream) → codes "admit" ≡ verb_of (asked class stream)
asks_stream None stream = refl
asks_stream (Some class) stream = refl

admit_verb : (network : DeclaredNetwork) (n : ℕ) (words : List (List ℕ)) (request : Request)
    → admit_line network n words ≡ Ok request → codes "admit" ≡ verb_of request
admit_verb network n words request h =
    let said = both (admit_in n words) _ request h in
    let path = both (path_in network.topology n words) _ request said.then in
    let stream = both (stream_made network.most_ports n said.first
    (stream_over path.first said.first)) _ request path.then in
    asks_stream said.first.class stream.first
    ∙ ap verb_of (same_value {F = RequestFault} (asked said.first.class stream.first) request stream.then)

withdraw_verb : (n : ℕ) (words : List (List ℕ)) (request : Request) → withdraw_line n words ≡ Ok request
    → codes "withdraw" ≡ verb_of request
withdraw_verb n words request h =
    let name = both (named n words 1) _ request h in
    ap verb_of (passed (length words == 2) (BadLine n) (Withdraw name.first) request name.then)

pub verbs_are_two : VerbsAreTwo
verbs_are_two network n words request h =
    by (bytes_eq (word words 0) (codes "admit")) (bytes_eq (word words 0) (codes "withdraw")) refl refl h
  where
    by : (admits withdraws : Bool) → bytes_eq (word words 0) (codes "admit") ≡ admits
        → bytes_eq (word words 0) (codes "withdraw") ≡ withdraws
        → cond admits (admit_line network n words) (cond withdraws (withdraw_line n words) (Err (BadLine n)))
        ≡ Ok request → word words 0 ≡ verb_of request
    by true withdraws is is_not h =
        bytes_eq-true (word words 0) (codes "admit") is ∙ admit_verb network n words request h
    by false true is_not is h =
        bytes_eq-true (word words 0) (codes "withdraw") is ∙ withdraw_verb n words request h
    by false false is_not none h = cc h
