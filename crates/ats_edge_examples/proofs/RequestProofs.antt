use Rattle.std.proofs.Common.{◌≡◌, ◌∙◌, ◌↔◌, ℕ, [], ◌∷◌, Option, Some, None, Result, Ok, Err, refl, sym, ap}
use Rattle.std.specs.Prelude.{IfOk}
use Rattle.ats_num.specs.Failure.{◌>>=◌, unless}
use Rattle.ats_streams.specs.Stream.{DeclaredStream, stream_fault_within}
use Rattle.ats_streams.specs.declared.fault.StreamFault.{StreamFault}
use Rattle.ats_requests.specs.declared.request.Request.{Request}
use Rattle.ats_request_file.specs.Reading.{admit_line, asked, made_class, path_in, stream_made, stream_over}
use Rattle.ats_request_file.specs.Words.{admit_in}
use Rattle.ats_request_file.specs.declared.fault.RequestFault.{RequestFault}
use Rattle.ats_request_file.specs.declared.fault.RequestFault.TheVariants as asking
use Rattle.ats_edge_examples.specs.Requests.{LinesAreJudgedByThemselves, TellsBroken}

-- Lines that ask for a stream, by the steps that they are read in.

-- what a line gives that asks for this stream, by the rule that the stream breaks
abbrev given : ℕ → Option ℕ → Option StreamFault → DeclaredStream → Result Request RequestFault
given n class broken stream = unless (asking.Stream n) broken stream >>= λ made. Ok (asked class made)

refused : (n : ℕ) (class : Option ℕ) (broken : Option StreamFault) (stream : DeclaredStream) (fault : StreamFault)
    → given n class broken stream ≡ Err (asking.Stream n fault) ↔ broken ≡ Some fault
refused n class None stream fault = (λ h. cc h, λ h. cc h)
refused n class (Some other) stream fault = (λ h. cc h, λ h. cc h)

taken : (n : ℕ) (class : Option ℕ) (broken : Option StreamFault) (stream : DeclaredStream)
    → given n class broken stream ≡ Ok (asked class stream) ↔ broken ≡ None
taken n class None stream = (λ h. refl, λ h. refl)
taken n class (Some other) stream = (λ h. cc h, λ h. cc h)

tells : (line : Result Request RequestFault) (n : ℕ) (class : Option ℕ) (stream : DeclaredStream)
    (broken : Option StreamFault) → line ≡ given n class broken stream → TellsBroken line n class stream broken
tells line n class stream broken same = record {
  refused = λ fault.
      let both = refused n class broken stream fault in (λ h. both.0 (sym same ∙ h), λ h. same ∙ both.1 h);
  taken = let both = taken n class broken stream in (λ h. both.0 (sym same ∙ h), λ h. same ∙ both.1 h);
}

-- a step that gave a value goes on with it
goes_on : {A B F : Type 0} (r : Result A F) (f : A → Result B F) (x : A) → r ≡ Ok x → (r >>= f) ≡ f x
goes_on r f x h = ap (λ s. s >>= f) h

-- what holds of each value that is given holds of the one that is
where_given : {A F : Type 0} (P : A → Type 0) (r : Result A F) → ((x : A) → r ≡ Ok x → P x) → IfOk r P
where_given P (Ok x) holds = holds x refl
where_given P (Err e) holds = tt

pub judged_by_themselves : LinesAreJudgedByThemselves
judged_by_themselves network n words path is_path =
    where_given (λ said. TellsBroken (admit_line network n words) n said.class (stream_over path said)
    (stream_fault_within network.most_ports (made_class said ∷ []) (stream_over path said))) (admit_in n words)
    (λ said is_said. tells (admit_line network n words) n said.class (stream_over path said)
    (stream_fault_within network.most_ports (made_class said ∷ []) (stream_over path said))
    (goes_on (admit_in n words) (λ s. path_in network.topology n words
    >>= λ p. stream_made network.most_ports n s (stream_over p s) >>= λ made. Ok (asked s.class made)) said is_said
    ∙ goes_on (path_in network.topology n words) (λ p. stream_made network.most_ports n said (stream_over p said)
    >>= λ made. Ok (asked said.class made)) path is_path))
