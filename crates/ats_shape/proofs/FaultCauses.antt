use Rattle.std.proofs.Common.{◌≡◌, ◌⊎◌, ℕ, Bool, true, false, not, ◌&&◌, List, length, Option, None, Some}
use Rattle.std.proofs.Common.{Result, Ok, Err, refl, sym, ap, ◌∙◌, inl, inr}
use Rattle.std.specs.Prelude.{◌==◌, is_ok, is_some, is_none, codes, nat_le, nat_lt, if◌then◌else◌}
use Rattle.std.specs.List.{list_all}
use Rattle.std.specs.Str.{bytes_eq}
use Rattle.std.proofs.lemmas.Bool.{and_parts, le-leb, le-ltb, lt-leb}
use Rattle.ats_num.specs.Places.{place_of}
use Rattle.ats_io.specs.Text.{words_of}
use Rattle.ats_streams.specs.Fault.{rules_fault}
use Rattle.ats_streams.specs.declared.fault.StreamFault.{StreamFault}
use Rattle.ats_num.specs.Failure.{◌>>=◌, or_fault, ok_where}
use Rattle.ats_words.specs.Words.{word, is_skipped}
use Rattle.ats_shape.specs.Reading.{residence_in, residence_line, stream_in, frame_in}
use Rattle.ats_shape.specs.Reading.{stream_or_fault, stream_of, frame_of}
use Rattle.ats_shape.specs.FaultLaw.{line_number, is_stream_line, is_frame_line, number_in, names_on, arrivals_on}
use Rattle.ats_shape.specs.FaultLaw.{last_of, has_form, broken_by, IsStreamPast, IsFramePast, Cause}
use Rattle.ats_shape.specs.declared.fault.ShapeFault.{ShapeFault}
use Rattle.ats_shape.specs.declared.fault.ShapeFault.TheVariants.{BadLine, NameTwice, UnknownName, TimeBack, Limit}
use Rattle.ats_shape.specs.declared.fault.ShapeFault.TheVariants as faults
use Rattle.ats_shape.specs.declared.line.StreamWords.{StreamWords}
use Rattle.ats_shape.specs.declared.line.FrameWords.{FrameWords}
use Rattle.ats_shape.specs.declared.line.Line.{Line}
use Rattle.ats_shape.specs.declared.line.Line.TheVariants.{Skipped, Residence, Stream, Frame}
use Rattle.ats_shape.proofs.LineFacts.{other_word, residence_form, residence_starts, stream_said, stream_form}
use Rattle.ats_shape.proofs.LineFacts.{frame_said, frame_form}
use Rattle.ats_shape.proofs.LineCases.{stream_by, frame_by, line_behind, IsFaulty}

not_said : {A : Type 0} (r : Result A ShapeFault) (fault : ShapeFault) (x : A) → r ≡ ok_where (is_ok r) fault x
    → is_ok r ≡ false → r ≡ Err fault
not_said r fault x form p = form ∙ ap (λ (b : Bool). ok_where b fault x) p

is_said : {A : Type 0} (r : Result A ShapeFault) (fault : ShapeFault) (x : A) → r ≡ ok_where (is_ok r) fault x
    → is_ok r ≡ true → r ≡ Ok x
is_said r fault x form p = form ∙ ap (λ (b : Bool). ok_where b fault x) p

-- a line without its form is a bad line
abbrev stream_behind : List (List ℕ) → Bool → ℕ → List (List ℕ) → Result Line ShapeFault
stream_behind before early n words = stream_by (names_on before) (length (names_on before)) early n words

abbrev frame_behind : List (List ℕ) → ℕ → List (List ℕ) → Result Line ShapeFault
frame_behind before n words =
    frame_by (names_on before) (length (arrivals_on before)) (last_of (arrivals_on before)) n words

bad_residence : (n : ℕ) (words : List (List ℕ)) → is_ok (residence_in n words) ≡ false
    → residence_line n words ≡ Err (BadLine n)
bad_residence n words h = ap (λ (r : Result ℕ ShapeFault). r >>= λ ns. Ok (Residence ns))
    (not_said (residence_in n words) (BadLine n) (number_in words 1) (residence_form n words) h)

bad_stream : (before : List (List ℕ)) (n : ℕ) (words : List (List ℕ)) (early : Bool)
    → (early && is_ok (stream_in n words)) ≡ false → stream_behind before early n words ≡ Err (BadLine n)
bad_stream before n words true h =
    ap (λ (r : Result StreamWords ShapeFault). r >>= λ said.
    ok_where (is_none (place_of said.name (names_on before))) (NameTwice n) said >>= λ named. stream_or_fault n
    (stream_of named) (rules_fault named.rate_bps named.burst_bits named.min_octets named.max_octets)
    >>= λ stream. ok_where (nat_lt (length (names_on before)) 4096) (Limit n) (Stream stream))
    (not_said (stream_in n words) (BadLine n) (stream_said words) (stream_form n words) h)
bad_stream before n words false h = refl

bad_frame : (before : List (List ℕ)) (n : ℕ) (words : List (List ℕ)) → is_ok (frame_in n words) ≡ false
    → frame_behind before n words ≡ Err (BadLine n)
bad_frame before n words h =
    ap (λ (r : Result FrameWords ShapeFault). r
    >>= λ said. or_fault (UnknownName n) (place_of said.name (names_on before))
    >>= λ stream. ok_where (nat_le (last_of (arrivals_on before)) said.at) (TimeBack n) (frame_of said stream)
    >>= λ frame. ok_where (nat_lt (length (arrivals_on before)) 200000) (Limit n) (Frame frame))
    (not_said (frame_in n words) (BadLine n) (frame_said words) (frame_form n words) h)

bad_line : (n : ℕ) (skipped unopened stream frame : Bool) (residence_said stream_said frame_said : Bool)
    (residence streams frames : Result Line ShapeFault)
    → (residence_said ≡ false → residence ≡ Err (BadLine n)) → (stream_said ≡ false → streams ≡ Err (BadLine n))
    → (frame_said ≡ false → frames ≡ Err (BadLine n))
    → (if skipped then true else if unopened then residence_said else if not skipped && stream then stream_said
    else ((not skipped && frame) && frame_said)) ≡ false
    → (if skipped then Ok Skipped else if unopened then residence else if stream then streams else if frame then frames
    else Err (BadLine n)) ≡ Err (BadLine n)
bad_line n true unopened stream frame a b c residence streams frames p q r h = cc
bad_line n false true stream frame a b c residence streams frames p q r h = p h
bad_line n false false true frame a b c residence streams frames p q r h = q h
bad_line n false false false true a b c residence streams frames p q r h = r h
bad_line n false false false false a b c residence streams frames p q r h = refl

bad : (before : List (List ℕ)) (n : ℕ) (line : List ℕ) → has_form before n line ≡ false
    → line_behind before n line ≡ Err (BadLine n)
bad before n line h =
    bad_line n (is_skipped line) (list_all is_skipped before) (bytes_eq (word (words_of line) 0) (codes "stream"))
    (bytes_eq (word (words_of line) 0) (codes "frame"))
    (is_ok (residence_in n (words_of line))) ((length (arrivals_on before) == 0) && is_ok (stream_in n (words_of line)))
    (is_ok (frame_in n (words_of line)))
    (residence_line n (words_of line)) (stream_behind before (length (arrivals_on before) == 0) n (words_of line))
    (frame_behind before n (words_of line))
    (bad_residence n (words_of line)) (bad_stream before n (words_of line) (length (arrivals_on before) == 0))
    (bad_frame before n (words_of line)) h

-- a line that begins with such a word and has its form counts, and comes behind the residence
opened_by : (skipped unopened begins residence_said a : Bool) → (residence_said ≡ true → begins ≡ false)
    → (if skipped then true else if unopened then residence_said else a) ≡ true → (not skipped && begins) ≡ true
    → (skipped ≡ false) × (unopened ≡ false) × (begins ≡ true) × (a ≡ true)
opened_by true unopened begins residence_said a other h p = cc
opened_by false true begins residence_said a other h p = let e = other h in cc
opened_by false false begins residence_said a other h p = (refl, refl, p, h)

-- the test of a form, behind the residence
abbrev rest_form : List (List ℕ) → ℕ → List ℕ → Bool
rest_form before n line = if is_stream_line line then (length (arrivals_on before) == 0)
    && is_ok (stream_in n (words_of line)) else is_frame_line line && is_ok (frame_in n (words_of line))

opened_word : (before : List (List ℕ)) (n : ℕ) (line first : List ℕ) → bytes_eq (codes "residence") first ≡ false
    → has_form before n line ≡ true → (not (is_skipped line) && bytes_eq (word (words_of line) 0) first) ≡ true
    → (is_skipped line ≡ false) × (list_all is_skipped before ≡ false)
    × (bytes_eq (word (words_of line) 0) first ≡ true) × (rest_form before n line ≡ true)
opened_word before n line first other form starts =
    opened_by (is_skipped line) (list_all is_skipped before) (bytes_eq (word (words_of line) 0) first)
    (is_ok (residence_in n (words_of line))) (rest_form before n line)
    (λ (p : is_ok (residence_in n (words_of line)) ≡ true). other_word (word (words_of line) 0) (codes "residence")
    first (residence_starts n (words_of line) p) other) form starts

record OpenedStream (before : List (List ℕ)) (n : ℕ) (line : List ℕ) : Type 0 where
  counts : is_skipped line ≡ false
  opened : list_all is_skipped before ≡ false
  begins : bytes_eq (word (words_of line) 0) (codes "stream") ≡ true
  early : (length (arrivals_on before) == 0) ≡ true
  said : is_ok (stream_in n (words_of line)) ≡ true

record OpenedFrame (before : List (List ℕ)) (n : ℕ) (line : List ℕ) : Type 0 where
  counts : is_skipped line ≡ false
  opened : list_all is_skipped before ≡ false
  other : bytes_eq (word (words_of line) 0) (codes "stream") ≡ false
  begins : bytes_eq (word (words_of line) 0) (codes "frame") ≡ true
  said : is_ok (frame_in n (words_of line)) ≡ true

then_of : (b x y : Bool) → b ≡ true → (if b then x else y) ≡ true → x ≡ true
then_of b x y p h = rw p at h

else_of : (s b x y : Bool) → b ≡ false → (if not s && b then x else y) ≡ true → y ≡ true
else_of true b x y p h = h
else_of false b x y p h = rw p at h

opened_stream : (before : List (List ℕ)) (n : ℕ) (line : List ℕ) → has_form before n line ≡ true
    → is_stream_line line ≡ true → OpenedStream before n line
opened_stream before n line form stream =
    let h = opened_word before n line (codes "stream") refl form stream in
    let parts = and_parts (length (arrivals_on before) == 0) (is_ok (stream_in n (words_of line)))
    (then_of (is_stream_line line) _ (is_frame_line line && is_ok (frame_in n (words_of line))) stream h.3) in
    record { counts = h.0; opened = h.1; begins = h.2; early = parts.0; said = parts.1 }

opened_frame : (before : List (List ℕ)) (n : ℕ) (line : List ℕ) → has_form before n line ≡ true
    → is_frame_line line ≡ true → OpenedFrame before n line
opened_frame before n line form frame =
    let h = opened_word before n line (codes "frame") refl form frame in
    let other : bytes_eq (word (words_of line) 0) (codes "stream") ≡ false =
    other_word (word (words_of line) 0) (codes "frame") (codes "stream") h.2 refl in
    let said : (is_frame_line line && is_ok (frame_in n (words_of line))) ≡ true =
    else_of (is_skipped line) (bytes_eq (word (words_of line) 0) (codes "stream"))
    ((length (arrivals_on before) == 0) && is_ok (stream_in n (words_of line)))
    (is_frame_line line && is_ok (frame_in n (words_of line))) other h.3 in
    let parts = and_parts (is_frame_line line) (is_ok (frame_in n (words_of line))) said in
    record { counts = h.0; opened = h.1; other = other; begins = h.2; said = parts.1 }

-- the answer on such a line
started_stream : (skipped unopened begins : Bool) (a b c : Result Line ShapeFault) → skipped ≡ false → unopened ≡ false
    → begins ≡ true → (if skipped then Ok Skipped else if unopened then a else if begins then b else c) ≡ b
started_stream skipped unopened begins a b c p q r = rw (p, q, r) refl

started_frame : (skipped unopened other begins : Bool) (a b c d : Result Line ShapeFault)
    → skipped ≡ false → unopened ≡ false → other ≡ false → begins ≡ true
    → (if skipped then Ok Skipped else if unopened then a else if other then b else if begins then c else d) ≡ c
started_frame skipped unopened other begins a b c d p q r s = rw (p, q, r, s) refl

abbrev stream_end : ℕ → Option ℕ → Option StreamFault → Bool → StreamWords → Result Line ShapeFault
stream_end n place broken few said = if is_some place then Err (NameTwice n)
    else stream_or_fault n (stream_of said) broken >>= λ stream. ok_where few (Limit n) (Stream stream)

stream_ends : (n : ℕ) (place : Option ℕ) (few : Bool) (said : StreamWords)
    → (ok_where (is_none place) (NameTwice n) said >>= λ named. stream_or_fault n (stream_of named)
    (rules_fault named.rate_bps named.burst_bits named.min_octets named.max_octets)
    >>= λ stream. ok_where few (Limit n) (Stream stream))
    ≡ stream_end n place (rules_fault said.rate_bps said.burst_bits said.min_octets said.max_octets) few said
stream_ends n None few said = refl
stream_ends n (Some i) few said = refl

abbrev stream_rest : List (List ℕ) → ℕ → StreamWords → Result Line ShapeFault
stream_rest before n said =
    ok_where (is_none (place_of said.name (names_on before))) (NameTwice n) said >>= λ named. stream_or_fault n
    (stream_of named) (rules_fault named.rate_bps named.burst_bits named.min_octets named.max_octets)
    >>= λ stream. ok_where (nat_lt (length (names_on before)) 4096) (Limit n) (Stream stream)

stream_early : (before : List (List ℕ)) (n : ℕ) (words : List (List ℕ)) (early : Bool) → early ≡ true
    → stream_behind before early n words ≡ (stream_in n words >>= λ said. stream_rest before n said)
stream_early before n words early p = rw p refl

stream_answer : (before : List (List ℕ)) (n : ℕ) (line : List ℕ) → OpenedStream before n line
    → line_behind before n line ≡ stream_end n (place_of (word (words_of line) 1) (names_on before))
    (broken_by (words_of line)) (nat_lt (length (names_on before)) 4096) (stream_said (words_of line))
stream_answer before n line h =
    started_stream (is_skipped line) (list_all is_skipped before) (bytes_eq (word (words_of line) 0) (codes "stream"))
    (residence_line n (words_of line)) (stream_behind before (length (arrivals_on before) == 0) n (words_of line))
    (if bytes_eq (word (words_of line) 0) (codes "frame") then frame_behind before n (words_of line)
    else Err (BadLine n)) h.counts h.opened h.begins
    ∙ stream_early before n (words_of line) (length (arrivals_on before) == 0) h.early
    ∙ ap (λ (r : Result StreamWords ShapeFault). r >>= λ said. stream_rest before n said) (is_said
    (stream_in n (words_of line)) (BadLine n) (stream_said (words_of line)) (stream_form n (words_of line)) h.said)
    ∙ stream_ends n (place_of (word (words_of line) 1) (names_on before)) (nat_lt (length (names_on before)) 4096)
    (stream_said (words_of line))

abbrev frame_end : ℕ → Option ℕ → Bool → Bool → FrameWords → Result Line ShapeFault
frame_end n place ordered few said = or_fault (UnknownName n) place
    >>= λ stream. ok_where ordered (TimeBack n) (frame_of said stream) >>= λ frame. ok_where few (Limit n) (Frame frame)

frame_answer : (before : List (List ℕ)) (n : ℕ) (line : List ℕ) → OpenedFrame before n line
    → line_behind before n line ≡ frame_end n (place_of (word (words_of line) 2) (names_on before))
    (nat_le (last_of (arrivals_on before)) (number_in (words_of line) 1)) (nat_lt (length (arrivals_on before)) 200000)
    (frame_said (words_of line))
frame_answer before n line h =
    started_frame (is_skipped line) (list_all is_skipped before) (bytes_eq (word (words_of line) 0) (codes "stream"))
    (bytes_eq (word (words_of line) 0) (codes "frame")) (residence_line n (words_of line))
    (stream_behind before (length (arrivals_on before) == 0) n (words_of line))
    (frame_behind before n (words_of line)) (Err (BadLine n))
    h.counts h.opened h.other h.begins
    ∙ ap
    (λ (r : Result FrameWords ShapeFault). r >>= λ said. or_fault (UnknownName n) (place_of said.name (names_on before))
    >>= λ stream. ok_where (nat_le (last_of (arrivals_on before)) said.at) (TimeBack n) (frame_of said stream)
    >>= λ frame. ok_where (nat_lt (length (arrivals_on before)) 200000) (Limit n) (Frame frame))
    (is_said (frame_in n (words_of line)) (BadLine n) (frame_said (words_of line))
    (frame_form n (words_of line)) h.said)

-- each fault is answered where its cause stands
end_twice : (n : ℕ) (place : Option ℕ) (broken : Option StreamFault) (few : Bool) (said : StreamWords)
    → is_some place ≡ true → stream_end n place broken few said ≡ Err (NameTwice n)
end_twice n None broken few said p = cc
end_twice n (Some i) broken few said p = refl

end_broken :
    (n : ℕ) (place : Option ℕ) (broken : Option StreamFault) (few : Bool) (said : StreamWords) (fault : StreamFault)
    → is_some place ≡ false → broken ≡ Some fault → stream_end n place broken few said ≡ Err (faults.Stream n fault)
end_broken n place broken few said fault p q = rw (p, q) refl

end_past : (n : ℕ) (place : Option ℕ) (broken : Option StreamFault) (few : Bool) (said : StreamWords)
    → is_some place ≡ false → broken ≡ None → few ≡ false → stream_end n place broken few said ≡ Err (Limit n)
end_past n place broken few said p q r = rw (p, q, r) refl

end_unknown : (n : ℕ) (place : Option ℕ) (ordered few : Bool) (said : FrameWords) → is_some place ≡ false
    → frame_end n place ordered few said ≡ Err (UnknownName n)
end_unknown n None ordered few said p = refl
end_unknown n (Some i) ordered few said p = cc

end_back : (n : ℕ) (place : Option ℕ) (ordered few : Bool) (said : FrameWords) → is_some place ≡ true → ordered ≡ false
    → frame_end n place ordered few said ≡ Err (TimeBack n)
end_back n None ordered few said p q = cc
end_back n (Some i) ordered few said p q = rw q refl

end_frame_past : (n : ℕ) (place : Option ℕ) (ordered few : Bool) (said : FrameWords) → is_some place ≡ true
    → ordered ≡ true → few ≡ false → frame_end n place ordered few said ≡ Err (Limit n)
end_frame_past n None ordered few said p q r = cc
end_frame_past n (Some i) ordered few said p q r = rw (q, r) refl

limit : (before : List (List ℕ)) (n : ℕ) (line : List ℕ) → IsStreamPast before n line ⊎ IsFramePast before n line
    → line_behind before n line ≡ Err (Limit n)
limit before n line (inl h) = stream_answer before n line (opened_stream before n line h.new.form h.new.stream)
    ∙ end_past n _ _ _ (stream_said (words_of line)) h.new.new h.kept (le-ltb (length (names_on before)) 4096 h.past)
limit before n line (inr h) = frame_answer before n line (opened_frame before n line h.known.form h.known.frame)
    ∙ end_frame_past n _ _ _ (frame_said (words_of line)) h.known.known
    (le-leb (last_of (arrivals_on before)) _ h.ordered) (le-ltb (length (arrivals_on before)) 200000 h.past)

caused : (before : List (List ℕ)) (n : ℕ) (line : List ℕ) (fault : ShapeFault) → line_number fault ≡ n
    → Cause before n line fault → line_behind before n line ≡ Err fault
caused before n line (BadLine m) p h =
    bad before n line h ∙ ap (λ (k : ℕ). let r : Result Line ShapeFault = Err (BadLine k) in r) (sym p)
caused before n line (NameTwice m) p h =
    stream_answer before n line (opened_stream before n line h.form h.stream)
    ∙ end_twice n _ _ _ (stream_said (words_of line)) h.named
    ∙ ap (λ (k : ℕ). let r : Result Line ShapeFault = Err (NameTwice k) in r) (sym p)
caused before n line (faults.Stream m fault) p h =
    stream_answer before n line (opened_stream before n line h.new.form h.new.stream)
    ∙ end_broken n _ _ _ (stream_said (words_of line)) fault h.new.new h.broken
    ∙ ap (λ (k : ℕ). let r : Result Line ShapeFault = Err (faults.Stream k fault) in r) (sym p)
caused before n line (UnknownName m) p h =
    frame_answer before n line (opened_frame before n line h.form h.frame)
    ∙ end_unknown n _ _ _ (frame_said (words_of line)) h.unknown
    ∙ ap (λ (k : ℕ). let r : Result Line ShapeFault = Err (UnknownName k) in r) (sym p)
caused before n line (TimeBack m) p h =
    frame_answer before n line (opened_frame before n line h.known.form h.known.frame) ∙ end_back n _ _ _
    (frame_said (words_of line)) h.known.known (lt-leb (last_of (arrivals_on before)) _ h.back)
    ∙ ap (λ (k : ℕ). let r : Result Line ShapeFault = Err (TimeBack k) in r) (sym p)
caused before n line (Limit m) p h =
    limit before n line h ∙ ap (λ (k : ℕ). let r : Result Line ShapeFault = Err (Limit k) in r) (sym p)

-- a line that is at fault is answered with its fault
pub at_fault : (before : List (List ℕ)) (n : ℕ) (line : List ℕ) (fault : ShapeFault) → IsFaulty before n line fault
    → line_behind before n line ≡ Err fault
at_fault before n line fault h = caused before n line fault h.number h.cause
