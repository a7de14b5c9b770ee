use Rattle.std.proofs.Common.{◌≡◌, ℕ, ◌≤◌, Bool, true, false, not, ◌&&◌, List, length, Option, None, Some, Result, Ok}
use Rattle.std.proofs.Common.{Err, refl, sym, ap, ◌∙◌, subst, inl, inr, arith}
use Rattle.std.specs.Prelude.{◌==◌, is_ok, is_some, is_none, codes, nat_le, nat_lt, if◌then◌else◌}
use Rattle.std.specs.List.{list_all}
use Rattle.std.specs.Str.{bytes_eq}
use Rattle.std.proofs.lemmas.Bool.Decides.{nat_tests}
use Rattle.ats_num.specs.Places.{place_of}
use Rattle.ats_io.specs.Text.{words_of}
use Rattle.ats_streams.specs.Fault.{rules_fault}
use Rattle.ats_streams.specs.declared.fault.StreamFault.{StreamFault}
use Rattle.ats_num.specs.Failure.{◌>>=◌, or_fault, ok_where}
use Rattle.ats_words.specs.Words.{word, is_skipped}
use Rattle.ats_shape.specs.Reading.{residence_in, residence_line, stream_in, frame_in}
use Rattle.ats_shape.specs.Reading.{stream_or_fault, stream_of, frame_of}
use Rattle.ats_shape.specs.FaultLaw.{line_number, is_stream_line, is_frame_line, number_in, names_on, arrivals_on}
use Rattle.ats_shape.specs.FaultLaw.{last_of, has_form, broken_by, IsNew, IsKnown, Cause}
use Rattle.ats_shape.specs.declared.shape.ShapeStream.{ShapeStream}
use Rattle.ats_shape.specs.declared.shape.ShapeFrame.{ShapeFrame}
use Rattle.ats_shape.specs.declared.fault.ShapeFault.{ShapeFault}
use Rattle.ats_shape.specs.declared.fault.ShapeFault.TheVariants.{BadLine, NameTwice, UnknownName, TimeBack, Limit}
use Rattle.ats_shape.specs.declared.line.StreamWords.{StreamWords}
use Rattle.ats_shape.specs.declared.line.FrameWords.{FrameWords}
use Rattle.ats_shape.specs.declared.line.Line.{Line}
use Rattle.ats_shape.specs.declared.line.Line.TheVariants.{Skipped, Residence, Stream, Frame}
use Rattle.ats_shape.proofs.LineFacts.{other_word, residence_form, residence_starts, stream_said, stream_form}
use Rattle.ats_shape.proofs.LineFacts.{frame_said, frame_form}

-- the answer on the words of a stream line and of a frame line, by what is declared before them
abbrev pub stream_by : List (List ℕ) → ℕ → Bool → ℕ → List (List ℕ) → Result Line ShapeFault
stream_by names streams early n words =
    ok_where early (BadLine n) words >>= λ in_place. stream_in n in_place
    >>= λ said. ok_where (is_none (place_of said.name names)) (NameTwice n) said
    >>= λ named. stream_or_fault n (stream_of named)
    (rules_fault named.rate_bps named.burst_bits named.min_octets named.max_octets)
    >>= λ stream. ok_where (nat_lt streams 4096) (Limit n) (Stream stream)

abbrev pub frame_by : List (List ℕ) → ℕ → ℕ → ℕ → List (List ℕ) → Result Line ShapeFault
frame_by names frames last n words =
    frame_in n words >>= λ said. or_fault (UnknownName n) (place_of said.name names)
    >>= λ stream. ok_where (nat_le last said.at) (TimeBack n) (frame_of said stream)
    >>= λ frame. ok_where (nat_lt frames 200000) (Limit n) (Frame frame)

abbrev pub line_by : Bool → List (List ℕ) → ℕ → ℕ → ℕ → ℕ → List ℕ → Result Line ShapeFault
line_by unopened names streams frames last n line =
    if is_skipped line then Ok Skipped
    else if unopened then residence_line n (words_of line)
    else if bytes_eq (word (words_of line) 0) (codes "stream")
    then stream_by names streams (frames == 0) n (words_of line)
    else if bytes_eq (word (words_of line) 0) (codes "frame") then frame_by names frames last n (words_of line)
    else Err (BadLine n)

-- the answer on line n behind these lines
abbrev pub line_behind : List (List ℕ) → ℕ → List ℕ → Result Line ShapeFault
line_behind before n line = line_by (list_all is_skipped before) (names_on before) (length (names_on before))
    (length (arrivals_on before)) (last_of (arrivals_on before)) n line

-- a line behind the residence that counts
pub record Counts (before : List (List ℕ)) (line : List ℕ) : Type 0 where
  pub counts : is_skipped line ≡ false
  pub opened : list_all is_skipped before ≡ false

-- what is known of a line by the answer on it
pub record IsFaulty (before : List (List ℕ)) (n : ℕ) (line : List ℕ) (fault : ShapeFault) : Type 0 where
  pub number : line_number fault ≡ n
  pub cause : Cause before n line fault

pub record IsPlain (line : List ℕ) : Type 0 where
  pub counts : is_skipped line ≡ false
  pub stream : is_stream_line line ≡ false
  pub frame : is_frame_line line ≡ false

pub record SaysStream (before : List (List ℕ)) (line : List ℕ) (said : ShapeStream) : Type 0 where
  pub counts : Counts before line
  pub stream : is_stream_line line ≡ true
  pub frame : is_frame_line line ≡ false
  pub name : said.name ≡ word (words_of line) 1

pub record SaysFrame (before : List (List ℕ)) (line : List ℕ) (said : ShapeFrame) : Type 0 where
  pub counts : Counts before line
  pub stream : is_stream_line line ≡ false
  pub frame : is_frame_line line ≡ true
  pub at : said.at.0 ≡ number_in (words_of line) 1

abbrev pub Known : List (List ℕ) → ℕ → List ℕ → Result Line ShapeFault → Type 0
Known before n line (Err fault) = IsFaulty before n line fault
Known before n line (Ok Skipped) = is_skipped line ≡ true
Known before n line (Ok (Residence ns)) = IsPlain line
Known before n line (Ok (Stream stream)) = SaysStream before line stream
Known before n line (Ok (Frame frame)) = SaysFrame before line frame

starts : (skipped begins value : Bool) → skipped ≡ false → begins ≡ value → (not skipped && begins) ≡ value
starts skipped begins value p q = rw (p, q) refl

abbrev form_by : Bool → Bool → Bool → Bool → Bool → Bool → Bool → Bool → Bool
form_by skipped unopened stream frame residence early said_stream said_frame =
    if skipped then true else if unopened then residence else if stream then early && said_stream
    else frame && said_frame

form_residence : (skipped unopened a b c d e f : Bool) → skipped ≡ false → unopened ≡ true
    → form_by skipped unopened a b c d e f ≡ c
form_residence skipped unopened a b c d e f p q = rw (p, q) refl

form_stream : (skipped unopened stream b c d e f early said : Bool) → skipped ≡ false → unopened ≡ false → stream ≡ true
    → d ≡ early → e ≡ said → form_by skipped unopened stream b c d e f ≡ (early && said)
form_stream skipped unopened stream b c d e f early said p q r s t = rw (p, q, r, s, t) refl

form_frame : (skipped unopened stream b c d e f frame said : Bool) → skipped ≡ false → unopened ≡ false → stream ≡ false
    → b ≡ frame → f ≡ said → form_by skipped unopened stream b c d e f ≡ (frame && said)
form_frame skipped unopened stream b c d e f frame said p q r s t = rw (p, q, r, s, t) refl

pub stream_line_form : (before : List (List ℕ)) (n : ℕ) (line : List ℕ) (early said : Bool)
    → Counts before line → is_stream_line line ≡ true → (length (arrivals_on before) == 0) ≡ early
    → is_ok (stream_in n (words_of line)) ≡ said → has_form before n line ≡ (early && said)
stream_line_form before n line early said h stream p q =
    form_stream (is_skipped line) (list_all is_skipped before) (is_stream_line line)
    (is_frame_line line) (is_ok (residence_in n (words_of line))) (length (arrivals_on before) == 0)
    (is_ok (stream_in n (words_of line))) (is_ok (frame_in n (words_of line)))
    early said h.counts h.opened stream p q

pub frame_line_form : (before : List (List ℕ)) (n : ℕ) (line : List ℕ) (frame said : Bool) → Counts before line
    → is_stream_line line ≡ false → is_frame_line line ≡ frame → is_ok (frame_in n (words_of line)) ≡ said
    → has_form before n line ≡ (frame && said)
frame_line_form before n line frame said h stream p q =
    form_frame (is_skipped line) (list_all is_skipped before) (is_stream_line line)
    (is_frame_line line) (is_ok (residence_in n (words_of line))) (length (arrivals_on before) == 0)
    (is_ok (stream_in n (words_of line))) (is_ok (frame_in n (words_of line)))
    frame said h.counts h.opened stream p q

-- a stream line, step by step
stream_few : (before : List (List ℕ)) (n : ℕ) (line : List ℕ) (few : Bool) → IsNew before n line
    → broken_by (words_of line) ≡ None → Counts before line → is_frame_line line ≡ false
    → nat_lt (length (names_on before)) 4096 ≡ few
    → Known before n line (ok_where few (Limit n) (Stream (stream_of (stream_said (words_of line)))))
stream_few before n line true h kept counts frame p =
    record { counts = counts; stream = h.stream; frame = frame; name = refl }
stream_few before n line false h kept counts frame p =
    record { number = refl; cause = inl (record { new = h; kept = kept; past = grind (arith, nat_tests) }) }

stream_ruled : (before : List (List ℕ)) (n : ℕ) (line : List ℕ) (broken : Option StreamFault) → IsNew before n line
    → Counts before line → is_frame_line line ≡ false → broken_by (words_of line) ≡ broken
    → Known before n line (stream_or_fault n (stream_of (stream_said (words_of line))) broken
    >>= λ stream. ok_where (nat_lt (length (names_on before)) 4096) (Limit n) (Stream stream))
stream_ruled before n line None h counts frame p =
    stream_few before n line (nat_lt (length (names_on before)) 4096) h p counts frame refl
stream_ruled before n line (Some fault) h counts frame p =
    record { number = refl; cause = record { new = h; broken = p } }

stream_named : (before : List (List ℕ)) (n : ℕ) (line : List ℕ) (place : Option ℕ)
    → has_form before n line ≡ true → is_stream_line line ≡ true → Counts before line → is_frame_line line ≡ false
    → place_of (word (words_of line) 1) (names_on before) ≡ place
    → Known before n line (ok_where (is_none place) (NameTwice n) (stream_said (words_of line))
    >>= λ named. stream_or_fault n (stream_of named) (rules_fault named.rate_bps named.burst_bits named.min_octets
    named.max_octets) >>= λ stream. ok_where (nat_lt (length (names_on before)) 4096) (Limit n) (Stream stream))
stream_named before n line None form stream counts frame p =
    stream_ruled before n line (broken_by (words_of line)) (record { form = form; stream = stream; new = ap is_some p })
    counts frame refl
stream_named before n line (Some i) form stream counts frame p =
    record { number = refl; cause = record { form = form; stream = stream; named = ap is_some p } }

stream_formed : (before : List (List ℕ)) (n : ℕ) (line : List ℕ) (said : Bool) → Counts before line
    → is_stream_line line ≡ true → is_frame_line line ≡ false → (length (arrivals_on before) == 0) ≡ true
    → is_ok (stream_in n (words_of line)) ≡ said
    → Known before n line (ok_where said (BadLine n) (stream_said (words_of line)) >>= λ said.
    ok_where (is_none (place_of said.name (names_on before))) (NameTwice n) said >>= λ named. stream_or_fault n
    (stream_of named) (rules_fault named.rate_bps named.burst_bits named.min_octets named.max_octets)
    >>= λ stream. ok_where (nat_lt (length (names_on before)) 4096) (Limit n) (Stream stream))
stream_formed before n line true h stream frame early p =
    stream_named before n line (place_of (word (words_of line) 1) (names_on before))
    (stream_line_form before n line true true h stream early p) stream h frame refl
stream_formed before n line false h stream frame early p =
    record { number = refl; cause = stream_line_form before n line true false h stream early p }

stream_early : (before : List (List ℕ)) (n : ℕ) (line : List ℕ) (early : Bool) → Counts before line
    → is_stream_line line ≡ true → is_frame_line line ≡ false → (length (arrivals_on before) == 0) ≡ early
    → Known before n line (stream_by (names_on before) (length (names_on before)) early n (words_of line))
stream_early before n line true h stream frame p =
    subst (λ (r : Result StreamWords ShapeFault).
    Known before n line (r >>= λ said. ok_where (is_none (place_of said.name (names_on before))) (NameTwice n) said
    >>= λ named. stream_or_fault n (stream_of named) (rules_fault named.rate_bps named.burst_bits named.min_octets
    named.max_octets) >>= λ stream. ok_where (nat_lt (length (names_on before)) 4096) (Limit n) (Stream stream)))
    (sym (stream_form n (words_of line)))
    (stream_formed before n line (is_ok (stream_in n (words_of line))) h stream frame p refl)
stream_early before n line false h stream frame p = record {
  number = refl;
  cause = stream_line_form before n line false (is_ok (stream_in n (words_of line))) h stream p refl;
}

-- a frame line, step by step
frame_few : (before : List (List ℕ)) (n : ℕ) (line : List ℕ) (stream : ℕ) (few : Bool) → IsKnown before n line
    → last_of (arrivals_on before) ≤ number_in (words_of line) 1 → Counts before line → is_stream_line line ≡ false
    → nat_lt (length (arrivals_on before)) 200000 ≡ few
    → Known before n line (ok_where few (Limit n) (Frame (frame_of (frame_said (words_of line)) stream)))
frame_few before n line stream true h ordered counts frame p =
    record { counts = counts; stream = frame; frame = h.frame; at = refl }
frame_few before n line stream false h ordered counts frame p =
    record { number = refl; cause = inr (record { known = h; ordered = ordered; past = grind (arith, nat_tests) }) }

frame_ordered : (before : List (List ℕ)) (n : ℕ) (line : List ℕ) (stream : ℕ) (ordered : Bool)
    → IsKnown before n line → Counts before line → is_stream_line line ≡ false
    → nat_le (last_of (arrivals_on before)) (number_in (words_of line) 1) ≡ ordered
    → Known before n line (ok_where ordered (TimeBack n) (frame_of (frame_said (words_of line)) stream)
    >>= λ frame. ok_where (nat_lt (length (arrivals_on before)) 200000) (Limit n) (Frame frame))
frame_ordered before n line stream true h counts frame p = frame_few before n line stream
    (nat_lt (length (arrivals_on before)) 200000) h (grind (arith, nat_tests)) counts frame refl
frame_ordered before n line stream false h counts frame p =
    record { number = refl; cause = record { known = h; back = grind (arith, nat_tests) } }

frame_known : (before : List (List ℕ)) (n : ℕ) (line : List ℕ) (place : Option ℕ) → has_form before n line ≡ true
    → is_frame_line line ≡ true → Counts before line → is_stream_line line ≡ false
    → place_of (word (words_of line) 2) (names_on before) ≡ place
    → Known before n line (or_fault (UnknownName n) place >>= λ stream. ok_where (nat_le (last_of (arrivals_on before))
    (number_in (words_of line) 1)) (TimeBack n) (frame_of (frame_said (words_of line)) stream)
    >>= λ frame. ok_where (nat_lt (length (arrivals_on before)) 200000) (Limit n) (Frame frame))
frame_known before n line None form frame counts stream p =
    record { number = refl; cause = record { form = form; frame = frame; unknown = ap is_some p } }
frame_known before n line (Some i) form frame counts stream p =
    frame_ordered before n line i (nat_le (last_of (arrivals_on before)) (number_in (words_of line) 1))
    (record { form = form; frame = frame; known = ap is_some p }) counts stream refl

frame_formed : (before : List (List ℕ)) (n : ℕ) (line : List ℕ) (said : Bool) → Counts before line
    → is_stream_line line ≡ false → is_frame_line line ≡ true → is_ok (frame_in n (words_of line)) ≡ said
    → Known before n line (ok_where said (BadLine n) (frame_said (words_of line))
    >>= λ said. or_fault (UnknownName n) (place_of said.name (names_on before))
    >>= λ stream. ok_where (nat_le (last_of (arrivals_on before)) said.at) (TimeBack n) (frame_of said stream)
    >>= λ frame. ok_where (nat_lt (length (arrivals_on before)) 200000) (Limit n) (Frame frame))
frame_formed before n line true h stream frame p =
    frame_known before n line (place_of (word (words_of line) 2) (names_on before))
    (frame_line_form before n line true true h stream frame p) frame h stream refl
frame_formed before n line false h stream frame p =
    record { number = refl; cause = frame_line_form before n line true false h stream frame p }

frame_started : (before : List (List ℕ)) (n : ℕ) (line : List ℕ) (begins : Bool) → Counts before line
    → is_stream_line line ≡ false → bytes_eq (word (words_of line) 0) (codes "frame") ≡ begins
    → Known before n line (if begins then frame_by (names_on before) (length (arrivals_on before))
    (last_of (arrivals_on before)) n (words_of line) else Err (BadLine n))
frame_started before n line true h stream p =
    subst (λ (r : Result FrameWords ShapeFault).
    Known before n line (r >>= λ said. or_fault (UnknownName n) (place_of said.name (names_on before))
    >>= λ stream. ok_where (nat_le (last_of (arrivals_on before)) said.at) (TimeBack n) (frame_of said stream)
    >>= λ frame. ok_where (nat_lt (length (arrivals_on before)) 200000) (Limit n) (Frame frame)))
    (sym (frame_form n (words_of line))) (frame_formed before n line (is_ok (frame_in n (words_of line))) h stream
    (starts (is_skipped line) _ true h.counts p) refl)
frame_started before n line false h stream p =
    record {
      number = refl;
      cause = frame_line_form before n line false (is_ok (frame_in n (words_of line))) h stream
          (starts (is_skipped line) _ false h.counts p) refl;
    }

-- which of these a line is
stream_started : (before : List (List ℕ)) (n : ℕ) (line : List ℕ) (begins : Bool) → Counts before line
    → bytes_eq (word (words_of line) 0) (codes "stream") ≡ begins
    → Known before n line
    (if begins then stream_by (names_on before) (length (names_on before)) (length (arrivals_on before) == 0) n
    (words_of line) else if bytes_eq (word (words_of line) 0) (codes "frame") then frame_by (names_on before)
    (length (arrivals_on before)) (last_of (arrivals_on before)) n (words_of line) else Err (BadLine n))
stream_started before n line true h p =
    stream_early before n line (length (arrivals_on before) == 0) h
    (starts (is_skipped line) _ true h.counts p) (starts (is_skipped line) _ false h.counts
    (other_word (word (words_of line) 0) (codes "stream") (codes "frame") p refl)) refl
stream_started before n line false h p =
    frame_started before n line (bytes_eq (word (words_of line) 0) (codes "frame")) h
    (starts (is_skipped line) _ false h.counts p) refl

residence_said : (before : List (List ℕ)) (n : ℕ) (line : List ℕ) (ns : ℕ) (said : Bool) → is_skipped line ≡ false
    → list_all is_skipped before ≡ true → is_ok (residence_in n (words_of line)) ≡ said
    → Known before n line (ok_where said (BadLine n) ns >>= λ ns. Ok (Residence ns))
residence_said before n line ns true counts first p =
    let begins : bytes_eq (word (words_of line) 0) (codes "residence") ≡ true = residence_starts n (words_of line) p in
    record {
      counts = counts;
      stream = starts (is_skipped line) _ false counts
          (other_word (word (words_of line) 0) (codes "residence") (codes "stream") begins refl);
      frame = starts (is_skipped line) _ false counts
          (other_word (word (words_of line) 0) (codes "residence") (codes "frame") begins refl);
    }
residence_said before n line ns false counts first p =
    record {
      number = refl;
      cause = form_residence (is_skipped line) (list_all is_skipped before) (is_stream_line line)
          (is_frame_line line) (is_ok (residence_in n (words_of line))) (length (arrivals_on before) == 0)
          (is_ok (stream_in n (words_of line))) (is_ok (frame_in n (words_of line))) counts first ∙ p;
    }

counted : (before : List (List ℕ)) (n : ℕ) (line : List ℕ) (unopened : Bool) → is_skipped line ≡ false
    → list_all is_skipped before ≡ unopened
    → Known before n line (if unopened then residence_line n (words_of line) else if bytes_eq (word (words_of line) 0)
    (codes "stream") then stream_by (names_on before) (length (names_on before)) (length (arrivals_on before) == 0)
    n (words_of line) else if bytes_eq (word (words_of line) 0) (codes "frame") then frame_by (names_on before)
    (length (arrivals_on before)) (last_of (arrivals_on before)) n (words_of line) else Err (BadLine n))
counted before n line true counts p =
    subst (λ (r : Result ℕ ShapeFault). Known before n line (r >>= λ ns. Ok (Residence ns)))
    (sym (residence_form n (words_of line))) (residence_said before n line (number_in (words_of line) 1)
    (is_ok (residence_in n (words_of line))) counts p refl)
counted before n line false counts p = stream_started before n line (bytes_eq (word (words_of line) 0) (codes "stream"))
    (record { counts = counts; opened = p }) refl

by_skipped : (before : List (List ℕ)) (n : ℕ) (line : List ℕ) (skipped : Bool) → is_skipped line ≡ skipped
    → Known before n line (if skipped then Ok Skipped else if list_all is_skipped before
    then residence_line n (words_of line) else if bytes_eq (word (words_of line) 0) (codes "stream")
    then stream_by (names_on before) (length (names_on before)) (length (arrivals_on before) == 0) n (words_of line)
    else if bytes_eq (word (words_of line) 0) (codes "frame") then frame_by (names_on before)
    (length (arrivals_on before)) (last_of (arrivals_on before)) n (words_of line) else Err (BadLine n))
by_skipped before n line true p = p
by_skipped before n line false p = counted before n line (list_all is_skipped before) p refl

-- what is known of each line
pub known : (before : List (List ℕ)) (n : ℕ) (line : List ℕ) → Known before n line (line_behind before n line)
known before n line = by_skipped before n line (is_skipped line) refl
