-- What the answers to `lrq shape` mean.
use Rattle.std.proofs.Common.{◌≡◌, ℕ, ◌+◌, Bool, true, false, ◌||◌, cond, List, [], ◌∷◌, length}
use Rattle.std.proofs.Common.{Option, Some, None, Result, Ok, Err, refl, sym, subst}
use Rattle.std.specs.Prelude.{◌==◌, nat_le, nat_lt, map, All, IfOk, MatchResult, is_none, codes}
use Rattle.std.specs.Str.{bytes_eq}
use Rattle.std.proofs.lemmas.Bool.{or_parts, ltb-false}
use Rattle.std.proofs.lemmas.List.Elements.{All-nil, All-push}
use Rattle.ats_num.specs.Places.{place_of}
use Rattle.ats_num.specs.Wire.{bits_of}
use Rattle.ats_num.specs.declared.rate.TheConstants.{MAX_BPS, MAX_BURST_BITS}
use Rattle.ats_num.specs.declared.wire.TheConstants.{MIN_OCTETS, MAX_OCTETS}
use Rattle.ats_num.specs.Failure.{◌>>=◌, or_fault, ok_where}
use Rattle.ats_io.specs.Text.{lines_of, words_of}
use Rattle.ats_words.specs.Words.{word, is_skipped}
use Rattle.ats_streams.specs.Fault.{rules_fault}
use Rattle.ats_streams.specs.Rules.{KeepsRules}
use Rattle.ats_streams.specs.declared.fault.StreamFault.{StreamFault}
use Rattle.ats_shape.specs.FaultText as shape
use Rattle.ats_shape.specs.Reading.{DraftShape, blank, declared_line, frame_in, frame_line, frame_of, last_time}
use Rattle.ats_shape.specs.Reading.{line_in, names_of, residence_in, residence_line, ruled, shape_from, shape_of}
use Rattle.ats_shape.specs.Reading.{stream_in, stream_line, stream_of, stream_or_fault, with_line}
use Rattle.ats_shape.specs.Shape.{DeclaredShape, IsRuled}
use Rattle.ats_shape.specs.Verdicts.{declared_in, no_stream, offer_of}
use Rattle.ats_shape.specs.declared.fault.ShapeFault.{ShapeFault}
use Rattle.ats_shape.specs.declared.fault.ShapeFault.TheVariants.{BadLine, NameTwice, UnknownName, TimeBack, Limit}
use Rattle.ats_shape.specs.declared.shape.ShapeStream.{ShapeStream}
use Rattle.ats_lrq_law.proofs.Output.{output_conforms}
use Rattle.ats_lrq_shape.specs.Verdicts.{lrq_text_of}
use Rattle.ats_command_input.specs.Answer.{Answer, settled}
use Rattle.ats_command_input.specs.Input.{shape_in}
use Rattle.ats_command_due.specs.Due.{lrq_shape_answer}
use Rattle.ats_command_law.specs.LrqMeaning.{LrqShapeMeans, LrqShapeSays}
use Rattle.ats_command_law.proofs.Meanings.{IsInput, file_gives, none_declared}

-- what holds of what a step gives, and then of what goes on from it
always : {A B : Type 0} (P : B → Type 0) (x : Result A ShapeFault) (f : A → Result B ShapeFault)
    → ((a : A) → IfOk (f a) P) → IfOk (x >>= f) P
always P (Ok a) f h = h a
always P (Err e) f h = tt

behind : {A B : Type 0} (Q : A → Type 0) (P : B → Type 0) (x : Result A ShapeFault) (f : A → Result B ShapeFault)
    → IfOk x Q → ((a : A) → Q a → IfOk (f a) P) → IfOk (x >>= f) P
behind Q P (Ok a) f q h = h a q
behind Q P (Err e) f q h = tt

where_passed : {A : Type 0} (P : A → Type 0) (b : Bool) (e : ShapeFault) (a : A) → P a → IfOk (ok_where b e a) P
where_passed P true e a h = h
where_passed P false e a h = tt

chosen : {A : Type 0} (P : A → Type 0) (b : Bool) (one other : Result A ShapeFault) → IfOk one P → IfOk other P
    → IfOk (cond b one other) P
chosen P true one other h k = h
chosen P false one other h k = k

-- where no test finds a fault, each fails
record Passed {F : Type 0} (a : Bool) (rest : Option F) : Type 0 where
  test : a ≡ false
  none : rest ≡ None

passed : {F : Type 0} (a : Bool) (fault : F) (rest : Option F) → cond a (Some fault) rest ≡ None → Passed a rest
passed true fault rest h = cc
passed false fault rest h = record { test = refl; none = h }

-- numbers without a fault keep the rules of a stream
rules_kept : (rate burst least most : ℕ) → rules_fault rate burst least most ≡ None → KeepsRules rate burst least most
rules_kept rate burst least most h =
    let a = passed (nat_lt rate 1 || nat_lt MAX_BPS rate) _ _ h in
    let b = passed (nat_lt least MIN_OCTETS || nat_lt most least || nat_lt MAX_OCTETS most) _ _ a.none in
    let c = passed (nat_lt burst (bits_of most)) _ _ b.none in
    let d = passed (nat_lt MAX_BURST_BITS burst) _ _ c.none in
    let rated : (nat_lt rate 1 ≡ false) × (nat_lt MAX_BPS rate ≡ false) =
    or_parts (nat_lt rate 1) (nat_lt MAX_BPS rate) a.test in
    let sizes : ((nat_lt least MIN_OCTETS || nat_lt most least) ≡ false) × (nat_lt MAX_OCTETS most ≡ false) =
    or_parts (nat_lt least MIN_OCTETS || nat_lt most least) (nat_lt MAX_OCTETS most) b.test in
    let ordered : (nat_lt least MIN_OCTETS ≡ false) × (nat_lt most least ≡ false) =
    or_parts (nat_lt least MIN_OCTETS) (nat_lt most least) sizes.0 in
    record {
      rate = record { positive = ltb-false rate 1 rated.0; within = ltb-false MAX_BPS rate rated.1 };
      sizes = record {
        least = ltb-false least MIN_OCTETS ordered.0;
        ordered = ltb-false most least ordered.1;
        most = ltb-false MAX_OCTETS most sizes.1;
      };
      covers = ltb-false burst (bits_of most) c.test;
      burst = ltb-false MAX_BURST_BITS burst d.test;
    }

unless_fault : (n : ℕ) (stream : ShapeStream) (fault : Option StreamFault) → (fault ≡ None → IsRuled stream)
    → IfOk (stream_or_fault n stream fault) IsRuled
unless_fault n stream None h = h refl
unless_fault n stream (Some fault) h = tt

-- whatever a line declares, the streams so far with it keep the rules where those before it do
stream_keeps : (draft : DraftShape) (n : ℕ) (words : List (List ℕ)) → All IsRuled draft.streams
    → IfOk (stream_line draft n words) (λ said. All IsRuled (with_line draft said).streams)
stream_keeps draft n words h =
    always _ (ok_where (length draft.frames == 0) (BadLine n) words) _
    (λ in_place. always _ (stream_in n in_place) _
    (λ said. always _ (ok_where (is_none (place_of said.name (names_of draft.streams))) (NameTwice n) said) _
    (λ named. behind IsRuled _ (ruled n named) _
    (unless_fault n (stream_of named)
    (rules_fault named.rate_bps named.burst_bits named.min_octets named.max_octets)
    (rules_kept named.rate_bps named.burst_bits named.min_octets named.max_octets))
    (λ stream keeps. where_passed _ (nat_lt (length draft.streams) 4096) (Limit n) _
    (All-push IsRuled draft.streams stream h keeps)))))

frame_keeps : (draft : DraftShape) (n : ℕ) (words : List (List ℕ)) → All IsRuled draft.streams
    → IfOk (frame_line draft n words) (λ said. All IsRuled (with_line draft said).streams)
frame_keeps draft n words h =
    always _ (frame_in n words) _
    (λ said. always _ (or_fault (UnknownName n) (place_of said.name (names_of draft.streams))) _
    (λ stream. always _ (ok_where (nat_le (last_time draft.frames) said.at) (TimeBack n) (frame_of said stream)) _
    (λ frame. where_passed _ (nat_lt (length draft.frames) 200000) (Limit n) _ h)))

line_keeps : (draft : DraftShape) (n : ℕ) (line : List ℕ) → All IsRuled draft.streams
    → IfOk (line_in draft n line) (λ said. All IsRuled (with_line draft said).streams)
line_keeps draft n line h =
    let words : List (List ℕ) = words_of line in
    chosen _ (is_skipped line) (Ok _) _ h
    (chosen _ (is_none draft.residence) (residence_line n words) (declared_line draft n words)
    (always _ (residence_in n words) _ (λ ns. h))
    (chosen _ (bytes_eq (word words 0) (codes "stream")) (stream_line draft n words) _ (stream_keeps draft n words h)
    (chosen _ (bytes_eq (word words 0) (codes "frame")) (frame_line draft n words) (Err (BadLine n))
    (frame_keeps draft n words h) tt)))

abbrev HasRuled : DeclaredShape → Type 0
HasRuled shape = All IsRuled shape.streams

from_ruled : (draft : DraftShape) (n : ℕ) (lines : List (List ℕ)) → All IsRuled draft.streams
    → IfOk (shape_from draft n lines) HasRuled
from_ruled draft n [] h = always HasRuled (or_fault (BadLine n) draft.residence) _ (λ ns. h)
from_ruled draft n (line ∷ lines) h =
    behind (λ said. All IsRuled (with_line draft said).streams) HasRuled (line_in draft n line)
    (λ said. shape_from (with_line draft said) (n + 1) lines) (line_keeps draft n line h)
    (λ said keeps. from_ruled (with_line draft said) (n + 1) lines keeps)

-- so does each stream of a shape that a text declares
streams_are_ruled : (text : List ℕ) (declared : DeclaredShape) → shape_of text ≡ Ok declared → HasRuled declared
streams_are_ruled text declared is =
    subst (λ (r : Result DeclaredShape ShapeFault). IfOk r HasRuled) is
    (from_ruled blank 1 (lines_of text) (All-nil IsRuled))

shape_gives : (file bytes : List ℕ) → MatchResult (shape_in file bytes) HasRuled IsInput
unfolding shape_in
shape_gives file bytes = file_gives 16777216 file bytes shape.fault_text shape_of HasRuled streams_are_ruled

shape_says : (file bytes : List ℕ) (declared : Result DeclaredShape Answer) → shape_in file bytes ≡ declared
    → MatchResult declared HasRuled IsInput
    → (let answer = settled (declared >>= λ shape. Ok (lrq_text_of shape))
    in LrqShapeSays file bytes answer.text answer.status)
shape_says file bytes (Ok one) is keeps = (
  one,
  record {
    declared = is;
    conforms = λ stream within.
        output_conforms (declared_in one.streams) one.residence_ns (map offer_of one.frames) stream
        (keeps stream no_stream within);
    written = refl;
  },
)
shape_says file bytes (Err answer) is input =
    subst (LrqShapeSays file bytes answer.text) (sym input) (none_declared (shape_in file bytes) answer is)

pub lrq_shape_means : LrqShapeMeans
unfolding lrq_shape_answer
lrq_shape_means file bytes = shape_says file bytes (shape_in file bytes) refl (shape_gives file bytes)
