-- Texts, line by line.
use Rattle.std.proofs.Common.{◌≡◌, ◌≢◌, ◌∙◌, Bool, true, false, cond, ℕ, ◌+◌, List, [], ◌∷◌, ◌++◌, length}
use Rattle.std.proofs.Common.{Some, Result, Ok, Err, refl, ap}
use Rattle.std.specs.Prelude.{codes, is_none, nat_le, nat_lt, map, ◌==◌}
use Rattle.std.specs.Str.{bytes_eq}
use Rattle.ats_facts.proofs.Bytes.{bytes_eq-true}
use Rattle.ats_num.specs.Failure.{◌>>=◌, ok_where, or_fault}
use Rattle.ats_num.specs.Places.{place_of}
use Rattle.ats_io.specs.Text.{words_of}
use Rattle.ats_words.specs.Words.{is_skipped, word}
use Rattle.ats_shape.specs.Shape.{DeclaredShape}
use Rattle.ats_shape.specs.Reading as shape
use Rattle.ats_shape.specs.Reading.{frame_in, frame_of, residence_in, ruled, stream_in}
use Rattle.ats_shape.specs.declared.fault.ShapeFault.{ShapeFault}
use Rattle.ats_shape.specs.declared.fault.ShapeFault.TheVariants as fault
use Rattle.ats_shape.specs.declared.shape.ShapeFrame.{ShapeFrame}
use Rattle.ats_shape.specs.declared.shape.ShapeStream.{ShapeStream}
use Rattle.ats_reading_examples.specs.EachText.{RequestsAreDeclared, ShapesAreDeclared, TextsAreDeclared, frame_after}
use Rattle.ats_reading_examples.specs.EachText.{stream_after}

-- two readers that begin with the same step
alike : {A B C D F : Type 0} (r : Result A F) (f : A → Result B F) (k : B → Result D F) (g : A → Result C F)
    (l : C → Result D F) → ((x : A) → (f x >>= k) ≡ (g x >>= l)) → ((r >>= f) >>= k) ≡ ((r >>= g) >>= l)
alike (Err e) f k g l same = refl
alike (Ok x) f k g l same = same x

-- and end with the same test
ended : {B C D F : Type 0} (passes : Bool) (e : F) (x : B) (k : B → Result D F) (y : C) (l : C → Result D F)
    → k x ≡ l y → (ok_where passes e x >>= k) ≡ (ok_where passes e y >>= l)
ended true e x k y l same = same
ended false e x k y l same = refl

-- which line is read
abbrev read : {L : Type 0} → Bool → L → Bool → Result L ShapeFault → Result L ShapeFault → Result L ShapeFault
read skips a missing first later = cond skips (Ok a) (cond missing first later)

when_skipped : {L D : Type 0} (skips : Bool) (a : L) (missing : Bool) (first later : Result L ShapeFault)
    (k : L → Result D ShapeFault) → skips ≡ true → (read skips a missing first later >>= k) ≡ k a
when_skipped true a missing first later k is = refl
when_skipped false a missing first later k is = cc is

when_first : {L D : Type 0} (skips : Bool) (a : L) (missing : Bool) (first later : Result L ShapeFault)
    (k : L → Result D ShapeFault) → skips ≡ false → missing ≡ true
    → (read skips a missing first later >>= k) ≡ (first >>= k)
when_first true a missing first later k is none = cc is
when_first false a true first later k is none = refl
when_first false a false first later k is none = cc none

when_later : {L D : Type 0} (skips : Bool) (a : L) (missing : Bool) (first later : Result L ShapeFault)
    (k : L → Result D ShapeFault) → skips ≡ false → missing ≡ false
    → (read skips a missing first later >>= k) ≡ (later >>= k)
when_later true a missing first later k is none = cc is
when_later false a true first later k is none = cc none
when_later false a false first later k is none = refl

-- by its first word
abbrev verb : {L : Type 0} → Bool → Bool → Result L ShapeFault → Result L ShapeFault → ShapeFault → Result L ShapeFault
verb streams frames stream frame e = cond streams stream (cond frames frame (Err e))

is_stream : {L D : Type 0} (streams frames : Bool) (stream frame : Result L ShapeFault) (e : ShapeFault)
    (k : L → Result D ShapeFault) → streams ≡ true → (verb streams frames stream frame e >>= k) ≡ (stream >>= k)
is_stream true frames stream frame e k is = refl
is_stream false frames stream frame e k is = cc is

is_frame : {L D : Type 0} (streams frames : Bool) (stream frame : Result L ShapeFault) (e : ShapeFault)
    (k : L → Result D ShapeFault) → streams ≡ false → frames ≡ true
    → (verb streams frames stream frame e >>= k) ≡ (frame >>= k)
is_frame true frames stream frame e k not is = cc not
is_frame false true stream frame e k not is = refl
is_frame false false stream frame e k not is = cc is

is_neither : {L D : Type 0} (streams frames : Bool) (stream frame : Result L ShapeFault) (e : ShapeFault)
    (k : L → Result D ShapeFault) → streams ≡ false → frames ≡ false
    → (verb streams frames stream frame e >>= k) ≡ Err e
is_neither true frames stream frame e k not nor = cc not
is_neither false true stream frame e k not nor = cc nor
is_neither false false stream frame e k not nor = refl

differs : (a b : List ℕ) → a ≢ b → bytes_eq a b ≡ false
differs a b other = by (bytes_eq a b) refl
  where
    by : (same : Bool) → bytes_eq a b ≡ same → same ≡ false
    by true is = absurd (other (bytes_eq-true a b is))
    by false is = refl

-- one step, and two readers of what it gives
past : {A B D F : Type 0} (r : Result A F) (f : A → Result B F) (k : B → Result D F) (l : A → Result D F)
    → ((x : A) → (f x >>= k) ≡ l x) → ((r >>= f) >>= k) ≡ (r >>= l)
past (Err e) f k l same = refl
past (Ok x) f k l same = same x

-- a stream and a frame, by the steps of their lines
stream_read : (draft : shape.DraftShape) (n : ℕ) (words : List (List ℕ)) (rest : List (List ℕ))
    → (shape.stream_line draft n words >>= λ said. shape.shape_from (shape.with_line draft said) (n + 1) rest)
    ≡ (stream_after draft n words
    >>= λ s. shape.shape_from (record draft { streams = draft.streams ++ s ∷ [] }) (n + 1) rest)
stream_read draft n words rest =
    alike (ok_where (length draft.frames == 0) (fault.BadLine n) words) _
    (λ said. shape.shape_from (shape.with_line draft said) (n + 1) rest) _ next
    (λ w. alike (stream_in n w) _ _ _ next
    (λ said. alike (ok_where (is_none (place_of said.name (map (λ (s : ShapeStream). s.name) draft.streams)))
    (fault.NameTwice n) said) _ _ _ next
    (λ named. alike (ruled n named) _ _ _ next
    (λ s. ended (nat_lt (length draft.streams) 4096) (fault.Limit n) _ _ s next refl))))
  where
    next : ShapeStream → Result DeclaredShape ShapeFault
    next s = shape.shape_from (record draft { streams = draft.streams ++ s ∷ [] }) (n + 1) rest

frame_read : (draft : shape.DraftShape) (n : ℕ) (words : List (List ℕ)) (rest : List (List ℕ))
    → (shape.frame_line draft n words >>= λ said. shape.shape_from (shape.with_line draft said) (n + 1) rest)
    ≡ (frame_after draft n words
    >>= λ f. shape.shape_from (record draft { frames = draft.frames ++ f ∷ [] }) (n + 1) rest)
frame_read draft n words rest =
    alike (frame_in n words) _ (λ said. shape.shape_from (shape.with_line draft said) (n + 1) rest) _ next
    (λ said. alike (or_fault (fault.UnknownName n)
    (place_of said.name (map (λ (s : ShapeStream). s.name) draft.streams))) _ _ _ next
    (λ stream. alike (ok_where (nat_le (shape.last_time draft.frames) said.at) (fault.TimeBack n)
    (frame_of said stream)) _ _ _ next
    (λ f. ended (nat_lt (length draft.frames) 200000) (fault.Limit n) _ _ f next refl)))
  where
    next : ShapeFrame → Result DeclaredShape ShapeFault
    next f = shape.shape_from (record draft { frames = draft.frames ++ f ∷ [] }) (n + 1) rest

shapes_are_declared : ShapesAreDeclared
shapes_are_declared = record {
  last = λ frames. refl;
  end = λ draft n. refl;
  skipped = λ draft n text rest is. when_skipped (is_skipped text) _ (is_none draft.residence) _ _ _ is;
  residence = λ draft n text rest is none.
      when_first (is_skipped text) _ (is_none draft.residence) _ _ _ is (ap is_none none)
      ∙ past (residence_in n (words_of text)) _ (λ said. shape.shape_from (shape.with_line draft said) (n + 1) rest)
      (λ ns. shape.shape_from (record draft { residence = Some ns }) (n + 1) rest) (λ ns. refl);
  stream = λ draft n ns text rest is some begins.
      when_later (is_skipped text) _ (is_none draft.residence) _ _ _ is (ap is_none some)
      ∙ is_stream (bytes_eq (word (words_of text) 0) (codes "stream"))
      (bytes_eq (word (words_of text) 0) (codes "frame")) _ _ _ _ (ap (λ w. bytes_eq w (codes "stream")) begins)
      ∙ stream_read draft n (words_of text) rest;
  frame = λ draft n ns text rest is some begins.
      when_later (is_skipped text) _ (is_none draft.residence) _ _ _ is (ap is_none some)
      ∙ is_frame (bytes_eq (word (words_of text) 0) (codes "stream"))
      (bytes_eq (word (words_of text) 0) (codes "frame")) _ _ _ _ (ap (λ w. bytes_eq w (codes "stream")) begins)
      (ap (λ w. bytes_eq w (codes "frame")) begins)
      ∙ frame_read draft n (words_of text) rest;
  other = λ draft n ns text rest is some no_stream no_frame.
      when_later (is_skipped text) _ (is_none draft.residence) _ _ _ is (ap is_none some)
      ∙ is_neither (bytes_eq (word (words_of text) 0) (codes "stream"))
      (bytes_eq (word (words_of text) 0) (codes "frame")) _ _ _ _ (differs _ _ no_stream) (differs _ _ no_frame);
  text = λ text. refl;
}

requests_are_declared : RequestsAreDeclared
requests_are_declared = record {
  path = λ topology n words. refl;
  lines = λ network before n text. refl;
  end = λ network before n. refl;
  next = λ network before n text rest. refl;
  text = λ network text. refl;
}

pub texts_are_declared : TextsAreDeclared
texts_are_declared = record { shapes = shapes_are_declared; requests = requests_are_declared }
