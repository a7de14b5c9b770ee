use Rattle.std.proofs.Common.{◌≡◌, ◌∙◌, Bool, true, false, cond, ℕ, zero, suc, ◌+◌, ◌-◌, List, [], ◌∷◌, ◌++◌, length}
use Rattle.std.proofs.Common.{Result, Ok, Err, refl, ap}
use Rattle.std.specs.Prelude.{codes, is_none, map, nat_le, nat_lt, slice_index_or, ◌==◌}
use Rattle.std.specs.Str.{bytes_eq}
use Rattle.ats_num.specs.Failure.{◌>>=◌, ok_where, or_fault}
use Rattle.ats_num.specs.Places.{place_of}
use Rattle.ats_io.specs.Text.{words_of}
use Rattle.ats_words.specs.Words.{is_skipped, word}
use Rattle.ats_shape.specs.Reading.{DraftShape, frame_in, frame_line, frame_of, last_time, residence_in, residence_line}
use Rattle.ats_shape.specs.Reading.{ruled, shape_from, stream_in, stream_line, with_line}
use Rattle.ats_shape.specs.Shape.{DeclaredShape}
use Rattle.ats_shape.specs.declared.fault.ShapeFault.{ShapeFault}
use Rattle.ats_shape.specs.declared.fault.ShapeFault.TheVariants.{BadLine, Limit, NameTwice, TimeBack, UnknownName}
use Rattle.ats_shape.specs.declared.shape.ShapeFrame.{ShapeFrame}
use Rattle.ats_shape.specs.declared.shape.ShapeStream.{ShapeStream}
use Rattle.ats_plain_file_law.specs.Shapes.{ShapeLinesAreRead, frame_due, names_so_far, stream_due, time_so_far}

-- What a shape file declares, line by line.

-- two readers that begin with the same step
alike : {A B C D F : Type 0} (r : Result A F) (f : A → Result B F) (k : B → Result D F) (g : A → Result C F)
    (l : C → Result D F) → ((x : A) → (f x >>= k) ≡ (g x >>= l)) → ((r >>= f) >>= k) ≡ ((r >>= g) >>= l)
alike (Err e) f k g l same = refl
alike (Ok x) f k g l same = same x

-- and end with the same test
ended : {B C D F : Type 0} (passes : Bool) (e : F) (x : B) (k : B → Result D F) (y : C) (l : C → Result D F)
    → k x ≡ l y → (ok_where passes e x >>= k) ≡ (ok_where passes e y >>= l)
ended true e x k y l same = same
ended false e x k y l same = refl

-- one step, and two readers of what it gives
past : {A B D F : Type 0} (r : Result A F) (f : A → Result B F) (k : B → Result D F) (l : A → Result D F)
    → ((x : A) → (f x >>= k) ≡ l x) → ((r >>= f) >>= k) ≡ (r >>= l)
past (Err e) f k l same = refl
past (Ok x) f k l same = same x

-- which line is read, and what is read behind it
each_way : {L D F : Type 0} (skips missing streams frames : Bool) (a : L) (first stream frame : Result L F) (e : F)
    (k : L → Result D F) (skipped by_first by_stream by_frame : Result D F)
    → k a ≡ skipped → (first >>= k) ≡ by_first → (stream >>= k) ≡ by_stream → (frame >>= k) ≡ by_frame
    → (cond skips (Ok a) (cond missing first (cond streams stream (cond frames frame (Err e)))) >>= k)
    ≡ cond skips skipped (cond missing by_first (cond streams by_stream (cond frames by_frame (Err e))))
each_way true missing streams frames a first stream frame e k s f t r same_s same_f same_t same_r = same_s
each_way false true streams frames a first stream frame e k s f t r same_s same_f same_t same_r = same_f
each_way false false true frames a first stream frame e k s f t r same_s same_f same_t same_r = same_t
each_way false false false true a first stream frame e k s f t r same_s same_f same_t same_r = same_r
each_way false false false false a first stream frame e k s f t r same_s same_f same_t same_r = refl

stream_read : (draft : DraftShape) (n : ℕ) (words : List (List ℕ)) (lines : List (List ℕ))
    → (stream_line draft n words >>= λ said. shape_from (with_line draft said) (n + 1) lines)
    ≡ (stream_due draft n words
    >>= λ s. shape_from (record draft { streams = draft.streams ++ s ∷ [] }) (n + 1) lines)
stream_read draft n words lines =
    alike (ok_where (length draft.frames == 0) (BadLine n) words) _
    (λ said. shape_from (with_line draft said) (n + 1) lines) _ next
    (λ w. alike (stream_in n w) _ _ _ next
    (λ said. alike (ok_where (is_none (place_of said.name (names_so_far draft))) (NameTwice n) said) _ _ _ next
    (λ named. alike (ruled n named) _ _ _ next
    (λ s. ended (nat_lt (length draft.streams) 4096) (Limit n) _ _ s next refl))))
  where
    next : ShapeStream → Result DeclaredShape ShapeFault
    next s = shape_from (record draft { streams = draft.streams ++ s ∷ [] }) (n + 1) lines

-- the time at a place, as that of the frame at the place
time_at : (frames : List ShapeFrame) (k : ℕ)
    → (slice_index_or frames k (record { at = record { 0 = 0 }; stream = 0; octets = 0 })).at.0
    ≡ slice_index_or (map (λ (f : ShapeFrame). f.at.0) frames) k 0
time_at [] k = refl
time_at (f ∷ frames) zero = refl
time_at (f ∷ frames) (suc k) = time_at frames k

last_is : (draft : DraftShape) → last_time draft.frames ≡ time_so_far draft
last_is draft = time_at draft.frames (length draft.frames - 1)

-- a test against a time is one against the same time
by_time : {A B D F : Type 0} (t u : ℕ) → t ≡ u → (at : ℕ) (e : F) (x : A) (f : A → Result B F) (k : B → Result D F)
    → ((ok_where (nat_le t at) e x >>= f) >>= k) ≡ ((ok_where (nat_le u at) e x >>= f) >>= k)
by_time t u same at e x f k = ap (λ (v : ℕ). (ok_where (nat_le v at) e x >>= f) >>= k) same

frame_read : (draft : DraftShape) (n : ℕ) (words : List (List ℕ)) (lines : List (List ℕ))
    → (frame_line draft n words >>= λ said. shape_from (with_line draft said) (n + 1) lines)
    ≡ (frame_due draft n words
    >>= λ f. shape_from (record draft { frames = draft.frames ++ f ∷ [] }) (n + 1) lines)
frame_read draft n words lines =
    alike (frame_in n words) _ (λ said. shape_from (with_line draft said) (n + 1) lines) _ next
    (λ said. alike (or_fault (UnknownName n) (place_of said.name (names_so_far draft))) _ _ _ next
    (λ stream.
    by_time (last_time draft.frames) (time_so_far draft) (last_is draft) said.at (TimeBack n) (frame_of said stream) _
    (λ said. shape_from (with_line draft said) (n + 1) lines)
    ∙ alike (ok_where (nat_le (time_so_far draft) said.at) (TimeBack n) (frame_of said stream)) _ _ _ next
    (λ f. ended (nat_lt (length draft.frames) 200000) (Limit n) _ _ f next refl)))
  where
    next : ShapeFrame → Result DeclaredShape ShapeFault
    next f = shape_from (record draft { frames = draft.frames ++ f ∷ [] }) (n + 1) lines

pub shape_lines_are_read : ShapeLinesAreRead
shape_lines_are_read = record {
  next = λ draft n line lines.
      each_way (is_skipped line) (is_none draft.residence) (bytes_eq (word (words_of line) 0) (codes "stream"))
      (bytes_eq (word (words_of line) 0) (codes "frame")) _ (residence_line n (words_of line))
      (stream_line draft n (words_of line)) (frame_line draft n (words_of line)) (BadLine n)
      (λ said. shape_from (with_line draft said) (n + 1) lines) _ _ _ _ refl
      (past (residence_in n (words_of line)) _ _ _ (λ ns. refl)) (stream_read draft n (words_of line) lines)
      (frame_read draft n (words_of line) lines);
}
