use Rattle.std.proofs.Common.{◌≡◌, ℕ, ◌+◌, ◌<◌, List, ◌++◌, length, get_or, drop, add-one, drop-cons, sym, ap, ◌∙◌}
use Rattle.std.proofs.Common.{append_assoc}
use Rattle.std.proofs.lemmas.List.{get_or_default}
use Rattle.ats_group.specs.declared.verdict.Verdict.{Verdict}
use Rattle.ats_shape.specs.declared.shape.ShapeStream.{ShapeStream}
use Rattle.ats_shape.specs.declared.shape.ShapeFrame.{ShapeFrame}
use Rattle.ats_shape.specs.Verdicts.{no_stream}
use Rattle.ats_shape.specs.Text.{frame_text, frames_text, name_in}

-- the line of the next frame, and those of the frames behind it
frames_text_step : (streams : List ShapeStream) (n : ℕ) (frames : List ShapeFrame) (verdicts : List Verdict)
    (f : ShapeFrame) (v : Verdict) → n < length frames → n < length verdicts
    → frames_text streams n (drop n frames) (drop n verdicts)
    ≡ frame_text n (name_in streams (get_or frames n f).stream) (get_or frames n f) (get_or verdicts n v)
    ++ frames_text streams (n + 1) (drop (n + 1) frames) (drop (n + 1) verdicts)
frames_text_step streams n frames verdicts f v in_frames in_verdicts =
    rw (drop-cons frames n f, drop-cons verdicts n v)
    (ap (λ (k : ℕ). frame_text n (name_in streams (get_or frames n f).stream) (get_or frames n f) (get_or verdicts n v)
    ++ frames_text streams (n + 1) (drop k frames) (drop k verdicts)) (sym (add-one n)))

-- a line that is written leaves the lines behind it
pub written : (streams : List ShapeStream) (n : ℕ) (frames : List ShapeFrame) (verdicts : List Verdict) (f : ShapeFrame)
    (v : Verdict) (name before after : List ℕ) → n < length frames → n < length verdicts
    → name ≡ name_in streams (get_or frames n f).stream
    → after ≡ before ++ frame_text n name (get_or frames n f) (get_or verdicts n v)
    → after ++ frames_text streams (n + 1) (drop (n + 1) frames) (drop (n + 1) verdicts)
    ≡ before ++ frames_text streams n (drop n frames) (drop n verdicts)
written streams n frames verdicts f v name before after in_frames in_verdicts named line =
    let rest : List ℕ = frames_text streams (n + 1) (drop (n + 1) frames) (drop (n + 1) verdicts) in
    ap (λ (t : List ℕ). t ++ rest) line
    ∙ append_assoc before (frame_text n name (get_or frames n f) (get_or verdicts n v)) rest
    ∙ ap (λ (x : List ℕ). before ++ (frame_text n x (get_or frames n f) (get_or verdicts n v) ++ rest)) named
    ∙ sym (ap (λ (t : List ℕ). before ++ t) (frames_text_step streams n frames verdicts f v in_frames in_verdicts))

-- a stream that is read at a place has the name that stands there
pub named_in : (streams : List ShapeStream) (i : ℕ) (s : ShapeStream) → s ≡ get_or streams i s → i < length streams
    → s.name ≡ name_in streams i
named_in streams i s read within = ap (λ (x : ShapeStream). x.name) (read ∙ get_or_default streams i s no_stream within)

joined : (x a b c d e f g h i : List ℕ)
    → ((((x ++ (a ++ b)) ++ (c ++ d)) ++ (e ++ f)) ++ (g ++ h)) ++ i ≡ x ++ (a ++ b ++ c ++ d ++ e ++ f ++ g ++ h ++ i)
joined x a b c d e f g h i = simp append_assoc

-- four words with a number each, and an end, written one after another
pub four_written : (x a b c d e f g h i one two three four five : List ℕ) → one ≡ x ++ (a ++ b) → two ≡ one ++ (c ++ d)
    → three ≡ two ++ (e ++ f) → four ≡ three ++ (g ++ h) → five ≡ four ++ i
    → five ≡ x ++ (a ++ b ++ c ++ d ++ e ++ f ++ g ++ h ++ i)
four_written x a b c d e f g h i one two three four five p q r s t =
    t ∙ ap (λ (z : List ℕ). z ++ i) (s ∙ ap (λ (z : List ℕ). z ++ (g ++ h))
    (r ∙ ap (λ (z : List ℕ). z ++ (e ++ f)) (q ∙ ap (λ (z : List ℕ). z ++ (c ++ d)) p)))
    ∙ joined x a b c d e f g h i
