use Rattle.std.proofs.Common.{◌≡◌, ◌⊎◌, ℕ, ◌+◌, ◌-◌, Bool, true, false, not, ◌&&◌, List, [], ◌∷◌, ◌++◌, length, map}
use Rattle.std.proofs.Common.{filter, get_or, Option, None, Some, Result, Ok, Err, refl, sym, ap, ◌∙◌, subst, inl, inr}
use Rattle.std.proofs.Common.{arith, append_assoc, length-append}
use Rattle.std.specs.Prelude.{is_none, if◌then◌else◌}
use Rattle.std.specs.List.{list_all}
use Rattle.std.proofs.Math.ListN.{get_or-map}
use Rattle.std.proofs.lemmas.List.{length-map, map-append, append-nil}
use Rattle.std.proofs.lemmas.List.Elements.{filter-append}
use Rattle.std.proofs.lemmas.List.Folds.{list_all-append}
use Rattle.std.proofs.lemmas.Bool.{and_parts}
use Rattle.ats_io.specs.Text.{lines_of, words_of}
use Rattle.ats_num.specs.Failure.{◌>>=◌, or_fault}
use Rattle.ats_shape.specs.Shape.{DeclaredShape}
use Rattle.ats_words.specs.Words.{word, is_skipped}
use Rattle.ats_shape.specs.Reading.{DraftShape, blank, names_of, last_time, line_in, with_line}
use Rattle.ats_shape.specs.Reading.{finished, shape_from, shape_of}
use Rattle.ats_shape.specs.FaultLaw.{is_stream_line, is_frame_line, number_in, names_on, arrivals_on, last_of, HasFault}
use Rattle.ats_shape.specs.FaultLaw.{AreFaultless, IsFirstFault, IsWithoutResidence, IsDeclared}
use Rattle.ats_shape.specs.declared.shape.ShapeStream.{ShapeStream}
use Rattle.ats_shape.specs.declared.shape.ShapeFrame.{ShapeFrame}
use Rattle.ats_shape.specs.declared.fault.ShapeFault.{ShapeFault}
use Rattle.ats_shape.specs.declared.fault.ShapeFault.TheVariants.{BadLine}
use Rattle.ats_shape.specs.declared.line.Line.{Line}
use Rattle.ats_shape.specs.declared.line.Line.TheVariants.{Skipped, Residence, Stream, Frame}
use Rattle.ats_shape.proofs.LineCases.{line_by, line_behind, Known, known}
use Rattle.ats_shape.proofs.FaultCauses.{at_fault}

abbrev at : ShapeFrame → ℕ
at f = f.at.0

-- a draft holds what stands on the lines before
pub record Agrees (draft : DraftShape) (before : List (List ℕ)) : Type 0 where
  pub opened : is_none draft.residence ≡ list_all is_skipped before
  pub names : names_of draft.streams ≡ names_on before
  pub arrivals : map at draft.frames ≡ arrivals_on before

last_is : (frames : List ShapeFrame) (arrivals : List ℕ) → map at frames ≡ arrivals
    → last_time frames ≡ last_of arrivals
last_is frames arrivals h =
    sym (get_or-map at frames (length frames - 1) (record { at = record { 0 = 0 }; stream = 0; octets = 0 }))
    ∙ ap (λ (k : ℕ). get_or (map at frames) (k - 1) 0) (sym (length-map frames at))
    ∙ ap (λ (xs : List ℕ). last_of xs) h

-- so it gives each line the same answer
agreed : (draft : DraftShape) (before : List (List ℕ)) (n : ℕ) (line : List ℕ) → Agrees draft before
    → line_in draft n line ≡ line_behind before n line
agreed draft before n line h =
    let streams : length draft.streams ≡ length (names_on before) =
    sym (length-map draft.streams (λ (s : ShapeStream). s.name)) ∙ ap (λ (xs : List (List ℕ)). length xs) h.names in
    let frames : length draft.frames ≡ length (arrivals_on before) =
    sym (length-map draft.frames at) ∙ ap (λ (xs : List ℕ). length xs) h.arrivals in
    ap (λ (b : Bool). line_by b (names_of draft.streams) (length draft.streams) (length draft.frames)
    (last_time draft.frames) n line) h.opened
    ∙ ap (λ (xs : List (List ℕ)). line_by (list_all is_skipped before) xs (length draft.streams) (length draft.frames)
    (last_time draft.frames) n line) h.names
    ∙ ap (λ (k : ℕ). line_by (list_all is_skipped before) (names_on before) k (length draft.frames)
    (last_time draft.frames) n line) streams
    ∙ ap (λ (k : ℕ). line_by (list_all is_skipped before) (names_on before) (length (names_on before)) k
    (last_time draft.frames) n line) frames
    ∙ ap (λ (k : ℕ). line_by (list_all is_skipped before) (names_on before) (length (names_on before))
    (length (arrivals_on before)) k n line) (last_is draft.frames (arrivals_on before) h.arrivals)

-- with one line more
skipped_more : (before : List (List ℕ)) (line : List ℕ) (skipped : Bool) → is_skipped line ≡ skipped
    → list_all is_skipped (before ++ line ∷ []) ≡ (list_all is_skipped before && skipped)
skipped_more before line true p = list_all-append is_skipped before (line ∷ [])
    ∙ ap (λ (b : Bool). list_all is_skipped before && (b && true)) p
skipped_more before line false p = list_all-append is_skipped before (line ∷ [])
    ∙ ap (λ (b : Bool). list_all is_skipped before && (b && true)) p

names_more : (before : List (List ℕ)) (line : List ℕ) (b : Bool) → is_stream_line line ≡ b
    → names_on (before ++ line ∷ []) ≡ names_on before ++ map (λ l. word (words_of l) 1) (if b then line ∷ [] else [])
names_more before line b p =
    ap (λ (ls : List (List ℕ)). map (λ l. word (words_of l) 1) ls) (filter-append is_stream_line before (line ∷ []))
    ∙ map-append (λ l. word (words_of l) 1) (filter is_stream_line before) (filter is_stream_line (line ∷ []))
    ∙ ap (λ (v : Bool). names_on before ++ map (λ l. word (words_of l) 1) (if v then line ∷ [] else [])) p

arrivals_more : (before : List (List ℕ)) (line : List ℕ) (b : Bool)
    → is_frame_line line ≡ b → arrivals_on (before ++ line ∷ [])
    ≡ arrivals_on before ++ map (λ l. number_in (words_of l) 1) (if b then line ∷ [] else [])
arrivals_more before line b p =
    ap (λ (ls : List (List ℕ)). map (λ l. number_in (words_of l) 1) ls) (filter-append is_frame_line before (line ∷ []))
    ∙ map-append (λ l. number_in (words_of l) 1) (filter is_frame_line before) (filter is_frame_line (line ∷ []))
    ∙ ap (λ (v : Bool). arrivals_on before ++ map (λ l. number_in (words_of l) 1) (if v then line ∷ [] else [])) p

and_true : (b : Bool) → (b && true) ≡ b
and_true true = refl
and_true false = refl

and_false : (b : Bool) → (b && false) ≡ false
and_false true = refl
and_false false = refl

no_start : (skipped begins : Bool) → skipped ≡ true → (not skipped && begins) ≡ false
no_start skipped begins p = rw p refl

more : (draft : DraftShape) (before : List (List ℕ)) (n : ℕ) (line : List ℕ) (said : Line) → Agrees draft before
    → Known before n line (Ok said) → Agrees (with_line draft said) (before ++ line ∷ [])
more draft before n line Skipped h k = record {
  opened = h.opened ∙ sym (skipped_more before line true k ∙ and_true (list_all is_skipped before));
  names = h.names ∙ sym (names_more before line false (no_start (is_skipped line) _ k) ∙ append-nil (names_on before));
  arrivals = h.arrivals
      ∙ sym (arrivals_more before line false (no_start (is_skipped line) _ k) ∙ append-nil (arrivals_on before));
}
more draft before n line (Residence ns) h k = record {
  opened = sym (skipped_more before line false k.counts ∙ and_false (list_all is_skipped before));
  names = h.names ∙ sym (names_more before line false k.stream ∙ append-nil (names_on before));
  arrivals = h.arrivals ∙ sym (arrivals_more before line false k.frame ∙ append-nil (arrivals_on before));
}
more draft before n line (Stream stream) h k = record {
  opened = h.opened ∙ k.counts.opened
      ∙ sym (skipped_more before line false k.counts.counts ∙ and_false (list_all is_skipped before));
  names = map-append (λ (s : ShapeStream). s.name) draft.streams (stream ∷ [])
      ∙ ap (λ (xs : List (List ℕ)). xs ++ stream.name ∷ []) h.names
      ∙ ap (λ (x : List ℕ). names_on before ++ x ∷ []) k.name ∙ sym (names_more before line true k.stream);
  arrivals = h.arrivals ∙ sym (arrivals_more before line false k.frame ∙ append-nil (arrivals_on before));
}
more draft before n line (Frame frame) h k = record {
  opened = h.opened ∙ k.counts.opened
      ∙ sym (skipped_more before line false k.counts.counts ∙ and_false (list_all is_skipped before));
  names = h.names ∙ sym (names_more before line false k.stream ∙ append-nil (names_on before));
  arrivals = map-append at draft.frames (frame ∷ []) ∙ ap (λ (xs : List ℕ). xs ++ at frame ∷ []) h.arrivals
      ∙ ap (λ (x : ℕ). arrivals_on before ++ x ∷ []) k.at ∙ sym (arrivals_more before line true k.frame);
}

-- a list without lines has none at fault
not_nothing : (before : List (List ℕ)) (line : List ℕ) (after : List (List ℕ)) → before ++ line ∷ after ≡ [] → ⊥
not_nothing [] line after e = cc
not_nothing (x ∷ xs) line after e = cc

faultless_none : AreFaultless []
faultless_none = λ before line after fault e h. not_nothing before line after e

-- a line of a list with one line more is the last, or one of the list
record IsEarlier (before b : List (List ℕ)) (l : List ℕ) : Type 0 where
  after : List (List ℕ)
  cut : b ++ l ∷ after ≡ before

in_more : (b : List (List ℕ)) (l : List ℕ) (a : List (List ℕ)) (before : List (List ℕ)) (line : List ℕ)
    → b ++ l ∷ a ≡ before ++ line ∷ [] → ((b ≡ before) × (l ≡ line)) ⊎ IsEarlier before b l
in_more [] l a [] line e = inl (refl, cc)
in_more [] l a (x ∷ xs) line e = inr (record { after = xs; cut = cc })
in_more (y ∷ b) l a [] line e = absurd (not_nothing b l a cc)
in_more (y ∷ b) l a (x ∷ xs) line e =
    let same : y ≡ x = cc in
    let rest : b ++ l ∷ a ≡ xs ++ line ∷ [] = cc in
    elim (in_more b l a xs line rest) [
      | inl h ↦ (let p = h.0 in inl (cc, h.1))
      | inr h ↦ (let p = h.cut in inr (record { after = h.after; cut = cc }))
    ]

faultless_more : (before : List (List ℕ)) (line : List ℕ) → AreFaultless before
    → ((fault : ShapeFault) → HasFault before line fault → ⊥) → AreFaultless (before ++ line ∷ [])
faultless_more before line h sound = λ b l a fault e found.
    elim (in_more b l a before line e) [
      | inl p ↦ sound fault (subst (λ (ls : List (List ℕ)). HasFault ls line fault) p.0
          (subst (λ (x : List ℕ). HasFault b x fault) p.1 found))
      | inr p ↦ h b l p.after fault p.cut found
    ]

-- a line that is answered without a fault has none
sound_line : (draft : DraftShape) (before : List (List ℕ)) (line : List ℕ) (said : Line) → Agrees draft before
    → line_in draft (length before + 1) line ≡ Ok said → (fault : ShapeFault) → HasFault before line fault → ⊥
sound_line draft before line said h e fault found =
    let answered : line_behind before (length before + 1) line ≡ Err fault =
    at_fault before (length before + 1) line fault (record { number = found.number; cause = found.cause }) in
    let same : line_in draft (length before + 1) line ≡ line_behind before (length before + 1) line =
    agreed draft before (length before + 1) line h in
    cc

-- what is known where all lines are answered
abbrev pub Outcome : List (List ℕ) → Result DeclaredShape ShapeFault → Type 0
Outcome lines (Ok shape) = IsDeclared lines shape
Outcome lines (Err fault) = IsFirstFault lines fault ⊎ IsWithoutResidence lines fault

ended : (draft : DraftShape) (before : List (List ℕ)) (residence : Option ℕ) → Agrees draft before → AreFaultless before
    → draft.residence ≡ residence
    → Outcome before (or_fault (BadLine (length before + 1)) residence
    >>= λ ns. Ok (record { residence_ns = ns; streams = draft.streams; frames = draft.frames }))
ended draft before None h faultless p =
    inr (record { skipped = sym h.opened ∙ ap (λ (r : Option ℕ). is_none r) p; end = refl })
ended draft before (Some ns) h faultless p = record {
  faultless = faultless;
  opened = sym h.opened ∙ ap (λ (r : Option ℕ). is_none r) p;
  names = h.names;
  arrivals = h.arrivals;
}

one_more : (before : List (List ℕ)) (line : List ℕ) → length (before ++ line ∷ []) + 1 ≡ (length before + 1) + 1
one_more before line = ap (λ (k : ℕ). k + 1) (length-append before (line ∷ []))

-- the answer on a line, and then on those behind it
answered :
    (draft : DraftShape) (before : List (List ℕ)) (line : List ℕ) (lines : List (List ℕ)) (r : Result Line ShapeFault)
    → Agrees draft before → AreFaultless before → line_in draft (length before + 1) line ≡ r
    → ((said : Line) → Agrees (with_line draft said) (before ++ line ∷ [])
    → AreFaultless (before ++ line ∷ []) → Outcome ((before ++ line ∷ []) ++ lines)
    (shape_from (with_line draft said) (length (before ++ line ∷ []) + 1) lines))
    → Outcome (before ++ line ∷ lines) (r >>= λ said. shape_from (with_line draft said) ((length before + 1) + 1) lines)
answered draft before line lines (Err fault) h faultless e next =
    let k = subst (λ (r : Result Line ShapeFault). Known before (length before + 1) line r)
    (sym (agreed draft before (length before + 1) line h) ∙ e) (known before (length before + 1) line) in
    inl (record {
      before = before;
      line = line;
      after = lines;
      cut = refl;
      faultless = faultless;
      found = record { number = k.number; cause = k.cause };
    })
answered draft before line lines (Ok said) h faultless e next =
    let k = subst (λ (r : Result Line ShapeFault). Known before (length before + 1) line r)
    (sym (agreed draft before (length before + 1) line h) ∙ e) (known before (length before + 1) line) in
    subst (λ (n : ℕ). Outcome (before ++ line ∷ lines) (shape_from (with_line draft said) n lines))
    (one_more before line)
    (subst
    (λ (ls : List (List ℕ)). Outcome ls (shape_from (with_line draft said) (length (before ++ line ∷ []) + 1) lines))
    (append_assoc before (line ∷ []) lines)
    (next said (more draft before (length before + 1) line said h k)
    (faultless_more before line faultless (sound_line draft before line said h e))))

outcome_from : (draft : DraftShape) (before lines : List (List ℕ)) → Agrees draft before → AreFaultless before
    → Outcome (before ++ lines) (shape_from draft (length before + 1) lines)
outcome_from draft before [] h faultless =
    subst (λ (ls : List (List ℕ)). Outcome ls (finished draft (length before + 1))) (sym (append-nil before))
    (ended draft before draft.residence h faultless refl)
outcome_from draft before (line ∷ lines) h faultless =
    answered draft before line lines (line_in draft (length before + 1) line) h faultless refl
    (λ said g f. outcome_from (with_line draft said) (before ++ line ∷ []) lines g f)

pub outcome : (text : List ℕ) → Outcome (lines_of text) (shape_of text)
outcome text =
    outcome_from blank [] (lines_of text) (record { opened = refl; names = refl; arrivals = refl }) faultless_none

pub shape_is_faultless : (text : List ℕ) (shape : DeclaredShape) → shape_of text ≡ Ok shape
    → IsDeclared (lines_of text) shape
shape_is_faultless text shape e =
    subst (λ (r : Result DeclaredShape ShapeFault). Outcome (lines_of text) r) e (outcome text)

pub fault_is_first : (text : List ℕ) (fault : ShapeFault) → shape_of text ≡ Err fault
    → IsFirstFault (lines_of text) fault ⊎ IsWithoutResidence (lines_of text) fault
fault_is_first text fault e =
    subst (λ (r : Result DeclaredShape ShapeFault). Outcome (lines_of text) r) e (outcome text)

-- the first fault is answered
fault_known : (draft : DraftShape) (before : List (List ℕ)) (line : List ℕ) (fault : ShapeFault) → Agrees draft before
    → line_in draft (length before + 1) line ≡ Err fault → HasFault before line fault
fault_known draft before line fault h e =
    let k = subst (λ (r : Result Line ShapeFault). Known before (length before + 1) line r)
    (sym (agreed draft before (length before + 1) line h) ∙ e) (known before (length before + 1) line) in
    record { number = k.number; cause = k.cause }

passed : (draft : DraftShape) (before : List (List ℕ)) (line : List ℕ) (lines : List (List ℕ)) (fault : ShapeFault)
    (r : Result Line ShapeFault) → Agrees draft before → ((f : ShapeFault) → HasFault before line f → ⊥)
    → line_in draft (length before + 1) line ≡ r
    → ((said : Line) → Agrees (with_line draft said) (before ++ line ∷ [])
    → shape_from (with_line draft said) (length (before ++ line ∷ []) + 1) lines ≡ Err fault)
    → (r >>= λ said. shape_from (with_line draft said) ((length before + 1) + 1) lines) ≡ Err fault
passed draft before line lines fault (Err f) h sound e next = absurd (sound f (fault_known draft before line f h e))
passed draft before line lines fault (Ok said) h sound e next =
    let k = subst (λ (r : Result Line ShapeFault). Known before (length before + 1) line r)
    (sym (agreed draft before (length before + 1) line h) ∙ e) (known before (length before + 1) line) in
    ap (λ (n : ℕ). shape_from (with_line draft said) n lines) (sym (one_more before line))
    ∙ next said (more draft before (length before + 1) line said h k)

first_answered : (draft : DraftShape) (before lines : List (List ℕ)) (line : List ℕ) (after : List (List ℕ))
    (fault : ShapeFault) → Agrees draft before → AreFaultless (before ++ lines) → HasFault (before ++ lines) line fault
    → shape_from draft (length before + 1) (lines ++ line ∷ after) ≡ Err fault
first_answered draft before [] line after fault h faultless found =
    let here : HasFault before line fault =
    subst (λ (ls : List (List ℕ)). HasFault ls line fault) (append-nil before) found in
    ap (λ (r : Result Line ShapeFault). r >>= λ said. shape_from (with_line draft said) ((length before + 1) + 1) after)
    (agreed draft before (length before + 1) line h
    ∙ at_fault before (length before + 1) line fault (record { number = here.number; cause = here.cause }))
first_answered draft before (l ∷ lines) line after fault h faultless found =
    passed draft before l (lines ++ line ∷ after) fault (line_in draft (length before + 1) l) h
    (λ f. faultless before l lines f refl) refl
    (λ said g. first_answered (with_line draft said) (before ++ l ∷ []) lines line after fault g
    (subst (λ (ls : List (List ℕ)). AreFaultless ls) (sym (append_assoc before (l ∷ []) lines)) faultless)
    (subst (λ (ls : List (List ℕ)). HasFault ls line fault) (sym (append_assoc before (l ∷ []) lines)) found))

-- lines that are all skipped miss their residence
skip : (draft : DraftShape) (n : ℕ) (line : List ℕ) → is_skipped line ≡ true → line_in draft n line ≡ Ok Skipped
skip draft n line p = rw p refl

all_skipped : (n : ℕ) (lines : List (List ℕ)) → list_all is_skipped lines ≡ true
    → shape_from blank n lines ≡ Err (BadLine (length lines + n))
all_skipped n [] p = ap (λ (k : ℕ). let r : Result DeclaredShape ShapeFault = Err (BadLine k) in r) (omega arith)
all_skipped n (line ∷ lines) p =
    let parts = and_parts (is_skipped line) (list_all is_skipped lines) p in
    ap (λ (r : Result Line ShapeFault). r >>= λ said. shape_from (with_line blank said) (n + 1) lines)
    (skip blank n line parts.0)
    ∙ all_skipped (n + 1) lines parts.1
    ∙ ap (λ (k : ℕ). let r : Result DeclaredShape ShapeFault = Err (BadLine k) in r) (omega arith)

pub first_is_answered : (text : List ℕ) (fault : ShapeFault)
    → IsFirstFault (lines_of text) fault ⊎ IsWithoutResidence (lines_of text) fault → shape_of text ≡ Err fault
first_is_answered text fault (inl h) =
    ap (λ (ls : List (List ℕ)). shape_from blank 1 ls) (sym h.cut)
    ∙ first_answered blank [] h.before h.line h.after fault (record { opened = refl; names = refl; arrivals = refl })
    h.faultless h.found
first_is_answered text fault (inr h) = all_skipped 1 (lines_of text) h.skipped
    ∙ ap (λ (f : ShapeFault). let r : Result DeclaredShape ShapeFault = Err f in r) (sym h.end)
