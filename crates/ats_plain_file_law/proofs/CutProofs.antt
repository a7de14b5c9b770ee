use Rattle.std.proofs.Common.{◌≡◌, ◌∙◌, ℕ, suc, ◌-◌, ◌&&◌, Bool, true, false, cond, List, [], ◌∷◌, length, take, ap}
use Rattle.std.proofs.Common.{arith, refl, sym}
use Rattle.std.specs.Prelude.{◌==◌, slice_index}
use Rattle.std.specs.List.{onto_first, slice_split}
use Rattle.std.specs.Str.Lines.{lines_of_parts, strip_carriage_return}
use Rattle.std.proofs.lemmas.Bool.Decides.{nat_tests}
use Rattle.ats_io.specs.Text.{lines_of}
use Rattle.ats_plain_file_law.specs.Cuts.{TextLinesAreRead}

-- The lines of a text, byte by byte.

-- the pieces of a text between its LFs
abbrev cut : List ℕ → List (List ℕ)
cut text = slice_split (λ b. b == 10) text

-- a line with its last byte taken off where it is a CR, by the place of that byte
abbrev stripped : List ℕ → ℕ → List ℕ
stripped line k = cond (slice_index line k == 13) (take k line) line

-- a byte in front of a line that has some stays there
in_front : (b c : ℕ) (line : List ℕ) → strip_carriage_return (b ∷ c ∷ line) ≡ b ∷ strip_carriage_return (c ∷ line)
in_front b c line =
    ap (stripped (b ∷ c ∷ line)) (let long : length (b ∷ c ∷ line) - 1 ≡ suc (length line) = omega arith in long)
    ∙ by (slice_index (c ∷ line) (length line) == 13)
    ∙ ap (λ (k : ℕ). b ∷ stripped (c ∷ line) k)
    (let short : length line ≡ length (c ∷ line) - 1 = omega arith in short)
  where
    by : (returns : Bool)
        → (let l : List ℕ = cond returns (b ∷ take (length line) (c ∷ line)) (b ∷ c ∷ line) in l)
        ≡ b ∷ cond returns (take (length line) (c ∷ line)) (c ∷ line)
    by true = refl
    by false = refl

pub some_is : (n : ℕ) → (suc n == 0) ≡ false
some_is n = grind (arith, nat_tests)

-- two bytes in front of pieces are both of the first line
both_in_front : (b c : ℕ) (parts : List (List ℕ))
    → lines_of_parts (onto_first b (onto_first c parts)) ≡ onto_first b (lines_of_parts (onto_first c parts))
both_in_front b c [] =
    ap (λ (empty : Bool). let ls : List (List ℕ) = cond empty [] ((b ∷ c ∷ []) ∷ []) in ls) (some_is 1)
    ∙ ap (λ (empty : Bool). onto_first b (cond empty [] ((c ∷ []) ∷ []))) (sym (some_is 0))
both_in_front b c (line ∷ []) =
    ap (λ (empty : Bool). let ls : List (List ℕ) = cond empty [] ((b ∷ c ∷ line) ∷ []) in ls)
    (some_is (length (c ∷ line)))
    ∙ ap (λ (empty : Bool). onto_first b (cond empty [] ((c ∷ line) ∷ []))) (sym (some_is (length line)))
both_in_front b c (line ∷ next ∷ parts) =
    ap (λ (l : List ℕ). l ∷ lines_of_parts (next ∷ parts)) (in_front b c line)

-- a cut text has a first piece
record HasFirst (parts : List (List ℕ)) : Type 0 where
  first : List ℕ
  more : List (List ℕ)
  is : parts ≡ first ∷ more

cut_has_first : (text : List ℕ) → HasFirst (cut text)
cut_has_first [] = record { first = []; more = []; is = refl }
cut_has_first (b ∷ text) = by (b == 10)
  where
    onto : (parts : List (List ℕ)) → HasFirst (onto_first b parts)
    onto [] = record { first = b ∷ []; more = []; is = refl }
    onto (part ∷ parts) = record { first = b ∷ part; more = parts; is = refl }

    by : (feeds : Bool) → HasFirst (cond feeds ([] ∷ cut text) (onto_first b (cut text)))
    by true = record { first = []; more = cut text; is = refl }
    by false = onto (cut text)

-- a piece that more follow is a line, without a CR at its end
line_behind : (line : List ℕ) (parts : List (List ℕ)) → HasFirst parts
    → lines_of_parts (line ∷ parts) ≡ strip_carriage_return line ∷ lines_of_parts parts
line_behind line parts has =
    ap (λ (ps : List (List ℕ)). lines_of_parts (line ∷ ps)) has.is
    ∙ ap (λ (ps : List (List ℕ)). strip_carriage_return line ∷ lines_of_parts ps) (sym has.is)

-- what a byte that is no LF makes of the lines behind it
abbrev with_byte : ℕ → List ℕ → List (List ℕ) → List (List ℕ)
with_byte b text lines = cond (b == 13 && slice_index text 0 == 10) lines (onto_first b lines)

-- in front of no text, of an LF, and of any other byte
last_byte : (b : ℕ) → lines_of_parts ((b ∷ []) ∷ []) ≡ with_byte b [] []
last_byte b =
    ap (λ (empty : Bool). let ls : List (List ℕ) = cond empty [] ((b ∷ []) ∷ []) in ls) (some_is 0) ∙ by (b == 13)
  where
    by : (returns : Bool) → (b ∷ []) ∷ [] ≡ cond (returns && (0 == 10)) [] (onto_first b [])
    by true = refl
    by false = refl

before_feed : (b c : ℕ) (text : List ℕ) → (c == 10) ≡ true
    → lines_of_parts ((b ∷ []) ∷ cut text) ≡ with_byte b (c ∷ text) (lines_of_parts ([] ∷ cut text))
before_feed b c text is =
    line_behind (b ∷ []) (cut text) (cut_has_first text)
    ∙ by (b == 13)
    ∙ ap (λ (feeds : Bool). cond ((b == 13) && feeds) ([] ∷ lines_of_parts (cut text))
    (onto_first b ([] ∷ lines_of_parts (cut text)))) (sym is)
    ∙ ap (with_byte b (c ∷ text)) (sym (line_behind [] (cut text) (cut_has_first text)))
  where
    by : (returns : Bool)
        → (let l : List ℕ = cond returns [] (b ∷ []) in l) ∷ lines_of_parts (cut text)
        ≡ cond (returns && true) ([] ∷ lines_of_parts (cut text)) (onto_first b ([] ∷ lines_of_parts (cut text)))
    by true = refl
    by false = refl

before_other : (b c : ℕ) (text : List ℕ) → (c == 10) ≡ false
    → lines_of_parts (onto_first b (onto_first c (cut text)))
    ≡ with_byte b (c ∷ text) (lines_of_parts (onto_first c (cut text)))
before_other b c text is =
    both_in_front b c (cut text)
    ∙ by (b == 13)
    ∙ ap (λ (feeds : Bool). cond ((b == 13) && feeds) (lines_of_parts (onto_first c (cut text)))
    (onto_first b (lines_of_parts (onto_first c (cut text))))) (sym is)
  where
    by : (returns : Bool)
        → onto_first b (lines_of_parts (onto_first c (cut text)))
        ≡ cond (returns && false) (lines_of_parts (onto_first c (cut text)))
        (onto_first b (lines_of_parts (onto_first c (cut text))))
    by true = refl
    by false = refl

no_feed : (b : ℕ) (text : List ℕ) → lines_of_parts (onto_first b (cut text)) ≡ with_byte b text (lines_of text)
no_feed b [] = last_byte b
no_feed b (c ∷ text) = by (c == 10) refl
  where
    by : (feeds : Bool) → (c == 10) ≡ feeds
        → lines_of_parts (onto_first b (cond feeds ([] ∷ cut text) (onto_first c (cut text))))
        ≡ with_byte b (c ∷ text) (lines_of_parts (cond feeds ([] ∷ cut text) (onto_first c (cut text))))
    by true is = before_feed b c text is
    by false is = before_other b c text is

more : (b : ℕ) (text : List ℕ)
    → lines_of (b ∷ text) ≡ cond (b == 10) ([] ∷ lines_of text) (with_byte b text (lines_of text))
more b text = by (b == 10)
  where
    by : (feeds : Bool)
        → lines_of_parts (cond feeds ([] ∷ cut text) (onto_first b (cut text)))
        ≡ cond feeds ([] ∷ lines_of text) (with_byte b text (lines_of text))
    by true = line_behind [] (cut text) (cut_has_first text)
    by false = no_feed b text

pub text_lines_are_read : TextLinesAreRead
text_lines_are_read = record { more = more }
