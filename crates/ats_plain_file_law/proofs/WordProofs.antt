use Rattle.std.proofs.Common.{◌≡◌, ◌∙◌, ℕ, Bool, true, false, cond, List, [], ◌∷◌, length, ap, refl, sym}
use Rattle.std.specs.Prelude.{◌==◌, filter, not, slice_index_or}
use Rattle.std.specs.List.{onto_first, slice_split}
use Rattle.ats_io.specs.Text.{words_of}
use Rattle.ats_plain_file_law.specs.Words.{LineWordsAreRead}
use Rattle.ats_plain_file_law.proofs.CutProofs.{some_is}

-- The words of a line, byte by byte.

-- the pieces of a line between its spaces, and those of pieces that are not empty
abbrev pieces : List ℕ → List (List ℕ)
pieces line = slice_split (λ b. b == 32) line

abbrev filled : List (List ℕ) → List (List ℕ)
filled parts = filter (λ piece. not (length piece == 0)) parts

-- a piece that is not empty is a word
is_word : (b : ℕ) (piece : List ℕ) (parts : List (List ℕ))
    → filled ((b ∷ piece) ∷ parts) ≡ (b ∷ piece) ∷ filled parts
is_word b piece parts =
    ap (λ (empty : Bool). cond (not empty) ((b ∷ piece) ∷ filled parts) (filled parts)) (some_is (length piece))

-- a byte in front of another is of its word
both_in_front : (b c : ℕ) (parts : List (List ℕ))
    → filled (onto_first b (onto_first c parts)) ≡ onto_first b (filled (onto_first c parts))
both_in_front b c [] = is_word b (c ∷ []) [] ∙ ap (λ (ws : List (List ℕ)). onto_first b ws) (sym (is_word c [] []))
both_in_front b c (part ∷ parts) =
    is_word b (c ∷ part) parts ∙ ap (λ (ws : List (List ℕ)). onto_first b ws) (sym (is_word c part parts))

no_space : (b : ℕ) (line : List ℕ) → filled (onto_first b (pieces line))
    ≡ cond (slice_index_or line 0 32 == 32) ((b ∷ []) ∷ words_of line) (onto_first b (words_of line))
no_space b [] = is_word b [] []
no_space b (c ∷ line) = by (c == 32)
  where
    by : (ends : Bool) → filled (onto_first b (cond ends ([] ∷ pieces line) (onto_first c (pieces line))))
        ≡ cond ends ((b ∷ []) ∷ filled (cond ends ([] ∷ pieces line) (onto_first c (pieces line))))
        (onto_first b (filled (cond ends ([] ∷ pieces line) (onto_first c (pieces line)))))
    by true = is_word b [] (pieces line)
    by false = both_in_front b c (pieces line)

more : (b : ℕ) (line : List ℕ) → words_of (b ∷ line)
    ≡ cond (b == 32) (words_of line)
    (cond (slice_index_or line 0 32 == 32) ((b ∷ []) ∷ words_of line) (onto_first b (words_of line)))
more b line = by (b == 32)
  where
    by : (is_space : Bool) → filled (cond is_space ([] ∷ pieces line) (onto_first b (pieces line)))
        ≡ cond is_space (words_of line)
        (cond (slice_index_or line 0 32 == 32) ((b ∷ []) ∷ words_of line) (onto_first b (words_of line)))
    by true = refl
    by false = no_space b line

pub line_words_are_read : LineWordsAreRead
line_words_are_read = record { more = more }
