use Rattle.std.specs.Prelude.{◌≡◌, ◌≢◌, ◌↔◌, ◌⊎◌, ℕ, true, List, [], ◌∷◌, ◌++◌, All, unwrap_or}
use Rattle.std.specs.List.{slice_get}
use Rattle.ats_io.specs.Text.{lines_of, words_of}
use Rattle.ats_words.specs.Words.{is_skipped, word}

-- How any text is cut into lines and words, and which lines are passed over.

-- no byte of a text is this one
abbrev pub IsWithout : ℕ → List ℕ → Type 0
IsWithout byte text = All (λ b. b ≢ byte) text

-- a line does not end in a CR
abbrev pub EndsOtherwise : List ℕ → Type 0
EndsOtherwise line = (front : List ℕ) → line ≢ front ++ 13 ∷ []

-- a line ends at an LF and at no other byte, and one CR in front of the LF is not of it. What is behind the last LF is
-- a line where it has a byte, and keeps its CR. Refuses lines that lose each CR in front of their LF, and such as end
-- at a form feed
pub record LinesAreCut : Type 0 where
  pub none : lines_of [] ≡ []
  pub last : (line : List ℕ) → IsWithout 10 line → line ≢ [] → lines_of line ≡ line ∷ []
  pub fed : (line rest : List ℕ) → IsWithout 10 line → EndsOtherwise line
      → lines_of (line ++ 10 ∷ rest) ≡ line ∷ lines_of rest
  pub returned : (line rest : List ℕ) → IsWithout 10 line
      → lines_of (line ++ 13 ∷ 10 ∷ rest) ≡ line ∷ lines_of rest

-- a word is all that is between spaces, of whatever bytes. Refuses words that end where one begins with the sign of a
-- comment
pub record WordsAreCut : Type 0 where
  pub none : words_of [] ≡ []
  pub space : (line : List ℕ) → words_of (32 ∷ line) ≡ words_of line
  pub last : (text : List ℕ) → IsWithout 32 text → text ≢ [] → words_of text ≡ text ∷ []
  pub first : (text line : List ℕ) → IsWithout 32 text → text ≢ []
      → words_of (text ++ 32 ∷ line) ≡ text ∷ words_of line
  pub place : (words : List (List ℕ)) (k : ℕ) → word words k ≡ unwrap_or (slice_get words k) []

-- a line is passed over where it begins with a number sign, or has spaces alone. Refuses to pass over a tab
abbrev pub SkippingIsMeant : Type 0
SkippingIsMeant = (line : List ℕ) → (is_skipped line ≡ true)
    ↔ (((rest : List ℕ) × (line ≡ 35 ∷ rest)) ⊎ All (λ b. b ≡ 32) line)

pub record TextsAreCut : Type 0 where
  pub lines : LinesAreCut
  pub words : WordsAreCut
  pub skipped : SkippingIsMeant
