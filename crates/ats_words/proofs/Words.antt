-- The words of a line, one after the other from its front.
use Rattle.std.proofs.Common.{◌≡◌, ℕ, ◌+◌, ◌-◌, ◌<◌, ◌≤◌, ◌≢◌, ◌==◌, Bool, true, false, cond, not, List, [], ◌∷◌}
use Rattle.std.proofs.Common.{◌++◌, length, drop, slice_index, slice_range, All, filter, sym, ap, subst, ◌∙◌, inl}
use Rattle.std.proofs.Common.{inr, arith, append-nil, drop-drop, take-append-drop}
use Rattle.std.proofs.lemmas.Bool.{cases_lt, eq-eqb, ne_eqb}
use Rattle.std.proofs.lemmas.List.{drop_more, drop_all}
use Rattle.std.proofs.lemmas.List.Edits.{between_more, between_none, length-between}
use Rattle.std.proofs.lemmas.List.Elements.{All-push, All-nil}
use Rattle.std.proofs.lemmas.List.Splits.{slice_split_none, slice_split_at, slice_split-cons_yes}
use Rattle.std.specs.List.{slice_split}
use Rattle.ats_io.specs.Text.{words_of}

abbrev is_space : ℕ → Bool
is_space b = b == 32

abbrev is_some_word : List ℕ → Bool
is_some_word piece = not (length piece == 0)

-- no byte is a space
abbrev pub IsWithoutSpace : List ℕ → Type 0
IsWithoutSpace bytes = All (λ b. is_space b ≡ false) bytes

-- a space is passed over
pub space_passed : (line : List ℕ) (at : ℕ) → at < length line → slice_index line at ≡ 32
    → words_of (drop at line) ≡ words_of (drop (at + 1) line)
space_passed line at inside space =
    ap words_of (drop_more line at 0 inside ∙ ap (λ b. b ∷ drop (at + 1) line) space)

-- nothing is left, or a space comes next
abbrev Ends : List ℕ → Type 0
Ends [] = Unit {0}
Ends (b ∷ bytes) = is_space b ≡ true

-- a piece with a byte is a word
piece_kept : (b : ℕ) (piece : List ℕ) (rest : List (List ℕ))
    → filter is_some_word ((b ∷ piece) ∷ rest) ≡ (b ∷ piece) ∷ filter is_some_word rest
piece_kept b piece rest =
    ap (λ t. cond (not t) ((b ∷ piece) ∷ filter is_some_word rest) (filter is_some_word rest))
    (ne_eqb (length (b ∷ piece)) 0 (λ e. omega arith))

-- bytes without a space before the end or a space are a word
word_first : (word rest : List ℕ) → 0 < length word → IsWithoutSpace word → Ends rest
    → words_of (word ++ rest) ≡ word ∷ words_of rest
word_first [] rest some apart ends = absurd (omega arith)
word_first (b ∷ word) [] some apart ends =
    ap words_of (append-nil (b ∷ word)) ∙ ap (filter is_some_word) (slice_split_none is_space (b ∷ word) apart)
    ∙ piece_kept b word []
word_first (b ∷ word) (c ∷ rest) some apart ends =
    ap (filter is_some_word) (slice_split_at is_space (b ∷ word) c rest apart ends)
    ∙ piece_kept b word (slice_split is_space rest)
    ∙ sym (ap (λ pieces. (b ∷ word) ∷ filter is_some_word pieces) (slice_split-cons_yes is_space c rest ends))

-- what stands at a place begins the rest
ends_at : (line : List ℕ) (at : ℕ) → (at < length line → slice_index line at ≡ 32) → Ends (drop at line)
ends_at line at space =
    elim (cases_lt at (length line)) [
      | inl l ↦ subst Ends (sym (drop_more line at 0 l)) (eq-eqb (slice_index line at) 32 (space l))
      | inr g ↦ subst Ends (sym (drop_all at line g)) tt
    ]

-- a word that begins at a place is the piece up to the next space
pub word_ended : (line : List ℕ) (begin at : ℕ) → begin < at → at ≤ length line
    → IsWithoutSpace (slice_range line begin at) → (at < length line → slice_index line at ≡ 32)
    → words_of (drop begin line) ≡ slice_range line begin at ∷ words_of (drop at line)
word_ended line begin at some inside apart space =
    let there : begin + (at - begin) ≡ at = omega arith in
    let rest : drop (at - begin) (drop begin line) ≡ drop at line =
    drop-drop (at - begin) begin line ∙ ap (λ k. drop k line) there in
    let cut : drop begin line ≡ slice_range line begin at ++ drop at line =
    sym (take-append-drop (at - begin) (drop begin line)) ∙ ap (λ r. slice_range line begin at ++ r) rest in
    ap words_of cut ∙ word_first (slice_range line begin at) (drop at line)
    (omega (arith, length-between line begin at inside)) apart (ends_at line at space)

-- a byte that is no space goes to the word
pub word_longer : (line : List ℕ) (begin at : ℕ) → begin ≤ at → at < length line → slice_index line at ≢ 32
    → IsWithoutSpace (slice_range line begin at) → IsWithoutSpace (slice_range line begin (at + 1))
word_longer line begin at after inside other apart =
    subst IsWithoutSpace (sym (between_more line begin at 0 after inside))
    (All-push (λ b. is_space b ≡ false) (slice_range line begin at) (slice_index line at) apart
    (ne_eqb (slice_index line at) 32 other))

-- a word's first byte
pub word_begun : (line : List ℕ) (begin : ℕ) → begin < length line → slice_index line begin ≢ 32
    → IsWithoutSpace (slice_range line begin (begin + 1))
word_begun line begin inside other =
    word_longer line begin begin (omega arith) inside other
    (subst IsWithoutSpace (sym (between_none line begin)) (All-nil (λ b. is_space b ≡ false)))
