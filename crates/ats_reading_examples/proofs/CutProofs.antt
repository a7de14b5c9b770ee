-- How texts are cut, by where they are first cut.
use Rattle.std.proofs.Common.{◌≡◌, ◌≢◌, ◌∙◌, ◌⊎◌, ℕ, suc, Bool, true, false, cond, List, [], ◌∷◌, ◌++◌, length}
use Rattle.std.proofs.Common.{All, ap, arith, inl, inr, refl, sym, append_assoc}
use Rattle.std.specs.Prelude.{◌-◌, ◌==◌, ◌||◌, not, filter, slice_index, take}
use Rattle.std.specs.List.{onto_first, slice_split}
use Rattle.std.specs.Str.Lines.{lines_of_parts, strip_carriage_return}
use Rattle.std.proofs.lemmas.Bool.Decides.{nat_tests}
use Rattle.std.proofs.lemmas.List.{length-append}
use Rattle.std.proofs.lemmas.List.Elements.{All-cons, All-head, All-nil, All-push, All-tail, All-weaker}
use Rattle.std.proofs.lemmas.List.Splits.{slice_split_at, slice_split_none}
use Rattle.ats_io.specs.Text.{lines_of, words_of}
use Rattle.ats_words.specs.Words.{is_skipped}
use Rattle.ats_reading_examples.specs.Cut.{EndsOtherwise, IsWithout, LinesAreCut, SkippingIsMeant, TextsAreCut}
use Rattle.ats_reading_examples.specs.Cut.{WordsAreCut}

other_byte : (b byte : ℕ) → b ≢ byte → (b == byte) ≡ false
other_byte b byte differ = grind (arith, nat_tests, differ)

passes_none : (byte : ℕ) (text : List ℕ) → IsWithout byte text → All (λ b. (b == byte) ≡ false) text
passes_none byte text h =
    All-weaker (λ (b : ℕ). b ≢ byte) (λ (b : ℕ). (b == byte) ≡ false) (λ b differ. other_byte b byte differ) text h

-- a cut list has a first part
record HasFirst (parts : List (List ℕ)) : Type 0 where
  first : List ℕ
  more : List (List ℕ)
  is : parts ≡ first ∷ more

onto_has_first : (b : ℕ) (parts : List (List ℕ)) → HasFirst (onto_first b parts)
onto_has_first b [] = record { first = b ∷ []; more = []; is = refl }
onto_has_first b (part ∷ parts) = record { first = b ∷ part; more = parts; is = refl }

split_has_first : (p : ℕ → Bool) (text : List ℕ) → HasFirst (slice_split p text)
split_has_first p [] = record { first = []; more = []; is = refl }
split_has_first p (b ∷ text) = by (p b)
  where
    by : (cuts : Bool) → HasFirst (cond cuts ([] ∷ slice_split p text) (onto_first b (slice_split p text)))
    by true = record { first = []; more = slice_split p text; is = refl }
    by false = onto_has_first b (slice_split p text)

-- the test for an LF
abbrev feeds : ℕ → Bool
feeds b = b == 10

parts_behind : (line : List ℕ) (parts : List (List ℕ)) → HasFirst parts
    → lines_of_parts (line ∷ parts) ≡ strip_carriage_return line ∷ lines_of_parts parts
parts_behind line parts has = ap (λ (ps : List (List ℕ)). lines_of_parts (line ∷ ps)) has.is
    ∙ ap (λ (ps : List (List ℕ)). strip_carriage_return line ∷ lines_of_parts ps) (sym has.is)

next_line : (line rest : List ℕ) → IsWithout 10 line
    → lines_of (line ++ 10 ∷ rest) ≡ strip_carriage_return line ∷ lines_of rest
next_line line rest h =
    ap lines_of_parts (slice_split_at feeds line 10 rest (passes_none 10 line h) refl)
    ∙ parts_behind line (slice_split feeds rest) (split_has_first feeds rest)

some_is : (n : ℕ) → (suc n == 0) ≡ false
some_is n = grind (arith, nat_tests)

some_length : (line : List ℕ) → line ≢ [] → (length line == 0) ≡ false
some_length [] h = absurd (h refl)
some_length (b ∷ line) h = some_is (length line)

last_line : (line : List ℕ) → IsWithout 10 line → line ≢ [] → lines_of line ≡ line ∷ []
last_line line h some =
    ap lines_of_parts (slice_split_none feeds line (passes_none 10 line h))
    ∙ ap (λ (empty : Bool). let ls : List (List ℕ) = cond empty [] (line ∷ []) in ls) (some_length line some)

-- what ends in a CR
record Returns (line : List ℕ) : Type 0 where
  front : List ℕ
  is : line ≡ front ++ 13 ∷ []

returns_behind : (b : ℕ) (line : List ℕ) → Returns line → Returns (b ∷ line)
returns_behind b line inner = record { front = b ∷ inner.front; is = ap (λ (ls : List ℕ). b ∷ ls) inner.is }

at_place : (bytes : List ℕ) (m n : ℕ) → m ≡ n → slice_index bytes m ≡ slice_index bytes n
at_place bytes m n same = ap (λ (k : ℕ). slice_index bytes k) same

ends_in : (line : List ℕ) → slice_index line (length line - 1) ≡ 13 → Returns line
ends_in [] h = absurd (omega (arith, h))
ends_in (b ∷ []) h = record { front = []; is = ap (λ (c : ℕ). c ∷ []) h }
ends_in (b ∷ c ∷ line) h =
    let last : suc (length line) ≡ length (b ∷ c ∷ line) - 1 = omega arith in
    let there : length (c ∷ line) - 1 ≡ length line = omega arith in
    let here : slice_index (c ∷ line) (length line) ≡ 13 =
    at_place (b ∷ c ∷ line) (suc (length line)) (length (b ∷ c ∷ line) - 1) last ∙ h in
    returns_behind b (c ∷ line)
    (ends_in (c ∷ line) (at_place (c ∷ line) (length (c ∷ line) - 1) (length line) there ∙ here))

is_13 : (b : ℕ) → (b == 13) ≡ true → b ≡ 13
is_13 b h = grind (arith, nat_tests, h)

kept_line : (line : List ℕ) → EndsOtherwise line → strip_carriage_return line ≡ line
kept_line line otherwise = by (slice_index line (length line - 1) == 13) refl
  where
    by : (returns : Bool) → (slice_index line (length line - 1) == 13) ≡ returns
        → (let l : List ℕ = cond returns (take (length line - 1) line) line in l) ≡ line
    by true is =
        let found = ends_in line (is_13 (slice_index line (length line - 1)) is) in
        absurd (otherwise found.front found.is)
    by false is = refl

-- a line with a CR behind it is the line, when that is taken off
stripped : (line : List ℕ) → strip_carriage_return (line ++ 13 ∷ []) ≡ line
stripped line = by line
  where
    ends : (l : List ℕ) → slice_index (l ++ 13 ∷ []) (length l) ≡ 13
    ends [] = refl
    ends (b ∷ l) = ends l

    front : (l : List ℕ) → take (length l) (l ++ 13 ∷ []) ≡ l
    front [] = refl
    front (b ∷ l) = ap (λ (ls : List ℕ). b ∷ ls) (front l)

    long : (l : List ℕ) → length (l ++ 13 ∷ []) - 1 ≡ length l
    long l = omega (arith, length-append l (13 ∷ []))

    by : (l : List ℕ) → strip_carriage_return (l ++ 13 ∷ []) ≡ l
    by l = ap (λ (n : ℕ). let r : List ℕ = cond (slice_index (l ++ 13 ∷ []) n == 13) (take n (l ++ 13 ∷ []))
        (l ++ 13 ∷ []) in r) (long l)
        ∙ ap (λ (b : ℕ). let r : List ℕ = cond (b == 13) (take (length l) (l ++ 13 ∷ [])) (l ++ 13 ∷ []) in r) (ends l)
        ∙ front l

without_more : (line : List ℕ) → IsWithout 10 line → IsWithout 10 (line ++ 13 ∷ [])
without_more line h = All-push (λ (b : ℕ). b ≢ 10) line 13 h (λ same. absurd (omega (arith, same)))

returned_line : (line rest : List ℕ) → IsWithout 10 line
    → lines_of (line ++ 13 ∷ 10 ∷ rest) ≡ line ∷ lines_of rest
returned_line line rest h =
    ap lines_of (sym (append_assoc line (13 ∷ []) (10 ∷ rest)))
    ∙ next_line (line ++ 13 ∷ []) rest (without_more line h)
    ∙ ap (λ (l : List ℕ). l ∷ lines_of rest) (stripped line)

lines_are_cut : LinesAreCut
lines_are_cut = record {
  none = refl;
  last = last_line;
  fed = λ line rest h otherwise.
      next_line line rest h ∙ ap (λ (l : List ℕ). l ∷ lines_of rest) (kept_line line otherwise);
  returned = returned_line;
}

-- the test for a space
abbrev spaces : ℕ → Bool
spaces b = b == 32

-- the parts that are not empty
abbrev kept_parts : List (List ℕ) → List (List ℕ)
kept_parts parts = filter (λ piece. not (length piece == 0)) parts

keeps_first : (text : List ℕ) (parts : List (List ℕ)) → text ≢ [] → kept_parts (text ∷ parts) ≡ text ∷ kept_parts parts
keeps_first text parts some =
    ap (λ (empty : Bool). let ps : List (List ℕ) = cond (not empty) (text ∷ kept_parts parts) (kept_parts parts) in ps)
    (some_length text some)

words_are_cut : WordsAreCut
words_are_cut = record {
  none = refl;
  space = λ line. refl;
  last = λ text h some. ap kept_parts (slice_split_none spaces text (passes_none 32 text h)) ∙ keeps_first text [] some;
  first = λ text line h some.
      ap kept_parts (slice_split_at spaces text 32 line (passes_none 32 text h) refl)
      ∙ keeps_first text (slice_split spaces line) some;
  place = λ words k. refl;
}

-- a line of spaces alone has no words
blank_none : (line : List ℕ) → All (λ b. b ≡ 32) line → words_of line ≡ []
blank_none [] h = refl
blank_none (b ∷ line) h =
    ap (λ (c : ℕ). words_of (c ∷ line)) (All-head (λ (b : ℕ). b ≡ 32) b line h)
    ∙ blank_none line (All-tail (λ (b : ℕ). b ≡ 32) b line h)

-- a line without words has spaces alone
none_blank : (line : List ℕ) → words_of line ≡ [] → All (λ b. b ≡ 32) line
none_blank [] h = All-nil (λ (b : ℕ). b ≡ 32)
none_blank (b ∷ line) h = by (b == 32) refl (λ none. none_blank line none) h
  where
    some : (parts : List (List ℕ)) → HasFirst parts → kept_parts (onto_first b parts) ≢ []
    some parts has none =
        let first : List ℕ = has.first in
        let more : List (List ℕ) = has.more in
        let whole : (b ∷ first) ∷ kept_parts more ≡ [] =
        sym (keeps_first (b ∷ first) more (λ empty. cc empty))
        ∙ ap (λ (ps : List (List ℕ)). kept_parts (onto_first b ps)) (sym has.is) ∙ none in
        cc whole

    is_32 : (b == 32) ≡ true → b ≡ 32
    is_32 is = grind (arith, nat_tests, is)

    by : (cuts : Bool) → (b == 32) ≡ cuts → (words_of line ≡ [] → All (λ b. b ≡ 32) line)
        → kept_parts (cond cuts ([] ∷ slice_split spaces line) (onto_first b (slice_split spaces line))) ≡ []
        → All (λ b. b ≡ 32) (b ∷ line)
    by true is rest none = All-cons (λ (b : ℕ). b ≡ 32) b line (is_32 is) (rest none)
    by false is rest none =
        absurd (some (slice_split spaces line) (split_has_first spaces line) none)

-- a line that has no words, or has some
no_words : (line : List ℕ) → (length (words_of line) == 0) ≡ true → words_of line ≡ []
no_words line h = by (words_of line) h
  where
    none : (n : ℕ) → (n == 0) ≡ true → n ≡ 0
    none n h = grind (arith, nat_tests, h)

    by : (ws : List (List ℕ)) → (length ws == 0) ≡ true → ws ≡ []
    by [] h = refl
    by (w ∷ ws) h = absurd (omega (arith, none (length (w ∷ ws)) h))

begins : (line : List ℕ) → (slice_index line 0 == 35) ≡ true → (rest : List ℕ) × (line ≡ 35 ∷ rest)
begins [] h = cc h
begins (b ∷ line) h = (line, ap (λ (c : ℕ). c ∷ line) (grind (arith, nat_tests, h)))

skipping_is_meant : SkippingIsMeant
skipping_is_meant line = (there, back)
  where
    there : is_skipped line ≡ true → ((rest : List ℕ) × (line ≡ 35 ∷ rest)) ⊎ All (λ b. b ≡ 32) line
    there h = by (slice_index line 0 == 35) refl (length (words_of line) == 0) refl h
      where
        by : (sign : Bool) → (slice_index line 0 == 35) ≡ sign → (none : Bool)
            → (length (words_of line) == 0) ≡ none → (sign || none) ≡ true
            → ((rest : List ℕ) × (line ≡ 35 ∷ rest)) ⊎ All (λ b. b ≡ 32) line
        by true is none are h = inl (begins line is)
        by false is true are h = inr (none_blank line (no_words line are))
        by false is false are h = cc h

    back : ((rest : List ℕ) × (line ≡ 35 ∷ rest)) ⊎ All (λ b. b ≡ 32) line → is_skipped line ≡ true
    back (inl (rest, is)) = ap is_skipped is
    back (inr blank) = by (slice_index line 0 == 35)
      where
        by : (sign : Bool) → (sign || (length (words_of line) == 0)) ≡ true
        by true = refl
        by false = ap (λ (ws : List (List ℕ)). length ws == 0) (blank_none line blank)

pub texts_are_cut : TextsAreCut
texts_are_cut = record { lines = lines_are_cut; words = words_are_cut; skipped = skipping_is_meant }
