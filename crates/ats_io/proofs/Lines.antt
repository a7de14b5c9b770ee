use Rattle.std.proofs.Common.{◌≡◌, ℕ, ◌+◌, ◌-◌, ◌<◌, ◌≤◌, ◌≢◌, ◌==◌, Bool, List, [], ◌∷◌, length, take, drop}
use Rattle.std.proofs.Common.{slice_index, Some, None, position, refl, suc, zero, sym, ◌∙◌, ap, arith, length-drop}
use Rattle.std.proofs.Common.{length-take-le, get_or-take, get_or-drop}
use Rattle.std.specs.List.{slice_split, position_or_len, before_first, after_first, slice_range}
use Rattle.std.specs.Str.Lines.{lines, lines_of_parts, strip_carriage_return}
use Rattle.std.proofs.lemmas.Grind.{common_steps}
use Rattle.std.proofs.lemmas.List.{drop-drop, take_rest, take-take}
use Rattle.std.proofs.Math.Seq.{drop-length}
use Rattle.std.proofs.lemmas.List.Splits.{slice_split_first, length-slice_split}
use Rattle.std.proofs.lemmas.List.Sums.{prefix_len-le-length}

-- an LF
abbrev is_feed : ℕ → Bool
is_feed b = b == 10

-- a part before another one loses its CR
parts_step : (x : List ℕ) (parts : List (List ℕ)) → 0 < length parts
    → lines_of_parts (x ∷ parts) ≡ strip_carriage_return x ∷ lines_of_parts parts
parts_step x [] h = absurd (omega arith)
parts_step x (y ∷ more) h = refl

-- where no element passes, the list is the one part
split_whole : (p : ℕ → Bool) (xs : List ℕ) → position_or_len p xs ≡ length xs → slice_split p xs ≡ xs ∷ []
split_whole p [] h = refl
split_whole p (x ∷ xs) h = grind (arith, common_steps, split_whole p xs)

some_position : (xs : List ℕ) (n : ℕ) → position is_feed xs ≡ Some n
    → (position_or_len is_feed xs ≡ n) × (n < length xs)
some_position xs n h = grind (arith, common_steps)

no_position : (xs : List ℕ) → position is_feed xs ≡ None → position_or_len is_feed xs ≡ length xs
no_position xs h = grind (arith, common_steps, prefix_len-le-length)

-- the last line, without an LF
lines_last : (s : List ℕ) → position is_feed s ≡ None → 0 < length s → lines s ≡ s ∷ []
lines_last s h some = let parts : slice_split is_feed s ≡ s ∷ [] = split_whole is_feed s (no_position s h) in
    ap lines_of_parts parts ∙ grind (arith, common_steps)

-- the first line, before an LF
lines_at : (s : List ℕ) → position_or_len is_feed s < length s → lines s
    ≡ strip_carriage_return (take (position_or_len is_feed s) s) ∷ lines (drop (position_or_len is_feed s + 1) s)
lines_at s inside = ap lines_of_parts (slice_split_first is_feed s 0 inside) ∙ parts_step (before_first is_feed s)
    (slice_split is_feed (after_first is_feed s)) (omega (arith, length-slice_split is_feed (after_first is_feed s)))

lines_first : (s : List ℕ) (n : ℕ) → position is_feed s ≡ Some n
    → lines s ≡ strip_carriage_return (take n s) ∷ lines (drop (n + 1) s)
lines_first s n h = let both = some_position s n h in rw (← both.0) (lines_at s (omega (arith, both.0, both.1)))

strip_kept : (x : List ℕ) → slice_index x (length x - 1) ≢ 13 → strip_carriage_return x ≡ x
strip_kept x h = grind (arith, common_steps)

strip_cut : (x : List ℕ) → slice_index x (length x - 1) ≡ 13 → strip_carriage_return x ≡ take (length x - 1) x
strip_cut x h = grind (arith, common_steps)

-- the last byte of a line, before its LF
last_of : (text : List ℕ) (at n : ℕ) → at + n ≤ length text → 0 < n
    → slice_index (take n (drop at text)) (length (take n (drop at text)) - 1) ≡ slice_index text (at + n - 1)
last_of text at n inside some =
    let fits : n ≤ length (drop at text) = omega (arith, length-drop at text) in
    let size : length (take n (drop at text)) ≡ n = length-take-le n (drop at text) fits in
    let below : n - 1 < n = omega arith in
    let there : at + (n - 1) ≡ at + n - 1 = omega arith in
    ap (λ k. slice_index (take n (drop at text)) (k - 1)) size ∙ get_or-take n (drop at text) (n - 1) 0 below
    ∙ get_or-drop at text (n - 1) 0 ∙ ap (λ k. slice_index text k) there

zero_apart : (n : ℕ) → n ≡ 0 → n ≢ 13
zero_apart n h e = cc

not_cut : (text : List ℕ) (at n : ℕ) → at + n < length text → (0 < n → slice_index text (at + n - 1) ≢ 13)
    → slice_index (take n (drop at text)) (length (take n (drop at text)) - 1) ≢ 13
not_cut text at zero inside kept = zero_apart 0 refl
not_cut text at (suc n) inside kept =
    let last = last_of text at (suc n) (omega arith) (omega arith) in
    λ e. kept (omega arith) (sym last ∙ e)

-- the line before an LF, in places of the text
line_at_feed : (text : List ℕ) (at n : ℕ) → position is_feed (drop at text) ≡ Some n
    → lines (drop at text) ≡ strip_carriage_return (take n (drop at text)) ∷ lines (drop (at + n + 1) text)
line_at_feed text at n found =
    let there : at + (n + 1) ≡ at + n + 1 = omega arith in
    lines_first (drop at text) n found ∙ ap (λ rest. strip_carriage_return (take n (drop at text)) ∷ lines rest)
    (drop-drop (n + 1) at text ∙ ap (λ k. drop k text) there)

inside_of : (text : List ℕ) (at n : ℕ) → position is_feed (drop at text) ≡ Some n → at + n < length text
inside_of text at n found = omega (arith, some_position (drop at text) n found, length-drop at text)

-- the last line of a text
pub line_open : (text : List ℕ) (at : ℕ) → at < length text → position is_feed (drop at text) ≡ None
    → lines (drop at text) ≡ slice_range text at (length text) ∷ lines (drop (length text) text)
line_open text at h none =
    let some : 0 < length (drop at text) = omega (arith, length-drop at text) in
    rw (take_rest text at, drop-length text) (lines_last (drop at text) none some)

-- a line that ends before its LF
pub line_kept : (text : List ℕ) (at n : ℕ) → position is_feed (drop at text) ≡ Some n
    → (0 < n → slice_index text (at + n - 1) ≢ 13)
    → lines (drop at text) ≡ slice_range text at (at + n) ∷ lines (drop (at + n + 1) text)
line_kept text at n found kept =
    let whole : at + n - at ≡ n = omega arith in
    let strip : strip_carriage_return (take n (drop at text)) ≡ take n (drop at text) =
    strip_kept (take n (drop at text)) (not_cut text at n (inside_of text at n found) kept) in
    rw (whole, ← strip) (line_at_feed text at n found)

-- a line that ends before the CR that stands before its LF
pub line_cut : (text : List ℕ) (at n : ℕ) → position is_feed (drop at text) ≡ Some n
    → 0 < n → slice_index text (at + n - 1) ≡ 13
    → lines (drop at text) ≡ slice_range text at (at + n - 1) ∷ lines (drop (at + n + 1) text)
line_cut text at n found some cut =
    let shorter : at + n - 1 - at ≡ n - 1 = omega arith in
    let within : n - 1 ≤ n = omega arith in
    let inside : at + n ≤ length text = omega (arith, inside_of text at n found) in
    let fits : n ≤ length (drop at text) = omega (arith, length-drop at text) in
    let size : length (take n (drop at text)) ≡ n = length-take-le n (drop at text) fits in
    let strip : strip_carriage_return (take n (drop at text)) ≡ take (n - 1) (drop at text) =
    strip_cut (take n (drop at text)) (last_of text at n inside some ∙ cut)
    ∙ ap (λ k. take (k - 1) (take n (drop at text))) size ∙ take-take (n - 1) n (drop at text) within in
    rw (shorter, ← strip) (line_at_feed text at n found)
