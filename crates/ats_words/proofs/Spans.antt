-- Spans that cut the words out of a line.
use Rattle.std.proofs.Common.{◌≡◌, ℕ, zero, suc, ◌+◌, ◌<◌, ◌≤◌, ◌⊎◌, List, [], ◌∷◌, ◌++◌, length, map, take}
use Rattle.std.proofs.Common.{drop, set, get_or, slice_range, min, refl, sym, ap, ◌∙◌, inl, inr, arith}
use Rattle.std.proofs.Common.{append_assoc, append-nil, length-take, length-take-le, take_all, take_at, eqb}
use Rattle.std.proofs.lemmas.List.{take_more_set, map-append, length-map}
use Rattle.std.proofs.lemmas.Bool.{eq-eqb, ne_eqb, cases_eq}
use Rattle.std.proofs.Math.Seq.{drop-length}
use Rattle.ats_io.specs.Text.{words_of}
use Rattle.ats_words.specs.Words.{word}
use Rattle.ats_words.specs.Spans.{piece, AreSpans}
use Rattle.ats_words.specs.declared.word_line.Span.{Span}

-- the words that are cut out, and those of what is left, are the words of the line
abbrev pub CutSoFar : List ℕ → List Span → ℕ → ℕ → Type 0
CutSoFar line spans count at = map (piece line) (take count spans) ++ words_of (drop at line) ≡ words_of line

-- one more word is cut out
pub cut_more : (line : List ℕ) (spans : List Span) (count at end next : ℕ) → count < length spans
    → CutSoFar line spans count at
    → words_of (drop at line) ≡ slice_range line at end ∷ words_of (drop end line)
    → words_of (drop end line) ≡ words_of (drop next line)
    → CutSoFar line (set spans count (record { begin = at; end = end })) (count + 1) next
cut_more line spans count at end next room so_far found passed =
    let span : Span = record { begin = at; end = end } in
    let front : List (List ℕ) = map (piece line) (take count spans) in
    let rest : List (List ℕ) = words_of (drop next line) in
    ap (λ ss. map (piece line) ss ++ rest) (take_more_set spans count span room)
    ∙ ap (λ ws. ws ++ rest) (map-append (piece line) (take count spans) (span ∷ []))
    ∙ append_assoc front (slice_range line at end ∷ []) rest
    ∙ ap (λ ws. front ++ (slice_range line at end ∷ ws)) (sym passed)
    ∙ ap (λ ws. front ++ ws) (sym found) ∙ so_far

-- a front with nothing behind it, or of full length, is the front of all
front_is : (n : ℕ) (front rest whole : List (List ℕ)) → front ++ rest ≡ whole → length front ≤ n
    → (rest ≡ []) ⊎ (length front ≡ n) → front ≡ take n whole
front_is n front rest whole cut few (inl none) =
    let all : whole ≡ front = sym cut ∙ ap (λ ws. front ++ ws) none ∙ append-nil front in
    sym (take_all n front few) ∙ ap (take n) (sym all)
front_is n front rest whole cut few (inr full) = sym (take_at front rest n full) ∙ ap (take n) cut

size_of : (line : List ℕ) (spans : List Span) (count : ℕ) → count ≤ length spans
    → length (map (piece line) (take count spans)) ≡ count
size_of line spans count room =
    length-map (take count spans) (piece line) ∙ length-take-le count spans room

-- where the line has ended, all its words are cut out
pub all_cut : (line : List ℕ) (spans : List Span) (count : ℕ) → count ≤ 11 → length spans ≡ 11
    → CutSoFar line spans count (length line) → map (piece line) (take count spans) ≡ take 11 (words_of line)
all_cut line spans count few size so_far =
    let long = size_of line spans count (omega arith) in
    front_is 11 (map (piece line) (take count spans)) (words_of (drop (length line) line)) (words_of line) so_far
    (omega arith) (inl (ap words_of (drop-length line)))

-- where there is no more room, the first words are cut out
pub full_cut : (line : List ℕ) (spans : List Span) (at : ℕ) → length spans ≡ 11 → CutSoFar line spans 11 at
    → map (piece line) (take 11 spans) ≡ take 11 (words_of line)
full_cut line spans at size so_far =
    let long = size_of line spans 11 (omega arith) in
    front_is 11 (map (piece line) (take 11 spans)) (words_of (drop at line)) (words_of line) so_far
    (omega arith) (inr long)

-- the words of a front are those of the whole
word_take : (n : ℕ) (words : List (List ℕ)) (k : ℕ) → k < n → word (take n words) k ≡ word words k
word_take zero words k before = absurd (omega arith)
word_take (suc n) [] k before = refl
word_take (suc n) (w ∷ words) zero before = refl
word_take (suc n) (w ∷ words) (suc k) before = word_take n words k (omega arith)

word_past : (words : List (List ℕ)) (k : ℕ) → length words ≤ k → word words k ≡ []
word_past [] k past = refl
word_past (w ∷ words) zero past = absurd (omega arith)
word_past (w ∷ words) (suc k) past = word_past words k (omega arith)

word_map : (line : List ℕ) (spans : List Span) (count k : ℕ) (d : Span) → k < count → k < length spans
    → word (map (piece line) (take count spans)) k ≡ piece line (get_or spans k d)
word_map line [] count k d before within = absurd (omega arith)
word_map line (s ∷ spans) zero k d before within = absurd (omega arith)
word_map line (s ∷ spans) (suc count) zero d before within = refl
word_map line (s ∷ spans) (suc count) (suc k) d before within =
    word_map line spans count k d (omega arith) (omega arith)

-- a span cuts its word out
pub word_cut : (line : List ℕ) (spans : List Span) (count k : ℕ) (d : Span) → AreSpans line spans count
    → k < count → piece line (get_or spans k d) ≡ word (words_of line) k
word_cut line spans count k d are before =
    let few : count ≤ 11 = are.few in
    let room : length spans ≡ 11 = are.room in
    sym (word_map line spans count k d before (omega arith)) ∙ ap (λ ws. word ws k) are.words
    ∙ word_take 11 (words_of line) k (omega arith)

-- where no span is left, there is no word
pub no_word : (line : List ℕ) (spans : List Span) (count k : ℕ) → AreSpans line spans count → count ≤ k
    → k < 11 → [] ≡ word (words_of line) k
no_word line spans count k are past before =
    let few : count ≤ 11 = are.few in
    let room : length spans ≡ 11 = are.room in
    let long = size_of line spans count (omega arith) in
    sym (word_past (map (piece line) (take count spans)) k (omega arith)) ∙ ap (λ ws. word ws k) are.words
    ∙ word_take 11 (words_of line) k before

-- below the room for them, there are as many words as spans
pub words_counted : (line : List ℕ) (spans : List Span) (count n : ℕ) → AreSpans line spans count → n < 11
    → eqb count n ≡ eqb (length (words_of line)) n
words_counted line spans count n are below =
    let few : count ≤ 11 = are.few in
    let room : length spans ≡ 11 = are.room in
    let long = size_of line spans count (omega arith) in
    let least : count ≡ min 11 (length (words_of line)) =
    sym long ∙ ap length are.words ∙ length-take 11 (words_of line) in
    elim (cases_eq count n) [
      | inl e ↦ eq-eqb count n e ∙ sym (eq-eqb (length (words_of line)) n (omega arith))
      | inr differ ↦ ne_eqb count n differ ∙ sym (ne_eqb (length (words_of line)) n (λ e. differ (omega arith)))
    ]
