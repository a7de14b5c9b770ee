-- Names compare as the arrays do that hold them, and arrays by eight bytes at a time.
use Rattle.std.proofs.Common.{◌≡◌, ◌≢◌, ℕ, zero, suc, ◌+◌, ◌-◌, ◌*◌, ◌<◌, ◌≤◌, ◌^◌, ◌⊎◌, true, ◌&&◌, List, [], ◌∷◌}
use Rattle.std.proofs.Common.{◌++◌, length, get_or, take, drop, replicate, refl, sym, ap, subst, ◌∙◌, arith, inl, inr}
use Rattle.std.proofs.Common.{drop-drop, ap₂, mul-le-mul_right, pow-suc, nat_le, length-drop, get_or-drop}
use Rattle.std.specs.Int.{w64, from_be_bytes}
use Rattle.std.specs.List.{list_all}
use Rattle.std.specs.Ordering.{nat_cmp, ordering_then}
use Rattle.std.specs.declared.cmp.Ordering.{Ordering}
use Rattle.std.specs.declared.cmp.Ordering.TheVariants.{Less, Equal, Greater}
use Rattle.std.specs.Cmp.Lexicographic.{slice_cmp}
use Rattle.std.proofs.lemmas.Bool.{and_parts, cases_order, false≢true, leb-true}
use Rattle.std.proofs.lemmas.Bool.Decides.{nat_tests}
use Rattle.ats_num.specs.Name.{is_name_byte, padded, IsPadded}

below : (m n : ℕ) → m < n → nat_cmp m n ≡ Less
below m n h = grind (arith, nat_tests)

level : (m n : ℕ) → m ≡ n → nat_cmp m n ≡ Equal
level m n h = grind (arith, nat_tests)

above : (m n : ℕ) → n < m → nat_cmp m n ≡ Greater
above m n h = grind (arith, nat_tests)

then_assoc : (p q r : Ordering) → ordering_then (ordering_then p q) r ≡ ordering_then p (ordering_then q r)
then_assoc Less q r = refl
then_assoc Equal q r = refl
then_assoc Greater q r = refl

-- what differs decides
pub decided : (m n : ℕ) (rest : Ordering) → m ≢ n → ordering_then (nat_cmp m n) rest ≡ nat_cmp m n
decided m n rest differ =
    elim (cases_order m n) [
      | inl e ↦ absurd (differ e)
      | inr (inl l) ↦ ap (λ o. ordering_then o rest) (below m n l) ∙ sym (below m n l)
      | inr (inr g) ↦ ap (λ o. ordering_then o rest) (above m n g) ∙ sym (above m n g)
    ]

-- what is level leaves it to the rest
pub undecided : (m n : ℕ) (rest : Ordering) → m ≡ n → ordering_then (nat_cmp m n) rest ≡ rest
undecided m n rest e = ap (λ o. ordering_then o rest) (level m n e)

-- numbers with a high and a low part compare by the high parts first
by_parts : (p a b r s : ℕ) → r < p → s < p
    → nat_cmp (a * p + r) (b * p + s) ≡ ordering_then (nat_cmp a b) (nat_cmp r s)
by_parts p a b r s hr hs =
    elim (cases_order a b) [
      | inl e ↦ by_low (cases_order r s) e ∙ sym (undecided a b (nat_cmp r s) e)
      | inr (inl l) ↦
          below (a * p + r) (b * p + s) (omega (arith, steps a b l))
          ∙ sym (ap (λ o. ordering_then o (nat_cmp r s)) (below a b l))
      | inr (inr g) ↦
          above (a * p + r) (b * p + s) (omega (arith, steps b a g))
          ∙ sym (ap (λ o. ordering_then o (nat_cmp r s)) (above a b g))
    ]
  where
    steps : (m n : ℕ) → m < n → m * p + p ≤ n * p
    steps m n l = omega (arith, mul-le-mul_right p l)

    by_low : (r ≡ s) ⊎ ((r < s) ⊎ (s < r)) → a ≡ b → nat_cmp (a * p + r) (b * p + s) ≡ nat_cmp r s
    by_low (inl t) e = level (a * p + r) (b * p + s) (omega (arith, ap (λ n. n * p) e)) ∙ sym (level r s t)
    by_low (inr (inl t)) e = below (a * p + r) (b * p + s) (omega (arith, ap (λ n. n * p) e)) ∙ sym (below r s t)
    by_low (inr (inr t)) e = above (a * p + r) (b * p + s) (omega (arith, ap (λ n. n * p) e)) ∙ sym (above r s t)

abbrev pub AreBytes : List ℕ → Type 0
AreBytes xs = (k : ℕ) → get_or xs k 0 < 256

-- the number that n bytes write, the first of them the most significant
abbrev worth : ℕ → List ℕ → ℕ
worth zero xs = 0
worth (suc n) [] = 0
worth (suc n) (x ∷ xs) = x * 256 ^ n + worth n xs

worth_below : (n : ℕ) (xs : List ℕ) → AreBytes xs → worth n xs < 256 ^ n
worth_below zero xs small = omega arith
worth_below (suc n) [] small = pow_some (suc n)
  where
    pow_some : (k : ℕ) → 0 < 256 ^ k
    pow_some zero = omega arith
    pow_some (suc k) = omega (arith, pow_some k, pow-suc 256 k)
worth_below (suc n) (x ∷ xs) small =
    let least : x < 256 = small 0 in
    let most : x * 256 ^ n ≤ 255 * 256 ^ n = mul-le-mul_right (256 ^ n) (omega arith) in
    omega (arith, worth_below n xs (λ k. small (suc k)), pow-suc 256 n)

-- lists of bytes compare by their first n bytes as numbers, then by the rest
by_worth : (n : ℕ) (xs ys : List ℕ) → n ≤ length xs → n ≤ length ys → AreBytes xs → AreBytes ys
    → slice_cmp nat_cmp xs ys
    ≡ ordering_then (nat_cmp (worth n xs) (worth n ys)) (slice_cmp nat_cmp (drop n xs) (drop n ys))
by_worth zero xs ys in_xs in_ys bytes other = refl
by_worth (suc n) [] ys in_xs in_ys bytes other = absurd (omega arith)
by_worth (suc n) (x ∷ xs) [] in_xs in_ys bytes other = absurd (omega arith)
by_worth (suc n) (x ∷ xs) (y ∷ ys) in_xs in_ys bytes other =
    let rest : Ordering = slice_cmp nat_cmp (drop n xs) (drop n ys) in
    let tail : AreBytes xs = λ k. bytes (suc k) in
    let other_tail : AreBytes ys = λ k. other (suc k) in
    ap (ordering_then (nat_cmp x y)) (by_worth n xs ys (omega arith) (omega arith) tail other_tail)
    ∙ sym (then_assoc (nat_cmp x y) (nat_cmp (worth n xs) (worth n ys)) rest)
    ∙ sym (ap (λ o. ordering_then o rest) (by_parts (256 ^ n) x y (worth n xs) (worth n ys)
    (worth_below n xs tail) (worth_below n ys other_tail)))

-- eight bytes as a number of the program are worth this
eight : (xs : List ℕ) → 8 ≤ length xs → from_be_bytes w64 xs ≡ worth 8 xs
eight [] some = absurd (omega arith)
eight (a ∷ []) some = absurd (omega arith)
eight (a ∷ b ∷ []) some = absurd (omega arith)
eight (a ∷ b ∷ c ∷ []) some = absurd (omega arith)
eight (a ∷ b ∷ c ∷ d ∷ []) some = absurd (omega arith)
eight (a ∷ b ∷ c ∷ d ∷ e ∷ []) some = absurd (omega arith)
eight (a ∷ b ∷ c ∷ d ∷ e ∷ f ∷ []) some = absurd (omega arith)
eight (a ∷ b ∷ c ∷ d ∷ e ∷ f ∷ g ∷ []) some = absurd (omega arith)
eight (a ∷ b ∷ c ∷ d ∷ e ∷ f ∷ g ∷ h ∷ xs) some = omega arith

-- lists of bytes compare by their first word, then by the rest
by_word : (xs ys : List ℕ) → 8 ≤ length xs → 8 ≤ length ys → AreBytes xs → AreBytes ys
    → slice_cmp nat_cmp xs ys
    ≡ ordering_then (nat_cmp (from_be_bytes w64 xs) (from_be_bytes w64 ys)) (slice_cmp nat_cmp (drop 8 xs) (drop 8 ys))
by_word xs ys in_xs in_ys bytes other =
    by_worth 8 xs ys in_xs in_ys bytes other
    ∙ ap₂ (λ m n. ordering_then (nat_cmp m n) (slice_cmp nat_cmp (drop 8 xs) (drop 8 ys))) (sym (eight xs in_xs))
    (sym (eight ys in_ys))

some_byte : (c : ℕ) → is_name_byte c ≡ true → 0 < c
some_byte zero is = absurd (false≢true is)
some_byte (suc c) is = omega arith

zeros_level : (n : ℕ) → slice_cmp nat_cmp (replicate n 0) (replicate n 0) ≡ Equal
zeros_level zero = refl
zeros_level (suc n) = zeros_level n

-- zeros behind names do not change how they compare, where both become as long
with_zeros : (xs ys : List ℕ) (m n : ℕ) → list_all is_name_byte xs ≡ true → list_all is_name_byte ys ≡ true
    → length xs + m ≡ length ys + n
    → slice_cmp nat_cmp (xs ++ replicate m 0) (ys ++ replicate n 0) ≡ slice_cmp nat_cmp xs ys
with_zeros [] [] m n name other long =
    let same : m ≡ n = omega (arith, long) in
    ap (λ k. slice_cmp nat_cmp (replicate m 0) (replicate k 0)) (sym same) ∙ zeros_level m
with_zeros [] (y ∷ ys) zero n name other long = absurd (omega (arith, long))
with_zeros [] (y ∷ ys) (suc m) n name other long =
    let first = and_parts (is_name_byte y) (list_all is_name_byte ys) other in
    ap (λ o. ordering_then o (slice_cmp nat_cmp (replicate m 0) (ys ++ replicate n 0)))
    (below 0 y (some_byte y first.0))
with_zeros (x ∷ xs) [] m zero name other long = absurd (omega (arith, long))
with_zeros (x ∷ xs) [] m (suc n) name other long =
    let first = and_parts (is_name_byte x) (list_all is_name_byte xs) name in
    ap (λ o. ordering_then o (slice_cmp nat_cmp (xs ++ replicate m 0) (replicate n 0)))
    (above x 0 (some_byte x first.0))
with_zeros (x ∷ xs) (y ∷ ys) m n name other long =
    let first = and_parts (is_name_byte x) (list_all is_name_byte xs) name in
    let second = and_parts (is_name_byte y) (list_all is_name_byte ys) other in
    ap (ordering_then (nat_cmp x y)) (with_zeros xs ys m n first.1 second.1 (omega (arith, long)))

-- arrays that hold names compare as the names do
pub padded_cmp : (text other : List ℕ) (m n : ℕ) → IsPadded text m → IsPadded other n
    → slice_cmp nat_cmp text other ≡ slice_cmp nat_cmp (take m text) (take n other)
padded_cmp text other m n is it =
    let xs : List ℕ = take m text in
    let ys : List ℕ = take n other in
    let x = and_parts (nat_le 1 (length xs) && nat_le (length xs) 32) (list_all is_name_byte xs) is.name in
    let y = and_parts (nat_le 1 (length ys) && nat_le (length ys) 32) (list_all is_name_byte ys) it.name in
    let in_x : length xs ≤ 32 = most xs x.0 in
    let in_y : length ys ≤ 32 = most ys y.0 in
    ap (λ t. slice_cmp nat_cmp t other) is.whole ∙ ap (slice_cmp nat_cmp (padded xs)) it.whole
    ∙ with_zeros xs ys (32 - length xs) (32 - length ys) x.1 y.1 (omega arith)
  where
    most : (xs : List ℕ) → (nat_le 1 (length xs) && nat_le (length xs) 32) ≡ true → length xs ≤ 32
    most xs h = leb-true (length xs) 32 (and_parts (nat_le 1 (length xs)) (nat_le (length xs) 32) h).1

-- arrays whose words before a place are the same compare by the words at it, m and n, then by what is behind them
pub words_first : (xs ys : List ℕ) (place m n : ℕ) → place < 4 → length xs ≡ 32 → length ys ≡ 32 → AreBytes xs
    → AreBytes ys → m ≡ from_be_bytes w64 (drop (8 * place) xs) → n ≡ from_be_bytes w64 (drop (8 * place) ys)
    → slice_cmp nat_cmp (drop (8 * place) xs) (drop (8 * place) ys) ≡ slice_cmp nat_cmp xs ys
    → ordering_then (nat_cmp m n) (slice_cmp nat_cmp (drop (8 * (place + 1)) xs) (drop (8 * (place + 1)) ys))
    ≡ slice_cmp nat_cmp xs ys
words_first xs ys place m n before long other_long bytes other mine theirs same =
    let next : 8 * place + 8 ≡ 8 * (place + 1) = omega arith in
    let behind : (zs : List ℕ) → drop (8 * (place + 1)) zs ≡ drop 8 (drop (8 * place) zs) =
    λ zs. sym (drop-drop 8 (8 * place) zs ∙ ap (λ k. drop k zs) next) in
    ap₂ ordering_then (ap₂ nat_cmp mine theirs) (ap₂ (slice_cmp nat_cmp) (behind xs) (behind ys))
    ∙ sym (by_word (drop (8 * place) xs) (drop (8 * place) ys) (omega (arith, length-drop (8 * place) xs))
    (omega (arith, length-drop (8 * place) ys)) (left xs (8 * place) bytes) (left ys (8 * place) other)) ∙ same
  where
    left : (zs : List ℕ) (k : ℕ) → AreBytes zs → AreBytes (drop k zs)
    left zs k are = λ i. subst (λ b. b < 256) (sym (get_or-drop k zs i 0)) (are (k + i))
