-- A text is cut into words by its blanks and ends of lines, in one way.
use Rattle.std.proofs.Common.{◌≡◌, ◌∙◌, ℕ, Bool, true, false, List, [], ◌∷◌, ◌++◌, refl, sym, ap}
use Rattle.std.proofs.Common.{arith}
use Rattle.std.specs.Prelude.{◌==◌, ◌||◌, ◌&&◌, IsTrue, nat_le, length, decimal}
use Rattle.std.specs.List.{list_all}
use Rattle.std.specs.Str.Parse.{AllDigits, digits_value}
use Rattle.std.specs.Int.{IsInRange}
use Rattle.std.proofs.lemmas.Bool.{and_parts, false≢true, ne_eqb}
use Rattle.std.proofs.lemmas.Str.Parse.{digit_from_value}
use Rattle.std.proofs.lemmas.Fmt.{decimal_is_IsNumeral_wide}
use Rattle.ats_num.specs.Name.{is_name, is_name_byte}
use Rattle.ats_text_law.specs.Short.{IsShort}

-- a blank, or the end of a line
abbrev pub is_end : ℕ → Bool
is_end c = c == 32 || c == 10

-- a text without any of these
abbrev pub IsWord : List ℕ → Type 0
IsWord [] = Unit {0}
IsWord (c ∷ a) = (is_end c ≡ false) × IsWord a

-- what stands behind a word: a text that begins with one of them
abbrev pub IsBehind : List ℕ → Type 0
IsBehind [] = ⊥
IsBehind (c ∷ a) = is_end c ≡ true

-- two words, and what stands behind them
pub record AreCut (a x b y : List ℕ) : Type 0 where
  pub word : a ≡ x
  pub rest : b ≡ y

longer : (c : ℕ) (a b y : List ℕ) → is_end c ≡ false → IsBehind y → (c ∷ a) ++ b ≡ y → ⊥
longer c a b [] p h e = h
longer c a b (d ∷ y) p h e =
    let same : c ≡ d = cc e in
    false≢true (sym p ∙ ap is_end same ∙ h)

-- where two words with something behind them make one text, the words are the same, and so is what stands behind
pub cut : (a x b y : List ℕ) → IsWord a → IsWord x → IsBehind b → IsBehind y → a ++ b ≡ x ++ y → AreCut a x b y
cut [] [] b y p q h k e = record { word = refl; rest = e }
cut [] (d ∷ x) b y p q h k e = absurd (longer d x y b q.0 h (sym e))
cut (c ∷ a) [] b y p q h k e = absurd (longer c a b y p.0 k e)
cut (c ∷ a) (d ∷ x) b y p q h k e =
    let same : c ≡ d = cc e in
    let tails : a ++ b ≡ x ++ y = cc e in
    let more = cut a x b y p.1 q.1 h k tails in
    record { word = rw (same, more.word) refl; rest = more.rest }

-- digits are no blanks
digits_word : (ds : List ℕ) → AllDigits 10 ds → IsWord ds
digits_word [] all = tt
digits_word (c ∷ ds) all =
    let range : IsInRange 48 57 c = digit_from_value c all.0 in
    let blank : (c == 32) ≡ false = ne_eqb c 32 λ e. absurd (omega (arith, e, range)) in
    let line : (c == 10) ≡ false = ne_eqb c 10 λ e. absurd (omega (arith, e, range)) in
    (rw (blank, line) refl, digits_word ds all.1)

-- so a decimal number is a word
pub decimal_word : (n : ℕ) → IsShort n → IsWord (decimal n)
decimal_word n short = digits_word (decimal n) (decimal_is_IsNumeral_wide n short).0.1

-- and numbers whose decimals are the same are the same
pub decimal_tells : (m n : ℕ) → IsShort m → IsShort n → decimal m ≡ decimal n → m ≡ n
decimal_tells m n short brief e =
    sym (decimal_is_IsNumeral_wide m short).1 ∙ ap (digits_value 10) e ∙ (decimal_is_IsNumeral_wide n brief).1

no_name : (c k : ℕ) → is_name_byte k ≡ false → is_name_byte c ≡ true → c ≡ k → ⊥
no_name c k none byte e = false≢true (sym none ∙ ap is_name_byte (sym e) ∙ byte)

name_byte_word : (c : ℕ) → is_name_byte c ≡ true → is_end c ≡ false
name_byte_word c byte =
    let blank : (c == 32) ≡ false = ne_eqb c 32 (no_name c 32 refl byte) in
    let line : (c == 10) ≡ false = ne_eqb c 10 (no_name c 10 refl byte) in
    rw (blank, line) refl

bytes_word : (text : List ℕ) → list_all is_name_byte text ≡ true → IsWord text
bytes_word [] h = tt
bytes_word (c ∷ text) h =
    let parts = and_parts (is_name_byte c) (list_all is_name_byte text) h in
    (name_byte_word c parts.0, bytes_word text parts.1)

-- a name is a word
pub name_word : (text : List ℕ) → IsTrue (is_name text) → IsWord text
name_word text h =
    bytes_word text (and_parts (nat_le 1 (length text) && nat_le (length text) 32) (list_all is_name_byte text) h).1

-- two numbers with something behind them
pub record AreNumbers (m n : ℕ) (b y : List ℕ) : Type 0 where
  pub number : m ≡ n
  pub rest : b ≡ y

-- where two numbers with something behind them make one text, the numbers are the same, and so is what stands behind
pub cut_numbers : (m n : ℕ) (b y : List ℕ) → IsShort m → IsShort n → IsBehind b → IsBehind y
    → decimal m ++ b ≡ decimal n ++ y → AreNumbers m n b y
cut_numbers m n b y short brief h k e =
    let parts = cut (decimal m) (decimal n) b y (decimal_word m short) (decimal_word n brief) h k e in
    record { number = decimal_tells m n short brief parts.word; rest = parts.rest }

-- two words together are one
pub word_append : (a b : List ℕ) → IsWord a → IsWord b → IsWord (a ++ b)
word_append [] b p q = q
word_append (c ∷ a) b p q = (p.0, word_append a b p.1 q)
