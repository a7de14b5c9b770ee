use Rattle.std.proofs.Common.{◌≡◌, ℕ, ◌<◌, ◌==◌, Bool, true, false, cond, List, length, get_or, Option, Some, None}
use Rattle.std.proofs.Common.{position, refl, ap, sym, ◌∙◌, arith}
use Rattle.std.specs.List.{position_or_len}
use Rattle.std.specs.Prelude.{IfSome, nat_lt, slice_index}
use Rattle.std.proofs.lemmas.Bool.{eqb-true, le-ltb, lt-ltb}
use Rattle.std.proofs.lemmas.List.Sums.{position_or_len_is}
use Rattle.memchr.specs.Find.{IsFirstByte, is_byte}

not_passed : (b : Bool) → (b ≡ true → ⊥) → b ≡ false
not_passed true h = absurd (h refl)
not_passed false h = refl

-- a place in a text, and none behind its end
abbrev shown : List ℕ → ℕ → Option ℕ
shown text place = cond (nat_lt place (length text)) (Some place) None

-- the first LF that a search finds stands at its position
pub first_feed : (text : List ℕ) (found : Option ℕ) → IsFirstByte (is_byte 10) text found
    → found ≡ position (λ b. b == 10) text
first_feed text None none =
    let at : position_or_len (is_byte 10) text ≡ length text =
    position_or_len_is (is_byte 10) text (length text) 0 (omega arith)
    (λ k below. not_passed (is_byte 10 (get_or text k 0)) (none k (omega arith) below))
    (λ below. absurd (omega arith)) in
    sym (ap (shown text) at
    ∙ ap (λ b. cond b (Some (length text)) None) (le-ltb (length text) (length text) (omega arith)))
first_feed text (Some place) first =
    let at : position_or_len (is_byte 10) text ≡ place =
    position_or_len_is (is_byte 10) text place 0 (omega (arith, first.0.high))
    (λ k below. not_passed (is_byte 10 (get_or text k 0)) (first.0.before k (omega arith) below)) (λ _. first.1) in
    sym (ap (shown text) at ∙ ap (λ b. cond b (Some place) None) (lt-ltb place (length text) first.0.high))

-- it stands in the text, and is an LF
pub feed_is_within : (text : List ℕ) (found : Option ℕ) → IsFirstByte (is_byte 10) text found
    → IfSome found (λ place. (place < length text) × (slice_index text place ≡ 10))
feed_is_within text None none = tt
feed_is_within text (Some place) first = (first.0.high, eqb-true (get_or text place 0) 10 first.1)
