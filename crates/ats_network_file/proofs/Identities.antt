use Rattle.std.proofs.Common.{◌≡◌, ℕ, ◌+◌, ◌*◌, ◌^◌, ◌<◌, ◌≤◌, Bool, true, false, ◌&&◌, cond, List, length, Option}
use Rattle.std.proofs.Common.{Some, None, refl, subst, arith}
use Rattle.std.specs.Prelude.{ℤ, pos, negsuc, nat_le, nat_lt, ◌==◌, slice_index, option_and_then}
use Rattle.std.specs.Char.{digit_value}
use Rattle.std.proofs.lemmas.Bool.{and_parts, ltb-true}
use Rattle.std.proofs.lemmas.Bool.Decides.{nat_tests}
use Rattle.toml.specs.Data.{Data, as_str, as_integer}
use Rattle.ats_network_table.specs.Kinds.{◌>>=◌, some_where, digit_at, pair_at, joined_at, two_more, address_of}
use Rattle.ats_network_table.specs.Kinds.{address_in}
use Rattle.ats_network_table.specs.Kinds.{ranged, whole_in}

-- The address and the VLAN identifier that a table may give are within their limits.

where_passed : {A : Type 0} (passes : Bool) (x y : A) → some_where passes x ≡ Some y → (passes ≡ true) × (x ≡ y)
where_passed true x y h = (refl, cc)
where_passed false x y h = cc

digit_below : (text : List ℕ) (k d : ℕ) → digit_at text k ≡ Some d → d < 16
digit_below text k d h =
    let v = digit_value (slice_index text k) in
    let parts : (nat_lt v 16 ≡ true) × (v ≡ d) = where_passed (nat_lt v 16) v d h in
    subst (λ (n : ℕ). n < 16) parts.1 (ltb-true v 16 parts.0)

-- what holds of a value holds of what comes of it
along : (P Q : ℕ → Type 0) (o : Option ℕ) (f : ℕ → Option ℕ) (n : ℕ) → ((x : ℕ) → o ≡ Some x → P x)
    → ((x : ℕ) → P x → f x ≡ Some n → Q n) → (o >>= f) ≡ Some n → Q n
along P Q None f n first then h = cc
along P Q (Some x) f n first then h = then x (first x refl) h

pair_below : (text : List ℕ) (k n : ℕ) → pair_at text k ≡ Some n → n < 256
pair_below text k n h =
    along (λ a. a < 16) (λ n. n < 256) (digit_at text k) (λ a. digit_at text (k + 1) >>= λ b. Some (a * 16 + b)) n
    (digit_below text k)
    (λ a high. along (λ b. b < 16) (λ n. n < 256) (digit_at text (k + 1)) (λ b. Some (a * 16 + b)) n
    (digit_below text (k + 1)) (λ b low is. let same : a * 16 + b ≡ n = cc in omega (arith, high, low, same))) h

joined_from : (joined : Bool) (pair : Option ℕ) → ((m : ℕ) → pair ≡ Some m → m < 256) → (n : ℕ)
    → cond joined pair None ≡ Some n → n < 256
joined_from true pair f n h = f n h
joined_from false pair f n h = cc

joined_below : (text : List ℕ) (k n : ℕ) → joined_at text k ≡ Some n → n < 256
joined_below text k n h = joined_from (slice_index text k == 58) (pair_at text (k + 1)) (pair_below text (k + 1)) n h

more_below : (text : List ℕ) (k high n : ℕ) → high < 256 → two_more text k high ≡ Some n → n < 16777216
more_below text k high n small h =
    along (λ a. a < 256) (λ n. n < 16777216) (joined_at text k)
    (λ a. joined_at text (k + 3) >>= λ b. Some ((high * 256 + a) * 256 + b)) n (joined_below text k)
    (λ a middle. along (λ b. b < 256) (λ n. n < 16777216) (joined_at text (k + 3))
    (λ b. Some ((high * 256 + a) * 256 + b)) n (joined_below text (k + 3))
    (λ b low is. let same : (high * 256 + a) * 256 + b ≡ n = cc in omega (arith, small, middle, low, same))) h

whole_below : (whole : Bool) (high low n : ℕ) → high < 16777216 → low < 16777216
    → some_where whole (high * 16777216 + low) ≡ Some n → n < 2 ^ 48
whole_below whole high low n above below h =
    let parts : (whole ≡ true) × (high * 16777216 + low ≡ n) = where_passed whole (high * 16777216 + low) n h in
    omega (arith, above, below, parts.1)

address_below : (text : List ℕ) (n : ℕ) → address_of text ≡ Some n → n < 2 ^ 48
address_below text n h =
    let whole : Bool = length text == 17 in
    let end : ℕ → ℕ → Option ℕ = λ high d. two_more text 11 d >>= λ low. some_where whole (high * 16777216 + low) in
    let rest : ℕ → Option ℕ = λ high. joined_at text 8 >>= end high in
    along (λ a. a < 256) (λ n. n < 2 ^ 48) (pair_at text 0) (λ a. two_more text 2 a >>= rest) n (pair_below text 0)
    (λ a first. along (λ high. high < 16777216) (λ n. n < 2 ^ 48) (two_more text 2 a) rest n
    (λ high is. more_below text 2 a high first is)
    (λ high above. along (λ d. d < 256) (λ n. n < 2 ^ 48) (joined_at text 8) (end high) n (joined_below text 8)
    (λ d fourth. along (λ low. low < 16777216) (λ n. n < 2 ^ 48) (two_more text 11 d)
    (λ low. some_where whole (high * 16777216 + low)) n (λ low is. more_below text 11 d low fourth is)
    (λ low below is. whole_below whole high low n above below is)))) h

address_among : (text : Option (List ℕ)) (n : ℕ) → (text >>= address_of) ≡ Some n → n < 2 ^ 48
address_among None n h = cc
address_among (Some text) n h = address_below text n h

-- a value that is an address
pub address_kept : (value : Option Data) (n : ℕ) → option_and_then address_in value ≡ Some n → n < 2 ^ 48
address_kept None n h = cc
address_kept (Some d) n h = address_among (as_str d) n h

within_range : (least most m n : ℕ) → some_where (nat_le least m && nat_le m most) m ≡ Some n → (least ≤ n) × (n ≤ most)
within_range least most m n h =
    let parts : ((nat_le least m && nat_le m most) ≡ true) × (m ≡ n) =
    where_passed (nat_le least m && nat_le m most) m n h in
    let both : (nat_le least m ≡ true) × (nat_le m most ≡ true) = and_parts (nat_le least m) (nat_le m most) parts.0 in
    subst (λ (k : ℕ). (least ≤ k) × (k ≤ most)) parts.1 (test least m both.0, test m most both.1)
  where
    test : (a b : ℕ) → nat_le a b ≡ true → a ≤ b
    test a b h = grind (arith, nat_tests)

whole_among : (least most : ℕ) (value : Option ℤ) (n : ℕ) → (value >>= ranged least most) ≡ Some n
    → (least ≤ n) × (n ≤ most)
whole_among least most None n h = cc
whole_among least most (Some (pos m)) n h = within_range least most m n h
whole_among least most (Some (negsuc m)) n h = cc

-- a value that is a whole number of a range
pub whole_kept : (least most : ℕ) (value : Option Data) (n : ℕ) → option_and_then (whole_in least most) value ≡ Some n
    → (least ≤ n) × (n ≤ most)
whole_kept least most None n h = cc
whole_kept least most (Some d) n h = whole_among least most (as_integer d) n h
