use Rattle.std.proofs.Common.{◌≡◌, ℕ, ◌+◌, ◌-◌, ◌≤◌, min, List, ◌++◌, length, take, drop, sym, ap, ◌∙◌, arith}
use Rattle.std.proofs.lemmas.List.{take-append-le, drop-append-le, take-append-drop, length-drop, length-take}
use Rattle.std.specs.Int.{w16, w32, from_le_bytes, from_be_bytes}
use Rattle.ats_pcap.specs.Numbers.{number16, number32}
use Rattle.ats_pcap.specs.declared.form.ByteOrder.{ByteOrder}
use Rattle.ats_pcap.specs.declared.form.ByteOrder.TheVariants.{LowFirst, HighFirst}

-- what is behind the bytes of a part that is all there doesn't change it
pub part-append : (count place : ℕ) (xs ys : List ℕ) → place + count ≤ length xs
    → take count (drop place (xs ++ ys)) ≡ take count (drop place xs)
part-append count place xs ys h =
    let known : length (drop place xs) ≡ length xs - place = length-drop place xs in
    let enough : count ≤ length (drop place xs) = omega (arith, known, h) in
    ap (take count) (drop-append-le place xs ys (omega (arith, h))) ∙ take-append-le count (drop place xs) ys enough

-- nor a number
pub number32-append : (order : ByteOrder) (place : ℕ) (xs ys : List ℕ) → place + 4 ≤ length xs
    → number32 order place (xs ++ ys) ≡ number32 order place xs
unfolding number32
number32-append LowFirst place xs ys h = ap (from_le_bytes w32) (part-append 4 place xs ys h)
number32-append HighFirst place xs ys h = ap (from_be_bytes w32) (part-append 4 place xs ys h)

pub number16-append : (order : ByteOrder) (place : ℕ) (xs ys : List ℕ) → place + 2 ≤ length xs
    → number16 order place (xs ++ ys) ≡ number16 order place xs
unfolding number16
number16-append LowFirst place xs ys h = ap (from_le_bytes w16) (part-append 2 place xs ys h)
number16-append HighFirst place xs ys h = ap (from_be_bytes w16) (part-append 2 place xs ys h)

-- what is the same however the bytes go on, once there are so many, is seen in the first of them
pub by_front : {A : Type 0} (f : List ℕ → A) (count : ℕ)
    → ((xs ys : List ℕ) → count ≤ length xs → f (xs ++ ys) ≡ f xs)
    → (n : ℕ) (xs : List ℕ) → count ≤ n → count ≤ length xs → f (take n xs) ≡ f xs
by_front f count stays n xs small there =
    let kept : length (take n xs) ≡ min n (length xs) = length-take n xs in
    let enough : count ≤ length (take n xs) = omega (arith, kept, small, there) in
    sym (stays (take n xs) (drop n xs) enough) ∙ ap f (take-append-drop n xs)
