use Rattle.std.proofs.Common.{◌≡◌, ℕ, ◌+◌, ◌≤◌, List, ◌++◌, length, take, drop, Result, Ok, Err, OnErr, sym, ◌∙◌, ap}
use Rattle.std.proofs.Common.{arith, length-append, length-take, length-take-le, take-append-drop}
use Rattle.std.proofs.lemmas.List.{take_all}
use Rattle.std.proofs.Math.Seq.{take-append-add}
use Rattle.ats_io.specs.Outside.{IsPieceAt}

-- two fronts in a row are one
pub take_two : (a b : ℕ) (xs : List ℕ) → a ≤ length xs → take (a + b) xs ≡ take a xs ++ take b (drop a xs)
take_two a b xs le =
    let size : length (take a xs) ≡ a = length-take-le a xs le in
    let both : take (length (take a xs) + b) (take a xs ++ drop a xs) ≡ take a xs ++ take b (drop a xs) =
    take-append-add (take a xs) (drop a xs) b in
    rw (size, take-append-drop a xs) at both

pub front_length : (bytes whole : List ℕ) → whole ≡ take (length whole) bytes → length whole ≤ length bytes
front_length bytes whole front = omega (arith, ap length front, length-take (length whole) bytes)

-- with the piece that stands behind it, a front of the bytes is a longer front
pub front_more : (bytes whole longer buffer : List ℕ) (at count : ℕ) → whole ≡ take (length whole) bytes
    → at ≡ length whole → IsPieceAt bytes at count buffer → longer ≡ whole ++ take count buffer
    → longer ≡ take (length longer) bytes
front_more bytes whole longer buffer at count front place piece joined =
    let size : length (take count (drop at bytes)) ≡ count = length-take-le count (drop at bytes) piece.within in
    let total : length longer ≡ length whole + count =
    omega (arith, ap length joined, length-append whole (take count buffer), ap length piece.piece, size) in
    joined ∙ ap (λ xs. whole ++ xs) piece.piece ∙ ap (λ k. whole ++ take count (drop k bytes)) place
    ∙ ap (λ xs. xs ++ take count (drop (length whole) bytes)) front
    ∙ sym (take_two (length whole) count bytes (front_length bytes whole front)) ∙ sym (ap (λ k. take k bytes) total)

-- a front that nothing stands behind is all
pub front_all : (bytes whole buffer : List ℕ) (at count : ℕ) → whole ≡ take (length whole) bytes → at ≡ length whole
    → count ≡ 0 → IsPieceAt bytes at count buffer → whole ≡ bytes
front_all bytes whole buffer at count front place none piece = let end : length bytes ≤ at = piece.ends none in
    let short : length bytes ≤ length whole = omega arith in front ∙ take_all (length whole) bytes short

-- what holds anyhow holds where there is an error
pub on_err : {T E P : Type 0} (r : Result T E) → P → OnErr r P
on_err (Ok x) p = tt
on_err (Err e) p = p
