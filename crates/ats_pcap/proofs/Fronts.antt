use Rattle.std.proofs.Common.{◌≡◌, ℕ, ◌+◌, ◌-◌, ◌≤◌, min, List, ◌++◌, length, take, sym, ap, ◌∙◌, arith}
use Rattle.std.proofs.Common.{◌<◌, ◌⊎◌, inl, inr, append_assoc}
use Rattle.std.proofs.lemmas.Bool.{cases_lt}
use Rattle.std.proofs.Math.Seq.{take-append-add}
use Rattle.std.proofs.lemmas.List.{take_at, take_min, length-take, length-append, take-append-le}
use Rattle.std.proofs.lemmas.List.{take_all}

-- the first n bytes of a list whose front is kept, and of what comes behind it
pub take-append-more : (n : ℕ) (xs ys : List ℕ) → length xs ≤ n → take n (xs ++ ys) ≡ xs ++ take (n - length xs) ys
take-append-more n xs ys h =
    let more : n ≡ length xs + (n - length xs) = omega (arith, h) in
    ap (λ k. take k (xs ++ ys)) more ∙ take-append-add xs ys (n - length xs)

-- the bytes that are kept, with a further part behind them as far as there is room, are the first 32
pub extended : (kept part behind : List ℕ) (count room : ℕ) → length kept ≡ count → count ≤ 32
    → room ≡ min (length part) (32 - count)
    → take (count + room) (kept ++ (take room part ++ behind)) ≡ take 32 (kept ++ part)
extended kept part behind count room same few most =
    let of_room : length (take room part) ≡ min room (length part) = length-take room part in
    let both : length (kept ++ take room part) ≡ length kept + length (take room part) =
    length-append kept (take room part) in
    let fits : length (kept ++ take room part) ≡ count + room = omega (arith, of_room, both, same, most) in
    let joined : kept ++ (take room part ++ behind) ≡ (kept ++ take room part) ++ behind =
    sym (append_assoc kept (take room part) behind) in
    let swapped : room ≡ min (32 - length kept) (length part) = omega (arith, same, most) in
    let front : take room part ≡ take (32 - length kept) part =
    ap (λ k. take k part) swapped ∙ take_min (32 - length kept) part in
    ap (take (count + room)) joined ∙ take_at (kept ++ take room part) behind (count + room) fits
    ∙ ap (λ (ys : List ℕ). kept ++ ys) front ∙ sym (take-append-more 32 kept part (omega (arith, same, few)))

-- the first of some bytes and of a part are seen in the first of these bytes and in the part
pub front-append : (n : ℕ) (xs ys : List ℕ) → take n (take n xs ++ ys) ≡ take n (xs ++ ys)
front-append n xs ys = by (cases_lt (length xs) n)
  where
    by : (length xs < n) ⊎ (n ≤ length xs) → take n (take n xs ++ ys) ≡ take n (xs ++ ys)
    by (inl h) = ap (λ (zs : List ℕ). take n (zs ++ ys)) (take_all n xs (omega (arith, h)))
    by (inr h) =
        let kept : length (take n xs) ≡ min n (length xs) = length-take n xs in
        let whole : length (take n xs) ≤ n = omega (arith, kept) in
        take-append-le n (take n xs) ys (omega (arith, kept, h)) ∙ take_all n (take n xs) whole
        ∙ sym (take-append-le n xs ys h)
