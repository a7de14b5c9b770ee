use Rattle.std.proofs.Common.{◌≡◌, ◌≢◌, ℕ, ◌+◌, ◌<◌, ◌≤◌, ◌==◌, Bool, true, false}
use Rattle.std.proofs.Common.{cond, if◌then◌else◌, List, [], ◌∷◌, ◌++◌}
use Rattle.std.proofs.Common.{length, map, filter, take, get_or, All, refl, ap, ◌∙◌, append-nil, arith}
use Rattle.std.proofs.lemmas.Bool.{eq-eqb, ne_eqb}
use Rattle.std.proofs.lemmas.List.{take_more, length-take-le, get_or-take, get_or-map, length-map}
use Rattle.std.proofs.lemmas.List.Elements.{All-nil, All-cons, All-head, All-tail}
use Rattle.std.specs.List.Sorted.{IsNonDecreasing}
use Rattle.ats_bucket.specs.Conforming.{Frame}
use Rattle.ats_trace.specs.Talker.{frame_of, frames_of}
use Rattle.ats_trace.specs.declared.journey.Release.{Release}
use Rattle.ats_conform.specs.declared.meter.Metered.{Metered}
use Rattle.ats_conform.specs.Metering.{counted}
use Rattle.ats_conform.specs.Releases.{no_release, release_at, metered_at, metered_from}

joined : (b : Bool) (m : Metered) (l a z : List Metered) → l ≡ a ++ z
    → (if b then m ∷ l else l) ≡ (if b then m ∷ a else a) ++ z
joined true m l a z e = ap (λ (t : List Metered). m ∷ t) e
joined false m l a z e = e

-- the frames of a sender among joined releases
metered-append : (i n : ℕ) (xs ys : List Release)
    → metered_from i n (xs ++ ys) ≡ metered_from i n xs ++ metered_from i (n + length xs) ys
metered-append i n [] ys = ap (λ (k : ℕ). metered_from i k ys) (omega arith)
metered-append i n (r ∷ xs) ys =
    let count : n + 1 + length xs ≡ n + length (r ∷ xs) = omega arith in
    joined (r.sender == i) (metered_at n r) (metered_from i (n + 1) (xs ++ ys)) (metered_from i (n + 1) xs)
    (metered_from i (n + length (r ∷ xs)) ys)
    (metered-append i (n + 1) xs ys
    ∙ ap (λ (k : ℕ). metered_from i (n + 1) xs ++ metered_from i k ys) count)

-- the frames of a sender among the first n + 1 releases
one_more : (i n : ℕ) (releases : List Release) → n < length releases
    → metered_from i 0 (take (n + 1) releases)
    ≡ metered_from i 0 (take n releases) ++ metered_from i n (release_at releases n ∷ [])
one_more i n releases h =
    let size : 0 + length (take n releases) ≡ n = omega (arith, length-take-le n releases (omega arith)) in
    ap (metered_from i 0) (take_more releases n no_release h)
    ∙ metered-append i 0 (take n releases) (release_at releases n ∷ [])
    ∙ ap (λ (k : ℕ). metered_from i 0 (take n releases) ++ metered_from i k (release_at releases n ∷ [])) size

-- with the last of them, where it is the sender's
pub metered-mine : (i n : ℕ) (releases : List Release) → n < length releases → (release_at releases n).sender ≡ i
    → metered_from i 0 (take (n + 1) releases)
    ≡ metered_from i 0 (take n releases) ++ metered_at n (release_at releases n) ∷ []
metered-mine i n releases h e =
    let m : Metered = metered_at n (release_at releases n) in
    one_more i n releases h
    ∙ ap (λ (b : Bool). metered_from i 0 (take n releases) ++ (if b then m ∷ [] else []))
    (eq-eqb (release_at releases n).sender i e)

-- and without it, where it is another's
pub metered-other : (i n : ℕ) (releases : List Release) → n < length releases → (release_at releases n).sender ≢ i
    → metered_from i 0 (take (n + 1) releases) ≡ metered_from i 0 (take n releases)
metered-other i n releases h e =
    let m : Metered = metered_at n (release_at releases n) in
    one_more i n releases h
    ∙ ap (λ (b : Bool). metered_from i 0 (take n releases) ++ (if b then m ∷ [] else []))
    (ne_eqb (release_at releases n).sender i e)
    ∙ append-nil (metered_from i 0 (take n releases))

-- a token bucket counts them as the releases of the sender
pub counted-frames : (i n : ℕ) (releases : List Release) → counted (metered_from i n releases) ≡ frames_of i releases
counted-frames i n [] = refl
counted-frames i n (r ∷ releases) =
    by (r.sender == i) (metered_from i (n + 1) releases) (filter (λ (s : Release). s.sender == i) releases)
    (counted-frames i (n + 1) releases)
  where
    by : (b : Bool) (l : List Metered) (rs : List Release) → counted l ≡ map frame_of rs
        → counted (if b then metered_at n r ∷ l else l) ≡ map frame_of (cond b (r ∷ rs) rs)
    by true l rs e = ap (λ (t : List Frame). frame_of r ∷ t) e
    by false l rs e = e

-- a sender has no more frames than there are releases
pub few : (i n : ℕ) (releases : List Release) → length (metered_from i n releases) ≤ length releases
few i n [] = omega arith
few i n (r ∷ releases) = by (r.sender == i) (metered_from i (n + 1) releases) (few i (n + 1) releases)
  where
    by : (b : Bool) (l : List Metered) → length l ≤ length releases
        → length (if b then metered_at n r ∷ l else l) ≤ length (r ∷ releases)
    by true l h = omega arith
    by false l h = omega arith

-- what holds of each release holds of each frame
metered-all : (P : Metered → Type 0) (Q : Release → Type 0) → ((n : ℕ) (r : Release) → Q r → P (metered_at n r))
    → (i n : ℕ) (releases : List Release) → All Q releases → All P (metered_from i n releases)
metered-all P Q is i n [] all = All-nil P
metered-all P Q is i n (r ∷ releases) all =
    by (r.sender == i) (metered_from i (n + 1) releases)
    (metered-all P Q is i (n + 1) releases (All-tail Q r releases all))
  where
    by : (b : Bool) (l : List Metered) → All P l → All P (if b then metered_at n r ∷ l else l)
    by true l h = All-cons P (metered_at n r) l (is n r (All-head Q r releases all)) h
    by false l h = h

-- none of the frames before a release is later
pub none_later : (i n : ℕ) (releases : List Release) → IsNonDecreasing (map (λ (r : Release). r.at.0) releases)
    → n < length releases
    → All (λ (m : Metered). m.at.0 ≤ (release_at releases n).at.0) (metered_from i 0 (take n releases))
none_later i n releases sorted h =
    let time : Release → ℕ = λ r. r.at.0 in
    let Early : Release → Type 0 = λ r. r.at.0 ≤ (release_at releases n).at.0 in
    let early : All Early (take n releases) = λ k d below. (
    let k_below : k < n = omega (arith, length-take-le n releases (omega arith)) in
    let at_k : get_or (map time releases) k 0 ≡ time (get_or releases k d) =
    get_or-map time releases k d 0 (omega arith) in
    let at_n : get_or (map time releases) n 0 ≡ time (release_at releases n) =
    get_or-map time releases n no_release 0 h in
    let up : get_or (map time releases) k 0 ≤ get_or (map time releases) n 0 =
    sorted k n 0 (omega arith) (omega (arith, length-map releases time)) in
    rw (get_or-take n releases k d k_below) (omega arith)) in
    metered-all (λ (m : Metered). m.at.0 ≤ (release_at releases n).at.0) Early (λ k r e. e) i 0 (take n releases) early
