use Rattle.std.proofs.Common.{◌≡◌, ℕ, ◌+◌, ◌-◌, ◌<◌, ◌≤◌, List, [], ◌∷◌, ◌++◌, length, map, take, drop, get_or, sum_by}
use Rattle.std.proofs.Common.{ap, ◌∙◌, arith}
use Rattle.std.proofs.lemmas.List.{map-append, length-map, get_or_append_left, get_or_at, take-append-le, take_all}
use Rattle.std.proofs.lemmas.List.{take-take, drop-take, length_push}
use Rattle.std.proofs.lemmas.List.Sums.{sum_by-take-drop, sum_by-take-le, sum_by_push}
use Rattle.std.specs.List.Sorted.{IsNonDecreasing}
use Rattle.ats_bucket.specs.Conforming.{Frame, times_of, bits_between, time_between}
use Rattle.ats_conform.specs.MeterInside.{time_at, bits_before}

-- the time of a frame stays when one comes after it
pub time-old : (frames : List Frame) (x : Frame) (k : ℕ) → k < length frames
    → time_at (frames ++ x ∷ []) k ≡ time_at frames k
time-old frames x k h =
    let time : Frame → ℕ = λ f. f.at in
    ap (λ (times : List ℕ). get_or times k 0) (map-append time frames (x ∷ []))
    ∙ get_or_append_left (map time frames) (x.at ∷ []) 0 k (omega (arith, length-map frames time))

pub time-new : (frames : List Frame) (x : Frame) → time_at (frames ++ x ∷ []) (length frames) ≡ x.at
time-new frames x =
    let time : Frame → ℕ = λ f. f.at in
    ap (λ (times : List ℕ). get_or times (length frames) 0) (map-append time frames (x ∷ []))
    ∙ get_or_at (map time frames) x.at [] 0 (length frames) (length-map frames time)

-- so do the bits before a place
pub bits-old : (frames : List Frame) (x : Frame) (k : ℕ) → k ≤ length frames
    → bits_before (frames ++ x ∷ []) k ≡ bits_before frames k
bits-old frames x k h = ap (sum_by (λ (f : Frame). f.bits)) (take-append-le k frames (x ∷ []) h)

pub bits-all : (frames : List Frame) → bits_before frames (length frames) ≡ sum_by (λ (f : Frame). f.bits) frames
bits-all frames = ap (sum_by (λ (f : Frame). f.bits)) (take_all (length frames) frames (omega arith))

pub bits-next : (frames : List Frame) (x : Frame)
    → bits_before (frames ++ x ∷ []) (length frames + 1) ≡ sum_by (λ (f : Frame). f.bits) frames + x.bits
bits-next frames x =
    ap (sum_by (λ (f : Frame). f.bits))
    (take_all (length frames + 1) (frames ++ x ∷ []) (omega (arith, length_push frames x)))
    ∙ sum_by_push (λ (f : Frame). f.bits) frames x

pub bits-most : (frames : List Frame) (k : ℕ) → bits_before frames k ≤ sum_by (λ (f : Frame). f.bits) frames
bits-most frames k = sum_by-take-le (λ (f : Frame). f.bits) frames k

-- bits before a place and from there to another one are those up to that
pub bits-split : (frames : List Frame) (i j : ℕ) → i ≤ j
    → bits_between frames i j + bits_before frames i ≡ bits_before frames (j + 1)
bits-split frames i j h =
    let bits : Frame → ℕ = λ f. f.bits in
    let parts : sum_by bits (take i (take (j + 1) frames)) + sum_by bits (drop i (take (j + 1) frames))
    ≡ sum_by bits (take (j + 1) frames) = sum_by-take-drop bits (take (j + 1) frames) i in
    let front : take i (take (j + 1) frames) ≡ take i frames = take-take i (j + 1) frames (omega arith) in
    let whole : j + 1 ≡ i + (j + 1 - i) = omega arith in
    let back : drop i (take (j + 1) frames) ≡ take (j + 1 - i) (drop i frames) =
    ap (λ (n : ℕ). drop i (take n frames)) whole ∙ drop-take i (j + 1 - i) frames in
    let front_bits : sum_by bits (take i (take (j + 1) frames)) ≡ bits_before frames i = ap (sum_by bits) front in
    let back_bits : sum_by bits (drop i (take (j + 1) frames)) ≡ bits_between frames i j = ap (sum_by bits) back in
    omega arith

-- in order, the time from one frame to a later one is what is missing
pub time-split : (frames : List Frame) (i j : ℕ) → IsNonDecreasing (times_of frames) → i ≤ j → j < length frames
    → time_at frames i + time_between frames i j ≡ time_at frames j
time-split frames i j sorted h within =
    let up : time_at frames i ≤ time_at frames j =
    sorted i j 0 h (omega (arith, length-map frames (λ (f : Frame). f.at))) in
    omega arith
