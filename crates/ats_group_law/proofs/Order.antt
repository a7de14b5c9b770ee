use Rattle.std.proofs.Common.{◌≡◌, ℕ, suc, ◌-◌, ◌<◌, ◌≤◌, List, [], ◌∷◌, ◌++◌, length, get_or, All, arith}
use Rattle.std.specs.List.Sorted.{IsNonDecreasing, IsNonDecreasingBy}
use Rattle.std.proofs.lemmas.List.{get_or-map, length-map}
use Rattle.std.proofs.lemmas.List.Sorted.{IsNonDecreasingBy-push}
use Rattle.ats_bucket.specs.Conforming.{Frame, times_of}

-- the time of the frame at a place
pub time_at-is : (frames : List Frame) (i : ℕ) (n : ℕ) (d : Frame) → i < length frames
    → get_or (times_of frames) i n ≡ (get_or frames i d).at
time_at-is frames i n d h = get_or-map (λ (f : Frame). f.at) frames i d n h

-- that times do not descend, said of the frames
pub by_frames : (frames : List Frame) → IsNonDecreasing (times_of frames)
    → IsNonDecreasingBy (λ (f : Frame). f.at) frames
by_frames frames o i j d h k =
    let a = time_at-is frames i 0 d (omega arith) in
    let b = time_at-is frames j 0 d k in
    let le = o i j 0 h (rw (length-map frames (λ (f : Frame). f.at)) k) in
    omega arith

pub from_frames : (frames : List Frame) → IsNonDecreasingBy (λ (f : Frame). f.at) frames
    → IsNonDecreasing (times_of frames)
from_frames frames o i j n h k =
    let within : j < length frames = rw (length-map frames (λ (f : Frame). f.at)) at k in
    let d : Frame = record { at = 0; bits = 0 } in
    let a = time_at-is frames i n d (omega arith) in
    let b = time_at-is frames j n d within in
    let le = o i j d h within in
    omega arith

-- the first frame and the others
pub order-head : (f : Frame) (fs : List Frame) → IsNonDecreasingBy (λ (f : Frame). f.at) (f ∷ fs)
    → All (λ (x : Frame). f.at ≤ x.at) fs
order-head f fs o i d h = o 0 (suc i) d (omega arith) (omega arith)

pub order-tail : (f : Frame) (fs : List Frame) → IsNonDecreasingBy (λ (f : Frame). f.at) (f ∷ fs)
    → IsNonDecreasingBy (λ (f : Frame). f.at) fs
order-tail f fs o i j d h k = o (suc i) (suc j) d (omega arith) (omega arith)

-- one frame behind the others, no earlier than any
pub order-push : (frames : List Frame) (f : Frame) → IsNonDecreasingBy (λ (f : Frame). f.at) frames
    → All (λ (x : Frame). x.at ≤ f.at) frames → IsNonDecreasingBy (λ (f : Frame). f.at) (frames ++ f ∷ [])
order-push frames f o past =
    IsNonDecreasingBy-push (λ (f : Frame). f.at) frames f o (λ d h. past (length frames - 1) d (omega arith))
