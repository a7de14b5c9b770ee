use Rattle.std.proofs.Common.{◌≡◌, ℕ, ◌+◌, ◌-◌, ◌*◌, ◌≤◌, max, List, [], ◌∷◌, ◌++◌, length, All, refl, ap, inl, inr}
use Rattle.std.proofs.Common.{mul-le-mul_right, arith}
use Rattle.std.specs.List.Sorted.{IsNonDecreasingBy}
use Rattle.std.proofs.lemmas.Bool.{cases_lt}
use Rattle.std.proofs.lemmas.List.{get_or_append_left, get_or_push, length_push}
use Rattle.std.proofs.lemmas.List.Sums.{fold_push}
use Rattle.ats_num.specs.declared.time.TheConstants.{PS_PER_SECOND}
use Rattle.ats_bucket.specs.Conforming.{Frame}
use Rattle.ats_group_law.specs.Windows.{bits_within, ConformsByWindows}
use Rattle.ats_group_law.specs.Full.{full_after, full_time}
use Rattle.ats_group_law.proofs.Order.{by_frames, from_frames, order-push}
use Rattle.ats_group_law.proofs.WindowBits.{bits_in-inside, bits_in-before, bits_in-after, bits_within-push}
use Rattle.ats_group_law.proofs.WindowPieces.{bits_within-inside}
use Rattle.ats_group_law.proofs.WindowParts.{KeepsWindows-front}
use Rattle.ats_group_law.proofs.FullTime.{full_time-window, full_time-least}

-- the frames in front of one more are in order, and none is after it
pub order-front : (frames : List Frame) (f : Frame) → IsNonDecreasingBy (λ (f : Frame). f.at) (frames ++ f ∷ [])
    → IsNonDecreasingBy (λ (f : Frame). f.at) frames
order-front frames f o i j d h k =
    let size = length_push frames f in
    let at_i = get_or_append_left frames (f ∷ []) d i (omega arith) in
    let at_j = get_or_append_left frames (f ∷ []) d j k in
    rw (← at_i, ← at_j) (o i j d h (omega arith))

pub order-past : (frames : List Frame) (f : Frame) → IsNonDecreasingBy (λ (f : Frame). f.at) (frames ++ f ∷ [])
    → All (λ (x : Frame). x.at ≤ f.at) frames
order-past frames f o i d h =
    let size = length_push frames f in
    let at_i = get_or_append_left frames (f ∷ []) d i h in
    let at_last = get_or_push frames f d (length frames) refl in
    let le = o i (length frames) d (omega arith) (omega arith) in
    rw (← at_i) (rw at_last at le)

-- a rate, over the time of a window
pub rate_over : (rate from to : ℕ) → from ≤ to → rate * (to - from) + from * rate ≡ to * rate
rate_over rate from to h = let e : to ≡ (to - from) + from = omega arith in omega (arith, ap (λ (n : ℕ). n * rate) e)

-- in numbers: the bits of the window before and the bits of the frame, in a window that the frame is in
one_more : (rate burst from to at bits before full : ℕ) → from ≤ at → at ≤ to → bits ≤ burst
    → PS_PER_SECOND * before + from * rate ≤ max (from * rate) full → full + PS_PER_SECOND * bits
    ≤ at * rate + PS_PER_SECOND * burst → PS_PER_SECOND * (before + bits) ≤ rate * (to - from) + PS_PER_SECOND * burst
one_more rate burst from to at bits before full h k b w f =
    let over = rate_over rate from to (omega arith) in
    let late = mul-le-mul_right rate k in
    let early = mul-le-mul_right rate h in
    omega arith

-- frames conform with one more that comes no earlier, has no more bits than the burst, and that the bucket-full time of
-- the others allows
pub conforms_push : (rate burst : ℕ) (frames : List Frame) (f : Frame) → ConformsByWindows rate burst frames
    → All (λ (x : Frame). x.at ≤ f.at) frames → f.bits ≤ burst → full_time rate 0 frames + PS_PER_SECOND * f.bits
    ≤ f.at * rate + PS_PER_SECOND * burst → ConformsByWindows rate burst (frames ++ f ∷ [])
conforms_push rate burst frames f c past bits full = record {
  in_order = from_frames (frames ++ f ∷ []) (order-push frames f (by_frames frames c.in_order) past);
  windows = record {
    within = λ from to h. (
        let sum = bits_within-push frames f from to in
        let before = c.windows.within from to h in
        elim (cases_lt f.at from) [
          | inl k ↦ (let none = bits_in-before from to f k in omega arith)
          | inr k ↦ elim (cases_lt to f.at) [
            | inl l ↦ (let none = bits_in-after from to f l in omega arith)
            | inr l ↦
                (let all = bits_in-inside from to f k l in
                rw (sum, all) (one_more rate burst from to f.at f.bits (bits_within frames from to)
                (full_time rate 0 frames) k l bits (full_time-window rate 0 frames from to) full))
          ]
        ]);
  };
}

-- where frames conform with one more behind them
pub record PushParts (rate burst : ℕ) (frames : List Frame) (f : Frame) : Type 0 where
  pub front : ConformsByWindows rate burst frames
  pub past : All (λ (x : Frame). x.at ≤ f.at) frames
  pub bits : f.bits ≤ burst
  pub full : full_time rate 0 frames + PS_PER_SECOND * f.bits ≤ f.at * rate + PS_PER_SECOND * burst

one_less : (rate burst from to bits before : ℕ) → from ≤ to
    → PS_PER_SECOND * (before + bits) ≤ rate * (to - from) + PS_PER_SECOND * burst
    → PS_PER_SECOND * before + from * rate + PS_PER_SECOND * bits ≤ to * rate + PS_PER_SECOND * burst
one_less rate burst from to bits before h w = let over = rate_over rate from to h in omega arith

pub push_parts : (rate burst : ℕ) (frames : List Frame) (f : Frame) → ConformsByWindows rate burst (frames ++ f ∷ [])
    → PushParts rate burst frames f
push_parts rate burst frames f c =
    let o = by_frames (frames ++ f ∷ []) c.in_order in
    let past = order-past frames f o in
    let window : (from : ℕ) → from ≤ f.at
    → PS_PER_SECOND * (bits_within frames from f.at + f.bits) ≤ rate * (f.at - from) + PS_PER_SECOND * burst =
    λ from h. (
    let sum = bits_within-push frames f from f.at in
    let all = bits_in-inside from f.at f h (omega arith) in
    rw (sum, all) at (c.windows.within from f.at h)) in
    let whole = bits_within-inside frames 0 f.at (λ i d h. (omega arith, past i d h)) in
    record {
      front = record {
        in_order = from_frames frames (order-front frames f o);
        windows = KeepsWindows-front rate burst frames (f ∷ []) c.windows;
      };
      past = past;
      bits = (let here = window f.at (omega arith) in let none = rate_over rate f.at f.at (omega arith) in omega arith);
      full = full_time-least rate 0 (PS_PER_SECOND * f.bits) (f.at * rate + PS_PER_SECOND * burst) f.at frames
          (order-front frames f o) past
          (λ from h. one_less rate burst from f.at f.bits (bits_within frames from f.at) h (window from h))
          (let all = one_less rate burst 0 f.at f.bits (bits_within frames 0 f.at) (omega arith)
          (window 0 (omega arith)) in omega arith);
    }

-- the bucket-full time with one more
pub full_time-push : (rate full : ℕ) (frames : List Frame) (f : Frame)
    → full_time rate full (frames ++ f ∷ []) ≡ full_after rate (full_time rate full frames) f.at f.bits
full_time-push rate full frames f = fold_push (λ (full : ℕ) (f : Frame). full_after rate full f.at f.bits) full frames f
