use Rattle.std.proofs.Common.{◌≡◌, ℕ, ◌+◌, ◌*◌, ◌≤◌, max, Bool, cond, List, [], ◌∷◌, sum_by, All, ap, inl, inr}
use Rattle.std.proofs.Common.{mul-le-mul_right, arith}
use Rattle.std.specs.List.Sorted.{IsNonDecreasingBy}
use Rattle.std.proofs.lemmas.Bool.{cases_Bool}
use Rattle.std.proofs.lemmas.List.Sums.{sum_by-cons}
use Rattle.std.proofs.lemmas.List.Elements.{All-head, All-tail, All-cons}
use Rattle.ats_num.specs.declared.time.TheConstants.{PS_PER_SECOND}
use Rattle.ats_bucket.specs.Conforming.{Frame}
use Rattle.ats_group_law.specs.Windows.{is_within, bits_within}
use Rattle.ats_group_law.specs.Full.{full_after, full_time}
use Rattle.ats_group_law.proofs.Order.{order-head, order-tail}
use Rattle.ats_group_law.proofs.WindowBits.{bits_in, within-parts, bits_in-inside, bits_within-cons, bits_within-le}
use Rattle.ats_group_law.proofs.WindowPieces.{bits_within-inside}

-- the bits of all these frames
abbrev pub all_bits : List Frame → ℕ
all_bits frames = sum_by (λ (f : Frame). f.bits) frames

all_bits-cons : (f : Frame) (fs : List Frame) → all_bits (f ∷ fs) ≡ f.bits + all_bits fs
all_bits-cons f fs = sum_by-cons (λ (f : Frame). f.bits) f fs

-- each frame makes the bucket full later by its bits at the least
pub full_time-keeps : (rate full : ℕ) (frames : List Frame)
    → full + PS_PER_SECOND * all_bits frames ≤ full_time rate full frames
full_time-keeps rate full [] = omega arith
full_time-keeps rate full (f ∷ fs) =
    let rest = full_time-keeps rate (full_after rate full f.at f.bits) fs in
    let sum = all_bits-cons f fs in
    omega arith

-- one frame and those after it
inside_more : (rate full from : ℕ) (f : Frame) (rest all : ℕ) → from ≤ f.at → rest ≤ all
    → (whole : ℕ) → full_after rate full f.at f.bits + PS_PER_SECOND * all ≤ whole
    → PS_PER_SECOND * (f.bits + rest) + from * rate ≤ whole
inside_more rate full from f rest all h r whole w = let at = mul-le-mul_right rate h in omega arith

-- the bits of a window, from its beginning on, make the bucket full at this time at the earliest
pub full_time-window : (rate full : ℕ) (frames : List Frame) (from to : ℕ)
    → PS_PER_SECOND * bits_within frames from to + from * rate ≤ max (from * rate) (full_time rate full frames)
full_time-window rate full [] from to = omega arith
full_time-window rate full (f ∷ fs) from to =
    let later : ℕ = full_after rate full f.at f.bits in
    let whole : ℕ = full_time rate later fs in
    let sum = bits_within-cons f fs from to in
    let rest : PS_PER_SECOND * bits_within fs from to + from * rate ≤ max (from * rate) whole =
    full_time-window rate later fs from to in
    elim (cases_Bool (is_within from to f)) [
      | inl e ↦
          (let p = within-parts from to f e in
          let one = bits_in-inside from to f p.0 p.1 in
          let more = inside_more rate full from f (bits_within fs from to) (all_bits fs) p.0 (bits_within-le fs from to)
          whole (full_time-keeps rate later fs) in
          omega arith)
      | inr e ↦ (let none : bits_in from to f ≡ 0 = ap (λ (b : Bool). cond b f.bits 0) e in omega arith)
    ]

-- and at no later time than these windows allow: `more` bits behind them, by the time `limit`
pub full_time-least : (rate full more limit to : ℕ) (frames : List Frame)
    → IsNonDecreasingBy (λ (f : Frame). f.at) frames → All (λ (f : Frame). f.at ≤ to) frames
    → ((from : ℕ) → from ≤ to → PS_PER_SECOND * bits_within frames from to + from * rate + more ≤ limit)
    → full + PS_PER_SECOND * all_bits frames + more ≤ limit → full_time rate full frames + more ≤ limit
full_time-least rate full more limit to [] o past windows h = omega arith
full_time-least rate full more limit to (f ∷ fs) o past windows h =
    let head = All-head (λ (f : Frame). f.at ≤ to) f fs past in
    let tail = All-tail (λ (f : Frame). f.at ≤ to) f fs past in
    let after = order-head f fs o in
    let inside = bits_within-inside (f ∷ fs) f.at to
    (All-cons (λ (x : Frame). (f.at ≤ x.at) × (x.at ≤ to)) f fs (omega arith, head)
    (λ i d k. (after i d k, tail i d k))) in
    let at_first = windows f.at head in
    let sum = all_bits-cons f fs in
    full_time-least rate (full_after rate full f.at f.bits) more limit to fs (order-tail f fs o) tail
    (λ from k. (
    let part = bits_within-cons f fs from to in
    let whole = windows from k in
    omega arith))
    (omega arith)
