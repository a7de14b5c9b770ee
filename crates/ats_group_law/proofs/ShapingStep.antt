use Rattle.std.proofs.Common.{◌≡◌, ℕ, ◌+◌, ◌-◌, ◌*◌, ◌≤◌, Bool, true, false, cond, List, [], ◌∷◌, map, All, refl, ap}
use Rattle.std.proofs.Common.{◌∙◌, inl, inr, mul-le-mul_left, mul-le-mul_right, eq-eqb, mul_comm, arith}
use Rattle.std.specs.Prelude.{◌==◌, filter}
use Rattle.std.proofs.lemmas.Bool.{cases_lt}
use Rattle.std.proofs.lemmas.List.Elements.{All-head, All-tail}
use Rattle.ats_num.specs.declared.time.TheConstants.{PS_PER_SECOND}
use Rattle.ats_num.specs.Wire.{bits_of}
use Rattle.ats_bucket.specs.Conforming.{Frame}
use Rattle.ats_group_law.specs.Windows.{bits_within, KeepsWindows}
use Rattle.ats_group_law.specs.Full.{full_after}
use Rattle.ats_group_law.specs.Shaping.{Passage, frame_before, frames_before}
use Rattle.ats_group_law.proofs.WindowBits.{bits_in, bits_in-inside, bits_in-after, bits_within-cons}
use Rattle.ats_group_law.proofs.Push.{rate_over}

chosen : (b : Bool) (p : Passage) (ps : List Passage) (from to : ℕ)
    → bits_within (map frame_before (cond b (p ∷ ps) ps)) from to
    ≡ cond b (bits_in from to (frame_before p)) 0 + bits_within (map frame_before ps) from to
chosen true p ps from to = bits_within-cons (frame_before p) (map frame_before ps) from to
chosen false p ps from to = omega arith

-- one frame before the others, of the member and of another
pub before-cons : (member : ℕ) (p : Passage) (ps : List Passage) (from to : ℕ)
    → bits_within (frames_before member (p ∷ ps)) from to ≡ cond (p.offer.member
    == member) (bits_in from to (frame_before p)) 0 + bits_within (frames_before member ps) from to
before-cons member p ps from to =
    chosen (p.offer.member == member) p (filter (λ (p : Passage). p.offer.member == member) ps) from to

pub before-own : (p : Passage) (ps : List Passage) (from to : ℕ) → from ≤ p.since
    → p.since ≤ to → bits_within (frames_before p.offer.member (p ∷ ps)) from to
    ≡ bits_of p.offer.octets + bits_within (frames_before p.offer.member ps) from to
before-own p ps from to h k =
    let same : (p.offer.member == p.offer.member) ≡ true = eq-eqb p.offer.member p.offer.member refl in
    before-cons p.offer.member p ps from to
    ∙ ap (λ (b : Bool). cond b (bits_in from to (frame_before p)) 0
    + bits_within (frames_before p.offer.member ps) from to) same
    ∙ ap (λ (n : ℕ). n + bits_within (frames_before p.offer.member ps) from to)
    (bits_in-inside from to (frame_before p) h k)

pub before-fewer : (member : ℕ) (p : Passage) (ps : List Passage) (from to : ℕ)
    → bits_within (frames_before member ps) from to ≤ bits_within (frames_before member (p ∷ ps)) from to
before-fewer member p ps from to = let e = before-cons member p ps from to in omega arith

chosen-le : (b : Bool) (m n : ℕ) → m ≤ n → cond b m 0 ≤ cond b n 0
chosen-le true m n h = h
chosen-le false m n h = omega arith

from_on : (since to : ℕ) (p : Passage) → since ≤ p.since
    → bits_in 0 to (frame_before p) ≤ bits_in since to (frame_before p)
from_on since to p h = elim (cases_lt to p.since) [
  | inl k ↦ (let none = bits_in-after 0 to (frame_before p) k in omega arith)
  | inr k ↦
      (let early = bits_in-inside 0 to (frame_before p) (omega arith) k in
      let late = bits_in-inside since to (frame_before p) h k in
      omega arith)
]

-- where all were eligible from this time on, an earlier window holds no more
pub before-from : (member since to : ℕ) (ps : List Passage) → All (λ (p : Passage). since ≤ p.since) ps
    → bits_within (frames_before member ps) 0 to ≤ bits_within (frames_before member ps) since to
before-from member since to [] h = omega arith
before-from member since to (p ∷ ps) h =
    let rest = before-from member since to ps (All-tail (λ (p : Passage). since ≤ p.since) p ps h) in
    let head = All-head (λ (p : Passage). since ≤ p.since) p ps h in
    let early = before-cons member p ps 0 to in
    let late = before-cons member p ps since to in
    let both = chosen-le (p.offer.member == member) _ _ (from_on since to p head) in
    omega arith

-- the bucket-full time of a member, with its bits still to come that were eligible before by this time, leaves room for
-- them within the bound
abbrev pub HasRoom : ℕ → ℕ → ℕ → ℕ → List Frame → ℕ → Type 0
HasRoom rate burst bound full frames to =
    full + PS_PER_SECOND * bits_within frames 0 to ≤ rate * (to + bound) + PS_PER_SECOND * burst

-- at first
pub room-first : (rate burst bound to : ℕ) (frames : List Frame) → KeepsWindows rate burst frames
    → HasRoom rate burst bound 0 frames to
room-first rate burst bound to frames k =
    let w = k.within 0 to (omega arith) in
    let longer : to - 0 ≤ to + bound = omega arith in
    let more = mul-le-mul_left rate longer in
    omega arith

-- in numbers: a member's own frame, eligible again within the bound
own_room : (rate burst bound full since to eligible bits rest : ℕ) → since ≤ to → eligible ≤ since + bound
    → full + PS_PER_SECOND * (bits + rest) ≤ rate * (to + bound) + PS_PER_SECOND * burst
    → PS_PER_SECOND * (bits + rest) ≤ rate * (to - since) + PS_PER_SECOND * burst
    → full_after rate full eligible bits + PS_PER_SECOND * rest ≤ rate * (to + bound) + PS_PER_SECOND * burst
own_room rate burst bound full since to eligible bits rest h k f w =
    let over = rate_over rate since to h in
    let late = mul-le-mul_right rate k in
    omega arith

-- after a frame of the member
pub room-own : (rate burst bound full to eligible : ℕ) (p : Passage) (ps : List Passage)
    → p.since ≤ to → eligible ≤ p.since + bound → All (λ (q : Passage). p.since ≤ q.since) ps
    → KeepsWindows rate burst (frames_before p.offer.member (p ∷ ps))
    → HasRoom rate burst bound full (frames_before p.offer.member (p ∷ ps)) to → HasRoom rate burst bound
    (full_after rate full eligible (bits_of p.offer.octets)) (frames_before p.offer.member ps) to
room-own rate burst bound full to eligible p ps h k after windows room =
    let bits : ℕ = bits_of p.offer.octets in
    let rest : ℕ = bits_within (frames_before p.offer.member ps) 0 to in
    let all = before-own p ps 0 to (omega arith) h in
    let late = before-own p ps p.since to (omega arith) h in
    let same = before-from p.offer.member p.since to ps after in
    let window = windows.within p.since to h in
    own_room rate burst bound full p.since to eligible bits rest h k (rw all at room) (omega arith)

-- after a frame of another
pub room-other : (rate burst bound full to member : ℕ) (p : Passage) (ps : List Passage)
    → HasRoom rate burst bound full (frames_before member (p ∷ ps)) to
    → HasRoom rate burst bound full (frames_before member ps) to
room-other rate burst bound full to member p ps room = let fewer = before-fewer member p ps 0 to in omega arith

-- what the frame itself needs
pub room-needed : (rate burst bound full : ℕ) (p : Passage) (ps : List Passage)
    → HasRoom rate burst bound full (frames_before p.offer.member (p ∷ ps)) p.since
    → full + PS_PER_SECOND * bits_of p.offer.octets ≤ (p.since + bound) * rate + PS_PER_SECOND * burst
room-needed rate burst bound full p ps room =
    let all = before-own p ps 0 p.since (omega arith) (omega arith) in
    let flip = mul_comm rate (p.since + bound) in
    omega arith
