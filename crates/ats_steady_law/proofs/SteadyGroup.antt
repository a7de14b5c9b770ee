use Rattle.std.proofs.Common.{◌≡◌, ℕ, zero, suc, ◌+◌, ◌*◌, ◌≤◌, Bool, true, max, List, ◌∷◌, map, refl, sym, ap, ◌∙◌}
use Rattle.std.proofs.Common.{arith}
use Rattle.std.specs.Prelude.{nat_le, if◌then◌else◌}
use Rattle.std.proofs.lemmas.Bool.Decides.{nat_tests}
use Rattle.ats_streams.specs.declared.traffic.Declared.{Declared}
use Rattle.ats_group.specs.Group.{Offer}
use Rattle.ats_group.specs.Judge.{ats_judge}
use Rattle.ats_group.specs.declared.verdict.Verdict.{Verdict}
use Rattle.ats_group.specs.declared.verdict.Verdict.TheVariants.{Eligible, Late}
use Rattle.ats_group_law.specs.Full.{FullState, full_eligibility, full_first, full_judged, full_state_by, full_verdicts}
use Rattle.ats_group_law.proofs.FullFold.{full_fold}
use Rattle.ats_group_law.proofs.FullStep.{full_eligibility-least, full_eligibility-only}
use Rattle.ats_trace.specs.Eligibility.{scheduled_by}
use Rattle.ats_legal_law.proofs.Rows.{row}
use Rattle.ats_steady_law.specs.Steady.{steady_line}

-- What the group behind the station judges of frames that come without a pause.

-- a frame as it comes there, and the verdict on it
abbrev pub offer_at : ℕ → Offer
offer_at k = record { member = 0; arrival = k * 672000 + 2172000; octets = 64 }

abbrev pub eligible_at : ℕ → Verdict
eligible_at k = Eligible (record { 0 = k * 672000 + 2172000 })

abbrev declared : ℕ → Declared
declared = scheduled_by steady_line 0

is_in_time : (a more : ℕ) → nat_le a (a + more) ≡ true
is_in_time a more = grind (arith, nat_tests)

-- by then the rate has given what the frames before took
judged_at : (state : FullState) (k : ℕ) → state.time ≤ k * 672000 + 2172000
    → state.full 0 ≤ (k * 672000 + 2172000) * 1000000000
    → full_judged declared 1000000 state (offer_at k) ≡ eligible_at k
judged_at state k time full =
    let a : ℕ = k * 672000 + 2172000 in
    let is = full_eligibility-least 1000000000 12336 (state.full 0) state.time a 672 (omega arith) in
    let holds : state.full 0 + 672000000000000 ≤ a * 1000000000 + 12336000000000000 = omega (arith, full) in
    let same : full_eligibility 1000000000 12336 (state.full 0) state.time a 672 ≡ a =
    full_eligibility-only 1000000000 12336 (state.full 0) state.time a 672
    (full_eligibility 1000000000 12336 (state.full 0) state.time a 672) a is
    (record { arrived = omega arith; after_group = time; bucket = holds; least = λ k later grouped bucket. later }) in
    ap (λ (e : ℕ). if nat_le e (a + 1000000000) then Eligible (record { 0 = e }) else Late (record { 0 = e })) same
    ∙ ap (λ (b : Bool). if b then Eligible (record { 0 = a }) else Late (record { 0 = a })) (is_in_time a 1000000000)

verdicts_are : (n k : ℕ) (state : FullState) → state.time ≤ k * 672000 + 2172000
    → state.full 0 ≤ (k * 672000 + 2172000) * 1000000000
    → full_verdicts declared 1000000 state (row offer_at k n) ≡ row eligible_at k n
verdicts_are zero k state time full = refl
verdicts_are (suc n) k state time full =
    let after : FullState = full_state_by declared state (offer_at k) (eligible_at k) in
    let fills : max (state.full 0) ((k * 672000 + 2172000) * 1000000000) + 672000000000000
    ≤ ((k + 1) * 672000 + 2172000) * 1000000000 = omega (arith, full) in
    let later : k * 672000 + 2172000 ≤ (k + 1) * 672000 + 2172000 = omega arith in
    ap (λ (v : Verdict). v ∷ full_verdicts declared 1000000 (full_state_by declared state (offer_at k) v)
    (row offer_at (k + 1) n)) (judged_at state k time full)
    ∙ ap (λ (vs : List Verdict). eligible_at k ∷ vs) (verdicts_are n (k + 1) after later fills)

-- each of them is eligible at its arrival
pub each_eligible : (n : ℕ) → row eligible_at 0 n ≡ ats_judge declared 1000000 (row offer_at 0 n)
each_eligible n =
    sym ((full_fold declared 1000000 (row offer_at 0 n)).verdicts
    ∙ verdicts_are n 0 full_first (omega arith) (omega arith))

pub map-row : {X Y : Type 0} (g : X → Y) (f : ℕ → X) (k n : ℕ) → map g (row f k n) ≡ row (λ (i : ℕ). g (f i)) k n
map-row g f k zero = refl
map-row {X} {Y} g f k (suc n) = ap (λ (ys : List Y). g (f k) ∷ ys) (map-row g f (k + 1) n)
