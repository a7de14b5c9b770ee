use Rattle.std.proofs.Common.{◌≡◌, ℕ, ◌+◌, ◌*◌, max, Bool, true, false, refl, arith}
use Rattle.std.specs.Prelude.{ℤ, pos, ◌+ℤ◌, ◌-ℤ◌, ◌≤ℤ◌, ◌<ℤ◌, int_lt, if◌then◌else◌}
use Rattle.std.proofs.lemmas.Int.{ints}
use Rattle.ats_num.specs.declared.time.TheConstants.{PS_PER_SECOND}
use Rattle.ats_bucket.specs.Scheduler.{empty_after}

chosen : (b : Bool) (r s t : ℤ) → (b ≡ true → r ≡ s) → (b ≡ false → r ≡ t) → r ≡ (if b then s else t)
chosen true r s t x y = x refl
chosen false r s t x y = y refl

below : (a b : ℤ) → int_lt a b ≡ true → a <ℤ b
below a b h = grind (arith, ints)

not_below : (a b : ℤ) → int_lt a b ≡ false → b ≤ℤ a
not_below a b h = grind (arith, ints)

-- with plain numbers: at is the eligibility, taken the bits and saved the burst, each multiplied
while_filling : (full at taken saved : ℕ) (empty : ℤ) → empty ≡ pos full -ℤ pos saved → pos at <ℤ (empty +ℤ pos saved)
    → pos (max full at + taken) -ℤ pos saved ≡ empty +ℤ pos taken
while_filling full at taken saved empty e h = omega (arith, ints)

once_full : (full at taken saved : ℕ) (empty : ℤ) → empty ≡ pos full -ℤ pos saved → (empty +ℤ pos saved) ≤ℤ pos at
    → pos (max full at + taken) -ℤ pos saved ≡ empty +ℤ pos taken +ℤ pos at -ℤ (empty +ℤ pos saved)
once_full full at taken saved empty e h = omega (arith, ints)

-- the later of the bucket-full time and the eligibility, and the bits, less the burst
pub empty_after-is : (rate burst full eligible bits : ℕ) (empty : ℤ) → empty ≡ pos full -ℤ pos (PS_PER_SECOND * burst)
    → pos (max full (eligible * rate) + PS_PER_SECOND * bits) -ℤ pos (PS_PER_SECOND * burst)
    ≡ empty_after rate burst empty eligible bits
empty_after-is rate burst full eligible bits empty e =
    let at : ℕ = eligible * rate in
    let taken : ℕ = PS_PER_SECOND * bits in
    let saved : ℕ = PS_PER_SECOND * burst in
    chosen (int_lt (pos at) (empty +ℤ pos saved)) _ _ _
    (λ b. while_filling full at taken saved empty e (below _ _ b))
    (λ b. once_full full at taken saved empty e (not_below _ _ b))
