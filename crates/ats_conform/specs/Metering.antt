use Rattle.std.specs.Prelude.{◌≡◌, ℕ, ◌+◌, ◌*◌, ◌<◌, ◌≤◌, ℤ, pos, ◌-ℤ◌, ◌<ℤ◌, ◌≤ℤ◌, List, [], ◌∷◌, ◌++◌, length, map}
use Rattle.std.specs.Prelude.{slice_index}
use Rattle.ats_num.specs.declared.time.TheConstants.{PS_PER_SECOND}
use Rattle.ats_bucket.specs.Conforming.{Frame, bits_between, time_between}
use Rattle.ats_conform.specs.declared.meter.Metered.{Metered}

-- what a meter is: a rate in bits per second, a burst in bits, and the frames that it took
pub record Metering : Type 0 where
  pub rate : ℕ
  pub burst : ℕ
  pub taken : List Metered

-- a frame with this number, time and bits
abbrev pub metered : ℕ → ℕ → ℕ → Metered
metered frame at bits = record { frame = frame; at = record { 0 = at }; bits = bits }

-- a metered frame as a token bucket counts it
abbrev pub frame_in : Metered → Frame
frame_in m = record { at = m.at.0; bits = m.bits }

abbrev pub counted : List Metered → List Frame
counted frames = map frame_in frames

-- by how much the bits of the frames at the places i to j are more than a bucket of this rate and burst gives from the
-- one to the other, multiplied by the picoseconds of a second; not above 0 where the bucket gives them
abbrev pub excess : ℕ → ℕ → List Frame → ℕ → ℕ → ℤ
excess rate burst frames i j =
    pos (PS_PER_SECOND * bits_between frames i j)
    -ℤ pos (rate * time_between frames i j + PS_PER_SECOND * burst)

-- the frame at place j exceeds the bucket from the frame at place i on, by no less than from any other, and by
-- more than from any earlier one
pub record ExceedsFrom (rate burst : ℕ) (frames : List Frame) (j i : ℕ) : Type 0 where
  pub within : i ≤ j
  pub over : pos 0 <ℤ excess rate burst frames i j
  pub greatest : (k : ℕ) → k ≤ j → excess rate burst frames k j ≤ℤ excess rate burst frames i j
  pub earliest : (k : ℕ) → k < i → excess rate burst frames k j <ℤ excess rate burst frames i j

-- for a frame that comes after these a meter names the one with this number: the bucket is exceeded from it on
pub record Names (rate burst : ℕ) (earlier : List Metered) (next : Metered) (frame : ℕ) : Type 0 where
  pub place : ℕ
  pub number : slice_index (map (λ (m : Metered). m.frame) (earlier ++ next ∷ [])) place ≡ frame
  pub exceeds : ExceedsFrom rate burst (counted (earlier ++ next ∷ [])) (length earlier) place
