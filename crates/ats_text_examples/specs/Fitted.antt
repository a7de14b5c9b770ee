use Rattle.std.specs.Prelude.{◌≡◌, ℕ, List, [], ◌∷◌, ◌++◌, codes, Option, Some, None}
use Rattle.ats_fit.specs.Over.{senders_over}
use Rattle.ats_fit.specs.declared.measured.Measured.{Measured}
use Rattle.ats_trace.specs.declared.journey.Release.{Release}
use Rattle.ats_fit_text.specs.Text.{IsFitText, fit_text}
use Rattle.ats_text_examples.specs.Runs.{release}
use Rattle.ats_text_examples.specs.Worked.{way}

-- What is printed of bursts and sizes over the worked network, whether they are those of releases or not.

-- of so many frames with octets from a least to a greatest, and this least burst; and of none
abbrev pub measured : ℕ → ℕ → ℕ → Option ℕ → Measured
measured frames least greatest burst =
    record { frames = frames; sizes = Some (record { least = least; greatest = greatest }); burst_bits = burst }

abbrev pub unmeasured : Option ℕ → Measured
unmeasured burst = record { frames = 0; sizes = None; burst_bits = burst }

-- both streams and the flow, the first over its burst
abbrev pub all : List Measured
all = measured 3 64 1000 (Some 9002) ∷ unmeasured (Some 0) ∷ measured 2 65 1400 None ∷ []

abbrev pub fitted : List ℕ
fitted =
    codes "stream u frames 3 octets 64 1000 burst 9002 of 9001\n"
    ++ codes "stream v frames 0 octets - - burst 0 of 10003\n"
    ++ codes "flow f frames 2 octets 65 1400\n"
    ++ codes "total frames 2 streams 2 over 1\n"

-- a frame of each, of a size that it does not declare: too long, too short, too long
abbrev pub undeclared : List Release
undeclared = release 0 0 1523 ∷ release 1 1 99 ∷ release 2 2 1401 ∷ []

abbrev pub undeclared_fitted : List ℕ
undeclared_fitted =
    codes "stream u frames 1 octets 1523 1523 burst 12344 of 9001\n"
    ++ codes "stream v frames 1 octets 99 99 burst 952 of 10003\n"
    ++ codes "flow f frames 1 octets 1401 1401\n"
    ++ codes "total frames 3 streams 2 over 3\n"

-- to `fit`; how many are over what they declare: a burst that is just the declared one is not, octets outside the
-- declared ones are, those of the flow too; and what is due to these frames, which count though their sizes are
-- undeclared
pub record FitsAreWritten : Type 0 where
  pub fit : fit_text way (release 1 0 64 ∷ release 2 0 1000 ∷ []) all ≡ fitted
  pub just : senders_over way (measured 3 64 1000 (Some 9001) ∷ measured 1 100 1200 (Some 10003)
      ∷ measured 2 64 1400 None ∷ []) ≡ 0
  pub least : senders_over way (measured 3 63 1000 (Some 9001) ∷ measured 1 99 1200 (Some 10003)
      ∷ measured 2 64 1400 None ∷ []) ≡ 2
  pub greatest : senders_over way (measured 3 64 1001 (Some 9001) ∷ measured 1 100 1201 (Some 10004)
      ∷ measured 2 64 1401 None ∷ []) ≡ 3
  pub any_size : IsFitText way undeclared undeclared_fitted
