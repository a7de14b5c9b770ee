use Rattle.std.specs.Prelude.{◌≡◌, ℕ, List, [], ◌∷◌}
use Rattle.ats_trace.specs.declared.journey.Release.{Release}
use Rattle.ats_gen.specs.Draw.{draw}
use Rattle.ats_gen.specs.Made.{made, clock_of, AreByTime, AreMade}
use Rattle.ats_examples.specs.Networks.{fork}
use Rattle.ats_verdict_examples.specs.Networks.{release}

-- Made releases, worked out from the generator of numbers.

-- the first four frames of the fork from the seed 7, in the order in which they are made. The last two are as early as
-- their buckets allow
abbrev pub as_made : List Release
as_made =
    release 0 0 1374 ∷ release 263231 1 774 ∷ release 60880000 0 889 ∷ release 59543231 1 1469 ∷ []

-- and by time
abbrev pub by_time : List Release
by_time =
    release 0 0 1374 ∷ release 263231 1 774 ∷ release 59543231 1 1469 ∷ release 60880000 0 889 ∷ []

-- two releases at one time
abbrev pub at_once : ℕ → ℕ → List Release
at_once first second = release 5 first 64 ∷ release 5 second 64 ∷ []

-- what is drawn first and next from the least seed and from the greatest, the clock at the fourth frame by this; and of
-- releases at one time the earlier one stays the first, whichever its stream
pub record DrawsAreMet : Type 0 where
  pub least : draw 0 0 ≡ 167951807
  pub least_next : draw 0 1 ≡ 218396424
  pub greatest : draw 18446744073709551615 0 ≡ 1574552488
  pub greatest_next : draw 18446744073709551615 1 ≡ 1490332343
  pub clock : clock_of 18446744073709551615 3 ≡ 1383932
  pub stays : AreByTime (at_once 1 0) (at_once 1 0)
  pub not_turned : ¬ AreByTime (at_once 1 0) (at_once 0 1)

-- they are the made releases by time, and not as they were made, nor from another seed
pub record MakingIsMet : Type 0 where
  pub made_is : made fork 7 4 ≡ as_made
  pub sorted : AreMade fork 7 4 by_time
  pub not_unsorted : ¬ AreMade fork 7 4 as_made
  pub not_from_other : ¬ AreMade fork 8 4 by_time
  pub draws : DrawsAreMet
