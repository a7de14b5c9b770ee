use Rattle.std.specs.Prelude.{ℕ, List, ◌++◌, codes}
use Rattle.ats_trace.specs.Run.{releases_of}
use Rattle.ats_fit_text.specs.Text.{IsFitText}
use Rattle.ats_clock_examples.specs.TalkingBridge.{around_a_tick, talking, within_a_tick}

-- What `fit` prints of frames that a bridge sends by a clock that ticks.

-- a picosecond apart they want the burst that the clock's output has, twice the one that the stream declares
abbrev pub around_text : List ℕ
around_text =
    codes "stream g frames 2 octets 105 105 burst 2000 of 1000\n" ++ codes "total frames 2 streams 1 over 1\n"

-- within a tick they want just the one that it declares
abbrev pub within_text : List ℕ
within_text =
    codes "stream g frames 2 octets 64 64 burst 1000 of 1000\n" ++ codes "total frames 2 streams 1 over 0\n"

-- though by its clock the talker keeps its bucket in the first run and not in the second, `fit` asks true time alone.
-- Refuses `of 2000` in both texts, and `over 0` in the first; and least bursts by the clock, which are 1000 and 1344
pub record FitsAreInTrueTime : Type 0 where
  pub around : IsFitText talking (releases_of around_a_tick) around_text
  pub within : IsFitText talking (releases_of within_a_tick) within_text
