use Rattle.std.specs.Prelude.{ℕ, ◌+◌, List, [], ◌∷◌}
use Rattle.ats_trace.specs.Projections.{Crossing}
use Rattle.ats_trace.specs.Links.{KeepsTimes}

-- Frames over a link that takes 700 to 1500 ps, each 672 ps long.

-- a frame of this class that is sent from a time on and arrives at that
abbrev pub crossing : ℕ → ℕ → ℕ → ℕ → Crossing
crossing frame class start arrival = record {
  port = 0;
  octets = 64;
  came = start;
  sent = record {
    frame = frame;
    sender = 0;
    class = class;
    bits = 672;
    eligible = start;
    start = start;
    end = start + 672;
  };
  arrival = arrival;
}

-- two frames one behind the other; the first arrives as late as it may, at 2172, and the second, which could from 2044
-- on, at this time
abbrev pub pair : ℕ → ℕ → List Crossing
pair class arrival = crossing 0 6 0 2172 ∷ crossing 1 class 672 arrival ∷ []

-- the second arrives behind the first, also where it is of another class: neither with it nor before, and in its own
-- time
pub record LinkExamples : Type 0 where
  pub behind : KeepsTimes 700 1500 (pair 6 2173)
  pub last : KeepsTimes 700 1500 (pair 6 2844)
  pub of_two_classes : KeepsTimes 700 1500 (pair 5 2173)
  pub together : ¬ KeepsTimes 700 1500 (pair 6 2172)
  pub overtaken : ¬ KeepsTimes 700 1500 (pair 6 2044)
  pub class_overtaken : ¬ KeepsTimes 700 1500 (pair 5 2171)
  pub late : ¬ KeepsTimes 700 1500 (pair 6 2845)
