use Rattle.std.specs.Prelude.{ℕ, List, [], ◌∷◌, ◌++◌, codes}
use Rattle.ats_trace.specs.declared.journey.Release.{Release}
use Rattle.ats_fit_text.specs.Text.{IsFitText}
use Rattle.ats_tree_examples.specs.Networks.{split_and_flow}
use Rattle.ats_sender_examples.specs.Measured.{release}

-- What is measured of a stream with two listeners, and of a flow beside it.

-- two frames of the stream at once, and one of the flow
abbrev pub two_and_one : List Release
two_and_one = release 0 0 1522 ∷ release 0 0 64 ∷ release 9 1 150 ∷ []

-- a frame counts once, with its octets and its bits, and not for each listener of its stream
abbrev pub copied_text : List ℕ
copied_text =
    codes "stream a frames 2 octets 64 1522 burst 13008 of 12336\n"
    ++ codes "flow f frames 1 octets 150 150\n"
    ++ codes "total frames 3 streams 1 over 1\n"

pub record CopiesCountOnce : Type 0 where
  pub measured : IsFitText split_and_flow two_and_one copied_text
