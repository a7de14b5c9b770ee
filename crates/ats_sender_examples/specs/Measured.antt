use Rattle.std.specs.Prelude.{ℕ, List, [], ◌∷◌, ◌++◌, codes}
use Rattle.ats_trace.specs.declared.journey.Release.{Release}
use Rattle.ats_fit_text.specs.Text.{IsFitText}
use Rattle.ats_sender_examples.specs.Senders.{three_senders}

abbrev pub release : ℕ → ℕ → ℕ → Release
release time sender octets = record { at = record { 0 = time }; sender = sender; octets = octets }

-- the first stream keeps its burst, the second does not, and the flow has no frame
abbrev pub flow_is_silent : List Release
flow_is_silent =
    release 0 0 1522 ∷ release 0 1 64 ∷ release 0 1 64 ∷ release 13440000 1 300 ∷ release 123360000 0 1522 ∷ []

abbrev pub silent_text : List ℕ
silent_text =
    codes "stream a frames 2 octets 1522 1522 burst 12336 of 12336\n"
    ++ codes "stream b frames 3 octets 64 300 burst 3232 of 2688\n"
    ++ codes "flow f frames 0 octets - -\n"
    ++ codes "total frames 5 streams 2 over 1\n"

-- the second stream has no frame, and the flow two
abbrev pub stream_is_silent : List Release
stream_is_silent = release 0 2 150 ∷ release 5 2 64 ∷ release 9 0 64 ∷ []

abbrev pub spoken_text : List ℕ
spoken_text =
    codes "stream a frames 1 octets 64 64 burst 672 of 12336\n"
    ++ codes "stream b frames 0 octets - - burst 0 of 2688\n"
    ++ codes "flow f frames 2 octets 64 150\n"
    ++ codes "total frames 3 streams 2 over 0\n"

pub record SendersAreMeasured : Type 0 where
  pub flow : IsFitText three_senders flow_is_silent silent_text
  pub stream : IsFitText three_senders stream_is_silent spoken_text
