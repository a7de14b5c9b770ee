use Rattle.std.specs.Prelude.{◌≡◌, ℕ, List, [], ◌++◌, length, codes, decimal, zip, Option, Some, None}
use Rattle.std.specs.List.{flat_map}
use Rattle.ats_network.specs.Sender.{Sender}
use Rattle.ats_network.specs.Network.{DeclaredNetwork, senders_of}
use Rattle.ats_trace.specs.declared.journey.Release.{Release}
use Rattle.ats_fit.specs.Measured.{AreMeasured}
use Rattle.ats_fit.specs.Over.{senders_over}
use Rattle.ats_fit.specs.declared.measured.Measured.{Measured}
use Rattle.ats_fit.specs.declared.measured.Sizes.{Sizes}

-- `stream ` before the name of a stream, of which there is a least burst, and `flow ` before that of a flow
abbrev pub kind_text : Option ℕ → List ℕ
kind_text None = codes "flow "
kind_text (Some burst) = codes "stream "

-- `MIN MAX`, the least and the greatest octets; `- -` where there are none
abbrev pub sizes_text : Option Sizes → List ℕ
sizes_text None = codes "- -"
sizes_text (Some sizes) = decimal sizes.least ++ codes " " ++ decimal sizes.greatest

-- ` burst B of BURST`, the least burst and the declared one, where there is a least burst
abbrev pub burst_text : ℕ → Option ℕ → List ℕ
burst_text declared None = []
burst_text declared (Some burst) = codes " burst " ++ decimal burst ++ codes " of " ++ decimal declared

-- `stream NAME frames F octets MIN MAX burst B of BURST` or `flow NAME frames F octets MIN MAX`
unfoldable pub sender_line : Sender × Measured → List ℕ
sender_line pair =
    kind_text pair.1.burst_bits ++ pair.0.name ++ codes " frames " ++ decimal pair.1.frames ++ codes " octets "
    ++ sizes_text pair.1.sizes ++ burst_text pair.0.burst_bits pair.1.burst_bits ++ codes "\n"

-- `total frames F streams N over K`
unfoldable pub total_line : ℕ → ℕ → ℕ → List ℕ
total_line frames streams over =
    codes "total frames " ++ decimal frames ++ codes " streams " ++ decimal streams ++ codes " over " ++ decimal over
    ++ codes "\n"

-- what is printed of what is measured of releases: a line for each sender, and one with the numbers of all releases, of
-- the streams, and of the streams and flows that are over what they declare
unfoldable pub fit_text : DeclaredNetwork → List Release → List Measured → List ℕ
fit_text network releases measured =
    flat_map sender_line (zip (senders_of network) measured)
    ++ total_line (length releases) (length network.streams) (senders_over network measured)

-- the text that is due to releases
pub record IsFitText (network : DeclaredNetwork) (releases : List Release) (text : List ℕ) : Type 0 where
  pub measured : List Measured
  pub are : AreMeasured network releases measured
  pub printed : text ≡ fit_text network releases measured
