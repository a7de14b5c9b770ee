use Rattle.std.specs.Prelude.{◌≡◌, ◌↔◌, ℕ, List, ◌++◌, length, Some, None, codes, decimal, zip}
use Rattle.std.specs.List.{flat_map}
use Rattle.ats_network.specs.Network.{DeclaredNetwork, senders_of}
use Rattle.ats_network.specs.Sender.{Sender}
use Rattle.ats_trace.specs.declared.journey.Release.{Release}
use Rattle.ats_fit.specs.Measured.{AreMeasured}
use Rattle.ats_fit.specs.Over.{senders_over}
use Rattle.ats_fit.specs.declared.measured.Measured.{Measured}
use Rattle.ats_fit.specs.declared.measured.Sizes.{Sizes}
use Rattle.ats_fit_text.specs.Text.{IsFitText, sender_line}

-- the line of a stream gives its name, its frames, their least and greatest octets, or `- -` where there are none, and
-- the least burst beside the declared one; that of a flow, of which no burst is measured, the same without bursts
pub record SendersAreMeasured : Type 0 where
  pub flow : (s : Sender) (m : Measured) (sizes : Sizes) → m.burst_bits ≡ None → m.sizes ≡ Some sizes
      → sender_line (s, m)
      ≡ codes "flow " ++ s.name ++ codes " frames " ++ decimal m.frames ++ codes " octets " ++ decimal sizes.least
      ++ codes " " ++ decimal sizes.greatest ++ codes "\n"
  pub idle_flow : (s : Sender) (m : Measured) → m.burst_bits ≡ None → m.sizes ≡ None → sender_line (s, m)
      ≡ codes "flow " ++ s.name ++ codes " frames " ++ decimal m.frames ++ codes " octets - -\n"
  pub stream : (s : Sender) (m : Measured) (burst : ℕ) (sizes : Sizes) → m.burst_bits ≡ Some burst
      → m.sizes ≡ Some sizes → sender_line (s, m)
      ≡ codes "stream " ++ s.name ++ codes " frames " ++ decimal m.frames ++ codes " octets " ++ decimal sizes.least
      ++ codes " " ++ decimal sizes.greatest ++ codes " burst " ++ decimal burst ++ codes " of "
      ++ decimal s.burst_bits ++ codes "\n"
  pub idle_stream : (s : Sender) (m : Measured) (burst : ℕ) → m.burst_bits ≡ Some burst → m.sizes ≡ None
      → sender_line (s, m)
      ≡ codes "stream " ++ s.name ++ codes " frames " ++ decimal m.frames ++ codes " octets - - burst "
      ++ decimal burst ++ codes " of " ++ decimal s.burst_bits ++ codes "\n"

-- `fit` prints what is measured of releases, sender by sender, and how many releases and streams there are, and how
-- many senders are over what they declare
pub record FitIsWritten : Type 0 where
  pub senders : SendersAreMeasured
  pub all : (network : DeclaredNetwork) (releases : List Release) (text : List ℕ) → IsFitText network releases text
      ↔ ((measured : List Measured) × AreMeasured network releases measured
      × (text ≡ flat_map sender_line (zip (senders_of network) measured)
      ++ codes "total frames " ++ decimal (length releases) ++ codes " streams " ++ decimal (length network.streams)
      ++ codes " over " ++ decimal (senders_over network measured) ++ codes "\n"))
