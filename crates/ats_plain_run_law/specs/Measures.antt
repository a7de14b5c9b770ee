use Rattle.std.specs.Prelude.{◌≡◌, ◌↔◌, ◌⊎◌, ℕ, ◌<◌, ◌≤◌, IsTrue, List, count_by, zip, Some}
use Rattle.ats_network.specs.Network.{DeclaredNetwork, senders_of}
use Rattle.ats_network.specs.Sender.{Sender}
use Rattle.ats_fit.specs.Over.{is_over, senders_over}
use Rattle.ats_fit.specs.declared.measured.Measured.{Measured}
use Rattle.ats_fit.specs.declared.measured.Sizes.{Sizes}

-- so many octets are within those that a sender declares
abbrev pub IsWithin : Sender → ℕ → Type 0
IsWithin s octets = (s.min_octets ≤ octets) × (octets ≤ s.max_octets)

-- counted are the senders of which a burst above the declared one is measured, or of which the least or the greatest
-- octets are not within those declared; the measures stand in the senders' order
pub record MeasuresAreTraced : Type 0 where
  pub over : (s : Sender) (m : Measured) → IsTrue (is_over (s, m))
      ↔ (((burst : ℕ) × (m.burst_bits ≡ Some burst) × (s.burst_bits < burst))
      ⊎ ((sizes : Sizes) × (m.sizes ≡ Some sizes) × ((¬ IsWithin s sizes.least) ⊎ (¬ IsWithin s sizes.greatest))))
  pub count : (network : DeclaredNetwork) (measured : List Measured) → senders_over network measured
      ≡ count_by (λ (one : Sender × Measured). is_over one) (zip (senders_of network) measured)
