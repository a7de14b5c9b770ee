use Rattle.std.specs.Prelude.{◌≡◌, ℕ, ◌==◌, nat_lt, min, max, List, [], ◌∷◌, map, filter, fold}
use Rattle.ats_num.specs.Wire.{bits_of}
use Rattle.ats_network.specs.Class.{PortSender}
use Rattle.ats_network.specs.Network.{DeclaredNetwork, senders_of}
use Rattle.ats_certificate.specs.PortSums.{least_of, port_sums, senders_at}

-- of the senders at a port, a class waits for the longest frame of a lower class, and of its own frames the shortest
-- counts: that with the fewest bits; 0 where there is none
pub record SumsAreReckoned : Type 0 where
  pub lower : (network : DeclaredNetwork) (port class : ℕ) → (port_sums network port class).lower
      ≡ fold max 0 (map (λ (s : PortSender). bits_of s.max_octets)
      (filter (λ (s : PortSender). nat_lt s.class class) (senders_at network.topology port (senders_of network))))
  pub least : (network : DeclaredNetwork) (port class : ℕ) → (port_sums network port class).least
      ≡ least_of (map (λ (s : PortSender). bits_of s.min_octets)
      (filter (λ (s : PortSender). s.class == class) (senders_at network.topology port (senders_of network))))
  pub of_none : least_of [] ≡ 0
  pub of_some : (n : ℕ) (ns : List ℕ) → least_of (n ∷ ns) ≡ fold min n ns
