use Rattle.std.specs.Prelude.{ℕ, ◌+◌, List, [], ◌∷◌, ◌++◌, map, filter}
use Rattle.ats_topology.specs.declared.port.Port.{Port}
use Rattle.ats_network.specs.Network.{DeclaredNetwork}
use Rattle.ats_certificate.specs.PortSums.{is_used}

-- the classes of streams
abbrev pub stream_classes : List ℕ
stream_classes = 1 ∷ 2 ∷ 3 ∷ 4 ∷ 5 ∷ 6 ∷ 7 ∷ []

-- a port and a class
abbrev pub place : ℕ → ℕ → ℕ × ℕ
place port class = (port, class)

-- the places of a port at which some stream is, by class
abbrev pub places_at : DeclaredNetwork → ℕ → List (ℕ × ℕ)
places_at network port = map (place port) (filter (λ class. is_used network port class) stream_classes)

-- the same for ports that are numbered from this number on
abbrev pub places_from : DeclaredNetwork → ℕ → List Port → List (ℕ × ℕ)
places_from network port [] = []
places_from network port (one ∷ ports) = places_at network port ++ places_from network (port + 1) ports

-- the ports and classes that some stream uses, in the order of a certificate's rows
abbrev pub places_of : DeclaredNetwork → List (ℕ × ℕ)
places_of network = places_from network 0 network.topology.ports
