use Rattle.std.specs.Prelude.{ℕ, Bool, ◌==◌, nat_lt, if◌then◌else◌, List, filter, fold, Option, Some, None}
use Rattle.std.specs.List.{list_any}
use Rattle.ats_network.specs.Network.{DeclaredNetwork}
use Rattle.ats_certificate.specs.Used.{places_at, places_of}
use Rattle.ats_tally.specs.Reason.{first_some}
use Rattle.ats_tally.specs.declared.reason.Reason.{Reason}

-- what a search over ports and classes finds first at a port, by class
abbrev pub found_at : (ℕ × ℕ → Option Reason) → DeclaredNetwork → ℕ → Option Reason
found_at given network port = first_some given (places_at network port)

-- of what was found so far, with its port, and what is found at one port more, that of the lower port
abbrev pub lower_of : Option (ℕ × Reason) → ℕ → Option Reason → Option (ℕ × Reason)
lower_of best port None = best
lower_of None port (Some reason) = Some (port, reason)
lower_of (Some best) port (Some reason) = if nat_lt port best.0 then Some (port, reason) else Some best

-- what the search finds first at the lowest port of a path, in whichever order the ports stand
abbrev pub lowest_found : (ℕ × ℕ → Option Reason) → DeclaredNetwork → List ℕ → Option (ℕ × Reason)
lowest_found given network path = fold (λ best port. lower_of best port (found_at given network port)) None path

-- the place is at a port of the path
abbrev pub at_port_of : List ℕ → ℕ × ℕ → Bool
at_port_of path place = list_any (λ p. p == place.0) path

-- what the search finds first at the ports of a path, in the order of a certificate's rows
abbrev pub first_found : (ℕ × ℕ → Option Reason) → DeclaredNetwork → List ℕ → Option Reason
first_found given network path = first_some given (filter (at_port_of path) (places_of network))
