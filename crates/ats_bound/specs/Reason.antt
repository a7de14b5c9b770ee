use Rattle.std.specs.Prelude.{ℕ, ◌+◌, Option}
use Rattle.std.specs.Option.{option_or}
use Rattle.ats_network.specs.Network.{DeclaredNetwork}
use Rattle.ats_certificate.specs.PortSums.{port_sums}
use Rattle.ats_certificate.specs.Used.{places_of}
use Rattle.ats_tally.specs.Reason.{first_some, overload_by, overstay, late}
use Rattle.ats_tally.specs.declared.reason.Reason.{Reason}
use Rattle.ats_bound.specs.Least.{least_certificate}

-- the part of a second that a class and those above it take of a port, in picoseconds
abbrev pub load_at : DeclaredNetwork → ℕ × ℕ → ℕ
load_at network place = (port_sums network place.0 place.1).higher + (port_sums network place.0 place.1).equal

-- a load of more than the whole link
abbrev pub overload : DeclaredNetwork → ℕ × ℕ → Option Reason
overload network place = overload_by place.0 place.1 (load_at network place)

-- why no certificate holds for a network, if none does: the first overloaded port and class; where there is none, the
-- first row with the least wait whose need of residence is over the residence time behind its port; where there is none
-- either, the first stream that is late by the least bounds, for its first listener of those for which it is
abbrev pub reason_of : DeclaredNetwork → Option Reason
reason_of network =
    option_or (first_some (overload network) (places_of network))
    (option_or (first_some (overstay network) (least_certificate network))
    (first_some (late network.topology (least_certificate network)) network.streams))
