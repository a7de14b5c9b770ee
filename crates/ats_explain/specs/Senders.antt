use Rattle.std.specs.Prelude.{ℕ, Bool, ◌&&◌, ◌==◌, List, find, Option}
use Rattle.std.specs.Option.{option_map}
use Rattle.ats_topology.specs.Topology.{DeclaredTopology}
use Rattle.ats_network.specs.Sender.{Sender}
use Rattle.ats_network.specs.Class.{PortSender, seen_at}
use Rattle.ats_network.specs.Network.{DeclaredNetwork, senders_of}
use Rattle.ats_certificate.specs.PortSums.{is_below, longest, port_sums, uses}

-- a sender at a port is of a lower class, and its longest frame has so many wire bits
abbrev pub is_lower_of : ℕ → ℕ → PortSender → Bool
is_lower_of class bits s = is_below class s && longest s == bits

-- a sender has the port, it is of a lower class there, and its longest frame has so many wire bits
abbrev pub sends_lower : DeclaredTopology → ℕ → ℕ → ℕ → Sender → Bool
sends_lower topology port class bits s = uses port s && is_lower_of class bits (seen_at topology port s)

-- a sender's name, if there is a sender
abbrev pub name_of : Option Sender → Option (List ℕ)
name_of sender = option_map (λ (s : Sender). s.name) sender

-- the first sender whose longest frame is the longest of a lower class at a port, if there is one
abbrev pub lower_sender : DeclaredNetwork → ℕ → ℕ → Option Sender
lower_sender network port class =
    find (sends_lower network.topology port class (port_sums network port class).lower) (senders_of network)

-- its name
abbrev pub lower_name : DeclaredNetwork → ℕ → ℕ → Option (List ℕ)
lower_name network port class = name_of (lower_sender network port class)
