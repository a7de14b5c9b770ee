use Rattle.std.specs.Prelude.{ℕ, ◌==◌, Bool, ◌&&◌, if◌then◌else◌}
use Rattle.ats_topology.specs.Topology.{DeclaredTopology}
use Rattle.ats_network.specs.Sender.{Sender}
use Rattle.ats_network.specs.Class.{class_at, seen_at}
use Rattle.ats_certificate.specs.PortSums.{uses}
use Rattle.ats_tally.specs.Tally.{tally_with}
use Rattle.ats_tally.specs.declared.tally.Tally.{Tally}

-- a sender uses the port and is of the class there
abbrev pub is_user : ℕ → ℕ → Sender → Bool
is_user port class s = uses port s && class_at s port == class

-- what a class at a port is made of with one sender more, where it uses the port
abbrev pub with_user : DeclaredTopology → ℕ → ℕ → Sender → Tally → Tally
with_user topology port class s tally =
    if uses port s then tally_with class (seen_at topology port s) tally else tally
