use Rattle.std.specs.Prelude.{◌≡◌, ℕ, IsTrue, List, All, Ok}
use Rattle.ats_num.specs.Name.{is_name}
use Rattle.ats_topology.specs.declared.node.Node.{Node}
use Rattle.ats_network.specs.Network.{DeclaredNetwork, senders_of}
use Rattle.ats_network.specs.Sender.{Sender}
use Rattle.ats_network_file.specs.Reading.{network_of}

-- each stream and each flow of the network that a text declares has a name of 1 to 32 letters, digits, `_` or `-`
abbrev pub EachSenderIsNamed : Type 0
EachSenderIsNamed = (text : List ℕ) (network : DeclaredNetwork) → network_of text ≡ Ok network
    → All (λ (s : Sender). IsTrue (is_name s.name)) (senders_of network)

-- and so has each station and each bridge
abbrev pub EachNodeIsNamed : Type 0
EachNodeIsNamed = (text : List ℕ) (network : DeclaredNetwork) → network_of text ≡ Ok network
    → All (λ (node : Node). IsTrue (is_name node.name)) network.topology.nodes
