use Rattle.std.specs.Prelude.{ℕ, List, ◌++◌, codes, decimal}
use Rattle.ats_topology.specs.FaultText as topology
use Rattle.ats_streams.specs.Fault.{text_of}
use Rattle.ats_network_table.specs.FaultText as form
use Rattle.ats_network_file.specs.Senders.{table_of}
use Rattle.ats_network_file.specs.declared.fault.NetFault.{NetFault}
use Rattle.ats_network_file.specs.declared.fault.NetFault.TheVariants.{Form, Topology, BadPath, Sender, SenderTwice}
use Rattle.ats_network_file.specs.declared.fault.NetFault.TheVariants.{IdentityTwice}

-- the words for a fault
abbrev pub fault_text : NetFault → List ℕ
fault_text (Form fault) = form.fault_text fault
fault_text (Topology fault) = topology.fault_text fault
fault_text (BadPath t n) = codes "bad-path " ++ form.place_text (table_of t) n
fault_text (Sender t n fault) = form.place_text (table_of t) n ++ codes " " ++ text_of fault
fault_text (SenderTwice t n) = codes "sender-twice " ++ form.place_text (table_of t) n
fault_text (IdentityTwice n) = codes "identity-twice " ++ decimal n
