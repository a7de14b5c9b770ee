use Rattle.std.specs.Prelude.{ℕ, List, ◌++◌, codes, decimal}
use Rattle.ats_topology.specs.declared.fault.TopologyFault.{TopologyFault}
use Rattle.ats_topology.specs.declared.fault.TopologyFault.TheVariants.{NodeTwice, LinkTwice, SelfLink, UnknownNode}
use Rattle.ats_topology.specs.declared.fault.TopologyFault.TheVariants.{StationLinks, BadRate, Limit, BadProcessing}

-- the text of a fault
abbrev pub fault_text : TopologyFault → List ℕ
fault_text (NodeTwice n) = codes "node-twice " ++ decimal n
fault_text (LinkTwice n) = codes "link-twice " ++ decimal n
fault_text (SelfLink n) = codes "self-link " ++ decimal n
fault_text (UnknownNode n) = codes "unknown-node " ++ decimal n
fault_text (StationLinks n) = codes "station-links " ++ decimal n
fault_text (BadRate n) = codes "bad-rate " ++ decimal n
fault_text Limit = codes "limit"
fault_text (BadProcessing n) = codes "bad-processing " ++ decimal n
