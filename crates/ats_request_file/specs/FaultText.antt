use Rattle.std.specs.Prelude.{ℕ, List, ◌++◌, codes, decimal}
use Rattle.ats_streams.specs.Fault.{text_of}
use Rattle.ats_request_file.specs.declared.fault.RequestFault.{RequestFault}
use Rattle.ats_request_file.specs.declared.fault.RequestFault.TheVariants.{BadLine, UnknownNode, NoPath, Stream, Limit}

-- the word for a fault, and its line
abbrev pub fault_text : RequestFault → List ℕ
fault_text (BadLine n) = codes "bad-line " ++ decimal n
fault_text (UnknownNode n) = codes "unknown-node " ++ decimal n
fault_text (NoPath n) = codes "no-path " ++ decimal n
fault_text (Stream n fault) = text_of fault ++ codes " " ++ decimal n
fault_text (Limit n) = codes "limit " ++ decimal n
