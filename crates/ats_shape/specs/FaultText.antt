use Rattle.std.specs.Prelude.{ℕ, List, ◌++◌, codes, decimal}
use Rattle.ats_streams.specs.Fault.{text_of}
use Rattle.ats_shape.specs.declared.fault.ShapeFault.{ShapeFault}
use Rattle.ats_shape.specs.declared.fault.ShapeFault.TheVariants.{BadLine, NameTwice, Stream, UnknownName, TimeBack}
use Rattle.ats_shape.specs.declared.fault.ShapeFault.TheVariants.{Limit}

-- the word for a fault, and its line
abbrev pub fault_text : ShapeFault → List ℕ
fault_text (BadLine n) = codes "bad-line " ++ decimal n
fault_text (NameTwice n) = codes "name-twice " ++ decimal n
fault_text (Stream n fault) = text_of fault ++ codes " " ++ decimal n
fault_text (UnknownName n) = codes "unknown-name " ++ decimal n
fault_text (TimeBack n) = codes "time-back " ++ decimal n
fault_text (Limit n) = codes "limit " ++ decimal n
