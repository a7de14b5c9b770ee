use Rattle.std.specs.Prelude.{ℕ, List, ◌++◌, codes, decimal}
use Rattle.ats_certificate_file.specs.declared.fault.CertFault.{CertFault}
use Rattle.ats_certificate_file.specs.declared.fault.CertFault.TheVariants.{BadRow, UnknownPort, BadNumber, RowOrder}

-- the word for a fault, and its record
abbrev pub fault_text : CertFault → List ℕ
fault_text (BadRow n) = codes "bad-row " ++ decimal n
fault_text (UnknownPort n) = codes "unknown-port " ++ decimal n
fault_text (BadNumber n) = codes "bad-number " ++ decimal n
fault_text (RowOrder n) = codes "row-order " ++ decimal n
