use Rattle.std.specs.Prelude.{ℕ, List, ◌++◌, codes, decimal}
use Rattle.ats_pcap.specs.declared.fault.CaptureFault.{CaptureFault}
use Rattle.ats_pcap.specs.declared.fault.CaptureFault.TheVariants.{BadMagic, PcapNg, BadVersion, BadLink}
use Rattle.ats_pcap.specs.declared.fault.CaptureFault.TheVariants.{RecordTooLong, CutShort, Limit}

-- the word for a fault, and its record where it is the fault of one
abbrev pub fault_text : CaptureFault → List ℕ
fault_text BadMagic = codes "bad-magic"
fault_text PcapNg = codes "pcapng"
fault_text BadVersion = codes "bad-version"
fault_text BadLink = codes "bad-link"
fault_text (RecordTooLong n) = codes "record-too-long " ++ decimal n
fault_text (CutShort n) = codes "cut-short " ++ decimal n
fault_text (Limit n) = codes "limit " ++ decimal n
