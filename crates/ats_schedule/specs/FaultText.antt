use Rattle.std.specs.Prelude.{ℕ, List, ◌++◌, codes, decimal}
use Rattle.ats_schedule.specs.declared.fault.ScheduleFault.{ScheduleFault}
use Rattle.ats_schedule.specs.declared.fault.ScheduleFault.TheVariants.{BadRow, UnknownName, BadNumber, BadSize}
use Rattle.ats_schedule.specs.declared.fault.ScheduleFault.TheVariants.{TimeBack, Limit}

-- the word for a fault, and its record
abbrev pub fault_text : ScheduleFault → List ℕ
fault_text (BadRow n) = codes "bad-row " ++ decimal n
fault_text (UnknownName n) = codes "unknown-name " ++ decimal n
fault_text (BadNumber n) = codes "bad-number " ++ decimal n
fault_text (BadSize n) = codes "bad-size " ++ decimal n
fault_text (TimeBack n) = codes "time-back " ++ decimal n
fault_text (Limit n) = codes "limit " ++ decimal n
