use Rattle.std.specs.Prelude.{ℕ, List, codes}
use Rattle.ats_network.specs.declared.fault.PushFault.{PushFault}
use Rattle.ats_network.specs.declared.fault.PushFault.TheVariants.{NameTaken, IdentityTaken, Limit}

-- the text of a fault
abbrev pub fault_text : PushFault → List ℕ
fault_text NameTaken = codes "name-taken"
fault_text IdentityTaken = codes "identity-taken"
fault_text Limit = codes "limit"
