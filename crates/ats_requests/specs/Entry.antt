use Rattle.ats_network.specs.declared.fault.PushFault.{PushFault}
use Rattle.ats_network.specs.declared.fault.PushFault.TheVariants.{NameTaken, IdentityTaken, Limit}

-- one of three, for the name, the identity or the room
abbrev pub by_fault : {A : Type 0} → A → A → A → PushFault → A
by_fault name identity limit NameTaken = name
by_fault name identity limit IdentityTaken = identity
by_fault name identity limit Limit = limit
