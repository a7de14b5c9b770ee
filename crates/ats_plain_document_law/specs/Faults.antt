use Rattle.std.specs.Prelude.{List, [], ◌∷◌, Option, None, Some, Result, Ok, Err}
use Rattle.std.specs.Option.{option_or}
use Rattle.ats_network_table.specs.declared.fault.DocumentFault.{DocumentFault}

-- the fault that was found where something was to be read, if one was
abbrev pub fault_in : {A : Type 0} → Result A DocumentFault → Option DocumentFault
fault_in (Ok x) = None
fault_in (Err fault) = Some fault

-- the first of the faults that were found
abbrev pub first_fault : List (Option DocumentFault) → Option DocumentFault
first_fault [] = None
first_fault (fault ∷ faults) = option_or fault (first_fault faults)
