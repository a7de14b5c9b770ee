use Rattle.ats_num.specs.declared.failure.Failure.{Failure}
use Rattle.ats_num.specs.declared.failure.Failure.TheVariants.{Fault, NoMemory}

-- this holds of the fault that a call failed with, where memory did not run out
abbrev pub IfFault : {F : Type 0} → (F → Type 0) → Failure F → Type 0
IfFault holds NoMemory = Unit {0}
IfFault holds (Fault fault) = holds fault
