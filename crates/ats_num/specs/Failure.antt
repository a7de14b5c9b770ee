use Rattle.std.specs.Prelude.{◌≡◌, Bool, Option, Some, None, Result, Ok, Err, if◌then◌else◌}
use Rattle.ats_num.specs.declared.failure.Failure.{Failure}
use Rattle.ats_num.specs.declared.failure.Failure.TheVariants.{Fault, NoMemory}

-- one after another, as far as the first fault
infixl 10 ◌>>=◌
abbrev pub ◌>>=◌ : {A B F : Type 0} → Result A F → (A → Result B F) → Result B F
(Ok x) >>= f = f x
(Err e) >>= f = Err e

-- the value, or this fault where there is none
abbrev pub or_fault : {A F : Type 0} → F → Option A → Result A F
or_fault fault None = Err fault
or_fault fault (Some x) = Ok x

-- this value where the test passes, else this fault
abbrev pub ok_where : {A F : Type 0} → Bool → F → A → Result A F
ok_where passes fault x = if passes then Ok x else Err fault

-- this value, or the fault that stands against it
abbrev pub unless : {A F G : Type 0} → (F → G) → Option F → A → Result A G
unless fault None x = Ok x
unless fault (Some f) x = Err (fault f)

-- a call failed like this: its fault is the one that is due, where there may be one; want of memory is due at any time
abbrev pub IsDue : {F : Type 0} → Failure F → Option F → Type 0
IsDue NoMemory due = Unit {0}
IsDue (Fault fault) due = due ≡ Some fault

-- a call failed like this in place of what is due: its fault is that, unless memory ran out
abbrev pub Fails : {A F : Type 0} → Failure F → Result A F → Type 0
Fails NoMemory due = Unit {0}
Fails (Fault fault) due = due ≡ Err fault

-- a call answered the value or the fault that is due, unless memory ran out
abbrev pub Gives : {A F : Type 0} → Result A (Failure F) → Result A F → Type 0
Gives (Ok x) due = due ≡ Ok x
Gives (Err e) due = Fails e due

-- the same for a call whose value is seen as another
abbrev pub GivesSeen : {A B F : Type 0} → (A → B) → Result A (Failure F) → Result B F → Type 0
GivesSeen seen (Ok x) due = due ≡ Ok (seen x)
GivesSeen seen (Err e) due = Fails e due

-- a failure of a part as one of the whole: its fault is given as a fault of the whole
abbrev pub IsWithin : {F G : Type 0} → (F → G → Type 0) → Failure F → Failure G → Type 0
IsWithin gives NoMemory NoMemory = Unit {0}
IsWithin gives (Fault f) (Fault g) = gives f g
IsWithin gives NoMemory (Fault g) = ⊥
IsWithin gives (Fault f) NoMemory = ⊥
