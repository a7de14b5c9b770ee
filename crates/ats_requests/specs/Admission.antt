use Rattle.std.specs.Prelude.{ℕ, is_some, if◌then◌else◌, List, [], ◌∷◌, Option, Some, None, Result, Ok}
use Rattle.std.specs.Prelude.{Err}
use Rattle.std.specs.Option.{option_or, option_map}
use Rattle.ats_num.specs.Failure.{unless}
use Rattle.ats_streams.specs.Stream.{DeclaredStream, with_class}
use Rattle.ats_network.specs.Edits.{stream_named}
use Rattle.ats_network.specs.Network.{DeclaredNetwork}
use Rattle.ats_network.specs.Pushes.{with_stream, is_beyond, is_name_taken}
use Rattle.ats_certificate.specs.Certificate.{bound_along}
use Rattle.ats_certificate.specs.Used.{stream_classes}
use Rattle.ats_tally.specs.declared.reason.Reason.{Reason}
use Rattle.ats_admission_law.specs.Least.{least_certificate}
use Rattle.ats_admission_law.specs.Reason.{reason_of}
use Rattle.ats_requests.specs.declared.denied.Denied.{Denied}
use Rattle.ats_requests.specs.declared.denied.Denied.TheVariants.{NameTaken, NameUnknown, Limit, Because, NoClass}

-- the reason against a network with a stream added last, if there is one
abbrev pub reason_with : DeclaredNetwork → DeclaredStream → Option Reason
reason_with network stream = reason_of (with_stream network stream)

-- the sum of the least bounds of a stream that is added last
abbrev pub sum_with : DeclaredNetwork → DeclaredStream → ℕ
sum_with network stream = bound_along (least_certificate (with_stream network stream)) stream

-- why a stream is refused before any certificate is asked for, if it is: its name is taken, then it is over a
-- limit
abbrev pub entry_fault : DeclaredNetwork → DeclaredStream → Option Denied
entry_fault network stream =
    if is_name_taken network stream.name then Some NameTaken
    else if is_beyond network stream then Some Limit
    else None

-- why a stream is not admitted, if it is not
abbrev pub admit_fault : DeclaredNetwork → DeclaredStream → Option Denied
admit_fault network stream = option_or (entry_fault network stream) (option_map Because (reason_with network stream))

-- the answer to a stream that is to be admitted: the sum of its least bounds, or why it is not admitted
abbrev pub admit : DeclaredNetwork → DeclaredStream → Result ℕ Denied
admit network stream = unless (λ denied. denied) (admit_fault network stream) (sum_with network stream)

-- the network after that answer
abbrev pub after_admit : DeclaredNetwork → DeclaredStream → DeclaredNetwork
after_admit network stream = if is_some (admit_fault network stream) then network else with_stream network stream

-- the reason against a network with a stream that has this class at each port, if there is one
abbrev pub class_reason : DeclaredNetwork → DeclaredStream → ℕ → Option Reason
class_reason network stream class = reason_with network (with_class stream class)

-- the first of some classes, or the reasons against them, where this one stands before them
abbrev pub first_class : ℕ → Option Reason → Result ℕ (List Reason) → Result ℕ (List Reason)
first_class class None others = Ok class
first_class class (Some reason) (Ok other) = Ok other
first_class class (Some reason) (Err reasons) = Err (reason ∷ reasons)

-- the first of these classes with which no reason comes, or the reason that comes with each
abbrev pub lowest_of : DeclaredNetwork → DeclaredStream → List ℕ → Result ℕ (List Reason)
lowest_of network stream [] = Err []
lowest_of network stream (class ∷ classes) =
    first_class class (class_reason network stream class) (lowest_of network stream classes)

-- the class that a stream gets at each port, or why it gets none
abbrev pub class_given : Option Denied → Result ℕ (List Reason) → Result ℕ Denied
class_given (Some denied) lowest = Err denied
class_given None (Ok class) = Ok class
class_given None (Err reasons) = Err (NoClass reasons)

abbrev pub lowest_class : DeclaredNetwork → DeclaredStream → Result ℕ Denied
lowest_class network stream = class_given (entry_fault network stream) (lowest_of network stream stream_classes)

-- a stream that got a class, with the sum of its least bounds
abbrev pub sum_given : DeclaredNetwork → DeclaredStream → Result ℕ Denied → Result (ℕ × ℕ) Denied
sum_given network stream (Ok class) = Ok (class, sum_with network (with_class stream class))
sum_given network stream (Err denied) = Err denied

-- the answer to a stream that is to be admitted with the lowest class that it can have
abbrev pub admit_lowest : DeclaredNetwork → DeclaredStream → Result (ℕ × ℕ) Denied
admit_lowest network stream = sum_given network stream (lowest_class network stream)

-- the network after that answer
abbrev pub added_given : DeclaredNetwork → DeclaredStream → Result ℕ Denied → DeclaredNetwork
added_given network stream (Ok class) = with_stream network (with_class stream class)
added_given network stream (Err denied) = network

abbrev pub after_lowest : DeclaredNetwork → DeclaredStream → DeclaredNetwork
after_lowest network stream = added_given network stream (lowest_class network stream)

-- why no stream of a name is taken out, if none is; after that the network is `without_named network name`
abbrev pub withdraw_fault : DeclaredNetwork → List ℕ → Option Denied
withdraw_fault network name = if is_some (stream_named network.streams name) then None else Some NameUnknown
