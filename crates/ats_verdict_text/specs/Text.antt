use Rattle.std.specs.Prelude.{ℕ, List, ◌++◌, length, codes, decimal}
use Rattle.std.specs.List.{flat_map}
use Rattle.ats_topology.specs.Topology.{DeclaredTopology}
use Rattle.ats_port_names.specs.PortName.{port_name}
use Rattle.ats_streams.specs.Stream.{DeclaredStream}
use Rattle.ats_network.specs.Sender.{stream_sender}
use Rattle.ats_network.specs.Network.{DeclaredNetwork}
use Rattle.ats_network.specs.Listeners.{Listener, listeners_of, listener_text}
use Rattle.ats_certificate.specs.Certificate.{bound_of_hop, bound_on}
use Rattle.ats_certificate.specs.declared.row.Row.{Row}
use Rattle.ats_tally.specs.declared.reason.Reason.{Reason}
use Rattle.ats_tally.specs.declared.reason.Reason.TheVariants as reason
use Rattle.ats_checker.specs.declared.refusal.Field.{Field}
use Rattle.ats_checker.specs.declared.refusal.Field.TheVariants as field
use Rattle.ats_checker.specs.declared.refusal.Refusal.{Refusal}
use Rattle.ats_checker.specs.declared.refusal.Refusal.TheVariants.{RowMissing, RowStray, FieldWrong, WaitTooSmall}
use Rattle.ats_checker.specs.declared.refusal.Refusal.TheVariants.{Network}

-- `hop NAME PORT BOUND` for a port of a stream
unfoldable pub hop_line : DeclaredTopology → List Row → DeclaredStream → ℕ → List ℕ
hop_line topology rows s port =
    codes "hop " ++ s.name ++ codes " " ++ port_name topology port ++ codes " "
    ++ decimal (bound_of_hop rows (stream_sender s) port) ++ codes "\n"

-- a line for each of some ports of a stream
abbrev pub hop_lines : DeclaredTopology → List Row → DeclaredStream → List ℕ → List ℕ
hop_lines topology rows s ports = flat_map (hop_line topology rows s) ports

-- the lines of the ports of a listener's leg, then `sum NAME SUM`, or `sum NAME STATION SUM`, along the whole route
unfoldable pub listener_lines : DeclaredTopology → List Row → DeclaredStream → Listener → List ℕ
listener_lines topology rows s listener =
    hop_lines topology rows s listener.leg ++ codes "sum " ++ listener_text s.name listener.name ++ codes " "
    ++ decimal (bound_on rows s listener.route) ++ codes "\n"

-- the lines of each listener of a stream
abbrev pub stream_lines : DeclaredTopology → List Row → DeclaredStream → List ℕ
stream_lines topology rows s = flat_map (listener_lines topology rows s) (listeners_of topology s)

-- the lines of each stream of a network
abbrev pub streams_text : DeclaredNetwork → List Row → List ℕ
streams_text network rows = flat_map (stream_lines network.topology rows) network.streams

-- what is printed of a certificate that holds: the bounds of each stream and the sum for each of its
-- listeners, and `accepted STREAMS`
abbrev pub accepted_text : DeclaredNetwork → List Row → List ℕ
accepted_text network rows =
    streams_text network rows ++ codes "accepted " ++ decimal (length network.streams) ++ codes "\n"

-- a port and a class
abbrev pub place_text : DeclaredTopology → ℕ → ℕ → List ℕ
place_text topology port class = port_name topology port ++ codes " " ++ decimal class

-- a port and a class, and a number
abbrev pub measure_text : DeclaredTopology → ℕ → ℕ → ℕ → List ℕ
measure_text topology port class n = place_text topology port class ++ codes " " ++ decimal n

-- what a network can't bear
abbrev pub reason_text : DeclaredTopology → Reason → List ℕ
reason_text topology (reason.Overloaded port class load) = codes "overloaded " ++ measure_text topology port class load
reason_text topology (reason.Residence port class need) = codes "residence " ++ measure_text topology port class need
reason_text topology (reason.Deadline stream listener sum) =
    codes "deadline " ++ listener_text stream listener ++ codes " " ++ decimal sum

-- a column as the header of a certificate names it
abbrev pub field_text : Field → List ℕ
field_text field.Higher = codes "higher"
field_text field.Equal = codes "equal"
field_text field.Bursts = codes "bursts"
field_text field.Lower = codes "lower"
field_text field.Least = codes "least"
field_text field.Bound = codes "bound"

-- a field of a row with its right value
abbrev pub wrong_text : DeclaredTopology → ℕ → ℕ → Field → ℕ → List ℕ
wrong_text topology port class field right =
    codes "field " ++ place_text topology port class ++ codes " " ++ field_text field ++ codes " " ++ decimal right

-- why a certificate does not hold
abbrev pub refusal_text : DeclaredTopology → Refusal → List ℕ
refusal_text topology (RowMissing port class) = codes "row-missing " ++ place_text topology port class
refusal_text topology (RowStray port class) = codes "row-stray " ++ place_text topology port class
refusal_text topology (FieldWrong port class field right) = wrong_text topology port class field right
refusal_text topology (WaitTooSmall port class least) = codes "wait " ++ measure_text topology port class least
refusal_text topology (Network reason) = reason_text topology reason

-- the line `refused` with what is refused
abbrev pub refused_text : List ℕ → List ℕ
refused_text why = codes "refused " ++ why ++ codes "\n"
