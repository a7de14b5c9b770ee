use Rattle.std.specs.Prelude.{◌≡◌, ℕ, List, ◌++◌, codes, decimal, Option, Some, IsErr, slice_get}
use Rattle.std.specs.Prelude.{length, sum_by}
use Rattle.std.specs.List.{enumerate_from, flat_map}
use Rattle.ats_topology.specs.Topology.{DeclaredTopology}
use Rattle.ats_verdict_text.specs.PortName.{port_name}
use Rattle.ats_verdict_text.specs.Stream.{DeclaredStream}
use Rattle.ats_network.specs.Network.{DeclaredNetwork}
use Rattle.ats_network.specs.Listeners.{Listener, listener_text, listeners_by}
use Rattle.ats_network.specs.Senders.{sender_at}
use Rattle.ats_certificate.specs.declared.row.Row.{Row}
use Rattle.ats_trace.specs.Journey.{legs_at}
use Rattle.ats_trace.specs.Ways.{routes_by}
use Rattle.ats_soundness_law.specs.Sound.{bounds_of}
use Rattle.ats_verdict_text.specs.Text.{accepted_text, stream_lines}
use Rattle.ats_command_input.specs.Command.{Command, Replay, Capture, Generate, Peaks, Record, Witness, command_of}
use Rattle.ats_command_input.specs.Answer.{Answer}
use Rattle.ats_command_due.specs.Due.{IsDueAnswer, IsTold, told_bytes}
use Rattle.ats_command_due.specs.Captured.{captured_in}
use Rattle.ats_command_due.specs.Generated.{generated_in}
use Rattle.ats_command_due.specs.Held.{held_in}
use Rattle.ats_command_due.specs.Recorded.{recorded_in}
use Rattle.ats_command_due.specs.Replayed.{scheduled_in}
use Rattle.ats_command_due.specs.Witnessed.{witnessed_in}

-- this answer is due, and no other
pub record IsOnlyDue (told : List ℕ → Option (List ℕ)) (words : List (List ℕ)) (answer : Answer) : Type 0 where
  pub due : IsDueAnswer told (command_of words) answer
  pub only : (other : Answer) → IsDueAnswer told (command_of words) other → other ≡ answer

-- the bytes that are told leave one answer alone: to each command but `replay`, `capture`, `generate`, `buffers` with a
-- schedule, `record` and `witness`, which may print what came of any run in their order, and to these where a file has
-- a fault, no station, port or stream has the name, no releases are made, the certificate does not hold, or none does
abbrev pub HasOneAnswer : (List ℕ → Option (List ℕ)) → Command → Type 0
HasOneAnswer told (Replay net schedule order) =
    IsErr (scheduled_in net schedule (told_bytes told net) (told_bytes told schedule))
HasOneAnswer told (Capture net station file order) =
    IsErr (captured_in net station file (told_bytes told net) (told_bytes told file))
HasOneAnswer told (Generate net seed count) = IsErr (generated_in net seed count (told_bytes told net))
HasOneAnswer told (Peaks net certificate schedule order) =
    IsErr (held_in net certificate schedule (told_bytes told net) (told_bytes told certificate)
    (told_bytes told schedule))
HasOneAnswer told (Record net schedule order port) =
    IsErr (recorded_in net schedule port (told_bytes told net) (told_bytes told schedule))
HasOneAnswer told (Witness net name) = IsErr (witnessed_in net name (told_bytes told net))
HasOneAnswer told command = Unit {0}

-- for all words, and all bytes told under the names of their files, just one answer is due, where they leave one alone
abbrev pub OneAnswerIsDue : Type 0
OneAnswerIsDue = (told : List ℕ → Option (List ℕ)) (words : List (List ℕ)) → IsTold told (command_of words)
    → HasOneAnswer told (command_of words) → (answer : Answer) × IsOnlyDue told words answer

-- for all words and bytes, all answers that are due have one status
abbrev pub OneStatusIsDue : Type 0
OneStatusIsDue = (told : List ℕ → Option (List ℕ)) (words : List (List ℕ)) (one other : Answer)
    → IsDueAnswer told (command_of words) one → IsDueAnswer told (command_of words) other → one.status ≡ other.status

-- of a listener a line `hop NAME PORT BOUND` for each port of its leg, by these bounds, and a line `sum NAME SUM`, or
-- `sum NAME STATION SUM`, with their sum along the route to it
abbrev pub lines_by : DeclaredTopology → List ℕ → (ℕ → ℕ) → Listener → List ℕ
lines_by topology name bound listener =
    flat_map (λ port. codes "hop " ++ name ++ codes " " ++ port_name topology port ++ codes " " ++ decimal (bound port)
    ++ codes "\n") listener.leg ++ codes "sum " ++ listener_text name listener.name ++ codes " "
    ++ decimal (sum_by bound listener.route) ++ codes "\n"

-- the listeners of the sender with a number, of whose routes soundness speaks
abbrev pub listeners_at : DeclaredNetwork → ℕ → List Listener
listeners_at network i = listeners_by network.topology (legs_at network i) (routes_by (sender_at network i))

-- what is printed of the stream with a number: for each of its listeners, at each port of the leg the bound of which
-- soundness speaks, and the sum of these bounds along the route
abbrev pub PrintedBoundsAreSound : Type 0
PrintedBoundsAreSound = (network : DeclaredNetwork) (rows : List Row) (i : ℕ) (stream : DeclaredStream)
    → slice_get network.streams i ≡ Some stream → stream_lines network.topology rows stream
    ≡ flat_map (lines_by network.topology stream.name (bounds_of rows (sender_at network i))) (listeners_at network i)

-- such lines of the stream with a number, by the bounds of which soundness speaks
abbrev pub sound_lines : DeclaredNetwork → List Row → ℕ × DeclaredStream → List ℕ
sound_lines network rows numbered =
    flat_map (lines_by network.topology numbered.1.name (bounds_of rows (sender_at network numbered.0)))
    (listeners_at network numbered.0)

-- so is the whole text that is printed of an accepted certificate: such lines of each stream, in order with its number,
-- and then the line `accepted N` with the number of streams
abbrev pub AcceptedTextIsSound : Type 0
AcceptedTextIsSound = (network : DeclaredNetwork) (rows : List Row) → accepted_text network rows
    ≡ flat_map (sound_lines network rows) (enumerate_from 0 network.streams)
    ++ codes "accepted " ++ decimal (length network.streams) ++ codes "\n"
