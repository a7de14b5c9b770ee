use Rattle.std.specs.Prelude.{ℕ, List, map, String, string_bytes, Option, Some, None}
use Rattle.std.specs.declared.alloc.Global.{Global}
use Rattle.ats_command_input.specs.Command as table
use Rattle.ats_command_input.specs.declared.command.Command.{Command}
use Rattle.ats_command_input.specs.declared.command.Command.TheVariants.{Shape, Show, Bound, Explain, Check, Replay}
use Rattle.ats_command_input.specs.declared.command.Command.TheVariants.{Capture}
use Rattle.ats_command_input.specs.declared.command.Command.TheVariants.{Conform, Admit, Generate}
use Rattle.ats_command_input.specs.declared.command.Command.TheVariants.{Settings}
use Rattle.ats_command_input.specs.declared.command.Command.TheVariants.{Buffers, Peaks}
use Rattle.ats_command_input.specs.declared.command.Command.TheVariants.{LrqShape, LrqBound, LrqCheck}
use Rattle.ats_command_input.specs.declared.command.Command.TheVariants.{Record, Witness}
use Rattle.ats_command_input.specs.declared.command.Command.TheVariants.{Releases, Fit}

-- the bytes of words
abbrev pub texts_of : List (String Global) → List (List ℕ)
texts_of words = map (λ (word : String Global). string_bytes word) words

-- the command that words of the program name
abbrev pub named : List (String Global) → table.Command
named words = table.command_of (texts_of words)

-- the command that a value of the program stands for
abbrev pub view : Command → table.Command
view (Shape file) = table.Shape file.now
view (Show net) = table.Show net.now
view (Bound net) = table.Bound net.now
view (Explain net) = table.Explain net.now
view (Settings net) = table.Settings net.now
view (Check net certificate) = table.Check net.now certificate.now
view (Buffers net certificate) = table.Buffers net.now certificate.now
view (Conform net schedule) = table.Conform net.now schedule.now
view (Admit net requests) = table.Admit net.now requests.now
view (Replay net schedule order) = table.Replay net.now schedule.now order
view (Capture net station file order) = table.Capture net.now station.now file.now order
view (Generate net seed count) = table.Generate net.now seed count.frames
view (Peaks net certificate schedule order) = table.Peaks net.now certificate.now schedule.now order
view (LrqShape file) = table.LrqShape file.now
view (LrqBound net) = table.LrqBound net.now
view (LrqCheck net certificate) = table.LrqCheck net.now certificate.now
view (Record net schedule order port) = table.Record net.now schedule.now order port.now
view (Witness net name) = table.Witness net.now name.now
view (Releases net station file) = table.Releases net.now station.now file.now
view (Fit net schedule) = table.Fit net.now schedule.now

-- the same, where there may be none
abbrev pub view_of : Option Command → table.Command
view_of (Some command) = view command
view_of None = table.Unknown
