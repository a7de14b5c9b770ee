use Rattle.std.specs.Prelude.{ℕ, List, [], ◌∷◌, codes, Option, Some, None, if◌then◌else◌}
use Rattle.std.specs.Str.{bytes_eq}
use Rattle.ats_command_input.specs.Making.{count_named, seed_named}
use Rattle.ats_command_input.specs.Order.{order_named}
use Rattle.ats_command_input.specs.declared.order.Order.{Order}

-- a line of the command table, with its words; or words that are not in the table
pub data Command : Type 0 where
  Shape : List ℕ → Command
  Show : List ℕ → Command
  Bound : List ℕ → Command
  Explain : List ℕ → Command
  Settings : List ℕ → Command
  Check : List ℕ → List ℕ → Command
  Buffers : List ℕ → List ℕ → Command
  Conform : List ℕ → List ℕ → Command
  Admit : List ℕ → List ℕ → Command
  Replay : List ℕ → List ℕ → Order → Command
  Capture : List ℕ → List ℕ → List ℕ → Order → Command
  Generate : List ℕ → ℕ → ℕ → Command
  Peaks : List ℕ → List ℕ → List ℕ → Order → Command
  LrqShape : List ℕ → Command
  LrqBound : List ℕ → Command
  LrqCheck : List ℕ → List ℕ → Command
  Record : List ℕ → List ℕ → Order → List ℕ → Command
  Witness : List ℕ → List ℕ → Command
  Releases : List ℕ → List ℕ → List ℕ → Command
  Fit : List ℕ → List ℕ → Command
  Unknown : Command

-- the replay of a schedule in an order, where there is one
abbrev pub replay_in : List ℕ → List ℕ → Option Order → Command
replay_in net schedule None = Unknown
replay_in net schedule (Some order) = Replay net schedule order

-- the making of so many frames from a seed, where there are both
abbrev pub generate_in : List ℕ → Option ℕ → Option ℕ → Command
generate_in net None count = Unknown
generate_in net (Some seed) None = Unknown
generate_in net (Some seed) (Some count) = Generate net seed count

-- the replay of a capture at a station in an order, where there is one
abbrev pub capture_in : List ℕ → List ℕ → List ℕ → Option Order → Command
capture_in net station file None = Unknown
capture_in net station file (Some order) = Capture net station file order

-- the buffers beside the peaks of a schedule in an order, where there is one
abbrev pub peaks_in : List ℕ → List ℕ → List ℕ → Option Order → Command
peaks_in net certificate schedule None = Unknown
peaks_in net certificate schedule (Some order) = Peaks net certificate schedule order

-- the capture of a port in a replay of a schedule in an order, where there is one
abbrev pub record_in : List ℕ → List ℕ → Option Order → List ℕ → Command
record_in net schedule None port = Unknown
record_in net schedule (Some order) port = Record net schedule order port

-- the commands of the other regulator, behind the word `lrq`: one with one word
unfoldable pub lrq_with_one : List ℕ → List ℕ → Command
lrq_with_one verb file =
    if bytes_eq verb (codes "shape") then LrqShape file
    else if bytes_eq verb (codes "bound") then LrqBound file
    else Unknown

-- and one with two
unfoldable pub lrq_with_two : List ℕ → List ℕ → List ℕ → Command
lrq_with_two verb net certificate =
    if bytes_eq verb (codes "check") then LrqCheck net certificate else Unknown

-- the command of a verb with one word
unfoldable pub with_one : List ℕ → List ℕ → Command
with_one verb file =
    if bytes_eq verb (codes "shape") then Shape file
    else if bytes_eq verb (codes "show") then Show file
    else if bytes_eq verb (codes "bound") then Bound file
    else if bytes_eq verb (codes "explain") then Explain file
    else if bytes_eq verb (codes "settings") then Settings file
    else Unknown

-- with two
unfoldable pub with_two : List ℕ → List ℕ → List ℕ → Command
with_two verb net file =
    if bytes_eq verb (codes "check") then Check net file
    else if bytes_eq verb (codes "buffers") then Buffers net file
    else if bytes_eq verb (codes "conform") then Conform net file
    else if bytes_eq verb (codes "admit") then Admit net file
    else if bytes_eq verb (codes "witness") then Witness net file
    else if bytes_eq verb (codes "fit") then Fit net file
    else if bytes_eq verb (codes "lrq") then lrq_with_one net file
    else Unknown

-- with three
unfoldable pub with_three : List ℕ → List ℕ → List ℕ → List ℕ → Command
with_three verb net second third =
    if bytes_eq verb (codes "replay") then replay_in net second (order_named third)
    else if bytes_eq verb (codes "generate") then generate_in net (seed_named second) (count_named third)
    else if bytes_eq verb (codes "releases") then Releases net second third
    else if bytes_eq verb (codes "lrq") then lrq_with_two net second third
    else Unknown

-- with four
unfoldable pub with_four : List ℕ → List ℕ → List ℕ → List ℕ → List ℕ → Command
with_four verb net second third fourth =
    if bytes_eq verb (codes "capture") then capture_in net second third (order_named fourth)
    else if bytes_eq verb (codes "buffers") then peaks_in net second third (order_named fourth)
    else if bytes_eq verb (codes "record") then record_in net second (order_named third) fourth
    else Unknown

-- the command that words name: a verb with its words, by their number
abbrev pub command_of : List (List ℕ) → Command
command_of (verb ∷ file ∷ []) = with_one verb file
command_of (verb ∷ net ∷ file ∷ []) = with_two verb net file
command_of (verb ∷ net ∷ second ∷ third ∷ []) = with_three verb net second third
command_of (verb ∷ net ∷ second ∷ third ∷ fourth ∷ []) = with_four verb net second third fourth
command_of words = Unknown

-- the words of a command that name files, from left to right
abbrev pub file_words : Command → List (List ℕ)
file_words (Shape file) = file ∷ []
file_words (Show net) = net ∷ []
file_words (Bound net) = net ∷ []
file_words (Explain net) = net ∷ []
file_words (Settings net) = net ∷ []
file_words (Check net certificate) = net ∷ certificate ∷ []
file_words (Buffers net certificate) = net ∷ certificate ∷ []
file_words (Conform net schedule) = net ∷ schedule ∷ []
file_words (Admit net requests) = net ∷ requests ∷ []
file_words (Replay net schedule order) = net ∷ schedule ∷ []
file_words (Capture net station file order) = net ∷ file ∷ []
file_words (Generate net seed count) = net ∷ []
file_words (Peaks net certificate schedule order) = net ∷ certificate ∷ schedule ∷ []
file_words (LrqShape file) = file ∷ []
file_words (LrqBound net) = net ∷ []
file_words (LrqCheck net certificate) = net ∷ certificate ∷ []
file_words (Record net schedule order port) = net ∷ schedule ∷ []
file_words (Witness net name) = net ∷ []
file_words (Releases net station file) = net ∷ file ∷ []
file_words (Fit net schedule) = net ∷ schedule ∷ []
file_words Unknown = []
