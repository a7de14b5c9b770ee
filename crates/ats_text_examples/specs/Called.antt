use Rattle.std.specs.Prelude.{◌≡◌, ◌<◌, ℕ, List, [], ◌∷◌, ◌++◌, codes, Some, None, Ok, Err}
use Rattle.ats_command_input.specs.Answer.{Answer, HasText}
use Rattle.ats_command_input.specs.Command.{Shape, Show, Bound, Explain, Check, Conform, Admit, Replay, Capture}
use Rattle.ats_command_input.specs.Command.{Generate, Settings, Buffers, Peaks, LrqShape, LrqBound, LrqCheck, Unknown}
use Rattle.ats_command_input.specs.Command.{Record, Witness, Releases, Fit}
use Rattle.ats_command_input.specs.Command.{command_of, file_words}
use Rattle.ats_command_input.specs.Order.{order_named, key_of, wait_of}
use Rattle.ats_command_input.specs.Port.{port_in}
use Rattle.ats_command_input.specs.Station.{station_in}
use Rattle.ats_command_input.specs.Status.{code_of}
use Rattle.ats_command_input.specs.Stream.{stream_in}
use Rattle.ats_command_input.specs.declared.order.Order.TheVariants.{Early, Late, Mixed}
use Rattle.ats_command_input.specs.declared.status.Status.TheVariants as status
use Rattle.ats_text_examples.specs.Worked.{way}

-- The words of calls, and their exit codes.

-- a verb, and the words behind it in their places; other words are no command
pub record VerbsAreCommands : Type 0 where
  pub shape : command_of (codes "shape" ∷ codes "x" ∷ []) ≡ Shape (codes "x")
  pub show : command_of (codes "show" ∷ codes "n" ∷ []) ≡ Show (codes "n")
  pub bound : command_of (codes "bound" ∷ codes "n" ∷ []) ≡ Bound (codes "n")
  pub explain : command_of (codes "explain" ∷ codes "n" ∷ []) ≡ Explain (codes "n")
  pub settings : command_of (codes "settings" ∷ codes "n" ∷ []) ≡ Settings (codes "n")
  pub check : command_of (codes "check" ∷ codes "n" ∷ codes "x" ∷ []) ≡ Check (codes "n") (codes "x")
  pub conform : command_of (codes "conform" ∷ codes "n" ∷ codes "x" ∷ []) ≡ Conform (codes "n") (codes "x")
  pub admit : command_of (codes "admit" ∷ codes "n" ∷ codes "x" ∷ []) ≡ Admit (codes "n") (codes "x")
  pub replay : command_of (codes "replay" ∷ codes "n" ∷ codes "x" ∷ codes "late" ∷ [])
      ≡ Replay (codes "n") (codes "x") Late
  pub capture : command_of (codes "capture" ∷ codes "n" ∷ codes "s" ∷ codes "x" ∷ codes "mixed:3" ∷ [])
      ≡ Capture (codes "n") (codes "s") (codes "x") (Mixed 3)
  pub generate : command_of (codes "generate" ∷ codes "n" ∷ codes "4" ∷ codes "5" ∷ []) ≡ Generate (codes "n") 4 5
  pub buffers : command_of (codes "buffers" ∷ codes "n" ∷ codes "x" ∷ []) ≡ Buffers (codes "n") (codes "x")
  pub peaks : command_of (codes "buffers" ∷ codes "n" ∷ codes "x" ∷ codes "y" ∷ codes "early" ∷ [])
      ≡ Peaks (codes "n") (codes "x") (codes "y") Early
  pub lrq_shape : command_of (codes "lrq" ∷ codes "shape" ∷ codes "x" ∷ []) ≡ LrqShape (codes "x")
  pub lrq_bound : command_of (codes "lrq" ∷ codes "bound" ∷ codes "n" ∷ []) ≡ LrqBound (codes "n")
  pub lrq_check : command_of (codes "lrq" ∷ codes "check" ∷ codes "n" ∷ codes "x" ∷ [])
      ≡ LrqCheck (codes "n") (codes "x")
  pub no_lrq : command_of (codes "lrq" ∷ codes "show" ∷ codes "n" ∷ []) ≡ Unknown
  pub port_record : command_of (codes "record" ∷ codes "n" ∷ codes "x" ∷ codes "late" ∷ codes "p" ∷ [])
      ≡ Record (codes "n") (codes "x") Late (codes "p")
  pub no_record : command_of (codes "record" ∷ codes "n" ∷ codes "x" ∷ codes "p" ∷ codes "late" ∷ []) ≡ Unknown
  pub found : command_of (codes "witness" ∷ codes "n" ∷ codes "a" ∷ []) ≡ Witness (codes "n") (codes "a")
  pub releases : command_of (codes "releases" ∷ codes "n" ∷ codes "s" ∷ codes "x" ∷ [])
      ≡ Releases (codes "n") (codes "s") (codes "x")
  pub fit : command_of (codes "fit" ∷ codes "n" ∷ codes "x" ∷ []) ≡ Fit (codes "n") (codes "x")
  pub no_verb : command_of (codes "Check" ∷ codes "n" ∷ codes "x" ∷ []) ≡ Unknown
  pub no_file : command_of (codes "check" ∷ codes "n" ∷ []) ≡ Unknown
  pub no_order : command_of (codes "replay" ∷ codes "n" ∷ codes "x" ∷ codes "mixed" ∷ []) ≡ Unknown
  pub none_made : command_of (codes "generate" ∷ codes "n" ∷ codes "4" ∷ codes "0" ∷ []) ≡ Unknown
  pub three_files : file_words (Peaks (codes "n") (codes "x") (codes "y") Early)
      ≡ codes "n" ∷ codes "x" ∷ codes "y" ∷ []
  pub files : file_words (Capture (codes "n") (codes "s") (codes "x") Early) ≡ codes "n" ∷ codes "x" ∷ []

-- to a word that names no station of the worked network
abbrev pub no_station : List ℕ → Answer
no_station word = record { status = status.Refused; text = codes "refused station " ++ word ++ codes "\n" }

-- the stations of the worked network by their words, each with its number. A bridge is none, nor is another word, nor
-- one that is no name
pub record StationsAreNamed : Type 0 where
  pub first : station_in way.topology (codes "s1") ≡ Ok 0
  pub second : station_in way.topology (codes "s2") ≡ Ok 1
  pub bridge : station_in way.topology (codes "b1") ≡ Err (no_station (codes "b1"))
  pub other : station_in way.topology (codes "s3") ≡ Err (no_station (codes "s3"))
  pub front : station_in way.topology (codes "s") ≡ Err (no_station (codes "s"))
  pub no_name : station_in way.topology (codes "s 1") ≡ Err (no_station (codes "s 1"))

-- to a word that names no port of it, and to one that names no stream
abbrev pub no_port : List ℕ → Answer
no_port word = record { status = status.Refused; text = codes "refused port " ++ word ++ codes "\n" }

abbrev pub no_stream : List ℕ → Answer
no_stream word = record { status = status.Refused; text = codes "refused stream " ++ word ++ codes "\n" }

-- its ports by their words, each with its number: two of one link, and the last. Two nodes that no link joins are none,
-- nor is a node alone
pub record PortsAreNamed : Type 0 where
  pub first : port_in way.topology (codes "s1>b1") ≡ Ok 0
  pub back : port_in way.topology (codes "b1>s1") ≡ Ok 1
  pub last : port_in way.topology (codes "s2>b2") ≡ Ok 5
  pub apart : port_in way.topology (codes "s1>b2") ≡ Err (no_port (codes "s1>b2"))
  pub node : port_in way.topology (codes "s1") ≡ Err (no_port (codes "s1"))

-- its streams by their words. A flow is none
pub record StreamsAreNamed : Type 0 where
  pub first : stream_in way.streams (codes "u") ≡ Ok 0
  pub second : stream_in way.streams (codes "v") ≡ Ok 1
  pub flow : stream_in way.streams (codes "f") ≡ Err (no_stream (codes "f"))
  pub other : stream_in way.streams (codes "w") ≡ Err (no_stream (codes "w"))

-- the words of orders. By `early` the frame of the lesser number goes first, by `late` that of the sender of the
-- greater number, and by `mixed:1` the numbers of each two senders are exchanged, by `mixed:5` also 3 and 6. By `early`
-- no frame takes more time than it must, by `late` each takes the whole spread, and frame 6 takes 7 ps of it by
-- `mixed:1` and 3 ps by `mixed:5`; of a spread of 5 ps it takes 4 ps by `mixed:12`
pub record OrdersAreNamed : Type 0 where
  pub early : order_named (codes "early") ≡ Some Early
  pub late : order_named (codes "late") ≡ Some Late
  pub mixed : order_named (codes "mixed:4294967295") ≡ Some (Mixed 4294967295)
  pub no_mixed : order_named (codes "mixed:4294967296") ≡ None
  pub none : order_named (codes "Early") ≡ None
  pub lesser_frame : key_of Early 3 4 < key_of Early 2 5
  pub greater_sender : key_of Late 3 5 < key_of Late 2 4
  pub then_frame : key_of Late 3 4 < key_of Late 3 5
  pub exchanged : key_of (Mixed 1) 3 5 < key_of (Mixed 1) 2 4
  pub kept_by_one : key_of (Mixed 1) 3 9 < key_of (Mixed 1) 6 8
  pub exchanged_by_five : key_of (Mixed 5) 6 9 < key_of (Mixed 5) 3 8
  pub then_frame_by_five : key_of (Mixed 5) 6 8 < key_of (Mixed 5) 6 9
  pub no_wait : wait_of Early 6 100 ≡ 0
  pub whole_wait : wait_of Late 6 100 ≡ 100
  pub some_wait : wait_of (Mixed 1) 6 100 ≡ 7
  pub less_by_five : wait_of (Mixed 5) 6 100 ≡ 3
  pub rest_by_twelve : wait_of (Mixed 12) 6 5 ≡ 4

-- a call that is done prints a text, and so does one that ends by its words, a file or a refusal; where reading,
-- writing or memory failed, there need be none
pub record TextsArePrinted : Type 0 where
  pub done : HasText status.Done
  pub words : HasText status.Words
  pub input : HasText status.Input
  pub refused : HasText status.Refused
  pub read_failed : ¬ HasText status.ReadFailed
  pub write_failed : ¬ HasText status.WriteFailed
  pub no_memory : ¬ HasText status.NoMemory

-- seven statuses, seven exit codes
pub record CodesAreSeven : Type 0 where
  pub done : code_of status.Done ≡ 0
  pub words : code_of status.Words ≡ 1
  pub input : code_of status.Input ≡ 2
  pub refused : code_of status.Refused ≡ 3
  pub read_failed : code_of status.ReadFailed ≡ 4
  pub write_failed : code_of status.WriteFailed ≡ 5
  pub no_memory : code_of status.NoMemory ≡ 6

pub record CallsAreNamed : Type 0 where
  pub verbs : VerbsAreCommands
  pub stations : StationsAreNamed
  pub ports : PortsAreNamed
  pub streams : StreamsAreNamed
  pub orders : OrdersAreNamed
  pub exit_codes : CodesAreSeven
  pub printed : TextsArePrinted
