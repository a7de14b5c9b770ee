use Rattle.std.specs.Prelude.{◌≡◌, ℕ, List, [], ◌∷◌, codes, Some, None}
use Rattle.ats_command_input.specs.Command.{Admit, Bound, Buffers, Capture, Check, Conform, Explain, Fit, Generate}
use Rattle.ats_command_input.specs.Command.{LrqBound, LrqCheck, LrqShape, Peaks, Record, Releases, Replay, Settings}
use Rattle.ats_command_input.specs.Command.{Shape, Show, Unknown, Witness, command_of, file_words}
use Rattle.ats_command_input.specs.Making.{count_named, seed_named}
use Rattle.ats_command_input.specs.Order.{order_named}
use Rattle.ats_command_input.specs.declared.order.Order.{Order}

-- Commands, whatever the words behind their verbs are.

-- a verb with as many words as it takes is its command, whatever the words are. Refuses a table by which a word may not
-- be empty, begin with `-`, or be the same as another
pub record WordsAreTaken : Type 0 where
  pub shape : (file : List ℕ) → command_of (codes "shape" ∷ file ∷ []) ≡ Shape file
  pub show : (net : List ℕ) → command_of (codes "show" ∷ net ∷ []) ≡ Show net
  pub bound : (net : List ℕ) → command_of (codes "bound" ∷ net ∷ []) ≡ Bound net
  pub explain : (net : List ℕ) → command_of (codes "explain" ∷ net ∷ []) ≡ Explain net
  pub settings : (net : List ℕ) → command_of (codes "settings" ∷ net ∷ []) ≡ Settings net
  pub check : (net file : List ℕ) → command_of (codes "check" ∷ net ∷ file ∷ []) ≡ Check net file
  pub buffers : (net file : List ℕ) → command_of (codes "buffers" ∷ net ∷ file ∷ []) ≡ Buffers net file
  pub conform : (net file : List ℕ) → command_of (codes "conform" ∷ net ∷ file ∷ []) ≡ Conform net file
  pub admit : (net file : List ℕ) → command_of (codes "admit" ∷ net ∷ file ∷ []) ≡ Admit net file
  pub found : (net name : List ℕ) → command_of (codes "witness" ∷ net ∷ name ∷ []) ≡ Witness net name
  pub fit : (net file : List ℕ) → command_of (codes "fit" ∷ net ∷ file ∷ []) ≡ Fit net file
  pub releases : (net station file : List ℕ)
      → command_of (codes "releases" ∷ net ∷ station ∷ file ∷ []) ≡ Releases net station file
  pub lrq_shape : (file : List ℕ) → command_of (codes "lrq" ∷ codes "shape" ∷ file ∷ []) ≡ LrqShape file
  pub lrq_bound : (net : List ℕ) → command_of (codes "lrq" ∷ codes "bound" ∷ net ∷ []) ≡ LrqBound net
  pub lrq_check : (net file : List ℕ)
      → command_of (codes "lrq" ∷ codes "check" ∷ net ∷ file ∷ []) ≡ LrqCheck net file

-- so is a verb with the word of an order, or with numbers, whatever the others are
pub record OrdersAreTaken : Type 0 where
  pub replay : (net file word : List ℕ) (order : Order) → order_named word ≡ Some order
      → command_of (codes "replay" ∷ net ∷ file ∷ word ∷ []) ≡ Replay net file order
  pub capture : (net station file word : List ℕ) (order : Order) → order_named word ≡ Some order
      → command_of (codes "capture" ∷ net ∷ station ∷ file ∷ word ∷ []) ≡ Capture net station file order
  pub peaks : (net rows file word : List ℕ) (order : Order) → order_named word ≡ Some order
      → command_of (codes "buffers" ∷ net ∷ rows ∷ file ∷ word ∷ []) ≡ Peaks net rows file order
  pub port_record : (net file word port : List ℕ) (order : Order) → order_named word ≡ Some order
      → command_of (codes "record" ∷ net ∷ file ∷ word ∷ port ∷ []) ≡ Record net file order port
  pub generate : (net first second : List ℕ) (seed count : ℕ) → seed_named first ≡ Some seed
      → count_named second ≡ Some count
      → command_of (codes "generate" ∷ net ∷ first ∷ second ∷ []) ≡ Generate net seed count

-- and where the word is that of no order, or of no number, there is no command. Refuses an order in place of none
pub record OrdersAreNeeded : Type 0 where
  pub replay : (net file word : List ℕ) → order_named word ≡ None
      → command_of (codes "replay" ∷ net ∷ file ∷ word ∷ []) ≡ Unknown
  pub capture : (net station file word : List ℕ) → order_named word ≡ None
      → command_of (codes "capture" ∷ net ∷ station ∷ file ∷ word ∷ []) ≡ Unknown
  pub peaks : (net rows file word : List ℕ) → order_named word ≡ None
      → command_of (codes "buffers" ∷ net ∷ rows ∷ file ∷ word ∷ []) ≡ Unknown
  pub port_record : (net file word port : List ℕ) → order_named word ≡ None
      → command_of (codes "record" ∷ net ∷ file ∷ word ∷ port ∷ []) ≡ Unknown
  pub no_seed : (net first second : List ℕ) → seed_named first ≡ None
      → command_of (codes "generate" ∷ net ∷ first ∷ second ∷ []) ≡ Unknown
  pub no_count : (net first second : List ℕ) (seed : ℕ) → seed_named first ≡ Some seed → count_named second ≡ None
      → command_of (codes "generate" ∷ net ∷ first ∷ second ∷ []) ≡ Unknown

-- the words that name files, in their order: not the names of stations, ports and streams. Refuses a file that is not
-- reached, and one that is reached too early
pub record FilesAreReached : Type 0 where
  pub shape : (file : List ℕ) → file_words (Shape file) ≡ file ∷ []
  pub show : (net : List ℕ) → file_words (Show net) ≡ net ∷ []
  pub bound : (net : List ℕ) → file_words (Bound net) ≡ net ∷ []
  pub explain : (net : List ℕ) → file_words (Explain net) ≡ net ∷ []
  pub settings : (net : List ℕ) → file_words (Settings net) ≡ net ∷ []
  pub check : (net file : List ℕ) → file_words (Check net file) ≡ net ∷ file ∷ []
  pub buffers : (net file : List ℕ) → file_words (Buffers net file) ≡ net ∷ file ∷ []
  pub conform : (net file : List ℕ) → file_words (Conform net file) ≡ net ∷ file ∷ []
  pub admit : (net file : List ℕ) → file_words (Admit net file) ≡ net ∷ file ∷ []
  pub found : (net name : List ℕ) → file_words (Witness net name) ≡ net ∷ []
  pub fit : (net file : List ℕ) → file_words (Fit net file) ≡ net ∷ file ∷ []
  pub releases : (net station file : List ℕ) → file_words (Releases net station file) ≡ net ∷ file ∷ []
  pub lrq_shape : (file : List ℕ) → file_words (LrqShape file) ≡ file ∷ []
  pub lrq_bound : (net : List ℕ) → file_words (LrqBound net) ≡ net ∷ []
  pub lrq_check : (net file : List ℕ) → file_words (LrqCheck net file) ≡ net ∷ file ∷ []
  pub replay : (net file : List ℕ) (order : Order) → file_words (Replay net file order) ≡ net ∷ file ∷ []
  pub capture : (net station file : List ℕ) (order : Order)
      → file_words (Capture net station file order) ≡ net ∷ file ∷ []
  pub peaks : (net rows file : List ℕ) (order : Order)
      → file_words (Peaks net rows file order) ≡ net ∷ rows ∷ file ∷ []
  pub port_record : (net file port : List ℕ) (order : Order)
      → file_words (Record net file order port) ≡ net ∷ file ∷ []
  pub generate : (net : List ℕ) (seed count : ℕ) → file_words (Generate net seed count) ≡ net ∷ []
  pub unknown : file_words Unknown ≡ []

pub record WordsAreAny : Type 0 where
  pub files : WordsAreTaken
  pub orders : OrdersAreTaken
  pub needed : OrdersAreNeeded
  pub reached : FilesAreReached
