use Rattle.std.specs.Prelude.{◌≡◌, ℕ, List, [], ◌∷◌, codes, Some, None, if◌then◌else◌}
use Rattle.std.specs.Str.{bytes_eq}
use Rattle.ats_command_input.specs.Command.{Admit, Bound, Buffers, Capture, Check, Conform, Explain, Fit, Generate}
use Rattle.ats_command_input.specs.Command.{LrqBound, LrqCheck, LrqShape, Peaks, Record, Releases, Replay, Settings}
use Rattle.ats_command_input.specs.Command.{Shape, Show, Unknown, Witness, capture_in, command_of, generate_in}
use Rattle.ats_command_input.specs.Command.{peaks_in, record_in, replay_in}
use Rattle.ats_command_input.specs.Making.{count_named, seed_named}
use Rattle.ats_command_input.specs.Order.{order_named}
use Rattle.ats_command_input.specs.declared.order.Order.{Order}

-- what each verb with as many words as it takes is, byte for byte, and that nothing else is a command: a verb alone,
-- another word in its place, fewer words or more
pub record VerbsAreRead : Type 0 where
  pub alone : (verb : List ℕ) → command_of (verb ∷ []) ≡ Unknown
  pub one : (verb file : List ℕ) → command_of (verb ∷ file ∷ [])
      ≡ (if bytes_eq verb (codes "shape") then Shape file
      else if bytes_eq verb (codes "show") then Show file
      else if bytes_eq verb (codes "bound") then Bound file
      else if bytes_eq verb (codes "explain") then Explain file
      else if bytes_eq verb (codes "settings") then Settings file
      else Unknown)
  pub two : (verb net file : List ℕ) → command_of (verb ∷ net ∷ file ∷ [])
      ≡ (if bytes_eq verb (codes "check") then Check net file
      else if bytes_eq verb (codes "buffers") then Buffers net file
      else if bytes_eq verb (codes "conform") then Conform net file
      else if bytes_eq verb (codes "admit") then Admit net file
      else if bytes_eq verb (codes "witness") then Witness net file
      else if bytes_eq verb (codes "fit") then Fit net file
      else if bytes_eq verb (codes "lrq")
      then (if bytes_eq net (codes "shape") then LrqShape file
      else if bytes_eq net (codes "bound") then LrqBound file
      else Unknown)
      else Unknown)
  pub three : (verb net second third : List ℕ) → command_of (verb ∷ net ∷ second ∷ third ∷ [])
      ≡ (if bytes_eq verb (codes "replay") then replay_in net second (order_named third)
      else if bytes_eq verb (codes "generate") then generate_in net (seed_named second) (count_named third)
      else if bytes_eq verb (codes "releases") then Releases net second third
      else if bytes_eq verb (codes "lrq")
      then (if bytes_eq net (codes "check") then LrqCheck second third else Unknown)
      else Unknown)
  pub four : (verb net second third fourth : List ℕ) → command_of (verb ∷ net ∷ second ∷ third ∷ fourth ∷ [])
      ≡ (if bytes_eq verb (codes "capture") then capture_in net second third (order_named fourth)
      else if bytes_eq verb (codes "buffers") then peaks_in net second third (order_named fourth)
      else if bytes_eq verb (codes "record") then record_in net second (order_named third) fourth
      else Unknown)
  pub more : (a b c d e f : List ℕ) (words : List (List ℕ)) → command_of (a ∷ b ∷ c ∷ d ∷ e ∷ f ∷ words) ≡ Unknown

-- where a word is to name an order, or two words numbers, there is the command with what they name; and where one names
-- none, there is none
pub record OrdersAreAsked : Type 0 where
  pub replay : (net file : List ℕ) (order : Order) → replay_in net file (Some order) ≡ Replay net file order
  pub no_replay : (net file : List ℕ) → replay_in net file None ≡ Unknown
  pub capture : (net station file : List ℕ) (order : Order)
      → capture_in net station file (Some order) ≡ Capture net station file order
  pub no_capture : (net station file : List ℕ) → capture_in net station file None ≡ Unknown
  pub peaks : (net rows file : List ℕ) (order : Order) → peaks_in net rows file (Some order) ≡ Peaks net rows file order
  pub no_peaks : (net rows file : List ℕ) → peaks_in net rows file None ≡ Unknown
  pub port_record : (net file port : List ℕ) (order : Order)
      → record_in net file (Some order) port ≡ Record net file order port
  pub no_record : (net file port : List ℕ) → record_in net file None port ≡ Unknown
  pub generate : (net : List ℕ) (seed count : ℕ)
      → generate_in net (Some seed) (Some count) ≡ Generate net seed count
  pub no_count : (net : List ℕ) (seed : ℕ) → generate_in net (Some seed) None ≡ Unknown
  pub no_seed : (net : List ℕ) (count : ℕ) → generate_in net None (Some count) ≡ Unknown
  pub neither : (net : List ℕ) → generate_in net None None ≡ Unknown

pub record VerbsAreNamed : Type 0 where
  pub read : VerbsAreRead
  pub orders : OrdersAreAsked
