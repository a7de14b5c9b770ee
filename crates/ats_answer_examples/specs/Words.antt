use Rattle.std.specs.Prelude.{◌≡◌, [], ◌∷◌, codes, Some, None}
use Rattle.ats_command_input.specs.Command.{command_of}
use Rattle.ats_command_input.specs.Command.{Generate, Unknown}
use Rattle.ats_command_input.specs.Order.{order_named}
use Rattle.ats_command_input.specs.declared.order.Order.TheVariants.{Mixed}

-- Words that are no command.

-- one word less or more than a command has
pub record TooFewAreNone : Type 0 where
  pub no_word : command_of [] ≡ Unknown
  pub shape : command_of (codes "shape" ∷ []) ≡ Unknown
  pub show : command_of (codes "show" ∷ []) ≡ Unknown
  pub bound : command_of (codes "bound" ∷ []) ≡ Unknown
  pub explain : command_of (codes "explain" ∷ []) ≡ Unknown
  pub settings : command_of (codes "settings" ∷ []) ≡ Unknown
  pub check : command_of (codes "check" ∷ codes "n" ∷ []) ≡ Unknown
  pub conform : command_of (codes "conform" ∷ codes "n" ∷ []) ≡ Unknown
  pub admit : command_of (codes "admit" ∷ codes "n" ∷ []) ≡ Unknown
  pub replay : command_of (codes "replay" ∷ codes "n" ∷ codes "x" ∷ []) ≡ Unknown
  pub capture : command_of (codes "capture" ∷ codes "n" ∷ codes "s" ∷ codes "late" ∷ []) ≡ Unknown
  pub generate : command_of (codes "generate" ∷ codes "n" ∷ codes "4" ∷ []) ≡ Unknown
  pub buffers : command_of (codes "buffers" ∷ codes "n" ∷ []) ≡ Unknown
  pub lrq : command_of (codes "lrq" ∷ []) ≡ Unknown
  pub lrq_shape : command_of (codes "lrq" ∷ codes "shape" ∷ []) ≡ Unknown
  pub lrq_bound : command_of (codes "lrq" ∷ codes "bound" ∷ []) ≡ Unknown
  pub lrq_check : command_of (codes "lrq" ∷ codes "check" ∷ codes "n" ∷ []) ≡ Unknown
  pub record_port : command_of (codes "record" ∷ codes "n" ∷ codes "x" ∷ codes "late" ∷ []) ≡ Unknown
  pub witness : command_of (codes "witness" ∷ codes "n" ∷ []) ≡ Unknown
  pub releases : command_of (codes "releases" ∷ codes "n" ∷ codes "s" ∷ []) ≡ Unknown
  pub fit : command_of (codes "fit" ∷ codes "n" ∷ []) ≡ Unknown

pub record TooManyAreNone : Type 0 where
  pub shape : command_of (codes "shape" ∷ codes "x" ∷ codes "y" ∷ []) ≡ Unknown
  pub show : command_of (codes "show" ∷ codes "n" ∷ codes "y" ∷ []) ≡ Unknown
  pub bound : command_of (codes "bound" ∷ codes "n" ∷ codes "y" ∷ []) ≡ Unknown
  pub explain : command_of (codes "explain" ∷ codes "n" ∷ codes "y" ∷ []) ≡ Unknown
  pub settings : command_of (codes "settings" ∷ codes "n" ∷ codes "y" ∷ []) ≡ Unknown
  pub check : command_of (codes "check" ∷ codes "n" ∷ codes "x" ∷ codes "y" ∷ []) ≡ Unknown
  pub conform : command_of (codes "conform" ∷ codes "n" ∷ codes "x" ∷ codes "y" ∷ []) ≡ Unknown
  pub admit : command_of (codes "admit" ∷ codes "n" ∷ codes "x" ∷ codes "y" ∷ []) ≡ Unknown
  pub replay : command_of (codes "replay" ∷ codes "n" ∷ codes "x" ∷ codes "y" ∷ codes "late" ∷ []) ≡ Unknown
  pub replay_behind : command_of (codes "replay" ∷ codes "n" ∷ codes "x" ∷ codes "late" ∷ codes "y" ∷ []) ≡ Unknown
  pub capture : command_of (codes "capture" ∷ codes "n" ∷ codes "s" ∷ codes "x" ∷ codes "late" ∷ codes "y" ∷ [])
      ≡ Unknown
  pub generate : command_of (codes "generate" ∷ codes "n" ∷ codes "4" ∷ codes "5" ∷ codes "6" ∷ []) ≡ Unknown
  pub buffers : command_of (codes "buffers" ∷ codes "n" ∷ codes "x" ∷ codes "y" ∷ []) ≡ Unknown
  pub peaks : command_of
      (codes "buffers" ∷ codes "n" ∷ codes "x" ∷ codes "y" ∷ codes "early" ∷ codes "z" ∷ []) ≡ Unknown
  pub lrq_shape : command_of (codes "lrq" ∷ codes "shape" ∷ codes "x" ∷ codes "y" ∷ []) ≡ Unknown
  pub lrq_bound : command_of (codes "lrq" ∷ codes "bound" ∷ codes "n" ∷ codes "y" ∷ []) ≡ Unknown
  pub lrq_check : command_of (codes "lrq" ∷ codes "check" ∷ codes "n" ∷ codes "x" ∷ codes "y" ∷ []) ≡ Unknown
  pub record_port : command_of
      (codes "record" ∷ codes "n" ∷ codes "x" ∷ codes "late" ∷ codes "p" ∷ codes "y" ∷ []) ≡ Unknown
  pub witness : command_of (codes "witness" ∷ codes "n" ∷ codes "a" ∷ codes "y" ∷ []) ≡ Unknown
  pub releases : command_of (codes "releases" ∷ codes "n" ∷ codes "s" ∷ codes "x" ∷ codes "late" ∷ []) ≡ Unknown
  pub fit : command_of (codes "fit" ∷ codes "n" ∷ codes "x" ∷ codes "y" ∷ []) ≡ Unknown

-- words that are not the one that should stand there: verbs, orders and numbers
pub record OthersAreNone : Type 0 where
  pub lrq_verb : command_of (codes "lrq" ∷ codes "conform" ∷ codes "n" ∷ codes "x" ∷ []) ≡ Unknown
  pub lrq_behind : command_of (codes "shape" ∷ codes "lrq" ∷ codes "x" ∷ []) ≡ Unknown
  pub front : command_of (codes "sho" ∷ codes "n" ∷ []) ≡ Unknown
  pub longer : command_of (codes "shown" ∷ codes "n" ∷ []) ≡ Unknown
  pub order_first : command_of (codes "replay" ∷ codes "n" ∷ codes "late" ∷ codes "x" ∷ []) ≡ Unknown
  pub replay_order : command_of (codes "replay" ∷ codes "n" ∷ codes "x" ∷ codes "first" ∷ []) ≡ Unknown
  pub capture_order : command_of (codes "capture" ∷ codes "n" ∷ codes "s" ∷ codes "x" ∷ codes "first" ∷ []) ≡ Unknown
  pub peaks_order : command_of (codes "buffers" ∷ codes "n" ∷ codes "x" ∷ codes "y" ∷ codes "first" ∷ []) ≡ Unknown
  pub record_order : command_of (codes "record" ∷ codes "n" ∷ codes "x" ∷ codes "first" ∷ codes "p" ∷ []) ≡ Unknown
  pub port_first : command_of (codes "record" ∷ codes "n" ∷ codes "x" ∷ codes "p" ∷ codes "late" ∷ []) ≡ Unknown
  pub seed : command_of (codes "generate" ∷ codes "n" ∷ codes "x" ∷ codes "5" ∷ []) ≡ Unknown
  pub seed_over : command_of (codes "generate" ∷ codes "n" ∷ codes "18446744073709551616" ∷ codes "5" ∷ []) ≡ Unknown
  pub greatest_seed : command_of (codes "generate" ∷ codes "n" ∷ codes "18446744073709551615" ∷ codes "5" ∷ [])
      ≡ Generate (codes "n") 18446744073709551615 5
  pub count : command_of (codes "generate" ∷ codes "n" ∷ codes "4" ∷ codes "x" ∷ []) ≡ Unknown
  pub count_over : command_of (codes "generate" ∷ codes "n" ∷ codes "4" ∷ codes "200001" ∷ []) ≡ Unknown
  pub greatest_count : command_of (codes "generate" ∷ codes "n" ∷ codes "4" ∷ codes "200000" ∷ [])
      ≡ Generate (codes "n") 4 200000

-- the number of a mixed order
pub record MixedAreNamed : Type 0 where
  pub least : order_named (codes "mixed:0") ≡ Some (Mixed 0)
  pub empty : order_named (codes "mixed:") ≡ None
  pub leading_zero : order_named (codes "mixed:07") ≡ None
  pub no_number : order_named (codes "mixed:x") ≡ None
  pub space : order_named (codes "mixed: 7") ≡ None
  pub no_colon : order_named (codes "mixed7") ≡ None
  pub other_word : order_named (codes "Mixed:7") ≡ None
  pub longer : order_named (codes "early:7") ≡ None

pub record WordsAreNone : Type 0 where
  pub few : TooFewAreNone
  pub many : TooManyAreNone
  pub others : OthersAreNone
  pub mixed : MixedAreNamed
