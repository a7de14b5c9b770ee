use Rattle.std.specs.Prelude.{ℕ, List, [], ◌++◌, codes, Option}
use Rattle.ats_network.specs.Network.{DeclaredNetwork}
use Rattle.ats_trace.specs.Journey.{Travel}
use Rattle.ats_trace.specs.declared.journey.Release.{Release}
use Rattle.ats_certificate.specs.declared.row.Row.{Row}
use Rattle.ats_command_input.specs.declared.order.Order.TheVariants.{Early}
use Rattle.ats_command_input.specs.declared.status.Status.TheVariants.{Done, Input, Refused}
use Rattle.ats_command_law.specs.ConformBounds.{AreTextsWithin}
use Rattle.ats_command_law.specs.GenerateMeaning.{IsMadeRun}
use Rattle.ats_command_law.specs.Meaning.{BoundSays}
use Rattle.ats_command_law.specs.ReplayMeaning.{AreTextsOf}
use Rattle.ats_call_examples.specs.Files.{late, long_schedule, network, no_text, rows, schedule, short_rows, told}
use Rattle.ats_call_examples.specs.Judged.{accepted}
use Rattle.ats_call_examples.specs.Run.{departures}

-- What words say that laws conclude of the bytes of files and of texts, on the files of the worked calls: of each some
-- of which it is so, beside others of which it is not.

-- these two texts are those of `check` and `replay` over what is told: so of frames of talkers that keep their buckets,
-- and so of all
abbrev pub TextsOf : (List ℕ → Option (List ℕ)) → List ℕ → List ℕ → Type 0
TextsOf tells checked replayed =
    (over : DeclaredNetwork) × (by_rows : List Row) × (releases : List Release) × (run : List Travel)
    × AreTextsOf tells (codes "n") (codes "c") (codes "s") Early checked replayed over by_rows releases run

abbrev pub TextsWithin : (List ℕ → Option (List ℕ)) → List ℕ → List ℕ → Type 0
TextsWithin tells checked replayed =
    (over : DeclaredNetwork) × (by_rows : List Row) × (releases : List Release) × (run : List Travel)
    × AreTextsWithin tells (codes "n") (codes "c") (codes "s") Early checked replayed over by_rows releases run

-- the texts of `check` and `replay` are such, and not with another for that of `check`. No texts are over a file that
-- is no network, rows with a bound that is 1 ps short, or a file that is no schedule; and where a frame is an octet
-- longer than its stream declares, none of all frames
pub record TextsAreTold : Type 0 where
  pub of_talkers : TextsOf (told network rows schedule) accepted departures
  pub of_all : TextsWithin (told network rows schedule) accepted departures
  pub not_other : (replayed : List ℕ) → ¬ TextsOf (told network rows schedule) [] replayed
  pub not_short : (checked replayed : List ℕ) → ¬ TextsOf (told network short_rows schedule) checked replayed
  pub not_declared : (checked replayed : List ℕ) → ¬ TextsOf (told no_text rows schedule) checked replayed
  pub not_scheduled : (checked replayed : List ℕ) → ¬ TextsOf (told network rows rows) checked replayed
  pub not_kept : (checked replayed : List ℕ) → ¬ TextsWithin (told network rows long_schedule) checked replayed

-- the text sums up a run of the one frame that is made from the seed 7 for the network of these bytes
abbrev pub MadeRunOf : List ℕ → List ℕ → Type 0
MadeRunOf bytes text = (over : DeclaredNetwork) × (releases : List Release) × (run : List Travel)
    × IsMadeRun (codes "n") bytes 7 1 text over releases run

abbrev pub reported : List ℕ
reported =
    codes "stream a frames 1 sunk 1 late 0 size 0 worst 24304000 bound 26672000\n"
    ++ codes "total frames 1 sunk 1 late 0 size 0\n"

-- that of `generate` does. There is none of a file that is no network; and the run has the releases that are made, of
-- which there is one
pub record MadeRunsAreTold : Type 0 where
  pub is : MadeRunOf network reported
  pub not_declared : (text : List ℕ) → ¬ MadeRunOf no_text text
  pub not_unmade : (text : List ℕ) (over : DeclaredNetwork) (run : List Travel)
      → ¬ IsMadeRun (codes "n") network 7 1 text over [] run
  pub not_without : (text : List ℕ) (over : DeclaredNetwork) (releases : List Release)
      → ¬ IsMadeRun (codes "n") network 7 1 text over releases []

-- what an answer to `bound` says is so of one with each status, and of none with another status; where it is done, with
-- no other text
pub record BoundIsTold : Type 0 where
  pub done : BoundSays (codes "n") network rows Done
  pub refused : BoundSays (codes "n") late (codes "refused deadline a 26672000\n") Refused
  pub input : BoundSays (codes "n") no_text (codes "input n not-toml\n") Input
  pub not_other : ¬ BoundSays (codes "n") network [] Done
  pub not_refused : (text : List ℕ) → ¬ BoundSays (codes "n") network text Refused
  pub not_input : (text : List ℕ) → ¬ BoundSays (codes "n") network text Input
  pub not_done : (text : List ℕ) → ¬ BoundSays (codes "n") late text Done
  pub no_other : ¬ BoundSays (codes "n") late [] Refused
  pub not_declared : (text : List ℕ) → ¬ BoundSays (codes "n") no_text text Done
  pub not_judged : (text : List ℕ) → ¬ BoundSays (codes "n") no_text text Refused

pub record TextsAreShown : Type 0 where
  pub texts : TextsAreTold
  pub made_runs : MadeRunsAreTold
  pub bound : BoundIsTold
