use Rattle.std.specs.Prelude.{◌≡◌, ℕ, List, Result, Ok, Err}
use Rattle.std.specs.Global.{Vec}
use Rattle.ats_network.specs.Network.{DeclaredNetwork}
use Rattle.ats_trace.specs.Journey.{Travel}
use Rattle.ats_trace.specs.declared.journey.Release.{Release}
use Rattle.ats_replay.specs.Departures.{departures_text}
use Rattle.ats_num.specs.Failure.{◌>>=◌}
use Rattle.ats_command_input.specs.Answer.{Answer}
use Rattle.ats_command_input.specs.Input.{network_in, releases_in}
pub use Rattle.ats_command_input.specs.Order.{IsRunIn, IsRunWith}
use Rattle.ats_command_input.specs.Outcome.{IsStopOf}
use Rattle.ats_command_input.specs.declared.order.Order.{Order}
use Rattle.ats_command_input.specs.declared.outcome.Stop.{Stop}
use Rattle.ats_command_input.specs.declared.status.Status.TheVariants.{Done}

-- a run in this order with exactly these releases, and a text that prints each field of each of its journeys
pub record IsReplay (order : Order) (network : DeclaredNetwork) (releases : List Release) (text : List ℕ)
    (run : List Travel) : Type 0 where
  pub is_run : IsRunIn order network releases run
  pub written : text ≡ departures_text network run

-- a text is that of some run in this order with exactly these releases
abbrev pub IsReplayText : Order → DeclaredNetwork → List Release → List ℕ → Type 0
IsReplayText order network releases text = (run : List Travel) × IsReplay order network releases text run

-- what is to be run
pub record Scheduled : Type 0 where
  pub network : DeclaredNetwork
  pub releases : List Release

-- the same of what is to be run
abbrev pub IsReplayed : Order → Scheduled → List ℕ → Type 0
IsReplayed order scheduled text = IsReplayText order scheduled.network scheduled.releases text

-- what two files of these bytes declare to be run, or the answer to the first fault; the network's is judged first
unfoldable pub scheduled_in : List ℕ → List ℕ → List ℕ → List ℕ → Result Scheduled Answer
scheduled_in net schedule net_bytes schedule_bytes = do
  network ← network_in net net_bytes
  releases ← releases_in network schedule schedule_bytes
  Ok (record { network = network; releases = releases })

-- an answer to a command that may print several texts: it is done and prints one of them, or it is the answer that
-- stands in their place
abbrev pub IsOneOf : {A : Type 0} → (A → List ℕ → Type 0) → Result A Answer → Answer → Type 0
IsOneOf Text (Ok x) answer = (answer.status ≡ Done) × Text x answer.text
IsOneOf Text (Err due) answer = answer ≡ due

-- what a call came to is one of the texts of what the bytes of a file give, or a stop in their place
abbrev pub GivesOne : {A : Type 0} → (A → List ℕ → Type 0) → Result (Vec ℕ) Stop → Result A Answer → Type 0
GivesOne {A} Text (Ok text) due = (x : A) × (due ≡ Ok x) × Text x text.items
GivesOne Text (Err stop) due = IsStopOf stop due
