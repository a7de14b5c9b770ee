use Rattle.std.specs.Prelude.{◌≡◌, ◌↔◌, ℕ, List, All, Ok, IsErr}
use Rattle.ats_network.specs.Network.{DeclaredNetwork, IsNetwork}
use Rattle.ats_certificate.specs.Certificate.{Holds}
use Rattle.ats_certificate.specs.declared.row.Row.{Row}
use Rattle.ats_tally.specs.declared.reason.Reason.TheVariants.{Overloaded}
use Rattle.ats_bound.specs.First.{IsFirstOverload}
use Rattle.ats_explain.specs.Laws.{Carries, IsClear, StreamAddsUp}
use Rattle.ats_explain_text.specs.Text.{explain_text}
use Rattle.ats_verdict_text.specs.Text.{reason_text, refused_text}
use Rattle.ats_command_input.specs.Input.{network_in}
use Rattle.ats_command_due.specs.Due.{explain_answer}
use Rattle.ats_command_input.specs.declared.status.Status.{Status}
use Rattle.ats_command_input.specs.declared.status.Status.TheVariants.{Done, Input, Refused}

-- a file of these bytes declares this network, of which no port and class is overloaded, and the text gives the parts
-- of the least bounds: at each hop each is what it stands for, they add up to the bound, and along each route to the
-- sum; and no stream is late and no frame may have to stay too long exactly where some certificate holds
pub record IsExplained (net bytes text : List ℕ) (network : DeclaredNetwork) : Type 0 where
  pub declared : network_in net bytes ≡ Ok network
  pub rules : IsNetwork network
  pub carries : Carries network
  pub adds_up : All (StreamAddsUp network) network.streams
  pub clear : IsClear network ↔ ((rows : List Row) × Holds network rows)
  pub written : text ≡ explain_text network

-- it declares this network, of which a port and class is overloaded: the text gives the first with its load, and no
-- certificate holds
pub record IsOverloaded (net bytes text : List ℕ) (network : DeclaredNetwork) (port class load : ℕ) : Type 0 where
  pub declared : network_in net bytes ≡ Ok network
  pub rules : IsNetwork network
  pub first : IsFirstOverload network port class load
  pub none_holds : (rows : List Row) → ¬ Holds network rows
  pub written : text ≡ refused_text (reason_text network.topology (Overloaded port class load))

-- what an answer to `explain NET` says of the bytes of the file, by its text and status; four statuses never come
abbrev pub ExplainSays : List ℕ → List ℕ → List ℕ → Status → Type 0
ExplainSays net bytes text Done = (network : DeclaredNetwork) × IsExplained net bytes text network
ExplainSays net bytes text Input = IsErr (network_in net bytes)
ExplainSays net bytes text Refused =
    (network : DeclaredNetwork) × (port : ℕ) × (class : ℕ) × (load : ℕ)
    × IsOverloaded net bytes text network port class load
ExplainSays net bytes text status = ⊥

-- so for each file word and all bytes
abbrev pub ExplainMeans : Type 0
ExplainMeans = (net bytes : List ℕ)
    → ExplainSays net bytes (explain_answer net bytes).text (explain_answer net bytes).status
