use Rattle.std.specs.Prelude.{◌≡◌, ℕ, List, Ok, IsErr}
use Rattle.ats_network.specs.Network.{DeclaredNetwork, IsNetwork}
use Rattle.ats_network_text.specs.Text.{show_text}
use Rattle.ats_shape.specs.Shape.{DeclaredShape}
use Rattle.ats_shape.specs.Text.{text_of}
use Rattle.ats_command_input.specs.Input.{network_in, shape_in}
use Rattle.ats_command_input.specs.declared.status.Status.{Status}
use Rattle.ats_command_input.specs.declared.status.Status.TheVariants.{Done, Input}

-- a file of these bytes declares this shape, and the text gives the verdict on each of its frames
pub record IsShaped (file bytes text : List ℕ) (shape : DeclaredShape) : Type 0 where
  pub declared : shape_in file bytes ≡ Ok shape
  pub written : text ≡ text_of shape

-- what an answer to `shape FILE` says of the bytes of the file, by its text and status; five statuses never come
abbrev pub ShapeSays : List ℕ → List ℕ → List ℕ → Status → Type 0
ShapeSays file bytes text Done = (shape : DeclaredShape) × IsShaped file bytes text shape
ShapeSays file bytes text Input = IsErr (shape_in file bytes)
ShapeSays file bytes text status = ⊥

-- a file of these bytes declares this network, and the text gives its ports, streams and flows
pub record IsShown (net bytes text : List ℕ) (network : DeclaredNetwork) : Type 0 where
  pub declared : network_in net bytes ≡ Ok network
  pub rules : IsNetwork network
  pub written : text ≡ show_text network

-- what an answer to `show NET` says of the bytes of the file, by its text and status; five statuses never come
abbrev pub ShowSays : List ℕ → List ℕ → List ℕ → Status → Type 0
ShowSays net bytes text Done = (network : DeclaredNetwork) × IsShown net bytes text network
ShowSays net bytes text Input = IsErr (network_in net bytes)
ShowSays net bytes text status = ⊥
