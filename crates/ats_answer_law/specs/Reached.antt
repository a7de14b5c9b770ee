use Rattle.std.specs.Prelude.{◌≡◌, ◌≢◌, ℕ, List, Some, IsOk}
use Rattle.ats_num.specs.Failure.{◌>>=◌}
use Rattle.ats_command_input.specs.Command.{Check, Conform, Admit, Replay, Capture, Buffers, Peaks, LrqCheck, Record}
use Rattle.ats_command_input.specs.Command.{Releases, Fit}
use Rattle.ats_command_input.specs.Input.{network_in, rows_in}
use Rattle.ats_command_input.specs.Port.{port_in}
use Rattle.ats_command_input.specs.Station.{station_in}
use Rattle.ats_command_input.specs.declared.order.Order.{Order}
use Rattle.ats_command_due.specs.Due.{Reaches}
use Rattle.ats_answer_law.specs.Due.{Told}

-- Which files a command comes to: one behind another only where that one has no fault.

-- the bytes that are told under a name, if any are, declare a network
abbrev pub DeclaresNetwork : Told → List ℕ → Type 0
DeclaresNetwork told net = (bytes : List ℕ) → told net ≡ Some bytes → IsOk (network_in net bytes)

-- the second file of a command, and the third, where they have names of their own
pub record LaterFilesWait : Type 0 where
  pub check : (told : Told) (net file : List ℕ) → file ≢ net → Reaches told (Check net file) file
      → DeclaresNetwork told net
  pub buffers : (told : Told) (net file : List ℕ) → file ≢ net → Reaches told (Buffers net file) file
      → DeclaresNetwork told net
  pub conform : (told : Told) (net file : List ℕ) → file ≢ net → Reaches told (Conform net file) file
      → DeclaresNetwork told net
  pub admit : (told : Told) (net file : List ℕ) → file ≢ net → Reaches told (Admit net file) file
      → DeclaresNetwork told net
  pub lrq_check : (told : Told) (net file : List ℕ) → file ≢ net → Reaches told (LrqCheck net file) file
      → DeclaresNetwork told net
  pub replay : (told : Told) (net file : List ℕ) (order : Order) → file ≢ net
      → Reaches told (Replay net file order) file → DeclaresNetwork told net
  pub capture : (told : Told) (net station file : List ℕ) (order : Order) → file ≢ net
      → Reaches told (Capture net station file order) file
      → (bytes : List ℕ) → told net ≡ Some bytes
      → IsOk (network_in net bytes >>= λ network. station_in network.topology station)
  pub record_schedule : (told : Told) (net file port : List ℕ) (order : Order) → file ≢ net
      → Reaches told (Record net file order port) file
      → (bytes : List ℕ) → told net ≡ Some bytes
      → IsOk (network_in net bytes >>= λ network. port_in network.topology port)
  pub releases : (told : Told) (net station file : List ℕ) → file ≢ net
      → Reaches told (Releases net station file) file
      → (bytes : List ℕ) → told net ≡ Some bytes
      → IsOk (network_in net bytes >>= λ network. station_in network.topology station)
  pub fit : (told : Told) (net file : List ℕ) → file ≢ net → Reaches told (Fit net file) file
      → DeclaresNetwork told net
  pub rows : (told : Told) (net file schedule : List ℕ) (order : Order) → file ≢ net → file ≢ schedule
      → Reaches told (Peaks net file schedule order) file → DeclaresNetwork told net
  pub schedule : (told : Told) (net certificate file : List ℕ) (order : Order) → file ≢ net → file ≢ certificate
      → Reaches told (Peaks net certificate file order) file
      → (net_bytes : List ℕ) → told net ≡ Some net_bytes → (bytes : List ℕ) → told certificate ≡ Some bytes
      → IsOk (network_in net net_bytes >>= λ network. rows_in network.topology certificate bytes)
