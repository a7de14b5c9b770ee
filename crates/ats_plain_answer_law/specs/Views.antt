use Rattle.std.specs.Prelude.{◌≡◌, ℕ, List}
use Rattle.std.specs.Borrow.{Bor}
use Rattle.ats_command_input.specs.Command as table
use Rattle.ats_command_input.specs.Named.{view}
use Rattle.ats_command_input.specs.declared.command.Command.TheVariants.{Admit, Bound, Buffers, Capture, Check, Conform}
use Rattle.ats_command_input.specs.declared.command.Command.TheVariants.{Explain, Fit, Generate, LrqBound, LrqCheck}
use Rattle.ats_command_input.specs.declared.command.Command.TheVariants.{LrqShape, Peaks, Record, Releases, Replay}
use Rattle.ats_command_input.specs.declared.command.Command.TheVariants.{Settings, Shape, Show, Witness}
use Rattle.ats_command_input.specs.declared.making.FrameCount.{FrameCount}
use Rattle.ats_command_input.specs.declared.order.Order.{Order}

-- the program's value of a command stands for the line of the table with its words, each in its place
pub record ViewsAreNamed : Type 0 where
  pub shape : (file : Bor (List ℕ)) → view (Shape file) ≡ table.Shape file.now
  pub show : (net : Bor (List ℕ)) → view (Show net) ≡ table.Show net.now
  pub bound : (net : Bor (List ℕ)) → view (Bound net) ≡ table.Bound net.now
  pub explain : (net : Bor (List ℕ)) → view (Explain net) ≡ table.Explain net.now
  pub settings : (net : Bor (List ℕ)) → view (Settings net) ≡ table.Settings net.now
  pub check : (net certificate : Bor (List ℕ)) → view (Check net certificate)
      ≡ table.Check net.now certificate.now
  pub buffers : (net certificate : Bor (List ℕ)) → view (Buffers net certificate)
      ≡ table.Buffers net.now certificate.now
  pub conform : (net schedule : Bor (List ℕ)) → view (Conform net schedule) ≡ table.Conform net.now schedule.now
  pub admit : (net requests : Bor (List ℕ)) → view (Admit net requests) ≡ table.Admit net.now requests.now
  pub replay : (net schedule : Bor (List ℕ)) (order : Order) → view (Replay net schedule order)
      ≡ table.Replay net.now schedule.now order
  pub capture : (net station file : Bor (List ℕ)) (order : Order) → view (Capture net station file order)
      ≡ table.Capture net.now station.now file.now order
  pub generate : (net : Bor (List ℕ)) (seed : ℕ) (count : FrameCount) → view (Generate net seed count)
      ≡ table.Generate net.now seed count.frames
  pub peaks : (net certificate schedule : Bor (List ℕ)) (order : Order) → view (Peaks net certificate schedule order)
      ≡ table.Peaks net.now certificate.now schedule.now order
  pub lrq_shape : (file : Bor (List ℕ)) → view (LrqShape file) ≡ table.LrqShape file.now
  pub lrq_bound : (net : Bor (List ℕ)) → view (LrqBound net) ≡ table.LrqBound net.now
  pub lrq_check : (net certificate : Bor (List ℕ)) → view (LrqCheck net certificate)
      ≡ table.LrqCheck net.now certificate.now
  pub of_port : (net schedule port : Bor (List ℕ)) (order : Order) → view (Record net schedule order port)
      ≡ table.Record net.now schedule.now order port.now
  pub witness : (net name : Bor (List ℕ)) → view (Witness net name) ≡ table.Witness net.now name.now
  pub releases : (net station file : Bor (List ℕ)) → view (Releases net station file)
      ≡ table.Releases net.now station.now file.now
  pub fit : (net schedule : Bor (List ℕ)) → view (Fit net schedule) ≡ table.Fit net.now schedule.now
