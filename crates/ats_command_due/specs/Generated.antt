use Rattle.std.specs.Prelude.{◌≡◌, ℕ, List, codes, Option, Some, None, Result, Ok, Err}
use Rattle.ats_network.specs.Network.{DeclaredNetwork}
use Rattle.ats_tally.specs.Delays.{sums_for}
use Rattle.ats_tally.specs.declared.reason.Reason.{Reason}
use Rattle.ats_bound.specs.Least.{least_certificate}
use Rattle.ats_bound.specs.Reason.{reason_of}
use Rattle.ats_trace.specs.Journey.{Travel}
use Rattle.ats_trace.specs.declared.journey.Release.{Release}
use Rattle.ats_gen.specs.Made.{AreMade, gen_fault}
use Rattle.ats_gen.specs.declared.fault.GenFault.{GenFault}
use Rattle.ats_gen.specs.declared.fault.GenFault.TheVariants.{NoStream, Limit}
use Rattle.ats_replay.specs.Report.{report_text}
use Rattle.ats_verdict_text.specs.Text.{refused_text}
use Rattle.ats_num.specs.Failure.{◌>>=◌}
use Rattle.ats_command_input.specs.Answer.{Answer}
use Rattle.ats_command_input.specs.Input.{network_in}
use Rattle.ats_command_input.specs.declared.order.Order.TheVariants.{Early}
use Rattle.ats_command_input.specs.declared.status.Status.TheVariants.{Refused}
use Rattle.ats_command_due.specs.Replayed.{IsRunIn}

-- for each listener, stream by stream, the sum of the least bounds along the route there, unless there is a reason why
-- no certificate holds
abbrev pub sums_unless : DeclaredNetwork → Option Reason → Option (List ℕ)
sums_unless network None = Some (sums_for network (least_certificate network))
sums_unless network (Some reason) = None

abbrev pub least_sums : DeclaredNetwork → Option (List ℕ)
least_sums network = sums_unless network (reason_of network)

-- a run in the order `early` with exactly these releases, and a text that says what came of each sender's frames for
-- each listener, with the sums of the least bounds
pub record IsReport (network : DeclaredNetwork) (releases : List Release) (text : List ℕ) (run : List Travel) : Type 0
  where
    pub is_run : IsRunIn Early network releases run
    pub written : text ≡ report_text network run (least_sums network)

-- a text is that of some such run
abbrev pub IsReportText : DeclaredNetwork → List Release → List ℕ → Type 0
IsReportText network releases text = (run : List Travel) × IsReport network releases text run

-- a text is that of some such run with the releases of so many frames that are made from a seed
abbrev pub IsGenerated : ℕ → ℕ → DeclaredNetwork → List ℕ → Type 0
IsGenerated seed count network text =
    (releases : List Release) × AreMade network seed count releases × IsReportText network releases text

-- why none are made, as it is printed
abbrev pub gen_fault_text : GenFault → List ℕ
gen_fault_text NoStream = codes "no-stream"
gen_fault_text Limit = codes "limit"

-- the network, unless no releases are made for it
abbrev pub network_unless : DeclaredNetwork → Option GenFault → Result DeclaredNetwork Answer
network_unless network None = Ok network
network_unless network (Some fault) =
    Err (record { status = Refused; text = refused_text (gen_fault_text fault) })

-- a network for which so many frames are made from a seed, or the answer where they are not
unfoldable pub made_for : ℕ → ℕ → DeclaredNetwork → Result DeclaredNetwork Answer
made_for seed count network = network_unless network (gen_fault network seed count)

-- the network that a file of these bytes declares, if so many frames are made for it from a seed, or the answer where
-- it has a fault or they are not
unfoldable pub generated_in : List ℕ → ℕ → ℕ → List ℕ → Result DeclaredNetwork Answer
generated_in net seed count bytes = do
  network ← network_in net bytes
  made_for seed count network
