use Rattle.std.specs.Prelude.{◌≡◌, ◌↔◌, ◌≤◌, None, Some}
use Rattle.ats_topology.specs.Topology.{DeclaredTopology, IsTopology}
use Rattle.ats_streams.specs.Stream.{DeclaredStream}
use Rattle.ats_streams.specs.declared.fault.StreamFault.TheVariants.{Limit}
use Rattle.ats_network.specs.Rates.{HasRates}
use Rattle.ats_network_file.specs.Senders.{rate_fault}

-- a stream has the fault of limits on rates and bursts by clocks exactly where it does not have, at each of its ports,
-- what a scheduler may have (IEEE Std 802.1Qcr, CommittedInformationRate and CommittedBurstSize), and no such fault
-- exactly where it has
pub record IsLimitedByRates (topology : DeclaredTopology) (stream : DeclaredStream) : Type 0 where
  pub over : rate_fault topology stream ≡ Some Limit ↔ ¬ HasRates topology stream
  pub within : rate_fault topology stream ≡ None ↔ HasRates topology stream

-- so it is of each stream that declares a rate; one without a rate breaks a rule before this one
abbrev pub LimitsAreMeant : Type 0
LimitsAreMeant = (topology : DeclaredTopology) (stream : DeclaredStream) → IsTopology topology → 1 ≤ stream.rate
    → IsLimitedByRates topology stream
