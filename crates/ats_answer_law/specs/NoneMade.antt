use Rattle.std.specs.Prelude.{◌≡◌, ◌⊎◌, ℕ, ◌<◌, length, Some, None, Ok, Err}
use Rattle.std.specs.List.{Any}
use Rattle.ats_network.specs.Network.{DeclaredNetwork}
use Rattle.ats_trace.specs.Releases.{HaveFewPorts}
use Rattle.ats_trace.specs.declared.journey.Release.{Release}
use Rattle.ats_trace.specs.declared.run.TheConstants.{MAX_RELEASE_PS}
use Rattle.ats_gen.specs.Made.{gen_fault, made}
use Rattle.ats_gen.specs.declared.fault.GenFault.{GenFault}
use Rattle.ats_gen.specs.declared.fault.GenFault.TheVariants.{NoStream, Limit}
use Rattle.ats_verdict_text.specs.Text.{refused_text}
use Rattle.ats_command_input.specs.declared.status.Status.TheVariants.{Refused}
use Rattle.ats_command_due.specs.Generated.{gen_fault_text, made_for}

-- What it means that `generate` makes no releases.

-- what a fault says of a network for which the releases of so many frames are made from a seed: there is no stream; or
-- one of the releases is later than those of a run may be, or their frames have more ports together than a run may have
abbrev pub IsWhyNoneMade : DeclaredNetwork → ℕ → ℕ → GenFault → Type 0
IsWhyNoneMade network seed count NoStream = length network.streams ≡ 0
IsWhyNoneMade network seed count Limit =
    Any (λ (r : Release). MAX_RELEASE_PS < r.at.0) (made network seed count)
    ⊎ (¬ HaveFewPorts network (made network seed count))

-- so it is of each fault for which none are made
abbrev pub NoneAreMadeForFaults : Type 0
NoneAreMadeForFaults = (network : DeclaredNetwork) (seed count : ℕ) (fault : GenFault)
    → gen_fault network seed count ≡ Some fault → IsWhyNoneMade network seed count fault

-- where there is such a fault, `generate` is refused with its words, and else the network is run, in all other cases
pub record FaultsLeaveNone : Type 0 where
  pub faulted : (network : DeclaredNetwork) (seed count : ℕ) (fault : GenFault)
      → gen_fault network seed count ≡ Some fault
      → made_for seed count network
      ≡ Err (record { status = Refused; text = refused_text (gen_fault_text fault) })
  pub faultless : (network : DeclaredNetwork) (seed count : ℕ) → gen_fault network seed count ≡ None
      → made_for seed count network ≡ Ok network
