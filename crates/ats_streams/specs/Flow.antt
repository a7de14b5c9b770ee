use Rattle.std.specs.Prelude.{ℕ, ◌||◌, nat_lt, if◌then◌else◌, List, [], ◌∷◌, length, Option, Some, None}
use Rattle.std.specs.Option.{option_or}
use Rattle.ats_num.specs.Wire.{IsFrameSize}
use Rattle.ats_num.specs.declared.wire.TheConstants.{MIN_OCTETS, MAX_OCTETS}
use Rattle.ats_streams.specs.Path.{IsPath}
use Rattle.ats_streams.specs.Stream.{route_fault}
use Rattle.ats_streams.specs.declared.fault.StreamFault.{StreamFault}
use Rattle.ats_streams.specs.declared.fault.StreamFault.TheVariants.{BadSizes, Limit}
use Rattle.ats_streams.specs.declared.path.TheConstants.{MAX_PORTS}

-- what a flow declares: its name's bytes, the numbers of its ports, and its greatest octets
pub record DeclaredFlow : Type 0 where
  pub name : List ℕ
  pub path : List ℕ
  pub max_octets : ℕ

-- these as one declaration
abbrev pub declared_flow : List ℕ → List ℕ → ℕ → DeclaredFlow
declared_flow name path max_octets = record { name = name; path = path; max_octets = max_octets }

-- what each flow keeps
pub record IsFlow (flow : DeclaredFlow) : Type 0 where
  pub size : IsFrameSize flow.max_octets
  pub path : IsPath flow.path

-- the first rule that a flow breaks, if it breaks one: its greatest octets make a frame, and it has 1 to 64 ports
abbrev pub flow_fault : DeclaredFlow → Option StreamFault
flow_fault flow =
    if nat_lt flow.max_octets MIN_OCTETS || nat_lt MAX_OCTETS flow.max_octets then Some BadSizes
    else if nat_lt (length flow.path) 1 || nat_lt MAX_PORTS (length flow.path) then Some Limit
    else None

-- the first rule that a flow breaks whose path may have so many ports: those of each flow, then this limit
abbrev pub flow_fault_within : ℕ → DeclaredFlow → Option StreamFault
flow_fault_within most flow = option_or (flow_fault flow) (route_fault most (flow.path ∷ []))
