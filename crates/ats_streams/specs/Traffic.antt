use Rattle.std.specs.Prelude.{ℕ, Bool, ◌&&◌, nat_le}
use Rattle.ats_streams.specs.Rules.{KeepsRules}
use Rattle.ats_streams.specs.Stream.{DeclaredStream}
use Rattle.ats_streams.specs.declared.traffic.Declared.{Declared}

-- these as what is declared of a stream: its rate in bits per second, its burst in bits, its least and greatest octets
abbrev pub declared_as : ℕ → ℕ → ℕ → ℕ → Declared
declared_as rate_bps burst_bits min_octets max_octets =
    record { rate = rate_bps; burst_bits = burst_bits; min_octets = min_octets; max_octets = max_octets }

-- what a stream declares of its rate, burst and sizes
abbrev pub traffic_of : DeclaredStream → Declared
traffic_of stream = declared_as stream.rate stream.burst_bits stream.min_octets stream.max_octets

-- what is declared keeps the rules of a stream
abbrev pub IsRuled : Declared → Type 0
IsRuled declared = KeepsRules declared.rate declared.burst_bits declared.min_octets declared.max_octets

-- a frame of so many octets is within the declared sizes
abbrev pub is_declared_size : Declared → ℕ → Bool
is_declared_size declared octets = nat_le declared.min_octets octets && nat_le octets declared.max_octets
