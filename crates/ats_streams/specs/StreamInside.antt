use Rattle.ats_streams.specs.Stream.{DeclaredStream, branching_stream}
use Rattle.ats_streams.specs.declared.stream.Held.{Held}

-- what a stream declares, from what it holds
abbrev pub declared_in : Held → DeclaredStream
declared_in h =
    branching_stream h.name h.ports.items h.branches.items h.classes.items h.declared.rate h.declared.burst_bits
    h.declared.min_octets h.declared.max_octets h.deadline_ns h.identity
