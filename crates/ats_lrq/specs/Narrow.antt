use Rattle.std.specs.Prelude.{map}
use Rattle.ats_num.specs.Wire.{bits_of}
use Rattle.ats_streams.specs.Stream.{DeclaredStream, with_burst}
use Rattle.ats_network.specs.Network.{DeclaredNetwork}

-- the stream with the wire bits of its longest frame as its burst
abbrev pub narrowed_stream : DeclaredStream → DeclaredStream
narrowed_stream stream = with_burst stream (bits_of stream.max_octets)

-- the network with each stream's burst narrowed so
abbrev pub narrowed : DeclaredNetwork → DeclaredNetwork
narrowed network = record network { streams = map narrowed_stream network.streams }
