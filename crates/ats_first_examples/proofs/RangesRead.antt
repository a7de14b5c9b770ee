use Rattle.std.proofs.Common.{refl}
use Rattle.ats_first_examples.specs.Ranges.{NodesAreShort, RangesAreRead, SendersAreLong}

-- Numbers of 32 bits and longer ones, by computation.

nodes_are_short : NodesAreShort
nodes_are_short = record { least = refl; greatest = refl; residence = refl; rate = refl; time = refl }

senders_are_long : SendersAreLong
senders_are_long = record { stream = refl; flow = refl; local = refl; local_flow = refl }

pub ranges_are_read : RangesAreRead
ranges_are_read = record { nodes = nodes_are_short; senders = senders_are_long }
