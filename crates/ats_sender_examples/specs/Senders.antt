use Rattle.std.specs.Prelude.{[], ◌∷◌, codes, Some}
use Rattle.ats_topology.specs.Topology.{topology_of}
use Rattle.ats_streams.specs.Stream.{declared_stream}
use Rattle.ats_streams.specs.Flow.{declared_flow}
use Rattle.ats_network.specs.Network.{DeclaredNetwork, declared_network}
use Rattle.ats_examples.specs.Networks.{line_links, line_nodes}

-- two streams and a flow over the line, with addresses, classes, rates, bursts and sizes that differ
abbrev pub three_senders : DeclaredNetwork
three_senders = declared_network (topology_of line_nodes line_links)
    (declared_stream (codes "a") (0 ∷ 2 ∷ []) (6 ∷ 6 ∷ []) 100000000 12336 64 1522 1000000 (Some (0x020000000001, 1))
    ∷ declared_stream (codes "b") (0 ∷ 2 ∷ []) (5 ∷ 5 ∷ []) 50000000 2688 64 300 1000000 (Some (0x020000000002, 300))
    ∷ [])
    (declared_flow (codes "f") (0 ∷ 2 ∷ []) 200 ∷ [])
