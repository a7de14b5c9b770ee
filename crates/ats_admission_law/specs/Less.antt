use Rattle.std.specs.Prelude.{◌≡◌}
use Rattle.ats_streams.specs.Stream.{DeclaredStream}
use Rattle.ats_network.specs.Edits.{IsLess}
use Rattle.ats_network.specs.Network.{DeclaredNetwork}

-- the new network is the old one without this stream, which stood behind some streams and before the others
pub record IsLessBy (old new : DeclaredNetwork) (x : DeclaredStream) : Type 0 where
  pub topology : new.topology ≡ old.topology
  pub most_ports : new.most_ports ≡ old.most_ports
  pub flows : new.flows ≡ old.flows
  pub streams : IsLess old.streams new.streams x
