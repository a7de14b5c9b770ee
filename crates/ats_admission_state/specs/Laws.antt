use Rattle.std.specs.Prelude.{ℕ}
use Rattle.ats_class_table.specs.Table.{Table}
use Rattle.ats_streams.specs.Stream.{DeclaredStream}
use Rattle.ats_network.specs.Network.{DeclaredNetwork}
use Rattle.ats_admission_law.specs.Less.{IsLessBy}
use Rattle.ats_admission_state.specs.Kept.{AreLeastBeside}

-- beside the ports of a stream, the least bounds are the same with it and without it
pub record StayBeside (old new : DeclaredNetwork) (x : DeclaredStream) (bounds : Table ℕ) : Type 0 where
  pub left : AreLeastBeside old x.ports bounds → AreLeastBeside new x.ports bounds
  pub entered : AreLeastBeside new x.ports bounds → AreLeastBeside old x.ports bounds

abbrev pub BoundsStayBeside : Type 0
BoundsStayBeside =
    (old new : DeclaredNetwork) (x : DeclaredStream) (bounds : Table ℕ) → IsLessBy old new x
    → StayBeside old new x bounds
