use Rattle.std.proofs.Common.{List, Option, length, ap, arith}
use Rattle.std.specs.Borrow.{Bor}
use Rattle.toml.specs.declared.value.Value.{Value}
use Rattle.ats_network_table.proofs.slots.Slots.value.Goals as goal

pub at-requires : goal.at-requires
at-requires c =
    omega (
      arith,
      c.slot_of.ensures.within,
      ap (λ (vs : List (Option (Bor Value))). length vs) c.as_slice.ensures,
      c.self.invariant.long,
    )
