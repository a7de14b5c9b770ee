use Rattle.std.proofs.Common.{ℕ, List, length, ap, arith}
use Rattle.ats_network_text.proofs.Hops.{few_hops}
use Rattle.ats_network_text.proofs.rates.has_declared_hops.Goals as goal

pub overflow_cast-place-end : goal.overflow_cast-place-end
overflow_cast-place-end c = omega (
  arith,
  few_hops c.args.network.now c.args.stream c.sender_ports.ensures.rules c.requires,
  ap (λ (l : List ℕ). length l) c.sender_ports.ensures.value,
)
