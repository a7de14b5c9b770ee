use Rattle.std.proofs.Common.{ℕ}
use Rattle.std.proofs.lemmas.List.Sums.{best_none}
use Rattle.ats_witness.proofs.finding.first_greatest.Goals as goal

pub loop-place-init : goal.loop-place-init
loop-place-init c = best_none (λ (n : ℕ). n) c.args.numbers.now
