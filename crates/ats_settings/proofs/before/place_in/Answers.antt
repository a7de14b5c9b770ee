use Rattle.std.proofs.Common.{ℕ, ◌-◌, ap, arith}
use Rattle.ats_streams.specs.declared.branch.Branch.{Branch}
use Rattle.ats_settings.proofs.BeforeLemmas.{begins_of}
use Rattle.ats_settings.proofs.before.place_in.Goals as goal

pub first_place-requires : goal.first_place-requires
first_place-requires c =
    let n : ℕ = c.loop-leg.leg - 1 in
    omega (
      arith,
      (begins_of c.args.stream.now n c.branch-branch.ensures.rules
          (omega (arith, c.loop-leg-test.true, c.legs-leg-end.ensures.value, c.loop-leg.auto.leg))).earlier,
      ap (λ (b : Branch). b.leg) c.branch-branch.ensures.value,
      c.loop-leg-test.true,
      c.legs-leg-end.ensures.value,
    )
