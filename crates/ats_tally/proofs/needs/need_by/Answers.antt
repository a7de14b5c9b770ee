use Rattle.std.proofs.Common.{◌≡◌, ℕ, ◌≤◌, ◌*◌, ap, ◌∙◌, arith}
use Rattle.ats_clock.specs.declared.clock.TheConstants.{MILLION}
use Rattle.ats_num.specs.Division.{ceiling}
use Rattle.ats_tally.proofs.NeedParts.{gained, gained_few}
use Rattle.ats_tally.proofs.needs.need_by.Goals as goal

pub overflow_add-gain : goal.overflow_add-gain
overflow_add-gain c =
    let few : c.from-parts.result ≤ 1000 = omega (arith, c.deviation_ppm.ensures.valid.deviation) in
    let most = gained_few c.from-parts.result c.args.need c.from-million.result c.ceil_div.result few
    (omega (arith, c.requires)) c.from-million.ensures c.ceil_div.ensures in
    omega (arith, most)

pub overflow_add-result-3 : goal.overflow_add-result-3
overflow_add-result-3 c =
    let few : c.from-parts.result ≤ 1000 = omega (arith, c.deviation_ppm.ensures.valid.deviation) in
    let most = gained_few c.from-parts.result c.args.need c.from-million.result c.ceil_div.result few
    (omega (arith, c.requires)) c.from-million.ensures c.ceil_div.ensures in
    omega (arith, most, c.step_ps-2.ensures.valid.step)

pub returns : goal.returns
returns c =
    let gain = gained c.from-parts.result c.args.need c.from-million.result c.ceil_div.result c.from-million.ensures
    c.ceil_div.ensures in
    let parts : ceiling (c.from-parts.result * c.args.need) MILLION
    ≡ ceiling (c.args.clock.deviation_ppm * c.args.need) MILLION =
    ap (λ (n : ℕ). ceiling (n * c.args.need) MILLION) (c.from-parts.ensures ∙ c.deviation_ppm.ensures.value) in
    omega (arith, gain, parts, c.from-2.ensures, c.step_ps-2.ensures.value)
