use Rattle.std.proofs.Common.{◌≡◌, ◌+◌, ℕ, List, take, length, subst, sym, ap, ◌∙◌, arith}
use Rattle.ats_topology.specs.declared.port.Port.{Port}
use Rattle.ats_certificate.specs.declared.row.Row.{Row}
use Rattle.ats_buffer.specs.Occupancy.{ArePeaks, HasPlace, no_row, row_at}
use Rattle.ats_buffer.specs.Moments.{AreMomentsOf}
use Rattle.ats_buffer.proofs.Occupied.{peak_at, peaks_more}
use Rattle.ats_buffer.proofs.levels.peaks.Goals as goal

pub loop-row-preserved : goal.loop-row-preserved
loop-row-preserved c =
    let network = c.args.network.now in
    let k : ℕ = c.loop-row.row-index in
    let row : Row = row_at c.args.rows.now k in
    let place : HasPlace (length network.topology.ports) row = c.requires.places k no_row c.loop-row-test.true in
    let many : length c.ports.result.now ≡ length network.topology.ports =
    ap (λ (ports : List Port). length ports) (c.ports.ensures.value ∙ ap (λ t. t.ports) c.topology.ensures.value) in
    let is : AreMomentsOf network c.args.run.now c.deref.result.now =
    subst (AreMomentsOf network c.args.run.now) (sym c.deref.ensures.value) c.in_ok-moments.ensures in
    let peak = peak_at network c.args.run.now c.deref.result.now (length c.ports.result.now) c.in_ok-levels.levels
    row.port row.class c.get.result is c.in_ok-levels.ensures (omega (arith, many, place.port)) place.class
    c.get.ensures in
    subst (ArePeaks network c.args.run.now (take (k + 1) c.args.rows.now)) (sym {A = List ℕ} c.in_ok-push.ensures.items)
    (peaks_more network c.args.run.now c.args.rows.now k c.loop-row.peaks.items c.get.result.peak c.loop-row-test.true
    c.loop-row.invariant peak)
