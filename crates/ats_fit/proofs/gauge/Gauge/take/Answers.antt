use Rattle.ats_fit.proofs.GaugeSteps.{gauged-more, lacks-most, last-early}
use Rattle.ats_fit.proofs.gauge.Gauge.take.Goals as goal

pub with-self-inside-requires-clause-order : goal.with-self-inside-requires-clause-order
with-self-inside-requires-clause-order c =
    let s = c.self.inside in
    let order = rw (← c.self.view_is) at c.requires.order in
    last-early s.taken.items s.frames s.sizes s.deficit c.args.release.now.at.0 c.self.invariant order

pub with-self-inside-requires-clause-narrow : goal.with-self-inside-requires-clause-narrow
with-self-inside-requires-clause-narrow c =
    let s = c.self.inside in
    lacks-most s.taken.items s.frames s.sizes s.deficit c.self.invariant

pub invariant_of-self : goal.invariant_of-self
invariant_of-self c =
    let s = c.self.inside in
    let few = rw (← c.self.view_is) at c.requires.few in
    let order = rw (← c.self.view_is) at c.requires.order in
    rw (c.and-self-inside.ensures, c.with.ensures, c.with-self-inside.ensures, c.wire_bits.ensures.bits)
    (gauged-more s.taken.items s.frames s.sizes s.deficit c.args.release.now c.self.invariant few order
    c.requires.octets)
