use Rattle.std.proofs.Common.{◌+◌, ℕ, get_or, subst, refl}
use Rattle.ats_certificate.specs.Used.{stream_classes}
use Rattle.ats_bound.specs.Begun.{IsBegun}
use Rattle.ats_bound.proofs.Beginnings.{begun_next, begun_after, places_left, places_left-first, places_left-more}
use Rattle.ats_bound.proofs.listing.push_port.Goals as goal

pub loop-class-init : goal.loop-class-init
loop-class-init c =
    subst (IsBegun c.args.tallies.now c.args.certificate.now)
    (places_left-first c.args.tallies.now c.args.port c.requires.port)
    c.requires.begun

pub push_row-requires-clause-after : goal.push_row-requires-clause-after
push_row-requires-clause-after c used =
    let i : ℕ = c.loop-class.class-index in
    let class : ℕ = get_or stream_classes i 0 in
    begun_after c.args.tallies.now (c.args.port, class) c.loop-class.certificate
    (places_left c.args.tallies.now c.args.port (i + 1)) c.requires.network
    (subst (IsBegun c.args.tallies.now c.loop-class.certificate)
    (places_left-more c.args.tallies.now c.args.port i class 0 c.loop-class-test.true refl) c.loop-class.invariant)
    used

pub loop-class-preserved : goal.loop-class-preserved
loop-class-preserved c =
    let i : ℕ = c.loop-class.class-index in
    let class : ℕ = get_or stream_classes i 0 in
    begun_next c.args.tallies.now (c.args.port, class) c.loop-class.certificate c.push_row.new.certificate
    (places_left c.args.tallies.now c.args.port (i + 1))
    (subst (IsBegun c.args.tallies.now c.loop-class.certificate)
    (places_left-more c.args.tallies.now c.args.port i class 0 c.loop-class-test.true refl) c.loop-class.invariant)
    c.in_default.ensures.ok c.in_default.ensures.fits
