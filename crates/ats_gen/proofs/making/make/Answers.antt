use Rattle.std.proofs.Common.{ap, arith}
use Rattle.ats_bucket.specs.Scheduler.{Bucket}
use Rattle.ats_trace.specs.declared.journey.Release.{Release}
use Rattle.ats_gen.proofs.Schedulers.{scheduler-is, schedulers-accept}
use Rattle.ats_gen.proofs.making.make.Goals as goal

pub wire_bits-bits-requires : goal.wire_bits-bits-requires
wire_bits-bits-requires c = record {
  least = omega (arith, c.requires.ruled.sizes.least, c.requires.least);
  most = omega (arith, c.requires.ruled.sizes.most, c.requires.most);
}

pub propose-at-requires-clause-in_burst : goal.propose-at-requires-clause-in_burst
propose-at-requires-clause-in_burst c =
    let is = scheduler-is c.args.network.now c.args.made.now.items c.args.schedulers.now.items c.args.stream
    c.index_mut-scheduler.result.now c.requires.schedulers c.requires.stream c.index_mut-scheduler.ensures.value in
    let burst = ap (λ (b : Bucket). b.burst) is in
    omega (arith, c.requires.ruled.covers, c.requires.most, c.wire_bits-bits.ensures.bits, burst)

pub propose-at-requires-clause-in_frame : goal.propose-at-requires-clause-in_frame
propose-at-requires-clause-in_frame c =
    omega (arith, c.requires.ruled.sizes.most, c.requires.most, c.wire_bits-bits.ensures.bits)

pub accept-requires-clause-in_burst : goal.accept-requires-clause-in_burst
accept-requires-clause-in_burst c =
    let is = scheduler-is c.args.network.now c.args.made.now.items c.args.schedulers.now.items c.args.stream
    c.index_mut-scheduler.result.now c.requires.schedulers c.requires.stream c.index_mut-scheduler.ensures.value in
    let burst = ap (λ (b : Bucket). b.burst) is in
    omega (arith, c.requires.ruled.covers, c.requires.most, c.wire_bits-bits.ensures.bits, burst)

pub accept-requires-clause-in_frame : goal.accept-requires-clause-in_frame
accept-requires-clause-in_frame c =
    omega (arith, c.requires.ruled.sizes.most, c.requires.most, c.wire_bits-bits.ensures.bits)

pub returns-clause-schedulers : goal.returns-clause-schedulers
returns-clause-schedulers c =
    let r : Release = record { at = c.propose-at.result; sender = c.args.stream; octets = c.args.octets } in
    let is = scheduler-is c.args.network.now c.args.made.now.items c.args.schedulers.now.items c.args.stream
    c.index_mut-scheduler.result.now c.requires.schedulers c.requires.stream c.index_mut-scheduler.ensures.value in
    schedulers-accept c.args.network.now c.args.made.now.items c.push.new.self.items c.args.schedulers.now.items
    c.index_mut-scheduler.result.now c.accept.new.self r c.wire_bits-bits.result c.requires.schedulers
    c.requires.stream is c.wire_bits-bits.ensures.bits c.accept.ensures c.in_ok-push.ensures.items
