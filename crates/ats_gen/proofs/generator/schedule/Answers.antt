use Rattle.std.proofs.Common.{◌≡◌, ℕ, ◌+◌, ◌*◌, ◌%◌, ◌≤◌, length, subst, ap, ◌∙◌, rules, arith}
use Rattle.std.proofs.lemmas.Nat.{mod_below}
use Rattle.ats_trace.specs.declared.journey.Release.{Release}
use Rattle.ats_trace.specs.declared.run.TheConstants.{MAX_HOPS}
use Rattle.ats_gen.specs.Draw.{state_after, draw}
use Rattle.ats_num.specs.Failure.{IsDue}
use Rattle.ats_gen.specs.Made.{gen_fault, release_by, stream_of}
use Rattle.ats_gen.specs.Making.{IsPast}
use Rattle.ats_gen.proofs.Streams.{streams-ruled}
use Rattle.ats_gen.proofs.MadeParts.{next_release}
use Rattle.ats_gen.proofs.Sorted.{made-few_ports, made-keeps, made-releases}
use Rattle.ats_gen.proofs.Faults.{fault-no, past-due}
use Rattle.ats_gen.proofs.Steps.{state-next, draw-is, release-is, made-next, within-next, clock-next, at_end}
use Rattle.ats_gen.proofs.Steps.{within-end}
use Rattle.ats_gen.proofs.generator.schedule.Goals as goal

pub returns-in_err-make-clause-fault : goal.returns-in_err-make-clause-fault
returns-in_err-make-clause-fault c =
    let k : ℕ = c.loop-frame.frame in
    let seed : ℕ = c.args.seed in
    let size = ap length c.streams.ensures.value in
    let x : c.draw.result ≡ draw seed (2 * k) =
    draw-is seed (2 * k) c.loop-frame.draws.state c.draw.new.self.state c.draw.result c.loop-frame.invariant.draws
    c.draw.ensures.state c.draw.ensures.value in
    let is = release-is c.args.network.now seed k c.loop-frame.made.items (k % length c.streams.result.now)
    c.octets_for-octets.result c.draw.result c.loop-frame.clock c.loop-frame.invariant.made
    (ap (λ (l : ℕ). k % l) size) c.octets_for-octets.ensures.value x c.loop-frame.invariant.clock in
    let due : IsDue c.in_err-make.field-0.0 (gen_fault c.args.network.now seed c.args.count) =
    past-due c.args.network.now seed k c.args.count c.in_err-make.field-0.0 (λ none. absurd (omega (arith, size)))
    c.loop-frame-test.true (subst (λ (r : Release). IsPast r c.in_err-make.field-0.0) is c.in_err-make.ensures.past) in
    search rules

pub loop-frame-preserved : goal.loop-frame-preserved
loop-frame-preserved c =
    let k : ℕ = c.loop-frame.frame in
    let seed : ℕ = c.args.seed in
    let size = ap length c.streams.ensures.value in
    let x : c.draw.result ≡ draw seed (2 * k) =
    draw-is seed (2 * k) c.loop-frame.draws.state c.draw.new.self.state c.draw.result c.loop-frame.invariant.draws
    c.draw.ensures.state c.draw.ensures.value in
    let one : c.draw.new.self.state ≡ state_after seed (2 * k + 1) =
    state-next seed (2 * k) c.loop-frame.draws.state c.draw.new.self.state c.loop-frame.invariant.draws
    c.draw.ensures.state in
    let stream : k % length c.streams.result.now ≡ stream_of c.args.network.now k =
    ap (λ (l : ℕ). k % l) size in
    let r : Release = release_by c.args.network.now c.loop-frame.made.items (k % length c.streams.result.now)
    c.octets_for-octets.result c.loop-frame.clock in
    let is : r ≡ next_release c.args.network.now seed k =
    release-is c.args.network.now seed k c.loop-frame.made.items (k % length c.streams.result.now)
    c.octets_for-octets.result c.draw.result c.loop-frame.clock c.loop-frame.invariant.made stream
    c.octets_for-octets.ensures.value x c.loop-frame.invariant.clock in
    record {
      made = made-next c.args.network.now seed k c.loop-frame.made.items c.make.new.made.items r
          c.loop-frame.invariant.made is c.in_ok-make.ensures.made;
      within = within-next c.loop-frame.made.items c.make.new.made.items r c.in_ok-make.ensures.made
          c.loop-frame.invariant.within c.in_ok-make.ensures.within;
      schedulers = c.in_ok-make.ensures.schedulers;
      draws = state-next seed (2 * k + 1) c.draw.new.self.state c.draw-in-loop-frame.new.self.state one
          c.draw-in-loop-frame.ensures.state ∙ ap (state_after seed) (omega arith);
      clock = clock-next seed k c.loop-frame.clock c.draw-in-loop-frame.result c.loop-frame.invariant.clock
          (draw-is seed (2 * k + 1) c.draw.new.self.state c.draw-in-loop-frame.new.self.state
          c.draw-in-loop-frame.result one c.draw-in-loop-frame.ensures.state c.draw-in-loop-frame.ensures.value);
      bounded = (let m = mod_below c.draw-in-loop-frame.result 2000000 (omega arith) in
          omega (arith, c.loop-frame.invariant.bounded));
    }

pub returns-clause-made : goal.returns-clause-made
returns-clause-made c =
    at_end c.args.network.now c.args.seed c.loop-frame.frame c.args.count c.loop-frame.made.items
    c.in_ok-by_time.field-0.items (omega (arith, c.loop-frame.auto.frame-end)) c.loop-frame.invariant.made
    c.in_ok-by_time.ensures

pub returns-clause-sound : goal.returns-clause-sound
returns-clause-sound c =
    let size = ap length c.streams.ensures.value in
    let end : c.loop-frame.frame ≡ c.args.count = omega (arith, c.loop-frame.auto.frame-end) in
    fault-no c.args.network.now c.args.seed c.args.count (λ none. absurd (omega (arith, size)))
    (within-end c.args.network.now c.args.seed c.loop-frame.frame c.args.count c.loop-frame.made.items end
    c.loop-frame.invariant.made c.loop-frame.invariant.within)
    (subst (λ (n : ℕ). n ≤ MAX_HOPS) (c.ports_of.ensures c.args.seed) c.if-ports_of-gt-MAX_HOPS.false)

pub returns-clause-releases : goal.returns-clause-releases
returns-clause-releases c =
    let size = ap length c.streams.ensures.value in
    let end : c.loop-frame.frame ≡ c.args.count = omega (arith, c.loop-frame.auto.frame-end) in
    made-releases c.args.network.now c.args.seed c.args.count c.in_ok-by_time.field-0.items
    (streams-ruled c.args.network.now c.streams.ensures.rules) (omega (arith, size)) c.requires
    (within-end c.args.network.now c.args.seed c.loop-frame.frame c.args.count c.loop-frame.made.items end
    c.loop-frame.invariant.made c.loop-frame.invariant.within)
    (at_end c.args.network.now c.args.seed c.loop-frame.frame c.args.count c.loop-frame.made.items
    c.in_ok-by_time.field-0.items end c.loop-frame.invariant.made c.in_ok-by_time.ensures)

pub returns-clause-keeps : goal.returns-clause-keeps
returns-clause-keeps c =
    let size = ap length c.streams.ensures.value in
    let end : c.loop-frame.frame ≡ c.args.count = omega (arith, c.loop-frame.auto.frame-end) in
    made-keeps c.args.network.now c.args.seed c.args.count c.in_ok-by_time.field-0.items
    (streams-ruled c.args.network.now c.streams.ensures.rules) (omega (arith, size))
    (at_end c.args.network.now c.args.seed c.loop-frame.frame c.args.count c.loop-frame.made.items
    c.in_ok-by_time.field-0.items end c.loop-frame.invariant.made c.in_ok-by_time.ensures)

pub returns-clause-few_ports : goal.returns-clause-few_ports
returns-clause-few_ports c =
    let end : c.loop-frame.frame ≡ c.args.count = omega (arith, c.loop-frame.auto.frame-end) in
    made-few_ports c.args.network.now c.args.seed c.args.count c.in_ok-by_time.field-0.items
    (at_end c.args.network.now c.args.seed c.loop-frame.frame c.args.count c.loop-frame.made.items
    c.in_ok-by_time.field-0.items end c.loop-frame.invariant.made c.in_ok-by_time.ensures)
    (subst (λ (n : ℕ). n ≤ MAX_HOPS) (c.ports_of.ensures c.args.seed) c.if-ports_of-gt-MAX_HOPS.false)
