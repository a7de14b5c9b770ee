use Rattle.std.proofs.Common.{◌≡◌, ℕ, ◌+◌, ◌*◌, ◌^◌, ◌<◌, ◌≤◌, List, [], ◌∷◌, ◌++◌, length, take, All, refl, sym, ◌∙◌}
use Rattle.std.proofs.Common.{subst, arith}
use Rattle.std.proofs.lemmas.List.{length-take-le}
use Rattle.ats_bucket.specs.Conforming.{Conforms}
use Rattle.ats_trace.specs.declared.journey.Release.{Release}
use Rattle.ats_conform.specs.declared.meter.Metered.{Metered}
use Rattle.ats_conform.specs.Metering.{Metering, Names, counted, metered}
use Rattle.ats_conform.specs.Releases.{metered_from, release_at}
use Rattle.ats_conform.specs.Steps.{meter_after}
use Rattle.ats_conform.proofs.Lists.{few, none_later}
use Rattle.ats_conform.proofs.Judged.{bucket-broken, keep-more, meters-mine, meters-other}
use Rattle.ats_conform.proofs.conformance.judge_bucket.Goals as goal

pub returns-then-stream-len-clause-meters : goal.returns-then-stream-len-clause-meters
returns-then-stream-len-clause-meters c =
    meters-other c.args.network.now c.args.releases.now c.args.place c.args.meters.now.items c.requires.place
    c.requires.meters (omega arith)

pub returns-then-stream-len-clause-kept : goal.returns-then-stream-len-clause-kept
returns-then-stream-len-clause-kept c =
    keep-more c.args.network.now c.args.releases.now c.args.place c.requires.place c.requires.before c.requires.size
    (λ stream. absurd (omega (arith, c.requires.meters.count)))

pub take-requires-clause-few : goal.take-requires-clause-few
take-requires-clause-few c =
    let s : ℕ = (release_at c.args.releases.now c.args.place).sender in
    let below : s < length c.args.meters.now.items = omega arith in
    let is : c.index_mut-meter.result.now ≡ meter_after c.args.network.now c.args.releases.now c.args.place s =
    c.index_mut-meter.ensures.value ∙ c.requires.meters.each s c.index_mut-meter.result.now below in
    let so_far : List Release = take c.args.place c.args.releases.now in
    let most : length (metered_from s 0 so_far) ≤ length so_far = few s 0 so_far in
    let place = length-take-le c.args.place c.args.releases.now (omega (arith, c.requires.place)) in
    subst (λ (m : Metering). length m.taken < 2 ^ 32) (sym is)
    (omega (arith, c.requires.place, c.requires.releases.few))

pub take-requires-clause-order : goal.take-requires-clause-order
take-requires-clause-order c =
    let s : ℕ = (release_at c.args.releases.now c.args.place).sender in
    let below : s < length c.args.meters.now.items = omega arith in
    let is : c.index_mut-meter.result.now ≡ meter_after c.args.network.now c.args.releases.now c.args.place s =
    c.index_mut-meter.ensures.value ∙ c.requires.meters.each s c.index_mut-meter.result.now below in
    let at : ℕ = (release_at c.args.releases.now c.args.place).at.0 in
    subst (λ (m : Metering). All (λ (x : Metered). x.at.0 ≤ at) m.taken) (sym is)
    (none_later s c.args.place c.args.releases.now c.requires.releases.in_order c.requires.place)

pub returns-in-Some-clause-broken : goal.returns-in-Some-clause-broken
returns-in-Some-clause-broken c =
    let r : Release = release_at c.args.releases.now c.args.place in
    let s : ℕ = r.sender in
    let below : s < length c.args.meters.now.items = omega arith in
    let is : c.index_mut-meter.result.now ≡ meter_after c.args.network.now c.args.releases.now c.args.place s =
    c.index_mut-meter.ensures.value ∙ c.requires.meters.each s c.index_mut-meter.result.now below in
    let named = rw c.wire_bits.ensures.bits at c.in-Some.ensures.named in
    bucket-broken c.args.network.now c.args.releases.now c.args.place s c.in-Some.since c.requires.place
    c.requires.before refl (omega (arith, c.requires.meters.count)) c.requires.size
    (subst (λ (m : Metering). Names m.rate m.burst m.taken (metered c.args.place r.at.0 (8 * (r.octets + 20)))
    c.in-Some.since)
    is named)

pub returns-in-None-clause-meters : goal.returns-in-None-clause-meters
returns-in-None-clause-meters c =
    let r : Release = release_at c.args.releases.now c.args.place in
    let s : ℕ = r.sender in
    let below : s < length c.args.meters.now.items = omega arith in
    let is : c.index_mut-meter.result.now ≡ meter_after c.args.network.now c.args.releases.now c.args.place s =
    c.index_mut-meter.ensures.value ∙ c.requires.meters.each s c.index_mut-meter.result.now below in
    let new = rw c.wire_bits.ensures.bits at c.in-None.ensures.taken in
    meters-mine c.args.network.now c.args.releases.now c.args.place s c.args.meters.now.items c.take.new.self
    c.requires.place c.requires.meters refl below
    (subst (λ (m : Metering). let after : Metering = record m
    { taken = m.taken ++ metered c.args.place r.at.0 (8 * (r.octets + 20)) ∷ [] } in c.take.new.self ≡ after) is new)

pub returns-in-None-clause-kept : goal.returns-in-None-clause-kept
returns-in-None-clause-kept c =
    let r : Release = release_at c.args.releases.now c.args.place in
    let s : ℕ = r.sender in
    let below : s < length c.args.meters.now.items = omega arith in
    let is : c.index_mut-meter.result.now ≡ meter_after c.args.network.now c.args.releases.now c.args.place s =
    c.index_mut-meter.ensures.value ∙ c.requires.meters.each s c.index_mut-meter.result.now below in
    let conforms = rw c.wire_bits.ensures.bits at (c.in-None.ensures.none.0 refl) in
    keep-more c.args.network.now c.args.releases.now c.args.place c.requires.place c.requires.before c.requires.size
    (λ stream. subst (λ (m : Metering). Conforms m.rate m.burst
    (counted (m.taken ++ metered c.args.place r.at.0 (8 * (r.octets + 20)) ∷ []))) is conforms)
