use Rattle.std.proofs.Common.{arith, subst, sym}
use Rattle.ats_network.specs.Network.{IsNetwork}
use Rattle.ats_schedulers.proofs.Places.{first_here, no_less, place_there, placed}
use Rattle.ats_schedulers.proofs.schedulers.Schedulers.scheduler.Goals as goal

pub bounds-firsts-stream : goal.bounds-firsts-stream
bounds-firsts-stream c = place_there c.args.self.now c.self.inside.network.now c.self.inside.firsts.items
    c.as_slice-firsts.result.now c.args.stream (sym c.self.view_is) c.as_slice-firsts.ensures.value
    c.self.invariant.listed.places c.requires.exists

pub overflow_sub-result : goal.overflow_sub-result
overflow_sub-result c =
    let first = first_here c.args.self.now c.self.inside.network.now c.streams.result.now c.args.stream c.args.leg
    c.first_place-ports_before.result c.index-streams-stream.result (sym c.self.view_is) c.streams.ensures.value
    c.index-streams-stream.is c.requires.exists c.first_place-ports_before.ensures in
    no_less c.args.self.now c.args.stream c.args.leg c.first_place-ports_before.result
    (subst IsNetwork c.self.view_is c.self.invariant.rules) c.requires.exists c.requires.of_stream first

pub overflow_add-result : goal.overflow_add-result
overflow_add-result c =
    let first = first_here c.args.self.now c.self.inside.network.now c.streams.result.now c.args.stream c.args.leg
    c.first_place-ports_before.result c.index-streams-stream.result (sym c.self.view_is) c.streams.ensures.value
    c.index-streams-stream.is c.requires.exists c.first_place-ports_before.ensures in
    let place = placed c.args.self.now c.self.inside.network.now c.self.inside.firsts.items
    c.as_slice-firsts.result.now c.args.stream c.args.leg c.args.hop c.first_place-ports_before.result 0
    (sym c.self.view_is) c.as_slice-firsts.ensures.value c.self.invariant.listed.places c.self.invariant.rules
    c.requires first in
    omega (arith, place.small)

pub overflow_add-result-2 : goal.overflow_add-result-2
overflow_add-result-2 c =
    let first = first_here c.args.self.now c.self.inside.network.now c.streams.result.now c.args.stream c.args.leg
    c.first_place-ports_before.result c.index-streams-stream.result (sym c.self.view_is) c.streams.ensures.value
    c.index-streams-stream.is c.requires.exists c.first_place-ports_before.ensures in
    let place = placed c.args.self.now c.self.inside.network.now c.self.inside.firsts.items
    c.as_slice-firsts.result.now c.args.stream c.args.leg c.args.hop c.first_place-ports_before.result 0
    (sym c.self.view_is) c.as_slice-firsts.ensures.value c.self.invariant.listed.places c.self.invariant.rules
    c.requires first in
    omega (arith, place.small)

pub returns-clause-place : goal.returns-clause-place
returns-clause-place c =
    let first = first_here c.args.self.now c.self.inside.network.now c.streams.result.now c.args.stream c.args.leg
    c.first_place-ports_before.result c.index-streams-stream.result (sym c.self.view_is) c.streams.ensures.value
    c.index-streams-stream.is c.requires.exists c.first_place-ports_before.ensures in
    let place = placed c.args.self.now c.self.inside.network.now c.self.inside.firsts.items
    c.as_slice-firsts.result.now c.args.stream c.args.leg c.args.hop c.first_place-ports_before.result 0
    (sym c.self.view_is) c.as_slice-firsts.ensures.value c.self.invariant.listed.places c.self.invariant.rules
    c.requires first in
    place.place

pub returns-clause-within : goal.returns-clause-within
returns-clause-within c =
    let first = first_here c.args.self.now c.self.inside.network.now c.streams.result.now c.args.stream c.args.leg
    c.first_place-ports_before.result c.index-streams-stream.result (sym c.self.view_is) c.streams.ensures.value
    c.index-streams-stream.is c.requires.exists c.first_place-ports_before.ensures in
    let place = placed c.args.self.now c.self.inside.network.now c.self.inside.firsts.items
    c.as_slice-firsts.result.now c.args.stream c.args.leg c.args.hop c.first_place-ports_before.result 0
    (sym c.self.view_is) c.as_slice-firsts.ensures.value c.self.invariant.listed.places c.self.invariant.rules
    c.requires first in
    place.within

pub returns-clause-member : goal.returns-clause-member
returns-clause-member c =
    let first = first_here c.args.self.now c.self.inside.network.now c.streams.result.now c.args.stream c.args.leg
    c.first_place-ports_before.result c.index-streams-stream.result (sym c.self.view_is) c.streams.ensures.value
    c.index-streams-stream.is c.requires.exists c.first_place-ports_before.ensures in
    let place = placed c.args.self.now c.self.inside.network.now c.self.inside.firsts.items
    c.as_slice-firsts.result.now c.args.stream c.args.leg c.args.hop c.first_place-ports_before.result 0
    (sym c.self.view_is) c.as_slice-firsts.ensures.value c.self.invariant.listed.places c.self.invariant.rules
    c.requires first in
    place.member
