use Rattle.std.proofs.Common.{◌∙◌, refl, sym, ap, arith, Option, None}
use Rattle.ats_trace.specs.Stored.{leg_in, no_travel, travel_at}
use Rattle.ats_port_capture.specs.Sightings.{listed}
use Rattle.ats_port_capture.specs.declared.sighting.Sighting.{Sighting}
use Rattle.ats_port_capture.proofs.Frames.{IsRead, came, leg_within, never_came, not_there, writable}
use Rattle.ats_port_capture.proofs.sending.sighting_of.Goals as goal

pub sender_leg-requires-clause-leg : goal.sender_leg-requires-clause-leg
sender_leg-requires-clause-leg c =
    leg_within c.args.network.now c.args.run.now c.args.frame c.args.leg c.release_of-release.result
    c.release_of-release.ensures (c.requires.journeys c.args.frame no_travel c.requires.frame) c.requires.leg

pub returns-in_err-hop-clause-all : goal.returns-in_err-hop-clause-all
returns-in_err-hop-clause-all c =
    let read : IsRead c.args.network.now c.args.run.now c.args.port c.args.frame c.args.leg
    c.release_of-release.result c.sender_leg.result.now
    (leg_in (travel_at c.args.run.now c.args.frame) c.args.leg).hops c.args.class = record {
      net = c.sender_leg.ensures.rules;
      journey = c.requires.journeys c.args.frame no_travel c.requires.frame;
      within = c.requires.leg;
      same = c.release_of-release.ensures;
      path_is = c.sender_leg.ensures.value;
      hops_are = refl;
      class_is = c.requires.class;
    } in
    ap (λ (o : Option Sighting). listed o) c.from_residual.ensures
    ∙ sym (not_there read (sym c.in_err-hop.ensures.place))

pub returns-in_err-get-clause-all : goal.returns-in_err-get-clause-all
returns-in_err-get-clause-all c =
    let read : IsRead c.args.network.now c.args.run.now c.args.port c.args.frame c.args.leg
    c.release_of-release.result c.sender_leg.result.now c.hops_of.result.now c.args.class = record {
      net = c.sender_leg.ensures.rules;
      journey = c.requires.journeys c.args.frame no_travel c.requires.frame;
      within = c.requires.leg;
      same = c.release_of-release.ensures;
      path_is = c.sender_leg.ensures.value;
      hops_are = c.hops_of.ensures;
      class_is = c.requires.class;
    } in
    ap (λ (o : Option Sighting). listed o) c.from_residual-in_err-get.ensures
    ∙ sym (never_came c.in_ok-hop.hop read (sym c.in_ok-hop.ensures.place) c.in_err-get.ensures.lookup.3)

pub returns-in_err-start-clause-all : goal.returns-in_err-start-clause-all
returns-in_err-start-clause-all c =
    let read : IsRead c.args.network.now c.args.run.now c.args.port c.args.frame c.args.leg
    c.release_of-release.result c.sender_leg.result.now c.hops_of.result.now c.args.class = record {
      net = c.sender_leg.ensures.rules;
      journey = c.requires.journeys c.args.frame no_travel c.requires.frame;
      within = c.requires.leg;
      same = c.release_of-release.ensures;
      path_is = c.sender_leg.ensures.value;
      hops_are = c.hops_of.ensures;
      class_is = c.requires.class;
    } in
    ap (λ (o : Option Sighting). listed o) c.from_residual-in_err-start.ensures
    ∙ sym (came c.in_ok-hop.hop c.in_ok-get.field-0.now None read (sym c.in_ok-hop.ensures.place)
    c.in_ok-get.ensures.lookup.3.0 c.in_ok-get.ensures.lookup.1 (sym c.sent.ensures ∙ c.in_err-start.was))

pub returns-clause-all : goal.returns-clause-all
returns-clause-all c =
    let read : IsRead c.args.network.now c.args.run.now c.args.port c.args.frame c.args.leg
    c.release_of-release.result c.sender_leg.result.now c.hops_of.result.now c.args.class = record {
      net = c.sender_leg.ensures.rules;
      journey = c.requires.journeys c.args.frame no_travel c.requires.frame;
      within = c.requires.leg;
      same = c.release_of-release.ensures;
      path_is = c.sender_leg.ensures.value;
      hops_are = c.hops_of.ensures;
      class_is = c.requires.class;
    } in
    sym (came c.in_ok-hop.hop c.in_ok-get.field-0.now _ read (sym c.in_ok-hop.ensures.place)
    c.in_ok-get.ensures.lookup.3.0 c.in_ok-get.ensures.lookup.1 (sym c.sent.ensures ∙ c.in_ok-start.was))

pub returns-clause-each : goal.returns-clause-each
returns-clause-each c =
    let read : IsRead c.args.network.now c.args.run.now c.args.port c.args.frame c.args.leg
    c.release_of-release.result c.sender_leg.result.now c.hops_of.result.now c.args.class = record {
      net = c.sender_leg.ensures.rules;
      journey = c.requires.journeys c.args.frame no_travel c.requires.frame;
      within = c.requires.leg;
      same = c.release_of-release.ensures;
      path_is = c.sender_leg.ensures.value;
      hops_are = c.hops_of.ensures;
      class_is = c.requires.class;
    } in
    writable c.in_ok-start.start read (omega arith)
