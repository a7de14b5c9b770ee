use Rattle.std.proofs.Common.{◌∙◌, ◌<◌, ◌++◌, ℕ, List, length, ap, sym, subst, arith}
use Rattle.std.proofs.lemmas.List.{append-nil}
use Rattle.ats_network.specs.Network.{senders_of}
use Rattle.ats_trace.specs.Stored.{no_travel}
use Rattle.ats_trace.specs.declared.journey.Release.{Release}
use Rattle.ats_port_capture.specs.declared.sighting.Sighting.{Sighting}
use Rattle.ats_port_capture.proofs.Frames.{few_ports}
use Rattle.ats_port_capture.proofs.Ways.{nothing_kept}
use Rattle.ats_port_capture.proofs.sending.push_sent.Goals as goal

pub overflow_cast-place : goal.overflow_cast-place
overflow_cast-place c =
    let journey = c.requires.journeys c.args.frame no_travel c.requires.frame in
    let there : c.release_of-sender.result.sender < length (senders_of c.args.network.now) =
    subst (λ (r : Release). r.sender < length (senders_of c.args.network.now)) (sym c.release_of-sender.ensures)
    journey.sender in
    let few = few_ports c.args.network.now c.release_of-sender.result.sender c.sender_ports.ensures.rules there in
    omega (arith, few, ap (λ (ports : List ℕ). length ports) c.sender_ports.ensures.value, c.in-Some.ensures.within)

pub returns-in-None-clause-all : goal.returns-in-None-clause-all
returns-in-None-clause-all c =
    sym (append-nil c.args.sent.now.items) ∙ ap (λ (l : List Sighting). c.args.sent.now.items ++ l)
    (sym (nothing_kept c.args.network.now c.args.run.now c.args.port c.args.frame c.release_of-sender.result.sender
    c.sender_ports.result.now (ap (λ (r : Release). r.sender) c.release_of-sender.ensures) c.sender_ports.ensures.value
    (sym c.in-None.ensures.place)))
