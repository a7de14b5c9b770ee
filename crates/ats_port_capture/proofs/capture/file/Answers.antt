use Rattle.std.proofs.Common.{◌≡◌, ◌∙◌, List, ◌++◌, sym, ap, subst, All, arith}
use Rattle.std.specs.List.{flat_map}
use Rattle.std.proofs.lemmas.List.{take_all}
use Rattle.std.proofs.lemmas.List.Sorted.{All-permutation}
use Rattle.ats_port_capture.specs.Capture.{header}
use Rattle.ats_port_capture.specs.Sightings.{IsWritable, sighting_record}
use Rattle.ats_port_capture.specs.declared.sighting.Sighting.{Sighting}
use Rattle.ats_port_capture.proofs.Ordered.{capture_is}
use Rattle.ats_port_capture.proofs.capture.file.Goals as goal

pub write_record-requires : goal.write_record-requires
write_record-requires c =
    let each : All IsWritable c.in_ok-sent.sent.items =
    All-permutation IsWritable c.in_ok-sent_by.field-0.items c.in_ok-sent.sent.items c.in_ok-sent.ensures.same
    c.in_ok-sent_by.ensures.each in
    subst (All IsWritable) (sym c.deref-sighting-items.ensures.value) each c.loop-sighting.sighting-index _
    (omega arith)

pub returns : goal.returns
returns c =
    let items : c.deref-sighting-items.result.now ≡ c.in_ok-sent.sent.items = c.deref-sighting-items.ensures.value in
    capture_is c.args.network.now c.args.run.now c.args.port c.in_ok-sent_by.field-0.items c.in_ok-sent.sent.items
    c.loop-sighting.out.items c.in_ok-sent_by.ensures.all c.in_ok-sent_by.ensures.each c.in_ok-sent.ensures
    (c.loop-sighting.invariant
    ∙ ap (λ (l : List Sighting). header ++ flat_map (sighting_record c.args.network.now) l)
    (take_all c.loop-sighting.sighting-index c.deref-sighting-items.result.now (omega arith) ∙ items))
