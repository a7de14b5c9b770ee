use Rattle.std.proofs.Common.{◌∙◌, ◌<◌, length, arith}
use Rattle.ats_group.specs.declared.verdict.Verdict.TheVariants.{Eligible}
use Rattle.ats_shape.proofs.Lines.{written, named_in}
use Rattle.ats_shape.proofs.printing.write_frames.Goals as goal

pub loop-n-preserved : goal.loop-n-preserved
loop-n-preserved c =
    let in_frames : c.loop-n.n < length c.args.frames.now = omega arith in
    let in_verdicts : c.loop-n.n < length c.args.verdicts.now = omega arith in
    let named =
    c.bytes.ensures.value ∙ named_in c.args.streams.now _ c.index-streams-frame.result c.index-streams-frame.is
    (c.requires.streams c.loop-n.n (record { at = record { 0 = 0 }; stream = 0; octets = 0 }) in_frames) in
    written c.args.streams.now c.loop-n.n c.args.frames.now c.args.verdicts.now
    (record { at = record { 0 = 0 }; stream = 0; octets = 0 }) (Eligible (record { 0 = 0 })) _ c.loop-n.out.items
    c.write_frame.new.out.items in_frames in_verdicts named c.in_ok-write_frame.ensures ∙ c.loop-n.invariant
