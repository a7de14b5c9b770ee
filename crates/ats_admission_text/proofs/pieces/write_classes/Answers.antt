use Rattle.std.proofs.Common.{arith}
use Rattle.ats_admission_text.specs.Text.{class_line}
use Rattle.ats_admission_text.proofs.Classes.{next_class, all_classes}
use Rattle.ats_admission_text.proofs.pieces.write_classes.Goals as goal

pub loop-i-preserved : goal.loop-i-preserved
loop-i-preserved c =
    next_class (class_line c.args.topology.now) c.args.reasons.now c.loop-i.i c.index-reasons-i.result
    c.args.out.now.items c.loop-i.out.items c.write_class.new.out.items (omega arith) c.index-reasons-i.is
    c.loop-i.invariant c.in_ok-write_class.ensures

pub returns : goal.returns
returns c =
    all_classes (class_line c.args.topology.now) c.args.reasons.now c.loop-i.i c.args.out.now.items
    c.loop-i.out.items (omega arith) c.loop-i.invariant
