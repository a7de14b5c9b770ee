use Rattle.std.proofs.Common.{sym, ◌∙◌, arith}
use Rattle.ats_checker.specs.Refusal.{missing_at}
use Rattle.ats_checker.proofs.PlaceOrder.{at_classes, class_step, class_found, class_end}
use Rattle.ats_checker.proofs.places.missing_of.Goals as goal

pub returns-in-Some : goal.returns-in-Some
returns-in-Some c =
    sym (at_classes c.args.tallies.now c.args.bounds.now.rows c.args.port ∙ c.loop-class.invariant
    ∙ class_found (missing_at c.args.tallies.now c.args.bounds.now.rows c.args.port)
    c.loop-class.class c.in-Some.refusal
    (omega arith) (omega arith) (sym c.missing_at.ensures ∙ c.in-Some.is))

pub loop-class-preserved : goal.loop-class-preserved
loop-class-preserved c =
    c.loop-class.invariant
    ∙ class_step (missing_at c.args.tallies.now c.args.bounds.now.rows c.args.port) c.loop-class.class
    (omega arith) (omega arith) (sym c.missing_at.ensures ∙ c.in_default.is)

pub returns : goal.returns
returns c =
    sym (at_classes c.args.tallies.now c.args.bounds.now.rows c.args.port ∙ c.loop-class.invariant
    ∙ class_end (missing_at c.args.tallies.now c.args.bounds.now.rows c.args.port) c.loop-class.class (omega arith))
