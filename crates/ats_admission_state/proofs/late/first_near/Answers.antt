use Rattle.ats_admission_state.proofs.Looked.{first_none}
use Rattle.ats_admission_state.proofs.late.first_near.Goals as goal

pub loop-hop-init : goal.loop-hop-init
loop-hop-init c = record {
  found = first_none c.args.bounds.now c.args.routes.now c.args.path.now;
  spares = c.requires.spares;
}
