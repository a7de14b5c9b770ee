use Rattle.ats_shape.proofs.FaultFold.{shape_is_faultless}
use Rattle.ats_shape.proofs.laws.each_shape_is_faultless.Goals as goal

pub returns : goal.returns
returns c = shape_is_faultless
