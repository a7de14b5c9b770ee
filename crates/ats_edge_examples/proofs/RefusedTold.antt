use Rattle.std.proofs.Common.{refl}
use Rattle.ats_edge_examples.specs.Refused.{BoundsAreTold, RefusalsAreTold, WorkedRowsAreTold}

-- What is told of rows that are refused, by computation.

worked_rows_are_told : WorkedRowsAreTold
worked_rows_are_told = record { bound = refl; higher = refl; lower = refl; short = refl; stays = refl }

bounds_are_told : BoundsAreTold
bounds_are_told = record { longer = refl; earlier = refl }

pub refusals_are_told : RefusalsAreTold
refusals_are_told = record { load = refl; worked = worked_rows_are_told; bounds = bounds_are_told }
