use Rattle.std.proofs.Common.{length}
use Rattle.ats_explain.specs.Table.{ArePlaced}
use Rattle.ats_explain.proofs.rows.places_of.Given as goal

-- the rows so far have their places
abbrev pub invariant-loop-place : goal.invariant-loop-place
invariant-loop-place l = ArePlaced (length l.network.topology.ports) l.certificate l.place l.places
