use Rattle.std.proofs.Common.{◌≡◌, map, take}
use Rattle.ats_certificate.specs.declared.row.Row.{Row}
use Rattle.ats_buffer.specs.Buffer.{buffer_at}
use Rattle.ats_buffer.proofs.shares.buffers.Given as goal

-- the buffers of the rows so far
abbrev pub invariant-loop-row : goal.invariant-loop-row
invariant-loop-row l = l.buffers.items ≡ map (λ (row : Row). buffer_at l.network l.certificate row.port row.class)
    (take l.row-index l.certificate)
