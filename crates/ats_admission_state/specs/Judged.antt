use Rattle.std.specs.Prelude.{ℕ, slice_index_or, Result}
use Rattle.ats_num.specs.Failure.{unless}
use Rattle.ats_network.specs.Edits.{no_stream}
use Rattle.ats_network.specs.Network.{DeclaredNetwork}
use Rattle.ats_certificate.specs.Certificate.{bound_along}
use Rattle.ats_tally.specs.declared.reason.Reason.{Reason}
use Rattle.ats_bound.specs.Least.{least_certificate}
use Rattle.ats_bound.specs.Reason.{reason_of}

-- the sum of the least bounds of the stream with this number
abbrev pub sum_at : DeclaredNetwork → ℕ → ℕ
sum_at network n = bound_along (least_certificate network) (slice_index_or network.streams n no_stream)

-- the same, or the reason against the network where there is one
abbrev pub judged : DeclaredNetwork → ℕ → Result ℕ Reason
judged network n = unless (λ reason. reason) (reason_of network) (sum_at network n)
