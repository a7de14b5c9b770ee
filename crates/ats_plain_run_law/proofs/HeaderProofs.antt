use Rattle.std.proofs.Common.{refl}
use Rattle.ats_port_capture.specs.Capture.{header}
use Rattle.ats_port_capture.specs.Numbers.{low_first16, low_first32}
use Rattle.ats_plain_run_law.specs.Header.{HeaderIsTraced}

-- The first bytes of a capture.
pub header_is_traced : HeaderIsTraced
unfolding header low_first16 low_first32
header_is_traced = refl
