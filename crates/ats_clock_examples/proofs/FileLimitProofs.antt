use Rattle.std.proofs.Common.{refl}
use Rattle.ats_clock_examples.specs.FileLimits.{FilesKeepLimits}

-- Limits of files by computation.

pub files_keep_limits : FilesKeepLimits
files_keep_limits = record {
  rate_of_talker = record { most = refl; over = refl };
  burst_of_talker = record { most = refl; over = refl };
  rate_of_ending = record { most = refl; over = refl };
  burst_of_ending = record { most = refl; over = refl };
  rate_of_each = record { most = refl; over = refl };
  burst_of_each = record { most = refl; over = refl };
}
