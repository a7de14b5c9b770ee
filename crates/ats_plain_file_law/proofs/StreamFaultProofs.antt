use Rattle.std.proofs.Common.{refl}
use Rattle.ats_plain_file_law.specs.StreamFaults.{StreamFaultsAreCalled}

-- By which words the rules for streams are called.
pub stream_faults_are_called : StreamFaultsAreCalled
stream_faults_are_called = record {
  class = refl;
  rate = refl;
  sizes = refl;
  burst = refl;
  limit = refl;
}
