use Rattle.std.specs.Prelude.{◌≡◌, ℕ, ◌<◌, List, length, slice_index_or}
use Rattle.ats_bucket.specs.Scheduler.{Bucket}
use Rattle.ats_network.specs.Network.{DeclaredNetwork}
use Rattle.ats_num.specs.declared.failure.Failure.{Failure}
use Rattle.ats_num.specs.declared.failure.Failure.TheVariants.{Fault, NoMemory}
use Rattle.ats_trace.specs.Eligibility.{declared_by}
use Rattle.ats_trace.specs.Talker.{frames_of}
use Rattle.ats_trace.specs.declared.journey.Release.{Release}
use Rattle.ats_trace.specs.declared.run.TheConstants.{MAX_RELEASE_PS}
use Rattle.ats_gen.specs.declared.fault.GenFault.{GenFault}
use Rattle.ats_gen.specs.declared.fault.GenFault.TheVariants.{NoStream, Limit}
use Rattle.ats_gen.specs.Made.{empty_by}

-- the bucket of a stream's scheduler after these releases
abbrev pub bucket_after : DeclaredNetwork → List Release → ℕ → Bucket
bucket_after network earlier i = record {
  rate = (declared_by network i).rate;
  burst = (declared_by network i).burst_bits;
  empty = empty_by (declared_by network i) (frames_of i earlier);
}

-- there is one such scheduler for each stream
pub record AreSchedulers (network : DeclaredNetwork) (earlier : List Release) (buckets : List Bucket) : Type 0 where
  pub count : length buckets ≡ length network.streams
  pub each : (i : ℕ) (d : Bucket) → i < length buckets → slice_index_or buckets i d ≡ bucket_after network earlier i

-- no frame is made: its release would be past the limit, or memory ran out
abbrev pub IsPast : Release → Failure GenFault → Type 0
IsPast release NoMemory = Unit {0}
IsPast release (Fault Limit) = MAX_RELEASE_PS < release.at.0
IsPast release (Fault NoStream) = ⊥
