use Rattle.std.specs.Prelude.{ℕ, zero, suc, ◌+◌, ◌-◌, ◌*◌, ◌%◌, ◌||◌, ◌==◌, Bool, nat_lt, ℤ, List, [], ◌∷◌, ◌++◌}
use Rattle.std.specs.Prelude.{length, fold, Option, Some, None, IsPermutation, if◌then◌else◌}
use Rattle.std.specs.List.{list_any}
use Rattle.std.specs.List.Sorted.{IsNonDecreasingBy, IsStableByKey}
use Rattle.std.specs.Ordering.{nat_cmp}
use Rattle.ats_num.specs.Wire.{bits_of}
use Rattle.ats_bucket.specs.Conforming.{Frame}
use Rattle.ats_bucket.specs.Scheduler.{first_empty, eligibility_time, empty_after}
use Rattle.ats_streams.specs.declared.traffic.Declared.{Declared}
use Rattle.ats_network.specs.Network.{DeclaredNetwork}
use Rattle.ats_trace.specs.Eligibility.{declared_by}
use Rattle.ats_trace.specs.Releases.{ports_of_frames}
use Rattle.ats_trace.specs.Talker.{frames_of}
use Rattle.ats_trace.specs.declared.journey.Release.{Release}
use Rattle.ats_trace.specs.declared.run.TheConstants.{MAX_HOPS, MAX_RELEASE_PS}
use Rattle.ats_gen.specs.Draw.{draw}
use Rattle.ats_gen.specs.declared.fault.GenFault.{GenFault}
use Rattle.ats_gen.specs.declared.fault.GenFault.TheVariants.{NoStream, Limit}
use Rattle.ats_gen.specs.declared.generator.TheConstants.{MAX_PAUSE_PS}

-- streams take turns: the number of the stream of a frame
abbrev pub stream_of : DeclaredNetwork → ℕ → ℕ
stream_of network frame = frame % length network.streams

-- octets from what is drawn: any from the least to the greatest that are declared
abbrev pub octets_by : Declared → ℕ → ℕ
octets_by declared drawn = declared.min_octets + drawn % (declared.max_octets - declared.min_octets + 1)

-- the octets of a frame, by the draw before the frame
abbrev pub octets_of : DeclaredNetwork → ℕ → ℕ → ℕ
octets_of network seed frame = octets_by (declared_by network (stream_of network frame)) (draw seed (2 * frame))

-- the clock at the making of a frame: from 0 on it is raised after each frame, by the draw after it
abbrev pub clock_of : ℕ → ℕ → ℕ
clock_of seed zero = 0
clock_of seed (suc frame) = clock_of seed frame + draw seed (2 * frame + 1) % MAX_PAUSE_PS

-- the bucket-empty time of a stream's scheduler, full at time 0, that accepted these frames
abbrev pub empty_by : Declared → List Frame → ℤ
empty_by declared frames =
    fold (λ (empty : ℤ) (f : Frame). empty_after declared.rate declared.burst_bits empty f.at f.bits)
    (first_empty declared.burst_bits) frames

-- the release of a stream's frame that its talker offers to its scheduler at this time, which accepted the frames of
-- the stream among the earlier releases: when it is eligible
abbrev pub release_by : DeclaredNetwork → List Release → ℕ → ℕ → ℕ → Release
release_by network earlier stream octets clock =
    record {
      at = record {
        0 = eligibility_time (declared_by network stream).rate
            (empty_by (declared_by network stream) (frames_of stream earlier)) 0 clock (bits_of octets);
      };
      sender = stream;
      octets = octets;
    }

-- the releases of the first so many frames, in the order in which they are made
abbrev pub made : DeclaredNetwork → ℕ → ℕ → List Release
made network seed zero = []
made network seed (suc frame) =
    made network seed frame
    ++ release_by network (made network seed frame) (stream_of network frame) (octets_of network seed frame)
    (clock_of seed frame) ∷ []

-- these are the earlier releases by time, and at equal times in the order that they had
pub record AreByTime (earlier releases : List Release) : Type 0 where
  pub same : IsPermutation earlier releases
  pub by_time : IsNonDecreasingBy (λ (r : Release). r.at.0) releases
  pub ties : IsStableByKey (λ (r : Release). r.at.0) nat_cmp earlier releases

-- the made releases of so many frames
abbrev pub AreMade : DeclaredNetwork → ℕ → ℕ → List Release → Type 0
AreMade network seed count releases = AreByTime (made network seed count) releases

-- one of these releases is later than those of a run may be, or the ports of their frames are together more
abbrev pub are_over : DeclaredNetwork → List Release → Bool
are_over network releases =
    list_any (λ (r : Release). nat_lt MAX_RELEASE_PS r.at.0) releases
    || nat_lt MAX_HOPS (ports_of_frames network releases)

-- why there are no made releases, where there are none
abbrev pub gen_fault : DeclaredNetwork → ℕ → ℕ → Option GenFault
gen_fault network seed count =
    if length network.streams == 0 then Some NoStream
    else if are_over network (made network seed count) then Some Limit
    else None
