use Rattle.std.specs.Prelude.{◌≡◌, ℕ, ◌*◌, ◌<◌, ◌≤◌, ℤ, pos, ◌≤ℤ◌, List, length, map, All}
use Rattle.ats_num.specs.declared.time.TheConstants.{END}
use Rattle.ats_num.specs.declared.time.Ps.{Ps}
use Rattle.ats_num.specs.Wire.{IsFrameSize, bits_of}
use Rattle.ats_bucket.specs.Scheduler.{Bucket, holds_at, empty_after}
use Rattle.ats_group.specs.declared.member.TheConstants.{MAX_RESIDENCE_NS}
use Rattle.ats_group.specs.declared.member.Member.{Member}
use Rattle.ats_group.specs.declared.member_scheduler.MemberScheduler.{MemberScheduler}
use Rattle.ats_group.specs.declared.verdict.Verdict.{Verdict}
use Rattle.ats_group.specs.declared.verdict.Verdict.TheVariants.{Eligible, Late, Size}
use Rattle.ats_streams.specs.Traffic.{IsRuled}
use Rattle.ats_group.specs.GroupsState.{GroupsState}

-- the bucket is the member's, and what is declared of it keeps the rules of a stream
pub record IsMemberScheduler (scheduler : MemberScheduler) : Type 0 where
  pub rate : scheduler.bucket.rate ≡ scheduler.member.declared.rate
  pub burst : scheduler.bucket.burst ≡ scheduler.member.declared.burst_bits
  pub declared : IsRuled scheduler.member.declared

-- a frame of so many octets may be taken out of the bucket at this time
pub record Accepts (bucket : Bucket) (octets eligible : ℕ) : Type 0 where
  pub frame : IsFrameSize octets
  pub in_burst : bits_of octets ≤ bucket.burst
  pub time : eligible ≤ END
  pub filled : holds_at bucket.empty (bits_of octets) ≤ℤ pos (eligible * bucket.rate)

-- what an eligible frame's verdict allows
abbrev pub MayAccept : Bucket → ℕ → Verdict → Type 0
MayAccept bucket octets (Eligible e) = Accepts bucket octets e.0
MayAccept bucket octets (Late e) = Unit {0}
MayAccept bucket octets Size = Unit {0}

-- the scheduler after that
abbrev pub scheduler_after : MemberScheduler → ℕ → ℕ → MemberScheduler
scheduler_after scheduler eligible octets =
    record scheduler {
      bucket = record scheduler.bucket {
        empty = empty_after scheduler.bucket.rate scheduler.bucket.burst scheduler.bucket.empty eligible
            (bits_of octets);
      };
    }

abbrev pub members_of : List MemberScheduler → List Member
members_of schedulers = map (λ (s : MemberScheduler). s.member) schedulers

abbrev pub empties_of : List MemberScheduler → List ℤ
empties_of schedulers = map (λ (s : MemberScheduler). s.bucket.empty) schedulers

-- the groups that these lists hold
abbrev pub groups_from : List ℕ → List Ps → List MemberScheduler → GroupsState
groups_from residences_ns times schedulers =
    record {
      residences_ns = residences_ns;
      members = members_of schedulers;
      times = times;
      empties = empties_of schedulers;
    }

-- the lists fit each other, and their entries are within their ranges
pub record IsKept (residences_ns : List ℕ) (times : List Ps) (schedulers : List MemberScheduler) : Type 0 where
  pub sized : length times ≡ length residences_ns
  pub residences : All (λ (r : ℕ). r ≤ MAX_RESIDENCE_NS) residences_ns
  pub times_bounded : All (λ (t : Ps). t.0 ≤ END) times
  pub groups : All (λ (s : MemberScheduler). s.member.group < length residences_ns) schedulers
  pub ruled : All IsMemberScheduler schedulers
