use Rattle.std.specs.Prelude.{◌≡◌, ℕ, ◌<◌, ◌==◌, ℤ, pos, List, length, map, replicate, slice_index, slice_index_or}
use Rattle.std.specs.Prelude.{slice_set, All, if◌then◌else◌}
use Rattle.ats_num.specs.declared.time.Ps.{Ps}
use Rattle.ats_bucket.specs.Scheduler.{first_empty}
use Rattle.ats_streams.specs.declared.traffic.Declared.{Declared}
use Rattle.ats_group.specs.declared.member.Member.{Member}
use Rattle.ats_group.specs.declared.verdict.Verdict.{Verdict}
use Rattle.ats_group.specs.declared.verdict.Verdict.TheVariants.{Eligible, Late, Size}
use Rattle.ats_group.specs.Group.{State, verdict_on, empty_once}
use Rattle.ats_streams.specs.Traffic.{IsRuled}

-- what all groups keep: the maximum residence time of each group in nanoseconds, the members, the group eligibility
-- time of each group, and the bucket-empty time of each member, multiplied by its rate
pub record GroupsState : Type 0 where
  pub residences_ns : List ℕ
  pub members : List Member
  pub times : List Ps
  pub empties : List ℤ

-- stands in a list's place where there is none
abbrev pub no_member : Member
no_member = record { group = 0; declared = record { rate = 0; burst_bits = 0; min_octets = 0; max_octets = 0 } }

abbrev pub member_at : List Member → ℕ → Member
member_at members member = slice_index_or members member no_member

-- the time at a place of a list of times
abbrev pub time_at : List Ps → ℕ → ℕ
time_at times group = (slice_index_or times group (record { 0 = 0 })).0

abbrev pub empty_at : List ℤ → ℕ → ℤ
empty_at empties member = slice_index_or empties member (pos 0)

-- the group of a member, and what is declared of it
abbrev pub group_of : GroupsState → ℕ → ℕ
group_of groups member = (member_at groups.members member).group

abbrev pub declared_at : GroupsState → ℕ → Declared
declared_at groups member = (member_at groups.members member).declared

-- the maximum residence time of a group, in nanoseconds
abbrev pub residence_of : GroupsState → ℕ → ℕ
residence_of groups group = slice_index groups.residences_ns group

-- what one group keeps; a member of another group has a bucket as at first
abbrev pub state_of : GroupsState → ℕ → State
state_of groups group =
    record {
      time = time_at groups.times group;
      empty = λ member. if group_of groups member == group then empty_at groups.empties member
          else first_empty (declared_at groups member).burst_bits;
    }

-- each member's bucket-empty time at first
abbrev pub first_empties : List Member → List ℤ
first_empties members = map (λ (m : Member). first_empty m.declared.burst_bits) members

-- what the groups keep at first
abbrev pub opened : List ℕ → List Member → GroupsState
opened residences_ns members =
    record {
      residences_ns = residences_ns;
      members = members;
      times = replicate (length residences_ns) (record { 0 = 0 });
      empties = first_empties members;
    }

-- the verdict on a frame of a member
abbrev pub verdict_of : GroupsState → ℕ → ℕ → ℕ → Verdict
verdict_of groups member arrival octets =
    let group = group_of groups member in
    verdict_on (declared_at groups member) (residence_of groups group) (time_at groups.times group)
    (empty_at groups.empties member) arrival octets

-- what the groups keep after a verdict on a frame of a member
abbrev pub groups_after : GroupsState → ℕ → ℕ → Verdict → GroupsState
groups_after groups member octets (Eligible e) =
    record groups {
      times = slice_set groups.times (group_of groups member) e;
      empties = slice_set groups.empties member
          (empty_once (declared_at groups member) (empty_at groups.empties member) e.0 octets);
    }
groups_after groups member octets (Late e) = groups
groups_after groups member octets Size = groups

-- what the groups keep after a frame of a member
abbrev pub value_after : GroupsState → ℕ → ℕ → ℕ → GroupsState
value_after groups member arrival octets =
    groups_after groups member octets (verdict_of groups member arrival octets)

-- a member's group is one of so many, and what is declared of it keeps the rules of a stream
pub record IsMember (groups : ℕ) (m : Member) : Type 0 where
  pub group : m.group < groups
  pub declared : IsRuled m.declared

abbrev pub AreMembers : ℕ → List Member → Type 0
AreMembers groups members = All (IsMember groups) members

-- what is declared of each member keeps the rules of a stream
abbrev pub AreRuled : List Member → Type 0
AreRuled members = All (λ (m : Member). IsRuled m.declared) members

-- each group has a time, each member a bucket-empty time, and each member's group is there
pub record AreGroups (groups : GroupsState) : Type 0 where
  pub times : length groups.times ≡ length groups.residences_ns
  pub empties : length groups.empties ≡ length groups.members
  pub members : AreMembers (length groups.residences_ns) groups.members
