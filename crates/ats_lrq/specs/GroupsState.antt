use Rattle.std.specs.Prelude.{◌≡◌, ℕ, ◌==◌, List, length, map, replicate, slice_index, slice_index_or}
use Rattle.std.specs.Prelude.{slice_set, Option, Some, None, if◌then◌else◌}
use Rattle.ats_num.specs.declared.time.Ps.{Ps}
use Rattle.ats_streams.specs.declared.traffic.Declared.{Declared}
use Rattle.ats_group.specs.declared.member.Member.{Member}
use Rattle.ats_group.specs.declared.verdict.Verdict.{Verdict}
use Rattle.ats_group.specs.declared.verdict.Verdict.TheVariants.{Eligible, Late, Size}
use Rattle.ats_group.specs.GroupsState.{AreMembers, member_at, time_at}
use Rattle.ats_lrq.specs.declared.last_frame.LastFrame.{LastFrame}
use Rattle.ats_lrq.specs.Fold.{State, last_once, verdict_on}

-- what all groups keep: the maximum residence time of each group in nanoseconds, the members, the group eligibility
-- time of each group, and the last accepted frame of each member
pub record LrqState : Type 0 where
  pub residences_ns : List ℕ
  pub members : List Member
  pub times : List Ps
  pub lasts : List (Option LastFrame)

abbrev pub last_at : List (Option LastFrame) → ℕ → Option LastFrame
last_at lasts member = slice_index_or lasts member None

-- the group of a member, and what is declared of it
abbrev pub group_of : LrqState → ℕ → ℕ
group_of groups member = (member_at groups.members member).group

abbrev pub declared_of : LrqState → ℕ → Declared
declared_of groups member = (member_at groups.members member).declared

-- the maximum residence time of a group, in nanoseconds
abbrev pub residence_of : LrqState → ℕ → ℕ
residence_of groups group = slice_index groups.residences_ns group

-- what one group keeps; of a member of another group it has accepted nothing
abbrev pub state_of : LrqState → ℕ → State
state_of groups group =
    record {
      time = time_at groups.times group;
      last = λ member. if group_of groups member == group then last_at groups.lasts member else None;
    }

-- no member has an accepted frame
abbrev pub no_last : List Member → List (Option LastFrame)
no_last members = map (λ (m : Member). None) members

-- what the groups keep at first
abbrev pub opened : List ℕ → List Member → LrqState
opened residences_ns members =
    record {
      residences_ns = residences_ns;
      members = members;
      times = replicate (length residences_ns) (record { 0 = 0 });
      lasts = no_last members;
    }

-- the verdict on a frame of a member
abbrev pub verdict_of : LrqState → ℕ → ℕ → ℕ → Verdict
verdict_of groups member arrival octets =
    let group = group_of groups member in
    verdict_on (declared_of groups member) (residence_of groups group) (time_at groups.times group)
    (last_at groups.lasts member) arrival octets

-- what the groups keep after a verdict on a frame of a member
abbrev pub groups_after : LrqState → ℕ → ℕ → Verdict → LrqState
groups_after groups member octets (Eligible e) =
    record groups {
      times = slice_set groups.times (group_of groups member) e;
      lasts = slice_set groups.lasts member (Some (last_once e octets));
    }
groups_after groups member octets (Late e) = groups
groups_after groups member octets Size = groups

-- what the groups keep after a frame of a member
abbrev pub value_after : LrqState → ℕ → ℕ → ℕ → LrqState
value_after groups member arrival octets =
    groups_after groups member octets (verdict_of groups member arrival octets)

-- each group has a time, each member a place for its last accepted frame, and each member's group is there
pub record AreLrqGroups (groups : LrqState) : Type 0 where
  pub times : length groups.times ≡ length groups.residences_ns
  pub lasts : length groups.lasts ≡ length groups.members
  pub members : AreMembers (length groups.residences_ns) groups.members
