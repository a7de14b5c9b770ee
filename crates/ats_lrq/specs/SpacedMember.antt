use Rattle.std.specs.Prelude.{◌≡◌, ℕ, ◌<◌, ◌≤◌, List, length, map, All, Option, Some}
use Rattle.std.specs.Option.{ForSome}
use Rattle.ats_num.specs.declared.time.TheConstants.{END}
use Rattle.ats_num.specs.declared.time.Ps.{Ps}
use Rattle.ats_num.specs.declared.wire.TheConstants.{MAX_WIRE_BITS}
use Rattle.ats_num.specs.Wire.{IsFrameSize}
use Rattle.ats_streams.specs.Traffic.{IsRuled}
use Rattle.ats_group.specs.declared.member.TheConstants.{MAX_RESIDENCE_NS}
use Rattle.ats_group.specs.declared.member.Member.{Member}
use Rattle.ats_group.specs.declared.verdict.Verdict.{Verdict}
use Rattle.ats_group.specs.declared.verdict.Verdict.TheVariants.{Eligible, Late, Size}
use Rattle.ats_lrq.specs.declared.last_frame.LastFrame.{LastFrame}
use Rattle.ats_lrq.specs.declared.spaced_member.SpacedMember.{SpacedMember}
use Rattle.ats_lrq.specs.Fold.{last_once}
use Rattle.ats_lrq.specs.GroupsState.{LrqState}

-- a last accepted frame has the time and the wire bits of one
pub record IsLastFrame (last : LastFrame) : Type 0 where
  pub time : last.eligible.0 ≤ END
  pub bits : last.bits ≤ MAX_WIRE_BITS

-- what is declared of the member keeps the rules of a stream
pub record IsSpacedMember (spaced : SpacedMember) : Type 0 where
  pub declared : IsRuled spaced.member.declared
  pub last : ForSome spaced.last IsLastFrame

-- a frame of so many octets may be accepted at this time
pub record Accepts (octets eligible : ℕ) : Type 0 where
  pub frame : IsFrameSize octets
  pub time : eligible ≤ END

-- what an eligible frame's verdict allows
abbrev pub MayAccept : ℕ → Verdict → Type 0
MayAccept octets (Eligible e) = Accepts octets e.0
MayAccept octets (Late e) = Unit {0}
MayAccept octets Size = Unit {0}

-- the member after that
abbrev pub member_after : SpacedMember → Ps → ℕ → SpacedMember
member_after spaced eligible octets = record spaced { last = Some (last_once eligible octets) }

abbrev pub members_of : List SpacedMember → List Member
members_of spaced = map (λ (s : SpacedMember). s.member) spaced

abbrev pub lasts_of : List SpacedMember → List (Option LastFrame)
lasts_of spaced = map (λ (s : SpacedMember). s.last) spaced

-- the groups that these lists hold
abbrev pub groups_from : List ℕ → List Ps → List SpacedMember → LrqState
groups_from residences_ns times spaced =
    record {
      residences_ns = residences_ns;
      members = members_of spaced;
      times = times;
      lasts = lasts_of spaced;
    }

-- the lists fit each other, and their entries are within their ranges
pub record IsKept (residences_ns : List ℕ) (times : List Ps) (spaced : List SpacedMember) : Type 0 where
  pub sized : length times ≡ length residences_ns
  pub residences : All (λ (r : ℕ). r ≤ MAX_RESIDENCE_NS) residences_ns
  pub times_bounded : All (λ (t : Ps). t.0 ≤ END) times
  pub groups : All (λ (s : SpacedMember). s.member.group < length residences_ns) spaced
  pub ruled : All IsSpacedMember spaced
