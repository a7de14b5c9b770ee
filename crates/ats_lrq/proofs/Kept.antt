use Rattle.std.proofs.Common.{◌≡◌, ℕ, ◌<◌, ◌≤◌, List, length, get_or, set, All, sym, ap, ◌∙◌, arith, length-set}
use Rattle.std.proofs.Common.{replicate}
use Rattle.std.specs.Prelude.{Option, Some, None, slice_index}
use Rattle.std.proofs.lemmas.List.{map-set, get_or-map, length-map, length-replicate}
use Rattle.std.proofs.Math.Seq.{map-set_same}
use Rattle.std.proofs.lemmas.List.Elements.{All-set, All-map, All-replicate}
use Rattle.ats_num.specs.declared.time.TheConstants.{END}
use Rattle.ats_num.specs.declared.time.Ps.{Ps}
use Rattle.ats_group.specs.declared.member.TheConstants.{MAX_RESIDENCE_NS}
use Rattle.ats_group.specs.declared.member.Member.{Member}
use Rattle.ats_group.specs.declared.verdict.Verdict.{Verdict}
use Rattle.ats_group.specs.declared.verdict.Verdict.TheVariants.{Eligible, Late, Size}
use Rattle.ats_group.specs.GroupsState.{no_member, member_at, time_at, IsMember, AreMembers}
use Rattle.ats_lrq.specs.declared.last_frame.LastFrame.{LastFrame}
use Rattle.ats_lrq.specs.declared.spaced_member.SpacedMember.{SpacedMember}
use Rattle.ats_lrq.specs.Fold.{verdict_on, last_once}
use Rattle.ats_lrq.specs.GroupsState.{LrqState, AreLrqGroups, last_at, verdict_of, groups_after, value_after}
use Rattle.ats_lrq.specs.SpacedMember.{IsSpacedMember, IsKept, member_after, groups_from, members_of, lasts_of}

groups_is : (r : List ℕ) (m n : List Member) (t u : List Ps) (e f : List (Option LastFrame)) → m ≡ n → t ≡ u → e ≡ f
    → (let s : LrqState = record { residences_ns = r; members = m; times = t; lasts = e } in s)
    ≡ record { residences_ns = r; members = n; times = u; lasts = f }
groups_is r m n t u e f p q o = cc

-- what the member's place holds is its own
pub member_at-is : (list : List SpacedMember) (member : ℕ) (spaced : SpacedMember) → member < length list
    → spaced ≡ get_or list member spaced → member_at (members_of list) member ≡ spaced.member
member_at-is list member spaced h e =
    get_or-map (λ (s : SpacedMember). s.member) list member spaced no_member h
    ∙ ap (λ (s : SpacedMember). s.member) (sym e)

pub last_at-is : (list : List SpacedMember) (member : ℕ) (spaced : SpacedMember) → member < length list
    → spaced ≡ get_or list member spaced → last_at (lasts_of list) member ≡ spaced.last
last_at-is list member spaced h e =
    get_or-map (λ (s : SpacedMember). s.last) list member spaced None h
    ∙ ap (λ (s : SpacedMember). s.last) (sym e)

-- what the groups keep once the member and the time are written
pub value_after-is : (residences : List ℕ) (times : List Ps) (list : List SpacedMember)
    (member arrival octets : ℕ) (spaced after : SpacedMember) (eligible : Ps) → member < length list
    → spaced ≡ get_or list member spaced → after ≡ member_after spaced eligible octets
    → Eligible eligible ≡ verdict_of (groups_from residences times list) member arrival octets
    → groups_from residences (set times spaced.member.group eligible) (set list member after)
    ≡ value_after (groups_from residences times list) member arrival octets
value_after-is residences times list member arrival octets spaced after eligible h e a v =
    let m = member_at-is list member spaced h e in
    let same : members_of (set list member after) ≡ members_of list =
    map-set_same (λ (s : SpacedMember). s.member) list member after spaced
    (ap (λ (s : SpacedMember). s.member) a ∙ ap (λ (s : SpacedMember). s.member) e) in
    let changed : lasts_of (set list member after) ≡ set (lasts_of list) member (Some (last_once eligible octets)) =
    map-set (λ (s : SpacedMember). s.last) list member after
    ∙ ap (set (lasts_of list) member) (ap (λ (s : SpacedMember). s.last) a) in
    let timed : set times spaced.member.group eligible
    ≡ set times (member_at (members_of list) member).group eligible =
    ap (λ (m : Member). set times m.group eligible) (sym m) in
    groups_is residences _ _ _ _ _ _ same timed changed
    ∙ ap (groups_after (groups_from residences times list) member octets) v

group_in : (n : ℕ) (s t : SpacedMember) → s.member.group < n → t.member ≡ s.member → t.member.group < n
group_in n s t h e = rw e h

-- the lists still fit each other
pub kept-after : (residences : List ℕ) (times : List Ps) (list : List SpacedMember) (member octets : ℕ)
    (spaced after : SpacedMember) (eligible : Ps) → IsKept residences times list → member < length list
    → spaced ≡ get_or list member spaced → after ≡ member_after spaced eligible octets
    → IsSpacedMember after → eligible.0 ≤ END
    → IsKept residences (set times spaced.member.group eligible) (set list member after)
kept-after residences times list member octets spaced after eligible k h e a s bounded =
    let g : after.member.group < length residences = group_in (length residences) (get_or list member spaced) after
    (k.groups member spaced h) (ap (λ (s : SpacedMember). s.member) a ∙ ap (λ (s : SpacedMember). s.member) e) in
    record {
      sized = length-set times spaced.member.group eligible ∙ k.sized;
      residences = k.residences;
      times_bounded = All-set (λ (t : Ps). t.0 ≤ END) times spaced.member.group eligible bounded k.times_bounded;
      groups = All-set (λ (s : SpacedMember). s.member.group < length residences) list member after g k.groups;
      ruled = All-set IsSpacedMember list member after s k.ruled;
    }

member_of : (residences : List ℕ) (s : SpacedMember) → s.member.group < length residences → IsSpacedMember s
    → IsMember (length residences) s.member
member_of residences s g i = record { group = g; declared = i.declared }

-- lists that fit each other are lawful groups
pub groups-kept : (residences : List ℕ) (times : List Ps) (list : List SpacedMember) → IsKept residences times list
    → AreLrqGroups (groups_from residences times list)
groups-kept residences times list k = record {
  times = k.sized;
  lasts = length-map list (λ (s : SpacedMember). s.last) ∙ sym (length-map list (λ (s : SpacedMember). s.member));
  members = All-map (IsMember (length residences)) (λ (s : SpacedMember). s.member) list
      (λ i d h. member_of residences _ (k.groups i d h) (k.ruled i d h));
}

at_member : (n : ℕ) (s : SpacedMember) (m : Member) → m ≡ s.member → IsMember n m → s.member.group < n
at_member n s m e i = rw (← e) i.group

-- the lists fit each other at first
pub kept-opened : (residences copy : List ℕ) (members : List Member) (times : List Ps) (list : List SpacedMember)
    → copy ≡ residences → times ≡ replicate (length residences) (record { 0 = 0 }) → members_of list ≡ members
    → All IsSpacedMember list → All (λ (r : ℕ). r ≤ MAX_RESIDENCE_NS) residences
    → AreMembers (length residences) members → IsKept copy times list
kept-opened residences copy members times list r t m s bounded all =
    let every : AreMembers (length residences) (members_of list) = rw m all in
    rw (r, t) (record {
      sized = length-replicate (length residences) _;
      residences = bounded;
      times_bounded = All-replicate (λ (t : Ps). t.0 ≤ END) (length residences) (record { 0 = 0 }) (omega arith);
      groups = λ i d h. at_member (length residences) (get_or list i d) (get_or (members_of list) i no_member)
          (get_or-map (λ (s : SpacedMember). s.member) list i d no_member h)
          (every i no_member (rw (length-map list (λ (s : SpacedMember). s.member)) h));
      ruled = s;
    })

groups-like : (s t : LrqState) → AreLrqGroups t → s ≡ t → AreLrqGroups s
groups-like s t k e = rw e k

-- lawful groups stay lawful at each verdict
groups-at : (groups : LrqState) (member octets : ℕ) (v : Verdict) → AreLrqGroups groups
    → AreLrqGroups (groups_after groups member octets v)
groups-at groups member octets (Eligible e) k = record {
  times = length-set groups.times _ e ∙ k.times;
  lasts = length-set groups.lasts member _ ∙ k.lasts;
  members = k.members;
}
groups-at groups member octets (Late e) k = k
groups-at groups member octets Size k = k

-- lawful groups stay lawful at each frame
pub groups-after : (groups : LrqState) (member arrival octets : ℕ) → AreLrqGroups groups
    → AreLrqGroups (value_after groups member arrival octets)
groups-after groups member arrival octets k =
    groups-at groups member octets (verdict_of groups member arrival octets) k

pub groups-next : (residences : List ℕ) (times : List Ps) (list : List SpacedMember) (old new : LrqState)
    (member arrival octets : ℕ) → IsKept residences times list → groups_from residences times list ≡ old
    → new ≡ value_after old member arrival octets → AreLrqGroups new
groups-next residences times list old new member arrival octets k o n =
    groups-like new (value_after old member arrival octets)
    (groups-after old member arrival octets (rw (← o) (groups-kept residences times list k))) n

-- the verdict on the member
pub verdict_of-is : (residences : List ℕ) (times : List Ps) (list : List SpacedMember) (member arrival octets : ℕ)
    (spaced : SpacedMember) (v : Verdict) → member < length list → spaced ≡ get_or list member spaced
    → v ≡ verdict_on spaced.member.declared (slice_index residences spaced.member.group)
    (time_at times spaced.member.group) spaced.last arrival octets
    → v ≡ verdict_of (groups_from residences times list) member arrival octets
verdict_of-is residences times list member arrival octets spaced v h e i =
    i ∙ sym (ap (λ (m : Member). verdict_on m.declared (slice_index residences m.group) (time_at times m.group)
    (last_at (lasts_of list) member) arrival octets) (member_at-is list member spaced h e)
    ∙ ap (λ (l : Option LastFrame). verdict_on spaced.member.declared (slice_index residences spaced.member.group)
    (time_at times spaced.member.group) l arrival octets) (last_at-is list member spaced h e))
