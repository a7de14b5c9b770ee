use Rattle.std.proofs.Common.{◌≡◌, ℕ, ◌<◌, ◌≤◌, List, length, get_or, set, All, sym, ap, ◌∙◌, refl, arith, length-set}
use Rattle.std.proofs.Common.{replicate}
use Rattle.std.specs.Prelude.{ℤ, pos, slice_index}
use Rattle.std.proofs.lemmas.List.{map-set, get_or-map, length-map, length-replicate}
use Rattle.std.proofs.Math.Seq.{map-set_same}
use Rattle.std.proofs.lemmas.List.Elements.{All-set, All-map, All-replicate}
use Rattle.ats_num.specs.declared.time.TheConstants.{END}
use Rattle.ats_num.specs.declared.time.Ps.{Ps}
use Rattle.ats_group.specs.declared.member.TheConstants.{MAX_RESIDENCE_NS}
use Rattle.ats_group.specs.declared.member.Member.{Member}
use Rattle.ats_group.specs.declared.member_scheduler.MemberScheduler.{MemberScheduler}
use Rattle.ats_group.specs.declared.verdict.Verdict.{Verdict}
use Rattle.ats_group.specs.declared.verdict.Verdict.TheVariants.{Eligible, Late, Size}
use Rattle.ats_group.specs.Group.{empty_once, verdict_on}
use Rattle.ats_group.specs.GroupsState.{GroupsState, no_member, member_at, time_at, empty_at, verdict_of, groups_after}
use Rattle.ats_group.specs.GroupsState.{value_after, AreGroups, IsMember, AreMembers}
use Rattle.ats_group.specs.MemberScheduler.{IsMemberScheduler, scheduler_after, groups_from, members_of, empties_of}
use Rattle.ats_group.specs.MemberScheduler.{IsKept}

groups_is : (r : List ℕ) (m n : List Member) (t u : List Ps) (e f : List ℤ) → m ≡ n → t ≡ u → e ≡ f
    → (let s : GroupsState = record { residences_ns = r; members = m; times = t; empties = e } in s)
    ≡ record { residences_ns = r; members = n; times = u; empties = f }
groups_is r m n t u e f p q o = cc

-- what the member's place holds is its scheduler's
pub member_at-is : (schedulers : List MemberScheduler) (member : ℕ) (scheduler : MemberScheduler)
    → member < length schedulers
    → scheduler ≡ get_or schedulers member scheduler → member_at (members_of schedulers) member ≡ scheduler.member
member_at-is schedulers member scheduler h e =
    get_or-map (λ (s : MemberScheduler). s.member) schedulers member scheduler no_member h
    ∙ ap (λ (s : MemberScheduler). s.member) (sym e)

pub empty_at-is : (schedulers : List MemberScheduler) (member : ℕ) (scheduler : MemberScheduler)
    → member < length schedulers
    → scheduler ≡ get_or schedulers member scheduler → empty_at (empties_of schedulers) member ≡ scheduler.bucket.empty
empty_at-is schedulers member scheduler h e =
    get_or-map (λ (s : MemberScheduler). s.bucket.empty) schedulers member scheduler (pos 0) h
    ∙ ap (λ (s : MemberScheduler). s.bucket.empty) (sym e)

empty_once-is : (scheduler : MemberScheduler) (m : Member) (empty : ℤ) (eligible octets : ℕ)
    → IsMemberScheduler scheduler → m ≡ scheduler.member → empty ≡ scheduler.bucket.empty
    → (scheduler_after scheduler eligible octets).bucket.empty ≡ empty_once m.declared empty eligible octets
empty_once-is scheduler m empty eligible octets s e f = rw (e, f, ← s.rate, ← s.burst) refl

scheduler_in : (s t : MemberScheduler) → IsMemberScheduler t → s ≡ t → IsMemberScheduler s
scheduler_in s t i e = rw e i

-- what the groups keep once the scheduler and the time are written
pub value_after-is : (residences : List ℕ) (times : List Ps) (schedulers : List MemberScheduler)
    (member arrival octets : ℕ) (scheduler after : MemberScheduler) (eligible : Ps) → member < length schedulers
    → scheduler ≡ get_or schedulers member scheduler → All IsMemberScheduler schedulers
    → after ≡ scheduler_after scheduler eligible.0 octets
    → Eligible eligible ≡ verdict_of (groups_from residences times schedulers) member arrival octets
    → groups_from residences (set times scheduler.member.group eligible) (set schedulers member after)
    ≡ value_after (groups_from residences times schedulers) member arrival octets
value_after-is residences times schedulers member arrival octets scheduler after eligible h e ruled a v =
    let s = scheduler_in scheduler (get_or schedulers member scheduler) (ruled member scheduler h) e in
    let m = member_at-is schedulers member scheduler h e in
    let b = empty_at-is schedulers member scheduler h e in
    let once = empty_once-is scheduler (member_at (members_of schedulers) member)
    (empty_at (empties_of schedulers) member)
    eligible.0 octets s m b in
    let same : members_of (set schedulers member after) ≡ members_of schedulers =
    map-set_same (λ (s : MemberScheduler). s.member) schedulers member after scheduler
    (ap (λ (s : MemberScheduler). s.member) a ∙ ap (λ (s : MemberScheduler). s.member) e) in
    let changed : empties_of (set schedulers member after) ≡ set (empties_of schedulers) member (empty_once
    (member_at (members_of schedulers) member).declared (empty_at (empties_of schedulers) member) eligible.0 octets) =
    map-set (λ (s : MemberScheduler). s.bucket.empty) schedulers member after
    ∙ ap (set (empties_of schedulers) member) (ap (λ (s : MemberScheduler). s.bucket.empty) a ∙ once) in
    let timed : set times scheduler.member.group eligible
    ≡ set times (member_at (members_of schedulers) member).group eligible =
    ap (λ (m : Member). set times m.group eligible) (sym m) in
    groups_is residences _ _ _ _ _ _ same timed changed
    ∙ ap (groups_after (groups_from residences times schedulers) member octets) v

group_in : (n : ℕ) (s t : MemberScheduler) → s.member.group < n → t.member ≡ s.member → t.member.group < n
group_in n s t h e = rw e h

-- the lists still fit each other
pub kept-after : (residences : List ℕ) (times : List Ps) (schedulers : List MemberScheduler) (member octets : ℕ)
    (scheduler after : MemberScheduler) (eligible : Ps) → IsKept residences times schedulers
    → member < length schedulers
    → scheduler ≡ get_or schedulers member scheduler → after ≡ scheduler_after scheduler eligible.0 octets
    → IsMemberScheduler after → eligible.0 ≤ END
    → IsKept residences (set times scheduler.member.group eligible) (set schedulers member after)
kept-after residences times schedulers member octets scheduler after eligible k h e a s bounded =
    let g : after.member.group < length residences = group_in (length residences)
    (get_or schedulers member scheduler) after
    (k.groups member scheduler h) (ap (λ (s : MemberScheduler). s.member) a
    ∙ ap (λ (s : MemberScheduler). s.member) e) in
    record {
      sized = length-set times scheduler.member.group eligible ∙ k.sized;
      residences = k.residences;
      times_bounded = All-set (λ (t : Ps). t.0 ≤ END) times scheduler.member.group eligible bounded k.times_bounded;
      groups = All-set (λ (s : MemberScheduler). s.member.group < length residences) schedulers member after g k.groups;
      ruled = All-set IsMemberScheduler schedulers member after s k.ruled;
    }

member_of : (residences : List ℕ) (s : MemberScheduler) → s.member.group < length residences → IsMemberScheduler s
    → IsMember (length residences) s.member
member_of residences s g i = record { group = g; declared = i.declared }

-- lists that fit each other are lawful groups
pub groups-kept : (residences : List ℕ) (times : List Ps) (schedulers : List MemberScheduler)
    → IsKept residences times schedulers
    → AreGroups (groups_from residences times schedulers)
groups-kept residences times schedulers k = record {
  times = k.sized;
  empties = length-map schedulers (λ (s : MemberScheduler). s.bucket.empty)
      ∙ sym (length-map schedulers (λ (s : MemberScheduler). s.member));
  members = All-map (IsMember (length residences)) (λ (s : MemberScheduler). s.member) schedulers
      (λ i d h. member_of residences _ (k.groups i d h) (k.ruled i d h));
}

at_scheduler : (n : ℕ) (s : MemberScheduler) (m : Member) → m ≡ s.member → IsMember n m → s.member.group < n
at_scheduler n s m e i = rw (← e) i.group

-- the lists fit each other at first
pub kept-opened : (residences list : List ℕ) (members : List Member) (times : List Ps)
    (schedulers : List MemberScheduler)
    → list ≡ residences → times ≡ replicate (length residences) (record { 0 = 0 }) → members_of schedulers ≡ members
    → All IsMemberScheduler schedulers → All (λ (r : ℕ). r ≤ MAX_RESIDENCE_NS) residences
    → AreMembers (length residences) members
    → IsKept list times schedulers
kept-opened residences list members times schedulers r t m s bounded all =
    let every : AreMembers (length residences) (members_of schedulers) = rw m all in
    rw (r, t) (record {
      sized = length-replicate (length residences) _;
      residences = bounded;
      times_bounded = All-replicate (λ (t : Ps). t.0 ≤ END) (length residences) (record { 0 = 0 }) (omega arith);
      groups = λ i d h. at_scheduler (length residences) (get_or schedulers i d)
          (get_or (members_of schedulers) i no_member)
          (get_or-map (λ (s : MemberScheduler). s.member) schedulers i d no_member h)
          (every i no_member (rw (length-map schedulers (λ (s : MemberScheduler). s.member)) h));
      ruled = s;
    })

groups-like : (s t : GroupsState) → AreGroups t → s ≡ t → AreGroups s
groups-like s t k e = rw e k

-- lawful groups stay lawful at each verdict
groups-at : (groups : GroupsState) (member octets : ℕ) (v : Verdict) → AreGroups groups
    → AreGroups (groups_after groups member octets v)
groups-at groups member octets (Eligible e) k = record {
  times = length-set groups.times _ e ∙ k.times;
  empties = length-set groups.empties member _ ∙ k.empties;
  members = k.members;
}
groups-at groups member octets (Late e) k = k
groups-at groups member octets Size k = k

-- lawful groups stay lawful at each frame
pub groups-after : (groups : GroupsState) (member arrival octets : ℕ) → AreGroups groups
    → AreGroups (value_after groups member arrival octets)
groups-after groups member arrival octets k =
    groups-at groups member octets (verdict_of groups member arrival octets) k

pub groups-next : (residences : List ℕ) (times : List Ps) (schedulers : List MemberScheduler) (old new : GroupsState)
    (member arrival octets : ℕ) → IsKept residences times schedulers → groups_from residences times schedulers ≡ old
    → new ≡ value_after old member arrival octets → AreGroups new
groups-next residences times schedulers old new member arrival octets k o n =
    groups-like new (value_after old member arrival octets)
    (groups-after old member arrival octets (rw (← o) (groups-kept residences times schedulers k))) n

-- the verdict on the scheduler's member
pub verdict_of-is :
    (residences : List ℕ) (times : List Ps) (schedulers : List MemberScheduler) (member arrival octets : ℕ)
    (scheduler : MemberScheduler) (v : Verdict)
    → member < length schedulers → scheduler ≡ get_or schedulers member scheduler
    → v ≡ verdict_on scheduler.member.declared
    (slice_index residences scheduler.member.group)
    (time_at times scheduler.member.group) scheduler.bucket.empty arrival octets
    → v ≡ verdict_of (groups_from residences times schedulers) member arrival octets
verdict_of-is residences times schedulers member arrival octets scheduler v h e i =
    i ∙ sym (ap (λ (m : Member). verdict_on m.declared (slice_index residences m.group) (time_at times m.group)
    (empty_at (empties_of schedulers) member) arrival octets) (member_at-is schedulers member scheduler h e)
    ∙ ap (λ (b : ℤ). verdict_on scheduler.member.declared (slice_index residences scheduler.member.group)
    (time_at times scheduler.member.group) b arrival octets) (empty_at-is schedulers member scheduler h e))
