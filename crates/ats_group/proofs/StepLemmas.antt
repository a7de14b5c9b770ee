use Rattle.std.proofs.Common.{◌≡◌, ℕ, ◌<◌, Bool, true, false, List, length, set, sym, ap, ◌∙◌, refl, eq-eqb, inl, inr}
use Rattle.std.proofs.Common.{replicate}
use Rattle.std.specs.Prelude.{◌≢◌, ◌==◌, ℤ, pos, if◌then◌else◌}
use Rattle.std.proofs.Math.Path.{fun_ext}
use Rattle.std.proofs.Math.ListN.{get_or-map}
use Rattle.std.proofs.lemmas.Bool.{ne_eqb, cases_eq, cases_lt}
use Rattle.std.proofs.lemmas.List.{get_or-set_same, get_or-set_other, get_or-replicate, get_or_past, length-replicate}
use Rattle.ats_num.specs.declared.time.Ps.{Ps}
use Rattle.ats_bucket.specs.Scheduler.{first_empty}
use Rattle.ats_group.specs.declared.member.Member.{Member}
use Rattle.ats_group.specs.declared.verdict.Verdict.{Verdict}
use Rattle.ats_group.specs.declared.verdict.Verdict.TheVariants.{Eligible, Late, Size}
use Rattle.ats_group.specs.Group.{State, Offer, judged, after, verdict_on, empty_once}
use Rattle.ats_group.specs.GroupsState.{GroupsState, AreGroups, no_member, declared_at, group_of, time_at, empty_at}
use Rattle.ats_group.specs.GroupsState.{opened}
use Rattle.ats_group.specs.GroupsState.{residence_of, state_of, groups_after}
use Rattle.ats_group.specs.Laws.{verdict_at, EachFrameIsAStep, OpenedIsFirst, Outlasts, EachFrameKeepsTheRest}
use Rattle.ats_group.proofs.Kept.{groups-after}

-- a choice between two equal values, and by a test that is known
either : (b : Bool) (x : ℤ) → (if b then x else x) ≡ x
either true x = refl
either false x = refl

at_true : (b : Bool) (x y : ℤ) → b ≡ true → (if b then x else y) ≡ x
at_true b x y e = rw e refl

at_false : (b : Bool) (x y : ℤ) → b ≡ false → (if b then x else y) ≡ y
at_false b x y e = rw e refl

same : (n : ℕ) (x y : ℤ) → (if n == n then x else y) ≡ x
same n x y = at_true (n == n) x y (eq-eqb n n refl)

other : (m n : ℕ) (x y : ℤ) → m ≢ n → (if m == n then x else y) ≡ y
other m n x y e = at_false (m == n) x y (ne_eqb m n e)

state_is : (s t : ℕ) (e f : ℕ → ℤ) → s ≡ t → ((i : ℕ) → e i ≡ f i)
    → (let x : State = record { time = s; empty = e } in x) ≡ record { time = t; empty = f }
state_is s t e f p q = let g : e ≡ f = fun_ext q in cc

-- the member's own group
own_verdict : (groups : GroupsState) (offer : Offer) → verdict_at groups offer ≡ judged (declared_at groups)
    (residence_of groups (group_of groups offer.member)) (state_of groups (group_of groups offer.member)) offer
own_verdict groups offer =
    ap (λ (b : ℤ).
    verdict_on (declared_at groups offer.member) (residence_of groups (group_of groups offer.member))
    (time_at groups.times (group_of groups offer.member)) b offer.arrival offer.octets)
    (sym (same (group_of groups offer.member) (empty_at groups.empties offer.member) _))

-- one member's bucket-empty time after an eligible frame: its own frame, then another member's
at_member : (empties : List ℤ) (member group : ℕ) (x : ℤ) (once : ℤ → ℤ) (y : ℤ) → member < length empties
    → x ≡ once (empty_at empties member) → (if group == group then empty_at (set empties member x) member else y)
    ≡ (if member == member then once (if group == group then empty_at empties member else y)
    else (if group == group then empty_at empties member else y))
at_member empties member group x once y h e =
    same group (empty_at (set empties member x) member) y
    ∙ get_or-set_same empties member x (pos 0) h
    ∙ e
    ∙ ap once (sym (same group (empty_at empties member) y))
    ∙ sym (same member (once (if group == group then empty_at empties member else y))
    (if group == group then empty_at empties member else y))

at_another : (empties : List ℤ) (member i : ℕ) (x w y : ℤ) (b : Bool) → i ≢ member → (if b
    then empty_at (set empties member x) i else y) ≡ (if i == member then w else (if b then empty_at empties i else y))
at_another empties member i x w y b n =
    ap (λ (z : ℤ). if b then z else y) (get_or-set_other empties member i x (pos 0) n)
    ∙ sym (other i member w (if b then empty_at empties i else y) n)

-- the bucket-empty times of the member's own group after an eligible frame
own_empty : (empties : List ℤ) (member : ℕ) (x : ℤ) (once : ℕ → ℤ → ℤ) (groups : ℕ → ℕ) (firsts : ℕ → ℤ)
    → member < length empties → x ≡ once member (empty_at empties member) → (i : ℕ)
    → (if groups i == groups member then empty_at (set empties member x) i else firsts i)
    ≡ (if i == member then once i (if groups i == groups member then empty_at empties i else firsts i)
    else (if groups i == groups member then empty_at empties i else firsts i))
own_empty empties member x once groups firsts h e i =
    elim (cases_eq i member) [
      | inl p ↦ rw p (at_member empties member (groups member) x (once member) (firsts member) h e)
      | inr n ↦ at_another empties member i x _ (firsts i) (groups i == groups member) n
    ]

-- those of every other group stay
other_empty : (empties : List ℤ) (member group : ℕ) (x : ℤ) (groups : ℕ → ℕ) (firsts : ℕ → ℤ)
    → group ≢ groups member → (i : ℕ) → (if groups i == group then empty_at (set empties member x) i else firsts i)
    ≡ (if groups i == group then empty_at empties i else firsts i)
other_empty empties member group x groups firsts n i =
    elim (cases_eq i member) [
      | inl p ↦
          (let m : groups i ≢ group = λ q. n (sym q ∙ ap groups p) in
          other (groups i) group _ (firsts i) m ∙ sym (other (groups i) group (empty_at empties i) (firsts i) m))
      | inr m ↦
          ap (λ (z : ℤ). if groups i == group then z else firsts i) (get_or-set_other empties member i x (pos 0) m)
    ]

-- the member's own group takes the fold's step
own_after : (groups : GroupsState) (offer : Offer) (v : Verdict)
    → group_of groups offer.member < length groups.times → offer.member < length groups.empties
    → state_of (groups_after groups offer.member offer.octets v) (group_of groups offer.member)
    ≡ after (declared_at groups) (state_of groups (group_of groups offer.member)) offer v
own_after groups offer (Eligible e) t m =
    state_is _ _ _ _
    (ap (λ (p : Ps). p.0) (get_or-set_same groups.times (group_of groups offer.member) e (record { 0 = 0 }) t))
    (own_empty groups.empties offer.member _ (λ (i : ℕ) (b : ℤ). empty_once (declared_at groups i)
    b e.0 offer.octets) (group_of groups) (λ (i : ℕ). first_empty (declared_at groups i).burst_bits) m refl)
own_after groups offer (Late e) t m = refl
own_after groups offer Size t m = refl

-- the others stay
other_after : (groups : GroupsState) (offer : Offer) (v : Verdict) (group : ℕ) → group ≢ group_of groups offer.member
    → state_of (groups_after groups offer.member offer.octets v) group ≡ state_of groups group
other_after groups offer (Eligible e) group n =
    state_is _ _ _ _
    (ap (λ (p : Ps). p.0)
    (get_or-set_other groups.times (group_of groups offer.member) group e (record { 0 = 0 }) n))
    (other_empty groups.empties offer.member group _ (group_of groups)
    (λ (i : ℕ). first_empty (declared_at groups i).burst_bits) n)
other_after groups offer (Late e) group n = refl
other_after groups offer Size group n = refl

group_in : (groups : GroupsState) (member : ℕ) → AreGroups groups → member < length groups.members
    → group_of groups member < length groups.times
group_in groups member k h = rw k.times (k.members member no_member h).group

member_in : (groups : GroupsState) (member : ℕ) → AreGroups groups → member < length groups.members
    → member < length groups.empties
member_in groups member k h = rw k.empties h

pub each_frame : EachFrameIsAStep
each_frame groups offer k h = record {
  verdict = own_verdict groups offer;
  own =
      own_after groups offer (verdict_at groups offer) (group_in groups offer.member k h)
      (member_in groups offer.member k h)
      ∙ ap (after (declared_at groups) (state_of groups (group_of groups offer.member)) offer)
      (own_verdict groups offer);
  others = λ group n. other_after groups offer (verdict_at groups offer) group n;
}

outlasts_at : (groups : GroupsState) (member octets : ℕ) (v : Verdict)
    → AreGroups (groups_after groups member octets v) → Outlasts groups (groups_after groups member octets v)
outlasts_at groups member octets (Eligible e) k = record { members = refl; residences = refl; lawful = k }
outlasts_at groups member octets (Late e) k = record { members = refl; residences = refl; lawful = k }
outlasts_at groups member octets Size k = record { members = refl; residences = refl; lawful = k }

pub the_rest : EachFrameKeepsTheRest
the_rest groups offer k =
    outlasts_at groups offer.member offer.octets (verdict_at groups offer)
    (groups-after groups offer.member offer.arrival offer.octets k)

zero_at : (n group : ℕ) → time_at (replicate n (record { 0 = 0 })) group ≡ 0
zero_at n group =
    elim (cases_lt group n) [
      | inl h ↦ ap (λ (p : Ps). p.0) (get_or-replicate n group (record { 0 = 0 }) (record { 0 = 0 }) h)
      | inr h ↦ ap (λ (p : Ps). p.0) (get_or_past (replicate n (record { 0 = 0 })) group (record { 0 = 0 })
          (rw (length-replicate n (let p : Ps = record { 0 = 0 } in p)) h))
    ]

pub opened_first : OpenedIsFirst
opened_first residences members group =
    state_is _ _ _ _ (zero_at (length residences) group)
    (λ (i : ℕ). ap (λ (z : ℤ). if group_of (opened residences members) i == group
    then z else first_empty (declared_at (opened residences members) i).burst_bits)
    (get_or-map (λ (m : Member). first_empty m.declared.burst_bits) members i no_member)
    ∙ either (group_of (opened residences members) i == group)
    (first_empty (declared_at (opened residences members) i).burst_bits))
