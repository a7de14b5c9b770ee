use Rattle.std.proofs.Common.{◌≡◌, ℕ, ◌<◌, Bool, true, false, List, length, set, sym, ap, ◌∙◌, refl, eq-eqb, inl, inr}
use Rattle.std.proofs.Common.{replicate}
use Rattle.std.specs.Prelude.{◌≢◌, ◌==◌, Option, Some, None, if◌then◌else◌}
use Rattle.std.proofs.Math.Path.{fun_ext}
use Rattle.std.proofs.Math.ListN.{get_or-map}
use Rattle.std.proofs.lemmas.Bool.{ne_eqb, cases_eq, cases_lt}
use Rattle.std.proofs.lemmas.List.{get_or-set_same, get_or-set_other, get_or-replicate, get_or_past, length-replicate}
use Rattle.ats_num.specs.declared.time.Ps.{Ps}
use Rattle.ats_group.specs.declared.member.Member.{Member}
use Rattle.ats_group.specs.declared.verdict.Verdict.{Verdict}
use Rattle.ats_group.specs.declared.verdict.Verdict.TheVariants.{Eligible, Late, Size}
use Rattle.ats_group.specs.Group.{Offer}
use Rattle.ats_group.specs.GroupsState.{no_member, time_at}
use Rattle.ats_lrq.specs.declared.last_frame.LastFrame.{LastFrame}
use Rattle.ats_lrq.specs.Fold.{State, judged, after, verdict_on, last_once}
use Rattle.ats_lrq.specs.GroupsState.{LrqState, AreLrqGroups, declared_of, group_of, last_at, opened, residence_of}
use Rattle.ats_lrq.specs.GroupsState.{state_of, groups_after}
use Rattle.ats_lrq.specs.Laws.{verdict_at, EachFrameIsAStep, OpenedIsFirst, Outlasts, EachFrameKeepsTheRest}
use Rattle.ats_lrq.proofs.Kept.{groups-after}

-- a choice between two equal values, and by a test that is known
either : (b : Bool) (x : Option LastFrame) → (if b then x else x) ≡ x
either true x = refl
either false x = refl

at_true : (b : Bool) (x y : Option LastFrame) → b ≡ true → (if b then x else y) ≡ x
at_true b x y e = rw e refl

at_false : (b : Bool) (x y : Option LastFrame) → b ≡ false → (if b then x else y) ≡ y
at_false b x y e = rw e refl

same : (n : ℕ) (x y : Option LastFrame) → (if n == n then x else y) ≡ x
same n x y = at_true (n == n) x y (eq-eqb n n refl)

other : (m n : ℕ) (x y : Option LastFrame) → m ≢ n → (if m == n then x else y) ≡ y
other m n x y e = at_false (m == n) x y (ne_eqb m n e)

state_is : (s t : ℕ) (e f : ℕ → Option LastFrame) → s ≡ t → ((i : ℕ) → e i ≡ f i)
    → (let x : State = record { time = s; last = e } in x) ≡ record { time = t; last = f }
state_is s t e f p q = let g : e ≡ f = fun_ext q in cc

-- the member's own group
own_verdict : (groups : LrqState) (offer : Offer) → verdict_at groups offer ≡ judged (declared_of groups)
    (residence_of groups (group_of groups offer.member)) (state_of groups (group_of groups offer.member)) offer
own_verdict groups offer =
    ap (λ (b : Option LastFrame).
    verdict_on (declared_of groups offer.member) (residence_of groups (group_of groups offer.member))
    (time_at groups.times (group_of groups offer.member)) b offer.arrival offer.octets)
    (sym (same (group_of groups offer.member) (last_at groups.lasts offer.member) None))

-- the last accepted frames of the member's own group after an eligible frame
own_last : (lasts : List (Option LastFrame)) (member : ℕ) (x : Option LastFrame) (groups : ℕ → ℕ)
    → member < length lasts → (i : ℕ)
    → (if groups i == groups member then last_at (set lasts member x) i else None)
    ≡ (if i == member then x else (if groups i == groups member then last_at lasts i else None))
own_last lasts member x groups h i =
    elim (cases_eq i member) [
      | inl p ↦ rw p (
          same (groups member) (last_at (set lasts member x) member) None
          ∙ get_or-set_same lasts member x None h
          ∙ sym (same member x (if groups member == groups member then last_at lasts member else None)))
      | inr n ↦
          ap (λ (z : Option LastFrame). if groups i == groups member then z else None)
          (get_or-set_other lasts member i x None n)
          ∙ sym (other i member x (if groups i == groups member then last_at lasts i else None) n)
    ]

-- those of every other group stay
other_last : (lasts : List (Option LastFrame)) (member group : ℕ) (x : Option LastFrame) (groups : ℕ → ℕ)
    → group ≢ groups member → (i : ℕ) → (if groups i == group then last_at (set lasts member x) i else None)
    ≡ (if groups i == group then last_at lasts i else None)
other_last lasts member group x groups n i =
    elim (cases_eq i member) [
      | inl p ↦
          (let m : groups i ≢ group = λ q. n (sym q ∙ ap groups p) in
          other (groups i) group _ None m ∙ sym (other (groups i) group (last_at lasts i) None m))
      | inr m ↦
          ap (λ (z : Option LastFrame). if groups i == group then z else None)
          (get_or-set_other lasts member i x None m)
    ]

-- the member's own group takes the fold's step
own_after : (groups : LrqState) (offer : Offer) (v : Verdict)
    → group_of groups offer.member < length groups.times → offer.member < length groups.lasts
    → state_of (groups_after groups offer.member offer.octets v) (group_of groups offer.member)
    ≡ after (state_of groups (group_of groups offer.member)) offer v
own_after groups offer (Eligible e) t m =
    state_is _ _ _ _
    (ap (λ (p : Ps). p.0) (get_or-set_same groups.times (group_of groups offer.member) e (record { 0 = 0 }) t))
    (own_last groups.lasts offer.member (Some (last_once e offer.octets)) (group_of groups) m)
own_after groups offer (Late e) t m = refl
own_after groups offer Size t m = refl

-- the others stay
other_after : (groups : LrqState) (offer : Offer) (v : Verdict) (group : ℕ) → group ≢ group_of groups offer.member
    → state_of (groups_after groups offer.member offer.octets v) group ≡ state_of groups group
other_after groups offer (Eligible e) group n =
    state_is _ _ _ _
    (ap (λ (p : Ps). p.0)
    (get_or-set_other groups.times (group_of groups offer.member) group e (record { 0 = 0 }) n))
    (other_last groups.lasts offer.member group (Some (last_once e offer.octets)) (group_of groups) n)
other_after groups offer (Late e) group n = refl
other_after groups offer Size group n = refl

group_in : (groups : LrqState) (member : ℕ) → AreLrqGroups groups → member < length groups.members
    → group_of groups member < length groups.times
group_in groups member k h = rw k.times (k.members member no_member h).group

member_in : (groups : LrqState) (member : ℕ) → AreLrqGroups groups → member < length groups.members
    → member < length groups.lasts
member_in groups member k h = rw k.lasts h

pub each_frame : EachFrameIsAStep
each_frame groups offer k h = record {
  verdict = own_verdict groups offer;
  own =
      own_after groups offer (verdict_at groups offer) (group_in groups offer.member k h)
      (member_in groups offer.member k h)
      ∙ ap (after (state_of groups (group_of groups offer.member)) offer) (own_verdict groups offer);
  others = λ group n. other_after groups offer (verdict_at groups offer) group n;
}

outlasts_at : (groups : LrqState) (member octets : ℕ) (v : Verdict)
    → AreLrqGroups (groups_after groups member octets v) → Outlasts groups (groups_after groups member octets v)
outlasts_at groups member octets (Eligible e) k = record { members = refl; residences = refl; lawful = k }
outlasts_at groups member octets (Late e) k = record { members = refl; residences = refl; lawful = k }
outlasts_at groups member octets Size k = record { members = refl; residences = refl; lawful = k }

pub the_rest : EachFrameKeepsTheRest
the_rest groups offer k =
    outlasts_at groups offer.member offer.octets (verdict_at groups offer)
    (groups-after groups offer.member offer.arrival offer.octets k)

zero_at : (n group : ℕ) → time_at (replicate n (record { 0 = 0 })) group ≡ 0
zero_at n group =
    elim (cases_lt group n) [
      | inl h ↦ ap (λ (p : Ps). p.0) (get_or-replicate n group (record { 0 = 0 }) (record { 0 = 0 }) h)
      | inr h ↦ ap (λ (p : Ps). p.0) (get_or_past (replicate n (record { 0 = 0 })) group (record { 0 = 0 })
          (rw (length-replicate n (let p : Ps = record { 0 = 0 } in p)) h))
    ]

pub opened_first : OpenedIsFirst
opened_first residences members group =
    state_is _ _ _ _ (zero_at (length residences) group)
    (λ (i : ℕ). ap (λ (z : Option LastFrame). if group_of (opened residences members) i == group then z else None)
    (get_or-map (λ (m : Member). let n : Option LastFrame = None in n) members i no_member)
    ∙ either (group_of (opened residences members) i == group) None)
