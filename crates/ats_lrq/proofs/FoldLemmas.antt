use Rattle.std.proofs.Common.{◌≡◌, ℕ, ◌<◌, Bool, true, false, List, [], ◌∷◌, length, All, sym, ap, ◌∙◌, refl, subst}
use Rattle.std.proofs.Common.{arith}
use Rattle.std.specs.Prelude.{◌==◌, filter, slice_index, if◌then◌else◌}
use Rattle.std.proofs.lemmas.Map.Views.{exact_unsigned_eq}
use Rattle.std.proofs.lemmas.Bool.{eqb-false}
use Rattle.std.proofs.lemmas.List.Elements.{All-tail}
use Rattle.ats_streams.specs.declared.traffic.Declared.{Declared}
use Rattle.ats_group.specs.declared.member.Member.{Member}
use Rattle.ats_group.specs.declared.verdict.Verdict.{Verdict}
use Rattle.ats_group.specs.Group.{Offer}
use Rattle.ats_group.specs.GroupsState.{member_at}
use Rattle.ats_lrq.specs.Fold.{State, judged, next, verdicts_of, state_after}
use Rattle.ats_lrq.specs.GroupsState.{LrqState, declared_of, group_of, residence_of, state_of}
use Rattle.ats_lrq.specs.Laws.{verdict_at, groups_next, IsStep, groups_last, verdicts_in, offers_to}
use Rattle.ats_lrq.specs.Laws.{EachGroupIsAFold}
use Rattle.ats_lrq.proofs.StepLemmas.{each_frame, the_rest}

-- one frame before the others: it is the fold's step where it passes the test, and changes nothing elsewhere
verdicts_more : (test : Bool) (declared : ℕ → Declared) (residence : ℕ) (state later : State)
    (offer : Offer) (v : Verdict) (verdicts : List Verdict) (offers : List Offer)
    → verdicts ≡ verdicts_of declared residence later offers → (test ≡ true → v ≡ judged declared residence state offer)
    → (test ≡ true → later ≡ next declared residence state offer) → (test ≡ false → later ≡ state) → (if test
    then v ∷ verdicts else verdicts) ≡ verdicts_of declared residence state (if test then offer ∷ offers else offers)
verdicts_more true declared residence state later offer v verdicts offers e j n s =
    ap (λ (x : Verdict). x ∷ verdicts) (j refl) ∙ ap (λ (xs : List Verdict). judged declared residence state offer ∷ xs)
    (e ∙ ap (λ (x : State). verdicts_of declared residence x offers) (n refl))
verdicts_more false declared residence state later offer v verdicts offers e j n s =
    e ∙ ap (λ (x : State). verdicts_of declared residence x offers) (s refl)

state_more : (test : Bool) (declared : ℕ → Declared) (residence : ℕ) (state later last : State)
    (offer : Offer) (offers : List Offer) → last ≡ state_after declared residence later offers
    → (test ≡ true → later ≡ next declared residence state offer) → (test ≡ false → later ≡ state)
    → last ≡ state_after declared residence state (if test then offer ∷ offers else offers)
state_more true declared residence state later last offer offers e n s =
    e ∙ ap (λ (x : State). state_after declared residence x offers) (n refl)
state_more false declared residence state later last offer offers e n s =
    e ∙ ap (λ (x : State). state_after declared residence x offers) (s refl)

-- the same fold, told by the members and residences of another moment
like : (s t : LrqState) (group : ℕ) (offers : List Offer) → t.members ≡ s.members → t.residences_ns ≡ s.residences_ns
    → (state : State) → verdicts_of (declared_of t) (residence_of t group) state (offers_to t group offers)
    ≡ verdicts_of (declared_of s) (residence_of s group) state (offers_to s group offers)
like s t group offers m r state =
    ap (λ (ms : List Member). verdicts_of (λ (i : ℕ). (member_at ms i).declared) (residence_of t group) state
    (filter (λ (o : Offer). (member_at ms o.member).group == group) offers)) m
    ∙ ap (λ (rs : List ℕ). verdicts_of (declared_of s) (slice_index rs group) state (offers_to s group offers)) r

state_like : (s t : LrqState) (group : ℕ) (offers : List Offer) → t.members ≡ s.members
    → t.residences_ns ≡ s.residences_ns → (state : State) → state_after (declared_of t) (residence_of t group) state
    (offers_to t group offers) ≡ state_after (declared_of s) (residence_of s group) state (offers_to s group offers)
state_like s t group offers m r state =
    ap (λ (ms : List Member). state_after (λ (i : ℕ). (member_at ms i).declared) (residence_of t group) state
    (filter (λ (o : Offer). (member_at ms o.member).group == group) offers)) m
    ∙ ap (λ (rs : List ℕ). state_after (declared_of s) (slice_index rs group) state (offers_to s group offers)) r

step_in : (groups : LrqState) (offer : Offer) (group : ℕ) → IsStep groups offer (group_of groups offer.member)
    → group_of groups offer.member ≡ group → IsStep groups offer group
step_in groups offer group i e = let P : ℕ → Type 0 = λ (g : ℕ). IsStep groups offer g in subst P e i

members_in : (s t : LrqState) (offers : List Offer) → t.members ≡ s.members
    → All (λ (o : Offer). o.member < length s.members) offers → All (λ (o : Offer). o.member < length t.members) offers
members_in s t offers e a = rw e a

pub each_group : EachGroupIsAFold
each_group groups [] group k a = record { verdicts = refl; state = refl }
each_group groups (offer ∷ offers) group k a =
    let later : LrqState = groups_next groups offer in
    let kept = the_rest groups offer k in
    let rest = each_group later offers group kept.lawful (members_in groups later offers kept.members
    (All-tail (λ (o : Offer). o.member < length groups.members) offer offers a)) in
    let step = each_frame groups offer k (a 0 offer (omega arith)) in
    let test : Bool = group_of groups offer.member == group in
    let in_group : test ≡ true → IsStep groups offer group =
    λ e. step_in groups offer group step (exact_unsigned_eq (group_of groups offer.member) group e) in
    let elsewhere : test ≡ false → state_of later group ≡ state_of groups group =
    λ e. step.others group (λ p. eqb-false (group_of groups offer.member) group e (sym p)) in
    record {
      verdicts = verdicts_more test (declared_of groups) (residence_of groups group) (state_of groups group)
          (state_of later group) offer (verdict_at groups offer) (verdicts_in later group offers)
          (offers_to groups group offers)
          (rest.verdicts ∙ like groups later group offers kept.members kept.residences (state_of later group))
          (λ e. (in_group e).verdict) (λ e. (in_group e).own) elsewhere;
      state = state_more test (declared_of groups) (residence_of groups group) (state_of groups group)
          (state_of later group) (state_of (groups_last later offers) group) offer (offers_to groups group offers)
          (rest.state ∙ state_like groups later group offers kept.members kept.residences (state_of later group))
          (λ e. (in_group e).own) elsewhere;
    }
