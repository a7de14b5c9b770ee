use Rattle.std.proofs.Common.{◌≡◌, ℕ, ◌<◌, List, [], ◌∷◌, length, refl, sym, ap, ◌∙◌}
use Rattle.std.specs.Prelude.{slice_index}
use Rattle.std.proofs.lemmas.List.{length-map, length-replicate}
use Rattle.ats_num.specs.declared.time.Ps.{Ps}
use Rattle.ats_bucket.specs.Scheduler.{first_empty}
use Rattle.ats_group.specs.declared.member.Member.{Member}
use Rattle.ats_group.specs.Group.{State, Offer, first, judged, verdicts_of, state_after}
use Rattle.ats_streams.specs.Traffic.{IsRuled}
use Rattle.ats_group.specs.GroupsState.{GroupsState, AreGroups, no_member, member_at, declared_at, group_of}
use Rattle.ats_group.specs.GroupsState.{residence_of}
use Rattle.ats_group.specs.GroupsState.{state_of, time_at, opened}
use Rattle.ats_group.specs.Laws.{verdict_at, groups_next, groups_last, verdicts_in, offers_to, Outlasts}
use Rattle.ats_group.proofs.StepLemmas.{each_frame, the_rest, opened_first}
use Rattle.ats_group.proofs.FoldLemmas.{each_group}
use Rattle.ats_group_law.specs.GroupsLaws.{IsUse, group_among, GroupsOutputConforms, GroupsOutputAscends}
use Rattle.ats_group_law.specs.GroupsLaws.{GroupsEligibilityIsLeast}
use Rattle.ats_group_law.proofs.OutputLaws.{output_conforms, output_ascends, eligibility_least}

-- opened groups are lawful, and stay so with the same members and residences
groups-opened : (residences_ns : List ℕ) (members : List Member) (offers : List Offer)
    → IsUse residences_ns members offers → AreGroups (opened residences_ns members)
groups-opened residences_ns members offers u = record {
  times = length-replicate (length residences_ns) (let p : Ps = record { 0 = 0 } in p);
  empties = length-map members (λ (m : Member). first_empty m.declared.burst_bits);
  members = u.lawful;
}

outlasts-last : (groups : GroupsState) (offers : List Offer) → AreGroups groups
    → Outlasts groups (groups_last groups offers)
outlasts-last groups [] k = record { members = refl; residences = refl; lawful = k }
outlasts-last groups (offer ∷ offers) k =
    let one = the_rest groups offer k in
    let all = outlasts-last (groups_next groups offer) offers one.lawful in
    record { members = all.members ∙ one.members; residences = all.residences ∙ one.residences; lawful = all.lawful }

ruled-in : (residences_ns : List ℕ) (members : List Member) (offers : List Offer) (member : ℕ)
    → IsUse residences_ns members offers → member < length members
    → IsRuled (declared_at (opened residences_ns members) member)
ruled-in residences_ns members offers member u h = (u.lawful member no_member h).declared

-- the verdicts on the frames to one group are those of its fold from the first state
verdicts-in : (residences_ns : List ℕ) (members : List Member) (offers : List Offer) (group : ℕ)
    → IsUse residences_ns members offers → verdicts_in (opened residences_ns members) group offers
    ≡ verdicts_of (declared_at (opened residences_ns members)) (residence_of (opened residences_ns members) group)
    (first (declared_at (opened residences_ns members))) (offers_to (opened residences_ns members) group offers)
verdicts-in residences_ns members offers group u =
    let s : GroupsState = opened residences_ns members in
    (each_group s offers group (groups-opened residences_ns members offers u) u.known).verdicts
    ∙ ap (λ (state : State). verdicts_of (declared_at s) (residence_of s group) state (offers_to s group offers))
    (opened_first residences_ns members group)

state-in : (residences_ns : List ℕ) (members : List Member) (offers : List Offer) (group : ℕ)
    → IsUse residences_ns members offers → state_of (groups_last (opened residences_ns members) offers) group
    ≡ state_after (declared_at (opened residences_ns members)) (residence_of (opened residences_ns members) group)
    (first (declared_at (opened residences_ns members))) (offers_to (opened residences_ns members) group offers)
state-in residences_ns members offers group u =
    let s : GroupsState = opened residences_ns members in
    (each_group s offers group (groups-opened residences_ns members offers u) u.known).state
    ∙ ap (λ (state : State). state_after (declared_at s) (residence_of s group) state (offers_to s group offers))
    (opened_first residences_ns members group)

pub groups_output_conforms : GroupsOutputConforms
groups_output_conforms residences_ns members offers member u h =
    let s : GroupsState = opened residences_ns members in
    let group : ℕ = group_among residences_ns members member in
    rw (verdicts-in residences_ns members offers group u)
    (output_conforms (declared_at s) (residence_of s group) (offers_to s group offers) member
    (ruled-in residences_ns members offers member u h))

pub groups_output_ascends : GroupsOutputAscends
groups_output_ascends residences_ns members offers group u =
    let s : GroupsState = opened residences_ns members in
    rw (verdicts-in residences_ns members offers group u)
    (output_ascends (declared_at s) (residence_of s group) (offers_to s group offers))

-- the verdict on the next frame is that of its group's fold
verdict-in : (residences_ns : List ℕ) (members : List Member) (offers : List Offer) (offer : Offer)
    → IsUse residences_ns members offers → offer.member < length members
    → verdict_at (groups_last (opened residences_ns members) offers) offer
    ≡ judged (declared_at (opened residences_ns members)) (residence_of (opened residences_ns members)
    (group_among residences_ns members offer.member)) (state_of (groups_last (opened residences_ns members) offers)
    (group_among residences_ns members offer.member)) offer
verdict-in residences_ns members offers offer u h =
    let s : GroupsState = opened residences_ns members in
    let last : GroupsState = groups_last s offers in
    let kept = outlasts-last s offers (groups-opened residences_ns members offers u) in
    let within : offer.member < length last.members = rw kept.members h in
    (each_frame last offer kept.lawful within).verdict
    ∙ ap (λ (ms : List Member). judged (λ (i : ℕ). (member_at ms i).declared) (slice_index last.residences_ns
    (member_at ms offer.member).group) (state_of last (member_at ms offer.member).group) offer) kept.members
    ∙ ap (λ (rs : List ℕ). judged (declared_at s) (slice_index rs (group_of s offer.member))
    (state_of last (group_of s offer.member)) offer) kept.residences

pub groups_eligibility_least : GroupsEligibilityIsLeast
groups_eligibility_least residences_ns members offers offer e u h v =
    let s : GroupsState = opened residences_ns members in
    let group : ℕ = group_among residences_ns members offer.member in
    let state = state-in residences_ns members offers group u in
    let next = ap (λ (x : State). judged (declared_at s) (residence_of s group) x offer) (sym state)
    ∙ sym (verdict-in residences_ns members offers offer u h) ∙ v in
    let time : time_at (groups_last s offers).times group
    ≡ (state_after (declared_at s) (residence_of s group) (first (declared_at s)) (offers_to s group offers)).time =
    ap (λ (x : State). x.time) state in
    rw (verdicts-in residences_ns members offers group u, time)
    (eligibility_least (declared_at s) (residence_of s group) (offers_to s group offers) offer e
    (ruled-in residences_ns members offers offer.member u h) next)
