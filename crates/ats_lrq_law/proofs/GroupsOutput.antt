use Rattle.std.proofs.Common.{◌≡◌, ℕ, ◌<◌, List, length, ap, ◌∙◌}
use Rattle.std.specs.Prelude.{Option, None}
use Rattle.std.proofs.lemmas.List.{length-map, length-replicate}
use Rattle.ats_num.specs.declared.time.Ps.{Ps}
use Rattle.ats_streams.specs.Traffic.{IsRuled}
use Rattle.ats_group.specs.declared.member.Member.{Member}
use Rattle.ats_group.specs.Group.{Offer}
use Rattle.ats_group.specs.GroupsState.{no_member}
use Rattle.ats_group_law.specs.GroupsLaws.{IsUse}
use Rattle.ats_lrq.specs.declared.last_frame.LastFrame.{LastFrame}
use Rattle.ats_lrq.specs.Fold.{State, verdicts_of}
use Rattle.ats_lrq.specs.GroupsState.{LrqState, AreLrqGroups, declared_of, group_of, opened, residence_of}
use Rattle.ats_lrq.specs.Judge.{lrq_judge}
use Rattle.ats_lrq.specs.Laws.{offers_to, verdicts_in}
use Rattle.ats_lrq.proofs.StepLemmas.{opened_first}
use Rattle.ats_lrq.proofs.FoldLemmas.{each_group}
use Rattle.ats_lrq_law.specs.Laws.{GroupsOutputAscends, GroupsOutputConforms}
use Rattle.ats_lrq_law.proofs.Ascending.{output_ascends}
use Rattle.ats_lrq_law.proofs.Output.{output_conforms}

groups-opened : (residences_ns : List ℕ) (members : List Member) (offers : List Offer)
    → IsUse residences_ns members offers → AreLrqGroups (opened residences_ns members)
groups-opened residences_ns members offers u = record {
  times = length-replicate (length residences_ns) (let p : Ps = record { 0 = 0 } in p);
  lasts = length-map members (λ (m : Member). let n : Option LastFrame = None in n);
  members = u.lawful;
}

ruled-in : (residences_ns : List ℕ) (members : List Member) (offers : List Offer) (member : ℕ)
    → IsUse residences_ns members offers → member < length members
    → IsRuled (declared_of (opened residences_ns members) member)
ruled-in residences_ns members offers member u h = (u.lawful member no_member h).declared

-- the verdicts on the frames to one group are those of the judge
verdicts-in : (residences_ns : List ℕ) (members : List Member) (offers : List Offer) (group : ℕ)
    → IsUse residences_ns members offers → verdicts_in (opened residences_ns members) group offers
    ≡ lrq_judge (declared_of (opened residences_ns members)) (residence_of (opened residences_ns members) group)
    (offers_to (opened residences_ns members) group offers)
verdicts-in residences_ns members offers group u =
    let s : LrqState = opened residences_ns members in
    (each_group s offers group (groups-opened residences_ns members offers u) u.known).verdicts
    ∙ ap (λ (state : State). verdicts_of (declared_of s) (residence_of s group) state (offers_to s group offers))
    (opened_first residences_ns members group)

pub groups_output_conforms : GroupsOutputConforms
groups_output_conforms residences_ns members offers member u h =
    let s : LrqState = opened residences_ns members in
    let group : ℕ = group_of s member in
    rw (verdicts-in residences_ns members offers group u)
    (output_conforms (declared_of s) (residence_of s group) (offers_to s group offers) member
    (ruled-in residences_ns members offers member u h))

pub groups_output_ascends : GroupsOutputAscends
groups_output_ascends residences_ns members offers group u =
    let s : LrqState = opened residences_ns members in
    rw (verdicts-in residences_ns members offers group u)
    (output_ascends (declared_of s) (residence_of s group) (offers_to s group offers))
