use Rattle.std.proofs.Common.{List, map, length, subst, sym, ◌∙◌, ap}
use Rattle.std.proofs.lemmas.List.{length-map}
use Rattle.ats_group.specs.GroupsState.{AreMembers}
use Rattle.ats_group.specs.declared.member.Member.{Member}
use Rattle.ats_group.specs.declared.verdict.Verdict.{Verdict}
use Rattle.ats_shape.specs.Verdicts.{member_of}
use Rattle.ats_shape.proofs.Folded.{are_members}
use Rattle.ats_lrq.specs.GroupsState.{LrqState}
use Rattle.ats_lrq_shape.proofs.Folded.{all_verdicts}
use Rattle.ats_lrq_shape.proofs.verdicts.judge.Goals as goal

pub open-requires-clause-members : goal.open-requires-clause-members
open-requires-clause-members c =
    subst (AreMembers 1)
    (sym (c.deref.ensures.value ∙ c.in_ok-members.ensures ∙ ap (map member_of) c.streams.ensures.value))
    (are_members c.args.shape.now.streams c.streams.ensures.shape.ruled)

pub loop-frame-init : goal.loop-frame-init
loop-frame-init c =
    let opened = c.in_ok-groups.ensures.value in
    let members = c.deref.ensures.value ∙ c.in_ok-members.ensures ∙ ap (map member_of) c.streams.ensures.value in
    record {
      due = rw (
        c.in_ok-verdicts.ensures.items,
        opened,
        members,
        c.residence_ns.ensures.value,
        c.frames-frames.ensures.value,
      ) (all_verdicts c.args.shape.now c.residence_ns.ensures.shape);
      each = ap (λ (vs : List Verdict). length vs) c.in_ok-verdicts.ensures.items;
      members = ap (λ (s : LrqState). length s.members) opened ∙ ap (λ (ms : List Member). length ms) members
          ∙ length-map c.args.shape.now.streams member_of;
    }
