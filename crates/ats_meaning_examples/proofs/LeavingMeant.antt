use Rattle.std.proofs.Common.{◌<◌, refl, arith, lit<}
use Rattle.std.proofs.lemmas.Bool.{false≢true}
use Rattle.ats_settings.specs.Settings.{LeavesBridge}
use Rattle.ats_tree_examples.specs.Networks.{tree}
use Rattle.ats_meaning_examples.specs.Leaving.{FlowsLeave, LeavesOnEachLeg, LeavingIsMeant, NoneComeToTalkers}

-- Where frames come to the bridge that a port leaves, by computation.

not_past : ¬ LeavesBridge tree 0 7
not_past is = let past : 7 < 7 = is.within in absurd (omega arith)

not_there : ¬ LeavesBridge tree 1 1
not_there is = let past : 1 < 1 = is.exists in absurd (omega arith)

on_each_leg : LeavesOnEachLeg
on_each_leg = record {
  on_trunk = record { exists = lit< tt; within = lit< tt; comes = refl };
  end_of_trunk = record { exists = lit< tt; within = lit< tt; comes = refl };
  first_of_branch = record { exists = lit< tt; within = lit< tt; comes = refl };
  first_of_second = record { exists = lit< tt; within = lit< tt; comes = refl };
  further_on_second = record { exists = lit< tt; within = lit< tt; comes = refl };
  branch_of_second = record { exists = lit< tt; within = lit< tt; comes = refl };
  talker = λ is. false≢true is.comes;
  past_last = not_past;
  no_sender = not_there;
}

none_come_to_talkers : NoneComeToTalkers
none_come_to_talkers = record {
  on_branch = record { exists = lit< tt; within = lit< tt; comes = refl };
  trunk = λ is. false≢true is.comes;
  first_branch = λ is. false≢true is.comes;
  second_branch = λ is. false≢true is.comes;
}

flows_leave : FlowsLeave
flows_leave = record {
  on_path = record { exists = lit< tt; within = lit< tt; comes = refl };
  talker = λ is. false≢true is.comes;
}

pub leaving_is_meant : LeavingIsMeant
leaving_is_meant = record { legs = on_each_leg; talkers = none_come_to_talkers; flows = flows_leave }
