use Rattle.std.specs.Prelude.{ℕ, Some, None}
use Rattle.ats_group.specs.declared.member.Member.{Member}
use Rattle.ats_streams.specs.declared.traffic.Declared.{Declared}
use Rattle.ats_trace.specs.Eligibility.{declared_by}
use Rattle.ats_settings.specs.Laws.{Tells}
use Rattle.ats_settings.specs.declared.setting.Setting.{Setting}
use Rattle.ats_settings.specs.declared.setting.Shaping.{Shaping}
use Rattle.ats_settings_law.specs.Laws.{IsNamedBetween, IsSchedulerOf, IsTrueOf}
use Rattle.ats_tree_examples.specs.Networks.{split_and_flow, split_by_class}
use Rattle.ats_tree_bound_examples.specs.SetAlike.{settings_of_both, told_of_flow}
use Rattle.ats_tree_bound_examples.specs.Settings.{told_of}

-- What a setting tells, and what it does not.

-- what the bridge of the split is told of the stream's frames that go on by the branch, in another class than they have
-- at the station
abbrev pub told : Setting
told = told_of 0 100000000 100000 3 0 4 5

-- a scheduler with this rate, burst and residence
abbrev pub shaped : ℕ → ℕ → ℕ → Shaping
shaped rate burst residence = record { rate_bps = rate; burst_bits = burst; residence_ns = residence }

-- what is told of the scheduler is true, and with one number changed it is not
pub record SchedulersAreExact : Type 0 where
  pub is : IsSchedulerOf split_by_class 0 0 (shaped 100000000 12336 100000)
  pub rate : ¬ IsSchedulerOf split_by_class 0 0 (shaped 100000001 12336 100000)
  pub burst : ¬ IsSchedulerOf split_by_class 0 0 (shaped 100000000 12335 100000)
  pub residence : ¬ IsSchedulerOf split_by_class 0 0 (shaped 100000000 12336 100001)
  pub of_other : ¬ IsSchedulerOf split_by_class 1 0 (shaped 100000000 12336 100000)
  pub behind_other : ¬ IsSchedulerOf split_by_class 0 2 (shaped 100000000 12336 100000)

-- a setting is true of a stream, and one of a flow. With one thing changed it is not: with the number of no sender,
-- with another sender, port of reception, bridge, class at either port, greatest size, rate, burst or residence, and
-- with no scheduler, or one for a flow. And no port leads to the stream's first
pub record SettingsAreExact : Type 0 where
  pub is : IsTrueOf split_by_class told
  pub of_flow : IsTrueOf split_and_flow told_of_flow
  pub no_sender : ¬ IsTrueOf split_by_class (record told { sender = 2 })
  pub other_sender : ¬ IsTrueOf split_by_class (record told { sender = 1 })
  pub received_from : ¬ IsTrueOf split_by_class (record told { received_from = 2 })
  pub sent_to : ¬ IsTrueOf split_by_class (record told { sent_to = 0; class_there = 6 })
  pub bridge : ¬ IsTrueOf split_by_class (record told { bridge = 2 })
  pub class : ¬ IsTrueOf split_by_class (record told { class = 5 })
  pub class_there : ¬ IsTrueOf split_by_class (record told { class_there = 6 })
  pub most : ¬ IsTrueOf split_by_class (record told { max_octets = 1523 })
  pub rate : ¬ IsTrueOf split_by_class (record told { scheduler = Some (shaped 100000001 12336 100000) })
  pub burst : ¬ IsTrueOf split_by_class (record told { scheduler = Some (shaped 100000000 12335 100000) })
  pub residence : ¬ IsTrueOf split_by_class (record told { scheduler = Some (shaped 100000000 12336 100001) })
  pub no_scheduler : ¬ IsTrueOf split_by_class (record told { scheduler = None })
  pub scheduler_of_flow : ¬ IsTrueOf split_and_flow (record told_of_flow {
    scheduler = Some (shaped 100000000 12336 1000000);
  })

-- settings name a sender between two ports by one setting: there is none with this sender, port of reception or next
-- port alone, nor by one setting of the sender and another that is sent to the port
pub record NamesBetweenAreExact : Type 0 where
  pub is : IsNamedBetween settings_of_both 1 5 2
  pub sender : ¬ IsNamedBetween settings_of_both 2 5 2
  pub before : ¬ IsNamedBetween settings_of_both 1 4 2
  pub port : ¬ IsNamedBetween settings_of_both 1 5 3
  pub by_two : ¬ IsNamedBetween settings_of_both 1 5 4

-- a scheduler of what the stream declares, in the group with a number
abbrev pub member_in : ℕ → Declared → Member
member_in group declared = record { group = group; declared = declared }

-- a setting tells the scheduler of its group and of what it declares, and tells none of another group or of another
-- stream. With another port of reception or class, no scheduler, or another rate, burst or residence, it does not
pub record TellingIsExact : Type 0 where
  pub tells : Tells split_by_class told (member_in 6 (declared_by split_by_class 0))
  pub group : ¬ Tells split_by_class told (member_in 5 (declared_by split_by_class 0))
  pub of_other : ¬ Tells split_by_class told (member_in 6 (declared_by split_by_class 1))
  pub received_from : ¬ Tells split_by_class (record told { received_from = 2 })
      (member_in 6 (declared_by split_by_class 0))
  pub class : ¬ Tells split_by_class (record told { class = 5 }) (member_in 6 (declared_by split_by_class 0))
  pub no_scheduler : ¬ Tells split_by_class (record told { scheduler = None })
      (member_in 6 (declared_by split_by_class 0))
  pub rate : ¬ Tells split_by_class (record told { scheduler = Some (shaped 100000001 12336 100000) })
      (member_in 6 (declared_by split_by_class 0))
  pub burst : ¬ Tells split_by_class (record told { scheduler = Some (shaped 100000000 12335 100000) })
      (member_in 6 (declared_by split_by_class 0))
  pub residence : ¬ Tells split_by_class (record told { scheduler = Some (shaped 100000000 12336 100001) })
      (member_in 6 (declared_by split_by_class 0))

pub record SettingsAreMeant : Type 0 where
  pub schedulers : SchedulersAreExact
  pub settings : SettingsAreExact
  pub between : NamesBetweenAreExact
  pub telling : TellingIsExact
