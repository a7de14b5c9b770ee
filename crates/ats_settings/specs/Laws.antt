use Rattle.std.specs.Prelude.{◌≡◌, ℕ, ◌+◌, ◌<◌, length, Some}
use Rattle.ats_group.specs.GroupsState.{member_at}
use Rattle.ats_group.specs.declared.member.Member.{Member}
use Rattle.ats_streams.specs.Branches.{first_from}
use Rattle.ats_network.specs.Network.{DeclaredNetwork, IsNetwork}
use Rattle.ats_network.specs.Senders.{sender_at}
use Rattle.ats_schedulers.specs.Schedulers.{IsHop, group_behind, members_of, scheduler_of}
use Rattle.ats_settings.specs.Before.{IsFrom}
use Rattle.ats_settings.specs.Settings.{setting_at, shaping_of}
use Rattle.ats_settings.specs.declared.setting.Setting.{Setting}

-- a setting tells a member of the groups: the port of reception and the class there tell its group, and what is told of
-- the scheduler is so of it
pub record Tells (network : DeclaredNetwork) (setting : Setting) (member : Member) : Type 0 where
  pub group : member.group ≡ group_behind setting.received_from setting.class
  pub scheduler : setting.scheduler ≡ Some (shaping_of network member)

-- by the port at a place a stream goes on from the bridge that the port at a hop of one of its legs leaves: as the leg
-- does, or as a branch that begins there
pub record GoesOnBy (network : DeclaredNetwork) (stream leg hop place : ℕ) : Type 0 where
  pub judged : IsHop network stream leg hop
  pub within : place < length (sender_at network stream).ports
  pub from : IsFrom (sender_at network stream).branches place
      (first_from 0 (sender_at network stream).branches leg + hop)

-- there the setting tells the scheduler that judges the stream's frames, whatever ports they go on by
abbrev pub SchedulersAreTold : Type 0
SchedulersAreTold = (network : DeclaredNetwork) (stream leg hop place : ℕ) → IsNetwork network
    → GoesOnBy network stream leg hop place
    → Tells network (setting_at network stream place)
    (member_at (members_of network) (scheduler_of network stream leg hop))
