use Rattle.std.specs.Prelude.{◌≡◌, ℕ, ◌<◌, List, length, Ok, Some, IsErr, All}
use Rattle.ats_streams.specs.Traffic.{is_declared_size}
use Rattle.ats_group.specs.Group.{Offer}
use Rattle.ats_group.specs.Judge.{ats_judge}
use Rattle.ats_network.specs.Class.{port_before}
use Rattle.ats_network.specs.Network.{DeclaredNetwork, IsNetwork, senders_of}
use Rattle.ats_network.specs.Senders.{sender_at}
use Rattle.ats_trace.specs.Eligibility.{declared_by, residence_of_groups, scheduled_by}
use Rattle.ats_settings.specs.Settings.{AreSettings}
use Rattle.ats_settings.specs.declared.setting.Setting.{Setting}
use Rattle.ats_settings_law.specs.Laws.{AreSetAlike, IsKnown, IsNamed, IsNamedBetween, IsNotShort, IsTrueOf}
use Rattle.ats_settings_text.specs.Text.{settings_text}
use Rattle.ats_command_input.specs.Answer.{Answer}
use Rattle.ats_command_input.specs.Input.{network_in}
use Rattle.ats_command_input.specs.declared.status.Status.{Status}
use Rattle.ats_command_input.specs.declared.status.Status.TheVariants.{Done, Input}
use Rattle.ats_command_due.specs.Due.{IsSettingsAnswer}

-- two networks judge alike what comes to their bridges of senders that the settings name there, if it is not shorter
-- than either declares: every list of frames that comes to a group, and the size of each frame
pub record JudgeAlike (one other : DeclaredNetwork) (settings : List Setting) : Type 0 where
  pub groups : (port : ℕ) (offers : List Offer) → All (IsKnown one other settings port) offers
      → ats_judge (scheduled_by one port) (residence_of_groups one port) offers
      ≡ ats_judge (scheduled_by other port) (residence_of_groups other port) offers
  pub sizes : (port : ℕ) (offer : Offer) → IsNamed settings offer.member port → IsNotShort one offer
      → IsNotShort other offer → is_declared_size (declared_by one offer.member) offer.octets
      ≡ is_declared_size (declared_by other offer.member) offer.octets

-- a file of these bytes declares this network. These are its settings, they and no others; each is true of it, each
-- hop at which frames leave a bridge is named by one, and every network of its topology that has them judges alike. The
-- text writes them
pub record IsSet (net bytes text : List ℕ) (network : DeclaredNetwork) (settings : List Setting) : Type 0 where
  pub declared : network_in net bytes ≡ Ok network
  pub rules : IsNetwork network
  pub are : AreSettings network settings
  pub only : (others : List Setting) → AreSettings network others → others ≡ settings
  pub true_of : All (IsTrueOf network) settings
  pub named : (sender : ℕ) → sender < length (senders_of network) → (before port : ℕ)
      → port_before (sender_at network sender) port ≡ Some before → IsNamedBetween settings sender before port
  pub enough : (other : DeclaredNetwork) → AreSetAlike network other settings → JudgeAlike network other settings
  pub written : text ≡ settings_text network settings

-- what an answer to `settings NET` says of the bytes of the file, by its text and status; five statuses never come
abbrev pub SettingsSay : List ℕ → List ℕ → List ℕ → Status → Type 0
SettingsSay net bytes text Done =
    (network : DeclaredNetwork) × (settings : List Setting) × IsSet net bytes text network settings
SettingsSay net bytes text Input = IsErr (network_in net bytes)
SettingsSay net bytes text status = ⊥

-- so for each file word, all bytes, and each answer
abbrev pub SettingsMean : Type 0
SettingsMean = (net bytes : List ℕ) (answer : Answer) → IsSettingsAnswer net bytes answer
    → SettingsSay net bytes answer.text answer.status
