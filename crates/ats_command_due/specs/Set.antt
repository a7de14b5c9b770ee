use Rattle.std.specs.Prelude.{◌≡◌, List}
use Rattle.ats_network.specs.Network.{DeclaredNetwork}
use Rattle.ats_settings.specs.Settings.{AreSettings}
use Rattle.ats_settings.specs.declared.setting.Setting.{Setting}
use Rattle.ats_settings_text.specs.Text.{settings_text}
use Rattle.ats_command_input.specs.Answer.{Answer}
use Rattle.ats_command_input.specs.declared.status.Status.TheVariants.{Done}

-- done, with the text of these settings, which are those of the network
pub record IsSettingsText (network : DeclaredNetwork) (answer : Answer) (settings : List Setting) : Type 0 where
  pub are : AreSettings network settings
  pub done : answer ≡ record { status = Done; text = settings_text network settings }

-- an answer tells what to set in the bridges of a network
abbrev pub TellsSettings : DeclaredNetwork → Answer → Type 0
TellsSettings network answer = (settings : List Setting) × IsSettingsText network answer settings
