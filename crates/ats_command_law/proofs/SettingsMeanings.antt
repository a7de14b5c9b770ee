-- What the answers to `settings` mean.
use Rattle.std.proofs.Common.{◌≡◌, ℕ, List, Result, Ok, Err, refl, sym, ap, subst, ◌∙◌}
use Rattle.std.specs.Prelude.{MatchResult}
use Rattle.ats_network.specs.Network.{DeclaredNetwork, IsNetwork}
use Rattle.ats_settings.specs.declared.setting.Setting.{Setting}
use Rattle.ats_settings_law.specs.Laws.{AreOnlySettings}
use Rattle.ats_settings_law.proofs.Named.{each_hop_is_named}
use Rattle.ats_settings_law.proofs.Only.{settings_are_one}
use Rattle.ats_settings_law.proofs.Told.{each_setting_is_true, groups_judge_alike, sizes_pass_alike}
use Rattle.ats_command_input.specs.Answer.{Answer}
use Rattle.ats_command_input.specs.Input.{network_in}
use Rattle.ats_command_due.specs.Conformed.{IsAnswerTo}
use Rattle.ats_command_due.specs.Set.{IsSettingsText, TellsSettings}
use Rattle.ats_command_law.proofs.Meanings.{IsInput, network_gives, none_declared}
use Rattle.ats_command_law.specs.SettingsMeaning.{SettingsMean, SettingsSay}

-- settings of a network are all that it has
only_these : (network : DeclaredNetwork) (alone settings others : List Setting) → settings ≡ alone → others ≡ alone
    → others ≡ settings
only_these network alone settings others h k = k ∙ sym h

-- where the file declares a network
text_says : (net bytes : List ℕ) (network : DeclaredNetwork) (answer : Answer) (settings : List Setting)
    → network_in net bytes ≡ Ok network → IsNetwork network → IsSettingsText network answer settings
    → SettingsSay net bytes answer.text answer.status
text_says net bytes network answer settings declared rules is =
    let alone : (s : List Setting) × AreOnlySettings network s = settings_are_one network in
    subst (λ (a : Answer). SettingsSay net bytes a.text a.status) (sym is.done) (
      network,
      settings,
      record {
        declared = declared;
        rules = rules;
        are = is.are;
        only = λ others are. only_these network alone.0 settings others (alone.1.only settings is.are)
            (alone.1.only others are);
        true_of = each_setting_is_true network settings rules is.are;
        named = each_hop_is_named network settings rules is.are;
        enough = λ other alike. record {
          groups = groups_judge_alike network other settings alike;
          sizes = sizes_pass_alike network other settings alike;
        };
        written = refl;
      },
    )

settings_say : (net bytes : List ℕ) (declared : Result DeclaredNetwork Answer) (answer : Answer)
    → network_in net bytes ≡ declared → MatchResult declared IsNetwork IsInput
    → IsAnswerTo TellsSettings declared answer → SettingsSay net bytes answer.text answer.status
settings_say net bytes (Ok network) answer is rules tells =
    text_says net bytes network answer tells.0 is rules tells.1
settings_say net bytes (Err due) answer is input tells =
    subst (SettingsSay net bytes answer.text) (sym (ap (λ (a : Answer). a.status) tells ∙ input))
    (none_declared (network_in net bytes) due is)

pub settings_mean : SettingsMean
settings_mean net bytes answer tells =
    settings_say net bytes (network_in net bytes) answer refl (network_gives net bytes) tells
