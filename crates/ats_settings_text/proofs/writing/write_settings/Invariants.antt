use Rattle.std.proofs.Common.{◌≡◌, take}
use Rattle.ats_settings_text.specs.Text.{settings_text}
use Rattle.ats_settings_text.proofs.writing.write_settings.Given as goal

abbrev pub invariant-loop-setting : goal.invariant-loop-setting
invariant-loop-setting l = l.out.items ≡ settings_text l.network (take l.setting-index l.settings)
