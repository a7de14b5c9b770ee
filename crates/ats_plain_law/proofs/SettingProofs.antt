use Rattle.std.proofs.Common.{refl}
use Rattle.ats_plain_law.specs.Settings.{ListIsPlain, SettingIsPlain, SettingsArePlain}

-- What a bridge is told of each place of a sender.

each : SettingIsPlain
each = record {
  to = λ network s place. refl;
  there = λ network s place. refl;
  from = λ network s place. refl;
  behind = λ network s place. refl;
  bridge = λ network s place. refl;
  class = λ network s place. refl;
  sender = λ network s place. refl;
  scheduler = λ network s place. refl;
  longest = λ network s place. refl;
}

list : ListIsPlain
list = record {
  at = λ network s place. refl;
  sender = λ network s. refl;
  all = λ network. refl;
  place = λ x. refl;
}

pub settings_are_plain : SettingsArePlain
settings_are_plain = record {
  each = each;
  list = list;
}
