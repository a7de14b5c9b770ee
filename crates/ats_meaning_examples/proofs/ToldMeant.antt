use Rattle.std.proofs.Common.{ℕ, List, refl}
use Rattle.ats_network.specs.Network.{DeclaredNetwork}
use Rattle.ats_certificate.specs.declared.row.Row.{Row}
use Rattle.ats_settings.specs.declared.setting.Setting.{Setting}
use Rattle.ats_meaning_examples.specs.Told.{BuffersAreTold, PartsAreTold, SettingAlikeIsMeant, SettingsAreTold}
use Rattle.ats_meaning_examples.specs.Told.{ToldIsMeant}

-- What is told, by unfolding.

settings_are_told : (network : DeclaredNetwork) → SettingsAreTold network
settings_are_told network = record {
  of_all = refl;
  in_order = λ settings. (
    λ are. (are.same, are.by_place, are.ties),
    λ parts. record { same = parts.0; by_place = parts.1; ties = parts.2 },
  );
}

set_alike : (one other : DeclaredNetwork) (settings : List Setting) → SettingAlikeIsMeant one other settings
set_alike one other settings = record {
  alike = (
    λ are. (are.is_network, are.is_network_too, are.topology, are.is_set, are.is_set_too),
    λ parts. record {
      is_network = parts.0;
      is_network_too = parts.1;
      topology = parts.2;
      is_set = parts.3;
      is_set_too = parts.4;
    },
  );
  named = λ sender port. (
    λ is. (is.setting, is.among, is.of_sender, is.behind),
    λ parts. record { setting = parts.0; among = parts.1; of_sender = parts.2; behind = parts.3 },
  );
  known = λ port offer. (
    λ is. (is.named, is.scheduler, is.shaped, is.not_short, is.not_short_there),
    λ parts. record {
      named = parts.0;
      scheduler = parts.1;
      shaped = parts.2;
      not_short = parts.3;
      not_short_there = parts.4;
    },
  );
}

buffers_are_told : (network : DeclaredNetwork) (rows : List Row) (port class : ℕ)
    → BuffersAreTold network rows port class
buffers_are_told network rows port class =
    record { share = λ s. refl; buffer = refl }

parts_are_told : (network : DeclaredNetwork) → PartsAreTold network
parts_are_told network = record { stream = λ s. refl; port = λ n at. refl }

pub told_is_meant : ToldIsMeant
told_is_meant =
    record { settings = settings_are_told; set_alike = set_alike; buffers = buffers_are_told; parts = parts_are_told }
