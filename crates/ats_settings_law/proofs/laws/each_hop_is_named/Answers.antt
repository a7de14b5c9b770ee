use Rattle.ats_settings_law.proofs.Named.{each_hop_is_named}
use Rattle.ats_settings_law.proofs.laws.each_hop_is_named.Goals as goal

pub returns : goal.returns
returns c = each_hop_is_named
