use Rattle.ats_network_file.proofs.Networks.{each_joins_stations}
use Rattle.ats_network_file.proofs.laws.each_joins_stations.Goals as goal

pub returns : goal.returns
returns c = each_joins_stations
