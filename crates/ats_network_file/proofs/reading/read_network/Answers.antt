use Rattle.std.proofs.Common.{◌≡◌, ℕ, List, Result, Ok, Err, rules, IfOk}
use Rattle.ats_network.specs.Network.{DeclaredNetwork, HasOneListener}
use Rattle.ats_num.specs.Failure.{Gives}
use Rattle.ats_num.specs.declared.failure.Failure.{Failure}
use Rattle.ats_network_file.specs.Reading.{network_of}
use Rattle.ats_network_file.specs.Stations.{JoinStations}
use Rattle.ats_network_file.specs.declared.fault.NetFault.{NetFault}
use Rattle.ats_network_file.proofs.Networks.{declared_has_one_listener, each_joins_stations, most_ports_are_of_format}
use Rattle.ats_network_file.proofs.reading.read_network.Goals as goal

-- a network that a text gives is the one that it declares
given_alone : (Kept : DeclaredNetwork → Type 0) (result : Result DeclaredNetwork (Failure NetFault)) (text : List ℕ)
    → Gives result (network_of text)
    → ((network : DeclaredNetwork) → network_of text ≡ Ok network → Kept network) → IfOk result Kept
given_alone Kept (Ok network) text gives keeps = keeps network gives
given_alone Kept (Err failure) text gives keeps = tt

pub returns-clause-one_listener : goal.returns-clause-one_listener
returns-clause-one_listener c =
    let gives : Gives c.network_in.result (network_of c.args.bytes.now) = search rules in
    λ before. given_alone HasOneListener c.network_in.result c.args.bytes.now gives
    (λ network is. declared_has_one_listener c.args.bytes.now network before is)

pub returns-clause-stations : goal.returns-clause-stations
returns-clause-stations c =
    let gives : Gives c.network_in.result (network_of c.args.bytes.now) = search rules in
    λ before. given_alone JoinStations c.network_in.result c.args.bytes.now gives
    (λ network is. each_joins_stations c.args.bytes.now network before is)

pub returns-clause-short : goal.returns-clause-short
returns-clause-short c =
    let gives : Gives c.network_in.result (network_of c.args.bytes.now) = search rules in
    λ before. given_alone (λ network. network.most_ports ≡ 16) c.network_in.result c.args.bytes.now gives
    (λ network is. most_ports_are_of_format.short c.args.bytes.now network before is)

pub returns-clause-long : goal.returns-clause-long
returns-clause-long c =
    let gives : Gives c.network_in.result (network_of c.args.bytes.now) = search rules in
    λ three. given_alone (λ network. network.most_ports ≡ 64) c.network_in.result c.args.bytes.now gives
    (λ network is. most_ports_are_of_format.long c.args.bytes.now network three is)
