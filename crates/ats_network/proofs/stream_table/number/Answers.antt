use Rattle.std.proofs.Common.{Some}
use Rattle.ats_network.proofs.IdentityLemmas.{identifies, names_it, taken_back}
use Rattle.ats_network.proofs.stream_table.number.Goals as goal

pub returns-in_default-clause-names : goal.returns-in_default-clause-names
returns-in_default-clause-names c =
    names_it c.args.names.now c.insert.new.self c.name.result c.args.stream.now.name (Some c.args.serial)
    c.name.ensures c.in_ok-insert.ensures.updates

pub returns-in-Ok-clause-names : goal.returns-in-Ok-clause-names
returns-in-Ok-clause-names c =
    names_it c.args.names.now c.insert-3.new.self c.name-2.result c.args.stream.now.name (Some c.args.serial)
    c.name-2.ensures c.in-Ok.ensures.updates

pub returns-in-Ok-clause-identities : goal.returns-in-Ok-clause-identities
returns-in-Ok-clause-identities c =
    identifies c.args.identities.now c.insert-2.new.self c.in-Some.identity c.args.stream.now.identity
    (Some c.args.serial) c.in-Some.ensures.value c.in_ok-insert-2.ensures.updates

pub returns-in-Err-clause-same_identities : goal.returns-in-Err-clause-same_identities
returns-in-Err-clause-same_identities c =
    taken_back c.args.identities.now c.insert-2.new.self c.remove.new.self c.in-Some.identity
    c.args.stream.now.identity c.args.serial c.in-Some.ensures.value c.requires c.in_ok-insert-2.ensures.updates
    c.remove.ensures.updates
