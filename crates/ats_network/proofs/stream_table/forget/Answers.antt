use Rattle.std.proofs.Common.{None}
use Rattle.ats_network.proofs.IdentityLemmas.{identifies, names_it}
use Rattle.ats_network.proofs.stream_table.forget.Goals as goal

pub returns-in-Some-clause-names : goal.returns-in-Some-clause-names
returns-in-Some-clause-names c =
    names_it c.args.names.now c.remove.new.self c.name.result c.args.stream.now.name None c.name.ensures
    c.remove.ensures.updates

pub returns-in-Some-clause-identities : goal.returns-in-Some-clause-identities
returns-in-Some-clause-identities c =
    identifies c.args.identities.now c.remove-in-Some.new.self c.in-Some.declared c.args.stream.now.identity None
    c.in-Some.ensures.value c.remove-in-Some.ensures.updates

pub returns-in_default-clause-names : goal.returns-in_default-clause-names
returns-in_default-clause-names c =
    names_it c.args.names.now c.remove.new.self c.name.result c.args.stream.now.name None c.name.ensures
    c.remove.ensures.updates
