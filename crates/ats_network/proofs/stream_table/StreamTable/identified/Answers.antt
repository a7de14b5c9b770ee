use Rattle.std.proofs.Common.{ap, ◌∙◌}
use Rattle.ats_network.specs.Pushes.{place_identified}
use Rattle.ats_network.proofs.TableLemmas.{identity_none, identity_some}
use Rattle.ats_network.proofs.stream_table.StreamTable.identified.Goals as goal

pub returns-in_err-serial : goal.returns-in_err-serial
returns-in_err-serial c =
    c.from_residual.ensures
    ∙ identity_none c.self.inside.streams.items c.self.inside.serials.items c.self.inside.names
    c.self.inside.identities c.args.address c.args.vlan c.self.invariant.0
    (c.in_err-serial.ensures ∙ c.get.ensures.value)
    ∙ ap (place_identified (c.args.address, c.args.vlan)) c.self.view_is

pub returns : goal.returns
returns c =
    identity_some c.self.inside.streams.items c.self.inside.serials.items c.self.inside.names c.self.inside.identities
    c.args.address c.args.vlan c.in_ok-serial.serial c.deref.result.now c.place_in.result c.self.invariant.0
    c.deref.ensures.value (c.in_ok-serial.ensures ∙ c.get.ensures.value) c.place_in.ensures.place
    ∙ ap (place_identified (c.args.address, c.args.vlan)) c.self.view_is
