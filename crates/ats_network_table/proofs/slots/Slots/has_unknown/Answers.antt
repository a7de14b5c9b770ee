use Rattle.std.proofs.Common.{not, sym, ap, ◌∙◌}
use Rattle.toml.specs.View.{members_view}
use Rattle.ats_network_table.specs.Slots.{Entries, all_keys}
use Rattle.ats_network_table.specs.Walk.{has_unknown}
use Rattle.ats_network_table.proofs.Others.{others_unknown}
use Rattle.ats_network_table.proofs.slots.Slots.has_unknown.Goals as goal

pub returns-then-self : goal.returns-then-self
returns-then-self c =
    c.has_other.ensures
    ∙ others_unknown c.args.keys.now (members_view c.args.self.now)
    (ap (λ (es : Entries). has_unknown all_keys (members_view es)) (sym c.self.view_is)
    ∙ c.self.invariant.named ∙ ap not c.if-self.true)
