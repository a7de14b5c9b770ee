use Rattle.std.proofs.Common.{◌≡◌}
use Rattle.toml.specs.View.{members_view}
use Rattle.ats_network_table.specs.Walk.{has_unknown}
use Rattle.ats_network_table.proofs.slots.has_unknown.Given as goal

-- the members left have an unknown key where all members have one
abbrev pub invariant-members : goal.invariant-members
invariant-members l =
    (goal.iterator-members).can_next l.text-iterator × (goal.iterator-members).is_finite l.text-iterator
    × (has_unknown l.keys (members_view l.text-iterator) ≡ has_unknown l.keys (members_view l.members.entries))
