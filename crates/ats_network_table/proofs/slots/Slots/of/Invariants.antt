use Rattle.std.proofs.Common.{◌≡◌, not, ◌||◌, length}
use Rattle.toml.specs.Data.{get_member}
use Rattle.toml.specs.View.{members_view}
use Rattle.ats_network_table.specs.Words.{key_text}
use Rattle.ats_network_table.specs.Walk.{has_unknown}
use Rattle.ats_network_table.specs.Slots.{all_keys}
use Rattle.ats_network_table.specs.declared.key.Key.{Key}
use Rattle.ats_network_table.proofs.Places.{has_so_far}
use Rattle.ats_network_table.proofs.slots.Slots.of.Given as goal

-- what is at the places so far, and else what the members left have, is what all members have; a member has none of the
-- keys where one so far or one of those left has none
abbrev pub invariant-members : goal.invariant-members
invariant-members l =
    (goal.iterator-members).can_next l.text-iterator × (goal.iterator-members).is_finite l.text-iterator
    × (length l.values ≡ 32) × ((k : Key) → has_so_far l.values (members_view l.text-iterator) k
    ≡ get_member (key_text k) (members_view l.members.entries))
    × (not l.all_named || has_unknown all_keys (members_view l.text-iterator)
    ≡ has_unknown all_keys (members_view l.members.entries))
