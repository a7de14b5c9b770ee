use Rattle.std.proofs.Common.{◌≡◌, ◌++◌}
use Rattle.std.specs.List.{flat_map, range_with_len}
use Rattle.ats_settings.specs.Settings.{settings_at}
use Rattle.ats_settings.proofs.listing.push_settings.Given as goal

-- the settings of the ports so far
abbrev pub invariant-loop-place : goal.invariant-loop-place
invariant-loop-place l =
    l.made.items ≡ l.initial.made.items ++ flat_map (settings_at l.network l.sender) (range_with_len 0 l.place)
