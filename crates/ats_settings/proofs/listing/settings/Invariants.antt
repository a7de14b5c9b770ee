use Rattle.std.proofs.Common.{◌≡◌}
use Rattle.std.specs.List.{flat_map, range_with_len}
use Rattle.ats_settings.specs.Settings.{sender_settings}
use Rattle.ats_settings.proofs.listing.settings.Given as goal

-- the settings of the senders so far
abbrev pub invariant-loop-sender : goal.invariant-loop-sender
invariant-loop-sender l = l.made.items ≡ flat_map (sender_settings l.network) (range_with_len 0 l.sender)
