use Rattle.std.proofs.Common.{◌≡◌, ◌++◌, take}
use Rattle.std.specs.Prelude.{zip}
use Rattle.std.specs.List.{flat_map}
use Rattle.ats_network.specs.Network.{senders_of}
use Rattle.ats_fit_text.specs.Text.{sender_line}
use Rattle.ats_fit_text.proofs.printing.write_senders.Given as goal

-- the lines of the senders so far
abbrev pub invariant-loop-sender : goal.invariant-loop-sender
invariant-loop-sender l = l.out.items
    ≡ l.initial.out.items ++ flat_map sender_line (take l.sender (zip (senders_of l.network) l.measured))
