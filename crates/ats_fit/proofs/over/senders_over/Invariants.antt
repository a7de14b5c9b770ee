use Rattle.std.proofs.Common.{◌≡◌, take}
use Rattle.std.specs.Prelude.{count_by, zip}
use Rattle.ats_network.specs.Network.{senders_of}
use Rattle.ats_fit.specs.Over.{is_over}
use Rattle.ats_fit.proofs.over.senders_over.Given as goal

abbrev pub invariant-loop-sender : goal.invariant-loop-sender
invariant-loop-sender l = l.over ≡ count_by is_over (take l.sender (zip (senders_of l.network) l.measured))
