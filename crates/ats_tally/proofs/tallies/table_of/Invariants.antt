use Rattle.ats_network.specs.Network.{senders_of}
use Rattle.ats_tally.proofs.Counted.{AreBelow}
use Rattle.ats_tally.proofs.tallies.table_of.Given as goal

-- the tallies of the ports so far are there
abbrev pub invariant-loop-port : goal.invariant-loop-port
invariant-loop-port l = AreBelow l.network.topology l.port (senders_of l.network) l.table
