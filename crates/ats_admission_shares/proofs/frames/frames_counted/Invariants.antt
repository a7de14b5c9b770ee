use Rattle.std.proofs.Common.{◌≡◌, map, take}
use Rattle.ats_network.specs.Sender.{stream_sender}
use Rattle.ats_certificate.specs.PortSums.{senders_at}
use Rattle.ats_admission_shares.specs.Frames.{frames_of}
use Rattle.ats_admission_shares.proofs.frames.frames_counted.Given as goal

-- the users so far are counted
abbrev pub invariant-loop-place : goal.invariant-loop-place
invariant-loop-place l =
    l.frames ≡ frames_of l.sender.class
    (take l.place (senders_at l.network.topology l.port (map stream_sender l.network.streams)))
