use Rattle.std.specs.Prelude.{ℕ, max, Bool, false, ◌&&◌, nat_lt, List, Option, Some, None}
use Rattle.ats_network.specs.Class.{PortSender}
use Rattle.ats_certificate.specs.PortSums.{longest, shortest}
use Rattle.ats_tally.specs.Tally.{least_with}
use Rattle.ats_tally.specs.Shares.{share_of}
use Rattle.ats_admission_shares.specs.declared.frames.Frames.{Frames}
use Rattle.ats_tally.specs.declared.share.Share.{Share}

-- no sender is counted
abbrev pub no_frames : Frames
no_frames = record { longest = 0; shortest = None }

-- a sender as a port sees it, but for its rate and its burst
abbrev pub without_rate : PortSender → PortSender
without_rate s = record s { rate = 0; burst_bits = 0 }

-- with one sender more
abbrev pub frames_with : PortSender → Frames → Frames
frames_with s frames = record {
  longest = max frames.longest (longest s);
  shortest = Some (least_with frames.shortest (shortest s));
}

-- the frames of a share
abbrev pub frames_in : Share → Frames
frames_in share = record { longest = share.longest; shortest = share.shortest }

-- the longest and the shortest frame of those of the senders that are of a class
abbrev pub frames_of : ℕ → List PortSender → Frames
frames_of class senders = frames_in (share_of class senders)

-- a number is greater than one that is there
abbrev pub exceeds : ℕ → Option ℕ → Bool
exceeds n None = false
exceeds n (Some m) = nat_lt m n

-- a sender has neither the longest nor the shortest of the frames
abbrev pub is_inside : PortSender → Frames → Bool
is_inside s frames = nat_lt (longest s) frames.longest && exceeds (shortest s) frames.shortest
