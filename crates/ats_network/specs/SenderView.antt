use Rattle.std.specs.Prelude.{◌*◌, Bool, true, false, Option, Some, None}
use Rattle.ats_num.specs.declared.time.Ps.{Ps}
use Rattle.ats_num.specs.declared.time.TheConstants.{PS_PER_NS}
use Rattle.ats_network.specs.Sender.{Sender, stream_sender, flow_sender}
use Rattle.ats_network.specs.declared.sender.Sender.{Sender as SenderView}
use Rattle.ats_network.specs.declared.sender.Sender.TheVariants.{Stream, Flow}

-- a stream or a flow as a sender
abbrev pub sender_of : SenderView → Sender
sender_of (Stream s) = stream_sender s.now
sender_of (Flow f) = flow_sender f.now

-- a sender is a stream
abbrev pub is_stream : SenderView → Bool
is_stream (Stream s) = true
is_stream (Flow f) = false

-- a stream's deadline; a flow has none
abbrev pub deadline_of : SenderView → Option Ps
deadline_of (Stream s) = Some (record { 0 = PS_PER_NS * s.now.deadline_ns })
deadline_of (Flow f) = None
