use Rattle.std.specs.Prelude.{◌≤◌}
use Rattle.ats_num.specs.declared.rate.TheConstants.{MAX_BPS, MAX_BURST_BITS}
use Rattle.ats_num.specs.Wire.{IsFrameSize}
use Rattle.ats_network.specs.Class.{PortSender}
use Rattle.ats_tally.specs.declared.seen.SeenSender.{SeenSender}

-- these facts as a sender that a port sees
abbrev pub port_sender : SeenSender → PortSender
port_sender s = record {
  class = s.class;
  rate = s.rate_bps;
  burst_bits = s.burst_bits;
  min_octets = s.min_octets;
  max_octets = s.max_octets;
}

-- its rate and its burst are no more than those of a stream may be, and its frames have sizes of frames
pub record KeepsLimits (s : SeenSender) : Type 0 where
  pub rate : s.rate_bps ≤ MAX_BPS
  pub burst : s.burst_bits ≤ MAX_BURST_BITS
  pub shortest : IsFrameSize s.min_octets
  pub longest : IsFrameSize s.max_octets
