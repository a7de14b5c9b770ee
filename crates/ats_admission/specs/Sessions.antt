use Rattle.std.specs.Prelude.{◌≡◌, ℕ, ◌+◌, length, None}
use Rattle.ats_network.specs.Network.{DeclaredNetwork}
use Rattle.ats_bound.specs.Reason.{reason_of}
use Rattle.ats_requests.specs.Laws.{IsCertified}
use Rattle.ats_admission_shares.specs.PortShares.{stream_at, without_at}
use Rattle.ats_admission_state.specs.Kept.{IsKept, IsKeptBeside, KeptState}

-- a certificate holds for the network, and what is kept is that of it
pub record IsSession (network : DeclaredNetwork) (state : KeptState) : Type 0 where
  pub certified : IsCertified network
  pub kept : IsKept network state

-- the stream of this number is the last, a certificate holds for the network without it, and what is kept is that of
-- the network without it, but for the bounds at its ports
pub record IsPending (network : DeclaredNetwork) (n : ℕ) (kept : KeptState) : Type 0 where
  pub last : n + 1 ≡ length network.streams
  pub free : reason_of (without_at network n) ≡ None
  pub beside : IsKeptBeside (without_at network n) (stream_at network n).ports kept
