use Rattle.std.specs.Prelude.{ℕ, List, [], ◌∷◌, codes, Option, Some, None}
use Rattle.ats_streams.specs.Stream.{declared_stream}
use Rattle.ats_network.specs.Network.{DeclaredNetwork, declared_network}
use Rattle.ats_trace.specs.declared.journey.Release.{Release}
use Rattle.ats_fit.specs.declared.measured.Measured.{Measured}
use Rattle.ats_gen.specs.declared.fault.GenFault.TheVariants.{Limit, NoStream}
use Rattle.ats_examples.specs.Networks.{fast, fork, line, pair}
use Rattle.ats_examples.specs.Rows.{line_rows, row_of_line}
use Rattle.ats_verdict_examples.specs.Networks.{line_until}
use Rattle.ats_command_law.specs.AdmitMeaning.{IsSoundlyBounded}
use Rattle.ats_command_law.specs.BufferMeaning.{AreBuffers}
use Rattle.ats_command_law.specs.FitMeaning.{IsJustEnough, StreamsHaveBursts}
use Rattle.ats_answer_law.specs.NoneMade.{IsWhyNoneMade}

-- What words say that laws conclude of bursts, releases, buffers and bounds, on closed things: of each one of which it
-- is so, beside others, with one thing changed, of which it is not.

-- the second stream of the fork sends two frames of 1522 octets at once, and the first none
abbrev pub frame : Release
frame = record { at = record { 0 = 0 }; sender = 1; octets = 1522 }

abbrev pub two_at_once : List Release
two_at_once = frame ∷ frame ∷ []

-- what is measured of a sender, by the burst
abbrev pub by_burst : Option ℕ → Measured
by_burst burst = record { frames = 0; sizes = None; burst_bits = burst }

-- so just the bits of both are enough for it, and none for the first. They are the streams' bursts in their order, and
-- not in another, nor where one is missing
pub record BurstsAreJust : Type 0 where
  pub just : IsJustEnough fork two_at_once 1 24672
  pub not_less : ¬ IsJustEnough fork two_at_once 1 24671
  pub not_more : ¬ IsJustEnough fork two_at_once 1 24673
  pub of_first : IsJustEnough fork two_at_once 0 0
  pub each : StreamsHaveBursts fork two_at_once (by_burst (Some 0) ∷ by_burst (Some 24672) ∷ [])
  pub not_turned : ¬ StreamsHaveBursts fork two_at_once (by_burst (Some 24672) ∷ by_burst (Some 0) ∷ [])
  pub not_without : ¬ StreamsHaveBursts fork two_at_once (by_burst (Some 0) ∷ by_burst None ∷ [])
  pub not_one : ¬ StreamsHaveBursts fork two_at_once (by_burst (Some 0) ∷ [])

-- a stream over the line whose frames of 2000 octets take 16,160 s each at 1 bit per second
abbrev pub slow : DeclaredNetwork
slow = declared_network line.topology
    (declared_stream (codes "a") (0 ∷ 2 ∷ []) (6 ∷ 6 ∷ []) 1 16160 2000 2000 1000000 None ∷ []) []

-- so the eighth is released over 100,000 s, and the seventh is not; and a stream is there, but for a line without one
pub record NoneMadeIsWhy : Type 0 where
  pub no_stream : IsWhyNoneMade (declared_network line.topology [] []) 7 8 NoStream
  pub not_without : ¬ IsWhyNoneMade slow 7 8 NoStream
  pub limit : IsWhyNoneMade slow 7 8 Limit
  pub not_limit : ¬ IsWhyNoneMade slow 7 7 Limit

-- the buffers of the rows of the line, of which none may be a bit less or more, or missing, or one too many; and rows
-- of which one is missing have none
pub record BuffersAreRoom : Type 0 where
  pub are : AreBuffers line line_rows (13569 ∷ 14736 ∷ [])
  pub not_less : ¬ AreBuffers line line_rows (13569 ∷ 14735 ∷ [])
  pub not_more : ¬ AreBuffers line line_rows (13570 ∷ 14736 ∷ [])
  pub not_one : ¬ AreBuffers line line_rows (13569 ∷ [])
  pub not_three : ¬ AreBuffers line line_rows (13569 ∷ 14736 ∷ 0 ∷ [])
  pub not_held : (buffers : List ℕ) → ¬ AreBuffers line (row_of_line 0 13836000 ∷ []) buffers

-- the line is bounded soundly where the deadline is just the sum of the bounds, and not with 1 ns less; nor is a
-- network with a residence of 1 ns less than a frame may need, or with a stream of twice the rate of the links
pub record BoundsAreSound : Type 0 where
  pub just : IsSoundlyBounded (line_until 26672)
  pub not_late : ¬ IsSoundlyBounded (line_until 26671)
  pub not_short : ¬ IsSoundlyBounded (pair 12335)
  pub not_fast : ¬ IsSoundlyBounded fast

pub record ConclusionsAreShown : Type 0 where
  pub bursts : BurstsAreJust
  pub none_made : NoneMadeIsWhy
  pub buffers : BuffersAreRoom
  pub bounds : BoundsAreSound
