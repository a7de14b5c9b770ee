use Rattle.std.specs.Prelude.{◌≡◌, ℕ, zero, suc, ◌+◌, ◌*◌, List, [], ◌∷◌, length, All}
use Rattle.ats_network.specs.Network.{IsNetwork}
use Rattle.ats_port_rule.specs.Transmission.{Transmission}
use Rattle.ats_trace.specs.Journey.{Travel}
use Rattle.ats_trace.specs.Projections.{sent_by}
use Rattle.ats_trace.specs.Run.{IsIdeal, releases_of}
use Rattle.ats_trace.specs.declared.journey.Release.{Release}
use Rattle.ats_examples.specs.Networks.{line_and_flow}
use Rattle.ats_examples.specs.Runs.{hop, sunk}

-- Runs with any number of frames at once.

-- the time of a frame of 1522 octets on a link of the line
abbrev pub frame_ps : ℕ
frame_ps = 12336000

-- a frame of the flow that is released at time 0 with all others, and sent as the one with this number
abbrev pub in_crowd : ℕ → Travel
in_crowd k =
    sunk 0 1 1522
    (hop 0 0 (k * frame_ps) (k * frame_ps + 12336000)
    ∷ hop (k * frame_ps + 13836000) (k * frame_ps + 13836000) (k * frame_ps + 13836000) (k * frame_ps + 26172000) ∷ [])
    (k * frame_ps + 26672000)

-- so many of them, the first of which has this number
abbrev pub crowd_from : ℕ → ℕ → List Travel
crowd_from k zero = []
crowd_from k (suc n) = in_crowd k ∷ crowd_from (k + 1) n

-- for each number there is a legal run of the line with exactly so many frames, all released at once: each waits at the
-- station until those before it have been sent
pub record CrowdsAreLegal : Type 0 where
  pub network : IsNetwork line_and_flow
  pub legal : (n : ℕ) → IsIdeal line_and_flow (crowd_from 0 n)
  pub long : (n : ℕ) → length (crowd_from 0 n) ≡ n
  pub at_once : (n : ℕ) → All (λ (r : Release). r.at.0 ≡ 0) (releases_of (crowd_from 0 n))
  pub waits : (n : ℕ)
      → All (λ (x : Transmission). (x.eligible ≡ 0) × (x.start ≡ x.frame * frame_ps))
      (sent_by line_and_flow (crowd_from 0 n) 0)
