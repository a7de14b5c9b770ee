use Rattle.std.specs.Prelude.{◌≡◌, ◌≢◌, ◌↔◌, ◌⊎◌, ℕ, ◌+◌, ◌<◌, ◌≤◌, List, length, slice_index_or}
use Rattle.ats_streams.specs.Branches.{first_from, no_branch}
use Rattle.ats_streams.specs.declared.branch.Branch.{Branch}
use Rattle.ats_network.specs.Network.{DeclaredNetwork}
use Rattle.ats_network.specs.Senders.{sender_at}
use Rattle.ats_schedulers.specs.Schedulers.{IsHop, leg_ports}
use Rattle.ats_settings.specs.Before.{BeginsAt, GoesOn, IsFrom}
use Rattle.ats_settings.specs.Laws.{GoesOnBy}

-- Of which hops laws speak that tell of schedulers and of settings: what is asked of a hop, part by part, both ways.

-- a hop of a stream's leg that comes behind one of the leg; and a port by which the stream goes on from there
pub record HopsAreMeant : Type 0 where
  pub hop : (network : DeclaredNetwork) (stream leg hop : ℕ) → IsHop network stream leg hop
      ↔ ((stream < length network.streams) × (leg ≤ length (sender_at network stream).branches) × (1 ≤ hop)
      × (hop < length (leg_ports network stream leg)))
  pub begins : (branches : List Branch) (place from : ℕ) → BeginsAt branches place from
      ↔ ((b : ℕ) × (b < length branches) × ((slice_index_or branches b no_branch).first ≡ place)
      × (from ≡ first_from 0 branches (slice_index_or branches b no_branch).leg
      + (slice_index_or branches b no_branch).hop))
  pub goes_on : (branches : List Branch) (place from : ℕ) → GoesOn branches place from
      ↔ (((n : ℕ) → n < length branches → (slice_index_or branches n no_branch).first ≢ place) × (from ≡ place))
  pub from_where : (branches : List Branch) (place from : ℕ) → IsFrom branches place from
      ↔ (BeginsAt branches place from ⊎ GoesOn branches place from)
  pub by_port : (network : DeclaredNetwork) (stream leg hop place : ℕ) → GoesOnBy network stream leg hop place
      ↔ (IsHop network stream leg hop × (place < length (sender_at network stream).ports)
      × IsFrom (sender_at network stream).branches place
      (first_from 0 (sender_at network stream).branches leg + hop))
