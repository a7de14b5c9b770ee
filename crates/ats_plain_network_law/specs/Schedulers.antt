use Rattle.std.specs.Prelude.{◌≡◌, ℕ, ◌+◌, ◌*◌, ◌/◌, ◌<◌, ◌≤◌, [], ◌∷◌, length, map, Some, None, slice_index_or}
use Rattle.std.specs.Prelude.{unwrap_or}
use Rattle.std.specs.List.{range_with_len}
use Rattle.std.specs.Ordering.{nat_cmp}
use Rattle.std.specs.Cmp.Lexicographic.{slice_cmp}
use Rattle.ats_network.specs.Class.{class_at}
use Rattle.ats_network.specs.Network.{DeclaredNetwork}
use Rattle.ats_network.specs.Rates.{scheduled_at}
use Rattle.ats_network.specs.Residence.{residence_after}
use Rattle.ats_network.specs.Senders.{sender_at}
use Rattle.ats_settings.specs.Settings.{place_cmp, scheduler_behind}

-- of a stream's scheduler behind a port are told the rate and burst that it has there, and the residence of its group:
-- groups are numbered eight to a port, one for each class, and each has that of the bridge to which its port leads; of
-- a flow none is told
pub record ToldIsKnown : Type 0 where
  pub stream : (network : DeclaredNetwork) (s port : ℕ) → s < length network.streams
      → scheduler_behind network s port ≡ Some (record {
        rate_bps = (scheduled_at network.topology port (sender_at network s)).rate;
        burst_bits = (scheduled_at network.topology port (sender_at network s)).burst_bits;
        residence_ns = slice_index_or
            (map (λ group. unwrap_or (residence_after network.topology (group / 8)) 0)
            (range_with_len 0 (8 * length network.topology.ports)))
            (8 * port + class_at (sender_at network s) port) 0;
      })
  pub flow : (network : DeclaredNetwork) (s port : ℕ) → length network.streams ≤ s
      → scheduler_behind network s port ≡ None

-- settings come by the numbers of bridge, port and class, as lists of three numbers do
pub record OrderIsKnown : Type 0 where
  pub by_place : (x y : ℕ × ℕ × ℕ) → place_cmp x y
      ≡ slice_cmp nat_cmp (x.0 ∷ x.1 ∷ x.2 ∷ []) (y.0 ∷ y.1 ∷ y.2 ∷ [])

pub record SchedulersAreKnown : Type 0 where
  pub schedulers : ToldIsKnown
  pub order : OrderIsKnown
