use Rattle.std.specs.Prelude.{◌≡◌, ℕ, ◌+◌, max}
use Rattle.ats_num.specs.declared.time.TheConstants.{END}
use Rattle.ats_topology.specs.Port.{port_at, spread_of}
use Rattle.ats_topology.specs.declared.port.Port.{Port}
use Rattle.ats_network.specs.Network.{DeclaredNetwork}
use Rattle.ats_trace.specs.Links.{KeepsLinkRule, KeepsPace, in_order_from}
use Rattle.ats_engine_steps.specs.Course.{Course, crossings_so_far, arrives_from_at}

-- when a frame arrives behind a port that sends it until this time, where the next frame may arrive from `from` on
abbrev pub arrival_behind : (ℕ → ℕ → ℕ) → Port → ℕ → ℕ → ℕ → ℕ
arrival_behind wait port frame end from = max (end + port.earliest.0 + wait frame (spread_of port)) from

-- behind a port frames arrive by the pace, and what is kept of its last arrival is so
pub record IsPaced {T : Type 0} (wait : ℕ → ℕ → ℕ) (network : DeclaredNetwork) (course : Course T) (port : ℕ)
    : Type 0 where
  pub rule : KeepsLinkRule (port_at network.topology.ports port) (crossings_so_far network course port)
  pub pace : KeepsPace wait (port_at network.topology.ports port) (crossings_so_far network course port)
  pub next : arrives_from_at course port ≡ in_order_from END (crossings_so_far network course port)
