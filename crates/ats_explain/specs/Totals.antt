use Rattle.std.specs.Prelude.{ℕ, List, length, sum_by, count_by}
use Rattle.std.specs.Option.{option_map}
use Rattle.ats_streams.specs.Stream.{DeclaredStream}
use Rattle.ats_network.specs.Network.{DeclaredNetwork}
use Rattle.ats_explain.specs.Parts.{parts_of_hop, is_over}
use Rattle.ats_explain.specs.Margins.{StreamListener, margin_of, margins_of, is_late, tightest_listener}
use Rattle.ats_explain.specs.declared.totals.Totals.{Totals}
use Rattle.ats_explain.specs.declared.totals.Tightest.{Tightest}

-- for how many listeners their streams are late
abbrev pub late_count : DeclaredNetwork → ℕ
late_count network = count_by is_late (margins_of network)

-- at how many of these ports a stream's frames may have to stay longer than they may
abbrev pub over_among : DeclaredNetwork → DeclaredStream → List ℕ → ℕ
over_among network stream ports = count_by (λ port. is_over (parts_of_hop network stream port).stay) ports

-- at how many hops of all streams together, each port of a stream counting once
abbrev pub over_count : DeclaredNetwork → ℕ
over_count network = sum_by (λ (s : DeclaredStream). over_among network s s.ports) network.streams

-- a listener with its margin
abbrev pub tightest_with : DeclaredNetwork → StreamListener → Tightest
tightest_with network one =
    record { name = one.0.name; listener = one.1.name; margin = margin_of network one }

-- the totals of a network
abbrev pub totals_of : DeclaredNetwork → Totals
totals_of network = record {
  streams = length network.streams;
  late = late_count network;
  over = over_count network;
  tightest = option_map (tightest_with network) (tightest_listener network);
}
