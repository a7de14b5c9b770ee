use Rattle.std.specs.Prelude.{◌≡◌, ℕ, List, codes, Some, All}
use Rattle.ats_network.specs.Network.{DeclaredNetwork, IsNetwork}
use Rattle.ats_certificate.specs.Certificate.{Holds}
use Rattle.ats_certificate.specs.declared.row.Row.{Row}
use Rattle.ats_explain.specs.Laws.{Carries, AddUp, StreamAddsUp, IsClear}
use Rattle.ats_explain.specs.Parts.{parts_of_hop}
use Rattle.ats_explain.specs.Totals.{late_count, over_count}
use Rattle.ats_explain.specs.declared.parts.Parts.{Parts}
use Rattle.ats_examples.specs.Networks.{fast, pair, small}
use Rattle.ats_examples.specs.Rows.{line_rows}
use Rattle.ats_verdict_examples.specs.Networks.{line_until, below_and_flow}

-- Bounds with their parts, and networks that are clear or not.

-- the parts of the bound of the small stream at its first port, where this long passes for higher classes: a frame of
-- the flow and one of the higher class take 12336000 ps each, and as long again is added by the higher class, of half
-- the link's rate, for each of them
abbrev pub parts_with : ℕ → Parts
parts_with higher = record {
  lower = 12336000;
  sender = Some (codes "f");
  bursts = 12336000;
  higher = higher;
  frame = 672000;
  latency = 1500000;
  bound = 51516000;
  stay = Some (record { need = 49344000; residence = 1000000000 });
}

-- a network that carries its streams, and is not clear; so no certificate of it holds
pub record IsNotClear (network : DeclaredNetwork) : Type 0 where
  pub rules : IsNetwork network
  pub carries : Carries network
  pub not_clear : ¬ IsClear network
  pub none_holds : ¬ ((rows : List Row) × Holds network rows)

-- all parts count, and add up to the bound, which with 1 ps more they do not. The line is clear with a deadline of its
-- sum, and late with 1 ns less. The pair is clear where a frame may stay just as long as it may have to; with 1 ns
-- less it is not, at the first hop of both streams. And an overloaded network does not carry its streams
pub record ExplanationsAreMet : Type 0 where
  pub rules : IsNetwork below_and_flow
  pub carries : Carries below_and_flow
  pub parts : parts_of_hop below_and_flow (small (codes "a") 5) 0 ≡ parts_with 24672000
  pub add_up : AddUp (parts_with 24672000)
  pub not_with_more : ¬ AddUp (parts_with 24672001)
  pub each : All (StreamAddsUp below_and_flow) below_and_flow.streams
  pub clear : IsClear (line_until 26672)
  pub one_holds : Holds (line_until 26672) line_rows
  pub late : late_count (line_until 26671) ≡ 1
  pub not_in_time : IsNotClear (line_until 26671)
  pub stay_clear : IsClear (pair 12336)
  pub over : over_count (pair 12335) ≡ 2
  pub not_within : IsNotClear (pair 12335)
  pub overloaded : ¬ Carries fast
