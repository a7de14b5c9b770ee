use Rattle.std.specs.Prelude.{◌≡◌, length, count_by, sum_by, nat_lt, ◌++◌, codes, Some}
use Rattle.ats_streams.specs.Stream.{DeclaredStream}
use Rattle.ats_network.specs.Network.{DeclaredNetwork, IsNetwork}
use Rattle.ats_explain.specs.Parts.{is_over, parts_of_hop}
use Rattle.ats_explain.specs.Totals.{late_count, over_count, totals_of}
use Rattle.ats_explain.specs.declared.parts.Stay.{Stay}
use Rattle.ats_explain_text.specs.Text.{explain_text}
use Rattle.ats_clock_examples.specs.Needs.{staying}

-- What is explained of a bound where a bridge's clock is not ideal.

-- of the line over a bridge whose clock deviates by 100 parts in a million and ticks every 8 ns: the stay there is by
-- the clock, more than the residence of 11673 ns, which the wait of 11664 ns is not; and the port of the bridge is
-- loaded with the rate that its scheduler has. Refuses `over 0`, a stay of 11664000 or 11665167, and a load of
-- 100000000000 there
pub record ClocksAreExplained : Type 0 where
  pub network : IsNetwork (staying 11673 100 8000)
  pub over : explain_text (staying 11673 100 8000)
      ≡ codes "stream a sum 26674000 deadline 1000000000 slack 973326000\n"
      ++ codes "hop s1>b1 6 lower 0 - bursts 11664000 higher 0 frame 672000 latency 1500000 bound 13836000"
      ++ codes " stay 11673167 of 11673000\n"
      ++ codes "hop b1>s2 6 lower 0 - bursts 11666000 higher 0 frame 672000 latency 500000 bound 12838000\n"
      ++ codes "port s1>b1 load 100000000000\n"
      ++ codes "port b1>s2 load 100020004000\n"
      ++ codes "total streams 1 late 0 over 1 tightest a slack 973326000\n"

-- of the same line with a nanosecond more no hop is over
pub record ResidencesMayBeJust : Type 0 where
  pub network : IsNetwork (staying 11674 100 8000)
  pub not_over : explain_text (staying 11674 100 8000)
      ≡ codes "stream a sum 26674000 deadline 1000000000 slack 973326000\n"
      ++ codes "hop s1>b1 6 lower 0 - bursts 11664000 higher 0 frame 672000 latency 1500000 bound 13836000"
      ++ codes " stay 11673167 of 11674000\n"
      ++ codes "hop b1>s2 6 lower 0 - bursts 11666000 higher 0 frame 672000 latency 500000 bound 12838000\n"
      ++ codes "port s1>b1 load 100000000000\n"
      ++ codes "port b1>s2 load 100020004000\n"
      ++ codes "total streams 1 late 0 over 0 tightest a slack 973326000\n"

-- of each network the totals are the number of its streams, of the listeners whose streams are late, and of the hops
-- of all streams whose stay is over, as it stands in the line of the hop
pub record TotalsAreOfEach : Type 0 where
  pub streams : (network : DeclaredNetwork) → (totals_of network).streams ≡ length network.streams
  pub late : (network : DeclaredNetwork) → (totals_of network).late ≡ late_count network
  pub over : (network : DeclaredNetwork) → (totals_of network).over ≡ over_count network
  pub over_of_hops : (network : DeclaredNetwork) → (totals_of network).over
      ≡ sum_by (λ (s : DeclaredStream). count_by (λ port. is_over (parts_of_hop network s port).stay) s.ports)
      network.streams
  pub is_over : (stay : Stay) → is_over (Some stay) ≡ nat_lt stay.residence stay.need

pub record ExplainedByClocks : Type 0 where
  pub clocks : ClocksAreExplained
  pub just : ResidencesMayBeJust
  pub totals : TotalsAreOfEach
