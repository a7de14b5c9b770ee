use Rattle.std.specs.Prelude.{◌≡◌, ℕ, ◌+◌, List, [], ◌∷◌}
use Rattle.ats_num.specs.Pace.{drawn_wait}
use Rattle.ats_num.specs.Tie.{mixed_key}
use Rattle.ats_trace.specs.Journey.{Travel}
use Rattle.ats_trace.specs.Links.{KeepsTimes, in_order_from}
use Rattle.ats_trace.specs.Parts.{links}
use Rattle.ats_trace.specs.Projections.{Crossing}
use Rattle.ats_trace.specs.Run.{IsRunBy}
use Rattle.ats_examples.specs.Deviations.{BreaksAlone}
use Rattle.ats_examples.specs.Runs.{hop, sunk}
use Rattle.ats_meeting_examples.specs.Networks.{ranged_of_three}

-- Frames of two senders, and of two classes, one behind the other on one link. IEEE Std 802.1Q asks for their order
-- class by class; here all frames of a link keep it.

-- a frame of 672 bits of this sender and class, by its number, its start and its arrival
abbrev pub of_sender : ℕ → ℕ → ℕ → ℕ → ℕ → Crossing
of_sender sender class frame start arrival = record {
  port = 0;
  octets = 64;
  came = start;
  sent = record {
    frame = frame;
    sender = sender;
    class = class;
    bits = 672;
    eligible = start;
    start = start;
    end = start + 672;
  };
  arrival = arrival;
}

-- a frame of sender 0, in this class, arrives as late as it may, at 2172, and behind it one of sender 1, in that class,
-- which could from 2044 on, at this time
abbrev pub two_senders : ℕ → ℕ → ℕ → List Crossing
two_senders first second arrival = of_sender 0 first 0 0 2172 ∷ of_sender 1 second 1 672 arrival ∷ []

-- whatever their classes the second arrives a picosecond behind the first or later, and a pace has it wait until then.
-- Refuses an order of the frames of one class, or of one sender, or of a higher class before those of a lower
pub record LinksKeepAllInOrder : Type 0 where
  pub same_behind : KeepsTimes 700 1500 (two_senders 6 6 2173)
  pub same_overtaken : ¬ KeepsTimes 700 1500 (two_senders 6 6 2171)
  pub lower_behind : KeepsTimes 700 1500 (two_senders 6 5 2173)
  pub lower_overtakes : ¬ KeepsTimes 700 1500 (two_senders 6 5 2171)
  pub flow_behind : KeepsTimes 700 1500 (two_senders 6 0 2173)
  pub flow_overtakes : ¬ KeepsTimes 700 1500 (two_senders 6 0 2171)
  pub behind_flow : KeepsTimes 700 1500 (two_senders 0 6 2173)
  pub flow_overtaken : ¬ KeepsTimes 700 1500 (two_senders 0 6 2171)
  pub from_same : in_order_from 1344 (two_senders 6 6 3000) ≡ 2173
  pub from_higher : in_order_from 1344 (two_senders 6 5 3000) ≡ 2173
  pub from_stream : in_order_from 1344 (two_senders 6 0 3000) ≡ 2173
  pub from_flow : in_order_from 1344 (two_senders 0 6 3000) ≡ 2173

-- a small frame of this sender, and behind it one of that: by mixed:800000 the first draws all of the spread and comes
-- to the bridge at 2172000, and the second draws 0, by which it would come at 2044000
abbrev pub drawn_in_order : ℕ → ℕ → List Travel
drawn_in_order first second =
    sunk 0 first 64 (hop 0 0 0 672000 ∷ hop 2172000 2172000 2172000 2844000 ∷ []) 3344000
    ∷ sunk 1 second 64 (hop 1 1 672000 1344000 ∷ hop 2172001 2172001 2844000 3516000 ∷ []) 4016000
    ∷ []

-- the second comes a picosecond before the first, and is sent on before it
abbrev pub overtaking : ℕ → ℕ → List Travel
overtaking first second =
    sunk 0 first 64 (hop 0 0 0 672000 ∷ hop 2172000 2172000 2843999 3515999 ∷ []) 4015999
    ∷ sunk 1 second 64 (hop 1 1 672000 1344000 ∷ hop 2171999 2171999 2171999 2843999 ∷ []) 3343999
    ∷ []

-- and so it is in runs: of a stream behind one of a higher class, of a flow behind a stream, and the other way round
pub record RunsKeepAllInOrder : Type 0 where
  pub lower : IsRunBy (mixed_key 800000) (drawn_wait 800000) ranged_of_three (drawn_in_order 0 1)
  pub flow : IsRunBy (mixed_key 800000) (drawn_wait 800000) ranged_of_three (drawn_in_order 0 2)
  pub stream : IsRunBy (mixed_key 800000) (drawn_wait 800000) ranged_of_three (drawn_in_order 2 0)
  pub lower_overtakes : BreaksAlone links ranged_of_three (overtaking 0 1)
  pub flow_overtakes : BreaksAlone links ranged_of_three (overtaking 0 2)
  pub flow_overtaken : BreaksAlone links ranged_of_three (overtaking 2 0)

pub record LinksAreShared : Type 0 where
  pub pairs : LinksKeepAllInOrder
  pub runs : RunsKeepAllInOrder
