use Rattle.std.specs.Prelude.{ℕ, ◌-◌, ◌<◌, [], ◌∷◌, length}
use Rattle.ats_num.specs.Tie.{Ascends, late_key}
use Rattle.ats_network.specs.Network.{IsNetwork}
use Rattle.ats_port_rule.specs.PortRule.{KeepsTie}
use Rattle.ats_trace.specs.Projections.{sent_by}
use Rattle.ats_trace.specs.Releases.{AreReleases}
use Rattle.ats_trace.specs.Run.{IsIdeal, IsRunBy, releases_of}
use Rattle.ats_examples.specs.Networks.{line, line_and_flow, fork, line_of_two, line_of_classes, over_two, over_three}
use Rattle.ats_examples.specs.Networks.{line_of_bursts, merged}
use Rattle.ats_examples.specs.Runs.{one_frame_at, out_of_order}
use Rattle.ats_examples.specs.Runs.{one_frame, long_frame, behind_a_flow, first_goes_first, second_goes_first}
use Rattle.ats_examples.specs.Runs.{regulated, late, late_moves_nothing, held_by_group, group_by_class}
use Rattle.ats_examples.specs.BridgedRuns.{one_over_two, one_over_three, two_over_two, two_over_three, by_two_keys}
use Rattle.ats_examples.specs.Babbler.{babbler}

-- Which of the worked runs are legal.

-- the frame's number is the key
abbrev pub frame_key : ℕ → ℕ → ℕ
frame_key sender frame = frame

-- no frame waits behind a port, and each waits for all of the port's spread
abbrev pub least_wait : ℕ → ℕ → ℕ
least_wait frame spread = 0

abbrev pub greatest_wait : ℕ → ℕ → ℕ
greatest_wait frame spread = spread

-- these runs are legal; the order of a tie follows the key
pub record ExamplesAreLegal : Type 0 where
  pub one_frame : IsIdeal line one_frame
  pub long_frame : IsIdeal line long_frame
  pub behind_a_flow : IsIdeal line_and_flow behind_a_flow
  pub first_goes_first : IsRunBy frame_key least_wait fork first_goes_first
  pub second_goes_first : IsRunBy late_key greatest_wait fork second_goes_first

-- these runs are legal
pub record RegulatedAreLegal : Type 0 where
  pub regulated : IsIdeal line regulated
  pub late : IsIdeal fork late
  pub late_moves_nothing : IsIdeal (line_of_two 11664) late_moves_nothing
  pub held_by_group : IsIdeal (line_of_two 1000000) held_by_group
  pub group_by_class : IsIdeal line_of_classes group_by_class

-- these runs are legal
pub record BridgedAreLegal : Type 0 where
  pub one_over_two : IsIdeal over_two (one_over_two ∷ [])
  pub one_over_three : IsIdeal over_three (one_over_three ∷ [])
  pub two_over_two : IsIdeal over_two (two_over_two 163868000)
  pub two_over_three : IsIdeal over_three (two_over_three 177704000)

-- the run is legal
abbrev pub BabblerIsLegal : Type 0
BabblerIsLegal = IsIdeal fork babbler

-- a frame's number, descending, is the key
abbrev pub descending_key : ℕ → ℕ → ℕ
descending_key sender frame = 4294967295 - frame

-- legal runs that are of no kind that the program makes. Two frames of one sender are out of order at a port: that is a
-- run by a key, and by none that ascends with the frames of a sender. Two streams' frames keep their order, and no one
-- key breaks the ties of all ports. A frame is released 1 ps after 100,000 s, the greatest time at which releases may
-- be run; at that time they may
pub record RunsAreAnyLawful : Type 0 where
  pub one_bridge : IsNetwork line_of_bursts
  pub overtaken : IsRunBy descending_key least_wait line_of_bursts out_of_order
  pub by_no_lawful_key : (key : ℕ → ℕ → ℕ) → Ascends key → ¬ KeepsTie key (sent_by line_of_bursts out_of_order 0)
  pub three_bridges : IsNetwork merged
  pub turned : IsIdeal merged by_two_keys
  pub by_no_one_key : (key : ℕ → ℕ → ℕ) → ¬ ((port : ℕ) → port < length merged.topology.ports
      → KeepsTie key (sent_by merged by_two_keys port))
  pub after_all_releases : IsIdeal line (one_frame_at 100000000000000001)
  pub no_releases : ¬ AreReleases line (releases_of (one_frame_at 100000000000000001))
  pub last_releases : AreReleases line (releases_of (one_frame_at 100000000000000000))
