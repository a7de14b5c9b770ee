use Rattle.std.proofs.Common.{◌≡◌, ℕ, ◌<◌, ◌≤◌, ◌&&◌, true, List, [], ◌∷◌, length, refl, arith, lit<, lit≤}
use Rattle.std.specs.Prelude.{◌==◌}
use Rattle.std.proofs.lemmas.Bool.{and_parts}
use Rattle.ats_num.specs.Tie.{Ascends, late_key}
use Rattle.ats_network.specs.Network.{DeclaredNetwork}
use Rattle.ats_port_rule.specs.PortRule.{KeepsTie}
use Rattle.ats_port_rule.specs.Transmission.{Transmission}
use Rattle.ats_trace.specs.Journey.{Travel}
use Rattle.ats_trace.specs.Projections.{sent_by}
use Rattle.ats_trace.specs.Releases.{IsRelease, AreReleases}
use Rattle.ats_trace.specs.Run.{IsRunBy, releases_of}
use Rattle.ats_trace.specs.declared.journey.Release.{Release}
use Rattle.ats_examples.specs.Networks.{line, line_and_flow, fork, line_of_two, line_of_classes, over_two, over_three}
use Rattle.ats_examples.specs.Networks.{line_of_bursts, merged}
use Rattle.ats_examples.specs.Runs.{one_frame_at, out_of_order}
use Rattle.ats_examples.specs.Runs.{one_frame, long_frame, behind_a_flow, first_goes_first, second_goes_first}
use Rattle.ats_examples.specs.Runs.{regulated, late, late_moves_nothing, held_by_group, group_by_class}
use Rattle.ats_examples.specs.BridgedRuns.{one_over_two, one_over_three, two_over_two, two_over_three, by_two_keys}
use Rattle.ats_examples.specs.Babbler.{babbler}
use Rattle.ats_examples.specs.LegalRuns.{frame_key, least_wait, greatest_wait, ExamplesAreLegal}
use Rattle.ats_examples.specs.LegalRuns.{RegulatedAreLegal, BridgedAreLegal, BabblerIsLegal}
use Rattle.ats_examples.specs.LegalRuns.{descending_key, RunsAreAnyLawful}
use Rattle.ats_examples.proofs.LegalTest.{ascending_by, paces_pass, paces_by, ties_pass, ties_by}
use Rattle.ats_examples.proofs.NetworkProofs.{bursts_is, merged_is}
use Rattle.ats_examples.proofs.PartTest.{all_pass, legal_by}
use Rattle.ats_examples.proofs.Tests.{eq_of, all_by}

-- a legal run by a key and a pace
pub run_by : (key wait : ℕ → ℕ → ℕ) (network : DeclaredNetwork) (run : List Travel) → all_pass network run ≡ true
    → paces_pass wait network run ≡ true → ties_pass key network run ≡ true → IsRunBy key wait network run
run_by key wait network run kept paced agreed =
    record {
      legal = legal_by network run kept;
      pace = paces_by wait network run paced;
      tie = ties_by key network run agreed;
    }

pub examples_legal : ExamplesAreLegal
examples_legal =
    record {
      one_frame = legal_by line one_frame refl;
      long_frame = legal_by line long_frame refl;
      behind_a_flow = legal_by line_and_flow behind_a_flow refl;
      first_goes_first = run_by frame_key least_wait fork first_goes_first refl refl refl;
      second_goes_first = run_by late_key greatest_wait fork second_goes_first refl refl refl;
    }

pub regulated_legal : RegulatedAreLegal
regulated_legal =
    record {
      regulated = legal_by line regulated refl;
      late = legal_by fork late refl;
      late_moves_nothing = legal_by (line_of_two 11664) late_moves_nothing refl;
      held_by_group = legal_by (line_of_two 1000000) held_by_group refl;
      group_by_class = legal_by line_of_classes group_by_class refl;
    }

pub bridged_legal : BridgedAreLegal
bridged_legal = record {
  one_over_two = legal_by over_two (one_over_two ∷ []) refl;
  one_over_three = legal_by over_three (one_over_three ∷ []) refl;
  two_over_two = legal_by over_two (two_over_two 163868000) refl;
  two_over_three = legal_by over_three (two_over_three 177704000) refl;
}

pub babbler_legal : BabblerIsLegal
babbler_legal = legal_by fork babbler refl

no_transmission : Transmission
no_transmission = record { frame = 0; sender = 0; class = 0; bits = 0; eligible = 0; start = 0; end = 0 }

-- the later frame goes first
no_lawful_key : (key : ℕ → ℕ → ℕ) → Ascends key → ¬ KeepsTie key (sent_by line_of_bursts out_of_order 0)
no_lawful_key key ascends keeps =
    let first : key 0 1 < key 0 0 = keeps 1 no_transmission (lit< tt) 0 no_transmission (lit< tt) refl refl (lit< tt) in
    let after : key 0 0 < key 0 1 = ascends 0 0 1 (lit< tt) (lit< tt) (lit< tt) in
    absurd (omega arith)

-- port 4 sends the small frame of the second stream first, and port 8 that of the first stream
no_one_key : (key : ℕ → ℕ → ℕ) → ¬ ((port : ℕ) → port < length merged.topology.ports
    → KeepsTie key (sent_by merged by_two_keys port))
no_one_key key keeps =
    let there : key 1 3 < key 0 1 =
    keeps 4 (lit< tt) 3 no_transmission (lit< tt) 1 no_transmission (lit< tt) refl refl (lit< tt) in
    let here : key 0 1 < key 1 3 =
    keeps 8 (lit< tt) 1 no_transmission (lit< tt) 3 no_transmission (lit< tt) refl refl (lit< tt) in
    absurd (omega arith)

no_release : Release
no_release = record { at = record { 0 = 0 }; sender = 0; octets = 0 }

too_late : ¬ AreReleases line (releases_of (one_frame_at 100000000000000001))
too_late h =
    let before : 100000000000000001 ≤ 100000000000000000 = (h.each 0 no_release (lit< tt)).time in
    absurd (omega arith)

just_in_time : AreReleases line (releases_of (one_frame_at 100000000000000000))
just_in_time = record {
  few = lit≤ tt;
  in_order = ascending_by (100000000000000000 ∷ []) refl;
  each = all_by (IsRelease line) (λ (r : Release). r.at.0 == 100000000000000000 && (r.sender == 0 && r.octets == 1522))
      is_one (releases_of (one_frame_at 100000000000000000)) refl;
}
  where
    is_one : (r : Release) → (r.at.0 == 100000000000000000 && (r.sender == 0 && r.octets == 1522)) ≡ true
        → IsRelease line r
    is_one r h =
        let first = and_parts (r.at.0 == 100000000000000000) (r.sender == 0 && r.octets == 1522) h in
        let second = and_parts (r.sender == 0) (r.octets == 1522) first.1 in
        let at : r.at.0 ≡ 100000000000000000 = eq_of r.at.0 100000000000000000 first.0 in
        let sender : r.sender ≡ 0 = eq_of r.sender 0 second.0 in
        let octets : r.octets ≡ 1522 = eq_of r.octets 1522 second.1 in
        record {
          time = omega (arith, at);
          sender = omega (arith, sender);
          octets = record { least = omega (arith, octets); most = omega (arith, octets) };
        }

pub any_lawful : RunsAreAnyLawful
any_lawful = record {
  one_bridge = bursts_is;
  overtaken = run_by descending_key least_wait line_of_bursts out_of_order refl refl refl;
  by_no_lawful_key = no_lawful_key;
  three_bridges = merged_is;
  turned = legal_by merged by_two_keys refl;
  by_no_one_key = no_one_key;
  after_all_releases = legal_by line (one_frame_at 100000000000000001) refl;
  no_releases = too_late;
  last_releases = just_in_time;
}
