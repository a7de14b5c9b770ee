-- The worked network with length-rate-quotient regulators, and its runs.
use Rattle.std.proofs.Common.{◌≡◌, ℕ, ◌+◌, ◌-◌, ◌*◌, ◌<◌, ◌≤◌, length, refl, subst, sym, arith}
use Rattle.std.proofs.Common.{lit<, lit≤}
use Rattle.std.specs.Prelude.{◌&&◌, ◌==◌, nat_le}
use Rattle.ats_network.specs.Network.{senders_of}
use Rattle.ats_network.specs.Senders.{sender_at}
use Rattle.ats_bucket.specs.Conforming.{Frame}
use Rattle.ats_certificate.specs.Certificate.{Holds}
use Rattle.ats_certificate.specs.declared.row.Row.{Row}
use Rattle.ats_trace.specs.Eligibility.{IsJudged, declared_by}
use Rattle.ats_trace.specs.Projections.{handed_by}
use Rattle.ats_trace.specs.Run.{IsIdeal, IsLegalBy, releases_of}
use Rattle.ats_trace.specs.Stored.{travel_at}
use Rattle.ats_trace.specs.Talker.{IsDeclaredSize, KeepsBuckets, KeepsBucketsBy, frames_of, talker_of}
use Rattle.ats_trace.specs.declared.journey.Release.{Release}
use Rattle.ats_soundness_law.specs.Runs.{in_true_time}
use Rattle.ats_soundness_law.specs.Sound.{IsServed, IsSoundBy}
use Rattle.ats_group.specs.Judge.{bucket_rule}
use Rattle.ats_lrq.specs.Judge.{lrq_judge, spacing_rule}
use Rattle.ats_lrq.specs.Narrow.{narrowed}
use Rattle.ats_lrq_law.proofs.Narrowed.{narrowed_is_sound}
use Rattle.ats_examples.specs.Networks.{line_and_flow, line_of_bursts}
use Rattle.ats_examples.specs.Rows.{line_rows}
use Rattle.ats_examples.specs.Runs.{out_of_order}
use Rattle.ats_examples.proofs.BucketTest.{is_sized, keeps_by}
use Rattle.ats_examples.proofs.LawsMetProofs.{laws_are_met}
use Rattle.ats_examples.proofs.LegalProofs.{any_lawful}
use Rattle.ats_examples.proofs.NetworkProofs.{bursts_is}
use Rattle.ats_examples.proofs.Tests.{all_by, le_of}
use Rattle.ats_examples.proofs.StationTest.{from_stations, from_stations_by, legal_of}
use Rattle.ats_lrq_examples.specs.Runs.{spaced, too_soon, two_of_flow}
use Rattle.ats_lrq_examples.specs.Met.{FlowsAreFree, LawIsMet, RegulatorCounts, SpacingCounts, second_of}
use Rattle.ats_lrq_examples.proofs.LegalByLrq.{legal_with, port_is, two_judged}

spaced_groups : (port class : ℕ) → port < length line_of_bursts.topology.ports → 1 ≤ class
    → IsJudged lrq_judge line_of_bursts port (handed_by line_of_bursts spaced port class)
spaced_groups port class within least =
    two_judged line_of_bursts port 0 _ _ refl refl (0 == port && 6 == class) (port_is port class)

spaced_legal : IsLegalBy lrq_judge line_of_bursts spaced
spaced_legal = legal_with line_of_bursts spaced refl spaced_groups

soon_groups : (port class : ℕ) → port < length line_of_bursts.topology.ports → 1 ≤ class
    → IsJudged lrq_judge line_of_bursts port (handed_by line_of_bursts too_soon port class)
soon_groups port class within least =
    two_judged line_of_bursts port 0 _ _ refl refl (0 == port && 6 == class) (port_is port class)

soon_legal : IsLegalBy lrq_judge line_of_bursts too_soon
soon_legal = legal_with line_of_bursts too_soon refl soon_groups

-- a frame of the stream, which has number 0
one_frame : spacing_rule (declared_by line_and_flow 0) (frames_of 0 two_of_flow)
one_frame = record {
  bits = all_by (λ (f : Frame). 1 ≤ f.bits) (λ (f : Frame). nat_le 1 f.bits) (λ f. le_of 1 f.bits)
      (frames_of 0 two_of_flow) refl;
  spaced = tt;
}

pub flows_are_free : FlowsAreFree
flows_are_free = record {
  keeps = record {
    streams = λ i there begins.
        let within : i < 1 = there in
        let own : i ≡ 0 = omega arith in
        subst (λ (n : ℕ). spacing_rule (declared_by line_and_flow n) (frames_of n two_of_flow)) (sym own) one_frame;
    sizes = all_by
        (λ (r : Release). r.sender < length (senders_of line_and_flow)
        → talker_of line_and_flow r.sender ≡ talker_of line_and_flow 1 → IsDeclaredSize line_and_flow r)
        (is_sized line_and_flow) (λ r h there begins. h) two_of_flow refl;
  };
  same_station = refl;
}

-- frames of the stream, which has number 0
spaced_frames : spacing_rule (declared_by line_of_bursts 0) (frames_of 0 (releases_of spaced))
spaced_frames = record {
  bits = all_by (λ (f : Frame). 1 ≤ f.bits) (λ (f : Frame). nat_le 1 f.bits) (λ f. le_of 1 f.bits)
      (frames_of 0 (releases_of spaced)) refl;
  spaced = (record { later = lit≤ tt; given = lit≤ tt }, tt);
}

spaced_keeps : KeepsBucketsBy spacing_rule line_of_bursts (releases_of spaced) (talker_of line_of_bursts 0)
spaced_keeps = record {
  streams = λ i there begins.
      let within : i < 1 = there in
      let own : i ≡ 0 = omega arith in
      subst (λ (n : ℕ). spacing_rule (declared_by line_of_bursts n) (frames_of n (releases_of spaced))) (sym own)
      spaced_frames;
  sizes = all_by
      (λ (r : Release). r.sender < length (senders_of line_of_bursts)
      → talker_of line_of_bursts r.sender ≡ talker_of line_of_bursts 0 → IsDeclaredSize line_of_bursts r)
      (is_sized line_of_bursts) (λ r h there begins. h) (releases_of spaced) refl;
}

holds : Holds (narrowed line_of_bursts) line_rows
holds = laws_are_met.holds

sound : IsSoundBy (in_true_time lrq_judge spacing_rule) line_of_bursts line_rows
sound = narrowed_is_sound line_of_bursts line_rows bursts_is holds

pub law_is_met : LawIsMet
law_is_met = record {
  network = bursts_is;
  narrow = refl;
  holds = holds;
  sound = sound;
  legal = spaced_legal;
  among = (1, lit< tt, refl);
  of_stream = lit< tt;
  keeps = spaced_keeps;
  served = (from_stations_by spacing_rule lrq_judge line_of_bursts line_rows refl sound).served spaced spaced_legal
      (second_of spaced) (1, lit< tt, refl) (lit< tt) spaced_keeps;
  sum = refl;
  whole = refl;
}

soon_keeps : KeepsBuckets line_of_bursts (releases_of too_soon) (talker_of line_of_bursts 0)
soon_keeps = keeps_by line_of_bursts (releases_of too_soon) (talker_of line_of_bursts 0) refl refl

soon_not_spaced : ¬ KeepsBucketsBy spacing_rule line_of_bursts (releases_of too_soon) (talker_of line_of_bursts 0)
soon_not_spaced keeps =
    let given : 1000000000000 * 12336 ≤ 100000000 * (123359999 - 0) = (keeps.streams 0 (lit< tt) refl).spaced.0.given in
    absurd (omega arith)

soon_not_served : ¬ IsServed line_rows (sender_at line_of_bursts 0) (second_of too_soon)
soon_not_served served =
    let over : 137196000 ≤ 123359999 + 13836000 = (served 0 (lit< tt)).prompt.1.0 in
    absurd (omega arith)

pub spacing_counts : SpacingCounts
spacing_counts = record {
  legal = soon_legal;
  keeps = soon_keeps;
  not_spaced = soon_not_spaced;
  not_served = soon_not_served;
  unsound = λ all. soon_not_served
      ((from_stations_by bucket_rule lrq_judge line_of_bursts line_rows refl all).served too_soon soon_legal
      (second_of too_soon) (1, lit< tt, refl) (lit< tt) soon_keeps);
}

no_row : Row
no_row = record { port = 0; class = 0; higher = 0; equal = 0; bursts = 0; lower = 0; least = 0; wait = 0; bound = 0 }

-- two frames are the burst as it is declared, and the rows have one
not_held : ¬ Holds line_of_bursts line_rows
not_held all =
    let same : ◌≡◌ {A = ℕ} 12336 24672 = (all.each 0 no_row (lit< tt)).covers.sums.bursts in
    absurd (omega arith)

legal_at_once : IsIdeal line_of_bursts out_of_order
legal_at_once = any_lawful.overtaken.legal

at_once_keeps : KeepsBuckets line_of_bursts (releases_of out_of_order) (talker_of line_of_bursts 0)
at_once_keeps = keeps_by line_of_bursts (releases_of out_of_order) (talker_of line_of_bursts 0) refl refl

at_once_not_served : ¬ IsServed line_rows (sender_at line_of_bursts 0) (travel_at out_of_order 0)
at_once_not_served served =
    let over : 26172000 ≤ 0 + 13836000 = (served 0 (lit< tt)).prompt.1.0 in
    absurd (omega arith)

pub regulator_counts : RegulatorCounts
regulator_counts = record {
  not_held = not_held;
  legal = legal_at_once;
  keeps = at_once_keeps;
  not_served = at_once_not_served;
  unsound = λ all. at_once_not_served
      ((from_stations line_of_bursts line_rows refl all).served out_of_order
      (legal_of line_of_bursts out_of_order bursts_is legal_at_once)
      (travel_at out_of_order 0) (0, lit< tt, refl) (lit< tt) at_once_keeps);
}
