use Rattle.std.proofs.Common.{◌+◌, ◌*◌, ◌≤◌, [], ◌∷◌, refl, arith, lit<, lit≤}
use Rattle.ats_network.specs.Senders.{sender_at}
use Rattle.ats_certificate.specs.Certificate.{Holds}
use Rattle.ats_trace.specs.Run.{releases_of}
use Rattle.ats_trace.specs.Talker.{talker_of, KeepsBuckets}
use Rattle.ats_soundness_law.specs.Sound.{IsPromptIfEligible, IsServed, bounds_of}
use Rattle.ats_examples.specs.Networks.{line}
use Rattle.ats_examples.specs.Rows.{line_rows}
use Rattle.ats_examples.specs.Runs.{regulated}
use Rattle.ats_examples.specs.LawsMet.{held_back, BridgesAreMet, LawsAreMet}
use Rattle.ats_examples.specs.OwnFrames.{own, own_frames}
use Rattle.ats_examples.proofs.LegalProofs.{examples_legal, regulated_legal}
use Rattle.ats_examples.proofs.NetworkProofs.{line_is}
use Rattle.ats_examples.proofs.OwnFrameProofs.{keep_by, own_certified, own_legal, own_served}
use Rattle.ats_examples.proofs.RuleTest.{holds_by}
use Rattle.ats_examples.proofs.TalkerProofs.{talkers_of_examples}

holds : Holds line line_rows
holds = holds_by line line_rows refl refl

-- two frames at once are more than the burst
not_kept : ¬ KeepsBuckets line (releases_of regulated) (talker_of line 0)
not_kept keeps =
    let over : 1000000000000 * 24672 ≤ 100000000 * 0 + 1000000000000 * 12336 =
    (keeps.streams 0 (lit< tt) refl).within 0 1 (lit≤ tt) (lit< tt) in
    absurd (omega arith)

-- the bridge lets the second of them go long after the bound of the port before
not_served : ¬ IsServed line_rows (sender_at line 0) held_back
not_served served =
    let over : 137196000 ≤ 0 + 13836000 = (served 0 (lit< tt)).prompt.1.0 in
    absurd (omega arith)

not_prompt : ¬ IsPromptIfEligible (bounds_of line_rows (sender_at line 0)) (sender_at line 0).ports held_back.hops
    held_back.ending
not_prompt prompt =
    let over : 137196000 ≤ 0 + 13836000 = prompt.0 in
    absurd (omega arith)

pub laws_are_met : LawsAreMet
laws_are_met = record {
  network = line_is;
  holds = holds;
  legal = examples_legal.one_frame;
  among = (0, lit< tt, refl);
  of_stream = lit< tt;
  keeps = talkers_of_examples.one_frame;
  station = record { within = lit< tt; station = refl };
  to_bridge = record { within = lit< tt; bridge = refl };
  from_bridge = record { within = lit< tt; bridge = refl };
  whole = refl;
  sum = refl;
  beyond = regulated_legal.regulated;
  not_kept = not_kept;
  not_served = not_served;
  not_prompt = not_prompt;
}

pub bridges_are_met : BridgesAreMet
bridges_are_met = record {
  network = own_certified.rules;
  holds = own_certified.holds;
  legal = own_legal;
  among = (2, lit< tt, refl);
  of_stream = lit< tt;
  keeps = own_served.station_keeps;
  bridge = own_served.bridge;
  begins_there = refl;
  ends_there = refl;
  bridges_keep = keep_by own (releases_of own_frames) (0 ∷ 2 ∷ []) refl refl;
}
