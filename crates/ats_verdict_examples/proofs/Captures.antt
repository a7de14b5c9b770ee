use Rattle.std.proofs.Common.{refl, sym}
use Rattle.ats_capture_law.proofs.Counting.{traffic_is_counted}
use Rattle.ats_verdict_examples.specs.Captured.{identified, four, until, late_third, CapturesAreMet}

-- What records come to by computation, and what the law says of them.

pub captures_are_met : CapturesAreMet
captures_are_met = record {
  talker = refl;
  talker_counted = sym (traffic_is_counted identified 0 four);
  listener = refl;
  listener_counted = sym (traffic_is_counted identified 1 four);
  over = refl;
  over_counted = sym (traffic_is_counted identified 0 (until 100000000000001));
  over_behind = refl;
  over_behind_counted = sym (traffic_is_counted identified 0 late_third);
  last = refl;
  since_others = refl;
  at_start = refl;
  none = refl;
}
