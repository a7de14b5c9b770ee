use Rattle.std.proofs.Common.{◌≡◌, ◌∙◌, ◌-◌, true, length, Option, Some, None, refl, ap, append_assoc}
use Rattle.std.specs.Prelude.{slice_get}
use Rattle.std.proofs.lemmas.Bool.{false≢true}
use Rattle.ats_num.specs.declared.time.Ps.{Ps}
use Rattle.ats_group.specs.declared.verdict.Verdict.{Verdict}
use Rattle.ats_group.specs.declared.verdict.Verdict.TheVariants.{Eligible, Late, Size}
use Rattle.ats_trace.specs.HopRecord.{HopRecord}
use Rattle.ats_replay.specs.Departures.{departures_text, hop_line}
use Rattle.ats_replay.specs.Totals.{counts_text, is_late_verdict, is_size_verdict, passes, totals_line}
use Rattle.ats_plain_text_law.specs.Replays.{EndsAreCounted, HopsAreWritten, ReplayIsWritten}

-- What `replay` prints, and counts.

late_verdict : (v : Verdict) → is_late_verdict v ≡ true → (at : Ps) × (v ≡ Late at)
late_verdict (Late at) is = (at, refl)
late_verdict (Eligible at) is = absurd (false≢true is)
late_verdict Size is = absurd (false≢true is)

late_last : (o : Option HopRecord) → passes is_late_verdict o ≡ true
    → (last : HopRecord) × (at : Ps) × (o ≡ Some last) × (last.verdict ≡ Late at)
late_last None is = absurd (false≢true is)
late_last (Some last) is = let late = late_verdict last.verdict is in (last, late.0, refl, late.1)

size_verdict : (v : Verdict) → is_size_verdict v ≡ true → v ≡ Size
size_verdict (Late at) is = absurd (false≢true is)
size_verdict (Eligible at) is = absurd (false≢true is)
size_verdict Size is = refl

size_last : (o : Option HopRecord) → passes is_size_verdict o ≡ true
    → (last : HopRecord) × (o ≡ Some last) × (last.verdict ≡ Size)
size_last None is = absurd (false≢true is)
size_last (Some last) is = (last, refl, size_verdict last.verdict is)

ends : EndsAreCounted
ends = record {
  late = λ hops. (
    (λ is. late_last (slice_get hops (length hops - 1)) is),
    (λ is. ap (passes is_late_verdict) is.2 ∙ ap is_late_verdict is.3),
  );
  oversize = λ hops. (
    (λ is. size_last (slice_get hops (length hops - 1)) is),
    (λ is. ap (passes is_size_verdict) is.1 ∙ ap is_size_verdict is.2),
  );
}

hops : HopsAreWritten
unfolding hop_line
hops = record {
  eligible = λ t port came at sent. simp append_assoc;
  late = λ t port came at sent. simp append_assoc;
  size = λ t port came sent. refl;
}

pub replay_is_written : ReplayIsWritten
unfolding departures_text counts_text totals_line
replay_is_written = record {
  ends = ends;
  hops = hops;
  all = λ network run. simp append_assoc;
}
