use Rattle.std.proofs.Common.{◌≡◌, ◌∙◌, ℕ, ◌<◌, Bool, true, false, List, length, Option, Some, None, refl, ap}
use Rattle.std.proofs.Common.{append_assoc}
use Rattle.std.specs.Prelude.{codes, is_some, nat_lt, slice_get, if◌then◌else◌}
use Rattle.std.proofs.lemmas.Bool.{false≢true, le-ltb, lt-ltb, ltb-true}
use Rattle.ats_network.specs.Network.{DeclaredNetwork}
use Rattle.ats_replay.specs.Report.{bound_at, bound_of, report_text, summary_text}
use Rattle.ats_replay.specs.Summary.{place_of}
use Rattle.ats_replay.specs.Totals.{counts_text, totals_line}
use Rattle.ats_plain_text_law.specs.Reports.{BoundsAreReported, ListenersAreReported, ReportIsWritten}

-- What `generate` prints.

-- a sum that is taken where a test passes
taken : (b : Bool) (o : Option ℕ) (bound : ℕ) → (if b then o else None) ≡ Some bound → (b ≡ true) × (o ≡ Some bound)
taken true o bound is = (refl, is)
taken false o bound is = absurd (false≢true (ap is_some is))

given : (network : DeclaredNetwork) (sums : Option (List ℕ)) (sender n bound : ℕ)
    → bound_of network sums sender n ≡ Some bound
    → (all : List ℕ) × (sums ≡ Some all) × (sender < length network.streams)
    × (slice_get all (place_of network sender n) ≡ Some bound)
given network None sender n bound is = absurd (false≢true (ap is_some is))
given network (Some all) sender n bound is =
    let both = taken (nat_lt sender (length network.streams)) (slice_get all (place_of network sender n)) bound is in
    (all, refl, ltb-true sender (length network.streams) both.0, both.1)

bounds : BoundsAreReported
bounds = record {
  given = λ network sums sender n bound. (
    given network sums sender n bound,
    (λ is. ap (λ (o : Option (List ℕ)). bound_at network o sender (place_of network sender n)) is.1
        ∙ ap (λ (b : Bool). if b then slice_get is.0 (place_of network sender n) else None)
        (lt-ltb sender (length network.streams) is.2)
        ∙ is.3),
  );
}

listeners : ListenersAreReported
unfolding summary_text counts_text
listeners = record {
  stream = λ network sender is. ap (λ (b : Bool). if b then codes "stream " else codes "flow ")
      (lt-ltb sender (length network.streams) is);
  flow = λ network sender is. ap (λ (b : Bool). if b then codes "stream " else codes "flow ")
      (le-ltb sender (length network.streams) is);
  first = λ network sender. refl;
  line = λ network of sums sender n. simp append_assoc;
}

pub report_is_written : ReportIsWritten
unfolding report_text counts_text totals_line
report_is_written = record {
  bounds = bounds;
  listeners = listeners;
  sender = λ network of sums sender. refl;
  all = λ network run sums. simp append_assoc;
}
