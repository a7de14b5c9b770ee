use Rattle.std.specs.Prelude.{◌≡◌, ℕ, ◌+◌, List, [], ◌∷◌}
use Rattle.ats_network.specs.Senders.{sender_at}
use Rattle.ats_certificate.specs.Certificate.{bound_at, Holds}
use Rattle.ats_trace.specs.Journey.{Travel}
use Rattle.ats_trace.specs.Run.{IsIdeal, releases_of}
use Rattle.ats_trace.specs.Stored.{travel_at}
use Rattle.ats_trace.specs.Talker.{talker_of, KeepsBuckets}
use Rattle.ats_soundness_law.specs.Sound.{ArrivesBy, IsServed}
use Rattle.ats_examples.specs.Networks.{fork_of_classes}
use Rattle.ats_examples.specs.Rows.{fork_rows, hop_rows}
use Rattle.ats_examples.specs.Runs.{hop, sunk, second_goes_first}
use Rattle.ats_examples.specs.SoundRuns.{IsCertified, sum_of}

-- What the laws say of a stream whose class changes along its path.

-- behind a frame of the other stream, and a small one that is released at this time, the bridge sends the frame whose
-- class is lower there
abbrev pub behind_two : ℕ → List Travel
behind_two at =
    sunk 0 0 1522 (hop 0 0 0 12336000 ∷ hop 13836000 13836000 26844000 39180000 ∷ []) 39680000
    ∷ sunk 0 1 1522 (hop 0 0 0 12336000 ∷ hop 13836000 13836000 13836000 26172000 ∷ []) 26672000
    ∷ sunk at 1 64 (hop at at 12336000 13008000 ∷ hop 14508000 20556000 26172000 26844000 ∷ []) 27344000
    ∷ []

-- the rows by hop are a certificate, and those of one class are none; both frames of a run are served. In another run
-- the frame is served too, and comes later than the bounds of the class say that it has at its station. There the other
-- talker sends as soon as it may; 1 ps sooner it would break its buckets
pub record ClassesAreSound : Type 0 where
  pub certified : IsCertified fork_of_classes hop_rows
  pub not_of_one_class : ¬ Holds fork_of_classes fork_rows
  pub lowered : IsServed hop_rows (sender_at fork_of_classes 0) (travel_at second_goes_first 0)
  pub other : IsServed hop_rows (sender_at fork_of_classes 1) (travel_at second_goes_first 1)
  pub sum_of_lowered : sum_of fork_of_classes hop_rows (travel_at second_goes_first 0) ≡ 41674667
  pub sum_of_other : sum_of fork_of_classes hop_rows (travel_at second_goes_first 1) ≡ 39008000
  pub legal : IsIdeal fork_of_classes (behind_two 6720000)
  pub keeps : KeepsBuckets fork_of_classes (releases_of (behind_two 6720000)) (talker_of fork_of_classes 0)
  pub other_keeps : KeepsBuckets fork_of_classes (releases_of (behind_two 6720000)) (talker_of fork_of_classes 1)
  pub served : IsServed hop_rows (sender_at fork_of_classes 0) (travel_at (behind_two 6720000) 0)
  pub beyond : ¬ ArrivesBy (bound_at hop_rows 0 6 + bound_at hop_rows 2 6) (travel_at (behind_two 6720000) 0).ending
  pub sooner : IsIdeal fork_of_classes (behind_two 6719999)
  pub too_soon : ¬ KeepsBuckets fork_of_classes (releases_of (behind_two 6719999)) (talker_of fork_of_classes 1)
