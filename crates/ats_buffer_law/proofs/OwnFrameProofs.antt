use Rattle.std.proofs.Common.{◌≡◌, ℕ, zero, suc, ◌+◌, ◌-◌, ◌*◌, ◌<◌, ◌≤◌, List, [], refl, sym, subst, arith}
use Rattle.std.proofs.Common.{lit<, lit≤}
use Rattle.std.specs.Prelude.{Some}
use Rattle.std.proofs.lemmas.Option.{same_Some}
use Rattle.ats_group.specs.Judge.{bucket_rule}
use Rattle.ats_network.specs.Senders.{sender_at}
use Rattle.ats_clock_run_law.proofs.Ideal.{stations_read_true_time}
use Rattle.ats_trace.specs.Clocks.{IsLegal}
use Rattle.ats_trace.specs.Journey.{Travel}
use Rattle.ats_trace.specs.Run.{releases_of}
use Rattle.ats_trace.specs.Stored.{travel_at}
use Rattle.ats_trace.specs.Talker.{talker_of, KeepsBuckets, read_by}
use Rattle.ats_trace.specs.declared.journey.Release.{Release}
use Rattle.ats_soundness_law.specs.Sound.{IsServed}
use Rattle.ats_soundness_law.specs.TrueTime.{KeepsBucketsIn}
use Rattle.ats_buffer.specs.Occupancy.{occupancy}
use Rattle.ats_buffer.specs.Buffer.{buffer_at}
use Rattle.ats_examples.specs.Networks.{three_links, three_nodes}
use Rattle.ats_examples.specs.SoundRuns.{IsCertified}
use Rattle.ats_examples.proofs.BucketTest.{keeps_by}
use Rattle.ats_examples.proofs.NetworkTest.{long_network_by}
use Rattle.ats_examples.proofs.PartTest.{legal_by}
use Rattle.ats_examples.proofs.RuleTest.{holds_by}
use Rattle.ats_examples.proofs.StationTest.{legal_of, quiet_by}
use Rattle.ats_buffer_law.specs.Laws.{BridgeKeeps, NodesKeepBuckets}
use Rattle.ats_buffer_law.specs.OwnFrames.{BridgeBackMayBabble, own_before, own_three, own_three_rows}
use Rattle.ats_buffer_law.proofs.Held.{buffers_hold}

-- A bridge that babbles, and the buffers of ports behind it.

certified : IsCertified own_three own_three_rows
certified = record {
  rules = long_network_by three_nodes three_links own_three.streams [] refl refl;
  holds = holds_by own_three own_three_rows refl refl;
}

-- the second and the third bridge have no stream of their own
second_keeps : (run : List Travel) (legal : IsLegal own_three run)
    → BridgeKeeps (KeepsBucketsIn own_three run legal) own_three 4
second_keeps run legal bridge = quiet_by bucket_rule own_three (read_by (legal.clocks 3) (releases_of run)) 3 refl

third_keeps : (run : List Travel) (legal : IsLegal own_three run)
    → BridgeKeeps (KeepsBucketsIn own_three run legal) own_three 6
third_keeps run legal bridge = quiet_by bucket_rule own_three (read_by (legal.clocks 4) (releases_of run)) 4 refl

-- so behind them the station alone is asked
last_keep : (run : List Travel) (legal : IsLegal own_three run)
    → KeepsBuckets own_three (releases_of run) (talker_of own_three 0) → NodesKeepBuckets own_three run legal 6 6
last_keep run legal keeps zero h ranked = record {
  talker = subst (λ (releases : List Release). KeepsBuckets own_three releases (talker_of own_three 0))
      (sym (stations_read_true_time own_three run legal (talker_of own_three 0) (releases_of run) refl)) keeps;
  here = third_keeps run legal;
  before = λ q is.
      let same : Some 4 ≡ Some q = is in
      subst (BridgeKeeps (KeepsBucketsIn own_three run legal) own_three) (same_Some 4 q same) (second_keeps run legal);
}
last_keep run legal keeps (suc zero) h ranked = absurd (let other : 0 ≡ 6 = ranked in omega (arith, other))
last_keep run legal keeps (suc (suc i)) h ranked = absurd (let two : suc (suc i) < 2 = h in omega (arith, two))

fits : (run : List Travel) → IsLegal own_three run → KeepsBuckets own_three (releases_of run) (talker_of own_three 0)
    → (time : ℕ) → occupancy own_three run 6 6 time ≤ buffer_at own_three own_three_rows 6 6
fits run legal keeps time =
    buffers_hold own_three own_three_rows run 6 6 certified.rules certified.holds legal (lit≤ tt)
    (last_keep run legal keeps) time

is_legal : IsLegal own_three own_before
is_legal = legal_of own_three own_before certified.rules (legal_by own_three own_before refl)

-- three frames at once are more than the burst, whatever the clock shows
babbles : (legal : IsLegal own_three own_before)
    → ¬ KeepsBucketsIn own_three own_before legal (talker_of own_three 1)
babbles legal keeps =
    let read : ℕ = legal.clocks (talker_of own_three 1) 13836000 in
    let over : 1000000000000 * 2016 ≤ 10000000 * (read - read) + 1000000000000 * 672 =
    (keeps.streams 1 (lit< tt) refl).within 0 2 (lit≤ tt) (lit< tt) in
    absurd (omega (arith, over))

not_served : ¬ IsServed own_three_rows (sender_at own_three 0) (travel_at own_before 0)
not_served served =
    let over : 29688000 ≤ 13836000 + 14632607 = (served 0 (lit< tt)).prompt.1.1.0 in
    absurd (omega arith)

pub bridge_back_may_babble : BridgeBackMayBabble
bridge_back_may_babble = record {
  certified = certified;
  babbles = babbles;
  not_served = not_served;
  next = λ legal keep.
      babbles legal ((keep 0 (lit< tt) refl).before 2 refl (record { within = lit< tt; bridge = refl }));
  held = record {
    legal = is_legal;
    keep = last_keep own_before is_legal
        (keeps_by own_three (releases_of own_before) (talker_of own_three 0) refl refl);
    there = refl;
    fits = lit≤ tt;
  };
  fits = fits;
}
