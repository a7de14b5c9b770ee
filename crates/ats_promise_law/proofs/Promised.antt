-- What the promises of commands come to.
use Rattle.std.proofs.Common.{ℕ, List, Option}
use Rattle.ats_group.specs.Judge.{bucket_rule}
use Rattle.ats_lrq.specs.Judge.{lrq_judge, spacing_rule}
use Rattle.ats_soundness_law.specs.Laws.{StationsPromise}
use Rattle.ats_soundness_law.specs.Runs.{Runs, ats_runs}
use Rattle.ats_soundness_law.proofs.TrueTime.{stations_promise_all}
use Rattle.ats_checker.specs.InTime.{StationsAreOnTime}
use Rattle.ats_checker.proofs.InTime.{stations_are_in_time}
use Rattle.ats_command_due.specs.Due.{told_bytes}
use Rattle.ats_command_due.specs.Soundness.{PromisesBy, lrq_runs}
use Rattle.ats_promise_law.specs.Laws.{PromisesAreKept, SomeAreDeclared}
use Rattle.ats_promise_law.proofs.Stations.{file_begins_at_stations}

-- what is promised of runs
promised : (runs : Runs) → StationsPromise runs → StationsAreOnTime runs → (told : List ℕ → Option (List ℕ))
    (net certificate text : List ℕ) → PromisesBy runs told net certificate text
    → SomeAreDeclared runs told net certificate text
promised runs promise on_time told net certificate text (network, rows, sound) = (
  network,
  rows,
  record {
    network_declared = sound.network_declared;
    rows_declared = sound.rows_declared;
    sound = sound.is_sound.sound;
    in_time = sound.is_sound.in_time;
    before = λ before.
        (let stations = file_begins_at_stations net (told_bytes told net) network sound.network_declared before in
        record {
          sound = (promise network rows stations).0 sound.is_sound.sound;
          in_time = (on_time network rows stations).0 sound.is_sound.in_time;
        });
    written = sound.is_sound.written;
  },
)

pub promises_are_kept : PromisesAreKept
promises_are_kept = record {
  check = λ told net certificate text promises is.
      promised ats_runs (stations_promise_all bucket_rule).by_buckets (stations_are_in_time bucket_rule).by_buckets
      told net certificate text (promises is);
  lrq_check = λ told net certificate text promises is.
      promised lrq_runs ((stations_promise_all spacing_rule).by_rule lrq_judge)
      ((stations_are_in_time spacing_rule).by_rule lrq_judge) told net certificate text (promises is);
}
