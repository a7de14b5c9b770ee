use Rattle.std.proofs.Common.{◌≡◌, ◌⊎◌, inl, inr, ℕ, List, Ok, Err, ap}
use Rattle.std.specs.Prelude.{◌++◌, Result, codes, decimal, length}
use Rattle.ats_network.specs.Network.{DeclaredNetwork}
use Rattle.ats_trace.specs.declared.journey.Release.{Release}
use Rattle.ats_conform.specs.Broken.{BreaksBucket, BreaksSize}
use Rattle.ats_conform.specs.Releases.{AllKeepBuckets}
use Rattle.ats_conform.specs.declared.broken.Broken.TheVariants.{Bucket, Size}
use Rattle.ats_command_input.specs.Answer.{Answer}
use Rattle.ats_command_input.specs.Input.{network_in}
use Rattle.ats_command_due.specs.Captured.{Captured}
use Rattle.ats_command_due.specs.Conformed.{IsAnswerTo, JudgesReleases, JudgesScheduled}
use Rattle.ats_command_due.specs.Due.{releases_answer}
use Rattle.ats_command_due.specs.Fitted.{IsFitted}
use Rattle.ats_command_due.specs.Released.{released_in, released_text}
use Rattle.ats_command_due.specs.Replayed.{IsOneOf, Scheduled, scheduled_in}
use Rattle.ats_command_due.specs.Set.{TellsSettings}
use Rattle.ats_plain_answer_law.specs.Lines.{done_with, refused_for}
use Rattle.ats_plain_answer_law.specs.Judged.{ConformIsAnswered, FitIsAnswered, JudgingIsAnswered, ReleasesAreAnswered}
use Rattle.ats_plain_answer_law.specs.Judged.{SettingsAreAnswered}
use Rattle.ats_plain_answer_law.proofs.Reading.{captured_is, scheduled_is, uncaptured, unjoined, unreleased}
use Rattle.ats_plain_answer_law.proofs.Reading.{unscheduled, unstationed}
use Rattle.ats_plain_answer_law.proofs.Stepping.{alike, by_value, through}

-- Which answers there are to commands that read releases without running them, and to `settings`.

-- done where all keep their buckets, and refused for a frame of another size, or for one over its bucket
abbrev IsByFrame : DeclaredNetwork → List Release → Answer → Type 0
IsByFrame network releases answer =
    (AllKeepBuckets network releases
    × (answer ≡ done_with (codes "conforms " ++ decimal (length releases) ++ codes "\n")))
    ⊎ (((frame : ℕ) × BreaksSize network releases frame
    × (answer ≡ refused_for (codes "size " ++ decimal frame)))
    ⊎ ((since : ℕ) × (frame : ℕ) × BreaksBucket network releases since frame
    × (answer ≡ refused_for (codes "bucket " ++ decimal since ++ codes " " ++ decimal frame))))

by_frame : (network : DeclaredNetwork) (releases : List Release) (answer : Answer)
    → JudgesReleases network releases answer → IsByFrame network releases answer
by_frame network releases answer (inl is) = inl (is.keeps, is.done)
by_frame network releases answer (inr (Size frame, is)) = inr (inl (frame, is.breaks, is.refused))
by_frame network releases answer (inr (Bucket since frame, is)) = inr (inr (since, frame, is.breaks, is.refused))

by_broken : (network : DeclaredNetwork) (releases : List Release) (answer : Answer)
    → IsByFrame network releases answer → JudgesReleases network releases answer
by_broken network releases answer (inl is) = inl (record { keeps = is.0; done = is.1 })
by_broken network releases answer (inr (inl is)) = inr (Size is.0, record { breaks = is.1; refused = is.2 })
by_broken network releases answer (inr (inr is)) = inr (Bucket is.0 is.1, record { breaks = is.2; refused = is.3 })

conform : ConformIsAnswered
conform = record {
  not_taken = λ net schedule net_bytes bytes answer due is.
      alike (λ (d : Result Scheduled Answer). IsAnswerTo JudgesScheduled d answer)
      (scheduled_in net schedule net_bytes bytes) (Err due) (unscheduled net schedule net_bytes bytes due is);
  no_releases = λ net schedule net_bytes bytes network answer due is none.
      alike (λ (d : Result Scheduled Answer). IsAnswerTo JudgesScheduled d answer)
      (scheduled_in net schedule net_bytes bytes) (Err due)
      (unreleased net schedule net_bytes bytes network due is none);
  judged = λ net schedule net_bytes bytes network releases answer is are.
      through (λ (d : Result Scheduled Answer). IsAnswerTo JudgesScheduled d answer)
      (scheduled_in net schedule net_bytes bytes) (Ok (record { network = network; releases = releases }))
      (scheduled_is net schedule net_bytes bytes network releases is are)
      (by_frame network releases answer) (by_broken network releases answer);
}

fit : FitIsAnswered
fit = record {
  not_taken = λ net schedule net_bytes bytes answer due is.
      alike (λ (d : Result Scheduled Answer). IsOneOf IsFitted d answer)
      (scheduled_in net schedule net_bytes bytes) (Err due) (unscheduled net schedule net_bytes bytes due is);
  no_releases = λ net schedule net_bytes bytes network answer due is none.
      alike (λ (d : Result Scheduled Answer). IsOneOf IsFitted d answer)
      (scheduled_in net schedule net_bytes bytes) (Err due)
      (unreleased net schedule net_bytes bytes network due is none);
  done = λ net schedule net_bytes bytes network releases answer is are.
      through (λ (d : Result Scheduled Answer). IsOneOf IsFitted d answer)
      (scheduled_in net schedule net_bytes bytes) (Ok (record { network = network; releases = releases }))
      (scheduled_is net schedule net_bytes bytes network releases is are)
      (λ h. (h.1.measured, h.0, h.1.are, h.1.printed))
      (λ h. (h.1, record { measured = h.0; are = h.2; printed = h.3 }));
}

abbrev released : Captured → Result (List ℕ) Answer
released captured = Ok (released_text captured.network captured.traffic)

releases : ReleasesAreAnswered
unfolding releases_answer released_in
releases = record {
  not_taken = λ net station file net_bytes bytes due is.
      ap (by_value released) (uncaptured net station file net_bytes bytes due is);
  no_station = λ net station file net_bytes bytes network due is none.
      ap (by_value released) (unstationed net station file net_bytes bytes network due is none);
  no_traffic = λ net station file net_bytes bytes network place due is named none.
      ap (by_value released) (unjoined net station file net_bytes bytes network place due is named none);
  done = λ net station file net_bytes bytes network place traffic is named joined.
      ap (by_value released) (captured_is net station file net_bytes bytes network place traffic is named joined);
}

settings : SettingsAreAnswered
settings = record {
  not_taken = λ net bytes answer due is.
      alike (λ (d : Result DeclaredNetwork Answer). IsAnswerTo TellsSettings d answer) (network_in net bytes)
      (Err due) is;
  done = λ net bytes network answer is.
      through (λ (d : Result DeclaredNetwork Answer). IsAnswerTo TellsSettings d answer) (network_in net bytes)
      (Ok network) is
      (λ h. (h.0, h.1.are, h.1.done))
      (λ h. (h.0, record { are = h.1; done = h.2 }));
}

pub judging_is_answered : JudgingIsAnswered
judging_is_answered = record {
  conform = conform;
  fit = fit;
  releases = releases;
  settings = settings;
}
