use Rattle.std.specs.Prelude.{◌≡◌, ◌↔◌, ◌⊎◌, ℕ, List, ◌++◌, length, codes, decimal, Ok, Err}
use Rattle.ats_network.specs.Network.{DeclaredNetwork}
use Rattle.ats_settings.specs.Settings.{AreSettings}
use Rattle.ats_settings.specs.declared.setting.Setting.{Setting}
use Rattle.ats_settings_text.specs.Text.{settings_text}
use Rattle.ats_trace.specs.declared.journey.Release.{Release}
use Rattle.ats_schedule.specs.Text.{schedule_text}
use Rattle.ats_capture.specs.Traffic.{Traffic}
use Rattle.ats_conform.specs.Broken.{BreaksBucket, BreaksSize}
use Rattle.ats_conform.specs.Releases.{AllKeepBuckets}
use Rattle.ats_fit.specs.Measured.{AreMeasured}
use Rattle.ats_fit.specs.declared.measured.Measured.{Measured}
use Rattle.ats_fit_text.specs.Text.{fit_text}
use Rattle.ats_command_input.specs.Answer.{Answer}
use Rattle.ats_command_input.specs.Input.{network_in, releases_in, traffic_in}
use Rattle.ats_command_input.specs.Station.{station_in}
use Rattle.ats_command_input.specs.declared.status.Status.TheVariants.{Done}
use Rattle.ats_command_due.specs.Due.{IsConformAnswer, IsFitAnswer, IsSettingsAnswer, releases_answer}
use Rattle.ats_plain_answer_law.specs.Lines.{done_with, refused_for}

-- Which answers there are to each command that reads releases without running them, and to `settings`, case by case.

-- `conform NET SCHEDULE`: done with the number of releases where every node keeps its buckets, and refused with the
-- first frame by which one does not: for its size, or for its bucket, behind the frame from which on it exceeds that
-- most
pub record ConformIsAnswered : Type 0 where
  pub not_taken : (net schedule net_bytes schedule_bytes : List ℕ) (answer due : Answer)
      → network_in net net_bytes ≡ Err due
      → IsConformAnswer net schedule net_bytes schedule_bytes answer ↔ (answer ≡ due)
  pub no_releases : (net schedule net_bytes schedule_bytes : List ℕ) (network : DeclaredNetwork) (answer due : Answer)
      → network_in net net_bytes ≡ Ok network → releases_in network schedule schedule_bytes ≡ Err due
      → IsConformAnswer net schedule net_bytes schedule_bytes answer ↔ (answer ≡ due)
  pub judged : (net schedule net_bytes schedule_bytes : List ℕ) (network : DeclaredNetwork) (releases : List Release)
      (answer : Answer) → network_in net net_bytes ≡ Ok network
      → releases_in network schedule schedule_bytes ≡ Ok releases
      → IsConformAnswer net schedule net_bytes schedule_bytes answer
      ↔ ((AllKeepBuckets network releases
      × (answer ≡ done_with (codes "conforms " ++ decimal (length releases) ++ codes "\n")))
      ⊎ (((frame : ℕ) × BreaksSize network releases frame
      × (answer ≡ refused_for (codes "size " ++ decimal frame)))
      ⊎ ((since : ℕ) × (frame : ℕ) × BreaksBucket network releases since frame
      × (answer ≡ refused_for (codes "bucket " ++ decimal since ++ codes " " ++ decimal frame)))))

-- `fit NET SCHEDULE`: what is measured of the releases, whatever they need
pub record FitIsAnswered : Type 0 where
  pub not_taken : (net schedule net_bytes schedule_bytes : List ℕ) (answer due : Answer)
      → network_in net net_bytes ≡ Err due
      → IsFitAnswer net schedule net_bytes schedule_bytes answer ↔ (answer ≡ due)
  pub no_releases : (net schedule net_bytes schedule_bytes : List ℕ) (network : DeclaredNetwork) (answer due : Answer)
      → network_in net net_bytes ≡ Ok network → releases_in network schedule schedule_bytes ≡ Err due
      → IsFitAnswer net schedule net_bytes schedule_bytes answer ↔ (answer ≡ due)
  pub done : (net schedule net_bytes schedule_bytes : List ℕ) (network : DeclaredNetwork) (releases : List Release)
      (answer : Answer) → network_in net net_bytes ≡ Ok network
      → releases_in network schedule schedule_bytes ≡ Ok releases
      → IsFitAnswer net schedule net_bytes schedule_bytes answer
      ↔ ((measured : List Measured) × (answer.status ≡ Done) × AreMeasured network releases measured
      × (answer.text ≡ fit_text network releases measured))

-- `releases NET STATION FILE`: the schedule of what `capture` runs
pub record ReleasesAreAnswered : Type 0 where
  pub not_taken : (net station file net_bytes file_bytes : List ℕ) (due : Answer) → network_in net net_bytes ≡ Err due
      → releases_answer net station file net_bytes file_bytes ≡ due
  pub no_station : (net station file net_bytes file_bytes : List ℕ) (network : DeclaredNetwork) (due : Answer)
      → network_in net net_bytes ≡ Ok network → station_in network.topology station ≡ Err due
      → releases_answer net station file net_bytes file_bytes ≡ due
  pub no_traffic : (net station file net_bytes file_bytes : List ℕ) (network : DeclaredNetwork) (place : ℕ)
      (due : Answer) → network_in net net_bytes ≡ Ok network → station_in network.topology station ≡ Ok place
      → traffic_in network place file file_bytes ≡ Err due
      → releases_answer net station file net_bytes file_bytes ≡ due
  pub done : (net station file net_bytes file_bytes : List ℕ) (network : DeclaredNetwork) (place : ℕ)
      (traffic : Traffic) → network_in net net_bytes ≡ Ok network → station_in network.topology station ≡ Ok place
      → traffic_in network place file file_bytes ≡ Ok traffic
      → releases_answer net station file net_bytes file_bytes ≡ done_with (schedule_text network traffic.releases)

-- `settings NET`: what to set in each bridge, never refused
pub record SettingsAreAnswered : Type 0 where
  pub not_taken : (net bytes : List ℕ) (answer due : Answer) → network_in net bytes ≡ Err due
      → IsSettingsAnswer net bytes answer ↔ (answer ≡ due)
  pub done : (net bytes : List ℕ) (network : DeclaredNetwork) (answer : Answer) → network_in net bytes ≡ Ok network
      → IsSettingsAnswer net bytes answer
      ↔ ((settings : List Setting) × AreSettings network settings
      × (answer ≡ done_with (settings_text network settings)))

pub record JudgingIsAnswered : Type 0 where
  pub conform : ConformIsAnswered
  pub fit : FitIsAnswered
  pub releases : ReleasesAreAnswered
  pub settings : SettingsAreAnswered
