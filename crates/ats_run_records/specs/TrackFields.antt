-- How such a leg is kept.
use Rattle.std.specs.Prelude.{◌≡◌, ℕ, List, [], length}
use Rattle.ats_num.specs.declared.time.Ps.{Ps}
use Rattle.ats_group.specs.declared.verdict.Verdict.{Verdict}
use Rattle.ats_group.specs.declared.verdict.Verdict.TheVariants as verdict
use Rattle.ats_trace.specs.declared.journey.Ending.{Ending}
use Rattle.ats_run_records.specs.Track.{Along, hops_after, last_in}
use Rattle.ats_run_records.specs.declared.told.Told.{Told}
use Rattle.ats_run_records.specs.declared.track.Decision.{Decision}
use Rattle.ats_run_records.specs.declared.track.Decision.TheVariants.{Eligible, Late, Size}

-- the verdict of this kind, with this time
abbrev pub verdict_of : Decision → Ps → Verdict
verdict_of Eligible at = verdict.Eligible at
verdict_of Late at = verdict.Late at
verdict_of Size at = verdict.Size

-- what has happened along the leg when all of this was told
abbrev pub along_of : ℕ → ℕ → Ending → List Told → Along
along_of leg room ending told = record { leg = leg; room = room; hops = hops_after [] told; ending = ending }

-- the number of the records, and the last verdict, are those of what was told
pub record IsWhatIsTold (count : ℕ) (decision : Decision) (decided : Ps) (told : List Told) : Type 0 where
  pub counted : count ≡ length (hops_after [] told)
  pub last : verdict_of decision decided ≡ (last_in (hops_after [] told)).verdict
