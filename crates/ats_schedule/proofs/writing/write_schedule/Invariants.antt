use Rattle.std.proofs.Common.{◌≡◌, take}
use Rattle.ats_schedule.specs.Text.{schedule_text}
use Rattle.ats_schedule.proofs.writing.write_schedule.Given as goal

abbrev pub invariant-loop-release : goal.invariant-loop-release
invariant-loop-release l = l.out.items ≡ schedule_text l.network (take l.release-index l.releases)
