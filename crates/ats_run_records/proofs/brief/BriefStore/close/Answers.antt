use Rattle.std.proofs.Common.{refl, arith}
use Rattle.ats_run_records.specs.Progress.{Progress, with_ending}
use Rattle.ats_run_records.specs.Track.{Along}
use Rattle.ats_run_records.proofs.Briefs.{changed-track, length-legs}
use Rattle.ats_run_records.proofs.brief.BriefStore.close.Goals as goal

pub index_mut-requires : goal.index_mut-requires
index_mut-requires c = omega (arith, c.requires, length-legs c.self.invariant c.self.view_is)

pub returns : goal.returns
returns c =
    changed-track (λ (t : Along). record { leg = t.leg; room = t.room; hops = t.hops; ending = c.args.ending })
    (λ (p : Progress). with_ending p c.args.ending) c.self.invariant c.self.view_is c.requires c.index_mut.ensures.value
    c.close.ensures (λ frame track. refl)
