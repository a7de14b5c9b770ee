use Rattle.std.proofs.Common.{refl, arith}
use Rattle.ats_run_records.specs.Progress.{Progress, with_sent}
use Rattle.ats_run_records.specs.Track.{Along, hops_next}
use Rattle.ats_run_records.specs.declared.told.Told.TheVariants.{Sent}
use Rattle.ats_run_records.proofs.Briefs.{changed-track, length-legs}
use Rattle.ats_run_records.proofs.brief.BriefStore.send.Goals as goal

pub index_mut-requires : goal.index_mut-requires
index_mut-requires c = omega (arith, c.requires.row, length-legs c.self.invariant c.self.view_is)

pub returns : goal.returns
returns c =
    changed-track
    (λ (t : Along). record {
      leg = t.leg;
      room = t.room;
      hops = hops_next t.hops (Sent c.args.start c.args.end);
      ending = t.ending;
    })
    (λ (p : Progress). with_sent p c.args.start c.args.end) c.self.invariant c.self.view_is c.requires.row
    c.index_mut.ensures.value
    c.send.ensures (λ frame track. refl)
