use Rattle.std.proofs.Common.{length, refl, ap, arith}
use Rattle.ats_run_records.specs.Progress.{Progress, with_hop}
use Rattle.ats_run_records.specs.Track.{Along, hops_next}
use Rattle.ats_run_records.specs.declared.told.Told.TheVariants.{Came}
use Rattle.ats_run_records.proofs.Briefs.{changed-track, length-legs, progress-is}
use Rattle.ats_run_records.proofs.brief.BriefStore.push.Goals as goal

pub index_mut-requires : goal.index_mut-requires
index_mut-requires c = omega (arith, c.requires.row, length-legs c.self.invariant c.self.view_is)

pub push-requires : goal.push-requires
push-requires c =
    let told = progress-is c.self.invariant c.self.view_is c.requires.row c.index_mut.ensures.value in
    omega (
      arith,
      c.requires.room,
      ap (λ (p : Progress). length p.hops) told,
      ap (λ (p : Progress). p.room) told,
    )

pub returns : goal.returns
returns c =
    changed-track
    (λ (t : Along).
    record { leg = t.leg; room = t.room; hops = hops_next t.hops (Came c.args.hop); ending = t.ending })
    (λ (p : Progress). with_hop p c.args.hop) c.self.invariant c.self.view_is c.requires.row c.index_mut.ensures.value
    c.push.ensures (λ frame track. refl)
