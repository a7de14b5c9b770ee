use Rattle.ats_run_records.specs.declared.told.Told.TheVariants.{Sent}
use Rattle.ats_run_records.proofs.Telling.{along-told, kept-sent}
use Rattle.ats_run_records.proofs.track.Track.send.Goals as goal

pub invariant_of-self : goal.invariant_of-self
invariant_of-self c = kept-sent c.args.start c.args.end c.self.invariant c.and-self-inside.ensures

pub returns : goal.returns
returns c = along-told c.self.inside.told.items (Sent c.args.start c.args.end) c.self.view_is c.and-self-inside.ensures
