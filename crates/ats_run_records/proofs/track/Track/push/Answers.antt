use Rattle.std.proofs.Common.{◌≡◌, ◌∙◌, ap, sym}
use Rattle.ats_num.specs.declared.time.Ps.{Ps}
use Rattle.ats_group.specs.declared.verdict.Verdict.{Verdict}
use Rattle.ats_run_records.specs.TrackFields.{verdict_of}
use Rattle.ats_run_records.specs.declared.told.Told.TheVariants.{Came}
use Rattle.ats_run_records.specs.declared.track.Decision.{Decision}
use Rattle.ats_run_records.proofs.Telling.{along-told, kept-came}
use Rattle.ats_run_records.proofs.track.Track.push.Goals as goal
use Rattle.ats_run_records.proofs.track.Track.push.Goals.{in-Eligible, in-Late, in-Size}

pub invariant_of-self : goal.invariant_of-self
invariant_of-self c =
    let told : Decision × Ps → Verdict = λ (d : Decision × Ps). verdict_of d.0 d.1 in
    let says : told c.match-verdict.decision ≡ c.args.hop.verdict =
    elim c.match-verdict.branch [
      | in-Eligible w ↦ ap told w.decision-is ∙ sym w.in-Eligible.is ∙ c.verdict.ensures
      | in-Late w ↦ ap told w.decision-is ∙ sym w.in-Late.is ∙ c.verdict.ensures
      | in-Size w ↦ ap told w.decision-is ∙ sym w.in-Size.is ∙ c.verdict.ensures
    ] in
    kept-came c.args.hop c.self.invariant c.and-self-inside.ensures says

pub returns : goal.returns
returns c = along-told c.self.inside.told.items (Came c.args.hop) c.self.view_is c.and-self-inside.ensures
