use Rattle.std.proofs.Common.{[], ◌∷◌, ◌++◌, ◌∙◌, List, ap, sym, map, take, get_or, arith}
use Rattle.std.proofs.lemmas.List.{map-append}
use Rattle.ats_run_records.specs.Brief.{begun, no_release}
use Rattle.ats_run_records.specs.Progress.{leg_opened, trunks_opened}
use Rattle.ats_run_records.specs.Track.{Along}
use Rattle.ats_run_records.proofs.AllCounts.{trunks-more}
use Rattle.ats_run_records.proofs.tracks.trunks_of.Goals as goal

pub loop-release-preserved : goal.loop-release-preserved
loop-release-preserved c =
    let network = c.args.net.now in
    let rs = c.args.releases.now in
    let i = c.loop-release.release-index in
    let trunk = leg_opened network i (get_or rs i no_release) 0 in
    c.in_ok-push.ensures.items
    ∙ ap (λ (legs : List Along). legs ++ c.track_of.result ∷ []) c.loop-release.invariant
    ∙ ap (λ (leg : Along). map begun (trunks_opened network 0 (take i rs)) ++ leg ∷ []) c.track_of.ensures
    ∙ sym (map-append begun (trunks_opened network 0 (take i rs)) (trunk ∷ []))
    ∙ ap (map begun) (sym (trunks-more network rs i no_release (omega arith)))
