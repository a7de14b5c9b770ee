use Rattle.std.proofs.Common.{◌∙◌, ◌++◌, List, length, map, ap, arith, length-append}
use Rattle.ats_trace.specs.declared.journey.Release.{Release}
use Rattle.ats_run_records.specs.Brief.{begun}
use Rattle.ats_run_records.specs.Progress.{copies_opened, firsts_from, opened, trunks_opened}
use Rattle.ats_run_records.proofs.AllCounts.{length-trunks}
use Rattle.ats_run_records.proofs.BriefOpens.{kept-open, view-open-brief}
use Rattle.ats_run_records.proofs.Opens.{frame_of}
use Rattle.ats_run_records.proofs.brief.Brief.open.Goals as goal

pub tracks_of-requires-clause-count : goal.tracks_of-requires-clause-count
tracks_of-requires-clause-count c =
    let rs = c.args.releases.items in
    omega (
      arith,
      c.in_ok-firsts.ensures.rows,
      ap (λ (r : List Release). length (opened c.args.net.now r).legs) c.deref.ensures.value,
      ap (λ (r : List Release). length r) c.deref-2.ensures.value,
      length-append (trunks_opened c.args.net.now 0 rs) (copies_opened c.args.net.now 0 rs),
      length-trunks c.args.net.now 0 rs,
    )

pub invariant_of-result : goal.invariant_of-result
invariant_of-result c =
    let network = c.args.net.now in
    kept-open network c.args.releases.items _ _ _ c.topology-rules.ensures.rules c.requires.releases
    c.requires.few_ports
    (c.in_ok-firsts.ensures.firsts
    ∙ ap (λ (rs : List Release). firsts_from network (length rs) rs) c.deref.ensures.value)
    (c.in_ok-tracks.ensures.frames
    ∙ ap (λ (rs : List Release). map frame_of (copies_opened network 0 rs)) c.deref-2.ensures.value)
    (c.in_ok-tracks.ensures.legs
    ∙ ap (λ (rs : List Release). map begun (trunks_opened network 0 rs) ++ map begun (copies_opened network 0 rs))
    c.deref-2.ensures.value)

pub returns : goal.returns
returns c =
    let network = c.args.net.now in
    view-open-brief network c.args.releases.items _ _ _
    (c.in_ok-firsts.ensures.firsts
    ∙ ap (λ (rs : List Release). firsts_from network (length rs) rs) c.deref.ensures.value)
    (c.in_ok-tracks.ensures.frames
    ∙ ap (λ (rs : List Release). map frame_of (copies_opened network 0 rs)) c.deref-2.ensures.value)
    (c.in_ok-tracks.ensures.legs
    ∙ ap (λ (rs : List Release). map begun (trunks_opened network 0 rs) ++ map begun (copies_opened network 0 rs))
    c.deref-2.ensures.value)
