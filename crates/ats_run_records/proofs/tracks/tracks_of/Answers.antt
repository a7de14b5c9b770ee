use Rattle.std.proofs.Common.{◌∙◌, ◌++◌, List, ℕ, map, take, get_or, ap, sym, append_assoc, arith}
use Rattle.std.proofs.lemmas.List.{map-append, take_all}
use Rattle.ats_trace.specs.declared.journey.Release.{Release}
use Rattle.ats_run_records.specs.Brief.{begun, no_release}
use Rattle.ats_run_records.specs.Progress.{copies_of_frame, copies_opened, trunks_opened}
use Rattle.ats_run_records.specs.Track.{Along}
use Rattle.ats_run_records.proofs.AllCounts.{copies-more}
use Rattle.ats_run_records.proofs.Opens.{frame_of}
use Rattle.ats_run_records.proofs.tracks.tracks_of.Goals as goal

pub loop-frame-preserved : goal.loop-frame-preserved
loop-frame-preserved c =
    let network = c.args.net.now in
    let rs = c.args.releases.now in
    let i = c.loop-frame.frame in
    let trunks = map begun (trunks_opened network 0 rs) in
    let before = copies_opened network 0 (take i rs) in
    let copies = copies_of_frame network i (get_or rs i no_release) in
    let next = sym (copies-more network rs i no_release (omega arith)) in (
      c.in_ok-add_copies.ensures.begun
          ∙ ap (λ (legs : List Along). legs ++ map begun copies) c.loop-frame.invariant.0
          ∙ append_assoc trunks (map begun before) (map begun copies)
          ∙ ap (λ (legs : List Along). trunks ++ legs)
          (sym (map-append begun before copies) ∙ ap (map begun) next),
      c.in_ok-add_copies.ensures.frames
          ∙ ap (λ (frames : List ℕ). frames ++ map frame_of copies) c.loop-frame.invariant.1
          ∙ sym (map-append frame_of before copies)
          ∙ ap (map frame_of) next,
    )

pub returns : goal.returns
returns c =
    let network = c.args.net.now in
    let all = take_all c.loop-frame.frame c.args.releases.now (omega arith) in
    record {
      legs = c.loop-frame.invariant.0
          ∙ ap (λ (rs : List Release). map begun (trunks_opened network 0 c.args.releases.now)
          ++ map begun (copies_opened network 0 rs)) all;
      frames = c.loop-frame.invariant.1
          ∙ ap (λ (rs : List Release). map frame_of (copies_opened network 0 rs)) all;
    }
