use Rattle.std.proofs.Common.{filter, ◌∙◌, arith}
use Rattle.std.specs.Prelude.{◌==◌}
use Rattle.std.proofs.lemmas.List.{length-map}
use Rattle.std.proofs.lemmas.List.Sums.{length-filter}
use Rattle.ats_trace.specs.Talker.{frame_of}
use Rattle.ats_trace.specs.declared.journey.Release.{Release}
use Rattle.ats_fit_law.specs.Laws.{FramesAreReleases}

-- What is measured of a sender counts each of its releases.

pub frames_are_releases : FramesAreReleases
frames_are_releases network releases measured i d are exists =
    let is = are.each i d (omega (arith, are.count)) in
    is.frames
    ∙ length-map (filter (λ (r : Release). r.sender == i) releases) frame_of
    ∙ length-filter (λ (r : Release). r.sender == i) releases
