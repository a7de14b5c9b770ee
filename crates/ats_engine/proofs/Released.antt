-- The releases of a run are those of its trunks.
use Rattle.std.proofs.Common.{◌≡◌, ℕ, ◌+◌, List, [], ◌∷◌, length, map, take, refl, sym, ap, ◌∙◌}
use Rattle.std.proofs.lemmas.List.{take-map}
use Rattle.std.proofs.lemmas.Simd.{map-map}
use Rattle.std.proofs.Math.Seq.{take-append_seam}
use Rattle.ats_network.specs.Network.{DeclaredNetwork}
use Rattle.ats_trace.specs.declared.journey.Release.{Release}
use Rattle.ats_run_records.specs.Progress.{Progress, copies_opened, opened, trunks_opened}
use Rattle.ats_run_records.proofs.AllCounts.{length-firsts, length-trunks}
use Rattle.ats_engine_steps.specs.Course.{Course}
use Rattle.ats_engine_steps.specs.Invariant.{IsShaped, opened_again}
use Rattle.ats_engine_proofs.proofs.Rows.{frames-all}

abbrev release_in : Progress → Release
release_in p = p.release

-- each trunk has its frame's release
trunks-released : (network : DeclaredNetwork) (frame : ℕ) (releases : List Release)
    → map release_in (trunks_opened network frame releases) ≡ releases
trunks-released network frame [] = refl
trunks-released network frame (r ∷ releases) =
    ap (λ (rs : List Release). r ∷ rs) (trunks-released network (frame + 1) releases)

-- the trunks are the first rows
pub trunks-first : (network : DeclaredNetwork) (releases : List Release)
    → take (length releases) (opened network releases).legs ≡ trunks_opened network 0 releases
trunks-first network releases =
    let trunks : List Progress = trunks_opened network 0 releases in
    ap (λ (n : ℕ). take n (opened network releases).legs) (sym (length-trunks network 0 releases))
    ∙ take-append_seam trunks (copies_opened network 0 releases)

pub released : {T : Type 0} {network : DeclaredNetwork} {releases : List Release} {course : Course T}
    → IsShaped network releases course
    → map (λ (p : Progress). p.release) (take (length course.firsts) course.records) ≡ releases
released {T} {network} {releases} {course} shape =
    let n : ℕ = length course.firsts in
    sym (take-map release_in n course.records)
    ∙ ap (take n) (sym (map-map release_in opened_again course.records) ∙ ap (map release_in) shape.legs)
    ∙ take-map release_in n (opened network releases).legs
    ∙ ap (λ (k : ℕ). map release_in (take k (opened network releases).legs)) (frames-all shape)
    ∙ ap (map release_in) (trunks-first network releases)
    ∙ trunks-released network 0 releases

-- so are those of records in which nothing has happened yet
pub released-opened : (network : DeclaredNetwork) (releases : List Release)
    → map release_in (take (length (opened network releases).firsts) (opened network releases).legs) ≡ releases
released-opened network releases =
    ap (λ (n : ℕ). map release_in (take n (opened network releases).legs))
    (length-firsts network (length releases) releases)
    ∙ ap (map release_in) (trunks-first network releases)
    ∙ trunks-released network 0 releases
