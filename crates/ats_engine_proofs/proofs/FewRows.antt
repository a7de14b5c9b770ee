-- A run has no more rows than there may be hop records in all.
use Rattle.std.proofs.Common.{◌≡◌, ℕ, ◌<◌, ◌≤◌, List, length, map, get_or, All, ap, ◌∙◌, subst, arith}
use Rattle.std.proofs.lemmas.List.{length-map}
use Rattle.ats_network.specs.Network.{DeclaredNetwork, IsNetwork, senders_of}
use Rattle.ats_trace.specs.declared.journey.Release.{Release}
use Rattle.ats_trace.specs.declared.run.TheConstants.{MAX_HOPS}
use Rattle.ats_run_records.specs.Progress.{Progress, opened, progress_at}
use Rattle.ats_run_records.proofs.AllCounts.{is-opening}
use Rattle.ats_engine_steps.specs.Course.{Course}
use Rattle.ats_engine_steps.specs.Invariant.{IsShaped, opened_again}
use Rattle.ats_engine_proofs.proofs.Offering.{SendersAreKnown}
use Rattle.ats_engine_proofs.proofs.Rows.{firsts-are, frames-all, row-is, trunk-is}

pub rows-few : {T : Type 0} {network : DeclaredNetwork} {releases : List Release} {course : Course T}
    → IsNetwork network → IsShaped network releases course → SendersAreKnown network course
    → length course.records ≤ MAX_HOPS
rows-few {T} {network} {releases} {course} rules shape known =
    let all : length (map opened_again course.records) ≡ length (opened network releases).legs =
    ap (λ (ps : List Progress). length ps) shape.legs in
    let each : All (λ (r : Release). r.sender < length (senders_of network)) releases = λ frame d within. (
    let numbered : frame < length course.firsts = omega (arith, frames-all shape) in
    let row : frame < length course.records = omega (arith, (firsts-are shape).trunks) in
    let same : (progress_at course.records frame).release ≡ get_or releases frame d =
    (row-is shape frame row).released d
    ∙ ap (λ (n : ℕ). get_or releases n d) (trunk-is shape frame numbered).of_frame in
    subst (λ (r : Release). r.sender < length (senders_of network)) same (known frame row)) in
    omega (
      arith,
      all,
      length-map course.records opened_again,
      (is-opening network releases rules each shape.few_ports).few,
    )
