-- A frame stands at a port along one leg alone.
use Rattle.std.proofs.Common.{◌≡◌, ℕ, ◌<◌, List, length, subst}
use Rattle.std.specs.Prelude.{Contains}
use Rattle.ats_network.specs.Network.{DeclaredNetwork, IsNetwork}
use Rattle.ats_trace.specs.HopRecord.{HopRecord}
use Rattle.ats_trace.specs.declared.journey.Release.{Release}
use Rattle.ats_run_records.specs.Progress.{Progress, progress_at}
use Rattle.ats_engine_steps.specs.Course.{Course, path_of, place_at, place_of}
use Rattle.ats_engine_steps.specs.Invariant.{IsShaped}
use Rattle.ats_engine_proofs.proofs.Placed.{IsStanding, stands-at_most}
use Rattle.ats_engine_proofs.proofs.Rows.{place-has, port-one}
use Rattle.ats_engine_proofs.proofs.Ways.{stands-some}

-- the port at which a frame stands is one of the leg
pub standing-has : {network : DeclaredNetwork} {Last : HopRecord → Type 0} {progress : Progress}
    → IsStanding network Last progress → Contains (path_of network progress) (place_of network progress)
standing-has {network} {Last} {progress} at =
    let path : List ℕ = path_of network progress in
    place-has network progress (stands-some Last path progress.hops at.stands)
    (stands-at_most Last path progress.hops at.stands)

-- so two rows of a frame, along whose legs it stands at one port, are one
pub standing-one : {T : Type 0} {network : DeclaredNetwork} {releases : List Release} {course : Course T}
    {Last Other : HopRecord → Type 0} → IsNetwork network → IsShaped network releases course → (row other port : ℕ)
    → row < length course.records → other < length course.records
    → IsStanding network Last (progress_at course.records row)
    → IsStanding network Other (progress_at course.records other)
    → (progress_at course.records row).frame ≡ (progress_at course.records other).frame
    → place_at network course row ≡ port → place_at network course other ≡ port → row ≡ other
standing-one {T} {network} {releases} {course} rules shape row other port within there at at_too frame place place_too =
    port-one rules shape row other port within there at.sender frame
    (subst (Contains (path_of network (progress_at course.records row))) place (standing-has at))
    (subst (Contains (path_of network (progress_at course.records other))) place_too (standing-has at_too))
