-- Where records of which no more is kept than a run goes by begin.
use Rattle.std.proofs.Common.{◌≡◌, ℕ, suc, ◌+◌, ◌<◌, ◌≤◌, List, [], ◌∷◌, ◌++◌, length, map, get_or, All}
use Rattle.std.proofs.Common.{refl, sym, ap, subst, ◌∙◌, arith, length-append}
use Rattle.std.specs.List.{range_with_len, zip}
use Rattle.std.proofs.lemmas.List.{length-map, map-append}
use Rattle.std.proofs.lemmas.List.Elements.{All-append, All-cons, All-head, All-map, All-nil, All-tail}
use Rattle.ats_network.specs.Network.{DeclaredNetwork, IsNetwork}
use Rattle.ats_trace.specs.Releases.{AreReleases, HaveFewPorts}
use Rattle.ats_trace.specs.Stored.{AreFirsts}
use Rattle.ats_trace.specs.declared.journey.Release.{Release}
use Rattle.ats_run_records.specs.Brief.{AreKept, begun, frames_of, ledger_of, no_release, progress_by}
use Rattle.ats_run_records.specs.Progress.{Progress, copies_count, copies_of_frame, copies_opened, firsts_from}
use Rattle.ats_run_records.specs.Progress.{leg_opened, opened, trunks_opened, unmoved}
use Rattle.ats_run_records.specs.Track.{Along}
use Rattle.ats_run_records.proofs.AllCounts.{are-firsts, have-senders, is-opening, length-firsts, length-trunks}
use Rattle.ats_run_records.proofs.Opens.{frame_of}

-- what is told of a leg among frames with these releases is the leg
abbrev IsToldOf : List Release → Progress → Type 0
IsToldOf releases leg = progress_by releases (leg.frame, begun leg) ≡ leg

told-again : (releases : List Release) (legs : List Progress) → All (IsToldOf releases) legs
    → map (progress_by releases) (zip (map frame_of legs) (map begun legs)) ≡ legs
told-again releases [] each = refl
told-again releases (l ∷ legs) each =
    ap (λ (p : Progress). p ∷ map (progress_by releases) (zip (map frame_of legs) (map begun legs)))
    (All-head (IsToldOf releases) l legs each)
    ∙ ap (λ (ps : List Progress). l ∷ ps) (told-again releases legs (All-tail (IsToldOf releases) l legs each))

-- the releases of frames from a number on are those of all
abbrev AreFrom : List Release → ℕ → List Release → Type 0
AreFrom all frame releases =
    (i : ℕ) → i < length releases → get_or all (frame + i) no_release ≡ get_or releases i no_release

from-head : (all : List Release) (frame : ℕ) (r : Release) (releases : List Release)
    → AreFrom all frame (r ∷ releases) → get_or all frame no_release ≡ r
from-head all frame r releases from =
    let here : frame ≡ frame + 0 = omega arith in
    ap (λ (n : ℕ). get_or all n no_release) here ∙ from 0 (omega arith)

from-tail : (all : List Release) (frame : ℕ) (r : Release) (releases : List Release)
    → AreFrom all frame (r ∷ releases) → AreFrom all (frame + 1) releases
from-tail all frame r releases from i within =
    let next : frame + 1 + i ≡ frame + suc i = omega arith in
    ap (λ (n : ℕ). get_or all n no_release) next ∙ from (suc i) (omega arith)

leg-told : (network : DeclaredNetwork) (all : List Release) (frame : ℕ) (r : Release) (leg : ℕ)
    → get_or all frame no_release ≡ r → IsToldOf all (leg_opened network frame r leg)
leg-told network all frame r leg is =
    ap (λ (x : Release). unmoved frame leg x (leg_opened network frame r leg).room) is

trunks-told : (network : DeclaredNetwork) (all : List Release) (frame : ℕ) (releases : List Release)
    → AreFrom all frame releases → All (IsToldOf all) (trunks_opened network frame releases)
trunks-told network all frame [] from = All-nil (IsToldOf all)
trunks-told network all frame (r ∷ releases) from =
    All-cons (IsToldOf all) (leg_opened network frame r 0) (trunks_opened network (frame + 1) releases)
    (leg-told network all frame r 0 (from-head all frame r releases from))
    (trunks-told network all (frame + 1) releases (from-tail all frame r releases from))

copies-told : (network : DeclaredNetwork) (all : List Release) (frame : ℕ) (releases : List Release)
    → AreFrom all frame releases → All (IsToldOf all) (copies_opened network frame releases)
copies-told network all frame [] from = All-nil (IsToldOf all)
copies-told network all frame (r ∷ releases) from =
    All-append (IsToldOf all) (copies_of_frame network frame r) (copies_opened network (frame + 1) releases)
    (All-map (IsToldOf all) (leg_opened network frame r) (range_with_len 1 (copies_count network r))
    (λ i d h. leg-told network all frame r _ (from-head all frame r releases from)))
    (copies-told network all (frame + 1) releases (from-tail all frame r releases from))

-- the trunks are numbered as their frames
trunks-numbered : (network : DeclaredNetwork) (frame : ℕ) (releases : List Release)
    → map frame_of (trunks_opened network frame releases) ≡ range_with_len frame (length releases)
trunks-numbered network frame [] = refl
trunks-numbered network frame (r ∷ releases) =
    ap (λ (frames : List ℕ). frame ∷ frames) (trunks-numbered network (frame + 1) releases)

-- and the copies are of the frames
copies-within : (network : DeclaredNetwork) (most frame : ℕ) (releases : List Release)
    → frame + length releases ≤ most
    → All (λ (n : ℕ). n < most) (map frame_of (copies_opened network frame releases))
copies-within network most frame releases few =
    All-map (λ (n : ℕ). n < most) frame_of (copies_opened network frame releases) (legs-within frame releases few)
  where
    legs-within : (frame : ℕ) (releases : List Release) → frame + length releases ≤ most
        → All (λ (leg : Progress). leg.frame < most) (copies_opened network frame releases)
    legs-within frame [] few = All-nil (λ (leg : Progress). leg.frame < most)
    legs-within frame (r ∷ releases) few =
        All-append (λ (leg : Progress). leg.frame < most) (copies_of_frame network frame r)
        (copies_opened network (frame + 1) releases)
        (All-map (λ (leg : Progress). leg.frame < most) (leg_opened network frame r)
        (range_with_len 1 (copies_count network r)) (λ i d h. omega arith))
        (legs-within (frame + 1) releases (omega arith))

-- so what is made of them, laid one behind another, are records that are kept so
pub kept-open : (network : DeclaredNetwork) (rs : List Release) (firsts copies : List ℕ) (tracks : List Along)
    → IsNetwork network → AreReleases network rs → HaveFewPorts network rs
    → firsts ≡ firsts_from network (length rs) rs → copies ≡ map frame_of (copies_opened network 0 rs)
    → tracks ≡ map begun (trunks_opened network 0 rs) ++ map begun (copies_opened network 0 rs)
    → AreKept rs firsts copies tracks
kept-open network rs firsts copies tracks rules are few placed framed begins =
    let trunks : List Progress = trunks_opened network 0 rs in
    let others : List Progress = copies_opened network 0 rs in
    let opening = is-opening network rs rules (have-senders network rs are.each) few in
    let all : length tracks ≡ length (opened network rs).legs =
    omega (
      arith,
      ap (λ (ts : List Along). length ts) begins,
      length-append (map begun trunks) (map begun others),
      length-map trunks begun,
      length-map others begun,
      length-append trunks others,
    ) in
    let numbered : length firsts ≡ length rs =
    ap (λ (ns : List ℕ). length ns) placed ∙ length-firsts network (length rs) rs in
    record {
      few = are.few;
      few_legs = omega (arith, all, opening.few);
      framed = omega (
        arith,
        all,
        ap (λ (ns : List ℕ). length ns) framed,
        length-map others frame_of,
        length-trunks network 0 rs,
        length-append trunks others,
      );
      frames = subst (All (λ (n : ℕ). n < length rs)) (sym framed)
          (copies-within network (length rs) 0 rs (omega arith));
      numbered = numbered;
      copied = subst (λ (n : ℕ). AreFirsts (length firsts) n firsts) (sym all)
          (subst (λ (ns : List ℕ). AreFirsts (length ns) (length (opened network rs).legs) ns) (sym placed)
          (are-firsts network rs));
    }

pub view-open-brief : (network : DeclaredNetwork) (rs : List Release) (firsts copies : List ℕ) (tracks : List Along)
    → firsts ≡ firsts_from network (length rs) rs → copies ≡ map frame_of (copies_opened network 0 rs)
    → tracks ≡ map begun (trunks_opened network 0 rs) ++ map begun (copies_opened network 0 rs)
    → ledger_of rs firsts copies tracks ≡ opened network rs
view-open-brief network rs firsts copies tracks placed framed begins =
    let trunks : List Progress = trunks_opened network 0 rs in
    let others : List Progress = copies_opened network 0 rs in
    let legs : List Progress = trunks ++ others in
    let by : ℕ × Along → Progress = progress_by rs in
    let from : AreFrom rs 0 rs =
    λ (i : ℕ) (h : i < length rs). ap (λ (n : ℕ). get_or rs n no_release) (omega arith) in
    let frames : frames_of (length rs) copies ≡ map frame_of legs =
    ap (λ (ns : List ℕ). range_with_len 0 (length rs) ++ ns) framed
    ∙ ap (λ (ns : List ℕ). ns ++ map frame_of others) (sym (trunks-numbered network 0 rs))
    ∙ sym (map-append frame_of trunks others) in
    let tracked : tracks ≡ map begun legs = begins ∙ sym (map-append begun trunks others) in
    ap (λ (ns : List ℕ). record { legs = map by (zip ns tracks); firsts = firsts }) frames
    ∙ ap (λ (ts : List Along). record { legs = map by (zip (map frame_of legs) ts); firsts = firsts }) tracked
    ∙ ap (λ (ls : List Progress). record { legs = ls; firsts = firsts })
    (told-again rs legs (All-append (IsToldOf rs) trunks others (trunks-told network rs 0 rs from)
    (copies-told network rs 0 rs from)))
    ∙ ap (λ (ns : List ℕ). record { legs = legs; firsts = ns }) placed
