-- What answers to `fit` there are.
use Rattle.std.proofs.Common.{◌≡◌, ℕ, zero, suc, ◌+◌, ◌<◌, ◌≤◌, List, [], ◌∷◌, length, map, get_or, Option, Some, None}
use Rattle.std.proofs.Common.{Result, Ok, Err, refl, ap, subst, inl, inr, ◌∙◌, arith, lit<}
use Rattle.std.specs.Prelude.{Contains, IfOk, filter, ◌==◌}
use Rattle.std.specs.List.{All}
use Rattle.std.specs.List.Sorted.{IsNonDecreasing, IsNonDecreasingBy}
use Rattle.std.proofs.lemmas.Bool.{cases_lt}
use Rattle.std.proofs.lemmas.List.{get_or-map, length-map}
use Rattle.std.proofs.lemmas.List.Elements.{All-cons, All-nil, All-weaker}
use Rattle.std.proofs.lemmas.List.Kept.{IsNonDecreasingBy-filter}
use Rattle.ats_bucket.specs.Conforming.{Frame, times_of}
use Rattle.ats_network.specs.Network.{DeclaredNetwork, senders_of}
use Rattle.ats_trace.specs.Eligibility.{declared_by}
use Rattle.ats_trace.specs.Releases.{AreReleases}
use Rattle.ats_trace.specs.Talker.{frame_of, frames_of}
use Rattle.ats_trace.specs.declared.journey.Release.{Release}
use Rattle.ats_fit.specs.Laws.{LeastBurstExists, MeasuredIsOne}
use Rattle.ats_fit.specs.Measured.{AreMeasured, AreSizesOf, IsBurstOf, IsMeasured, octets_of}
use Rattle.ats_fit.specs.declared.measured.Measured.{Measured}
use Rattle.ats_fit.specs.declared.measured.Sizes.{Sizes}
use Rattle.ats_fit_text.specs.Text.{fit_text}
use Rattle.ats_command_input.specs.Answer.{Answer}
use Rattle.ats_command_input.specs.declared.status.Status.TheVariants as status
use Rattle.ats_command_due.specs.Fitted.{IsFitted}
use Rattle.ats_command_due.specs.Replayed.{IsOneOf, Scheduled}

-- a number of a list is one with another in front
behind : (x n : ℕ) (xs : List ℕ) → Contains xs n → Contains (x ∷ xs) n
behind x n xs c = (suc c.0, omega (arith, c.1), c.2)

-- some number of a list is the least
abbrev HasLeast : List ℕ → Type 0
HasLeast xs = (least : ℕ) × Contains xs least × All (λ n. least ≤ n) xs

has_least : (x : ℕ) (xs : List ℕ) → HasLeast (x ∷ xs)
has_least x [] = (x, (0, lit< tt, refl), All-cons (λ n. x ≤ n) x [] (omega arith) (All-nil (λ n. x ≤ n)))
has_least x (y ∷ ys) =
    let rest : HasLeast (y ∷ ys) = has_least y ys in
    elim (cases_lt rest.0 x) as (λ _. HasLeast (x ∷ y ∷ ys)) [
      | inl less ↦ (
        rest.0,
        behind x rest.0 (y ∷ ys) rest.1,
        All-cons (λ n. rest.0 ≤ n) x (y ∷ ys) (omega (arith, less)) rest.2,
      )
      | inr least ↦ (
        x,
        (0, omega arith, refl),
        All-cons (λ n. x ≤ n) x (y ∷ ys) (omega arith)
            (All-weaker (λ n. rest.0 ≤ n) (λ n. x ≤ n) (λ n h. omega (arith, least, h)) (y ∷ ys) rest.2),
      )
    ]

-- and some the greatest
abbrev HasGreatest : List ℕ → Type 0
HasGreatest xs = (greatest : ℕ) × Contains xs greatest × All (λ n. n ≤ greatest) xs

has_greatest : (x : ℕ) (xs : List ℕ) → HasGreatest (x ∷ xs)
has_greatest x [] = (x, (0, lit< tt, refl), All-cons (λ n. n ≤ x) x [] (omega arith) (All-nil (λ n. n ≤ x)))
has_greatest x (y ∷ ys) =
    let rest : HasGreatest (y ∷ ys) = has_greatest y ys in
    elim (cases_lt x rest.0) as (λ _. HasGreatest (x ∷ y ∷ ys)) [
      | inl less ↦ (
        rest.0,
        behind x rest.0 (y ∷ ys) rest.1,
        All-cons (λ n. n ≤ rest.0) x (y ∷ ys) (omega (arith, less)) rest.2,
      )
      | inr greatest ↦ (
        x,
        (0, omega arith, refl),
        All-cons (λ n. n ≤ x) x (y ∷ ys) (omega arith)
            (All-weaker (λ n. n ≤ rest.0) (λ n. n ≤ x) (λ n h. omega (arith, greatest, h)) (y ∷ ys) rest.2),
      )
    ]

sizes_of : (octets : List ℕ) → (sizes : Option Sizes) × AreSizesOf octets sizes
sizes_of [] = (None, refl)
sizes_of (x ∷ xs) =
    let low = has_least x xs in
    let high = has_greatest x xs in (
      Some (record { least = low.0; greatest = high.0 }),
      record { least = low.1; none_less = low.2; greatest = high.1; none_greater = high.2 },
    )

-- the frames of a sender come in the order of their times
abbrev sent_by : ℕ → List Release → List Release
sent_by i releases = filter (λ (r : Release). r.sender == i) releases

times_ascend : (rs : List Release) → IsNonDecreasingBy (λ (r : Release). r.at.0) rs
    → IsNonDecreasing (times_of (map frame_of rs))
times_ascend rs sorted i j d before within =
    let none : Release = record { at = record { 0 = 0 }; sender = 0; octets = 0 } in
    let frame : Frame = frame_of none in
    let times : length (times_of (map frame_of rs)) ≡ length (map frame_of rs) =
    length-map (map frame_of rs) (λ (f : Frame). f.at) in
    let many : length (map frame_of rs) ≡ length rs = length-map rs frame_of in
    let at_i = get_or-map (λ (f : Frame). f.at) (map frame_of rs) i frame d (omega (arith, times, before, within))
    ∙ ap (λ (f : Frame). f.at) (get_or-map frame_of rs i none frame (omega (arith, times, many, before, within))) in
    let at_j = get_or-map (λ (f : Frame). f.at) (map frame_of rs) j frame d (omega (arith, times, within))
    ∙ ap (λ (f : Frame). f.at) (get_or-map frame_of rs j none frame (omega (arith, times, many, within))) in
    rw (at_i, at_j) (sorted i j none before (omega (arith, times, many, within)))

by_time : (rs : List Release) → IsNonDecreasing (map (λ (r : Release). r.at.0) rs)
    → IsNonDecreasingBy (λ (r : Release). r.at.0) rs
by_time rs sorted i j d before within =
    let at : Release → ℕ = λ r. r.at.0 in
    let many : length (map at rs) ≡ length rs = length-map rs at in
    let at_i = get_or-map at rs i d 0 (omega (arith, before, within)) in
    let at_j = get_or-map at rs j d 0 within in
    let le = sorted i j 0 before (omega (arith, many, within)) in
    omega (arith, at_i, at_j, le)

frames_ascend : (network : DeclaredNetwork) (releases : List Release) (i : ℕ) → AreReleases network releases
    → IsNonDecreasing (times_of (frames_of i releases))
frames_ascend network releases i may =
    times_ascend (sent_by i releases)
    (IsNonDecreasingBy-filter (λ (r : Release). r.at.0) (λ (r : Release). r.sender == i) releases
    (by_time releases may.in_order))

-- something is measured of each sender
burst_of : LeastBurstExists → (network : DeclaredNetwork) (releases : List Release) (i : ℕ)
    → AreReleases network releases → (burst : Option ℕ) × IsBurstOf network releases i burst
burst_of has_burst network releases i may =
    elim (cases_lt i (length network.streams)) as (λ _. (burst : Option ℕ) × IsBurstOf network releases i burst) [
      | inl stream ↦ (let least = has_burst (declared_by network i).rate (frames_of i releases)
          (frames_ascend network releases i may) in (Some least.0, (stream, least.1)))
      | inr flow ↦ (None, flow)
    ]

abbrev MeasuredAt : DeclaredNetwork → List Release → ℕ → Type 0
MeasuredAt network releases i = (measured : Measured) × IsMeasured network releases i measured

one_measured : LeastBurstExists → (network : DeclaredNetwork) (releases : List Release)
    → AreReleases network releases → (i : ℕ) → MeasuredAt network releases i
one_measured has_burst network releases may i =
    let sizes = sizes_of (octets_of i releases) in
    let burst = burst_of has_burst network releases i may in (
      record { frames = length (frames_of i releases); sizes = sizes.0; burst_bits = burst.0 },
      record { frames = refl; sizes = sizes.1; burst = burst.1 },
    )

-- from one number on, so many
record AreMeasuredFrom (network : DeclaredNetwork) (releases : List Release) (first many : ℕ)
    (measured : List Measured) : Type 0 where
  count : length measured ≡ many
  each : (k : ℕ) (d : Measured) → k < many → IsMeasured network releases (first + k) (get_or measured k d)

all_from : (network : DeclaredNetwork) (releases : List Release) → ((i : ℕ) → MeasuredAt network releases i)
    → (first many : ℕ) → (measured : List Measured) × AreMeasuredFrom network releases first many measured
all_from network releases one first zero = ([], record { count = refl; each = λ k d h. absurd (omega (arith, h)) })
all_from network releases one first (suc many) =
    let at = one first in
    let rest = all_from network releases one (first + 1) many in
    let measured : List Measured = at.0 ∷ rest.0 in
    (measured, record { count = ap suc rest.1.count; each = each at.0 at.1 rest.0 rest.1 })
  where
    each : (m : Measured) → IsMeasured network releases first m → (ms : List Measured)
        → AreMeasuredFrom network releases (first + 1) many ms → (k : ℕ) (d : Measured) → k < suc many
        → IsMeasured network releases (first + k) (get_or (m ∷ ms) k d)
    each m is ms are zero d h = subst (λ n. IsMeasured network releases n m) (omega arith) is
    each m is ms are (suc k) d h =
        subst (λ n. IsMeasured network releases n (get_or ms k d)) (omega arith) (are.each k d (omega (arith, h)))

all_measured : LeastBurstExists → (network : DeclaredNetwork) (releases : List Release)
    → AreReleases network releases → (measured : List Measured) × AreMeasured network releases measured
all_measured has_burst network releases may =
    let all = all_from network releases (one_measured has_burst network releases may) 0
    (length (senders_of network)) in (
      all.0,
      record {
        count = all.1.count;
        each = λ i d there. subst (λ n. IsMeasured network releases n (get_or all.0 i d)) (omega arith)
            (all.1.each i d (omega (arith, all.1.count, there)));
      },
    )

-- there is an answer to what is to be run, and no other
abbrev done_with : DeclaredNetwork → List Release → List Measured → Answer
done_with network releases measured = record { status = status.Done; text = fit_text network releases measured }

same_answer : (one : Answer) (text : List ℕ) → one.status ≡ status.Done → one.text ≡ text
    → one ≡ record { status = status.Done; text = text }
same_answer one text done written = rw (done, written) refl

pub one_fit : LeastBurstExists → MeasuredIsOne → (due : Result Scheduled Answer)
    → IfOk due (λ (s : Scheduled). AreReleases s.network s.releases)
    → (answer : Answer) × (IsOneOf IsFitted due answer)
    × ((other : Answer) → IsOneOf IsFitted due other → other ≡ answer)
one_fit has_burst is_one (Ok scheduled) may =
    let network : DeclaredNetwork = scheduled.network in
    let releases : List Release = scheduled.releases in
    let all = all_measured has_burst network releases may in (
      done_with network releases all.0,
      (refl, record { measured = all.0; are = all.1; printed = refl }),
      λ other is. same_answer other (fit_text network releases all.0) is.0
          (is.1.printed ∙ ap (fit_text network releases) (is_one network releases is.1.measured all.0 is.1.are all.1)),
    )
one_fit has_burst is_one (Err answer) may = (answer, refl, λ other is. is)
