use Rattle.std.proofs.Common.{◌≡◌, ℕ, ◌<◌, List, [], ◌∷◌, get_or, map, refl, sym, ap, subst}
use Rattle.std.specs.Prelude.{zip}
use Rattle.std.specs.List.{AllZip}
use Rattle.ats_clock_law.specs.TrueTime.{IsTrueVerdict, stamped, stamped_offers}
use Rattle.ats_network.specs.Network.{DeclaredNetwork}
use Rattle.ats_group.specs.Group.{Offer}
use Rattle.ats_group.specs.Judge.{ats_judge}
use Rattle.ats_group.specs.declared.verdict.Verdict.{Verdict}
use Rattle.ats_group.specs.declared.verdict.Verdict.TheVariants.{Size}
use Rattle.ats_trace.specs.Clocks.{IsJudgedBy, WasTold}
use Rattle.ats_trace.specs.Eligibility.{offer_of, residence_of_groups, scheduled_by}
use Rattle.ats_trace.specs.Journey.{Travel}
use Rattle.ats_trace.specs.Projections.{Handed}
use Rattle.ats_trace.specs.Run.{releases_of}
use Rattle.ats_trace.specs.Talker.{KeepsBuckets, read_by}
use Rattle.ats_trace.specs.declared.journey.Release.{Release}
use Rattle.ats_soundness_law.specs.TrueTime.{KeepsBucketsIn}
use Rattle.ats_examples.proofs.InOrder.{two_in_order}
use Rattle.ats_clock_examples.specs.Clocked.{IsLegalWith, clock_at}
use Rattle.ats_clock_examples.proofs.ClockTest.{told_verdicts}

-- What is known of a legal run where its clocks are.

-- two clocks that show the same stamp offers alike
pub stamps_agree : (shown shows : ℕ → ℕ) → ((t : ℕ) → shown t ≡ shows t) → (offers : List Offer)
    → stamped_offers shown offers ≡ stamped_offers shows offers
stamps_agree shown shows same [] = refl
stamps_agree shown shows same (offer ∷ offers) =
    let head : stamped shown offer ≡ stamped shows offer =
    ap (λ (t : ℕ). record offer { arrival = t }) (same offer.arrival) in
    let tail : stamped_offers shown offers ≡ stamped_offers shows offers = stamps_agree shown shows same offers in
    cc

-- what a group judges by a clock that shows the same as another
pub judged_alike : (shown shows : ℕ → ℕ) → ((t : ℕ) → shown t ≡ shows t) → (network : DeclaredNetwork) (port : ℕ)
    (handed : List Handed) → told_verdicts shown network port handed ≡ told_verdicts shows network port handed
judged_alike shown shows same network port handed =
    ap (ats_judge (scheduled_by network port) (residence_of_groups network port))
    (stamps_agree shown shows same (map offer_of handed))

-- the times that frames were told by it, where their arrivals are known
pub times_of : (shown shows told : ℕ → ℕ) → ((t : ℕ) → shown t ≡ shows t) → (network : DeclaredNetwork) (port : ℕ)
    (handed : List Handed) → (judged : IsJudgedBy shown told network port handed) → judged.arrivals ≡ handed
    → AllZip (WasTold told) handed (told_verdicts shows network port handed)
times_of shown shows told same network port handed judged is =
    subst (AllZip (WasTold told) handed) (judged_alike shown shows same network port handed)
    (subst (λ (hs : List Handed). AllZip (WasTold told) hs (told_verdicts shown network port hs)) is judged.times)

-- the verdicts in true time on frames by such a clock, where their arrivals are known
pub all_judged : (shown shows told : ℕ → ℕ) → ((t : ℕ) → shown t ≡ shows t) → (network : DeclaredNetwork) (port : ℕ)
    (handed : List Handed) → (judged : IsJudgedBy shown told network port handed) → judged.arrivals ≡ handed
    → AllZip (λ (j : Offer × Verdict) (w : Verdict). IsTrueVerdict shown j.0 j.1 w)
    (zip (map offer_of handed) (told_verdicts shows network port handed)) (map (λ (h : Handed). h.verdict) handed)
all_judged shown shows told same network port handed judged is =
    subst (λ (vs : List Verdict). AllZip (λ (j : Offer × Verdict) (w : Verdict). IsTrueVerdict shown j.0 j.1 w)
    (zip (map offer_of handed) vs) (map (λ (h : Handed). h.verdict) handed))
    (judged_alike shown shows same network port handed)
    (subst (λ (hs : List Handed). AllZip (λ (j : Offer × Verdict) (w : Verdict). IsTrueVerdict shown j.0 j.1 w)
    (zip (map offer_of hs) (told_verdicts shown network port hs)) (map (λ (h : Handed). h.verdict) hs))
    is judged.verdicts)

-- the verdict in true time on the second of two frames
pub second_judged : (shown shows told : ℕ → ℕ) → ((t : ℕ) → shown t ≡ shows t) → (network : DeclaredNetwork)
    (port : ℕ) (one other : Handed) → one.crossing.arrival < other.crossing.arrival
    → IsJudgedBy shown told network port (one ∷ other ∷ [])
    → IsTrueVerdict shown (offer_of other) (get_or (told_verdicts shows network port (one ∷ other ∷ [])) 1 Size)
    other.verdict
second_judged shown shows told same network port one other before judged =
    let both : List Handed = one ∷ other ∷ [] in
    let is : judged.arrivals ≡ both = two_in_order (λ (h : Handed). h.crossing.arrival) one other judged.arrivals before
    judged.same judged.in_order in
    let verdicts : AllZip (λ (j : Offer × Verdict) (w : Verdict). IsTrueVerdict shown j.0 j.1 w)
    (zip (map offer_of both) (told_verdicts shown network port both)) (map (λ (h : Handed). h.verdict) both) =
    subst (λ (hs : List Handed). AllZip (λ (j : Offer × Verdict) (w : Verdict). IsTrueVerdict shown j.0 j.1 w)
    (zip (map offer_of hs) (told_verdicts shown network port hs)) (map (λ (h : Handed). h.verdict) hs))
    is judged.verdicts in
    subst (λ (vs : List Verdict). IsTrueVerdict shown (offer_of other) (get_or vs 1 Size) other.verdict)
    (judged_alike shown shows same network port both) verdicts.1.0

-- a node keeps its buckets by a clock that shows the same
pub reads_agree : (shown shows : ℕ → ℕ) → ((t : ℕ) → shown t ≡ shows t) → (releases : List Release)
    → read_by shown releases ≡ read_by shows releases
reads_agree shown shows same [] = refl
reads_agree shown shows same (r ∷ releases) =
    let head : record r { at = record { 0 = shown r.at.0 } } ≡ record r { at = record { 0 = shows r.at.0 } } =
    ap (λ (t : ℕ). record r { at = record { 0 = t } }) (same r.at.0) in
    let tail : read_by shown releases ≡ read_by shows releases = reads_agree shown shows same releases in
    cc

pub keeps_with : (clocks : List (ℕ → ℕ)) (network : DeclaredNetwork) (run : List Travel) (node : ℕ)
    (h : IsLegalWith clocks network run)
    → KeepsBuckets network (read_by (clock_at clocks node) (releases_of run)) node
    → KeepsBucketsIn network run h.legal node
keeps_with clocks network run node h keeps =
    subst (λ (releases : List Release). KeepsBuckets network releases node)
    (sym (reads_agree (h.legal.clocks node) (clock_at clocks node) (h.by_clocks node) (releases_of run))) keeps

pub kept_with : (clocks : List (ℕ → ℕ)) (network : DeclaredNetwork) (run : List Travel) (node : ℕ)
    (h : IsLegalWith clocks network run) → KeepsBucketsIn network run h.legal node
    → KeepsBuckets network (read_by (clock_at clocks node) (releases_of run)) node
kept_with clocks network run node h keeps =
    subst (λ (releases : List Release). KeepsBuckets network releases node)
    (reads_agree (h.legal.clocks node) (clock_at clocks node) (h.by_clocks node) (releases_of run)) keeps
