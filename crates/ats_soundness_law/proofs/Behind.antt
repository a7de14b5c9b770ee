use Rattle.std.proofs.Common.{◌≡◌, ℕ, List, [], ◌∷◌, ◌++◌, All}
use Rattle.std.specs.Prelude.{Option, Some, None}
use Rattle.std.proofs.lemmas.List.Elements.{All-nil, All-head}
use Rattle.ats_num.specs.declared.time.Ps.{Ps}
use Rattle.ats_network.specs.Sender.{Sender}
use Rattle.ats_group.specs.declared.verdict.Verdict.{Verdict}
use Rattle.ats_group.specs.declared.verdict.Verdict.TheVariants.{Eligible, Late, Size}
use Rattle.ats_trace.specs.Journey.{class_at, IsSentOrEnds, IsWay}
use Rattle.ats_trace.specs.Projections.{Hop, Handed, transmission_by, hop_at, handed_at, hops_along, handed_along}
use Rattle.ats_trace.specs.declared.journey.Release.{Release}
use Rattle.ats_trace.specs.HopRecord.{HopRecord}
use Rattle.ats_trace.specs.declared.journey.Ending.{Ending}
use Rattle.ats_group.specs.Judge.{OnEligible}
use Rattle.ats_soundness_law.proofs.Along.{handed_on, no_hops}

-- behind the first port: the rest of the way, where there is one
pub way_on : (Z : Type 0) (path : List ℕ) (verdict : Verdict) (sent : Option (Ps × Ps)) (hops : List HopRecord)
    (ending : Ending)
    → (IsWay path hops ending → Z) → (hops ≡ [] → Z) → IsSentOrEnds (IsWay path hops ending) verdict sent hops ending
    → Z
way_on Z path (Eligible e) (Some times) hops ending on none way = on way
way_on Z path (Eligible e) None hops ending on none way = absurd way
way_on Z path (Late e) (Some times) hops ending on none way = absurd way
way_on Z path (Late e) None hops ending on none way = none way.0
way_on Z path Size (Some times) hops ending on none way = absurd way
way_on Z path Size None hops ending on none way = none way.0

-- where a frame is sent at a later port, it was eligible there, behind the first port
sent_later : (Z : Type 0) (frame : ℕ) (release : Release) (sender : Sender) (p : ℕ) (path : List ℕ) (verdict : Verdict)
    (sent : Option (Ps × Ps)) (hops : List HopRecord) (ending : Ending)
    → IsSentOrEnds (IsWay path hops ending) verdict sent hops ending → OnEligible verdict (λ e. Z)
    → All (λ (g : Hop). Z)
    (hop_at p (transmission_by frame release (class_at sender p) verdict sent)
    ++ hops_along frame release sender path hops)
sent_later Z frame release sender p path (Eligible e) sent hops ending way z = λ k d h. z
sent_later Z frame release sender p path (Late e) (Some times) hops ending way z = absurd way
sent_later Z frame release sender p path (Late e) None hops ending way z =
    rw (way.0, no_hops frame release sender path) (All-nil (λ (g : Hop). Z))
sent_later Z frame release sender p path Size (Some times) hops ending way z = absurd way
sent_later Z frame release sender p path Size None hops ending way z =
    rw (way.0, no_hops frame release sender path) (All-nil (λ (g : Hop). Z))

first_handed : (Z : Type 0) (frame : ℕ) (release : Release) (sender : Sender) (came p q : ℕ) (path : List ℕ)
    (verdict : Verdict) (sent : Option (Ps × Ps)) (next : HopRecord) (hops : List HopRecord) (ending : Ending)
    → IsSentOrEnds (IsWay (q ∷ path) (next ∷ hops) ending) verdict sent (next ∷ hops) ending
    → All (λ (h : Handed). OnEligible h.verdict (λ e. Z))
    (handed_at release.octets came p (transmission_by frame release (class_at sender p) verdict sent) (next ∷ hops)
    ++ handed_along frame release sender (q ∷ path) (next ∷ hops))
    → All (λ (g : Hop). Z) (hops_along frame release sender (q ∷ path) (next ∷ hops))
first_handed Z frame release sender came p q path (Eligible e) (Some times) next hops ending way handed =
    sent_later Z frame release sender q path next.verdict next.sent hops ending way
    (All-head (λ (h : Handed). OnEligible h.verdict (λ e. Z))
    (handed_on frame release (class_at sender p) p came e times next.arrival.0 next.verdict)
    (handed_along frame release sender (q ∷ path) (next ∷ hops)) handed)
first_handed Z frame release sender came p q path (Eligible e) None next hops ending way handed = absurd way
first_handed Z frame release sender came p q path (Late e) (Some times) next hops ending way handed = absurd way
first_handed Z frame release sender came p q path (Late e) None next hops ending way handed = cc (way.0)
first_handed Z frame release sender came p q path Size (Some times) next hops ending way handed = absurd way
first_handed Z frame release sender came p q path Size None next hops ending way handed = cc (way.0)

-- so what an eligible verdict gives of the frame holds of each transmission at a later port
pub later_sent : (Z : Type 0) (frame : ℕ) (release : Release) (sender : Sender) (p : ℕ) (path : List ℕ)
    (hop : HopRecord) (hops : List HopRecord) (ending : Ending)
    → IsWay (p ∷ path) (hop ∷ hops) ending
    → All (λ (h : Handed). OnEligible h.verdict (λ e. Z)) (handed_along frame release sender (p ∷ path) (hop ∷ hops))
    → All (λ (g : Hop). Z) (hops_along frame release sender path hops)
later_sent Z frame release sender p [] hop hops ending way handed = All-nil (λ (g : Hop). Z)
later_sent Z frame release sender p (q ∷ path) hop [] ending way handed = All-nil (λ (g : Hop). Z)
later_sent Z frame release sender p (q ∷ path) hop (next ∷ hops) ending way handed =
    first_handed Z frame release sender hop.arrival.0 p q path hop.verdict hop.sent next hops ending way handed
