use Rattle.std.proofs.Common.{ℕ, ◌+◌, ◌≤◌, List, [], ◌∷◌, ◌++◌, All, sum_by, arith}
use Rattle.std.specs.Prelude.{Option, Some, None}
use Rattle.std.proofs.lemmas.List.Elements.{All-head}
use Rattle.std.proofs.lemmas.List.Sums.{sum_by-cons}
use Rattle.ats_facts.proofs.Lists.{all_left, all_right}
use Rattle.ats_num.specs.declared.time.Ps.{Ps}
use Rattle.ats_network.specs.Sender.{Sender}
use Rattle.ats_group.specs.declared.verdict.Verdict.{Verdict}
use Rattle.ats_group.specs.declared.verdict.Verdict.TheVariants.{Eligible, Late, Size}
use Rattle.ats_port_rule.specs.Transmission.{Transmission}
use Rattle.ats_trace.specs.Journey.{class_at, IsSentOrEnds, IsWay}
use Rattle.ats_trace.specs.Projections.{Crossing, Handed, transmission_by, crossing_at, handed_at, crossings_along}
use Rattle.ats_trace.specs.Projections.{handed_along}
use Rattle.ats_trace.specs.declared.journey.Release.{Release}
use Rattle.ats_trace.specs.HopRecord.{HopRecord}
use Rattle.ats_trace.specs.declared.journey.Ending.{Ending}
use Rattle.ats_trace.specs.declared.journey.Ending.TheVariants.{Sink, Discard}
use Rattle.ats_soundness_law.specs.Sound.{IsEligibleBy, IsPrompt, ArrivesBy, IsPromptIfEligible}
use Rattle.ats_group.specs.Judge.{OnEligible}
use Rattle.ats_soundness_law.proofs.Along.{crossing_by, handed_on}

-- a frame arrives behind its port within the bound of its eligibility
abbrev pub ArrivesWithin : (ℕ → ℕ) → Crossing → Type 0
ArrivesWithin bound c = c.arrival ≤ c.sent.eligible + bound c.port

-- and the frame is eligible there within it
abbrev pub EligibleWithin : (ℕ → ℕ) → Handed → Type 0
EligibleWithin bound h = IsEligibleBy (h.crossing.sent.eligible + bound h.crossing.port) (λ e. Unit {0}) h.verdict

-- a frame comes to the rest of its way by this time: it is eligible at the first port, or arrives
abbrev pub ComesBy : ℕ → List ℕ → List HopRecord → Ending → Type 0
ComesBy limit [] hops ending = ArrivesBy limit ending
ComesBy limit (p ∷ path) [] ending = Unit {0}
ComesBy limit (p ∷ path) (hop ∷ hops) ending = IsEligibleBy limit (λ e. Unit {0}) hop.verdict

-- behind a port where it was sent, it comes within the bound
comes_next : (bound : ℕ → ℕ) (frame : ℕ) (release : Release) (sender : Sender) (came p : ℕ) (path : List ℕ) (e : Ps)
    (times : Ps × Ps) (hops : List HopRecord) (ending : Ending)
    → IsWay path hops ending
    → All (ArrivesWithin bound) (crossing_at release.octets came p
    (transmission_by frame release (class_at sender p) (Eligible e) (Some times)) hops ending)
    → All (EligibleWithin bound)
    (handed_at release.octets came p (transmission_by frame release (class_at sender p) (Eligible e) (Some times)) hops
    ++ handed_along frame release sender path hops)
    → ComesBy (e.0 + bound p) path hops ending
comes_next bound frame release sender came p [] e times [] (Sink at) way all handed =
    All-head (ArrivesWithin bound) (crossing_by frame release (class_at sender p) p came e times at.0) [] all
comes_next bound frame release sender came p [] e times [] Discard way all handed = absurd way
comes_next bound frame release sender came p [] e times (hop ∷ hops) ending way all handed = absurd way
comes_next bound frame release sender came p (q ∷ path) e times [] ending way all handed = tt
comes_next bound frame release sender came p (q ∷ path) e times (next ∷ hops) ending way all handed =
    All-head (EligibleWithin bound)
    (handed_on frame release (class_at sender p) p came e times next.arrival.0 next.verdict)
    (handed_along frame release sender (q ∷ path) (next ∷ hops)) handed

-- one step of the way
prompt_here : (bound : ℕ → ℕ) (frame : ℕ) (release : Release) (sender : Sender) (came p : ℕ) (path : List ℕ)
    (verdict : Verdict) (sent : Option (Ps × Ps)) (hops : List HopRecord) (ending : Ending) (limit : ℕ)
    → ((limit : ℕ) → IsWay path hops ending → All (ArrivesWithin bound) (crossings_along frame release
    sender path hops ending) → All (EligibleWithin bound) (handed_along frame release sender path hops)
    → ComesBy limit path hops ending → IsPrompt bound limit path hops ending)
    → IsSentOrEnds (IsWay path hops ending) verdict sent hops ending
    → All (ArrivesWithin bound)
    (crossing_at release.octets came p (transmission_by frame release (class_at sender p) verdict sent) hops ending
    ++ crossings_along frame release sender path hops ending)
    → All (EligibleWithin bound) (handed_at release.octets came p
    (transmission_by frame release (class_at sender p) verdict sent) hops
    ++ handed_along frame release sender path hops)
    → IsEligibleBy limit (λ e. Unit {0}) verdict
    → IsEligibleBy limit (λ e. IsPrompt bound (e + bound p) path hops ending) verdict
prompt_here bound frame release sender came p path (Eligible e) (Some times)
    hops ending limit rest way all handed first =
    let sent : Option Transmission = transmission_by frame release (class_at sender p) (Eligible e) (Some times) in
    let here : List Crossing = crossing_at release.octets came p sent hops ending in
    let later : List Crossing = crossings_along frame release sender path hops ending in (
      first.0,
      rest (e.0 + bound p) way (all_right (ArrivesWithin bound) here later all)
          (all_right (EligibleWithin bound) (handed_at release.octets came p sent hops)
          (handed_along frame release sender path hops) handed)
          (comes_next bound frame release sender came p path e times hops ending way
          (all_left (ArrivesWithin bound) here later all) handed),
    )
prompt_here bound frame release sender came p path (Eligible e) None hops ending limit rest way all handed first =
    absurd way
prompt_here bound frame release sender came p path (Late e) sent hops ending limit rest way all handed first =
    absurd first
prompt_here bound frame release sender came p path Size sent hops ending limit rest way all handed first = absurd first

-- where a frame arrives behind each port of a way within the bounds, and is eligible within them there, it is prompt
pub prompt : (bound : ℕ → ℕ) (frame : ℕ) (release : Release) (sender : Sender) (path : List ℕ) (hops : List HopRecord)
    (ending : Ending) (limit : ℕ)
    → IsWay path hops ending → All (ArrivesWithin bound) (crossings_along frame release sender path hops ending)
    → All (EligibleWithin bound) (handed_along frame release sender path hops)
    → ComesBy limit path hops ending → IsPrompt bound limit path hops ending
prompt bound frame release sender [] [] (Sink at) limit way all handed first = first
prompt bound frame release sender [] [] Discard limit way all handed first = absurd way
prompt bound frame release sender [] (hop ∷ hops) ending limit way all handed first = absurd way
prompt bound frame release sender (p ∷ path) [] ending limit way all handed first = absurd way
prompt bound frame release sender (p ∷ path) (hop ∷ hops) ending limit way all handed first =
    prompt_here bound frame release sender hop.arrival.0 p path hop.verdict hop.sent hops ending limit
    (prompt bound frame release sender path hops ending)
    way all handed first

-- a prompt frame arrives within the sum of the bounds
sum_here : (bound : ℕ → ℕ) (limit p : ℕ) (path : List ℕ) (verdict : Verdict) (hops : List HopRecord) (ending : Ending)
    → ((limit : ℕ) → IsPrompt bound limit path hops ending → ArrivesBy (limit + sum_by bound path) ending)
    → ((a b : ℕ) → a ≤ b → ArrivesBy a ending → ArrivesBy b ending)
    → IsEligibleBy limit (λ e. IsPrompt bound (e + bound p) path hops ending) verdict
    → ArrivesBy (limit + sum_by bound (p ∷ path)) ending
sum_here bound limit p path (Eligible e) hops ending rest later way =
    later (e.0 + bound p + sum_by bound path) (limit + sum_by bound (p ∷ path))
    (omega (arith, way.0, sum_by-cons bound p path)) (rest (e.0 + bound p) way.1)
sum_here bound limit p path (Late e) hops ending rest later way = absurd way
sum_here bound limit p path Size hops ending rest later way = absurd way

arrives_later : (ending : Ending) (a b : ℕ) → a ≤ b → ArrivesBy a ending → ArrivesBy b ending
arrives_later (Sink at) a b h k = omega (arith, h, k)
arrives_later Discard a b h k = absurd k

pub within_sum : (bound : ℕ → ℕ) (path : List ℕ) (hops : List HopRecord) (ending : Ending) (limit : ℕ)
    → IsPrompt bound limit path hops ending → ArrivesBy (limit + sum_by bound path) ending
within_sum bound [] [] (Sink at) limit way = omega (arith, way)
within_sum bound [] [] Discard limit way = absurd way
within_sum bound [] (hop ∷ hops) ending limit way = absurd way
within_sum bound (p ∷ path) [] ending limit way = absurd way
within_sum bound (p ∷ path) (hop ∷ hops) ending limit way =
    sum_here bound limit p path hop.verdict hops ending (within_sum bound path hops ending) (arrives_later ending) way

-- a frame that is eligible at a port is prompt behind it
once_here : (bound : ℕ → ℕ) (p : ℕ) (path : List ℕ) (verdict : Verdict) (hops : List HopRecord) (ending : Ending)
    → ((limit : ℕ) → IsEligibleBy limit (λ e. Unit {0}) verdict
    → IsEligibleBy limit (λ e. IsPrompt bound (e + bound p) path hops ending) verdict)
    → OnEligible verdict (λ e. IsPrompt bound (e + bound p) path hops ending)
once_here bound p path (Eligible e) hops ending from = (from e.0 (omega arith, tt)).1
once_here bound p path (Late e) hops ending from = tt
once_here bound p path Size hops ending from = tt

pub prompt_once : (bound : ℕ → ℕ) (frame : ℕ) (release : Release) (sender : Sender) (path : List ℕ)
    (hops : List HopRecord) (ending : Ending)
    → IsWay path hops ending → All (ArrivesWithin bound) (crossings_along frame release sender path hops ending)
    → All (EligibleWithin bound) (handed_along frame release sender path hops)
    → IsPromptIfEligible bound path hops ending
prompt_once bound frame release sender [] hops ending way all handed = tt
prompt_once bound frame release sender (p ∷ path) [] ending way all handed = tt
prompt_once bound frame release sender (p ∷ path) (hop ∷ hops) ending way all handed =
    once_here bound p path hop.verdict hops ending
    (λ limit first. prompt bound frame release sender (p ∷ path) (hop ∷ hops) ending limit way all handed first)
