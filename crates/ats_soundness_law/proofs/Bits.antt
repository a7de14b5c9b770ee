use Rattle.std.proofs.Common.{◌≡◌, ℕ, ◌+◌, ◌≤◌, Bool, true, false, cond, List, [], ◌∷◌, map, filter, sum_by, refl, sym}
use Rattle.std.proofs.Common.{ap, ◌∙◌, arith}
use Rattle.std.specs.Prelude.{◌==◌, ◌&&◌}
use Rattle.std.proofs.lemmas.List.Sums.{sum_by-cons}
use Rattle.ats_bucket.specs.Conforming.{Frame}
use Rattle.ats_port_rule.specs.Transmission.{Transmission}
use Rattle.ats_group_law.proofs.AcceptedParts.{own_through}
use Rattle.ats_port_law.specs.PortLaw.{frame_of, frames_by}
use Rattle.ats_port_law.proofs.Sums.{sum_by-filter}
use Rattle.ats_network.specs.Network.{DeclaredNetwork}
use Rattle.ats_trace.specs.Journey.{Travel}
use Rattle.ats_trace.specs.Projections.{Hop, Handed, hops_from, handed_from, sent_by, handed_by}
use Rattle.ats_trace.specs.Eligibility.{offer_of}
use Rattle.ats_trace.specs.Run.{releases_of}
use Rattle.ats_trace.specs.Talker as talker
use Rattle.ats_trace.specs.declared.journey.Release.{Release}

-- a sum over what a function makes of a list
pub sum_by-map : {X Y : Type 0} (f : X → Y) (g : Y → ℕ) (xs : List X)
    → sum_by g (map f xs) ≡ sum_by (λ (x : X). g (f x)) xs
sum_by-map f g [] = refl
sum_by-map {X} f g (x ∷ xs) =
    sum_by-cons g (f x) (map f xs) ∙ ap (λ (n : ℕ). g (f x) + n) (sum_by-map f g xs)
    ∙ sym (sum_by-cons (λ (x : X). g (f x)) x xs)

-- what a transmission weighs, by the frame's number and as a token bucket counts it
abbrev pub weight_of : (ℕ → Frame → ℕ) → Transmission → ℕ
weight_of weight x = weight x.frame (frame_of x)

-- where it is of this sender and at this port
abbrev pub hop_weight : ℕ → ℕ → (ℕ → Frame → ℕ) → Hop → ℕ
hop_weight i port weight g = cond (g.port == port) (cond (g.sent.sender == i) (weight_of weight g.sent) 0) 0

-- the transmissions of a sender
abbrev pub sent_of : ℕ → List Transmission → List Transmission
sent_of i sent = filter (λ (x : Transmission). x.sender == i) sent

-- a sender's transmissions at a port, as a sum over all of a run
pub sent_weight : (network : DeclaredNetwork) (run : List Travel) (i port : ℕ) (weight : ℕ → Frame → ℕ)
    → sum_by (weight_of weight) (sent_of i (sent_by network run port))
    ≡ sum_by (hop_weight i port weight) (hops_from network 0 run)
sent_weight network run i port weight =
    let hops : List Hop = hops_from network 0 run in
    let of_sender : Transmission → ℕ = λ (y : Transmission). cond (y.sender == i) (weight_of weight y) 0 in
    sum_by-filter (weight_of weight) (λ (x : Transmission). x.sender == i) (sent_by network run port)
    ∙ sum_by-map (λ (h : Hop). h.sent) of_sender (filter (λ (h : Hop). h.port == port) hops)
    ∙ sum_by-filter (λ (h : Hop). of_sender h.sent) (λ (h : Hop). h.port == port) hops

-- so its frames there
pub frames_weight : (network : DeclaredNetwork) (run : List Travel) (i port : ℕ) (weight : Frame → ℕ)
    → sum_by weight (frames_by i (sent_by network run port))
    ≡ sum_by (hop_weight i port (λ n. weight)) (hops_from network 0 run)
frames_weight network run i port weight =
    sum_by-map frame_of weight (sent_of i (sent_by network run port)) ∙ sent_weight network run i port (λ n. weight)

-- the weight of what a group lets through of a sender
abbrev pub through_weight : ℕ → (ℕ → Frame → ℕ) → Handed → ℕ
through_weight i weight h = sum_by (weight h.crossing.sent.frame) (own_through i (offer_of h) h.verdict)

-- where it comes from this port and is of this class
abbrev pub handed_weight : ℕ → ℕ → ℕ → (ℕ → Frame → ℕ) → Handed → ℕ
handed_weight i port class weight h =
    cond (h.crossing.port == port && h.crossing.sent.class == class) (through_weight i weight h) 0

pub group_weight : (network : DeclaredNetwork) (run : List Travel) (i port class : ℕ) (weight : ℕ → Frame → ℕ)
    → sum_by (through_weight i weight) (handed_by network run port class)
    ≡ sum_by (handed_weight i port class weight) (handed_from network 0 run)
group_weight network run i port class weight =
    sum_by-filter (through_weight i weight)
    (λ (h : Handed). h.crossing.port == port && h.crossing.sent.class == class) (handed_from network 0 run)

-- the weight of a release where it is of this sender
abbrev pub release_weight : ℕ → (Frame → ℕ) → Travel → ℕ
release_weight i weight j = cond (j.release.sender == i) (weight (talker.frame_of j.release)) 0

-- a sender's releases, as a sum over the journeys
pub releases_weight : (run : List Travel) (i : ℕ) (weight : Frame → ℕ)
    → sum_by weight (talker.frames_of i (releases_of run)) ≡ sum_by (release_weight i weight) run
releases_weight run i weight =
    let of_sender : Release → ℕ = λ (r : Release). cond (r.sender == i) (weight (talker.frame_of r)) 0 in
    sum_by-map talker.frame_of weight (filter (λ (r : Release). r.sender == i) (releases_of run))
    ∙ sum_by-filter (λ (r : Release). weight (talker.frame_of r)) (λ (r : Release). r.sender == i) (releases_of run)
    ∙ sum_by-map (λ (j : Travel). j.release) of_sender run

-- a weight that is counted where two tests pass is counted where two others pass, if those pass then
pub counted_on : (there own before ranked : Bool) (frame : Frame) (weight : Frame → ℕ)
    → (there ≡ true → own ≡ true → (before ≡ true) × (ranked ≡ true))
    → cond there (cond own (weight frame) 0) 0
    ≤ cond (before && ranked) (sum_by weight (cond own (frame ∷ []) [])) 0
counted_on true true true true frame weight h = omega (arith, sum_by-cons weight frame [])
counted_on true true true false frame weight h = absurd (cc ((h refl refl).1))
counted_on true true false ranked frame weight h = absurd (cc ((h refl refl).0))
counted_on true false before ranked frame weight h = omega arith
counted_on false own before ranked frame weight h = omega arith

-- what is counted where a test passes is nothing where it fails, and no more than without it
pub counted-none : (there : Bool) (n : ℕ) → (there ≡ true → ⊥) → cond there n 0 ≤ 0
counted-none true n h = absurd (h refl)
counted-none false n h = omega arith

pub counted-le : (there : Bool) (n : ℕ) → cond there n 0 ≤ n
counted-le true n = omega arith
counted-le false n = omega arith

pub counted-neither : (there own : Bool) (n : ℕ) → (there ≡ true → own ≡ true → ⊥) → cond there (cond own n 0) 0 ≤ 0
counted-neither true true n h = absurd (h refl refl)
counted-neither true false n h = omega arith
counted-neither false own n h = omega arith
