-- No frame is of a class above 7.
use Rattle.std.proofs.Common.{◌≡◌, ℕ, ◌+◌, ◌<◌, ◌≤◌, Bool, false, cond, List, [], ◌∷◌, All, get_or, length, Option}
use Rattle.std.proofs.Common.{None, Some, refl, ap, ◌∙◌, arith}
use Rattle.std.specs.List.{filter}
use Rattle.std.specs.Prelude.{◌==◌, ◌&&◌, IfSome}
use Rattle.std.proofs.Math.Bool.{and-false}
use Rattle.std.proofs.lemmas.Bool.{ne_eqb}
use Rattle.std.proofs.lemmas.List.Elements.{All-nil, All-cons, All-head, All-tail, All-append}
use Rattle.ats_num.specs.declared.time.Ps.{Ps}
use Rattle.ats_network.specs.Network.{DeclaredNetwork, IsNetwork, senders_of}
use Rattle.ats_network.specs.Sender.{Sender}
use Rattle.ats_network.specs.Senders.{IsSender, sender_at}
use Rattle.ats_network.specs.Class.{class_at}
use Rattle.ats_network.proofs.ClassLemmas.{class_at-le}
use Rattle.ats_network.proofs.SenderLemmas.{sender_keeps}
use Rattle.ats_group.specs.declared.verdict.Verdict.{Verdict}
use Rattle.ats_group.specs.declared.verdict.Verdict.TheVariants.{Eligible, Late, Size}
use Rattle.ats_port_rule.specs.Transmission.{Transmission}
use Rattle.ats_trace.specs.Journey.{Leg, Travel, legs_at, legs_in}
use Rattle.ats_trace.specs.Projections.{Handed, transmission_by, transmission_of, handed_at, handed_along, handed_over}
use Rattle.ats_trace.specs.Projections.{journey_handed, handed_from, handed_by}
use Rattle.ats_trace.specs.HopRecord.{HopRecord}
use Rattle.ats_trace.specs.declared.journey.Release.{Release}

-- what the frame was sent in
abbrev IsLow : Handed → Type 0
IsLow h = h.crossing.sent.class ≤ 7

-- the class of a transmission is the one in which it was made
low-transmission : (frame : ℕ) (r : Release) (class : ℕ) (v : Verdict) (times : Option (Ps × Ps)) → class ≤ 7
    → IfSome (transmission_by frame r class v times) (λ (x : Transmission). x.class ≤ 7)
low-transmission frame r class (Eligible e) (Some times) low = low
low-transmission frame r class (Eligible e) None low = tt
low-transmission frame r class (Late e) times low = tt
low-transmission frame r class Size times low = tt

-- a frame that is handed on is in the class of its transmission
low-at : (octets came port : ℕ) (sent : Option Transmission) (hops : List HopRecord)
    → IfSome sent (λ (x : Transmission). x.class ≤ 7) → All IsLow (handed_at octets came port sent hops)
low-at octets came port None hops low = All-nil IsLow
low-at octets came port (Some sent) [] low = All-nil IsLow
low-at octets came port (Some sent) (next ∷ hops) low =
    All-cons IsLow (record {
      crossing = record { port = port; octets = octets; came = came; sent = sent; arrival = next.arrival.0 };
      verdict = next.verdict;
    }) [] low (All-nil IsLow)

-- so along a path no frame is handed on in a class above 7, where its sender has no such class
low-along : (frame : ℕ) (r : Release) (s : Sender) (path : List ℕ) (hops : List HopRecord)
    → ((port : ℕ) → class_at s port ≤ 7) → All IsLow (handed_along frame r s path hops)
low-along frame r s [] hops low = All-nil IsLow
low-along frame r s (p ∷ path) [] low = All-nil IsLow
low-along frame r s (p ∷ path) (hop ∷ hops) low =
    let sent : Option Transmission = transmission_of frame r (class_at s p) hop in
    All-append IsLow (handed_at r.octets hop.arrival.0 p sent hops) (handed_along frame r s path hops)
    (low-at r.octets hop.arrival.0 p sent hops
    (low-transmission frame r (class_at s p) hop.verdict hop.sent (low p)))
    (low-along frame r s path hops low)

-- nor along legs
low-over : (frame : ℕ) (r : Release) (s : Sender) (paths : List (List ℕ)) (legs : List Leg)
    → ((port : ℕ) → class_at s port ≤ 7) → All IsLow (handed_over frame r s paths legs)
low-over frame r s [] legs low = All-nil IsLow
low-over frame r s (path ∷ paths) [] low = All-nil IsLow
low-over frame r s (path ∷ paths) (leg ∷ legs) low =
    All-append IsLow (handed_along frame r s path leg.hops) (handed_over frame r s paths legs)
    (low-along frame r s path leg.hops low) (low-over frame r s paths legs low)

-- no sender has such a class
low-journey : (network : DeclaredNetwork) (frame : ℕ) (j : Travel) → IsNetwork network
    → j.release.sender < length (senders_of network) → All IsLow (journey_handed network frame j)
low-journey network frame j rules within =
    let s : Sender = sender_at network j.release.sender in
    let is : IsSender network.topology s = sender_keeps network j.release.sender rules within in
    low-over frame j.release s (legs_at network j.release.sender) (legs_in j) (λ port. class_at-le s port is.classes)

-- the sender of a journey is one of the network
abbrev pub IsKnown : DeclaredNetwork → Travel → Type 0
IsKnown network j = j.release.sender < length (senders_of network)

-- so it is in a whole run
low-from : (network : DeclaredNetwork) (frame : ℕ) (run : List Travel) → IsNetwork network
    → All (IsKnown network) run → All IsLow (handed_from network frame run)
low-from network frame [] rules known = All-nil IsLow
low-from network frame (j ∷ run) rules known =
    All-append IsLow (journey_handed network frame j) (handed_from network (frame + 1) run)
    (low-journey network frame j rules (All-head (IsKnown network) j run known))
    (low-from network (frame + 1) run rules (All-tail (IsKnown network) j run known))

-- what fails the test everywhere leaves nothing
filter-none : {X : Type 0} (test : X → Bool) (xs : List X) → All (λ (x : X). test x ≡ false) xs → filter test xs ≡ []
filter-none test [] fails = refl
filter-none {X} test (x ∷ xs) fails =
    ap (λ (b : Bool). cond b (x ∷ filter test xs) (filter test xs))
    (All-head (λ (y : X). test y ≡ false) x xs fails)
    ∙ filter-none test xs (All-tail (λ (y : X). test y ≡ false) x xs fails)

-- so no port has handed one on
pub none-above : (network : DeclaredNetwork) (run : List Travel) (port class : ℕ) → IsNetwork network
    → All (IsKnown network) run → 8 ≤ class → handed_by network run port class ≡ []
none-above network run port class rules known high =
    let low = low-from network 0 run rules known in
    filter-none (λ (h : Handed). h.crossing.port == port && h.crossing.sent.class == class) (handed_from network 0 run)
    (λ k d h. fails (get_or (handed_from network 0 run) k d) (low k d h))
  where
    fails : (h : Handed) → IsLow h → (h.crossing.port == port && h.crossing.sent.class == class) ≡ false
    fails h low =
        ap (λ (b : Bool). h.crossing.port == port && b)
        (ne_eqb h.crossing.sent.class class (λ same. omega arith))
        ∙ and-false (h.crossing.port == port)
