use Rattle.std.proofs.Common.{◌≡◌, ℕ, ◌+◌, ◌≤◌, Bool, true, false, ◌&&◌, cond, List, [], ◌∷◌, ◌++◌, map, filter}
use Rattle.std.proofs.Common.{refl, ap, arith}
use Rattle.std.specs.Prelude.{◌==◌, count_by, sum_by, Option, Some, None}
use Rattle.std.proofs.lemmas.Bool.{and_parts}
use Rattle.std.proofs.lemmas.List.Sums.{sum_by-append, sum_by-cons}
use Rattle.ats_facts.proofs.Lists.{count_by-cons}
use Rattle.ats_network.specs.Sender.{Sender}
use Rattle.ats_network.specs.Network.{DeclaredNetwork}
use Rattle.ats_network.specs.Senders.{sender_at}
use Rattle.ats_port_rule.specs.Transmission.{Transmission}
use Rattle.ats_trace.specs.Journey.{Leg, Travel, class_at, legs_at, legs_in}
use Rattle.ats_trace.specs.Projections.{Hop, Crossing, Handed, transmission_of, hop_at, crossing_at, handed_at}
use Rattle.ats_trace.specs.Projections.{hops_along, crossings_along, handed_along, hops_over, crossings_over}
use Rattle.ats_trace.specs.Projections.{handed_over, journey_hops, journey_crossings, journey_handed, hops_from}
use Rattle.ats_trace.specs.Projections.{crossings_from, handed_from, sent_by}
use Rattle.ats_trace.specs.declared.journey.Release.{Release}
use Rattle.ats_trace.specs.HopRecord.{HopRecord}
use Rattle.ats_trace.specs.declared.journey.Ending.{Ending}
use Rattle.ats_trace.specs.declared.journey.Ending.TheVariants.{Sink, Discard}
use Rattle.ats_trace.proofs.OneVerdict.{one_verdict}
use Rattle.ats_legal_law.specs.Once.{FramesAreToldOnce}

-- A frame crosses a port, and is handed on there, at most as often as it is sent.

abbrev one_if : Bool → ℕ
one_if t = cond t 1 0

-- a frame's transmission at a port, its crossing, and its being handed on weigh 1 each, and those of others nothing

abbrev is_at : ℕ → ℕ → ℕ → Transmission → Bool
is_at port frame p x = p == port && x.frame == frame

abbrev hop_weight : ℕ → ℕ → Hop → ℕ
hop_weight port frame h = one_if (is_at port frame h.port h.sent)

abbrev cross_weight : ℕ → ℕ → Crossing → ℕ
cross_weight port frame c = one_if (is_at port frame c.port c.sent)

abbrev hand_weight : ℕ → ℕ → Handed → ℕ
hand_weight port frame h = cross_weight port frame h.crossing

-- of what is kept, no more passes a test than passes another that both tests imply
kept_count : {X : Type 0} (keep test both : X → Bool)
    → ((x : X) → keep x ≡ true → test x ≡ true → both x ≡ true) → (xs : List X)
    → count_by test (filter keep xs) ≤ sum_by (λ x. one_if (both x)) xs
kept_count keep test both has [] = omega arith
kept_count {X} keep test both has (x ∷ xs) = by (keep x) (test x) refl refl (kept_count keep test both has xs)
  where
    w : X → ℕ
    w y = one_if (both y)

    kept : List X
    kept = filter keep xs

    by : (k t : Bool) → keep x ≡ k → test x ≡ t → count_by test kept ≤ sum_by w xs
        → count_by test (cond k (x ∷ kept) kept) ≤ sum_by w (x ∷ xs)
    by true true is passes rest =
        omega (
          arith,
          rest,
          count_by-cons test x kept,
          sum_by-cons w x xs,
          ap one_if passes,
          ap one_if (has x is passes),
        )
    by true false is fails rest =
        omega (arith, rest, count_by-cons test x kept, sum_by-cons w x xs, ap one_if fails)
    by false t is t_is rest = omega (arith, rest, sum_by-cons w x xs)

both_of : (a b : Bool) → a ≡ true → b ≡ true → (a && b) ≡ true
both_of true true is also = refl
both_of true false is also = also
both_of false b is also = is

-- the transmissions of a frame at a port are those of the run that weigh 1
sent_count : (port frame : ℕ) (hops : List Hop) → sum_by (hop_weight port frame) hops
    ≤ count_by (λ (x : Transmission). x.frame == frame)
    (map (λ (h : Hop). h.sent) (filter (λ (h : Hop). h.port == port) hops))
sent_count port frame [] = omega arith
sent_count port frame (h ∷ hops) = by (h.port == port) refl (sent_count port frame hops)
  where
    Is : Transmission → Bool
    Is x = x.frame == frame

    sent : List Hop → List Transmission
    sent hs = map (λ (h : Hop). h.sent) hs

    kept : List Hop
    kept = filter (λ (h : Hop). h.port == port) hops

    by : (k : Bool) → (h.port == port) ≡ k → sum_by (hop_weight port frame) hops ≤ count_by Is (sent kept)
        → sum_by (hop_weight port frame) (h ∷ hops) ≤ count_by Is (sent (cond k (h ∷ kept) kept))
    by true is rest =
        omega (
          arith,
          rest,
          sum_by-cons (hop_weight port frame) h hops,
          count_by-cons Is h.sent (sent kept),
          ap (λ (k : Bool). one_if (k && h.sent.frame == frame)) is,
        )
    by false is rest =
        omega (
          arith,
          rest,
          sum_by-cons (hop_weight port frame) h hops,
          ap (λ (k : Bool). one_if (k && h.sent.frame == frame)) is,
        )

-- at one port

crossed_once : (port frame octets came p : ℕ) (sent : Option Transmission) (hops : List HopRecord) (ending : Ending)
    → sum_by (cross_weight port frame) (crossing_at octets came p sent hops ending)
    ≤ sum_by (hop_weight port frame) (hop_at p sent)
crossed_once port frame octets came p None hops ending = omega arith
crossed_once port frame octets came p (Some x) (next ∷ hops) ending =
    let hop : Hop = record { port = p; sent = x } in
    let c : Crossing = record { port = p; octets = octets; came = came; sent = x; arrival = next.arrival.0 } in
    omega (arith, sum_by-cons (cross_weight port frame) c [], sum_by-cons (hop_weight port frame) hop [])
crossed_once port frame octets came p (Some x) [] (Sink at) =
    let hop : Hop = record { port = p; sent = x } in
    let c : Crossing = record { port = p; octets = octets; came = came; sent = x; arrival = at.0 } in
    omega (arith, sum_by-cons (cross_weight port frame) c [], sum_by-cons (hop_weight port frame) hop [])
crossed_once port frame octets came p (Some x) [] Discard = omega arith

handed_once : (port frame octets came p : ℕ) (sent : Option Transmission) (hops : List HopRecord)
    → sum_by (hand_weight port frame) (handed_at octets came p sent hops)
    ≤ sum_by (hop_weight port frame) (hop_at p sent)
handed_once port frame octets came p None hops = omega arith
handed_once port frame octets came p (Some x) [] = omega arith
handed_once port frame octets came p (Some x) (next ∷ hops) =
    let hop : Hop = record { port = p; sent = x } in
    let c : Crossing = record { port = p; octets = octets; came = came; sent = x; arrival = next.arrival.0 } in
    let h : Handed = record { crossing = c; verdict = next.verdict } in
    omega (arith, sum_by-cons (hand_weight port frame) h [], sum_by-cons (hop_weight port frame) hop [])

-- two pieces that weigh no more than two others
together : {X Y : Type 0} (v : X → ℕ) (w : Y → ℕ) (a b : List X) (c d : List Y) → sum_by v a ≤ sum_by w c
    → sum_by v b ≤ sum_by w d → sum_by v (a ++ b) ≤ sum_by w (c ++ d)
together v w a b c d first second =
    omega (arith, first, second, sum_by-append v a b, sum_by-append w c d)

-- along ports

crossed_along : (port frame n : ℕ) (release : Release) (sender : Sender) (path : List ℕ) (hops : List HopRecord)
    (ending : Ending)
    → sum_by (cross_weight port frame) (crossings_along n release sender path hops ending)
    ≤ sum_by (hop_weight port frame) (hops_along n release sender path hops)
crossed_along port frame n release sender [] hops ending = omega arith
crossed_along port frame n release sender (p ∷ path) [] ending = omega arith
crossed_along port frame n release sender (p ∷ path) (hop ∷ hops) ending =
    let sent : Option Transmission = transmission_of n release (class_at sender p) hop in
    together (cross_weight port frame) (hop_weight port frame)
    (crossing_at release.octets hop.arrival.0 p sent hops ending) (crossings_along n release sender path hops ending)
    (hop_at p sent) (hops_along n release sender path hops)
    (crossed_once port frame release.octets hop.arrival.0 p sent hops ending)
    (crossed_along port frame n release sender path hops ending)

given_along : (port frame n : ℕ) (release : Release) (sender : Sender) (path : List ℕ) (hops : List HopRecord)
    → sum_by (hand_weight port frame) (handed_along n release sender path hops)
    ≤ sum_by (hop_weight port frame) (hops_along n release sender path hops)
given_along port frame n release sender [] hops = omega arith
given_along port frame n release sender (p ∷ path) [] = omega arith
given_along port frame n release sender (p ∷ path) (hop ∷ hops) =
    let sent : Option Transmission = transmission_of n release (class_at sender p) hop in
    together (hand_weight port frame) (hop_weight port frame)
    (handed_at release.octets hop.arrival.0 p sent hops) (handed_along n release sender path hops)
    (hop_at p sent) (hops_along n release sender path hops)
    (handed_once port frame release.octets hop.arrival.0 p sent hops)
    (given_along port frame n release sender path hops)

-- along legs

crossed_over : (port frame n : ℕ) (release : Release) (sender : Sender) (paths : List (List ℕ)) (legs : List Leg)
    → sum_by (cross_weight port frame) (crossings_over n release sender paths legs)
    ≤ sum_by (hop_weight port frame) (hops_over n release sender paths legs)
crossed_over port frame n release sender [] legs = omega arith
crossed_over port frame n release sender (path ∷ paths) [] = omega arith
crossed_over port frame n release sender (path ∷ paths) (leg ∷ legs) =
    together (cross_weight port frame) (hop_weight port frame)
    (crossings_along n release sender path leg.hops leg.ending) (crossings_over n release sender paths legs)
    (hops_along n release sender path leg.hops) (hops_over n release sender paths legs)
    (crossed_along port frame n release sender path leg.hops leg.ending)
    (crossed_over port frame n release sender paths legs)

given_over : (port frame n : ℕ) (release : Release) (sender : Sender) (paths : List (List ℕ)) (legs : List Leg)
    → sum_by (hand_weight port frame) (handed_over n release sender paths legs)
    ≤ sum_by (hop_weight port frame) (hops_over n release sender paths legs)
given_over port frame n release sender [] legs = omega arith
given_over port frame n release sender (path ∷ paths) [] = omega arith
given_over port frame n release sender (path ∷ paths) (leg ∷ legs) =
    together (hand_weight port frame) (hop_weight port frame)
    (handed_along n release sender path leg.hops) (handed_over n release sender paths legs)
    (hops_along n release sender path leg.hops) (hops_over n release sender paths legs)
    (given_along port frame n release sender path leg.hops)
    (given_over port frame n release sender paths legs)

-- in a run

crossed_from : (network : DeclaredNetwork) (port frame n : ℕ) (run : List Travel)
    → sum_by (cross_weight port frame) (crossings_from network n run)
    ≤ sum_by (hop_weight port frame) (hops_from network n run)
crossed_from network port frame n [] = omega arith
crossed_from network port frame n (j ∷ run) =
    together (cross_weight port frame) (hop_weight port frame)
    (journey_crossings network n j) (crossings_from network (n + 1) run)
    (journey_hops network n j) (hops_from network (n + 1) run)
    (crossed_over port frame n j.release (sender_at network j.release.sender) (legs_at network j.release.sender)
    (legs_in j))
    (crossed_from network port frame (n + 1) run)

given_from : (network : DeclaredNetwork) (port frame n : ℕ) (run : List Travel)
    → sum_by (hand_weight port frame) (handed_from network n run)
    ≤ sum_by (hop_weight port frame) (hops_from network n run)
given_from network port frame n [] = omega arith
given_from network port frame n (j ∷ run) =
    together (hand_weight port frame) (hop_weight port frame)
    (journey_handed network n j) (handed_from network (n + 1) run)
    (journey_hops network n j) (hops_from network (n + 1) run)
    (given_over port frame n j.release (sender_at network j.release.sender) (legs_at network j.release.sender)
    (legs_in j))
    (given_from network port frame (n + 1) run)

pub told_once : FramesAreToldOnce
told_once network run net journeys = record {
  crossed = λ port frame. (
      let once : count_by (λ (x : Transmission). x.frame == frame) (sent_by network run port) ≤ 1 =
      (one_verdict network run net journeys).sent port frame in
      omega (
        arith,
        once,
        sent_count port frame (hops_from network 0 run),
        crossed_from network port frame 0 run,
        kept_count (λ (c : Crossing). c.port == port) (λ (c : Crossing). c.sent.frame == frame)
            (λ (c : Crossing). is_at port frame c.port c.sent)
            (λ c. both_of (c.port == port) (c.sent.frame == frame)) (crossings_from network 0 run),
      ));
  handed = λ port class frame. (
      let once : count_by (λ (x : Transmission). x.frame == frame) (sent_by network run port) ≤ 1 =
      (one_verdict network run net journeys).sent port frame in
      omega (
        arith,
        once,
        sent_count port frame (hops_from network 0 run),
        given_from network port frame 0 run,
        kept_count (λ (h : Handed). h.crossing.port == port && h.crossing.sent.class == class)
            (λ (h : Handed). h.crossing.sent.frame == frame)
            (λ (h : Handed). is_at port frame h.crossing.port h.crossing.sent)
            (λ h at. both_of (h.crossing.port == port) (h.crossing.sent.frame == frame)
            (and_parts (h.crossing.port == port) (h.crossing.sent.class == class) at).0) (handed_from network 0 run),
      ));
}
