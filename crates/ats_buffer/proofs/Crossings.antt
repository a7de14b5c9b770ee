use Rattle.std.proofs.Common.{ℕ, ◌+◌, ◌*◌, ◌<◌, ◌≤◌, cond, Bool, true, false, List, [], ◌∷◌, length}
use Rattle.std.proofs.Common.{ap, length-append, arith}
use Rattle.std.specs.Prelude.{Option, Some, None, nat_lt}
use Rattle.std.specs.List.{All, concat, flat_map}
use Rattle.std.proofs.lemmas.List.Elements.{All-nil, All-cons, All-head, All-tail, All-append}
use Rattle.ats_num.specs.declared.time.Ps.{Ps}
use Rattle.ats_num.specs.Wire.{IsFrameSize}
use Rattle.ats_streams.specs.Branches.{legs_of}
use Rattle.ats_network.specs.Sender.{Sender}
use Rattle.ats_network.specs.Class.{class_at}
use Rattle.ats_network.specs.Network.{DeclaredNetwork, IsNetwork}
use Rattle.ats_network.specs.Senders.{sender_at, no_sender, IsSender}
use Rattle.ats_network.proofs.ClassLemmas.{class_at-le}
use Rattle.ats_network.proofs.SenderLemmas.{each_is_sender}
use Rattle.ats_group.specs.declared.verdict.Verdict.{Verdict}
use Rattle.ats_group.specs.declared.verdict.Verdict.TheVariants.{Eligible, Late, Size}
use Rattle.ats_port_rule.specs.Transmission.{Transmission}
use Rattle.ats_trace.specs.Journey.{Leg, Travel, IsJourney, legs_in}
use Rattle.ats_trace.specs.Projections.{Crossing, transmission_by, transmission_of, crossing_of, crossing_at}
use Rattle.ats_trace.specs.Projections.{crossings_along, crossings_over, journey_crossings, crossings_from}
use Rattle.ats_trace.specs.Run.{IsIdeal}
use Rattle.ats_trace.specs.declared.journey.Release.{Release}
use Rattle.ats_trace.specs.HopRecord.{HopRecord}
use Rattle.ats_trace.specs.declared.journey.Ending.{Ending}
use Rattle.ats_trace.specs.declared.journey.Ending.TheVariants.{Sink, Discard}
use Rattle.ats_tally.proofs.Network.{few_ports}
use Rattle.ats_trace.proofs.Legs.{concat-legs_of, legs_keep}
use Rattle.ats_buffer.specs.Moments.{moments_of, moments_in, IsInside}
use Rattle.ats_buffer.specs.declared.moments.Moment.{Moment}

-- a crossing is of a port of the network, in a class, with the bits of a frame
pub record IsCrossed (ports : ℕ) (c : Crossing) : Type 0 where
  pub port : c.port < ports
  pub class : c.sent.class ≤ 7
  pub bits : c.sent.bits ≤ 16160

-- there is at most one at each port
one_at_most : (octets came port : ℕ) (sent : Option Transmission) (hops : List HopRecord) (ending : Ending)
    → length (crossing_at octets came port sent hops ending) ≤ 1
one_at_most octets came port None hops ending = omega arith
one_at_most octets came port (Some sent) (next ∷ hops) ending = omega arith
one_at_most octets came port (Some sent) [] (Sink at) = omega arith
one_at_most octets came port (Some sent) [] Discard = omega arith

few_along : (frame : ℕ) (release : Release) (s : Sender) (path : List ℕ) (hops : List HopRecord) (ending : Ending)
    → length (crossings_along frame release s path hops ending) ≤ length path
few_along frame release s [] hops ending = omega arith
few_along frame release s (p ∷ path) [] ending = omega arith
few_along frame release s (p ∷ path) (hop ∷ hops) ending =
    let sent : Option Transmission = transmission_of frame release (class_at s p) hop in
    let here = one_at_most release.octets hop.arrival.0 p sent hops ending in
    let rest = few_along frame release s path hops ending in
    omega (
      arith,
      here,
      rest,
      length-append (crossing_at release.octets hop.arrival.0 p sent hops ending)
          (crossings_along frame release s path hops ending),
    )

-- the crossing at a port is of that port, in a class that the sender has there
crossed_at : (ports octets came port : ℕ) (x : Transmission) → port < ports → x.class ≤ 7 → x.bits ≤ 16160
    → (hops : List HopRecord) (ending : Ending)
    → All (IsCrossed ports) (crossing_at octets came port (Some x) hops ending)
crossed_at ports octets came port x within class bits (next ∷ hops) ending =
    All-cons (IsCrossed ports) (crossing_of octets came port x next.arrival.0) []
    (record { port = within; class = class; bits = bits }) (All-nil (IsCrossed ports))
crossed_at ports octets came port x within class bits [] (Sink at) =
    All-cons (IsCrossed ports) (crossing_of octets came port x at.0) []
    (record { port = within; class = class; bits = bits }) (All-nil (IsCrossed ports))
crossed_at ports octets came port x within class bits [] Discard = All-nil (IsCrossed ports)

one_crossed : (ports frame class : ℕ) (release : Release) (came port : ℕ) → IsFrameSize release.octets → port < ports
    → class ≤ 7 → (verdict : Verdict) (sent : Option (Ps × Ps)) (hops : List HopRecord) (ending : Ending)
    → All (IsCrossed ports)
    (crossing_at release.octets came port (transmission_by frame release class verdict sent) hops ending)
one_crossed ports frame class release came port size within ranked (Eligible e) (Some times) hops ending =
    crossed_at ports release.octets came port _ within ranked (omega (arith, size.most)) hops ending
one_crossed ports frame class release came port size within ranked (Eligible e) None hops ending =
    All-nil (IsCrossed ports)
one_crossed ports frame class release came port size within ranked (Late e) sent hops ending = All-nil (IsCrossed ports)
one_crossed ports frame class release came port size within ranked Size sent hops ending = All-nil (IsCrossed ports)

crossed_along : (ports frame : ℕ) (release : Release) (s : Sender) → IsFrameSize release.octets
    → ((p : ℕ) → class_at s p ≤ 7) → (path : List ℕ) (hops : List HopRecord) (ending : Ending)
    → All (λ p. p < ports) path → All (IsCrossed ports) (crossings_along frame release s path hops ending)
crossed_along ports frame release s size ranked [] hops ending on = All-nil (IsCrossed ports)
crossed_along ports frame release s size ranked (p ∷ path) [] ending on = All-nil (IsCrossed ports)
crossed_along ports frame release s size ranked (p ∷ path) (hop ∷ hops) ending on =
    All-append (IsCrossed ports)
    (crossing_at release.octets hop.arrival.0 p (transmission_of frame release (class_at s p) hop) hops ending)
    (crossings_along frame release s path hops ending)
    (one_crossed ports frame (class_at s p) release hop.arrival.0 p size (All-head (λ p. p < ports) p path on)
    (ranked p) hop.verdict hop.sent hops ending)
    (crossed_along ports frame release s size ranked path hops ending (All-tail (λ p. p < ports) p path on))

-- so along all legs
crossed_over : (ports frame : ℕ) (release : Release) (s : Sender) → IsFrameSize release.octets
    → ((p : ℕ) → class_at s p ≤ 7) → (paths : List (List ℕ)) (legs : List Leg) → All (All (λ p. p < ports)) paths
    → All (IsCrossed ports) (crossings_over frame release s paths legs)
crossed_over ports frame release s size ranked [] legs on = All-nil (IsCrossed ports)
crossed_over ports frame release s size ranked (path ∷ paths) [] on = All-nil (IsCrossed ports)
crossed_over ports frame release s size ranked (path ∷ paths) (leg ∷ legs) on =
    All-append (IsCrossed ports) (crossings_along frame release s path leg.hops leg.ending)
    (crossings_over frame release s paths legs)
    (crossed_along ports frame release s size ranked path leg.hops leg.ending
    (All-head (All (λ p. p < ports)) path paths on))
    (crossed_over ports frame release s size ranked paths legs (All-tail (All (λ p. p < ports)) path paths on))

-- so of a journey, and of a run
sender_is : (network : DeclaredNetwork) → IsNetwork network → (j : Travel) → IsJourney network j
    → IsSender network.topology (sender_at network j.release.sender)
sender_is network net j is = each_is_sender network net j.release.sender no_sender is.sender

journey_crossed : (network : DeclaredNetwork) → IsNetwork network → (frame : ℕ) (j : Travel) → IsJourney network j
    → All (IsCrossed (length network.topology.ports)) (journey_crossings network frame j)
journey_crossed network net frame j is =
    let s : Sender = sender_at network j.release.sender in
    let keeps : IsSender network.topology s = sender_is network net j is in
    crossed_over (length network.topology.ports) frame j.release s is.octets (λ p. class_at-le s p keeps.classes)
    (legs_of s.ports s.branches) (legs_in j)
    (legs_keep (λ p. p < length network.topology.ports) 0 s.ports s.branches keeps.ports)

crossed_from : (network : DeclaredNetwork) → IsNetwork network → (frame : ℕ) (run : List Travel)
    → All (IsJourney network) run → All (IsCrossed (length network.topology.ports)) (crossings_from network frame run)
crossed_from network net frame [] all = All-nil (IsCrossed (length network.topology.ports))
crossed_from network net frame (j ∷ run) all =
    All-append (IsCrossed (length network.topology.ports)) (journey_crossings network frame j)
    (crossings_from network (frame + 1) run)
    (journey_crossed network net frame j (All-head (IsJourney network) j run all))
    (crossed_from network net (frame + 1) run (All-tail (IsJourney network) j run all))

-- a frame crosses each of its sender's ports at most once
few_over : (frame : ℕ) (release : Release) (s : Sender) (paths : List (List ℕ)) (legs : List Leg)
    → length (crossings_over frame release s paths legs) ≤ length (concat paths)
few_over frame release s [] legs = omega arith
few_over frame release s (path ∷ paths) [] = omega arith
few_over frame release s (path ∷ paths) (leg ∷ legs) =
    omega (
      arith,
      few_along frame release s path leg.hops leg.ending,
      few_over frame release s paths legs,
      length-append (crossings_along frame release s path leg.hops leg.ending)
          (crossings_over frame release s paths legs),
      length-append path (concat paths),
    )

few_from : (network : DeclaredNetwork) → IsNetwork network → (frame : ℕ) (run : List Travel)
    → All (IsJourney network) run → length (crossings_from network frame run) ≤ 65536 * length run
few_from network net frame [] all = omega arith
few_from network net frame (j ∷ run) all =
    let is : IsJourney network j = All-head (IsJourney network) j run all in
    let s : Sender = sender_at network j.release.sender in
    let here : length (journey_crossings network frame j) ≤ length (concat (legs_of s.ports s.branches)) =
    few_over frame j.release s (legs_of s.ports s.branches) (legs_in j) in
    let whole = concat-legs_of s.ports s.branches (sender_is network net j is).branches in
    let few = few_ports network j.release.sender net is.sender in
    let rest = few_from network net (frame + 1) run (All-tail (IsJourney network) j run all) in
    omega (
      arith,
      here,
      ap (λ (l : List ℕ). length l) whole,
      few,
      rest,
      length-append (journey_crossings network frame j)
          (crossings_from network (frame + 1) run),
    )

-- the moments of a crossing are inside, and at most two
between_inside : (ports : ℕ) (b : Bool) (m n : Moment) → IsInside ports m → IsInside ports n
    → All (IsInside ports) (cond b (m ∷ n ∷ []) [])
between_inside ports true m n one other =
    All-cons (IsInside ports) m (n ∷ []) one (All-cons (IsInside ports) n [] other (All-nil (IsInside ports)))
between_inside ports false m n one other = All-nil (IsInside ports)

all_inside : (ports : ℕ) (xs : List Crossing) → All (IsCrossed ports) xs
    → All (IsInside ports) (flat_map moments_of xs)
all_inside ports [] all = All-nil (IsInside ports)
all_inside ports (c ∷ xs) all =
    let is : IsCrossed ports c = All-head (IsCrossed ports) c xs all in
    All-append (IsInside ports) (moments_of c) (flat_map moments_of xs)
    (between_inside ports (nat_lt c.came c.sent.end) _ _
    (record { port = is.port; class = is.class; bits = is.bits })
    (record { port = is.port; class = is.class; bits = is.bits }))
    (all_inside ports xs (All-tail (IsCrossed ports) c xs all))

two_at_most : (b : Bool) (m n : Moment) → length (cond b (m ∷ n ∷ []) []) ≤ 2
two_at_most true m n = omega arith
two_at_most false m n = omega arith

few_moments : (xs : List Crossing) → length (flat_map moments_of xs) ≤ 2 * length xs
few_moments [] = omega arith
few_moments (c ∷ xs) =
    let here : length (moments_of c) ≤ 2 = two_at_most (nat_lt c.came c.sent.end) _ _ in
    omega (arith, here, few_moments xs, length-append (moments_of c) (flat_map moments_of xs))

-- so are those of a legal run
pub moments_inside : (network : DeclaredNetwork) (run : List Travel) → IsNetwork network → IsIdeal network run
    → All (IsInside (length network.topology.ports)) (moments_in network run)
moments_inside network run net legal =
    all_inside (length network.topology.ports) (crossings_from network 0 run)
    (crossed_from network net 0 run legal.journeys)

pub moments_few : (network : DeclaredNetwork) (run : List Travel) → IsNetwork network → IsIdeal network run
    → length (moments_in network run) ≤ 131072 * length run
moments_few network run net legal =
    omega (arith, few_moments (crossings_from network 0 run), few_from network net 0 run legal.journeys)
