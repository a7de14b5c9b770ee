-- What the senders at a port make of a class when one goes.
use Rattle.std.proofs.Common.{◌≡◌, ℕ, ◌≤◌, Bool, true, false, cond, List, ◌∷◌, ◌++◌, map, get_or}
use Rattle.std.proofs.Common.{sym, ap, ◌∙◌, subst, arith}
use Rattle.std.specs.Prelude.{◌||◌}
use Rattle.std.specs.List.{All, list_any}
use Rattle.std.proofs.Math.Nat.{mul-le-mul_left}
use Rattle.std.proofs.lemmas.Bool.{eqb-true, or_right}
use Rattle.std.proofs.lemmas.List.{map-append}
use Rattle.ats_topology.specs.Port.{port_at}
use Rattle.ats_streams.specs.Stream.{DeclaredStream}
use Rattle.ats_network.specs.Sender.{stream_sender}
use Rattle.ats_network.specs.Class.{PortSender, seen_at}
use Rattle.ats_network.specs.Network.{IsNetwork, senders_of}
use Rattle.ats_network.proofs.SenderLemmas.{each_is_sender}
use Rattle.ats_certificate.specs.PortSums.{PortSums, uses, is_above, is_of, is_below, longest, shortest, senders_at}
use Rattle.ats_certificate.specs.PortSums.{sums_over, port_sums, is_used}
use Rattle.ats_tally.proofs.Places.{used_by_sender, used_class}
use Rattle.ats_tally.proofs.SeenLemmas.{IsSeen, all_seen, at_more, senders_at-append}
use Rattle.ats_admission_law.proofs.Lists.{any_less}
use Rattle.ats_admission_law.proofs.Networks.{Parts, less, more, behind, senders_less, senders_more, less_is}
use Rattle.ats_admission_law.proofs.Sums.{sum_less, greatest_less, least_less, least_in_sum}

-- a stream among the others, as a sender
pub streams_more : (p : Parts) (x : DeclaredStream) → map stream_sender (more p x).streams
    ≡ map stream_sender p.front ++ stream_sender x ∷ map stream_sender p.back
streams_more p x = map-append stream_sender p.front (x ∷ p.back)

pub streams_less : (p : Parts) → map stream_sender (less p).streams
    ≡ map stream_sender p.front ++ map stream_sender p.back
streams_less p = map-append stream_sender p.front p.back

-- a port and class that some of the others uses is used by some of all
pub still_used : (p : Parts) (x : DeclaredStream) (port class : ℕ) → is_used (less p) port class ≡ true
    → is_used (more p x) port class ≡ true
still_used p x port class used =
    let front : List PortSender = senders_at p.topology port (map stream_sender p.front) in
    let back : List PortSender = senders_at p.topology port (map stream_sender p.back) in
    let seen : PortSender = seen_at p.topology port (stream_sender x) in
    let some : list_any (is_of class) (front ++ back) ≡ true =
    sym (ap (list_any (is_of class)) (ap (senders_at p.topology port) (streams_less p)
    ∙ senders_at-append p.topology port (map stream_sender p.front) (map stream_sender p.back))) ∙ used in
    ap (list_any (is_of class)) (ap (senders_at p.topology port) (streams_more p x)
    ∙ at_more p.topology port (map stream_sender p.front) (stream_sender x) (map stream_sender p.back))
    ∙ by (uses port (stream_sender x)) front seen back some
  where
    by : (b : Bool) (front : List PortSender) (seen : PortSender) (back : List PortSender)
        → list_any (is_of class) (front ++ back) ≡ true
        → list_any (is_of class) (front ++ cond b (seen ∷ back) back) ≡ true
    by true front seen back some = any_less (is_of class) front seen back some
    by false front seen back some = some

-- no sum rises, the shortest frame does not get shorter, and the bursts cover it
pub record SumsFall (old new : PortSums) : Type 0 where
  pub higher : new.higher ≤ old.higher
  pub equal : new.equal ≤ old.equal
  pub bursts : new.bursts ≤ old.bursts
  pub lower : new.lower ≤ old.lower
  pub least : old.least ≤ new.least
  pub covered : new.least ≤ new.bursts

-- the burst of a sender of a class covers its shortest frame
is_covered : (class : ℕ) (ss : List PortSender) → 1 ≤ class → All IsSeen ss
    → All (λ (s : PortSender). is_of class s ≡ true → ((is_above class s || is_of class s) ≡ true)
    × (shortest s ≤ s.burst_bits)) ss
is_covered class ss shaped all k d h of =
    let s : PortSender = get_or ss k d in
    let seen : IsSeen s = all k d h in
    let same : s.class ≡ class = eqb-true s.class class of in
    let rules = seen.shaped (omega (arith, same, shaped)) in
    (or_right (is_above class s) (is_of class s) of, omega (arith, rules.covers, seen.sizes.ordered))

covered : (ps class : ℕ) (ss : List PortSender) → 1 ≤ class → All IsSeen ss
    → (sums_over ps class ss).least ≤ (sums_over ps class ss).bursts
covered ps class ss shaped all =
    least_in_sum (is_of class) shortest (λ (s : PortSender). is_above class s || is_of class s)
    (λ (s : PortSender). s.burst_bits) ss (is_covered class ss shaped all)

sums_fall : (ps class : ℕ) (xs : List PortSender) (s : PortSender) (ys : List PortSender) → 1 ≤ class
    → All IsSeen (xs ++ ys) → list_any (is_of class) (xs ++ ys) ≡ true
    → SumsFall (sums_over ps class (xs ++ s ∷ ys)) (sums_over ps class (xs ++ ys))
sums_fall ps class xs s ys shaped all any =
    let rate : PortSender → ℕ = λ (t : PortSender). t.rate in
    let burst : PortSender → ℕ = λ (t : PortSender). t.burst_bits in
    record {
      higher = mul-le-mul_left ps (omega (arith, sum_less (is_above class) rate xs s ys));
      equal = mul-le-mul_left ps (omega (arith, sum_less (is_of class) rate xs s ys));
      bursts =
          omega (arith, sum_less (λ (t : PortSender). is_above class t || is_of class t) burst xs s ys);
      lower = greatest_less (is_below class) longest xs s ys;
      least = least_less (is_of class) shortest xs s ys any;
      covered = covered ps class (xs ++ ys) shaped all;
    }

sums_stay : (ps class : ℕ) (ss : List PortSender) → 1 ≤ class → All IsSeen ss
    → SumsFall (sums_over ps class ss) (sums_over ps class ss)
sums_stay ps class ss shaped all = record {
  higher = omega arith;
  equal = omega arith;
  bursts = omega arith;
  lower = omega arith;
  least = omega arith;
  covered = covered ps class ss shaped all;
}

-- so it is at each port and class that some of the other streams uses
pub port_falls : (p : Parts) (x : DeclaredStream) (port class : ℕ) → IsNetwork (more p x)
    → is_used (less p) port class ≡ true
    → SumsFall (port_sums (more p x) port class) (port_sums (less p) port class)
port_falls p x port class is used =
    let ps : ℕ = (port_at p.topology.ports port).ps_per_bit in
    let others : IsNetwork (less p) = less_is p x is in
    let shaped : 1 ≤ class = used_class (less p) port class others used in
    let front : List PortSender = senders_at p.topology port (map stream_sender p.front) in
    let back : List PortSender = senders_at p.topology port (behind p) in
    let seen : PortSender = seen_at p.topology port (stream_sender x) in
    let after : senders_at p.topology port (senders_of (less p)) ≡ front ++ back =
    ap (senders_at p.topology port) (senders_less p)
    ∙ senders_at-append p.topology port (map stream_sender p.front) (behind p) in
    let before : senders_at p.topology port (senders_of (more p x))
    ≡ front ++ cond (uses port (stream_sender x)) (seen ∷ back) back =
    ap (senders_at p.topology port) (senders_more p x)
    ∙ at_more p.topology port (map stream_sender p.front) (stream_sender x) (behind p) in
    let all : All IsSeen (front ++ back) = subst (λ (ss : List PortSender). All IsSeen ss) after
    (all_seen p.topology port (senders_of (less p)) (each_is_sender (less p) others)) in
    let any : list_any (is_of class) (front ++ back) ≡ true =
    sym (ap (list_any (is_of class)) after) ∙ used_by_sender (less p) port class used in
    subst (λ (ss : List PortSender). SumsFall (sums_over ps class ss) (port_sums (less p) port class)) (sym before)
    (subst (λ (ss : List PortSender).
    SumsFall (sums_over ps class (front ++ cond (uses port (stream_sender x)) (seen ∷ back) back))
    (sums_over ps class ss)) (sym after) (by (uses port (stream_sender x)) ps front seen back shaped all any))
  where
    by : (b : Bool) (ps : ℕ) (front : List PortSender) (seen : PortSender) (back : List PortSender) → 1 ≤ class
        → All IsSeen (front ++ back) → list_any (is_of class) (front ++ back) ≡ true
        → SumsFall (sums_over ps class (front ++ cond b (seen ∷ back) back)) (sums_over ps class (front ++ back))
    by true ps front seen back shaped all any = sums_fall ps class front seen back shaped all any
    by false ps front seen back shaped all any = sums_stay ps class (front ++ back) shaped all
