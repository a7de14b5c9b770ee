use Rattle.std.proofs.Common.{◌≡◌, ℕ, ◌<◌, ◌≤◌, false, List, [], ◌∷◌, filter, map, length, get_or, All, refl, sym, ap}
use Rattle.std.proofs.Common.{◌∙◌, subst, inl, inr, arith}
use Rattle.std.specs.Prelude.{◌==◌}
use Rattle.std.proofs.lemmas.Bool.{cases_Bool, cases_eq, cond-false, eqb-true, false≢true, ne_eqb}
use Rattle.std.proofs.lemmas.List.Elements.{All-filter, All-head, All-map, All-tail, filter_passes}
use Rattle.std.proofs.lemmas.List.Sorted.{All-permutation, IsPermutation-refl, sum_by-IsPermutation}
use Rattle.ats_num.specs.Wire.{bits_of}
use Rattle.ats_bucket.specs.Conforming.{Frame}
use Rattle.ats_streams.specs.declared.traffic.Declared.{Declared}
use Rattle.ats_group.specs.Judge.{Judge, bucket_rule}
use Rattle.ats_group_law.specs.Regulator.{AreNoMore}
use Rattle.ats_group_law.proofs.Order.{from_frames}
use Rattle.ats_network.specs.Network.{DeclaredNetwork}
use Rattle.ats_network.specs.Senders.{sender_at}
use Rattle.ats_certificate.specs.PortSums.{uses}
use Rattle.ats_port_rule.specs.Transmission.{Transmission}
use Rattle.ats_port_law.specs.PortLaw.{ConformsInOrder, IsDeclared, IsOffered, frame_of, frames_by}
use Rattle.ats_trace.specs.Journey.{Travel}
use Rattle.ats_trace.specs.Projections.{Hop, hops_from, sent_by}
use Rattle.ats_trace.specs.Eligibility.{committed_by}
use Rattle.ats_soundness_law.proofs.Bits.{sent_of}
use Rattle.ats_soundness_law.proofs.Known.{CaseBy}
use Rattle.ats_soundness_law.proofs.Sorting.{InOrder, in_order}
use Rattle.ats_soundness_law.proofs.Streams.{committed_ruled, stream_class, stream_exists}

-- a transmission is a declared one, where it is of this port
abbrev pub DeclaredAt : DeclaredNetwork → ℕ → Hop → Type 0
DeclaredAt network port g = g.port ≡ port → IsDeclared network port g.sent

-- the transmissions of a port, of those of a run
pub at_port : (P : Transmission → Type 0) (network : DeclaredNetwork) (run : List Travel) (port : ℕ)
    → All (λ (g : Hop). g.port ≡ port → P g.sent) (hops_from network 0 run) → All P (sent_by network run port)
at_port P network run port all =
    let hops : List Hop = hops_from network 0 run in
    let test = λ (g : Hop). g.port == port in
    let chosen = All-filter test (λ (g : Hop). g.port ≡ port → P g.sent) hops all in
    let passes = filter_passes test hops in
    All-map P (λ (g : Hop). g.sent) (filter test hops)
    (λ k d h. chosen k d h (eqb-true (get_or (filter test hops) k d).port port (passes k d h)))

-- what a port was asked to send of a stream is no more than frames that keep the stream's rule as the port sees it
pub record Kept (rule : Declared → List Frame → Type 0) (network : DeclaredNetwork) (run : List Travel)
    (port i : ℕ) : Type 0 where
  pub others : List Frame
  pub keeps : rule (committed_by network port i) others
  pub no_more : AreNoMore (frames_by i (sent_by network run port)) others

-- so of each stream; and the port is offered what it may be asked to send
pub record IsFed (rule : Declared → List Frame → Type 0) (network : DeclaredNetwork) (run : List Travel)
    (port : ℕ) : Type 0 where
  pub offered : IsOffered network port (sent_by network run port)
  pub kept : (i : ℕ) → i < length network.streams → Kept rule network run port i

-- a sender's frames are no longer than it declares
own_sizes : (network : DeclaredNetwork) (run : List Travel) (port i : ℕ)
    → All (IsDeclared network port) (sent_by network run port)
    → All (λ (f : Frame). f.bits ≤ bits_of (sender_at network i).max_octets) (frames_by i (sent_by network run port))
own_sizes network run port i each =
    let sent : List Transmission = sent_by network run port in
    let test = λ (x : Transmission). x.sender == i in
    All-map (λ (f : Frame). f.bits ≤ bits_of (sender_at network i).max_octets) frame_of (filter test sent)
    (λ k d h. (
    let x : Transmission = get_or (filter test sent) k d in
    let same : x.sender ≡ i = eqb-true x.sender i (filter_passes test sent k d h) in
    let most = (All-filter test (IsDeclared network port) sent each k d h).most in
    subst (λ (n : ℕ). x.bits ≤ bits_of (sender_at network n).max_octets) same most))

-- a stream that does not use the port has none there
pub none_sent : (network : DeclaredNetwork) (port i : ℕ) (sent : List Transmission)
    → All (IsDeclared network port) sent → uses port (sender_at network i) ≡ false → sent_of i sent ≡ []
none_sent network port i [] each unused = refl
none_sent network port i (x ∷ sent) each unused =
    elim (cases_eq x.sender i) as (λ _. sent_of i (x ∷ sent) ≡ []) [
      | inl same ↦ absurd (false≢true (sym unused ∙ ap (λ (n : ℕ). uses port (sender_at network n)) (sym same)
          ∙ (All-head (IsDeclared network port) x sent each).uses))
      | inr other ↦ cond-false (x.sender == i) (x ∷ own) own (ne_eqb x.sender i other)
          ∙ none_sent network port i sent (All-tail (IsDeclared network port) x sent each) unused
    ]
  where
    own : List Transmission
    own = filter (λ (y : Transmission). y.sender == i) sent

pub none_conforms : (rate burst : ℕ) → ConformsInOrder rate burst []
none_conforms rate burst = record {
  order = [];
  same = IsPermutation-refl [];
  conforms = record { in_order = λ i j d h k. absurd (omega arith); within = λ i j h k. absurd (omega arith) };
}

-- a stream's frames that are no more than frames that keep its rule conform, put in the order of their times
conforming : {judge : Judge} {rule : Declared → List Frame → Type 0} (network : DeclaredNetwork) (run : List Travel)
    (port i : ℕ) → CaseBy judge rule network run → All (IsDeclared network port) (sent_by network run port)
    → i < length network.streams → Kept rule network run port i
    → ConformsInOrder (committed_by network port i).rate (committed_by network port i).burst_bits
    (frames_by i (sent_by network run port))
conforming {judge} {rule} network run port i c each h kept =
    elim (cases_Bool (uses port (sender_at network i))) as (λ _. ConformsInOrder d.rate d.burst_bits frames) [
      | inl used ↦ record {
        order = o.order;
        same = o.same;
        conforms = c.rules.conforms d o.order
            (committed_ruled network c.net port i (stream_exists network i h)
            (stream_class network c.net port i h used))
            (All-permutation (λ (f : Frame). f.bits ≤ bits_of (sender_at network i).max_octets) frames o.order o.same
            (own_sizes network run port i each))
            (c.rules.fewer d o.order kept.others kept.keeps (from_frames o.order o.ascends)
            (λ weight. omega (arith, sum_by-IsPermutation weight frames o.order o.same, kept.no_more weight)));
      }
      | inr unused ↦ subst (ConformsInOrder d.rate d.burst_bits)
          (sym (ap (λ (xs : List Transmission). map frame_of xs)
          (none_sent network port i (sent_by network run port) each unused))) (none_conforms d.rate d.burst_bits)
    ]
  where
    d : Declared
    d = committed_by network port i

    frames : List Frame
    frames = frames_by i (sent_by network run port)

    o : InOrder frames
    o = in_order frames

pub fed : {judge : Judge} {rule : Declared → List Frame → Type 0} (network : DeclaredNetwork) (run : List Travel)
    (port : ℕ) → CaseBy judge rule network run → All (DeclaredAt network port) (hops_from network 0 run)
    → ((i : ℕ) → i < length network.streams → Kept rule network run port i) → IsFed rule network run port
fed {judge} {rule} network run port c declared kept =
    let each : All (IsDeclared network port) (sent_by network run port) =
    at_port (IsDeclared network port) network run port declared in
    record {
      kept = kept;
      offered = record {
        each = each;
        streams = λ i h. conforming network run port i c each h (kept i h);
      };
    }

-- where each stream's frames conform, its rule is that of its bucket
pub by_buckets : (network : DeclaredNetwork) (run : List Travel) (port : ℕ)
    → IsOffered network port (sent_by network run port) → IsFed bucket_rule network run port
by_buckets network run port offered = record {
  offered = offered;
  kept = λ i h. (
      let frames : List Frame = frames_by i (sent_by network run port) in
      let c = offered.streams i h in
      record {
        others = c.order;
        keeps = c.conforms;
        no_more = λ weight. omega (arith, sum_by-IsPermutation weight frames c.order c.same);
      });
}
