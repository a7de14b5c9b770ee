-- The senders of a network as a port sees them.
use Rattle.std.proofs.Common.{◌≡◌, ℕ, ◌+◌, ◌<◌, ◌≤◌, Bool, true, false, cond, List, [], ◌∷◌, ◌++◌, length, get_or, map}
use Rattle.std.proofs.Common.{filter, take, refl, sym, ap, subst, ◌∙◌, arith}
use Rattle.std.specs.List.{All}
use Rattle.std.proofs.lemmas.Bool.{ne_eqb}
use Rattle.std.proofs.lemmas.List.{get_or_append_left, map-append, length-map}
use Rattle.std.proofs.lemmas.List.Elements.{All-map, All-filter, All-weaker, filter_passes, filter-append, filter_more}
use Rattle.std.proofs.lemmas.List.Sums.{length-filter, count_by-le-length}
use Rattle.ats_num.specs.declared.wire.TheConstants.{MIN_OCTETS}
use Rattle.ats_clock.specs.Rates.{committed}
use Rattle.ats_clock.specs.declared.committed.Committed.{Committed}
use Rattle.ats_streams.specs.Rules.{AreSizes, KeepsRules}
use Rattle.ats_streams.specs.Stream.{DeclaredStream, IsStream}
use Rattle.ats_streams.specs.Flow.{DeclaredFlow}
use Rattle.ats_topology.specs.Topology.{DeclaredTopology, IsTopology}
use Rattle.ats_network.specs.Sender.{Sender, stream_sender, flow_sender}
use Rattle.ats_network.specs.Senders.{IsSender, no_sender, sender_at}
use Rattle.ats_network.specs.Network.{DeclaredNetwork, IsNetwork}
use Rattle.ats_network.specs.Rates.{IsRated, committed_at}
use Rattle.ats_network.specs.Class.{PortSender, class_at, seen_at}
use Rattle.ats_network.proofs.ClassLemmas.{class_at-le, class_at-flow, class_at-stream}
use Rattle.ats_network.proofs.RateLemmas.{flow_sees_nothing, seen_ruled}
use Rattle.ats_certificate.specs.PortSums.{uses, is_of, senders_at}

-- what each sender keeps that a port sees
pub record IsSeen (s : PortSender) : Type 0 where
  pub class : s.class ≤ 7
  pub sizes : AreSizes s.min_octets s.max_octets
  pub shaped : 1 ≤ s.class → KeepsRules s.rate s.burst_bits s.min_octets s.max_octets

pub seen_is : (topology : DeclaredTopology) (port : ℕ) (s : Sender) → IsSender topology s
    → IsSeen (seen_at topology port s)
seen_is topology port s is = record {
  class = class_at-le s port is.classes;
  sizes = is.sizes;
  shaped = seen_ruled topology s port is;
}

-- so does each that a port sees
pub all_seen : (topology : DeclaredTopology) (port : ℕ) (senders : List Sender) → All (IsSender topology) senders
    → All IsSeen (senders_at topology port senders)
all_seen topology port senders all =
    All-map IsSeen (seen_at topology port) (filter (uses port) senders)
    (All-weaker (IsSender topology) (λ (s : Sender). IsSeen (seen_at topology port s)) (seen_is topology port)
    (filter (uses port) senders) (All-filter (uses port) (IsSender topology) senders all))

-- what a port sees of senders that stand in two lists, one after the other
pub senders_at-append : (topology : DeclaredTopology) (port : ℕ) (xs ys : List Sender)
    → senders_at topology port (xs ++ ys) ≡ senders_at topology port xs ++ senders_at topology port ys
senders_at-append topology port xs ys =
    ap (map (seen_at topology port)) (filter-append (uses port) xs ys)
    ∙ map-append (seen_at topology port) (filter (uses port) xs) (filter (uses port) ys)

-- what a port sees of a sender, where it uses the port, and of those behind it
at_first : (topology : DeclaredTopology) (port : ℕ) (s : Sender) (ss : List Sender)
    → senders_at topology port (s ∷ ss)
    ≡ cond (uses port s) (seen_at topology port s ∷ senders_at topology port ss) (senders_at topology port ss)
at_first topology port s ss = by (uses port s)
  where
    by : (b : Bool) → map (seen_at topology port) (cond b (s ∷ filter (uses port) ss) (filter (uses port) ss))
        ≡ cond b (seen_at topology port s ∷ senders_at topology port ss) (senders_at topology port ss)
    by true = refl
    by false = refl

pub at_more : (topology : DeclaredTopology) (port : ℕ) (xs : List Sender) (s : Sender) (ys : List Sender)
    → senders_at topology port (xs ++ s ∷ ys) ≡ senders_at topology port xs
    ++ cond (uses port s) (seen_at topology port s ∷ senders_at topology port ys) (senders_at topology port ys)
at_more topology port xs s ys =
    senders_at-append topology port xs (s ∷ ys)
    ∙ ap (λ (ss : List PortSender). senders_at topology port xs ++ ss) (at_first topology port s ys)

-- a port that a sender does not use sees the same senders without it
pub at_same : (topology : DeclaredTopology) (port : ℕ) (xs : List Sender) (s : Sender) (ys : List Sender)
    → uses port s ≡ false → senders_at topology port (xs ++ ys) ≡ senders_at topology port (xs ++ s ∷ ys)
at_same topology port xs s ys unused =
    let seen : PortSender = seen_at topology port s in
    senders_at-append topology port xs ys ∙ sym (at_more topology port xs s ys
    ∙ ap (λ (b : Bool). senders_at topology port xs
    ++ cond b (seen ∷ senders_at topology port ys) (senders_at topology port ys)) unused)

-- one sender more, where it uses the port
pub senders_at-more : (topology : DeclaredTopology) (port : ℕ) (senders : List Sender) (i : ℕ) (d : Sender)
    → i < length senders
    → senders_at topology port (take (i + 1) senders) ≡ senders_at topology port (take i senders)
    ++ cond (uses port (get_or senders i d)) (seen_at topology port (get_or senders i d) ∷ []) []
senders_at-more topology port senders i d within =
    let s : Sender = get_or senders i d in
    ap (map (seen_at topology port)) (filter_more (uses port) senders i d within)
    ∙ map-append (seen_at topology port) (filter (uses port) (take i senders)) (cond (uses port s) (s ∷ []) [])
    ∙ ap (λ (t : List PortSender). senders_at topology port (take i senders) ++ t) (by s (uses port s))
  where
    by : (s : Sender) (b : Bool) → map (seen_at topology port) (cond b (s ∷ []) [])
        ≡ cond b (seen_at topology port s ∷ []) []
    by s true = refl
    by s false = refl

-- a port sees no more senders than there are
pub few_at : (topology : DeclaredTopology) (port : ℕ) (senders : List Sender)
    → length (senders_at topology port senders) ≤ length senders
few_at topology port senders = omega (
  arith,
  length-map (filter (uses port) senders) (seen_at topology port),
  length-filter (uses port) senders,
  count_by-le-length (uses port) senders,
)

-- a stream is of a class from 1 on at each of its ports
pub streams_class : (topology : DeclaredTopology) (port : ℕ) (streams : List DeclaredStream) → All IsStream streams
    → All (λ (s : PortSender). 1 ≤ s.class) (senders_at topology port (map stream_sender streams))
streams_class topology port streams all =
    let senders : List Sender = map stream_sender streams in
    let each : All (λ (s : Sender). uses port s ≡ true → 1 ≤ class_at s port) senders =
    All-map (λ (s : Sender). uses port s ≡ true → 1 ≤ class_at s port) stream_sender streams
    (All-weaker IsStream (λ (s : DeclaredStream). uses port (stream_sender s) ≡ true
    → 1 ≤ class_at (stream_sender s) port) (λ s is has. (class_at-stream s port is has).least) streams all) in
    All-map (λ (s : PortSender). 1 ≤ s.class) (seen_at topology port) (filter (uses port) senders)
    (λ k d h. All-filter (uses port) (λ (s : Sender). uses port s ≡ true → 1 ≤ class_at s port) senders each k d h
    (filter_passes (uses port) senders k d h))

-- a flow is of no class of streams
pub flows_class : (topology : DeclaredTopology) (port class : ℕ) (flows : List DeclaredFlow) → 1 ≤ class
    → All (λ (s : PortSender). is_of class s ≡ false) (senders_at topology port (map flow_sender flows))
flows_class topology port class flows shaped =
    let senders : List Sender = map flow_sender flows in
    All-map (λ (s : PortSender). is_of class s ≡ false) (seen_at topology port) (filter (uses port) senders)
    (All-filter (uses port) (λ (s : Sender). is_of class (seen_at topology port s) ≡ false) senders
    (All-map (λ (s : Sender). is_of class (seen_at topology port s) ≡ false) flow_sender flows
    (λ k d h. other (get_or flows k d))))
  where
    other : (f : DeclaredFlow) → is_of class (seen_at topology port (flow_sender f)) ≡ false
    other f = let none = class_at-flow f port in
        ne_eqb (class_at (flow_sender f) port) class (λ e. omega (arith, none, e, shaped))

-- what a port sees of a sender is told part by part
pub seen_parts : (topology : DeclaredTopology) (port : ℕ) (s : Sender) (p : PortSender) → p.class ≡ class_at s port
    → p.rate ≡ (committed_at topology port s).rate → p.burst_bits ≡ (committed_at topology port s).burst_bits
    → p.min_octets ≡ s.min_octets → p.max_octets ≡ s.max_octets → p ≡ seen_at topology port s
seen_parts topology port s p class rate burst least most =
    ap (λ (n : ℕ). made n p.rate p.burst_bits p.min_octets p.max_octets) class
    ∙ ap (λ (n : ℕ). made (class_at s port) n p.burst_bits p.min_octets p.max_octets) rate
    ∙ ap (λ (n : ℕ). made (class_at s port) c.rate n p.min_octets p.max_octets) burst
    ∙ ap (λ (n : ℕ). made (class_at s port) c.rate c.burst_bits n p.max_octets) least
    ∙ ap (made (class_at s port) c.rate c.burst_bits s.min_octets) most
  where
    c : Committed
    c = committed_at topology port s

    made : ℕ → ℕ → ℕ → ℕ → ℕ → PortSender
    made class rate burst least most = record {
      class = class;
      rate = rate;
      burst_bits = burst;
      min_octets = least;
      max_octets = most;
    }

-- a flow as a port sees it
pub flow_seen : (topology : DeclaredTopology) (f : DeclaredFlow) (port : ℕ) → IsTopology topology → record {
  class = 0;
  rate = 0;
  burst_bits = 0;
  min_octets = MIN_OCTETS;
  max_octets = f.max_octets;
} ≡ seen_at topology port (flow_sender f)
flow_seen topology f port lawful =
    let class : class_at (flow_sender f) port ≡ 0 = class_at-flow f port in
    let none : committed_at topology port (flow_sender f) ≡ committed 0 0 =
    (flow_sees_nothing topology f port lawful).seen in
    seen_parts topology port (flow_sender f) _ (sym class) (sym (ap (λ (c : Committed). c.rate) none))
    (sym (ap (λ (c : Committed). c.burst_bits) none)) refl refl

-- a stream has rates within the limits at each of its ports
pub stream_rated : (network : DeclaredNetwork) (n hop : ℕ) (s : Sender) → IsNetwork network
    → n < length network.streams → s ≡ sender_at network n → hop < length s.ports
    → IsRated network.topology s (get_or s.ports hop 0)
stream_rated network n hop s is within same inside =
    subst Rated (sym (same ∙ first)) (each n no_sender (omega (arith, within, long))) hop 0 inside
  where
    Rated : Sender → Type 0
    Rated t = All (IsRated network.topology t) t.ports

    streams : List Sender
    streams = map stream_sender network.streams

    long : length streams ≡ length network.streams
    long = length-map network.streams stream_sender

    each : All Rated streams
    each = All-map Rated stream_sender network.streams is.rates

    first : sender_at network n ≡ get_or streams n no_sender
    first = get_or_append_left streams (map flow_sender network.flows) no_sender n (omega (arith, within, long))
