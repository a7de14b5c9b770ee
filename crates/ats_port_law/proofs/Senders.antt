use Rattle.std.proofs.Common.{◌≡◌, ℕ, ◌+◌, ◌-◌, ◌*◌, ◌<◌, ◌≤◌, Bool, true, false, cond, List, [], length, length-append}
use Rattle.std.proofs.Common.{get_or, map, sum_by, All, None, subst, sym, ap, ◌∙◌, inl, inr, arith}
use Rattle.std.specs.Prelude.{◌==◌, ◌&&◌, nat_le, nat_lt}
use Rattle.std.proofs.lemmas.Bool.{cases_Bool, cases_lt, cases_order, cond-true, cond-false, eqb-true, eq-eqb, ne_eqb}
use Rattle.std.proofs.lemmas.Bool.{lt-ltb, le-ltb, le-leb, and_from, true≢false}
use Rattle.std.proofs.lemmas.List.{get_or-map, length-map, get_or_append_left, get_or-append_right}
use Rattle.ats_network.proofs.SenderLemmas.{no_flow}
use Rattle.ats_num.specs.declared.time.TheConstants.{PS_PER_SECOND}
use Rattle.ats_port_rule.specs.Transmission.{Transmission}
use Rattle.ats_clock.specs.declared.committed.Committed.{Committed}
use Rattle.ats_topology.specs.Topology.{DeclaredTopology}
use Rattle.ats_streams.specs.Stream.{DeclaredStream}
use Rattle.ats_network.specs.Sender.{Sender, stream_sender, flow_sender}
use Rattle.ats_network.specs.Class.{PortSender, class_at, seen_at}
use Rattle.ats_network.specs.Rates.{committed_at}
use Rattle.ats_network.specs.Network.{DeclaredNetwork, IsNetwork, senders_of}
use Rattle.ats_network.specs.Senders.{sender_at, no_sender}
use Rattle.ats_network.proofs.ClassLemmas.{class_at-flow}
use Rattle.ats_network.proofs.RateLemmas.{declared_no_greater}
use Rattle.ats_certificate.specs.PortSums.{uses, is_above, is_of}
use Rattle.ats_port_law.specs.PortLaw.{IsDeclared, IsOffered, IsOfferedBy, is_counted}
use Rattle.ats_port_law.proofs.Sums.{sum_by-filter, sum_by-le-all, sum_by-none, sum_by-keys}
use Rattle.ats_port_law.proofs.Totals.{share, share_seen}
use Rattle.ats_port_law.proofs.Window.{eligible_bits, sender_window}

pub no_stream : DeclaredStream
no_stream = record {
  name = [];
  ports = [];
  branches = [];
  classes = [];
  rate = 0;
  burst_bits = 0;
  min_octets = 0;
  max_octets = 0;
  deadline_ns = 0;
  identity = None;
}

-- the first senders are the streams
pub stream_at : (network : DeclaredNetwork) (i : ℕ) → i < length network.streams
    → sender_at network i ≡ stream_sender (get_or network.streams i no_stream)
stream_at network i h =
    let streams : List Sender = map stream_sender network.streams in
    get_or_append_left streams (map flow_sender network.flows) no_sender i
    (omega (arith, h, length-map network.streams stream_sender))
    ∙ get_or-map stream_sender network.streams i no_stream no_sender h

-- the others are flows, of class 0 at each port
flow_at : (network : DeclaredNetwork) (port i : ℕ) → i < length (senders_of network) → length network.streams ≤ i
    → class_at (sender_at network i) port ≡ 0
flow_at network port i h past =
    let streams : List Sender = map stream_sender network.streams in
    let flows : List Sender = map flow_sender network.flows in
    let some : i - length network.streams < length network.flows =
    omega (
      arith,
      h,
      past,
      length-append streams flows,
      length-map network.streams stream_sender,
      length-map network.flows flow_sender,
    ) in
    ap (λ (s : Sender). class_at s port)
    (get_or-append_right streams flows (length network.streams) i no_sender
    (length-map network.streams stream_sender) past
    ∙ get_or-map flow_sender network.flows (i - length network.streams) no_flow no_sender some)
    ∙ class_at-flow (get_or network.flows (i - length network.streams) no_flow) port

-- a sender that has a class of 1 or more at a port is a stream
pub is_stream : (network : DeclaredNetwork) (port i : ℕ) → i < length (senders_of network)
    → 1 ≤ class_at (sender_at network i) port → i < length network.streams
is_stream network port i h shaped = elim (cases_lt i (length network.streams)) as (λ _. i < length network.streams) [
  | inl first ↦ first
  | inr past ↦ absurd (let none = flow_at network port i h past in omega (arith, none, shaped))
]

-- so the port sees a rate
pub has_rate : (network : DeclaredNetwork) (port i : ℕ) → IsNetwork network → i < length (senders_of network)
    → 1 ≤ class_at (sender_at network i) port → 1 ≤ (committed_at network.topology port (sender_at network i)).rate
has_rate network port i n h shaped =
    let first = is_stream network port i h shaped in
    let rate = ap (λ (s : Sender). s.rate) (stream_at network i first) in
    omega (
      arith,
      rate,
      (n.streams i no_stream first).rules.rate.positive,
      (declared_no_greater network.topology (sender_at network i) port n.topology).rate,
    )

-- the bits of a transmission that was eligible no earlier than a moment, and told no later time than another one
abbrev pub told_bits : (Transmission → ℕ) → ℕ → Transmission → Transmission → ℕ
told_bits told since x y = cond (nat_le since y.eligible && nat_le (told y) (told x)) y.bits 0

-- the bits of a transmission that count for a frame of a class, since a moment: of a higher class those that became
-- eligible until late, of the same class those that were told no later time than the frame
abbrev pub counted : (Transmission → ℕ) → ℕ → ℕ → Transmission → ℕ → Transmission → ℕ
counted told class since x late y =
    cond (nat_lt class y.class) (eligible_bits since late y) (cond (y.class == class) (told_bits told since x y) 0)

pub counted-above : (told : Transmission → ℕ) (class since : ℕ) (x : Transmission) (late : ℕ) (y : Transmission)
    → class < y.class → counted told class since x late y ≡ eligible_bits since late y
counted-above told class since x late y h = cond-true (nat_lt class y.class) (eligible_bits since late y)
    (cond (y.class == class) (told_bits told since x y) 0) (lt-ltb class y.class h)

pub counted-of : (told : Transmission → ℕ) (class since : ℕ) (x : Transmission) (late : ℕ) (y : Transmission)
    → y.class ≡ class → counted told class since x late y ≡ told_bits told since x y
counted-of told class since x late y e =
    cond-false (nat_lt class y.class) (eligible_bits since late y)
    (cond (y.class == class) (told_bits told since x y) 0) (le-ltb class y.class (omega (arith, e)))
    ∙ cond-true (y.class == class) (told_bits told since x y) 0 (eq-eqb y.class class e)

counted-below : (told : Transmission → ℕ) (class since : ℕ) (x : Transmission) (late : ℕ) (y : Transmission)
    → y.class < class → counted told class since x late y ≡ 0
counted-below told class since x late y h =
    cond-false (nat_lt class y.class) (eligible_bits since late y)
    (cond (y.class == class) (told_bits told since x y) 0) (le-ltb class y.class (omega (arith, h)))
    ∙ cond-false (y.class == class) (told_bits told since x y) 0 (ne_eqb y.class class (λ e. omega (arith, e, h)))

-- where it was eligible since then, and told no later time, all its bits count
pub told_bits-all : (told : Transmission → ℕ) (since : ℕ) (x y : Transmission) → since ≤ y.eligible → told y ≤ told x
    → told_bits told since x y ≡ y.bits
told_bits-all told since x y h no_later =
    cond-true (nat_le since y.eligible && nat_le (told y) (told x)) y.bits 0
    (and_from (nat_le since y.eligible) (nat_le (told y) (told x)) (le-leb since y.eligible h)
    (le-leb (told y) (told x) no_later))

-- what is declared of a transmission, by the number of its sender
record IsOf (network : DeclaredNetwork) (port i : ℕ) (y : Transmission) : Type 0 where
  pub used : uses port (sender_at network i) ≡ true
  pub ranked : y.class ≡ class_at (sender_at network i) port

is_of_sender : (network : DeclaredNetwork) (port i : ℕ) (y : Transmission) → IsDeclared network port y → y.sender ≡ i
    → IsOf network port i y
is_of_sender network port i y d e =
    let P : ℕ → Type 0 = λ (n : ℕ). IsOf network port n y in
    subst P e (record { used = d.uses; ranked = d.class })

-- a bound on each of a sender's transmissions, as one on what it adds to a sum
of_one_sender : (network : DeclaredNetwork) (port i : ℕ) (sent : List Transmission) (f g : Transmission → ℕ)
    → All (IsDeclared network port) sent
    → ((y : Transmission) → IsOf network port i y → f y ≤ g y)
    → All (λ (y : Transmission). cond (y.sender == i) (f y) 0 ≤ cond (y.sender == i) (g y) 0) sent
of_one_sender network port i sent f g declared each k d h =
    let y : Transmission = get_or sent k d in
    elim (cases_Bool (y.sender == i)) as (λ _. cond (y.sender == i) (f y) 0 ≤ cond (y.sender == i) (g y) 0) [
      | inl e ↦ (
          let le = each y (is_of_sender network port i y (declared k d h) (eqb-true y.sender i e)) in
          omega (arith, le, cond-true (y.sender == i) (f y) 0 e, cond-true (y.sender == i) (g y) 0 e))
      | inr e ↦ omega (arith, cond-false (y.sender == i) (f y) 0 e)
    ]

-- where each of a sender's transmissions has at most the bits that became eligible in a window, they are within its
-- rate and burst at the port
within_window : (network : DeclaredNetwork) (port i : ℕ) (sent : List Transmission) (f : Transmission → ℕ) (from to : ℕ)
    → IsOffered network port sent → i < length network.streams → from ≤ to
    → ((y : Transmission) → IsOf network port i y → f y ≤ eligible_bits from to y)
    → PS_PER_SECOND * sum_by (λ (y : Transmission). cond (y.sender == i) (f y) 0) sent
    ≤ (committed_at network.topology port (sender_at network i)).rate * (to - from)
    + PS_PER_SECOND * (committed_at network.topology port (sender_at network i)).burst_bits
within_window network port i sent f from to o h order each =
    let seen : Committed = committed_at network.topology port (sender_at network i) in
    let window = sender_window seen.rate seen.burst_bits i sent from to order (o.streams i h) in
    let fewer = sum_by-le-all (λ (y : Transmission). cond (y.sender == i) (f y) 0)
    (λ (y : Transmission). cond (y.sender == i) (eligible_bits from to y) 0) sent
    (of_one_sender network port i sent f (eligible_bits from to) o.each each) in
    omega (arith, window, fewer)

cond_zero : (b : Bool) → cond b 0 0 ≤ 0
cond_zero true = omega arith
cond_zero false = omega arith

-- where each has none, they have none
of_nothing : (network : DeclaredNetwork) (port i : ℕ) (sent : List Transmission) (f : Transmission → ℕ)
    → IsOffered network port sent → ((y : Transmission) → IsOf network port i y → f y ≤ 0)
    → sum_by (λ (y : Transmission). cond (y.sender == i) (f y) 0) sent ≡ 0
of_nothing network port i sent f o each =
    sum_by-none (λ (y : Transmission). cond (y.sender == i) (f y) 0) sent
    (λ k d h. (
    let y : Transmission = get_or sent k d in
    let le = of_one_sender network port i sent f (λ (y : Transmission). 0) o.each each k d h in
    omega (arith, le, cond_zero (y.sender == i))))

share-above : (m : ℕ) (topology : DeclaredTopology) (port class above of : ℕ) (s : Sender) → uses port s ≡ true
    → class < class_at s port
    → share m topology port class above of s
    ≡ (committed_at topology port s).rate * above + m * (committed_at topology port s).burst_bits
share-above m topology port class above of s used h =
    let seen : PortSender = seen_at topology port s in
    cond-true (uses port s) (share_seen m class above of seen) 0 used
    ∙ cond-true (is_above class seen) (seen.rate * above + m * seen.burst_bits)
    (cond (is_of class seen) (seen.rate * of + m * seen.burst_bits) 0) (lt-ltb class (class_at s port) h)

share-of : (m : ℕ) (topology : DeclaredTopology) (port class above of : ℕ) (s : Sender) → uses port s ≡ true
    → class_at s port ≡ class
    → share m topology port class above of s
    ≡ (committed_at topology port s).rate * of + m * (committed_at topology port s).burst_bits
share-of m topology port class above of s used e =
    let seen : PortSender = seen_at topology port s in
    cond-true (uses port s) (share_seen m class above of seen) 0 used
    ∙ cond-false (is_above class seen) (seen.rate * above + m * seen.burst_bits)
    (cond (is_of class seen) (seen.rate * of + m * seen.burst_bits) 0)
    (le-ltb class (class_at s port) (omega (arith, e)))
    ∙ cond-true (is_of class seen) (seen.rate * of + m * seen.burst_bits) 0 (eq-eqb (class_at s port) class e)

both_tests : (own counts : Bool) (bits : ℕ) → cond own (cond counts bits 0) 0 ≤ cond (own && counts) bits 0
both_tests true counts bits = omega arith
both_tests false counts bits = omega arith

-- where each of a sender's transmissions has at most the bits that count by what frames were told, they are within its
-- rate and burst at the port
within_told : (told : Transmission → ℕ) (network : DeclaredNetwork) (port i : ℕ) (sent : List Transmission)
    (f : Transmission → ℕ) (since : ℕ) → IsOfferedBy told network port sent → i < length network.streams
    → (k : ℕ) (d : Transmission) → k < length sent
    → (get_or sent k d).class ≡ class_at (sender_at network i) port → since ≤ (get_or sent k d).eligible
    → ((y : Transmission) → IsOf network port i y → f y ≤ told_bits told since (get_or sent k d) y)
    → PS_PER_SECOND * sum_by (λ (y : Transmission). cond (y.sender == i) (f y) 0) sent
    ≤ (committed_at network.topology port (sender_at network i)).rate * ((get_or sent k d).eligible - since)
    + PS_PER_SECOND * (committed_at network.topology port (sender_at network i)).burst_bits
within_told told network port i sent f since o h k d hk class order each =
    let x : Transmission = get_or sent k d in
    let some : Transmission → ℕ = told_bits told since x in
    let window = o.counted i since h k d hk class order in
    let chosen = sum_by-filter (λ (y : Transmission). y.bits) (is_counted told i since x) sent in
    let both = sum_by-le-all (λ (y : Transmission). cond (y.sender == i) (some y) 0)
    (λ (y : Transmission). cond (is_counted told i since x y) y.bits 0) sent
    (λ n e hn. (let y : Transmission = get_or sent n e in
    both_tests (y.sender == i) (nat_le since y.eligible && nat_le (told y) (told x)) y.bits)) in
    let fewer = sum_by-le-all (λ (y : Transmission). cond (y.sender == i) (f y) 0)
    (λ (y : Transmission). cond (y.sender == i) (some y) 0) sent
    (of_one_sender network port i sent f some o.offered.each each) in
    omega (arith, window, fewer, both, chosen)

-- what one sender adds is at most its share
one_share : (told : Transmission → ℕ) (network : DeclaredNetwork) (port class since late : ℕ) (sent : List Transmission)
    → IsOfferedBy told network port sent → 1 ≤ class
    → (k : ℕ) (d : Transmission) → k < length sent → (get_or sent k d).class ≡ class
    → since ≤ (get_or sent k d).eligible → since ≤ late → (i : ℕ) → i < length (senders_of network)
    → PS_PER_SECOND
    * sum_by (λ (y : Transmission). cond (y.sender == i) (counted told class since (get_or sent k d) late y) 0) sent
    ≤ share PS_PER_SECOND network.topology port class (late - since) ((get_or sent k d).eligible - since)
    (sender_at network i)
one_share told network port class since late sent o some k d hk ranked before_early before_late i h =
    let s : Sender = sender_at network i in
    let x : Transmission = get_or sent k d in
    let early : ℕ = x.eligible in
    let part : Transmission → ℕ = counted told class since x late in
    let Goal : Type 0 = PS_PER_SECOND * sum_by (λ (y : Transmission). cond (y.sender == i) (part y) 0) sent
    ≤ share PS_PER_SECOND network.topology port class (late - since) (early - since) s in
    elim (cases_Bool (uses port s)) as (λ _. Goal) [
      | inr unused ↦ (
          let none = of_nothing network port i sent part o.offered
          (λ y d. absurd (true≢false (sym d.used ∙ unused))) in
          omega (arith, none))
      | inl used ↦ elim (cases_order class (class_at s port)) as (λ _. Goal) [
        | inl same ↦ (
            let window = within_told told network port i sent part since o
            (is_stream network port i h (omega (arith, some, same))) k d hk (ranked ∙ same) before_early
            (λ y d. (let e = counted-of told class since x late y (d.ranked ∙ sym same) in omega (arith, e))) in
            omega (
              arith,
              window,
              share-of PS_PER_SECOND network.topology port class (late - since) (early - since) s
                  used (sym same),
            ))
        | inr differ ↦ elim differ as (λ _. Goal) [
          | inl above ↦ (
              let window = within_window network port i sent part since late o.offered
              (is_stream network port i h (omega (arith, some, above))) before_late
              (λ y d. (let e = counted-above told class since x late y (omega (arith, d.ranked, above)) in
              omega (arith, e))) in
              omega (
                arith,
                window,
                share-above PS_PER_SECOND network.topology port class (late - since)
                    (early - since) s used above,
              ))
          | inr below ↦ (
              let none = of_nothing network port i sent part o.offered (λ y d. (let e =
              counted-below told class since x late y (omega (arith, d.ranked, below)) in omega (arith, e))) in
              omega (arith, none))
        ]
      ]
    ]

-- all that counts is at most the shares of all senders
pub all_shares : (told : Transmission → ℕ) (network : DeclaredNetwork) (port class since late : ℕ)
    (sent : List Transmission) → IsOfferedBy told network port sent → 1 ≤ class
    → (k : ℕ) (d : Transmission) → k < length sent → (get_or sent k d).class ≡ class
    → since ≤ (get_or sent k d).eligible → since ≤ late
    → PS_PER_SECOND * sum_by (counted told class since (get_or sent k d) late) sent
    ≤ sum_by (share PS_PER_SECOND network.topology port class (late - since) ((get_or sent k d).eligible - since))
    (senders_of network)
all_shares told network port class since late sent o some k d hk ranked before_early before_late =
    sum_by-keys PS_PER_SECOND (counted told class since (get_or sent k d) late) (λ (y : Transmission). y.sender) sent
    (share PS_PER_SECOND network.topology port class (late - since) ((get_or sent k d).eligible - since))
    (senders_of network) no_sender
    (λ n e h. (o.offered.each n e h).exists)
    (one_share told network port class since late sent o some k d hk ranked before_early before_late)
