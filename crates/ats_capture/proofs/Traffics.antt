-- Streams of a station, and the releases that records come to.
use Rattle.std.proofs.Common.{◌≡◌, ℕ, ◌+◌, ◌-◌, ◌*◌, ◌<◌, ◌≤◌, max, Bool, true, false, cond, ◌&&◌, ◌==◌, nat_le}
use Rattle.std.proofs.Common.{nat_lt, List, []}
use Rattle.std.proofs.Common.{◌∷◌, ◌++◌, length, get_or, map, Option, Some, None, Result, Ok, Err, refl, sym}
use Rattle.std.proofs.Common.{ap, ◌∙◌, subst, arith, length-append}
use Rattle.std.specs.Prelude.{All, IfOk}
use Rattle.std.specs.Option.{option_and_then}
use Rattle.std.specs.List.Sorted.{IsNonDecreasing}
use Rattle.std.proofs.lemmas.Bool.{and_parts, leb-true, ltb-false, ltb-true}
use Rattle.std.proofs.lemmas.List.{map-append, get_or-map, length-map}
use Rattle.std.proofs.lemmas.List.Elements.{All-nil, All-push, All-tail}
use Rattle.std.proofs.lemmas.Option.{none-some, same_Some}
use Rattle.std.proofs.lemmas.List.Sorted.{IsNonDecreasingBy-push, IsNonDecreasingBy-short}
use Rattle.std.proofs.lemmas.List.Sums.{sum_by-append}
use Rattle.ats_facts.proofs.Lists.{position_from-lt}
use Rattle.ats_num.specs.Failure.{◌>>=◌, ok_where}
use Rattle.ats_num.specs.declared.time.TheConstants.{PS_PER_NS}
use Rattle.ats_num.specs.declared.wire.TheConstants.{MAX_OCTETS}
use Rattle.ats_pcap.specs.declared.record.Record.{Record}
use Rattle.ats_network.specs.Network.{DeclaredNetwork, senders_of}
use Rattle.ats_network.specs.Pushes.{has_identity, place_identified}
use Rattle.ats_network.specs.Sender.{stream_sender, flow_sender}
use Rattle.ats_network.specs.Senders.{sender_at}
use Rattle.ats_trace.specs.Releases.{AreReleases, HaveFewPorts, IsRelease, ports_of_frames}
use Rattle.ats_trace.specs.Talker.{talker_of}
use Rattle.ats_trace.specs.declared.journey.Release.{Release}
use Rattle.ats_trace.specs.declared.run.TheConstants.{MAX_FRAMES, MAX_HOPS, MAX_RELEASE_PS}
use Rattle.ats_capture.specs.Reading.{IsLongEnough}
use Rattle.ats_capture.specs.Traffic.{Traffic, begun_at, first_time, no_traffic, ports_with, release_at, stream_of}
use Rattle.ats_capture.specs.Traffic.{traffic_from, traffic_of, with_record, with_release, with_stream}
use Rattle.ats_capture.specs.declared.fault.JoinFault.{JoinFault}
use Rattle.ats_capture.specs.declared.fault.JoinFault.TheVariants.{Limit}

-- a stream that is found is one of the senders
pub found_within : (network : DeclaredNetwork) (identity : ℕ × ℕ) (i : ℕ)
    → place_identified identity network.streams ≡ Some i → i < length (senders_of network)
found_within network identity i h =
    let below : i < 0 + length network.streams = position_from-lt (has_identity identity) 0 network.streams i h in
    let both = length-append (map stream_sender network.streams) (map flow_sender network.flows) in
    omega (arith, below, both, length-map network.streams stream_sender)

-- one record more
pub one_more : (network : DeclaredNetwork) (station first latest later : ℕ) (traffic more : Traffic) (r : Record)
    (records rest : List Record) (due : Result Traffic JoinFault)
    → traffic_from network station first latest traffic records ≡ due → records ≡ r ∷ rest → later ≡ max latest r.nanos
    → with_record network station (later - first) traffic r ≡ Ok more
    → traffic_from network station first later more rest ≡ due
one_more network station first latest later traffic more r records rest due h here time step =
    let whole : traffic_from network station first latest traffic (r ∷ rest) ≡ due =
    sym (ap (traffic_from network station first latest traffic) here) ∙ h in
    let stepped : with_record network station (max latest r.nanos - first) traffic r ≡ Ok more =
    ap (λ n. with_record network station (n - first) traffic r) (sym time) ∙ step in
    ap (λ n. traffic_from network station first n more rest) time
    ∙ sym (ap (λ (x : Result Traffic JoinFault).
    x >>= λ t. traffic_from network station first (max latest r.nanos) t rest) stepped) ∙ whole

-- what holds after a step
after : {A B : Type 0} (P : A → Type 0) (Q : B → Type 0) (x : Result A JoinFault) (f : A → Result B JoinFault)
    → IfOk x P → ((a : A) → P a → IfOk (f a) Q) → IfOk (x >>= f) Q
after P Q (Ok a) f h k = k a h
after P Q (Err e) f h k = tt

-- the stream that a record belongs to is one of the senders
stream_within : (network : DeclaredNetwork) (station i : ℕ) (identity : Option (ℕ × ℕ))
    → stream_of network station identity ≡ Some i → i < length (senders_of network)
stream_within network station i None h = absurd (none-some i h)
stream_within network station i (Some identity) h =
    by (place_identified identity network.streams) refl h
  where
    begun : (j : ℕ) (b : Bool) → (◌≡◌ {A = Option ℕ} (cond b (Some j) None) (Some i)) → j ≡ i
    begun j true e = same_Some j i e
    begun j false e = absurd (none-some i e)

    by : (o : Option ℕ) → place_identified identity network.streams ≡ o
        → option_and_then (begun_at network station) o ≡ Some i → i < length (senders_of network)
    by None e g = absurd (none-some i g)
    by (Some j) e g =
        let same : j ≡ i = begun j (talker_of network j == station) g in
        let below : j < length (senders_of network) = found_within network identity j e in
        omega arith

-- the releases so far may be run, and none is later than so many nanoseconds after the first record
record AreUntil (network : DeclaredNetwork) (nanos : ℕ) (traffic : Traffic) : Type 0 where
  are : AreReleases network traffic.releases
  before : All (λ (r : Release). r.at.0 ≤ nanos * PS_PER_NS) traffic.releases

later : (network : DeclaredNetwork) (nanos more : ℕ) (traffic : Traffic) → nanos ≤ more
    → AreUntil network nanos traffic → AreUntil network more traffic
later network nanos more traffic le u = record {
  are = u.are;
  before = λ i d within. let early = u.before i d within in omega arith;
}

-- with one release more
with_one : (network : DeclaredNetwork) (nanos : ℕ) (traffic : Traffic) (r : Release) → AreUntil network nanos traffic
    → length traffic.releases < MAX_FRAMES → IsRelease network r → r.at.0 ≡ nanos * PS_PER_NS
    → AreUntil network nanos (with_release traffic r)
with_one network nanos traffic r u room is at = record {
  are = record {
    few = omega (arith, length-append traffic.releases (r ∷ []));
    in_order = subst IsNonDecreasing (sym (map-append (λ (x : Release). x.at.0) traffic.releases (r ∷ [])))
        (IsNonDecreasingBy-push (λ (x : ℕ). x) times r.at.0 u.are.in_order last);
    each = All-push (IsRelease network) traffic.releases r u.are.each is;
  };
  before = All-push (λ (x : Release). x.at.0 ≤ nanos * PS_PER_NS) traffic.releases r u.before (omega arith);
}
  where
    times : List ℕ
    times = map (λ (x : Release). x.at.0) traffic.releases

    last : (d : ℕ) → 0 < length times → get_or times (length times - 1) d ≤ r.at.0
    last d some =
        let long : length times ≡ length traffic.releases =
        length-map traffic.releases (λ (x : Release). x.at.0) in
        let here : get_or times (length times - 1) d ≡ (get_or traffic.releases (length times - 1) r).at.0 =
        get_or-map (λ (x : Release). x.at.0) traffic.releases (length times - 1) r d (omega arith) in
        let early = u.before (length times - 1) r (omega arith) in
        omega arith

-- a record more, of a stream or of none
with_stream_until : (network : DeclaredNetwork) (nanos : ℕ) (traffic : Traffic) (octets : ℕ) (stream : Option ℕ)
    → ((i : ℕ) → stream ≡ Some i → i < length (senders_of network)) → 64 ≤ octets → AreUntil network nanos traffic
    → IfOk (with_stream network nanos traffic octets stream) (AreUntil network nanos)
with_stream_until network nanos traffic octets None known long u = record { are = u.are; before = u.before }
with_stream_until network nanos traffic octets (Some i) known long u = by (nat_lt MAX_OCTETS octets) refl
  where
    at : Release
    at = record { at = record { 0 = nanos * PS_PER_NS }; sender = i; octets = octets }

    ports : ℕ
    ports = ports_with network traffic.releases i

    more : octets ≤ MAX_OCTETS → (b : Bool)
        → (nat_le (nanos * PS_PER_NS) MAX_RELEASE_PS && nat_lt (length traffic.releases) MAX_FRAMES
        && nat_le ports MAX_HOPS) ≡ b
        → IfOk (ok_where b (Limit (traffic.records + 1)) at >>= λ release. Ok (with_release traffic release))
        (AreUntil network nanos)
    more short false e = tt
    more short true e =
        let parts = and_parts (nat_le (nanos * PS_PER_NS) MAX_RELEASE_PS && nat_lt (length traffic.releases) MAX_FRAMES)
        (nat_le ports MAX_HOPS) e in
        let first = and_parts (nat_le (nanos * PS_PER_NS) MAX_RELEASE_PS)
        (nat_lt (length traffic.releases) MAX_FRAMES) parts.0 in
        with_one network nanos traffic at u (ltb-true (length traffic.releases) MAX_FRAMES first.1) (record {
          time = leb-true (nanos * PS_PER_NS) MAX_RELEASE_PS first.0;
          sender = known i refl;
          octets = record { least = long; most = short };
        }) refl

    by : (b : Bool) → nat_lt MAX_OCTETS octets ≡ b
        → IfOk (cond b (Ok (record traffic { records = traffic.records + 1; oversize = traffic.oversize + 1 }))
        (release_at (traffic.records + 1) (length traffic.releases) ports nanos i octets
        >>= λ release. Ok (with_release traffic release))) (AreUntil network nanos)
    by true e = record { are = u.are; before = u.before }
    by false e = more (ltb-false MAX_OCTETS octets e) _ refl

from_until : (network : DeclaredNetwork) (station first latest : ℕ) (traffic : Traffic) (records : List Record)
    → All IsLongEnough records → AreUntil network (latest - first) traffic
    → IfOk (traffic_from network station first latest traffic records) (λ (t : Traffic). AreReleases network t.releases)
from_until network station first latest traffic [] long u = u.are
from_until network station first latest traffic (r ∷ records) long u =
    let now : ℕ = max latest r.nanos in
    after (AreUntil network (now - first)) (λ (t : Traffic). AreReleases network t.releases)
    (with_record network station (now - first) traffic r) (λ more. traffic_from network station first now more records)
    (with_stream_until network (now - first) traffic r.octets (stream_of network station r.identity)
    (λ i e. stream_within network station i r.identity e) (long 0 r (omega arith))
    (later network (latest - first) (now - first) traffic (omega arith) u))
    (λ more w. from_until network station first now more records (All-tail IsLongEnough r records long) w)

-- the releases that records come to may be run on the network
pub traffic_releases : (network : DeclaredNetwork) (station : ℕ) (records : List Record) (traffic : Traffic)
    → traffic_of network station records ≡ Ok traffic → All IsLongEnough records
    → AreReleases network traffic.releases
traffic_releases network station records traffic h long =
    subst (λ (x : Result Traffic JoinFault). IfOk x (λ (t : Traffic). AreReleases network t.releases)) h
    (from_until network station (first_time records) (first_time records) no_traffic records long (record {
      are = record {
        few = omega arith;
        in_order = IsNonDecreasingBy-short (λ (x : ℕ). x) [] (omega arith);
        each = All-nil (IsRelease network);
      };
      before = All-nil (λ (x : Release). x.at.0 ≤ (first_time records - first_time records) * PS_PER_NS);
    }))

-- with one frame more there are those of its sender too
pub ports_more : (network : DeclaredNetwork) (releases new : List Release) (r : Release) → new ≡ releases ++ r ∷ []
    → ports_of_frames network new ≡ ports_with network releases r.sender
ports_more network releases new r e = ap (ports_of_frames network) e
    ∙ sum_by-append (λ (x : Release). length (sender_at network x.sender).ports) releases (r ∷ [])
    ∙ ap (λ (n : ℕ). ports_of_frames network releases + n) (omega arith)

-- with a record more, of a stream or of none, the ports of the frames stay few
with_stream_few : (network : DeclaredNetwork) (nanos : ℕ) (traffic : Traffic) (octets : ℕ) (stream : Option ℕ)
    → HaveFewPorts network traffic.releases
    → IfOk (with_stream network nanos traffic octets stream) (λ (t : Traffic). HaveFewPorts network t.releases)
with_stream_few network nanos traffic octets None few = few
with_stream_few network nanos traffic octets (Some i) few = by (nat_lt MAX_OCTETS octets)
  where
    Few : Traffic → Type 0
    Few t = HaveFewPorts network t.releases

    at : Release
    at = record { at = record { 0 = nanos * PS_PER_NS }; sender = i; octets = octets }

    ports : ℕ
    ports = ports_with network traffic.releases i

    more : (b : Bool) → (nat_le (nanos * PS_PER_NS) MAX_RELEASE_PS && nat_lt (length traffic.releases) MAX_FRAMES
        && nat_le ports MAX_HOPS) ≡ b
        → IfOk (ok_where b (Limit (traffic.records + 1)) at >>= λ release. Ok (with_release traffic release)) Few
    more false e = tt
    more true e =
        let parts = and_parts (nat_le (nanos * PS_PER_NS) MAX_RELEASE_PS && nat_lt (length traffic.releases) MAX_FRAMES)
        (nat_le ports MAX_HOPS) e in
        let all = ports_more network traffic.releases (traffic.releases ++ at ∷ []) at refl in
        omega (arith, all, leb-true ports MAX_HOPS parts.1)

    by : (b : Bool)
        → IfOk (cond b (Ok (record traffic { records = traffic.records + 1; oversize = traffic.oversize + 1 }))
        (release_at (traffic.records + 1) (length traffic.releases) ports nanos i octets
        >>= λ release. Ok (with_release traffic release))) Few
    by true = few
    by false = more _ refl

from_few : (network : DeclaredNetwork) (station first latest : ℕ) (traffic : Traffic) (records : List Record)
    → HaveFewPorts network traffic.releases
    → IfOk (traffic_from network station first latest traffic records)
    (λ (t : Traffic). HaveFewPorts network t.releases)
from_few network station first latest traffic [] few = few
from_few network station first latest traffic (r ∷ records) few =
    let now : ℕ = max latest r.nanos in
    let Few : Traffic → Type 0 = λ t. HaveFewPorts network t.releases in
    after Few Few (with_record network station (now - first) traffic r)
    (λ more. traffic_from network station first now more records)
    (with_stream_few network (now - first) traffic r.octets (stream_of network station r.identity) few)
    (λ more few. from_few network station first now more records few)

-- the frames that records come to have few ports
pub traffic_few_ports : (network : DeclaredNetwork) (station : ℕ) (records : List Record) (traffic : Traffic)
    → traffic_of network station records ≡ Ok traffic → HaveFewPorts network traffic.releases
traffic_few_ports network station records traffic h =
    subst (λ (x : Result Traffic JoinFault). IfOk x (λ (t : Traffic). HaveFewPorts network t.releases)) h
    (from_few network station (first_time records) (first_time records) no_traffic records (omega arith))
