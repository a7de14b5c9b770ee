use Rattle.std.proofs.Common.{◌≡◌, ℕ, Bool, true, ◌&&◌, List, [], ◌∷◌, Option, Some, None, All, lit<}
use Rattle.std.specs.Prelude.{◌^◌, nat_lt}
use Rattle.std.specs.List.{list_all}
use Rattle.std.proofs.lemmas.Bool.{and_parts}
use Rattle.ats_num.specs.Name.{is_name}
use Rattle.ats_num.specs.declared.time.Ps.{Ps}
use Rattle.ats_streams.specs.Stream.{DeclaredStream}
use Rattle.ats_network.specs.Network.{DeclaredNetwork}
use Rattle.ats_network.specs.Listeners.{Listener, listeners_of}
use Rattle.ats_network.specs.Sender.{stream_sender}
use Rattle.ats_topology.specs.Topology.{DeclaredTopology}
use Rattle.ats_certificate.specs.Certificate.{bound_of_hop, bound_on}
use Rattle.ats_certificate.specs.declared.row.Row.{Row}
use Rattle.ats_group.specs.declared.verdict.Verdict.{Verdict}
use Rattle.ats_group.specs.declared.verdict.Verdict.TheVariants.{Eligible, Late, Size}
use Rattle.ats_trace.specs.Journey.{Leg, Travel, legs_in}
use Rattle.ats_trace.specs.HopRecord.{HopRecord}
use Rattle.ats_trace.specs.declared.journey.Ending.{Ending}
use Rattle.ats_trace.specs.declared.journey.Ending.TheVariants.{Sink, Discard}
use Rattle.ats_explain.specs.Margins.{margin_on}
use Rattle.ats_explain.specs.Parts.{parts_of_hop}
use Rattle.ats_explain.specs.declared.parts.Parts.{Parts}
use Rattle.ats_explain.specs.declared.parts.Stay.{Stay}
use Rattle.ats_text_law.specs.Explained.{HasShortLeg, HasShortParts, IsExplainable, IsNamed, IsShortHop, IsShortStay}
use Rattle.ats_text_law.specs.Explained.{class_of}
use Rattle.ats_text_law.specs.Short as short
use Rattle.ats_text_law.specs.Short.{HasShortBounds, HasShortLines, HasShortTimes, IsShort, IsShortEnding, IsShortLeg}
use Rattle.ats_text_law.specs.Short.{IsShortSent, IsShortVerdict}
use Rattle.ats_examples.proofs.Tests.{all_by, lt_of}

-- Tests of what the laws on printed texts ask of closed things.

abbrev pub is_short : ℕ → Bool
is_short n = nat_lt n (10 ^ 64)

pub short_by : (n : ℕ) → is_short n ≡ true → IsShort n
short_by n = lt_of n (10 ^ 64)

all_short : (xs : List ℕ) → list_all is_short xs ≡ true → All IsShort xs
all_short = all_by IsShort is_short short_by

-- a record of a hop
abbrev verdict_passes : Verdict → Bool
verdict_passes (Eligible e) = is_short e.0
verdict_passes (Late e) = is_short e.0
verdict_passes Size = true

verdict_by : (verdict : Verdict) → verdict_passes verdict ≡ true → IsShortVerdict verdict
verdict_by (Eligible e) h = short_by e.0 h
verdict_by (Late e) h = short_by e.0 h
verdict_by Size h = tt

abbrev sent_passes : Option (Ps × Ps) → Bool
sent_passes None = true
sent_passes (Some times) = is_short times.0.0 && is_short times.1.0

sent_by : (sent : Option (Ps × Ps)) → sent_passes sent ≡ true → IsShortSent sent
sent_by None h = tt
sent_by (Some times) h =
    let parts = and_parts (is_short times.0.0) (is_short times.1.0) h in
    (short_by times.0.0 parts.0, short_by times.1.0 parts.1)

abbrev record_passes : HopRecord → Bool
record_passes hop = is_short hop.arrival.0 && (verdict_passes hop.verdict && sent_passes hop.sent)

record_by : (hop : HopRecord) → record_passes hop ≡ true → short.IsShortHop hop
record_by hop h =
    let first = and_parts (is_short hop.arrival.0) (verdict_passes hop.verdict && sent_passes hop.sent) h in
    let second = and_parts (verdict_passes hop.verdict) (sent_passes hop.sent) first.1 in
    record {
      arrival = short_by hop.arrival.0 first.0;
      verdict = verdict_by hop.verdict second.0;
      sent = sent_by hop.sent second.1;
    }

-- a leg, and a journey
abbrev ending_passes : Ending → Bool
ending_passes (Sink at) = is_short at.0
ending_passes Discard = true

ending_by : (ending : Ending) → ending_passes ending ≡ true → IsShortEnding ending
ending_by (Sink at) h = short_by at.0 h
ending_by Discard h = tt

abbrev leg_passes : Leg → Bool
leg_passes leg = list_all record_passes leg.hops && ending_passes leg.ending

leg_by : (leg : Leg) → leg_passes leg ≡ true → IsShortLeg leg
leg_by leg h =
    let parts = and_parts (list_all record_passes leg.hops) (ending_passes leg.ending) h in
    record {
      hops = all_by short.IsShortHop record_passes record_by leg.hops parts.0;
      ending = ending_by leg.ending parts.1;
    }

abbrev pub journey_passes : Travel → Bool
journey_passes j = is_short j.release.at.0 && list_all leg_passes (legs_in j)

pub journey_by : (j : Travel) → journey_passes j ≡ true → HasShortTimes j
journey_by j h =
    let parts = and_parts (is_short j.release.at.0) (list_all leg_passes (legs_in j)) h in
    record {
      release = short_by j.release.at.0 parts.0;
      legs = all_by IsShortLeg leg_passes leg_by (legs_in j) parts.1;
    }

-- the bounds of a stream by rows
abbrev lines_pass : List Row → DeclaredStream → Listener → Bool
lines_pass rows s listener = list_all (λ port. is_short (bound_of_hop rows (stream_sender s) port)) listener.leg
    && is_short (bound_on rows s listener.route)

lines_by : (rows : List Row) (s : DeclaredStream) (listener : Listener) → lines_pass rows s listener ≡ true
    → HasShortLines rows s listener
lines_by rows s listener h =
    let parts = and_parts (list_all (λ port. is_short (bound_of_hop rows (stream_sender s) port)) listener.leg)
    (is_short (bound_on rows s listener.route)) h in
    record {
      bounds = all_by (λ port. IsShort (bound_of_hop rows (stream_sender s) port))
          (λ port. is_short (bound_of_hop rows (stream_sender s) port))
          (λ port. short_by (bound_of_hop rows (stream_sender s) port)) listener.leg parts.0;
      sum = short_by (bound_on rows s listener.route) parts.1;
    }

abbrev pub bounds_pass : DeclaredTopology → List Row → DeclaredStream → Bool
bounds_pass topology rows s = list_all (lines_pass rows s) (listeners_of topology s)

pub bounds_by : (topology : DeclaredTopology) (rows : List Row) (s : DeclaredStream)
    → bounds_pass topology rows s ≡ true → HasShortBounds topology rows s
bounds_by topology rows s h =
    all_by (HasShortLines rows s) (lines_pass rows s) (lines_by rows s) (listeners_of topology s) h

-- the parts of a bound
abbrev pub name_passes : Option (List ℕ) → Bool
name_passes None = true
name_passes (Some name) = is_name name

pub name_by : (name : Option (List ℕ)) → name_passes name ≡ true → IsNamed name
name_by None h = tt
name_by (Some name) h = h

abbrev stay_passes : Option Stay → Bool
stay_passes None = true
stay_passes (Some stay) = is_short stay.need && is_short stay.residence

stay_by : (stay : Option Stay) → stay_passes stay ≡ true → IsShortStay stay
stay_by None h = tt
stay_by (Some stay) h =
    let parts = and_parts (is_short stay.need) (is_short stay.residence) h in
    (short_by stay.need parts.0, short_by stay.residence parts.1)

abbrev numbers_in : Parts → List ℕ
numbers_in parts =
    parts.lower ∷ parts.bursts ∷ parts.higher ∷ parts.frame ∷ parts.latency ∷ parts.bound ∷ []

abbrev parts_pass : Parts → Bool
parts_pass parts = list_all is_short (numbers_in parts) && (name_passes parts.sender && stay_passes parts.stay)

parts_by : (parts : Parts) → parts_pass parts ≡ true → HasShortParts parts
parts_by parts h =
    let first = and_parts (list_all is_short (numbers_in parts))
    (name_passes parts.sender && stay_passes parts.stay) h in
    let second = and_parts (name_passes parts.sender) (stay_passes parts.stay) first.1 in
    let all : All IsShort (numbers_in parts) = all_short (numbers_in parts) first.0 in
    record {
      lower = all 0 0 (lit< tt);
      sender = name_by parts.sender second.0;
      bursts = all 1 0 (lit< tt);
      higher = all 2 0 (lit< tt);
      frame = all 3 0 (lit< tt);
      latency = all 4 0 (lit< tt);
      bound = all 5 0 (lit< tt);
      stay = stay_by parts.stay second.1;
    }

-- what is explained of a stream
abbrev hop_passes : DeclaredNetwork → DeclaredStream → ℕ → Bool
hop_passes network s port = is_short (class_of s port) && parts_pass (parts_of_hop network s port)

hop_by : (network : DeclaredNetwork) (s : DeclaredStream) (port : ℕ) → hop_passes network s port ≡ true
    → IsShortHop network s port
hop_by network s port h =
    let parts = and_parts (is_short (class_of s port)) (parts_pass (parts_of_hop network s port)) h in
    record { class = short_by (class_of s port) parts.0; parts = parts_by (parts_of_hop network s port) parts.1 }

abbrev ends_pass : DeclaredNetwork → DeclaredStream → Listener → Bool
ends_pass network s listener = is_short (margin_on network s listener.route).sum
    && is_short (margin_on network s listener.route).deadline

abbrev leg_is_short : DeclaredNetwork → DeclaredStream → Listener → Bool
leg_is_short network s listener = ends_pass network s listener && list_all (hop_passes network s) listener.leg

leg_short_by : (network : DeclaredNetwork) (s : DeclaredStream) (listener : Listener)
    → leg_is_short network s listener ≡ true → HasShortLeg network s listener
leg_short_by network s listener h =
    let first = and_parts (ends_pass network s listener) (list_all (hop_passes network s) listener.leg) h in
    let second = and_parts (is_short (margin_on network s listener.route).sum)
    (is_short (margin_on network s listener.route).deadline) first.0 in
    record {
      sum = short_by (margin_on network s listener.route).sum second.0;
      deadline = short_by (margin_on network s listener.route).deadline second.1;
      hops = all_by (IsShortHop network s) (hop_passes network s) (hop_by network s) listener.leg first.1;
    }

abbrev pub explains : DeclaredNetwork → DeclaredStream → Bool
explains network s = list_all (leg_is_short network s) (listeners_of network.topology s)

pub explains_by : (network : DeclaredNetwork) (s : DeclaredStream) → explains network s ≡ true
    → IsExplainable network s
explains_by network s h =
    all_by (HasShortLeg network s) (leg_is_short network s) (leg_short_by network s) (listeners_of network.topology s) h
