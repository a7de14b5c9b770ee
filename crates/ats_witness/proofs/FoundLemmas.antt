-- What is found of a stream in a run of the burst: some frame of it arrives, and none later than its bound.
use Rattle.std.proofs.Common.{All, ◌≡◌, ℕ, ◌+◌, ◌-◌, ◌/◌, ◌<◌, ◌≤◌, Bool, true, List, get_or, map, length}
use Rattle.std.proofs.Common.{cond, inl, inr, refl, sym, ap, subst, ◌∙◌, arith, eqb}
use Rattle.std.specs.Prelude.{slice_get}
use Rattle.std.specs.List.{Contains}
use Rattle.std.proofs.lemmas.Bool.{cases_lt, eqb-true, le-leb}
use Rattle.std.proofs.lemmas.List.{get_or-map, get_or_past, length-map, length-replicate}
use Rattle.std.proofs.lemmas.List.Elements.{All-contains, All-contains_itself, All-filter, Contains-get_or}
use Rattle.std.proofs.lemmas.List.Elements.{filter_passes}
use Rattle.std.proofs.lemmas.Nat.{le-div}
use Rattle.std.proofs.lemmas.Option.{slice_get-get_or}
use Rattle.ats_num.specs.Wire.{bits_of}
use Rattle.ats_num.specs.declared.time.Ps.{Ps}
use Rattle.ats_network.specs.Sender.{Sender, stream_sender}
use Rattle.ats_network.specs.Class.{class_at}
use Rattle.ats_network.specs.Edits.{no_stream}
use Rattle.ats_network.specs.Network.{DeclaredNetwork, IsNetwork}
use Rattle.ats_network.specs.Senders.{sender_at}
use Rattle.ats_streams.specs.Stream.{DeclaredStream}
use Rattle.ats_certificate.specs.Certificate.{Holds}
use Rattle.ats_certificate.specs.PortSums.{uses}
use Rattle.ats_certificate.specs.declared.row.Row.{Row}
use Rattle.ats_checker.proofs.InTime.{holding_is_in_time, in_time_in_true_time}
use Rattle.ats_checker.specs.Sound.{ArrivesBy}
use Rattle.ats_trace.specs.Journey.{IsJourney, Leg, Travel, legs_in, no_leg}
use Rattle.ats_trace.specs.Run.{IsIdeal, releases_of}
use Rattle.ats_trace.specs.Stored.{leg_in, no_travel}
use Rattle.ats_trace.specs.Talker.{KeepsBuckets, talker_of}
use Rattle.ats_trace.specs.declared.journey.Ending.{Ending}
use Rattle.ats_trace.specs.declared.journey.Ending.TheVariants.{Sink, Discard}
use Rattle.ats_trace.specs.declared.journey.Release.{Release}
use Rattle.ats_trace.proofs.OneVerdict.{copies_many}
use Rattle.ats_witness.specs.Burst.{IsBurstFor, frames_in_burst, interferes, releases_by}
use Rattle.ats_witness.specs.Burst.{whole_frames}
use Rattle.ats_witness.specs.Delay.{ArrivedAfter, IsGreatestDelay, NoneArrived}
use Rattle.ats_witness.specs.Found.{IsFoundAt, bound_for}
use Rattle.ats_witness.specs.Played.{IsPlayed}
use Rattle.ats_witness.proofs.BurstLemmas.{release_in}
use Rattle.ats_witness.proofs.KeptLemmas.{burst_keeps}
use Rattle.ats_witness.proofs.StreamLemmas.{is_listener, stream_at, stream_covers}

-- a stream has a frame in the burst at each of its ports
own_frame : (network : DeclaredNetwork) (stream port : ℕ) → IsNetwork network → stream < length network.streams
    → uses port (sender_at network stream) ≡ true
    → 1 ≤ frames_in_burst port (class_at (sender_at network stream) port) (sender_at network stream)
own_frame network stream port net h on =
    let s : Sender = sender_at network stream in
    let class : ℕ = class_at s port in
    let covers : bits_of s.max_octets ≤ s.burst_bits = stream_covers network stream net h in
    let here : interferes port class s ≡ true = le-leb class class (omega arith) in
    let one : 1 ≤ s.burst_bits / bits_of s.max_octets =
    le-div 1 s.burst_bits (bits_of s.max_octets) (omega arith) (omega (arith, covers)) in
    let whole : 1 ≤ whole_frames s = omega (arith, one) in
    let counted : frames_in_burst port class s ≡ whole_frames s =
    ap (λ (b : Bool). cond b (cond (interferes port class s) (whole_frames s) 1) 0) on
    ∙ ap (λ (b : Bool). cond b (whole_frames s) 1) here in
    omega (arith, counted, whole)

-- so a run of it has a journey of the stream
record HasJourney (run : List Travel) (stream : ℕ) : Type 0 where
  journey : Travel
  there : Contains run journey
  sent : journey.release.sender ≡ stream

released : (run : List Travel) (stream : ℕ) (r : Release) → Contains (releases_of run) r → r.sender ≡ stream
    → HasJourney run stream
released run stream r there own =
    let k : ℕ = there.0 in
    let release : Travel → Release = λ (j : Travel). j.release in
    let inside : k < length run = omega (arith, there.1, length-map run release) in
    let at : get_or (map release run) k r ≡ (get_or run k no_travel).release =
    get_or-map release run k no_travel r inside in
    record {
      journey = get_or run k no_travel;
      there = Contains-get_or run k no_travel inside;
      sent = ap (λ (x : Release). x.sender) (sym at ∙ there.2) ∙ own;
    }

own_journey : (network : DeclaredNetwork) (stream port : ℕ) (run : List Travel) → IsNetwork network
    → stream < length network.streams → uses port (sender_at network stream) ≡ true
    → IsBurstFor network stream port (releases_of run) → HasJourney run stream
own_journey network stream port run net h on burst =
    let s : Sender = sender_at network stream in
    let class : ℕ = class_at s port in
    let releases : List Release = releases_of run in
    let own = λ (r : Release). eqb r.sender stream in
    let many = ap (λ (l : List Release). length l) (burst.of_each stream)
    ∙ length-replicate (frames_in_burst port class s) (release_in network port class stream) in
    let some : 0 < length (releases_by stream releases) =
    omega (arith, many, own_frame network stream port net h on) in
    let d : Release = release_in network port class stream in
    let r : Release = get_or (releases_by stream releases) 0 d in
    released run stream r
    (All-filter own (Contains releases) releases (All-contains_itself releases) 0 d some)
    (eqb-true r.sender stream (filter_passes own releases 0 d some))

-- each frame of a stream arrives at each listener within the sum of the bounds, in a run by releases by which nodes
-- keep their buckets
in_time : (network : DeclaredNetwork) (rows : List Row) (run : List Travel) (stream listener : ℕ) (j : Travel)
    → IsNetwork network → Holds network rows → IsIdeal network run → stream < length network.streams
    → listener ≤ length (sender_at network stream).branches
    → ((node : ℕ) → KeepsBuckets network (releases_of run) node) → Contains run j
    → j.release.sender ≡ stream
    → ArrivesBy (j.release.at.0 + bound_for rows (get_or network.streams stream no_stream) listener)
    (leg_in j listener).ending
in_time network rows run stream listener j net holds legal h there keeps in_run own =
    let s : DeclaredStream = get_or network.streams stream no_stream in
    let same = ap (λ (x : Sender). length x.branches) (stream_at network stream h) in
    (in_time_in_true_time network rows net (holding_is_in_time network rows net holds) run legal j in_run s
    (ap (slice_get network.streams) own ∙ slice_get-get_or network.streams stream no_stream h)
    (keeps (talker_of network j.release.sender)) listener
    (is_listener (stream_sender s) listener (omega (arith, there, same))) (λ k d w bridge. keeps _)).sum

-- so one arrived
arrived : (run : List Travel) (stream listener limit : ℕ) (j : Travel) (ending : Ending) → Contains run j
    → j.release.sender ≡ stream → (leg_in j listener).ending ≡ ending → ArrivesBy limit ending
    → NoneArrived run stream listener → ⊥
arrived run stream listener limit j (Sink at) there own is by none =
    none (at.0 - j.release.at.0) j
    (record { there = there; sent = own; at = at; arrived = is; after = refl })
arrived run stream listener limit j Discard there own is by none = absurd by

pub some_arrived : (network : DeclaredNetwork) (rows : List Row) (stream listener port : ℕ) (run : List Travel)
    → IsNetwork network → Holds network rows → IsIdeal network run → stream < length network.streams
    → listener ≤ length (sender_at network stream).branches → uses port (sender_at network stream) ≡ true
    → IsBurstFor network stream port (releases_of run) → NoneArrived run stream listener → ⊥
some_arrived network rows stream listener port run net holds legal h there on burst none =
    let keeps = burst_keeps network port (class_at (sender_at network stream) port) (releases_of run) net burst in
    let one : HasJourney run stream = own_journey network stream port run net h on burst in
    let j : Travel = one.journey in
    let time = in_time network rows run stream listener j net holds legal h there keeps one.there one.sent in
    arrived run stream listener (j.release.at.0 + bound_for rows (get_or network.streams stream no_stream) listener) j
    (leg_in j listener).ending one.there one.sent refl time none

-- a frame comes to no listener but those of its sender
no_sink : (at : Ps) → Discard ≡ Sink at → ⊥
no_sink at h = cc

pub listener_of : (network : DeclaredNetwork) (run : List Travel) (listener : ℕ) (j : Travel) (at : Ps)
    → All (IsJourney network) run → Contains run j → (leg_in j listener).ending ≡ Sink at
    → listener ≤ length (sender_at network j.release.sender).branches
listener_of network run listener j at journeys there arrived =
    let is : IsJourney network j = All-contains (IsJourney network) run j journeys there in
    let many = copies_many (sender_at network j.release.sender) j is.copies in
    elim (cases_lt listener (length (legs_in j)))
    as (λ _. listener ≤ length (sender_at network j.release.sender).branches) [
      | inl inside ↦ omega (arith, inside, many)
      | inr past ↦ absurd (no_sink at
          (sym (ap (λ (leg : Leg). leg.ending) (get_or_past (legs_in j) listener no_leg past)) ∙ arrived))
    ]

-- and none is later than the sum of the bounds
took_most : (release bound took : ℕ) (ending : Ending) (at : Ps) → ending ≡ Sink at
    → ArrivesBy (release + bound) ending → took ≡ at.0 - release → took ≤ bound
took_most release bound took ending at is by after =
    let reached : ArrivesBy (release + bound) (Sink at) = subst (ArrivesBy (release + bound)) is by in
    omega (arith, reached, after)

pub delay_within : (network : DeclaredNetwork) (rows : List Row) (stream listener port delay : ℕ) (run : List Travel)
    → IsNetwork network → Holds network rows → IsIdeal network run → stream < length network.streams
    → IsBurstFor network stream port (releases_of run) → IsGreatestDelay run stream listener delay
    → delay ≤ bound_for rows (get_or network.streams stream no_stream) listener
delay_within network rows stream listener port delay run net holds legal h burst greatest =
    let keeps = burst_keeps network port (class_at (sender_at network stream) port) (releases_of run) net burst in
    let j : Travel = greatest.journey in
    let one : ArrivedAfter run stream listener delay j = greatest.one in
    let there : listener ≤ length (sender_at network stream).branches =
    subst (λ (i : ℕ). listener ≤ length (sender_at network i).branches) one.sent
    (listener_of network run listener j one.at legal.journeys one.there one.arrived) in
    let time = in_time network rows run stream listener j net holds legal h there keeps one.there one.sent in
    took_most j.release.at.0 (bound_for rows (get_or network.streams stream no_stream) listener) delay
    (leg_in j listener).ending one.at one.arrived time one.after

pub found_within : (network : DeclaredNetwork) (rows : List Row) (stream listener port delay : ℕ) → IsNetwork network
    → Holds network rows → stream < length network.streams → IsFoundAt network stream listener port delay
    → delay ≤ bound_for rows (get_or network.streams stream no_stream) listener
found_within network rows stream listener port delay net holds h found =
    delay_within network rows stream listener port delay found.run net holds found.of_burst.by.legal h
    found.of_burst.burst found.greatest

-- the delay found in a run of a burst is the one found at each port of which it is the burst
pub played_found : (network : DeclaredNetwork) (stream listener port delay : ℕ) (releases : List Release)
    → IsPlayed network stream listener releases delay → IsBurstFor network stream port releases
    → IsFoundAt network stream listener port delay
played_found network stream listener port delay releases played burst = record {
  run = played.run;
  of_burst = record {
    by = played.by;
    burst = subst (IsBurstFor network stream port) (sym played.released) burst;
  };
  greatest = played.greatest;
}
