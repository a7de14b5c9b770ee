-- All releases of a capture are of the streams of one station, so each bridge keeps its buckets by them.
use Rattle.std.proofs.Common.{◌≡◌, ℕ, ◌*◌, ◌<◌, Bool, true, false, List, [], ◌∷◌, All, map, filter, cond, refl, ap, sym}
use Rattle.std.proofs.Common.{subst, ◌∙◌, arith}
use Rattle.std.specs.Prelude.{◌==◌, nat_lt, Option, Some, None, Ok, if◌then◌else◌, filter_map}
use Rattle.std.specs.Option.{option_and_then}
use Rattle.std.specs.List.{cons_option, enumerate_from}
use Rattle.std.proofs.lemmas.Bool.{eqb-true, true≢false}
use Rattle.std.proofs.lemmas.List.Elements.{All-nil, All-cons, All-head, All-tail}
use Rattle.std.proofs.lemmas.Option.{none-some, same_Some}
use Rattle.ats_num.specs.declared.time.TheConstants.{PS_PER_NS}
use Rattle.ats_num.specs.declared.wire.TheConstants.{MAX_OCTETS}
use Rattle.ats_bucket.specs.Conforming.{Conforms}
use Rattle.ats_num.specs.Name.{name_of}
use Rattle.ats_num.specs.Places.{place_of}
use Rattle.ats_topology.specs.Node.{is_station, names_of}
use Rattle.ats_topology.specs.Topology.{DeclaredTopology, if_station, node_at, station_named}
use Rattle.ats_network.specs.Bridges.{IsBridgeAt}
use Rattle.ats_network.specs.Network.{DeclaredNetwork}
use Rattle.ats_network.specs.Pushes.{place_identified}
use Rattle.ats_network.specs.Senders.{sender_at}
use Rattle.ats_pcap.specs.declared.record.Record.{Record}
use Rattle.ats_trace.specs.Talker as bucket
use Rattle.ats_trace.specs.Talker.{frames_of, talker_of, KeepsBuckets}
use Rattle.ats_trace.specs.declared.journey.Release.{Release}
use Rattle.ats_capture.specs.Traffic.{begun_at, stream_of}
use Rattle.ats_capture_law.specs.Counted.{counted, frame_of, nanos_at, release_of}
use Rattle.ats_num.specs.Failure.{or_fault}
use Rattle.ats_command_input.specs.Station.{station_answer, station_in}

-- a stream that is found at a station begins there
begins_at : (network : DeclaredNetwork) (station j i : ℕ) → begun_at network station j ≡ Some i
    → talker_of network i ≡ station
begins_at network station j i h = by (talker_of network j == station) refl h
  where
    by : (b : Bool) → (talker_of network j == station) ≡ b → (if b then Some j else None) ≡ Some i
        → talker_of network i ≡ station
    by true e g =
        subst (λ (k : ℕ). talker_of network k ≡ station) (same_Some j i g) (eqb-true (talker_of network j) station e)
    by false e g = absurd (none-some i g)

stream_begins : (network : DeclaredNetwork) (station : ℕ) (identity : Option (ℕ × ℕ)) (i : ℕ)
    → stream_of network station identity ≡ Some i → talker_of network i ≡ station
stream_begins network station None i h = absurd (none-some i h)
stream_begins network station (Some identity) i h = by (place_identified identity network.streams) h
  where
    by : (found : Option ℕ) → option_and_then (begun_at network station) found ≡ Some i → talker_of network i ≡ station
    by None g = absurd (none-some i g)
    by (Some j) g = begins_at network station j i g

-- a release is of the sender of which it is made
sender_is : (nanos octets j : ℕ) (r : Release) → frame_of nanos octets j ≡ Some r → j ≡ r.sender
sender_is nanos octets j r h = by (nat_lt MAX_OCTETS octets) h
  where
    made : Release
    made = record { at = record { 0 = nanos * PS_PER_NS }; sender = j; octets = octets }

    by : (b : Bool) → (if b then None else Some made) ≡ Some r → j ≡ r.sender
    by true g = absurd (none-some r g)
    by false g = ap (λ (x : Release). x.sender) (same_Some made r g)

release_begins : (network : DeclaredNetwork) (station : ℕ) (records : List Record) (numbered : ℕ × Record) (r : Release)
    → release_of network station records numbered ≡ Some r → talker_of network r.sender ≡ station
release_begins network station records numbered r h = by (stream_of network station numbered.1.identity) refl h
  where
    by : (found : Option ℕ) → stream_of network station numbered.1.identity ≡ found
        → option_and_then (frame_of (nanos_at records numbered.0) numbered.1.octets) found ≡ Some r
        → talker_of network r.sender ≡ station
    by None e g = absurd (none-some r g)
    by (Some j) e g =
        subst (λ (k : ℕ). talker_of network k ≡ station)
        (sender_is (nanos_at records numbered.0) numbered.1.octets j r g)
        (stream_begins network station numbered.1.identity j e)

-- what holds of all that is made holds of the list of it
all_made : {X Y : Type 0} (P : Y → Type 0) (h : X → Option Y) → ((x : X) (y : Y) → h x ≡ Some y → P y) → (xs : List X)
    → All P (filter_map h xs)
all_made P h each [] = All-nil P
all_made {X} {Y} P h each (x ∷ xs) = by (h x) refl (all_made P h each xs)
  where
    by : (made : Option Y) → h x ≡ made → All P (filter_map h xs) → All P (cons_option made (filter_map h xs))
    by None e rest = rest
    by (Some y) e rest = All-cons P y (filter_map h xs) (each x y e) rest

-- so all releases of a capture are of streams that begin at its station
pub captured_begin : (network : DeclaredNetwork) (station : ℕ) (records : List Record)
    → All (λ (r : Release). talker_of network r.sender ≡ station) (counted network station records).releases
captured_begin network station records =
    all_made (λ (r : Release). talker_of network r.sender ≡ station) (release_of network station records)
    (release_begins network station records) (enumerate_from 0 records)

-- a stream that begins elsewhere has none of them
none_of : (network : DeclaredNetwork) (station i : ℕ) (releases : List Release) → (talker_of network i ≡ station → ⊥)
    → All (λ (r : Release). talker_of network r.sender ≡ station) releases → frames_of i releases ≡ []
none_of network station i [] elsewhere all = refl
none_of network station i (r ∷ releases) elsewhere all =
    by (r.sender == i) refl (none_of network station i releases elsewhere (All-tail Begins r releases all))
  where
    Begins : Release → Type 0
    Begins = λ (x : Release). talker_of network x.sender ≡ station

    by : (b : Bool) → (r.sender == i) ≡ b → frames_of i releases ≡ []
        → map bucket.frame_of (cond b (r ∷ filter (λ (x : Release). x.sender == i) releases)
        (filter (λ (x : Release). x.sender == i) releases)) ≡ []
    by true e rest = absurd (elsewhere
        (subst (λ (k : ℕ). talker_of network k ≡ station) (eqb-true r.sender i e) (All-head Begins r releases all)))
    by false e rest = rest

none_conforms : (rate burst : ℕ) → Conforms rate burst []
none_conforms rate burst = record {
  in_order = λ i j d before within. (let none : j < 0 = within in absurd (omega (arith, none)));
  within = λ i j before last. (let none : j < 0 = last in absurd (omega (arith, none)));
}

-- so a bridge keeps its buckets by them
pub bridge_is_quiet : (network : DeclaredNetwork) (station node : ℕ) (releases : List Release)
    → is_station (node_at network.topology.nodes station).kind ≡ true → IsBridgeAt network.topology node
    → All (λ (r : Release). talker_of network r.sender ≡ station) releases → KeepsBuckets network releases node
bridge_is_quiet network station node releases at bridge all = record {
  streams = λ i within begins. subst (Conforms (sender_at network i).rate (sender_at network i).burst_bits)
      (sym (none_of network station i releases (λ here. other (sym begins ∙ here)) all))
      (none_conforms (sender_at network i).rate (sender_at network i).burst_bits);
  sizes = λ k d h within begins. absurd (other (sym begins ∙ all k d h));
}
  where
    other : node ≡ station → ⊥
    other same = true≢false (sym at
        ∙ ap (λ (n : ℕ). is_station (node_at network.topology.nodes n).kind) (sym same) ∙ bridge.bridge)

-- what a word names as a station is one
named_station : (topology : DeclaredTopology) (word : List ℕ) (n : ℕ) → station_named topology word ≡ Some n
    → is_station (node_at topology.nodes n).kind ≡ true
named_station topology word n h =
    by (option_and_then (λ name. place_of name (names_of topology.nodes)) (name_of word)) h
  where
    at : (j : ℕ) (b : Bool) → is_station (node_at topology.nodes j).kind ≡ b
        → (if b then Some j else None) ≡ Some n → is_station (node_at topology.nodes n).kind ≡ true
    at j true e g = subst (λ (k : ℕ). is_station (node_at topology.nodes k).kind ≡ true) (same_Some j n g) e
    at j false e g = absurd (none-some n g)

    by : (found : Option ℕ) → option_and_then (if_station topology) found ≡ Some n
        → is_station (node_at topology.nodes n).kind ≡ true
    by None g = absurd (none-some n g)
    by (Some j) g = at j (is_station (node_at topology.nodes j).kind) refl g

pub station_is : (topology : DeclaredTopology) (word : List ℕ) (n : ℕ) → station_in topology word ≡ Ok n
    → is_station (node_at topology.nodes n).kind ≡ true
unfolding station_in
station_is topology word n h = by (station_named topology word) refl h
  where
    found_none : or_fault (station_answer word) None ≡ Ok n → is_station (node_at topology.nodes n).kind ≡ true
    found_none g = cc

    found_some : (j : ℕ) → or_fault (station_answer word) (Some j) ≡ Ok n → Some j ≡ Some n
    found_some j g = cc

    by : (found : Option ℕ) → station_named topology word ≡ found → or_fault (station_answer word) found ≡ Ok n
        → is_station (node_at topology.nodes n).kind ≡ true
    by None e g = found_none g
    by (Some j) e g = named_station topology word n (e ∙ found_some j g)
