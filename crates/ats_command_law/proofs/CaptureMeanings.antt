-- What the answers to `capture` mean.
use Rattle.std.proofs.Common.{◌≡◌, ℕ, ◌+◌, List, Option, Some, None, Result, Ok, Err, refl, sym, ap, subst, inl, inr}
use Rattle.std.proofs.Common.{◌∙◌}
use Rattle.std.specs.Prelude.{MatchResult}
use Rattle.ats_topology.specs.Topology.{DeclaredTopology, station_named}
use Rattle.ats_network.specs.Network.{DeclaredNetwork, IsNetwork}
use Rattle.ats_pcap.specs.declared.record.Record.{Record}
use Rattle.ats_capture.specs.FaultText.{fault_text, records_fault_text}
use Rattle.ats_capture.specs.Reading as capture
use Rattle.ats_capture.specs.Traffic.{Traffic, traffic_of}
use Rattle.ats_capture.specs.declared.fault.JoinFault.TheVariants.{Limit}
use Rattle.ats_capture_law.specs.Counted.{counted, first_over}
use Rattle.ats_capture_law.proofs.Counting.{traffic_is_counted}
use Rattle.ats_num.specs.Failure.{◌>>=◌, or_fault, unless}
use Rattle.ats_command_input.specs.Answer.{Answer}
use Rattle.ats_command_input.specs.Input.{declared_in, network_in, records_in, traffic_in}
use Rattle.ats_command_input.specs.Station.{station_answer, station_in}
use Rattle.ats_command_input.specs.declared.order.Order.{Order}
use Rattle.ats_command_due.specs.Captured.{IsCaptured, captured_in}
use Rattle.ats_command_due.specs.Replayed.{IsOneOf}
use Rattle.ats_command_law.proofs.Meanings.{IsInput, network_gives, none_declared}
use Rattle.ats_command_law.specs.CaptureMeaning.{CaptureMeans, CaptureSays, IsCounted}

-- a fault of a file is answered as one of the input
input_gives : {A F : Type 0} (file : List ℕ) (words : F → List ℕ) (read : Result A F)
    → MatchResult (declared_in file words read) (λ (value : A). Unit {0}) IsInput
input_gives file words (Ok value) = tt
input_gives file words (Err fault) = refl

-- so it is behind a file without one
gives_on : {A B : Type 0} (declared : Result A Answer) (next : A → Result B Answer)
    → MatchResult declared (λ (value : A). Unit {0}) IsInput
    → ((value : A) → MatchResult (next value) (λ (b : B). Unit {0}) IsInput)
    → MatchResult (declared >>= next) (λ (b : B). Unit {0}) IsInput
gives_on (Ok value) next h k = k value
gives_on (Err answer) next h k = h

-- where a capture's file declares no traffic, it has a fault
pub traffic_gives : (network : DeclaredNetwork) (place : ℕ) (file bytes : List ℕ)
    → MatchResult (traffic_in network place file bytes) (λ (traffic : Traffic). Unit {0}) IsInput
unfolding records_in traffic_in
traffic_gives network place file bytes =
    gives_on (records_in file bytes)
    (λ records. declared_in file fault_text (traffic_of network place records))
    (input_gives file records_fault_text (capture.records_in bytes))
    (λ records. input_gives file fault_text (traffic_of network place records))

-- a file declares what its bytes are read as
pub read_as : {A F : Type 0} (file : List ℕ) (words : F → List ℕ) (read : Result A F) (value : A)
    → declared_in file words read ≡ Ok value → read ≡ Ok value
read_as file words (Ok one) value h = cc
read_as file words (Err fault) value h = cc

-- what no fault stands against
none_against : {A F G : Type 0} (fault : F → G) (against : Option F) (x value : A)
    → unless fault against x ≡ Ok value → (against ≡ None) × (value ≡ x)
none_against fault None x value h = (refl, cc)
none_against fault (Some f) x value h = cc

-- the traffic of a capture's file is that of all its records
pub traffic_counted : (network : DeclaredNetwork) (place : ℕ) (file bytes : List ℕ) (traffic : Traffic)
    → traffic_in network place file bytes ≡ Ok traffic
    → (records : List Record) × IsCounted file bytes network place traffic records
unfolding traffic_in
traffic_counted network place file bytes traffic h = by (records_in file bytes) refl h
  where
    by : (read : Result (List Record) Answer) → records_in file bytes ≡ read
        → (read >>= λ records. declared_in file fault_text (traffic_of network place records)) ≡ Ok traffic
        → (records : List Record) × IsCounted file bytes network place traffic records
    by (Ok records) is g =
        let none = none_against (λ (numbered : ℕ × Record). Limit (numbered.0 + 1))
        (first_over network place records) (counted network place records) traffic
        (sym (traffic_is_counted network place records)
        ∙ read_as file fault_text (traffic_of network place records) traffic g) in
        (records, record { read = is; none_over = none.0; counts = none.1 })
    by (Err answer) is g = cc

-- a word that is the name of no station is answered so
abbrev pub IsNoStation : List ℕ → Answer → Type 0
IsNoStation station answer = answer ≡ station_answer station

pub station_gives : (topology : DeclaredTopology) (station : List ℕ)
    → MatchResult (station_in topology station) (λ (place : ℕ). Unit {0}) (IsNoStation station)
unfolding station_in
station_gives topology station = by (station_named topology station)
  where
    by : (found : Option ℕ)
        → MatchResult (or_fault (station_answer station) found) (λ (place : ℕ). Unit {0}) (IsNoStation station)
    by (Some place) = tt
    by None = refl

-- where the first declares a network and a station has the name
traffic_says : (net station file net_bytes file_bytes : List ℕ) (order : Order) (network : DeclaredNetwork) (place : ℕ)
    (declared : Result Traffic Answer) (answer : Answer) → network_in net net_bytes ≡ Ok network → IsNetwork network
    → station_in network.topology station ≡ Ok place → traffic_in network place file file_bytes ≡ declared
    → MatchResult declared (λ (traffic : Traffic). Unit {0}) IsInput
    → IsOneOf (IsCaptured order)
    (declared >>= λ traffic. Ok (record { network = network; traffic = traffic })) answer
    → CaptureSays net station file net_bytes file_bytes order answer.text answer.status
traffic_says net station file net_bytes file_bytes order network place (Ok traffic) answer
    declared rules named is input one =
    let all = traffic_counted network place file file_bytes traffic is in
    subst (CaptureSays net station file net_bytes file_bytes order answer.text) (sym one.0) (
      network,
      place,
      all.0,
      traffic,
      one.1.0,
      record { network_declared = declared; named = named; captured = all.1; rules = rules; replay = one.1.1 },
    )
traffic_says net station file net_bytes file_bytes order network place (Err due) answer
    declared rules named is input one =
    subst (CaptureSays net station file net_bytes file_bytes order answer.text)
    (sym (ap (λ (a : Answer). a.status) one ∙ input))
    (inr (
      network,
      place,
      record {
        network_declared = declared;
        named = named;
        no_traffic = none_declared (traffic_in network place file file_bytes) due is;
      },
    ))

-- where the first declares a network
station_says : (net station file net_bytes file_bytes : List ℕ) (order : Order) (network : DeclaredNetwork)
    (found : Result ℕ Answer) (answer : Answer) → network_in net net_bytes ≡ Ok network → IsNetwork network
    → station_in network.topology station ≡ found
    → MatchResult found (λ (place : ℕ). Unit {0}) (IsNoStation station)
    → IsOneOf (IsCaptured order) (found >>= λ place. traffic_in network place file file_bytes
    >>= λ traffic. Ok (record { network = network; traffic = traffic })) answer
    → CaptureSays net station file net_bytes file_bytes order answer.text answer.status
station_says net station file net_bytes file_bytes order network (Ok place) answer declared rules is none one =
    traffic_says net station file net_bytes file_bytes order network place
    (traffic_in network place file file_bytes) answer
    declared rules is refl (traffic_gives network place file file_bytes) one
station_says net station file net_bytes file_bytes order network (Err due) answer declared rules is none one =
    subst (λ (a : Answer). CaptureSays net station file net_bytes file_bytes order a.text a.status)
    (sym (one ∙ none)) (
      network,
      record {
        network_declared = declared;
        no_station = none_declared (station_in network.topology station) due is;
        written = refl;
      },
    )

capture_says : (net station file net_bytes file_bytes : List ℕ) (order : Order)
    (declared : Result DeclaredNetwork Answer) (answer : Answer) → network_in net net_bytes ≡ declared
    → MatchResult declared IsNetwork IsInput
    → IsOneOf (IsCaptured order) (declared >>= λ network. station_in network.topology station
    >>= λ place. traffic_in network place file file_bytes
    >>= λ traffic. Ok (record { network = network; traffic = traffic })) answer
    → CaptureSays net station file net_bytes file_bytes order answer.text answer.status
capture_says net station file net_bytes file_bytes order (Ok network) answer is rules one =
    station_says net station file net_bytes file_bytes order network (station_in network.topology station) answer
    is rules refl (station_gives network.topology station) one
capture_says net station file net_bytes file_bytes order (Err due) answer is input one =
    subst (CaptureSays net station file net_bytes file_bytes order answer.text)
    (sym (ap (λ (a : Answer). a.status) one ∙ input)) (inl (none_declared (network_in net net_bytes) due is))

pub capture_means : CaptureMeans
unfolding captured_in
capture_means net station file net_bytes file_bytes order answer one =
    capture_says net station file net_bytes file_bytes order (network_in net net_bytes) answer refl
    (network_gives net net_bytes) one
