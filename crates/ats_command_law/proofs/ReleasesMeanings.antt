-- What the answers to `releases` mean.
use Rattle.std.proofs.Common.{◌≡◌, ℕ, ◌+◌, ◌*◌, ◌≤◌, Bool, cond, List, [], ◌∷◌, ◌++◌, length, map, Option}
use Rattle.std.proofs.Common.{Result, Ok, Err, refl, sym, ap, subst, inl, inr, ◌∙◌, arith}
use Rattle.std.specs.Prelude.{IsTrue, MatchResult, ◌&&◌, codes, decimal, nat_le}
use Rattle.std.specs.List.{All, list_all}
use Rattle.std.proofs.lemmas.Bool.{and_parts, le-ltb, leb-true}
use Rattle.std.proofs.lemmas.Fmt.{length-decimal-le_wide}
use Rattle.std.proofs.lemmas.List.{length-append}
use Rattle.std.proofs.lemmas.List.Elements.{All-head, All-tail}
use Rattle.ats_num.specs.Name.{is_name, is_name_byte}
use Rattle.ats_num.specs.Failure.{◌>>=◌, unless}
use Rattle.ats_network.specs.Network.{DeclaredNetwork, IsNetwork, senders_of}
use Rattle.ats_network.specs.Senders.{no_sender, sender_at}
use Rattle.ats_network_file.specs.FaultText as network
use Rattle.ats_network_file.specs.Reading.{network_of}
use Rattle.ats_network_file_law.proofs.Named.{each_sender_is_named}
use Rattle.ats_csv.specs.Plain.{record_text, text_of}
use Rattle.ats_trace.specs.Releases.{AreReleases, HaveFewPorts, IsRelease}
use Rattle.ats_trace.specs.declared.journey.Release.{Release}
use Rattle.ats_schedule.specs.FaultText as schedule_file
use Rattle.ats_schedule.specs.Laws.{AreNamed}
use Rattle.ats_schedule.specs.Reading.{header, releases_of}
use Rattle.ats_schedule.specs.Text.{fields_of, schedule_text}
use Rattle.ats_schedule.proofs.ReadsBack.{schedule_reads_back}
use Rattle.ats_pcap.specs.declared.record.Record.{Record}
use Rattle.ats_capture.specs.FaultText.{records_fault_text}
use Rattle.ats_capture.specs.Reading as capture
use Rattle.ats_capture.specs.Traffic.{Traffic, traffic_of}
use Rattle.ats_capture.specs.declared.fault.JoinFault.TheVariants.{Limit}
use Rattle.ats_capture_law.specs.Counted.{counted}
use Rattle.ats_capture_law.proofs.Counting.{traffic_is_counted}
use Rattle.ats_capture_law.proofs.Runnable.{traffic_has_few_ports, traffic_may_be_run}
use Rattle.ats_command_input.specs.Answer.{Answer, input_answer, settled}
use Rattle.ats_command_input.specs.Input.{declared_in, network_in, records_in, releases_in, traffic_in}
use Rattle.ats_command_input.specs.Station.{station_in}
use Rattle.ats_command_due.specs.Captured.{Captured, captured_in}
use Rattle.ats_command_due.specs.Due.{releases_answer}
use Rattle.ats_command_due.specs.Released.{released_in, released_text}
use Rattle.ats_command_law.proofs.CaptureMeanings.{IsNoStation, read_as, station_gives, traffic_counted, traffic_gives}
use Rattle.ats_command_law.proofs.Meanings.{IsInput, file_gives, network_gives, none_declared}
use Rattle.ats_command_law.specs.CaptureMeaning.{IsCounted}
use Rattle.ats_command_law.specs.ReleasesMeaning.{ReleasesMean, ReleasesSay}

-- a name has at most 32 bytes
name_short : (name : List ℕ) → IsTrue (is_name name) → length name ≤ 32
name_short name h =
    let parts = and_parts (nat_le 1 (length name) && nat_le (length name) 32) (list_all is_name_byte name) h in
    leb-true (length name) 32 (and_parts (nat_le 1 (length name)) (nat_le (length name) 32) parts.0).1

-- the record of a release that may be run
record_short : (network : DeclaredNetwork) (r : Release) → IsTrue (is_name (sender_at network r.sender).name)
    → IsRelease network r → length (record_text (fields_of network r)) ≤ 57
record_short network r named may =
    let at : List ℕ = decimal r.at.0 in
    let name : List ℕ = (sender_at network r.sender).name in
    let octets : List ℕ = decimal r.octets in
    let at_short : length at ≤ 18 =
    length-decimal-le_wide 18 r.at.0 (omega arith) (omega (arith, may.time)) (omega (arith, may.time)) in
    let octets_short : length octets ≤ 4 =
    length-decimal-le_wide 4 r.octets (omega arith) (omega (arith, may.octets.most)) (omega (arith, may.octets.most)) in
    omega (
      arith,
      at_short,
      octets_short,
      name_short name named,
      length-append (at ++ 44 ∷ (name ++ 44 ∷ octets)) (10 ∷ []),
      length-append at (44 ∷ (name ++ 44 ∷ octets)),
      length-append name (44 ∷ octets),
    )

-- the records of releases that may be run
records_short : (network : DeclaredNetwork) → AreNamed (senders_of network) → (releases : List Release)
    → All (IsRelease network) releases → length (text_of (map (fields_of network) releases)) ≤ 57 * length releases
records_short network named [] each = omega arith
records_short network named (r ∷ releases) each =
    let may = All-head (IsRelease network) r releases each in
    omega (
      arith,
      record_short network r (named r.sender no_sender may.sender) may,
      records_short network named releases (All-tail (IsRelease network) r releases each),
      length-append (record_text (fields_of network r)) (text_of (map (fields_of network) releases)),
    )

header_long : length (record_text header) ≡ 20
unfolding header
header_long = refl

-- the schedule of releases that may be run is no longer than its file may be
schedule_short : (network : DeclaredNetwork) (releases : List Release) → AreNamed (senders_of network)
    → AreReleases network releases → length (schedule_text network releases) ≤ 33554432
schedule_short network releases named may =
    omega (
      arith,
      header_long,
      records_short network named releases may.each,
      may.few,
      length-append (record_text header) (text_of (map (fields_of network) releases)),
    )

-- so as that of a file it declares them
schedule_declares : (network : DeclaredNetwork) (releases : List Release) (file : List ℕ) → IsNetwork network
    → AreNamed (senders_of network) → AreReleases network releases → HaveFewPorts network releases
    → releases_in network file (schedule_text network releases) ≡ Ok releases
unfolding releases_in
schedule_declares network releases file rules named may few =
    let text : List ℕ = schedule_text network releases in
    ap (λ (long : Bool). (let bytes : Result (List ℕ) Answer =
    cond long (Err (input_answer file (codes "too-long"))) (Ok text) in bytes)
    >>= λ bytes. declared_in file schedule_file.fault_text (releases_of network bytes))
    (le-ltb 33554432 (length text) (schedule_short network releases named may))
    ∙ ap (declared_in file schedule_file.fault_text) (schedule_reads_back network rules named releases may few)

-- the senders of a network that a file declares have names
names_given : (net bytes : List ℕ)
    → MatchResult (network_in net bytes) (λ (n : DeclaredNetwork). AreNamed (senders_of n)) IsInput
unfolding network_in
names_given net bytes =
    file_gives 16777216 net bytes network.fault_text network_of (λ (n : DeclaredNetwork). AreNamed (senders_of n))
    each_sender_is_named

-- what a file declares of records and traffic, in words of its bytes
records_read : (file bytes : List ℕ) (records : List Record) → records_in file bytes ≡ Ok records
    → capture.records_in bytes ≡ Ok records
unfolding records_in
records_read file bytes records is = read_as file records_fault_text (capture.records_in bytes) records is

pub traffic_joined : (file bytes : List ℕ) (network : DeclaredNetwork) (place : ℕ) (traffic : Traffic)
    (records : List Record) → IsCounted file bytes network place traffic records
    → traffic_of network place records ≡ Ok traffic
traffic_joined file bytes network place traffic records is =
    traffic_is_counted network place records
    ∙ ap (λ (over : Option (ℕ × Record)). unless (λ (numbered : ℕ × Record). Limit (numbered.0 + 1)) over
    (counted network place records)) is.none_over
    ∙ ap Ok (sym is.counts)

traffic_runs : (file bytes : List ℕ) (network : DeclaredNetwork) (place : ℕ) (traffic : Traffic) (records : List Record)
    → IsCounted file bytes network place traffic records → AreReleases network traffic.releases
traffic_runs file bytes network place traffic records is =
    traffic_may_be_run network place bytes records traffic (records_read file bytes records is.read)
    (traffic_joined file bytes network place traffic records is)

-- what was captured, and what is printed of it
abbrev captured_with : DeclaredNetwork → Traffic → Captured
captured_with network traffic = record { network = network; traffic = traffic }

abbrev printed : Result Captured Answer → Answer
printed due = settled (due >>= λ captured. Ok (released_text captured.network captured.traffic))

-- where the first declares a network and a station has the name
traffic_says : (net station file net_bytes file_bytes : List ℕ) (network : DeclaredNetwork) (place : ℕ)
    (declared : Result Traffic Answer) → network_in net net_bytes ≡ Ok network → IsNetwork network
    → AreNamed (senders_of network) → station_in network.topology station ≡ Ok place
    → traffic_in network place file file_bytes ≡ declared
    → MatchResult declared (λ (traffic : Traffic). Unit {0}) IsInput
    → (let answer = printed (declared >>= λ traffic. Ok (captured_with network traffic)) in
    ReleasesSay net station file net_bytes file_bytes answer.text answer.status)
traffic_says net station file net_bytes file_bytes network place (Ok traffic) declared rules names named is input =
    let all = traffic_counted network place file file_bytes traffic is in
    let may = traffic_runs file file_bytes network place traffic all.0 all.1 in
    let few : HaveFewPorts network traffic.releases =
    traffic_has_few_ports network place all.0 traffic
    (traffic_joined file file_bytes network place traffic all.0 all.1) in (
      network,
      place,
      all.0,
      traffic,
      record {
        network_declared = declared;
        named = named;
        captured = all.1;
        rules = rules;
        may_be_run = may;
        few_ports = few;
        written = refl;
        reads_back = λ schedule. schedule_declares network traffic.releases schedule rules names may few;
      },
    )
traffic_says net station file net_bytes file_bytes network place (Err due) declared rules names named is input =
    subst (ReleasesSay net station file net_bytes file_bytes due.text) (sym input)
    (inr (
      network,
      place,
      record {
        network_declared = declared;
        named = named;
        no_traffic = none_declared (traffic_in network place file file_bytes) due is;
      },
    ))

-- where the first declares a network
station_says : (net station file net_bytes file_bytes : List ℕ) (network : DeclaredNetwork) (found : Result ℕ Answer)
    → network_in net net_bytes ≡ Ok network → IsNetwork network → AreNamed (senders_of network)
    → station_in network.topology station ≡ found
    → MatchResult found (λ (place : ℕ). Unit {0}) (IsNoStation station)
    → (let answer = printed (found >>= λ place. traffic_in network place file file_bytes
    >>= λ traffic. Ok (captured_with network traffic)) in
    ReleasesSay net station file net_bytes file_bytes answer.text answer.status)
station_says net station file net_bytes file_bytes network (Ok place) declared rules names is none =
    traffic_says net station file net_bytes file_bytes network place (traffic_in network place file file_bytes)
    declared rules names is refl (traffic_gives network place file file_bytes)
station_says net station file net_bytes file_bytes network (Err due) declared rules names is none =
    subst (λ (a : Answer). ReleasesSay net station file net_bytes file_bytes a.text a.status) (sym none) (
      network,
      record {
        network_declared = declared;
        no_station = none_declared (station_in network.topology station) due is;
        written = refl;
      },
    )

releases_say : (net station file net_bytes file_bytes : List ℕ) (declared : Result DeclaredNetwork Answer)
    → network_in net net_bytes ≡ declared → MatchResult declared IsNetwork IsInput
    → MatchResult declared (λ (n : DeclaredNetwork). AreNamed (senders_of n)) IsInput
    → (let answer = printed (declared >>= λ network. station_in network.topology station
    >>= λ place. traffic_in network place file file_bytes
    >>= λ traffic. Ok (captured_with network traffic)) in
    ReleasesSay net station file net_bytes file_bytes answer.text answer.status)
releases_say net station file net_bytes file_bytes (Ok network) is rules names =
    station_says net station file net_bytes file_bytes network (station_in network.topology station) is rules names
    refl (station_gives network.topology station)
releases_say net station file net_bytes file_bytes (Err due) is input names =
    subst (ReleasesSay net station file net_bytes file_bytes due.text) (sym input)
    (inl (none_declared (network_in net net_bytes) due is))

pub releases_mean : ReleasesMean
unfolding releases_answer released_in captured_in
releases_mean net station file net_bytes file_bytes =
    releases_say net station file net_bytes file_bytes (network_in net net_bytes) refl (network_gives net net_bytes)
    (names_given net net_bytes)
