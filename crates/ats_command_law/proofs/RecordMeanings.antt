-- What the answers to `record` mean.
use Rattle.std.proofs.Common.{◌≡◌, ℕ, ◌≤◌, List, length, Option, Some, None, Result, Ok, Err, refl, sym, ap, subst}
use Rattle.std.proofs.Common.{inl, inr, ◌∙◌}
use Rattle.std.specs.Prelude.{IfOk, MatchResult}
use Rattle.std.proofs.lemmas.List.{length-map}
use Rattle.ats_topology.specs.Topology.{DeclaredTopology}
use Rattle.ats_network.specs.Network.{DeclaredNetwork, IsNetwork}
use Rattle.ats_port_names.specs.PortName.{port_named}
use Rattle.ats_trace.specs.Journey.{Travel}
use Rattle.ats_trace.specs.Releases.{AreReleases}
use Rattle.ats_trace.specs.Run as runs
use Rattle.ats_trace.specs.declared.journey.Release.{Release}
use Rattle.ats_trace.specs.declared.run.TheConstants.{MAX_FRAMES}
use Rattle.ats_port_capture_law.proofs.Answered.{capture_is_read}
use Rattle.ats_num.specs.Failure.{◌>>=◌, or_fault}
use Rattle.ats_command_input.specs.Answer.{Answer}
use Rattle.ats_command_input.specs.Input.{network_in, releases_in}
use Rattle.ats_command_input.specs.Port.{port_answer, port_in}
use Rattle.ats_command_input.specs.declared.order.Order.{Order}
use Rattle.ats_command_due.specs.Recorded.{IsRecorded, IsRecordedRun, recorded_in}
use Rattle.ats_command_due.specs.Replayed.{IsOneOf}
use Rattle.ats_command_law.proofs.Meanings.{IsInput, network_gives, none_declared}
use Rattle.ats_command_law.proofs.ReplayMeanings.{releases_give}
use Rattle.ats_command_law.proofs.Scheduled.{releases_may}
use Rattle.ats_command_law.specs.RecordMeaning.{RecordMeans, RecordSays}

-- a run with releases that a file declares has no more frames than it may
few_of : (network : DeclaredNetwork) (declared : Result (List Release) Answer) (releases : List Release)
    → IfOk declared (AreReleases network) → declared ≡ Ok releases → length releases ≤ MAX_FRAMES
few_of network declared releases may is =
    let are : AreReleases network releases =
    subst (λ (d : Result (List Release) Answer). IfOk d (AreReleases network)) is may in
    are.few

few_frames : (network : DeclaredNetwork) (schedule bytes : List ℕ) (releases : List Release) (run : List Travel)
    → releases_in network schedule bytes ≡ Ok releases → runs.releases_of run ≡ releases → length run ≤ MAX_FRAMES
few_frames network schedule bytes releases run is exactly =
    let few : length releases ≤ MAX_FRAMES =
    few_of network (releases_in network schedule bytes) releases (releases_may network schedule bytes) is in
    let many : length (runs.releases_of run) ≡ length run = length-map run (λ (j : Travel). j.release) in
    subst (λ n. n ≤ MAX_FRAMES) (sym (ap (λ (l : List Release). length l) exactly) ∙ many) few

-- a word that is the name of no port is answered so
abbrev IsNoPort : List ℕ → Answer → Type 0
IsNoPort port answer = answer ≡ port_answer port

port_gives : (topology : DeclaredTopology) (port : List ℕ)
    → MatchResult (port_in topology port) (λ (place : ℕ). Unit {0}) (IsNoPort port)
unfolding port_in
port_gives topology port = by (port_named topology port)
  where
    by : (found : Option ℕ)
        → MatchResult (or_fault (port_answer port) found) (λ (place : ℕ). Unit {0}) (IsNoPort port)
    by (Some place) = tt
    by None = refl

-- where the first declares a network and a port has the name
releases_say : (net schedule port net_bytes schedule_bytes : List ℕ) (order : Order) (network : DeclaredNetwork)
    (place : ℕ) (declared : Result (List Release) Answer) (answer : Answer) → network_in net net_bytes ≡ Ok network
    → IsNetwork network → port_in network.topology port ≡ Ok place
    → releases_in network schedule schedule_bytes ≡ declared
    → MatchResult declared (λ (releases : List Release). Unit {0}) IsInput
    → IsOneOf (IsRecorded order)
    (declared >>= λ releases. Ok (record { network = network; port = place; releases = releases })) answer
    → RecordSays net schedule port net_bytes schedule_bytes order answer.text answer.status
releases_say net schedule port net_bytes schedule_bytes order network place (Ok releases) answer
    declared rules named is input one =
    let run : List Travel = one.1.0 in
    let recorded : IsRecordedRun order network place releases answer.text run = one.1.1 in
    let few = few_frames network schedule schedule_bytes releases run is recorded.is_run.exactly in
    subst (RecordSays net schedule port net_bytes schedule_bytes order answer.text) (sym one.0) (
      network,
      place,
      releases,
      run,
      record {
        network_declared = declared;
        named = named;
        releases_declared = is;
        rules = rules;
        recorded = recorded;
        reads_back = capture_is_read network run place answer.text rules recorded.is_run.by_order.legal.journeys few
            recorded.capture;
      },
    )
releases_say net schedule port net_bytes schedule_bytes order network place (Err due) answer
    declared rules named is input one =
    subst (RecordSays net schedule port net_bytes schedule_bytes order answer.text)
    (sym (ap (λ (a : Answer). a.status) one ∙ input))
    (inr (
      network,
      place,
      record {
        network_declared = declared;
        named = named;
        no_releases = none_declared (releases_in network schedule schedule_bytes) due is;
      },
    ))

-- where the first declares a network
port_says : (net schedule port net_bytes schedule_bytes : List ℕ) (order : Order) (network : DeclaredNetwork)
    (found : Result ℕ Answer) (answer : Answer) → network_in net net_bytes ≡ Ok network → IsNetwork network
    → port_in network.topology port ≡ found
    → MatchResult found (λ (place : ℕ). Unit {0}) (IsNoPort port)
    → IsOneOf (IsRecorded order) (found >>= λ place. releases_in network schedule schedule_bytes
    >>= λ releases. Ok (record { network = network; port = place; releases = releases })) answer
    → RecordSays net schedule port net_bytes schedule_bytes order answer.text answer.status
port_says net schedule port net_bytes schedule_bytes order network (Ok place) answer declared rules is none one =
    releases_say net schedule port net_bytes schedule_bytes order network place
    (releases_in network schedule schedule_bytes) answer
    declared rules is refl (releases_give network schedule schedule_bytes) one
port_says net schedule port net_bytes schedule_bytes order network (Err due) answer declared rules is none one =
    subst (λ (a : Answer). RecordSays net schedule port net_bytes schedule_bytes order a.text a.status)
    (sym (one ∙ none)) (
      network,
      record {
        network_declared = declared;
        no_port = none_declared (port_in network.topology port) due is;
        written = refl;
      },
    )

record_says : (net schedule port net_bytes schedule_bytes : List ℕ) (order : Order)
    (declared : Result DeclaredNetwork Answer) (answer : Answer) → network_in net net_bytes ≡ declared
    → MatchResult declared IsNetwork IsInput
    → IsOneOf (IsRecorded order) (declared >>= λ network. port_in network.topology port
    >>= λ place. releases_in network schedule schedule_bytes
    >>= λ releases. Ok (record { network = network; port = place; releases = releases })) answer
    → RecordSays net schedule port net_bytes schedule_bytes order answer.text answer.status
record_says net schedule port net_bytes schedule_bytes order (Ok network) answer is rules one =
    port_says net schedule port net_bytes schedule_bytes order network (port_in network.topology port) answer
    is rules refl (port_gives network.topology port) one
record_says net schedule port net_bytes schedule_bytes order (Err due) answer is input one =
    subst (RecordSays net schedule port net_bytes schedule_bytes order answer.text)
    (sym (ap (λ (a : Answer). a.status) one ∙ input)) (inl (none_declared (network_in net net_bytes) due is))

pub record_means : RecordMeans
unfolding recorded_in
record_means net schedule port net_bytes schedule_bytes order answer one =
    record_says net schedule port net_bytes schedule_bytes order (network_in net net_bytes) answer refl
    (network_gives net net_bytes) one
