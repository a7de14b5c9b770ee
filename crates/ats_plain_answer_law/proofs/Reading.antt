use Rattle.std.proofs.Common.{◌≡◌, ℕ, List, Some, None, Ok, Err, ap, ◌∙◌}
use Rattle.std.specs.Prelude.{Result}
use Rattle.ats_num.specs.Failure.{◌>>=◌}
use Rattle.ats_network.specs.Network.{DeclaredNetwork}
use Rattle.ats_certificate.specs.declared.row.Row.{Row}
use Rattle.ats_bound.specs.Reason.{reason_of}
use Rattle.ats_checker.specs.Refusal.{refusal_of}
use Rattle.ats_trace.specs.declared.journey.Release.{Release}
use Rattle.ats_capture.specs.Traffic.{Traffic}
use Rattle.ats_gen.specs.Made.{gen_fault}
use Rattle.ats_gen.specs.declared.fault.GenFault.{GenFault}
use Rattle.ats_verdict_text.specs.Text.{reason_text, refusal_text}
use Rattle.ats_command_input.specs.Answer.{Answer}
use Rattle.ats_command_input.specs.Input.{network_in, releases_in, rows_in, traffic_in}
use Rattle.ats_command_input.specs.Port.{port_in}
use Rattle.ats_command_input.specs.Station.{station_in}
use Rattle.ats_command_input.specs.Stream.{stream_in}
use Rattle.ats_command_due.specs.Captured.{Captured, captured_in}
use Rattle.ats_command_due.specs.Generated.{gen_fault_text, generated_in, made_for, network_unless}
use Rattle.ats_command_due.specs.Held.{Held, held, held_in, held_judged}
use Rattle.ats_command_due.specs.Judged.{unless_refused}
use Rattle.ats_command_due.specs.Recorded.{Recorded, recorded_in}
use Rattle.ats_command_due.specs.Replayed.{Scheduled, scheduled_in}
use Rattle.ats_command_due.specs.Witnessed.{Witnessed, witness_judged, witnessed, witnessed_in}
use Rattle.ats_plain_answer_law.specs.Lines.{refused_for}
use Rattle.ats_plain_answer_law.proofs.Stepping.{step, stop, unless}

-- What the files and words of a command that runs frames declare, or the answer to the first that is not taken.

abbrev with_releases : DeclaredNetwork → List Release → Result Scheduled Answer
with_releases network releases = Ok (record { network = network; releases = releases })

abbrev scheduled_by : List ℕ → List ℕ → DeclaredNetwork → Result Scheduled Answer
scheduled_by schedule bytes network = releases_in network schedule bytes >>= with_releases network

pub unscheduled : (net schedule net_bytes bytes : List ℕ) (due : Answer) → network_in net net_bytes ≡ Err due
    → scheduled_in net schedule net_bytes bytes ≡ Err due
unfolding scheduled_in
unscheduled net schedule net_bytes bytes due is = stop (network_in net net_bytes) due (scheduled_by schedule bytes) is

pub unreleased : (net schedule net_bytes bytes : List ℕ) (network : DeclaredNetwork) (due : Answer)
    → network_in net net_bytes ≡ Ok network → releases_in network schedule bytes ≡ Err due
    → scheduled_in net schedule net_bytes bytes ≡ Err due
unfolding scheduled_in
unreleased net schedule net_bytes bytes network due is none =
    step (network_in net net_bytes) network (scheduled_by schedule bytes) is
    ∙ stop (releases_in network schedule bytes) due (with_releases network) none

pub scheduled_is : (net schedule net_bytes bytes : List ℕ) (network : DeclaredNetwork) (releases : List Release)
    → network_in net net_bytes ≡ Ok network → releases_in network schedule bytes ≡ Ok releases
    → scheduled_in net schedule net_bytes bytes ≡ Ok (record { network = network; releases = releases })
unfolding scheduled_in
scheduled_is net schedule net_bytes bytes network releases is are =
    step (network_in net net_bytes) network (scheduled_by schedule bytes) is
    ∙ step (releases_in network schedule bytes) releases (with_releases network) are

abbrev with_traffic : DeclaredNetwork → Traffic → Result Captured Answer
with_traffic network traffic = Ok (record { network = network; traffic = traffic })

abbrev captured_at : List ℕ → List ℕ → DeclaredNetwork → ℕ → Result Captured Answer
captured_at file bytes network place = traffic_in network place file bytes >>= with_traffic network

abbrev captured_by : List ℕ → List ℕ → List ℕ → DeclaredNetwork → Result Captured Answer
captured_by station file bytes network =
    station_in network.topology station >>= captured_at file bytes network

pub uncaptured : (net station file net_bytes bytes : List ℕ) (due : Answer) → network_in net net_bytes ≡ Err due
    → captured_in net station file net_bytes bytes ≡ Err due
unfolding captured_in
uncaptured net station file net_bytes bytes due is =
    stop (network_in net net_bytes) due (captured_by station file bytes) is

pub unstationed : (net station file net_bytes bytes : List ℕ) (network : DeclaredNetwork) (due : Answer)
    → network_in net net_bytes ≡ Ok network → station_in network.topology station ≡ Err due
    → captured_in net station file net_bytes bytes ≡ Err due
unfolding captured_in
unstationed net station file net_bytes bytes network due is none =
    step (network_in net net_bytes) network (captured_by station file bytes) is
    ∙ stop (station_in network.topology station) due (captured_at file bytes network) none

pub unjoined : (net station file net_bytes bytes : List ℕ) (network : DeclaredNetwork) (place : ℕ) (due : Answer)
    → network_in net net_bytes ≡ Ok network → station_in network.topology station ≡ Ok place
    → traffic_in network place file bytes ≡ Err due
    → captured_in net station file net_bytes bytes ≡ Err due
unfolding captured_in
unjoined net station file net_bytes bytes network place due is named none =
    step (network_in net net_bytes) network (captured_by station file bytes) is
    ∙ step (station_in network.topology station) place (captured_at file bytes network) named
    ∙ stop (traffic_in network place file bytes) due (with_traffic network) none

pub captured_is : (net station file net_bytes bytes : List ℕ) (network : DeclaredNetwork) (place : ℕ)
    (traffic : Traffic) → network_in net net_bytes ≡ Ok network → station_in network.topology station ≡ Ok place
    → traffic_in network place file bytes ≡ Ok traffic
    → captured_in net station file net_bytes bytes ≡ Ok (record { network = network; traffic = traffic })
unfolding captured_in
captured_is net station file net_bytes bytes network place traffic is named joined =
    step (network_in net net_bytes) network (captured_by station file bytes) is
    ∙ step (station_in network.topology station) place (captured_at file bytes network) named
    ∙ step (traffic_in network place file bytes) traffic (with_traffic network) joined

abbrev with_port : DeclaredNetwork → ℕ → List Release → Result Recorded Answer
with_port network place releases = Ok (record { network = network; port = place; releases = releases })

abbrev recorded_at : List ℕ → List ℕ → DeclaredNetwork → ℕ → Result Recorded Answer
recorded_at schedule bytes network place = releases_in network schedule bytes >>= with_port network place

abbrev recorded_by : List ℕ → List ℕ → List ℕ → DeclaredNetwork → Result Recorded Answer
recorded_by schedule port bytes network = port_in network.topology port >>= recorded_at schedule bytes network

pub unrecorded : (net schedule port net_bytes bytes : List ℕ) (due : Answer) → network_in net net_bytes ≡ Err due
    → recorded_in net schedule port net_bytes bytes ≡ Err due
unfolding recorded_in
unrecorded net schedule port net_bytes bytes due is =
    stop (network_in net net_bytes) due (recorded_by schedule port bytes) is

pub unported : (net schedule port net_bytes bytes : List ℕ) (network : DeclaredNetwork) (due : Answer)
    → network_in net net_bytes ≡ Ok network → port_in network.topology port ≡ Err due
    → recorded_in net schedule port net_bytes bytes ≡ Err due
unfolding recorded_in
unported net schedule port net_bytes bytes network due is none =
    step (network_in net net_bytes) network (recorded_by schedule port bytes) is
    ∙ stop (port_in network.topology port) due (recorded_at schedule bytes network) none

pub unplayed : (net schedule port net_bytes bytes : List ℕ) (network : DeclaredNetwork) (place : ℕ) (due : Answer)
    → network_in net net_bytes ≡ Ok network → port_in network.topology port ≡ Ok place
    → releases_in network schedule bytes ≡ Err due
    → recorded_in net schedule port net_bytes bytes ≡ Err due
unfolding recorded_in
unplayed net schedule port net_bytes bytes network place due is named none =
    step (network_in net net_bytes) network (recorded_by schedule port bytes) is
    ∙ step (port_in network.topology port) place (recorded_at schedule bytes network) named
    ∙ stop (releases_in network schedule bytes) due (with_port network place) none

pub recorded_is : (net schedule port net_bytes bytes : List ℕ) (network : DeclaredNetwork) (place : ℕ)
    (releases : List Release) → network_in net net_bytes ≡ Ok network → port_in network.topology port ≡ Ok place
    → releases_in network schedule bytes ≡ Ok releases
    → recorded_in net schedule port net_bytes bytes
    ≡ Ok (record { network = network; port = place; releases = releases })
unfolding recorded_in
recorded_is net schedule port net_bytes bytes network place releases is named are =
    step (network_in net net_bytes) network (recorded_by schedule port bytes) is
    ∙ step (port_in network.topology port) place (recorded_at schedule bytes network) named
    ∙ step (releases_in network schedule bytes) releases (with_port network place) are

abbrev with_rows : DeclaredNetwork → List Row → List Release → Result Held Answer
with_rows network rows releases = unless_refused network rows (held network rows releases)

abbrev held_at : List ℕ → List ℕ → DeclaredNetwork → List Row → Result Held Answer
held_at schedule bytes network rows = held_judged network rows schedule bytes

abbrev held_by : List ℕ → List ℕ → List ℕ → List ℕ → DeclaredNetwork → Result Held Answer
held_by certificate schedule rows_bytes bytes network =
    rows_in network.topology certificate rows_bytes >>= held_at schedule bytes network

pub unheld : (net certificate schedule net_bytes rows_bytes bytes : List ℕ) (due : Answer)
    → network_in net net_bytes ≡ Err due
    → held_in net certificate schedule net_bytes rows_bytes bytes ≡ Err due
unfolding held_in
unheld net certificate schedule net_bytes rows_bytes bytes due is =
    stop (network_in net net_bytes) due (held_by certificate schedule rows_bytes bytes) is

pub unrowed : (net certificate schedule net_bytes rows_bytes bytes : List ℕ) (network : DeclaredNetwork)
    (due : Answer) → network_in net net_bytes ≡ Ok network → rows_in network.topology certificate rows_bytes ≡ Err due
    → held_in net certificate schedule net_bytes rows_bytes bytes ≡ Err due
unfolding held_in
unrowed net certificate schedule net_bytes rows_bytes bytes network due is none =
    step (network_in net net_bytes) network (held_by certificate schedule rows_bytes bytes) is
    ∙ stop (rows_in network.topology certificate rows_bytes) due (held_at schedule bytes network) none

pub unfilled : (net certificate schedule net_bytes rows_bytes bytes : List ℕ) (network : DeclaredNetwork)
    (rows : List Row) (due : Answer) → network_in net net_bytes ≡ Ok network
    → rows_in network.topology certificate rows_bytes ≡ Ok rows → releases_in network schedule bytes ≡ Err due
    → held_in net certificate schedule net_bytes rows_bytes bytes ≡ Err due
unfolding held_in
unfilled net certificate schedule net_bytes rows_bytes bytes network rows due is named none =
    step (network_in net net_bytes) network (held_by certificate schedule rows_bytes bytes) is
    ∙ step (rows_in network.topology certificate rows_bytes) rows (held_at schedule bytes network) named
    ∙ stop (releases_in network schedule bytes) due (with_rows network rows) none

pub held_unless : (net certificate schedule net_bytes rows_bytes bytes : List ℕ) (network : DeclaredNetwork)
    (rows : List Row) (releases : List Release) → network_in net net_bytes ≡ Ok network
    → rows_in network.topology certificate rows_bytes ≡ Ok rows → releases_in network schedule bytes ≡ Ok releases
    → held_in net certificate schedule net_bytes rows_bytes bytes
    ≡ unless (refusal_text network.topology) (held network rows releases) (refusal_of network rows)
unfolding held_in
held_unless net certificate schedule net_bytes rows_bytes bytes network rows releases is named are =
    step (network_in net net_bytes) network (held_by certificate schedule rows_bytes bytes) is
    ∙ step (rows_in network.topology certificate rows_bytes) rows (held_at schedule bytes network) named
    ∙ step (releases_in network schedule bytes) releases (with_rows network rows) are

pub unmade : (net bytes : List ℕ) (seed count : ℕ) (due : Answer) → network_in net bytes ≡ Err due
    → generated_in net seed count bytes ≡ Err due
unfolding generated_in
unmade net bytes seed count due is = stop (network_in net bytes) due (made_for seed count) is

pub not_made : (net bytes : List ℕ) (seed count : ℕ) (network : DeclaredNetwork) (fault : GenFault)
    → network_in net bytes ≡ Ok network → gen_fault network seed count ≡ Some fault
    → generated_in net seed count bytes ≡ Err (refused_for (gen_fault_text fault))
unfolding generated_in made_for
not_made net bytes seed count network fault is why =
    step (network_in net bytes) network (made_for seed count) is ∙ ap (network_unless network) why

pub made_is : (net bytes : List ℕ) (seed count : ℕ) (network : DeclaredNetwork)
    → network_in net bytes ≡ Ok network → gen_fault network seed count ≡ None
    → generated_in net seed count bytes ≡ Ok network
unfolding generated_in made_for
made_is net bytes seed count network is none =
    step (network_in net bytes) network (made_for seed count) is ∙ ap (network_unless network) none

abbrev witnessed_by : List ℕ → DeclaredNetwork → Result Witnessed Answer
witnessed_by name network = stream_in network.streams name >>= witness_judged network

pub unwitnessed : (net name bytes : List ℕ) (due : Answer) → network_in net bytes ≡ Err due
    → witnessed_in net name bytes ≡ Err due
unfolding witnessed_in
unwitnessed net name bytes due is = stop (network_in net bytes) due (witnessed_by name) is

pub unstreamed : (net name bytes : List ℕ) (network : DeclaredNetwork) (due : Answer)
    → network_in net bytes ≡ Ok network → stream_in network.streams name ≡ Err due
    → witnessed_in net name bytes ≡ Err due
unfolding witnessed_in
unstreamed net name bytes network due is none =
    step (network_in net bytes) network (witnessed_by name) is
    ∙ stop (stream_in network.streams name) due (witness_judged network) none

pub witnessed_unless : (net name bytes : List ℕ) (network : DeclaredNetwork) (stream : ℕ)
    → network_in net bytes ≡ Ok network → stream_in network.streams name ≡ Ok stream
    → witnessed_in net name bytes
    ≡ unless (reason_text network.topology) (witnessed network stream) (reason_of network)
unfolding witnessed_in witness_judged
witnessed_unless net name bytes network stream is named =
    step (network_in net bytes) network (witnessed_by name) is
    ∙ step (stream_in network.streams name) stream (witness_judged network) named
