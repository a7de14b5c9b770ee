use Rattle.std.proofs.Common.{◌≡◌, ◌∙◌, ℕ, List, [], ◌∷◌, Option, Some, None, Result, Ok, refl, sym, ap, subst}
use Rattle.std.specs.Prelude.{All, IsSome, unwrap_or}
use Rattle.std.specs.Option.{option_map}
use Rattle.std.proofs.lemmas.List.Elements.{All-cons, All-nil}
use Rattle.ats_num.specs.Failure.{◌>>=◌}
use Rattle.ats_network.specs.Network.{DeclaredNetwork}
use Rattle.ats_bound.specs.Reason.{reason_of}
use Rattle.ats_certificate.specs.declared.row.Row.{Row}
use Rattle.ats_trace.specs.declared.journey.Release.{Release}
use Rattle.ats_capture.specs.Traffic.{Traffic}
use Rattle.ats_checker.specs.Refusal.{refusal_of}
use Rattle.ats_gen.specs.Made.{gen_fault}
use Rattle.ats_verdict_text.specs.Text.{reason_text, refusal_text}
use Rattle.ats_command_input.specs.Answer.{Answer}
use Rattle.ats_command_input.specs.Input.{network_in, releases_in, rows_in, traffic_in}
use Rattle.ats_command_input.specs.Port.{port_in}
use Rattle.ats_command_input.specs.Station.{station_in}
use Rattle.ats_command_input.specs.Stream.{stream_in}
use Rattle.ats_command_due.specs.Captured.{Captured, IsCaptured, captured_in}
use Rattle.ats_command_due.specs.Due.{told_bytes}
use Rattle.ats_command_due.specs.Generated.{IsGenerated, generated_in, made_for, network_unless}
use Rattle.ats_command_due.specs.Held.{Held, IsHeldText, held, held_in}
use Rattle.ats_command_due.specs.Judged.{judged, unless_refused}
use Rattle.ats_command_due.specs.Recorded.{IsRecorded, Recorded, recorded_in}
use Rattle.ats_command_due.specs.Replayed.{IsOneOf, IsReplayed, Scheduled, scheduled_in}
use Rattle.ats_command_due.specs.Witnessed.{IsWitnessed, Witnessed, witness_judged, witnessed, witnessed_in}
use Rattle.ats_answer_examples.specs.RunsDue.{RunsAreDue, Told, done_with}

-- The text of each run is due: what its files declare is read step by step.

-- bytes are told where they are these
some_told : (told : Told) (name bytes : List ℕ) → told name ≡ Some bytes → IsSome (told name)
some_told told name bytes is = subst (λ (t : Option (List ℕ)). IsSome t) (sym is) refl

bytes_told : (told : Told) (name bytes : List ℕ) → told name ≡ Some bytes → bytes ≡ told_bytes told name
bytes_told told name bytes is = sym (ap (λ (t : Option (List ℕ)). unwrap_or t []) is)

one_told : (told : Told) (name bytes : List ℕ) → told name ≡ Some bytes
    → All (λ (n : List ℕ). IsSome (told n)) (name ∷ [])
one_told told name bytes is = let There : List ℕ → Type 0 = λ (n : List ℕ). IsSome (told n) in
    All-cons There name [] (some_told told name bytes is) (All-nil There)

two_told : (told : Told) (name other bytes others : List ℕ) → told name ≡ Some bytes → told other ≡ Some others
    → All (λ (n : List ℕ). IsSome (told n)) (name ∷ other ∷ [])
two_told told name other bytes others is also = let There : List ℕ → Type 0 = λ (n : List ℕ). IsSome (told n) in
    All-cons There name (other ∷ []) (some_told told name bytes is) (one_told told other others also)

three_told : (told : Told) (name other last bytes others lasts : List ℕ) → told name ≡ Some bytes
    → told other ≡ Some others → told last ≡ Some lasts
    → All (λ (n : List ℕ). IsSome (told n)) (name ∷ other ∷ last ∷ [])
three_told told name other last bytes others lasts is also too =
    let There : List ℕ → Type 0 = λ (n : List ℕ). IsSome (told n) in
    All-cons There name (other ∷ last ∷ []) (some_told told name bytes is)
    (two_told told other last others lasts also too)

-- a text that is one of what is declared is one of what is due
one_of : {A : Type 0} (Text : A → List ℕ → Type 0) (due : Result A Answer) (declared : A) (text : List ℕ)
    → due ≡ Ok declared → Text declared text → IsOneOf Text due (done_with text)
one_of {A} Text due declared text is text_is =
    subst (λ (d : Result A Answer). IsOneOf Text d (done_with text)) (sym is) (refl, text_is)

-- one step further
step : {A B : Type 0} (read : Result A Answer) (value : A) (go : A → Result B Answer) → read ≡ Ok value
    → (read >>= go) ≡ go value
step {A} {B} read value go is = ap (λ (r : Result A Answer). r >>= go) is

scheduled_is : (net schedule net_bytes bytes : List ℕ) (network : DeclaredNetwork) (releases : List Release)
    → network_in net net_bytes ≡ Ok network → releases_in network schedule bytes ≡ Ok releases
    → scheduled_in net schedule net_bytes bytes ≡ Ok (record { network = network; releases = releases })
unfolding scheduled_in
scheduled_is net schedule net_bytes bytes network releases declares too =
    step (network_in net net_bytes) network read declares
    ∙ step (releases_in network schedule bytes) releases (with_releases network) too
  where
    with_releases : DeclaredNetwork → List Release → Result Scheduled Answer
    with_releases over those = Ok (record { network = over; releases = those })

    read : DeclaredNetwork → Result Scheduled Answer
    read over = releases_in over schedule bytes >>= with_releases over

captured_is : (net station file net_bytes bytes : List ℕ) (network : DeclaredNetwork) (place : ℕ) (traffic : Traffic)
    → network_in net net_bytes ≡ Ok network → station_in network.topology station ≡ Ok place
    → traffic_in network place file bytes ≡ Ok traffic
    → captured_in net station file net_bytes bytes ≡ Ok (record { network = network; traffic = traffic })
unfolding captured_in
captured_is net station file net_bytes bytes network place traffic declares named too =
    step (network_in net net_bytes) network read declares
    ∙ step (station_in network.topology station) place (at_station network) named
    ∙ step (traffic_in network place file bytes) traffic (with_traffic network) too
  where
    with_traffic : DeclaredNetwork → Traffic → Result Captured Answer
    with_traffic over those = Ok (record { network = over; traffic = those })

    at_station : DeclaredNetwork → ℕ → Result Captured Answer
    at_station over place = traffic_in over place file bytes >>= with_traffic over

    read : DeclaredNetwork → Result Captured Answer
    read over = station_in over.topology station >>= at_station over

generated_is : (net bytes : List ℕ) (seed count : ℕ) (network : DeclaredNetwork)
    → network_in net bytes ≡ Ok network → gen_fault network seed count ≡ None
    → generated_in net seed count bytes ≡ Ok network
unfolding generated_in made_for
generated_is net bytes seed count network declares none =
    step (network_in net bytes) network (made_for seed count) declares ∙ ap (network_unless network) none

held_is : (net certificate schedule net_bytes row_bytes bytes : List ℕ) (network : DeclaredNetwork)
    (rows : List Row) (releases : List Release)
    → network_in net net_bytes ≡ Ok network → rows_in network.topology certificate row_bytes ≡ Ok rows
    → releases_in network schedule bytes ≡ Ok releases → refusal_of network rows ≡ None
    → held_in net certificate schedule net_bytes row_bytes bytes ≡ Ok (held network rows releases)
unfolding held_in
held_is net certificate schedule net_bytes row_bytes bytes network rows releases declares also too holds =
    step (network_in net net_bytes) network read declares
    ∙ step (rows_in network.topology certificate row_bytes) rows (with_rows network) also
    ∙ step (releases_in network schedule bytes) releases (with_releases network rows) too
    ∙ ap (λ why. judged (held network rows releases) (option_map (refusal_text network.topology) why)) holds
  where
    with_releases : DeclaredNetwork → List Row → List Release → Result Held Answer
    with_releases over those all = unless_refused over those (held over those all)

    with_rows : DeclaredNetwork → List Row → Result Held Answer
    with_rows over those = releases_in over schedule bytes >>= with_releases over those

    read : DeclaredNetwork → Result Held Answer
    read over = rows_in over.topology certificate row_bytes >>= with_rows over

recorded_is : (net schedule port net_bytes bytes : List ℕ) (network : DeclaredNetwork) (place : ℕ)
    (releases : List Release)
    → network_in net net_bytes ≡ Ok network → port_in network.topology port ≡ Ok place
    → releases_in network schedule bytes ≡ Ok releases
    → recorded_in net schedule port net_bytes bytes
    ≡ Ok (record { network = network; port = place; releases = releases })
unfolding recorded_in
recorded_is net schedule port net_bytes bytes network place releases declares named too =
    step (network_in net net_bytes) network read declares
    ∙ step (port_in network.topology port) place (at_port network) named
    ∙ step (releases_in network schedule bytes) releases (with_releases network place) too
  where
    with_releases : DeclaredNetwork → ℕ → List Release → Result Recorded Answer
    with_releases over there those = Ok (record { network = over; port = there; releases = those })

    at_port : DeclaredNetwork → ℕ → Result Recorded Answer
    at_port over there = releases_in over schedule bytes >>= with_releases over there

    read : DeclaredNetwork → Result Recorded Answer
    read over = port_in over.topology port >>= at_port over

witnessed_is : (net name bytes : List ℕ) (network : DeclaredNetwork) (stream : ℕ)
    → network_in net bytes ≡ Ok network → stream_in network.streams name ≡ Ok stream → reason_of network ≡ None
    → witnessed_in net name bytes ≡ Ok (witnessed network stream)
unfolding witnessed_in witness_judged
witnessed_is net name bytes network stream declares named holds =
    step (network_in net bytes) network read declares
    ∙ step (stream_in network.streams name) stream (witness_judged network) named
    ∙ ap (λ why. judged (witnessed network stream) (option_map (reason_text network.topology) why)) holds
  where
    read : DeclaredNetwork → Result Witnessed Answer
    read over = stream_in over.streams name >>= witness_judged over

-- the same of the bytes that are told
of_two : {A : Type 0} (of : List ℕ → List ℕ → Result A Answer) (value : A) (told : Told)
    (name other bytes others : List ℕ) → told name ≡ Some bytes → told other ≡ Some others
    → of bytes others ≡ Ok value → of (told_bytes told name) (told_bytes told other) ≡ Ok value
of_two {A} of value told name other bytes others is also given =
    subst (λ (b : List ℕ). of b (told_bytes told other) ≡ Ok value) (bytes_told told name bytes is)
    (subst (λ (b : List ℕ). of bytes b ≡ Ok value) (bytes_told told other others also) given)

of_one : {A : Type 0} (of : List ℕ → Result A Answer) (value : A) (told : Told) (name bytes : List ℕ)
    → told name ≡ Some bytes → of bytes ≡ Ok value → of (told_bytes told name) ≡ Ok value
of_one {A} of value told name bytes is given =
    subst (λ (b : List ℕ). of b ≡ Ok value) (bytes_told told name bytes is) given

pub runs_are_due : RunsAreDue
runs_are_due = record {
  replay = λ told net schedule net_bytes bytes text order network releases run is also declares too replays. (
      record {
        is_told = two_told told net schedule net_bytes bytes is also;
        answers = one_of (IsReplayed order)
            (scheduled_in net schedule (told_bytes told net) (told_bytes told schedule))
            (record { network = network; releases = releases }) text
            (of_two (scheduled_in net schedule) (record { network = network; releases = releases }) told net schedule
            net_bytes bytes is also (scheduled_is net schedule net_bytes bytes network releases declares too))
            (run, replays);
      });
  capture = λ told net station file net_bytes bytes text order network place traffic run is also declares named too
      replays. (
      record {
        is_told = two_told told net file net_bytes bytes is also;
        answers = one_of (IsCaptured order)
            (captured_in net station file (told_bytes told net) (told_bytes told file))
            (record { network = network; traffic = traffic }) text
            (of_two (captured_in net station file) (record { network = network; traffic = traffic }) told net file
            net_bytes bytes is also
            (captured_is net station file net_bytes bytes network place traffic declares named too))
            (run, replays);
      });
  generate = λ told net bytes text seed count network releases run is declares none made reports. (
      record {
        is_told = one_told told net bytes is;
        answers = one_of (IsGenerated seed count) (generated_in net seed count (told_bytes told net)) network text
            (of_one (generated_in net seed count) network told net bytes is
            (generated_is net bytes seed count network declares none))
            (releases, made, (run, reports));
      });
  peaks = λ told net certificate schedule net_bytes row_bytes bytes text order network rows releases run peaks is also
      besides declares rows_are too holds prints. (
      record {
        is_told = three_told told net certificate schedule net_bytes row_bytes bytes is also besides;
        answers = one_of (IsHeldText order)
            (held_in net certificate schedule (told_bytes told net) (told_bytes told certificate)
            (told_bytes told schedule)) (held network rows releases) text
            (of_two (λ a b. held_in net certificate schedule a b (told_bytes told schedule))
            (held network rows releases) told net certificate net_bytes row_bytes is also
            (of_one (held_in net certificate schedule net_bytes row_bytes) (held network rows releases) told schedule
            bytes besides
            (held_is net certificate schedule net_bytes row_bytes bytes network rows releases declares rows_are too
            holds)))
            (run, peaks, prints);
      });
  port_record = λ told net schedule port net_bytes bytes text order network place releases run is also declares named
      too records. (
      record {
        is_told = two_told told net schedule net_bytes bytes is also;
        answers = one_of (IsRecorded order)
            (recorded_in net schedule port (told_bytes told net) (told_bytes told schedule))
            (record { network = network; port = place; releases = releases }) text
            (of_two (recorded_in net schedule port)
            (record { network = network; port = place; releases = releases }) told net schedule net_bytes bytes is also
            (recorded_is net schedule port net_bytes bytes network place releases declares named too))
            (run, records);
      });
  witness = λ told net name bytes text network stream founds is declares named holds witnesses. (
      record {
        is_told = one_told told net bytes is;
        answers = one_of IsWitnessed (witnessed_in net name (told_bytes told net)) (witnessed network stream) text
            (of_one (witnessed_in net name) (witnessed network stream) told net bytes is
            (witnessed_is net name bytes network stream declares named holds))
            (founds, witnesses);
      });
}
