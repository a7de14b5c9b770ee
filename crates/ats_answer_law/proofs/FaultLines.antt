-- Where Input is due, the text names the file that fails, and its first fault.
use Rattle.std.proofs.Common.{◌≡◌, ℕ, List, None, Result, Ok, sym, ap, subst, inl, inr}
use Rattle.std.specs.Prelude.{IfErr, codes}
use Rattle.std.specs.Option.{option_map}
use Rattle.ats_num.specs.Failure.{◌>>=◌}
use Rattle.ats_network.specs.Network.{DeclaredNetwork}
use Rattle.ats_network_text.specs.Text.{show_text}
use Rattle.ats_shape.specs.Text.{text_of}
use Rattle.ats_lrq.specs.Narrow.{narrowed}
use Rattle.ats_lrq_shape.specs.Verdicts.{lrq_text_of}
use Rattle.ats_buffer.specs.Buffer.{buffers_of}
use Rattle.ats_buffer_text.specs.Text.{buffers_text}
use Rattle.ats_certificate.specs.declared.row.Row.{Row}
use Rattle.ats_trace.specs.declared.journey.Release.{Release}
use Rattle.ats_capture.specs.Traffic.{Traffic}
use Rattle.ats_checker.specs.Refusal.{refusal_of}
use Rattle.ats_verdict_text.specs.Text.{refusal_text}
use Rattle.ats_command_input.specs.Answer.{Answer, settled}
use Rattle.ats_command_input.specs.Command.{Shape, Show, Bound, Explain, Check, Conform, Admit, Replay}
use Rattle.ats_command_input.specs.Command.{Capture, Generate, Settings, Buffers, Peaks, LrqShape, LrqBound, LrqCheck}
use Rattle.ats_command_input.specs.Command.{Record, Witness, Releases, Fit, Unknown}
use Rattle.ats_command_input.specs.Input.{network_in, releases_in, requests_in, rows_in}
use Rattle.ats_command_input.specs.Input.{shape_in, traffic_in}
use Rattle.ats_command_input.specs.Port.{port_in}
use Rattle.ats_command_input.specs.Station.{station_in}
use Rattle.ats_command_input.specs.Stream.{stream_in}
use Rattle.ats_command_input.specs.declared.status.Status.TheVariants.{Input, Words}
use Rattle.ats_command_due.specs.Captured.{Captured, IsCaptured, captured_in}
use Rattle.ats_command_due.specs.Due.{IsGenerateAnswer, told_bytes}
use Rattle.ats_command_due.specs.Due.{admit_answer, bound_answer, check_answer, explain_answer, shape_answer}
use Rattle.ats_command_due.specs.Due.{buffers_answer, lrq_bound_answer, lrq_check_answer, lrq_shape_answer, show_answer}
use Rattle.ats_command_due.specs.Due.{releases_answer}
use Rattle.ats_command_due.specs.Fitted.{IsFitted}
use Rattle.ats_command_due.specs.Generated.{IsGenerated, generated_in, made_for}
use Rattle.ats_command_due.specs.Judged.{admission_judged, bound_judged, certificate_judged, check_judged}
use Rattle.ats_command_due.specs.Held.{Held, IsHeldText, held, held_in}
use Rattle.ats_command_due.specs.Judged.{buffers_judged, explain_judged, requests_judged, unless_refused}
use Rattle.ats_command_due.specs.Recorded.{IsRecorded, Recorded, recorded_in}
use Rattle.ats_command_due.specs.Released.{released_in, released_text}
use Rattle.ats_command_due.specs.Replayed.{IsReplayed, Scheduled, scheduled_in}
use Rattle.ats_command_due.specs.Witnessed.{IsWitnessed, Witnessed, witness_judged, witnessed_in}
use Rattle.ats_answer_law.specs.Faults.{FaultsAreTold, NetworkFails, OneFails, ReleasesFail, RequestsFail, RowsFail}
use Rattle.ats_answer_law.specs.Faults.{RecordFails, ShapeFails, TrafficFails, LaterFails}
use Rattle.ats_answer_law.proofs.Dues.{of_both, of_three, of_told}
use Rattle.ats_answer_law.proofs.Failing.{Tells, judged_fails, judgement_fails, one_fails}
use Rattle.ats_answer_law.proofs.Failing.{settings_fail, settled_fails, steps_fail, told_more}
use Rattle.ats_answer_law.proofs.FailingFiles.{RecordsFail, admit_refuses, bound_refuses, check_refuses, either_fails}
use Rattle.ats_answer_law.proofs.FailingFiles.{explain_refuses, making_refuses, network_fails, port_refuses}
use Rattle.ats_answer_law.proofs.FailingFiles.{releases_fail, requests_fail, rows_fail, shape_fails, station_refuses}
use Rattle.ats_answer_law.proofs.FailingFiles.{stream_refuses, traffic_fails, witness_refuses}

-- the commands that read one file
shape_tells : (file bytes : List ℕ) → Tells (ShapeFails file bytes) (shape_answer file bytes)
unfolding shape_answer
shape_tells file bytes = settled_fails (ShapeFails file bytes) (shape_in file bytes >>= λ shape. Ok (text_of shape))
    (steps_fail (ShapeFails file bytes) (shape_in file bytes) (λ shape. Ok (text_of shape)) (shape_fails file bytes)
    (λ shape is. tt))

show_tells : (net bytes : List ℕ) → Tells (NetworkFails net bytes) (show_answer net bytes)
unfolding show_answer
show_tells net bytes = settled_fails (NetworkFails net bytes) (network_in net bytes >>= λ over. Ok (show_text over))
    (steps_fail (NetworkFails net bytes) (network_in net bytes) (λ over. Ok (show_text over)) (network_fails net bytes)
    (λ over is. tt))

-- what is judged of a network is told with another status
judged_of : (net bytes : List ℕ) (judge : DeclaredNetwork → Result (List ℕ) Answer)
    → ((over : DeclaredNetwork) → IfErr (judge over) (Tells (NetworkFails net bytes)))
    → Tells (NetworkFails net bytes) (settled (network_in net bytes >>= judge))
judged_of net bytes judge refuses = settled_fails (NetworkFails net bytes) (network_in net bytes >>= judge)
    (steps_fail (NetworkFails net bytes) (network_in net bytes) judge (network_fails net bytes)
    (λ over is. refuses over))

bound_tells : (net bytes : List ℕ) → Tells (NetworkFails net bytes) (bound_answer net bytes)
unfolding bound_answer
bound_tells net bytes = judged_of net bytes bound_judged (bound_refuses (NetworkFails net bytes))

explain_tells : (net bytes : List ℕ) → Tells (NetworkFails net bytes) (explain_answer net bytes)
unfolding explain_answer
explain_tells net bytes = judged_of net bytes explain_judged (explain_refuses (NetworkFails net bytes))

generate_tells : (net : List ℕ) (seed count : ℕ) (bytes : List ℕ) (answer : Answer)
    → IsGenerateAnswer net seed count bytes answer → Tells (NetworkFails net bytes) answer
unfolding generated_in
generate_tells net seed count bytes answer is =
    one_fails (NetworkFails net bytes) (IsGenerated seed count) (network_in net bytes >>= made_for seed count) answer
    (steps_fail (NetworkFails net bytes) (network_in net bytes) (made_for seed count) (network_fails net bytes)
    (λ over is. making_refuses (NetworkFails net bytes) seed count over)) is

witnessed_fails : (net name bytes : List ℕ) → IfErr (witnessed_in net name bytes) (Tells (NetworkFails net bytes))
unfolding witnessed_in
witnessed_fails net name bytes =
    steps_fail (NetworkFails net bytes) (network_in net bytes) read (network_fails net bytes) (λ over is.
    steps_fail (NetworkFails net bytes) (stream_in over.streams name) (witness_judged over)
    (stream_refuses (NetworkFails net bytes) over.streams name)
    (λ stream named. witness_refuses (NetworkFails net bytes) over stream))
  where
    read : DeclaredNetwork → Result Witnessed Answer
    read over = stream_in over.streams name >>= witness_judged over

-- the commands that read two
check_tells : (net certificate net_bytes bytes : List ℕ)
    → Tells (λ text. OneFails net net_bytes text (λ declared. RowsFail certificate bytes text declared.topology))
    (check_answer net certificate net_bytes bytes)
unfolding check_answer
check_tells net certificate net_bytes bytes =
    settled_fails (λ text. OneFails net net_bytes text (λ declared. RowsFail certificate bytes text declared.topology))
    (network_in net net_bytes >>= judge)
    (either_fails net net_bytes (λ text declared. RowsFail certificate bytes text declared.topology) judge (λ over.
    steps_fail (λ text. RowsFail certificate bytes text over.topology) (rows_in over.topology certificate bytes)
    (check_judged over) (rows_fail over.topology certificate bytes)
    (λ rows is. check_refuses (λ text. RowsFail certificate bytes text over.topology) over rows)))
  where
    judge : DeclaredNetwork → Result (List ℕ) Answer
    judge over = certificate_judged over certificate bytes

admit_tells : (net requests net_bytes bytes : List ℕ)
    → Tells (λ text. OneFails net net_bytes text (λ declared. RequestsFail requests bytes text declared))
    (admit_answer net requests net_bytes bytes)
unfolding admit_answer
admit_tells net requests net_bytes bytes =
    settled_fails (λ text. OneFails net net_bytes text (λ declared. RequestsFail requests bytes text declared))
    (network_in net net_bytes >>= judge)
    (either_fails net net_bytes (λ text declared. RequestsFail requests bytes text declared) judge (λ over.
    steps_fail (λ text. RequestsFail requests bytes text over) (requests_in over requests bytes)
    (admission_judged over) (requests_fail over requests bytes)
    (λ asked is. admit_refuses (λ text. RequestsFail requests bytes text over) over asked)))
  where
    judge : DeclaredNetwork → Result (List ℕ) Answer
    judge over = requests_judged over requests bytes

scheduled_fails : (net schedule net_bytes bytes : List ℕ) → IfErr (scheduled_in net schedule net_bytes bytes)
    (Tells (λ text. OneFails net net_bytes text (ReleasesFail schedule bytes text)))
unfolding scheduled_in
scheduled_fails net schedule net_bytes bytes =
    either_fails net net_bytes (ReleasesFail schedule bytes) read (λ over.
    steps_fail (λ text. ReleasesFail schedule bytes text over) (releases_in over schedule bytes) (with_releases over)
    (releases_fail over schedule bytes) (λ releases is. tt))
  where
    with_releases : DeclaredNetwork → List Release → Result Scheduled Answer
    with_releases over releases = Ok (record { network = over; releases = releases })

    read : DeclaredNetwork → Result Scheduled Answer
    read over = releases_in over schedule bytes >>= with_releases over

captured_fails : (net station name net_bytes bytes : List ℕ) → IfErr (captured_in net station name net_bytes bytes)
    (Tells (λ text. OneFails net net_bytes text (TrafficFails station name bytes text)))
unfolding captured_in
captured_fails net station name net_bytes bytes =
    either_fails net net_bytes (TrafficFails station name bytes) read (λ over.
    steps_fail (Fails over) (station_in over.topology station) (at_station over)
    (station_refuses (Fails over) over.topology station)
    (λ place named. steps_fail (Fails over) (traffic_in over place name bytes) (with_traffic over)
    (told_more (RecordsFail name bytes over place) (Fails over) (traffic_in over place name bytes)
    (λ text fails. (place, named, fails)) (traffic_fails over place name bytes)) (λ traffic is. tt)))
  where
    Fails : DeclaredNetwork → List ℕ → Type 0
    Fails over text = TrafficFails station name bytes text over

    with_traffic : DeclaredNetwork → Traffic → Result Captured Answer
    with_traffic over traffic = Ok (record { network = over; traffic = traffic })

    at_station : DeclaredNetwork → ℕ → Result Captured Answer
    at_station over place = traffic_in over place name bytes >>= with_traffic over

    read : DeclaredNetwork → Result Captured Answer
    read over = station_in over.topology station >>= at_station over

releases_tell : (net station name net_bytes bytes : List ℕ)
    → Tells (λ text. OneFails net net_bytes text (TrafficFails station name bytes text))
    (releases_answer net station name net_bytes bytes)
unfolding releases_answer released_in
releases_tell net station name net_bytes bytes =
    settled_fails Fails (captured_in net station name net_bytes bytes >>= written)
    (steps_fail Fails (captured_in net station name net_bytes bytes) written
    (captured_fails net station name net_bytes bytes) (λ captured is. tt))
  where
    Fails : List ℕ → Type 0
    Fails text = OneFails net net_bytes text (TrafficFails station name bytes text)

    written : Captured → Result (List ℕ) Answer
    written captured = Ok (released_text captured.network captured.traffic)

recorded_fails : (net schedule port net_bytes bytes : List ℕ)
    → IfErr (recorded_in net schedule port net_bytes bytes)
    (Tells (λ text. OneFails net net_bytes text (RecordFails port schedule bytes text)))
unfolding recorded_in
recorded_fails net schedule port net_bytes bytes =
    either_fails net net_bytes (RecordFails port schedule bytes) read (λ over.
    steps_fail (Fails over) (port_in over.topology port) (at_port over) (port_refuses (Fails over) over.topology port)
    (λ place named. steps_fail (Fails over) (releases_in over schedule bytes) (with_releases over place)
    (told_more (λ text. ReleasesFail schedule bytes text over) (Fails over) (releases_in over schedule bytes)
    (λ text fails. (place, named, fails)) (releases_fail over schedule bytes)) (λ releases is. tt)))
  where
    Fails : DeclaredNetwork → List ℕ → Type 0
    Fails over text = RecordFails port schedule bytes text over

    with_releases : DeclaredNetwork → ℕ → List Release → Result Recorded Answer
    with_releases over place releases = Ok (record { network = over; port = place; releases = releases })

    at_port : DeclaredNetwork → ℕ → Result Recorded Answer
    at_port over place = releases_in over schedule bytes >>= with_releases over place

    read : DeclaredNetwork → Result Recorded Answer
    read over = port_in over.topology port >>= at_port over

-- rows that are refused are told so with another status
buffers_refuses : (Fails : List ℕ → Type 0) (over : DeclaredNetwork) (rows : List Row)
    → IfErr (buffers_judged over rows) (Tells Fails)
unfolding buffers_judged
buffers_refuses Fails over rows = judged_fails Fails (buffers_text over.topology rows (buffers_of over rows) None)
    (option_map (refusal_text over.topology) (refusal_of over rows))

held_refuses : (Fails : List ℕ → Type 0) (over : DeclaredNetwork) (rows : List Row) (releases : List Release)
    → IfErr (unless_refused over rows (held over rows releases)) (Tells Fails)
held_refuses Fails over rows releases = judged_fails Fails (held over rows releases)
    (option_map (refusal_text over.topology) (refusal_of over rows))

-- the commands that judge rows otherwise
rows_tell : (net certificate net_bytes bytes : List ℕ) (judge : DeclaredNetwork → List Row → Result (List ℕ) Answer)
    → ((Fails : List ℕ → Type 0) (over : DeclaredNetwork) (rows : List Row) → IfErr (judge over rows) (Tells Fails))
    → Tells (λ text. OneFails net net_bytes text (λ declared. RowsFail certificate bytes text declared.topology))
    (settled (network_in net net_bytes >>= λ over. rows_in over.topology certificate bytes >>= judge over))
rows_tell net certificate net_bytes bytes judge refuses =
    settled_fails (λ text. OneFails net net_bytes text (λ declared. RowsFail certificate bytes text declared.topology))
    (network_in net net_bytes >>= next)
    (either_fails net net_bytes (λ text declared. RowsFail certificate bytes text declared.topology) next (λ over.
    steps_fail (λ text. RowsFail certificate bytes text over.topology) (rows_in over.topology certificate bytes)
    (judge over) (rows_fail over.topology certificate bytes)
    (λ rows is. refuses (λ text. RowsFail certificate bytes text over.topology) over rows)))
  where
    next : DeclaredNetwork → Result (List ℕ) Answer
    next over = rows_in over.topology certificate bytes >>= judge over

buffers_tell : (net certificate net_bytes bytes : List ℕ)
    → Tells (λ text. OneFails net net_bytes text (λ declared. RowsFail certificate bytes text declared.topology))
    (buffers_answer net certificate net_bytes bytes)
unfolding buffers_answer
buffers_tell net certificate net_bytes bytes =
    rows_tell net certificate net_bytes bytes buffers_judged buffers_refuses

lrq_check_tells : (net certificate net_bytes bytes : List ℕ)
    → Tells (λ text. OneFails net net_bytes text (λ declared. RowsFail certificate bytes text declared.topology))
    (lrq_check_answer net certificate net_bytes bytes)
unfolding lrq_check_answer
lrq_check_tells net certificate net_bytes bytes =
    rows_tell net certificate net_bytes bytes (λ over rows. check_judged (narrowed over) rows)
    (λ Fails over rows. check_refuses Fails (narrowed over) rows)

lrq_bound_tells : (net bytes : List ℕ) → Tells (NetworkFails net bytes) (lrq_bound_answer net bytes)
unfolding lrq_bound_answer
lrq_bound_tells net bytes = judged_of net bytes (λ over. bound_judged (narrowed over))
    (λ over. bound_refuses (NetworkFails net bytes) (narrowed over))

lrq_shape_tells : (file bytes : List ℕ) → Tells (ShapeFails file bytes) (lrq_shape_answer file bytes)
unfolding lrq_shape_answer
lrq_shape_tells file bytes =
    settled_fails (ShapeFails file bytes) (shape_in file bytes >>= λ shape. Ok (lrq_text_of shape))
    (steps_fail (ShapeFails file bytes) (shape_in file bytes) (λ shape. Ok (lrq_text_of shape)) (shape_fails file bytes)
    (λ shape is. tt))

-- the command that reads three
held_fails : (net certificate schedule net_bytes rows_bytes bytes : List ℕ)
    → IfErr (held_in net certificate schedule net_bytes rows_bytes bytes)
    (Tells (λ text. OneFails net net_bytes text (LaterFails certificate schedule rows_bytes bytes text)))
unfolding held_in
held_fails net certificate schedule net_bytes rows_bytes bytes =
    either_fails net net_bytes (LaterFails certificate schedule rows_bytes bytes) read (λ over.
    steps_fail (Fails over) (rows_in over.topology certificate rows_bytes) (with_rows over)
    (told_more (λ text. RowsFail certificate rows_bytes text over.topology) (Fails over)
    (rows_in over.topology certificate rows_bytes) (λ text fails. inl fails)
    (rows_fail over.topology certificate rows_bytes))
    (λ rows is. steps_fail (Fails over) (releases_in over schedule bytes) (with_releases over rows)
    (told_more (λ text. ReleasesFail schedule bytes text over) (Fails over) (releases_in over schedule bytes)
    (λ text fails. inr (rows, is, fails)) (releases_fail over schedule bytes))
    (λ releases read. held_refuses (Fails over) over rows releases)))
  where
    Fails : DeclaredNetwork → List ℕ → Type 0
    Fails over text = LaterFails certificate schedule rows_bytes bytes text over

    with_releases : DeclaredNetwork → List Row → List Release → Result Held Answer
    with_releases over rows releases = unless_refused over rows (held over rows releases)

    with_rows : DeclaredNetwork → List Row → Result Held Answer
    with_rows over rows = releases_in over schedule bytes >>= with_releases over rows

    read : DeclaredNetwork → Result Held Answer
    read over = rows_in over.topology certificate rows_bytes >>= with_rows over

words_is_not : (answer : Answer) → answer ≡ record { status = Words; text = codes "words\n" } → answer.status ≡ Input
    → ⊥
words_is_not answer is input = let clash : answer.status ≡ Words = ap (λ (a : Answer). a.status) is in cc

-- which file of a command fails
pub faults_are_told : FaultsAreTold
faults_are_told told (Shape name) answer due input =
    let bytes : List ℕ = told_bytes told name in
    of_told told name (λ bytes. ShapeFails name bytes answer.text) due.is_told
    (subst (Tells (ShapeFails name bytes)) (sym due.answers) (shape_tells name bytes) input)
faults_are_told told (Show net) answer due input =
    let bytes : List ℕ = told_bytes told net in
    of_told told net (λ bytes. NetworkFails net bytes answer.text) due.is_told
    (subst (Tells (NetworkFails net bytes)) (sym due.answers) (show_tells net bytes) input)
faults_are_told told (Bound net) answer due input =
    let bytes : List ℕ = told_bytes told net in
    of_told told net (λ bytes. NetworkFails net bytes answer.text) due.is_told
    (subst (Tells (NetworkFails net bytes)) (sym due.answers) (bound_tells net bytes) input)
faults_are_told told (Explain net) answer due input =
    let bytes : List ℕ = told_bytes told net in
    of_told told net (λ bytes. NetworkFails net bytes answer.text) due.is_told
    (subst (Tells (NetworkFails net bytes)) (sym due.answers) (explain_tells net bytes) input)
faults_are_told told (Check net name) answer due input =
    let net_bytes : List ℕ = told_bytes told net in
    let bytes : List ℕ = told_bytes told name in
    of_both told net name
    (λ net_bytes bytes. OneFails net net_bytes answer.text (λ over. RowsFail name bytes answer.text over.topology))
    due.is_told
    (subst (Tells (λ text. OneFails net net_bytes text (λ over. RowsFail name bytes text over.topology)))
    (sym due.answers) (check_tells net name net_bytes bytes) input)
faults_are_told told (Conform net name) answer due input =
    let net_bytes : List ℕ = told_bytes told net in
    let bytes : List ℕ = told_bytes told name in
    of_both told net name
    (λ net_bytes bytes. OneFails net net_bytes answer.text (ReleasesFail name bytes answer.text)) due.is_told
    (judgement_fails (λ text. OneFails net net_bytes text (ReleasesFail name bytes text))
    (scheduled_in net name net_bytes bytes) answer (scheduled_fails net name net_bytes bytes) due.answers input)
faults_are_told told (Admit net name) answer due input =
    let net_bytes : List ℕ = told_bytes told net in
    let bytes : List ℕ = told_bytes told name in
    of_both told net name
    (λ net_bytes bytes. OneFails net net_bytes answer.text (λ over. RequestsFail name bytes answer.text over))
    due.is_told
    (subst (Tells (λ text. OneFails net net_bytes text (λ over. RequestsFail name bytes text over)))
    (sym due.answers) (admit_tells net name net_bytes bytes) input)
faults_are_told told (Replay net name order) answer due input =
    let net_bytes : List ℕ = told_bytes told net in
    let bytes : List ℕ = told_bytes told name in
    of_both told net name
    (λ net_bytes bytes. OneFails net net_bytes answer.text (ReleasesFail name bytes answer.text)) due.is_told
    (one_fails (λ text. OneFails net net_bytes text (ReleasesFail name bytes text)) (IsReplayed order)
    (scheduled_in net name net_bytes bytes) answer (scheduled_fails net name net_bytes bytes) due.answers input)
faults_are_told told (Capture net station name order) answer due input =
    let net_bytes : List ℕ = told_bytes told net in
    let bytes : List ℕ = told_bytes told name in
    of_both told net name
    (λ net_bytes bytes. OneFails net net_bytes answer.text (TrafficFails station name bytes answer.text)) due.is_told
    (one_fails (λ text. OneFails net net_bytes text (TrafficFails station name bytes text)) (IsCaptured order)
    (captured_in net station name net_bytes bytes) answer (captured_fails net station name net_bytes bytes) due.answers
    input)
faults_are_told told (Generate net seed count) answer due input =
    let bytes : List ℕ = told_bytes told net in
    of_told told net (λ bytes. NetworkFails net bytes answer.text) due.is_told
    (generate_tells net seed count bytes answer due.answers input)
faults_are_told told (Settings net) answer due input =
    let bytes : List ℕ = told_bytes told net in
    of_told told net (λ bytes. NetworkFails net bytes answer.text) due.is_told
    (settings_fail (NetworkFails net bytes) (network_in net bytes) answer (network_fails net bytes) due.answers input)
faults_are_told told (Buffers net name) answer due input =
    let net_bytes : List ℕ = told_bytes told net in
    let bytes : List ℕ = told_bytes told name in
    of_both told net name
    (λ net_bytes bytes. OneFails net net_bytes answer.text (λ over. RowsFail name bytes answer.text over.topology))
    due.is_told
    (subst (Tells (λ text. OneFails net net_bytes text (λ over. RowsFail name bytes text over.topology)))
    (sym due.answers) (buffers_tell net name net_bytes bytes) input)
faults_are_told told (Peaks net name schedule order) answer due input =
    let net_bytes : List ℕ = told_bytes told net in
    let rows_bytes : List ℕ = told_bytes told name in
    let bytes : List ℕ = told_bytes told schedule in
    of_three told net name schedule
    (λ net_bytes rows_bytes bytes.
    OneFails net net_bytes answer.text (LaterFails name schedule rows_bytes bytes answer.text)) due.is_told
    (one_fails (λ text. OneFails net net_bytes text (LaterFails name schedule rows_bytes bytes text)) (IsHeldText order)
    (held_in net name schedule net_bytes rows_bytes bytes) answer
    (held_fails net name schedule net_bytes rows_bytes bytes) due.answers input)
faults_are_told told (LrqShape name) answer due input =
    let bytes : List ℕ = told_bytes told name in
    of_told told name (λ bytes. ShapeFails name bytes answer.text) due.is_told
    (subst (Tells (ShapeFails name bytes)) (sym due.answers) (lrq_shape_tells name bytes) input)
faults_are_told told (LrqBound net) answer due input =
    let bytes : List ℕ = told_bytes told net in
    of_told told net (λ bytes. NetworkFails net bytes answer.text) due.is_told
    (subst (Tells (NetworkFails net bytes)) (sym due.answers) (lrq_bound_tells net bytes) input)
faults_are_told told (LrqCheck net name) answer due input =
    let net_bytes : List ℕ = told_bytes told net in
    let bytes : List ℕ = told_bytes told name in
    of_both told net name
    (λ net_bytes bytes. OneFails net net_bytes answer.text (λ over. RowsFail name bytes answer.text over.topology))
    due.is_told
    (subst (Tells (λ text. OneFails net net_bytes text (λ over. RowsFail name bytes text over.topology)))
    (sym due.answers) (lrq_check_tells net name net_bytes bytes) input)
faults_are_told told (Record net name order port) answer due input =
    let net_bytes : List ℕ = told_bytes told net in
    let bytes : List ℕ = told_bytes told name in
    of_both told net name
    (λ net_bytes bytes. OneFails net net_bytes answer.text (RecordFails port name bytes answer.text)) due.is_told
    (one_fails (λ text. OneFails net net_bytes text (RecordFails port name bytes text)) (IsRecorded order)
    (recorded_in net name port net_bytes bytes) answer (recorded_fails net name port net_bytes bytes) due.answers input)
faults_are_told told (Witness net name) answer due input =
    let bytes : List ℕ = told_bytes told net in
    of_told told net (λ bytes. NetworkFails net bytes answer.text) due.is_told
    (one_fails (NetworkFails net bytes) IsWitnessed (witnessed_in net name bytes) answer
    (witnessed_fails net name bytes) due.answers input)
faults_are_told told (Releases net station name) answer due input =
    let net_bytes : List ℕ = told_bytes told net in
    let bytes : List ℕ = told_bytes told name in
    of_both told net name
    (λ net_bytes bytes. OneFails net net_bytes answer.text (TrafficFails station name bytes answer.text)) due.is_told
    (subst (Tells (λ text. OneFails net net_bytes text (TrafficFails station name bytes text))) (sym due.answers)
    (releases_tell net station name net_bytes bytes) input)
faults_are_told told (Fit net name) answer due input =
    let net_bytes : List ℕ = told_bytes told net in
    let bytes : List ℕ = told_bytes told name in
    of_both told net name
    (λ net_bytes bytes. OneFails net net_bytes answer.text (ReleasesFail name bytes answer.text)) due.is_told
    (one_fails (λ text. OneFails net net_bytes text (ReleasesFail name bytes text)) IsFitted
    (scheduled_in net name net_bytes bytes) answer (scheduled_fails net name net_bytes bytes) due.answers input)
faults_are_told told Unknown answer due input = absurd (words_is_not answer due.answers input)
