-- The printed worst delays are within the bounds beside them.
use Rattle.std.proofs.Common.{◌≡◌, ℕ, zero, suc, ◌+◌, ◌<◌, ◌≤◌, Bool, true, false, cond, List, [], ◌∷◌, ◌++◌, get_or}
use Rattle.std.proofs.Common.{map}
use Rattle.std.proofs.Common.{fold, length, take, Option, Some, None, refl, sym, ap, subst, ◌∙◌, arith, eqb}
use Rattle.std.proofs.Common.{length-append}
use Rattle.std.specs.Prelude.{max, nat_lt, slice_get, sum_by}
use Rattle.std.specs.List.{All, Contains, flat_map}
use Rattle.std.proofs.lemmas.Bool.{eqb-true, ltb-true}
use Rattle.std.proofs.lemmas.List.{length-map}
use Rattle.std.proofs.lemmas.List.Concat.{flat_map-cons, get_or-flat_map}
use Rattle.std.proofs.lemmas.List.Elements.{All-contains_itself, All-filter, All-head, All-tail, filter_passes}
use Rattle.std.proofs.lemmas.List.Sums.{sum_by-cons}
use Rattle.std.proofs.lemmas.Option.{get_or_from_slice_get, none-some, slice_get-get_or}
use Rattle.ats_streams.specs.Branches.{routes_of}
use Rattle.ats_streams.specs.Stream.{DeclaredStream}
use Rattle.ats_streams.proofs.BranchLemmas.{routes-length}
use Rattle.ats_network.specs.Edits.{no_stream}
use Rattle.ats_network.specs.Network.{DeclaredNetwork}
use Rattle.ats_network.specs.Sender.{Sender, flow_sender, stream_sender}
use Rattle.ats_network.specs.Senders.{sender_at}
use Rattle.ats_certificate.specs.Certificate.{Holds, bound_on, sums_of}
use Rattle.ats_certificate.specs.declared.row.Row.{Row}
use Rattle.ats_tally.specs.Delays.{sums_for}
use Rattle.ats_tally.specs.declared.reason.Reason.{Reason}
use Rattle.ats_tally.proofs.RouteSums.{sum-at}
use Rattle.ats_bound.specs.Least.{least_certificate}
use Rattle.ats_bound.specs.Reason.{reason_of}
use Rattle.ats_bound.proofs.LeastHolds.{least_certificate_holds}
use Rattle.ats_checker.specs.InTime.{ArrivesInTime}
use Rattle.ats_checker.proofs.InTime.{holding_is_in_time, in_time_in_true_time, sender_of_stream}
use Rattle.ats_soundness_law.specs.Sound.{ArrivesBy}
use Rattle.ats_trace.specs.Journey.{Travel}
use Rattle.ats_trace.specs.Talker.{talker_of}
use Rattle.ats_trace.specs.Ways.{listener_count, route_to, way_to}
use Rattle.ats_trace.specs.declared.journey.Ending.{Ending}
use Rattle.ats_trace.specs.declared.journey.Ending.TheVariants.{Sink, Discard}
use Rattle.ats_replay.specs.Report.{bound_of}
use Rattle.ats_replay.specs.Summary.{delay_of, delay_to, frames_of, place_of}
use Rattle.ats_command_due.specs.Generated.{sums_unless}
use Rattle.ats_command_law.specs.GenerateMeaning.{PrintedWorstIsWithin}

-- a frame that arrives by a time was no longer on its way
delay_most : (release bound : ℕ) (ending : Ending) → ArrivesBy (release + bound) ending
    → delay_to release ending ≤ bound
delay_most release bound (Sink at) by = omega (arith, by)
delay_most release bound Discard by = absurd by

-- the longest of some delays is within what each is within
longest_most : (delay : Travel → ℕ) (so_far bound : ℕ) (run : List Travel) → so_far ≤ bound
    → All (λ j. delay j ≤ bound) run → fold max so_far (map delay run) ≤ bound
longest_most delay so_far bound [] start all = start
longest_most delay so_far bound (j ∷ run) start all =
    let one : delay j ≤ bound = All-head (λ j. delay j ≤ bound) j run all in
    longest_most delay (max so_far (delay j)) bound run (omega (arith, start, one))
    (All-tail (λ j. delay j ≤ bound) j run all)

-- the listeners of the senders in front of a stream are as many as the sums of the streams in front of it
listeners_before : (rows : List Row) (streams : List DeclaredStream) (flows : List Sender) (i : ℕ) → i ≤ length streams
    → sum_by listener_count (take i (map stream_sender streams ++ flows))
    ≡ length (flat_map (sums_of rows) (take i streams))
listeners_before rows [] flows zero within = refl
listeners_before rows [] flows (suc i) within = absurd (omega (arith, within))
listeners_before rows (s ∷ streams) flows zero within = refl
listeners_before rows (s ∷ streams) flows (suc i) within =
    omega (
      arith,
      sum_by-cons listener_count (stream_sender s) (take i (map stream_sender streams ++ flows)),
      ap (λ (sums : List ℕ). length sums) (flat_map-cons (sums_of rows) s (take i streams)),
      length-append (sums_of rows s) (flat_map (sums_of rows) (take i streams)),
      length-map (routes_of s.ports s.branches) (bound_on rows s),
      listeners_before rows streams flows i (omega (arith, within)),
    )

-- so the sum for a listener of a stream stands at the listener's place
sum_at_place : (network : DeclaredNetwork) (rows : List Row) (sender listener : ℕ) (stream : DeclaredStream)
    → sender < length network.streams → get_or network.streams sender no_stream ≡ stream
    → listener < listener_count (stream_sender stream)
    → get_or (sums_for network rows) (place_of network sender listener) 0
    ≡ bound_on rows stream (route_to (stream_sender stream) listener)
sum_at_place network rows sender listener stream inside is listed =
    let sums : List ℕ = sums_for network rows in
    let many = length-map (routes_of stream.ports stream.branches) (bound_on rows stream) in
    ap (λ (n : ℕ). get_or sums (n + listener) 0)
    (listeners_before rows network.streams (map flow_sender network.flows) sender (omega (arith, inside)))
    ∙ get_or-flat_map (sums_of rows) network.streams sender listener no_stream 0 inside
    (subst (λ (s : DeclaredStream). listener < length (sums_of rows s)) (sym is) (omega (arith, many, listed)))
    ∙ ap (λ (s : DeclaredStream). get_or (sums_of rows s) listener 0) is
    ∙ sum-at rows stream listener (omega (arith, listed, routes-length stream.ports stream.branches))

-- a printed bound is the sum of a stream's least bounds along the route to a listener, and no reason stands against the
-- network
record IsBoundOf (network : DeclaredNetwork) (sender listener bound : ℕ) : Type 0 where
  none : reason_of network ≡ None
  stream : DeclaredStream
  named : slice_get network.streams sender ≡ Some stream
  listed : listener < listener_count (stream_sender stream)
  sum : bound ≡ bound_on (least_certificate network) stream (route_to (stream_sender stream) listener)

bound_is : (network : DeclaredNetwork) (sender listener bound : ℕ) (reason : Option Reason)
    → reason_of network ≡ reason → listener < listener_count (sender_at network sender)
    → bound_of network (sums_unless network reason) sender listener ≡ Some bound
    → IsBoundOf network sender listener bound
bound_is network sender listener bound (Some reason) e listed h = absurd (none-some bound h)
bound_is network sender listener bound None e listed h = within (nat_lt sender (length network.streams)) refl h
  where
    sums : List ℕ
    sums = sums_for network (least_certificate network)

    place : ℕ
    place = place_of network sender listener

    found : sender < length network.streams → slice_get sums place ≡ Some bound
        → IsBoundOf network sender listener bound
    found inside k =
        let stream : DeclaredStream = get_or network.streams sender no_stream in
        let named : slice_get network.streams sender ≡ Some stream =
        slice_get-get_or network.streams sender no_stream inside in
        let there : listener < listener_count (stream_sender stream) =
        subst (λ (s : Sender). listener < listener_count s) (sender_of_stream network sender stream named) listed in
        record {
          none = e;
          stream = stream;
          named = named;
          listed = there;
          sum = sym (get_or_from_slice_get sums place bound 0 k)
              ∙ sum_at_place network (least_certificate network) sender listener stream inside refl there;
        }

    within : (b : Bool) → nat_lt sender (length network.streams) ≡ b → cond b (slice_get sums place) None ≡ Some bound
        → IsBoundOf network sender listener bound
    within true f k = found (ltb-true sender (length network.streams) f) k
    within false f k = absurd (none-some bound k)

pub printed_worst_is_within : PrintedWorstIsWithin
printed_worst_is_within network run rules legal keeps sender listener bound listed printed =
    longest_most (delay_of (sender_at network sender) listener) 0 bound (frames_of run sender) (omega arith)
    (each (bound_is network sender listener bound (reason_of network) refl listed printed))
  where
    own : Travel → Bool
    own j = eqb j.release.sender sender

    each : IsBoundOf network sender listener bound
        → All (λ j. delay_of (sender_at network sender) listener j ≤ bound) (frames_of run sender)
    each is k d inside =
        let rows : List Row = least_certificate network in
        let j : Travel = get_or (frames_of run sender) k d in
        let there : Contains run j = All-filter own (Contains run) run (All-contains_itself run) k d inside in
        let same : j.release.sender ≡ sender =
        eqb-true j.release.sender sender (filter_passes own run k d inside) in
        let named : slice_get network.streams j.release.sender ≡ Some is.stream =
        ap (slice_get network.streams) same ∙ is.named in
        let holds : Holds network rows = (least_certificate_holds network rules is.none).holds in
        let time : ArrivesInTime rows is.stream j =
        λ m within. in_time_in_true_time network rows rules
        (holding_is_in_time network rows rules holds) run legal j there is.stream named
        (keeps (talker_of network j.release.sender)) m within (λ k d h bridge. keeps _) in
        let by : ArrivesBy (j.release.at.0 + bound) (way_to (stream_sender is.stream) j listener).ending =
        subst (λ (n : ℕ). ArrivesBy (j.release.at.0 + n) (way_to (stream_sender is.stream) j listener).ending)
        (sym is.sum) (time listener is.listed).sum in
        subst (λ (s : Sender). delay_of s listener j ≤ bound)
        (sym (sender_of_stream network sender is.stream is.named))
        (delay_most j.release.at.0 bound (way_to (stream_sender is.stream) j listener).ending by)
