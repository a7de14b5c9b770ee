-- What the answers to `buffers` mean.
use Rattle.std.proofs.Common.{◌≡◌, ℕ, ◌<◌, ◌≤◌, List, length, Option, Some, None, Result, Ok, Err, refl, sym, ap, subst}
use Rattle.std.proofs.Common.{inl, inr, ◌∙◌}
use Rattle.std.specs.Prelude.{IsOk, MatchResult, AllPairs, slice_index}
use Rattle.std.specs.Option.{option_map}
use Rattle.std.proofs.lemmas.List.{get_or-map, length-map}
use Rattle.ats_network.specs.Network.{DeclaredNetwork, IsNetwork}
use Rattle.ats_certificate.specs.Certificate.{Holds, IsBefore}
use Rattle.ats_certificate.specs.declared.row.Row.{Row}
use Rattle.ats_checker.specs.Refusal.{refusal_of}
use Rattle.ats_checker.specs.declared.refusal.Refusal.{Refusal}
use Rattle.ats_checker.proofs.Refused.{refused_unless_holding}
use Rattle.ats_port_law.proofs.Used.{used_place}
use Rattle.ats_trace.specs.declared.journey.Release.{Release}
use Rattle.ats_buffer.specs.Buffer.{buffer_at, buffers_of}
use Rattle.ats_buffer.specs.Occupancy.{no_row, row_at}
use Rattle.ats_buffer_law.proofs.Held.{buffers_hold, peaks_fit}
use Rattle.ats_buffer_text.specs.Text.{buffers_text}
use Rattle.ats_verdict_text.specs.Text.{refusal_text}
use Rattle.ats_num.specs.Failure.{◌>>=◌}
use Rattle.ats_command_input.specs.Answer.{Answer, settled}
use Rattle.ats_command_input.specs.Input.{network_in, releases_in, rows_in}
use Rattle.ats_command_input.specs.declared.order.Order.{Order}
use Rattle.ats_command_due.specs.Due.{buffers_answer}
use Rattle.ats_command_due.specs.Held.{IsHeldText, held, held_in, held_judged}
use Rattle.ats_command_due.specs.Judged.{buffers_judged, judged, unless_refused}
use Rattle.ats_command_due.specs.Replayed.{IsOneOf}
use Rattle.ats_command_law.specs.BufferMeaning.{AreBuffers, BuffersMean, BuffersSay, IsRoomAt, PeaksMean, PeaksSay}
use Rattle.ats_command_law.proofs.Meanings.{IsInput, is_refused, judged_check, network_gives, none_declared, rows_give}
use Rattle.ats_command_law.proofs.ReplayMeanings.{releases_give}

-- the buffers of rows that hold
room : (network : DeclaredNetwork) (rows : List Row) → IsNetwork network → Holds network rows → (port class : ℕ)
    → 1 ≤ class → IsRoomAt network port class (buffer_at network rows port class)
room network rows is holds port class some run legal keep =
    buffers_hold network rows run port class is holds legal some keep

are_buffers : (network : DeclaredNetwork) (rows : List Row) → IsNetwork network → Holds network rows
    → AreBuffers network rows (buffers_of network rows)
are_buffers network rows is holds =
    let at : Row → ℕ = λ (row : Row). buffer_at network rows row.port row.class in
    let each : (n : ℕ) → n < length rows → slice_index (buffers_of network rows) n ≡ at (row_at rows n) =
    λ n h. get_or-map at rows n no_row 0 h in
    record {
      holds = holds;
      count = length-map rows at;
      each = each;
      printed = λ n h. subst (IsRoomAt network (row_at rows n).port (row_at rows n).class) (sym (each n h))
          (room network rows is holds (row_at rows n).port (row_at rows n).class
          (used_place network (row_at rows n).port (row_at rows n).class is (holds.rows_of.used n no_row h)).ranked);
      everywhere = room network rows is holds;
    }

-- of the first form, where both files declare what they should
judged_buffers : (net certificate net_bytes certificate_bytes : List ℕ) (network : DeclaredNetwork) (rows : List Row)
    (refusal : Option Refusal)
    → network_in net net_bytes ≡ Ok network → rows_in network.topology certificate certificate_bytes ≡ Ok rows
    → IsNetwork network → AllPairs IsBefore rows → refusal_of network rows ≡ refusal
    → (let answer = settled (judged (buffers_text network.topology rows (buffers_of network rows) None)
    (option_map (refusal_text network.topology) refusal))
    in BuffersSay net certificate net_bytes certificate_bytes answer.text answer.status)
judged_buffers net certificate net_bytes certificate_bytes network rows None network_is rows_are rules ordered is = (
  network,
  rows,
  record {
    network_declared = network_is;
    rows_declared = rows_are;
    rules = rules;
    buffers = are_buffers network rows rules ((refused_unless_holding network rows rules ordered).0 is);
    written = refl;
  },
)
judged_buffers net certificate net_bytes certificate_bytes network rows (Some refusal) network_is rows_are rules ordered
    is = judged_check net certificate net_bytes certificate_bytes network rows (Some refusal) network_is rows_are rules
    ordered is

-- where the first declares a network
rows_say : (net certificate net_bytes certificate_bytes : List ℕ) (network : DeclaredNetwork)
    (declared : Result (List Row) Answer)
    → network_in net net_bytes ≡ Ok network → IsNetwork network → rows_in network.topology certificate certificate_bytes
    ≡ declared → MatchResult declared (AllPairs IsBefore) IsInput
    → (let answer = settled (declared >>= λ rows. buffers_judged network rows)
    in BuffersSay net certificate net_bytes certificate_bytes answer.text answer.status)
unfolding buffers_judged
rows_say net certificate net_bytes certificate_bytes network (Ok rows) network_is rules is ordered =
    judged_buffers net certificate net_bytes certificate_bytes network rows (refusal_of network rows)
    network_is is rules ordered refl
rows_say net certificate net_bytes certificate_bytes network (Err answer) network_is rules is input =
    subst (BuffersSay net certificate net_bytes certificate_bytes answer.text) (sym input)
    (inr (
      network,
      record {
        network_declared = network_is;
        no_rows = none_declared (rows_in network.topology certificate certificate_bytes) answer is;
      },
    ))

buffers_say : (net certificate net_bytes certificate_bytes : List ℕ) (declared : Result DeclaredNetwork Answer)
    → network_in net net_bytes ≡ declared → MatchResult declared IsNetwork IsInput
    → (let answer = settled (declared >>= λ network.
    rows_in network.topology certificate certificate_bytes >>= λ rows. buffers_judged network rows)
    in BuffersSay net certificate net_bytes certificate_bytes answer.text answer.status)
buffers_say net certificate net_bytes certificate_bytes (Ok network) is rules =
    rows_say net certificate net_bytes certificate_bytes network
    (rows_in network.topology certificate certificate_bytes) is rules refl
    (rows_give network.topology certificate certificate_bytes)
buffers_say net certificate net_bytes certificate_bytes (Err answer) is input =
    subst (BuffersSay net certificate net_bytes certificate_bytes answer.text) (sym input)
    (inl (none_declared (network_in net net_bytes) answer is))

pub buffers_mean : BuffersMean
unfolding buffers_answer
buffers_mean net certificate net_bytes certificate_bytes =
    buffers_say net certificate net_bytes certificate_bytes (network_in net net_bytes) refl
    (network_gives net net_bytes)

-- what bytes declare
is_declared : {A : Type 0} (declared : Result A Answer) (value : A) → declared ≡ Ok value → IsOk declared
is_declared declared value h = rw h refl

-- of the second form, where all files declare what they should
judged_peaks : (net certificate schedule net_bytes certificate_bytes schedule_bytes : List ℕ) (order : Order)
    (network : DeclaredNetwork) (rows : List Row) (releases : List Release) (refusal : Option Refusal) (answer : Answer)
    → network_in net net_bytes ≡ Ok network → rows_in network.topology certificate certificate_bytes ≡ Ok rows
    → releases_in network schedule schedule_bytes ≡ Ok releases → IsNetwork network → AllPairs IsBefore rows
    → refusal_of network rows ≡ refusal
    → IsOneOf (IsHeldText order)
    (judged (held network rows releases) (option_map (refusal_text network.topology) refusal)) answer
    → PeaksSay net certificate schedule net_bytes certificate_bytes schedule_bytes order answer.text answer.status
judged_peaks net certificate schedule net_bytes certificate_bytes schedule_bytes order network rows releases None answer
    network_is rows_are releases_are rules ordered is one =
    let holds = (refused_unless_holding network rows rules ordered).0 is in
    subst (PeaksSay net certificate schedule net_bytes certificate_bytes schedule_bytes order answer.text) (sym one.0) (
      network,
      rows,
      releases,
      one.1.0,
      one.1.1,
      record {
        network_declared = network_is;
        rows_declared = rows_are;
        releases_declared = releases_are;
        rules = rules;
        buffers = are_buffers network rows rules holds;
        held_run = one.1.2;
        fit = peaks_fit network rows one.1.0 one.1.1 rules holds one.1.2.is_run.by_order.legal one.1.2.are_peaks;
      },
    )
judged_peaks net certificate schedule net_bytes certificate_bytes schedule_bytes order network rows releases
    (Some refusal) answer network_is rows_are releases_are rules ordered is one =
    subst (λ (a : Answer). PeaksSay net certificate schedule net_bytes certificate_bytes schedule_bytes order a.text
    a.status) (sym one) (
      network,
      rows,
      refusal,
      record {
        refused = is_refused net certificate net_bytes certificate_bytes network rows refusal network_is rows_are rules
            ordered is;
        releases_declared = is_declared _ releases releases_are;
      },
    )

-- where the first two do
releases_say : (net certificate schedule net_bytes certificate_bytes schedule_bytes : List ℕ) (order : Order)
    (network : DeclaredNetwork) (rows : List Row) (declared : Result (List Release) Answer) (answer : Answer)
    → network_in net net_bytes ≡ Ok network → rows_in network.topology certificate certificate_bytes ≡ Ok rows
    → IsNetwork network → AllPairs IsBefore rows → releases_in network schedule schedule_bytes ≡ declared
    → MatchResult declared (λ (releases : List Release). Unit {0}) IsInput
    → IsOneOf (IsHeldText order)
    (declared >>= λ releases. unless_refused network rows (held network rows releases)) answer
    → PeaksSay net certificate schedule net_bytes certificate_bytes schedule_bytes order answer.text answer.status
releases_say net certificate schedule net_bytes certificate_bytes schedule_bytes order network rows (Ok releases) answer
    network_is rows_are rules ordered is input one =
    judged_peaks net certificate schedule net_bytes certificate_bytes schedule_bytes order network rows releases
    (refusal_of network rows) answer network_is rows_are is rules ordered refl one
releases_say net certificate schedule net_bytes certificate_bytes schedule_bytes order network rows (Err due) answer
    network_is rows_are rules ordered is input one =
    subst (PeaksSay net certificate schedule net_bytes certificate_bytes schedule_bytes order answer.text)
    (sym (ap (λ (a : Answer). a.status) one ∙ input))
    (inr (inr (
      network,
      rows,
      record {
        network_declared = network_is;
        rows_declared = rows_are;
        no_releases = none_declared (releases_in network schedule schedule_bytes) due is;
      },
    )))

-- where the first does
certified_say : (net certificate schedule net_bytes certificate_bytes schedule_bytes : List ℕ) (order : Order)
    (network : DeclaredNetwork) (declared : Result (List Row) Answer) (answer : Answer)
    → network_in net net_bytes ≡ Ok network → IsNetwork network
    → rows_in network.topology certificate certificate_bytes ≡ declared
    → MatchResult declared (AllPairs IsBefore) IsInput
    → IsOneOf (IsHeldText order) (declared >>= λ rows. held_judged network rows schedule schedule_bytes) answer
    → PeaksSay net certificate schedule net_bytes certificate_bytes schedule_bytes order answer.text answer.status
certified_say net certificate schedule net_bytes certificate_bytes schedule_bytes order network (Ok rows) answer
    network_is rules is ordered one =
    releases_say net certificate schedule net_bytes certificate_bytes schedule_bytes order network rows
    (releases_in network schedule schedule_bytes) answer network_is is rules ordered refl
    (releases_give network schedule schedule_bytes) one
certified_say net certificate schedule net_bytes certificate_bytes schedule_bytes order network (Err due) answer
    network_is rules is input one =
    subst (PeaksSay net certificate schedule net_bytes certificate_bytes schedule_bytes order answer.text)
    (sym (ap (λ (a : Answer). a.status) one ∙ input))
    (inr (inl (
      network,
      record {
        network_declared = network_is;
        no_rows = none_declared (rows_in network.topology certificate certificate_bytes) due is;
      },
    )))

peaks_say : (net certificate schedule net_bytes certificate_bytes schedule_bytes : List ℕ) (order : Order)
    (declared : Result DeclaredNetwork Answer) (answer : Answer) → network_in net net_bytes ≡ declared
    → MatchResult declared IsNetwork IsInput
    → IsOneOf (IsHeldText order) (declared >>= λ network. rows_in network.topology certificate certificate_bytes
    >>= λ rows. held_judged network rows schedule schedule_bytes) answer
    → PeaksSay net certificate schedule net_bytes certificate_bytes schedule_bytes order answer.text answer.status
peaks_say net certificate schedule net_bytes certificate_bytes schedule_bytes order (Ok network) answer is rules one =
    certified_say net certificate schedule net_bytes certificate_bytes schedule_bytes order network
    (rows_in network.topology certificate certificate_bytes) answer is rules refl
    (rows_give network.topology certificate certificate_bytes) one
peaks_say net certificate schedule net_bytes certificate_bytes schedule_bytes order (Err due) answer is input one =
    subst (PeaksSay net certificate schedule net_bytes certificate_bytes schedule_bytes order answer.text)
    (sym (ap (λ (a : Answer). a.status) one ∙ input)) (inl (none_declared (network_in net net_bytes) due is))

pub peaks_mean : PeaksMean
unfolding held_in
peaks_mean net certificate schedule net_bytes certificate_bytes schedule_bytes order answer one =
    peaks_say net certificate schedule net_bytes certificate_bytes schedule_bytes order (network_in net net_bytes)
    answer refl (network_gives net net_bytes) one
