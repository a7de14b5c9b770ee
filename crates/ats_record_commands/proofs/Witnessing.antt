-- What comes of a network for which a certificate holds, and of one for which none does.
use Rattle.std.proofs.Common.{◌≡◌, ℕ, suc, ◌+◌, List, [], ◌∷◌, ◌++◌, length, Option, Some, None, Result, Ok, Err}
use Rattle.std.proofs.Common.{refl, subst, sym, ap, ◌∙◌, arith}
use Rattle.std.specs.Prelude.{slice_index_or}
use Rattle.std.specs.List.{AllZip, enumerate_from, flat_map, range_with_len}
use Rattle.std.specs.Option.{option_map}
use Rattle.std.proofs.lemmas.List.{flat_map_more, map-id}
use Rattle.std.proofs.lemmas.List.FromFn.{length-range_with_len, map-range_with_len_more}
use Rattle.std.proofs.lemmas.Slice.Zip.{AllZip-long, all_zipped_more}
use Rattle.ats_streams.specs.Stream.{DeclaredStream}
use Rattle.ats_topology.specs.Topology.{DeclaredTopology}
use Rattle.ats_network.specs.Edits.{no_stream}
use Rattle.ats_network.specs.Network.{DeclaredNetwork}
use Rattle.ats_network.specs.Senders.{sender_at}
use Rattle.ats_certificate.specs.declared.row.Row.{Row}
use Rattle.ats_tally.specs.Delays.{NetworkRows, rows_for}
use Rattle.ats_bound.specs.Reason.{reason_of}
use Rattle.ats_tally.specs.declared.reason.Reason.{Reason}
use Rattle.ats_trace.specs.Ways.{listener_count}
use Rattle.ats_witness.specs.Found.{AreFound, FoundDelays, bound_for}
use Rattle.ats_witness_text.specs.Text.{found_text, witness_text}
use Rattle.ats_verdict_text.specs.Text.{reason_text, refused_text}
use Rattle.ats_command_input.specs.Answer.{Answer}
use Rattle.ats_command_input.specs.declared.status.Status.TheVariants as status
use Rattle.ats_command_due.specs.Judged.{judged}
use Rattle.ats_command_due.specs.Witnessed.{IsWitnessText, Witnessed, least_sum, witness_judged, witnessed}
use Rattle.ats_record_commands.specs.SoFar.{IsWitnessSoFar}

-- where there is no reason against the network, its stream is passed
pub no_reason_passes : (network : DeclaredNetwork) (stream : ℕ) → reason_of network ≡ None
    → witness_judged network stream ≡ Ok (witnessed network stream)
unfolding witness_judged
no_reason_passes network stream none =
    ap (λ (o : Option Reason). judged (witnessed network stream) (option_map (reason_text network.topology) o)) none

-- a refusal with this text
refused_with : List ℕ → Result Witnessed Answer
refused_with text = Err (record { status = status.Refused; text = text })

-- the line for the reason, where there is one
pub reason_refuses : (network : DeclaredNetwork) (stream : ℕ) (topology : DeclaredTopology) (reason : Reason)
    (text : List ℕ) → topology ≡ network.topology → reason_of network ≡ Some reason
    → text ≡ refused_text (reason_text topology reason)
    → witness_judged network stream ≡ Err (record { status = status.Refused; text = text })
unfolding witness_judged refused_with
reason_refuses network stream topology reason text same why written =
    ap (λ (o : Option Reason). judged (witnessed network stream) (option_map (reason_text network.topology) o)) why
    ∙ ap refused_with (sym (written ∙ ap (λ (t : DeclaredTopology). refused_text (reason_text t reason)) same))

-- the stream with a number of a network
stream_in : DeclaredNetwork → ℕ → DeclaredStream
stream_in network stream = slice_index_or network.streams stream no_stream

-- the sum by a certificate along the route to a listener is that of the bounds there
pub sum_for : (delays : NetworkRows) (network : DeclaredNetwork) (rows : List Row) (stream listener sum : ℕ)
    → delays ≡ rows_for network rows
    → sum ≡ bound_for delays.rows (slice_index_or delays.network.streams stream no_stream) listener
    → sum ≡ bound_for rows (slice_index_or network.streams stream no_stream) listener
unfolding stream_in
sum_for delays network rows stream listener sum same is =
    is ∙ ap (λ (d : NetworkRows). bound_for d.rows (stream_in d.network stream) listener) same

-- numbered elements, with one more behind
numbered_more : (n : ℕ) (founds : List FoundDelays) (found : FoundDelays)
    → enumerate_from n (founds ++ found ∷ []) ≡ enumerate_from n founds ++ (n + length founds, found) ∷ []
numbered_more n [] found =
    ap (λ (k : ℕ). (k, found) ∷ []) (let none : n ≡ n + 0 = omega arith in none)
numbered_more n (f ∷ founds) found =
    let next : n + 1 + length founds ≡ n + suc (length founds) = omega arith in
    ap (λ (l : List (ℕ × FoundDelays)). (n, f) ∷ l) (numbered_more (n + 1) founds found)
    ∙ ap (λ (k : ℕ). (n, f) ∷ enumerate_from (n + 1) founds ++ (k, found) ∷ []) next

-- what is printed of the first listeners, with one more
text_more : (network : DeclaredNetwork) (stream count : ℕ) (founds : List FoundDelays) (found : FoundDelays)
    (bound : ℕ → ℕ) → length founds ≡ count
    → witness_text network stream (founds ++ found ∷ []) bound
    ≡ witness_text network stream founds bound ++ found_text network stream count found (bound count)
unfolding witness_text
text_more network stream count founds found bound many =
    let one : ℕ × FoundDelays → List ℕ = λ (f : ℕ × FoundDelays). found_text network stream f.0 f.1 (bound f.0) in
    let place : 0 + length founds ≡ count = omega (arith, many) in
    ap (flat_map one) (numbered_more 0 founds found)
    ∙ sym (flat_map_more one [] (enumerate_from 0 founds) (0 + length founds, found))
    ∙ ap (λ (k : ℕ). flat_map one (enumerate_from 0 founds) ++ found_text network stream k found (bound k)) place

range_more : (n : ℕ) → range_with_len 0 (n + 1) ≡ range_with_len 0 n ++ n ∷ []
range_more n =
    sym (map-id (range_with_len 0 (n + 1))) ∙ map-range_with_len_more (λ (k : ℕ). k) 0 n n (omega arith)
    ∙ ap (λ (l : List ℕ). l ++ n ∷ []) (map-id (range_with_len 0 n))

-- of no listener yet
pub none_yet : (network : DeclaredNetwork) (stream : ℕ) → IsWitnessSoFar network stream 0 []
unfolding witness_text
none_yet network stream = ([], record { are_found = tt; written = refl })

-- and of one more
pub one_more : (network : DeclaredNetwork) (stream count : ℕ) (before after : List ℕ) (found : FoundDelays) (sum : ℕ)
    → IsWitnessSoFar network stream count before → AreFound network stream count found
    → sum ≡ least_sum network stream count → after ≡ before ++ found_text network stream count found sum
    → IsWitnessSoFar network stream (count + 1) after
one_more network stream count before after found sum so_far is bound written =
    let founds : List FoundDelays = so_far.0 in
    let many : length founds ≡ count =
    AllZip-long (AreFound network stream) (range_with_len 0 count) founds so_far.1.are_found
    ∙ length-range_with_len 0 count in (
      founds ++ found ∷ [],
      record {
        are_found = subst (λ (l : List ℕ). AllZip (AreFound network stream) l (founds ++ found ∷ []))
            (sym (range_more count))
            (all_zipped_more (AreFound network stream) (range_with_len 0 count) founds count found
            so_far.1.are_found is);
        written = written
            ∙ ap (λ (n : ℕ). before ++ found_text network stream count found n) bound
            ∙ ap (λ (t : List ℕ). t ++ found_text network stream count found (least_sum network stream count))
            so_far.1.written
            ∙ sym (text_more network stream count founds found (least_sum network stream) many);
      },
    )

-- of all
pub of_all : (network : DeclaredNetwork) (stream count : ℕ) (text : List ℕ)
    → count ≡ listener_count (sender_at network stream) → IsWitnessSoFar network stream count text
    → IsWitnessText network stream text
of_all network stream count text all so_far = (
  so_far.0,
  record {
    are_found = subst (λ (k : ℕ). AllZip (AreFound network stream) (range_with_len 0 k) so_far.0) all
        so_far.1.are_found;
    written = so_far.1.written;
  },
)
