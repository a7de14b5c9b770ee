-- What is read of a capture, whoever reads it.
use Rattle.std.proofs.Common.{◌≡◌, ◌∙◌, ℕ, ◌+◌, ◌≤◌, Bool, List, [], length, map, take, Option, Some, None}
use Rattle.std.proofs.Common.{Result, Ok, Err, if◌then◌else◌, refl, sym, ap, subst, arith}
use Rattle.std.specs.List.{All, flat_map}
use Rattle.std.proofs.lemmas.Bool.{le-ltb}
use Rattle.std.proofs.lemmas.List.{length-append}
use Rattle.std.proofs.lemmas.List.Sorted.{All-permutation, length_permutation}
use Rattle.ats_num.specs.Failure.{◌>>=◌}
use Rattle.ats_num.specs.declared.failure.Failure.{Failure}
use Rattle.ats_num.specs.declared.failure.Failure.TheVariants.{Fault, NoMemory}
use Rattle.ats_port_rule.specs.Transmission.{Transmission}
use Rattle.ats_trace.specs.Projections.{sent_by}
use Rattle.ats_pcap.specs.Capture.{Position, position_of, records_at, records_of}
use Rattle.ats_pcap.specs.Reading.{Shows, ending_of}
use Rattle.ats_pcap.specs.declared.fault.CaptureFault.{CaptureFault}
use Rattle.ats_pcap.specs.declared.record.Record.{Record}
use Rattle.ats_pcap.proofs.Tests.{Err-Ok, same_Ok}
use Rattle.ats_capture.specs.Reading.{of_file, records_in}
use Rattle.ats_capture.specs.declared.fault.RecordsFault.TheVariants.{TooLong}
use Rattle.ats_capture.specs.declared.reading.TheConstants.{MAX_BYTES}
use Rattle.ats_port_capture.specs.Capture.{header, record_of}
use Rattle.ats_port_capture.specs.Numbers.{low_first16, low_first32}
use Rattle.ats_port_capture_law.specs.Laws.{CaptureReadsBack, ReadsAs, found_of}
use Rattle.ats_port_capture_law.proofs.Members.{IsReadable, each_readable, few_sent}
use Rattle.ats_port_capture_law.proofs.Read.{header_long}
use Rattle.ats_port_capture_law.proofs.Whole.{MayBeRead, all_read, behind, capture_short, header_read, records_behind}

-- a reader that is where they end answers them
answers : (found : List Record) → ending_of None (behind found) ≡ Ok found
unfolding header low_first16 low_first32
answers found = refl

-- and so is one that stands for the bytes
ending_is : (failure : Option (Failure CaptureFault)) (position : Position) (found : List Record)
    → Shows failure position (Ok (behind found)) → ending_of failure position ≡ Ok found
ending_is None position found shows =
    subst (λ (p : Position). ending_of None p ≡ Ok found) (same_Ok (behind found) position shows) (answers found)
ending_is (Some (Fault fault)) position found shows = absurd (Err-Ok fault (behind found) (sym shows))
ending_is (Some NoMemory) position found shows = absurd shows

-- where the bytes end so, and are not too many, these records are read of them
reads_as : (file : List ℕ) (found : List Record) → position_of file ≡ Ok (behind found) → length file ≤ MAX_BYTES
    → ReadsAs file found
unfolding records_in
reads_as file found read few =
    let bytes : records_of file ≡ Ok found =
    ap (λ (r : Result Position CaptureFault). r >>= records_at) read ∙ records_behind found in
    record {
      bytes = bytes;
      pieces = λ reading stands. ending_is reading.failure reading.position found
          (subst (Shows reading.failure reading.position) read stands);
      window = ap (λ (b : Bool). if b then of_file (position_of (take MAX_BYTES file)) >>= (λ _. Err TooLong)
          else of_file (records_of file)) (le-ltb MAX_BYTES (length file) few)
          ∙ ap of_file bytes;
    }

pub capture_is_read : CaptureReadsBack
capture_is_read network run port file net journeys few capture =
    let sent : List Transmission = capture.sent in
    let readable : All (IsReadable run) sent =
    All-permutation (IsReadable run) (sent_by network run port) sent capture.ordered.all
    (each_readable network run port net journeys) in
    let may : All (MayBeRead run) sent = λ k d within. record {
      readable = readable k d within;
      fits = capture.ordered.fit k d within;
    } in
    let many : length sent ≡ length (sent_by network run port) =
    length_permutation (sent_by network run port) sent capture.ordered.all in
    let once = few_sent network run port net journeys in
    let short = capture_short network run sent in
    let long : length file ≡ length header + length (flat_map (record_of network run) sent) =
    ap (λ (l : List ℕ). length l) capture.written ∙ length-append header (flat_map (record_of network run) sent) in
    reads_as file (map (found_of network run) sent)
    (ap position_of capture.written
    ∙ all_read network run sent header [] net may (omega (arith, many, once, few)) header_read)
    (omega (arith, long, header_long, short, many, once, few))
