use Rattle.std.proofs.Common.{◌≡◌, ◌∙◌, ℕ, List, length, Some, Ok, refl, ap, subst}
use Rattle.std.specs.Prelude.{◌&&◌, ◌==◌, nat_le, nat_lt, codes}
use Rattle.std.specs.Str.{bytes_eq}
use Rattle.ats_num.specs.Failure.{or_fault}
use Rattle.ats_num.specs.Number.{number_of}
use Rattle.ats_num.specs.declared.wire.TheConstants.{MAX_OCTETS, MAX_WIRE_BITS, MIN_OCTETS}
use Rattle.ats_topology.specs.Topology.{DeclaredTopology}
use Rattle.ats_network.specs.Network.{DeclaredNetwork}
use Rattle.ats_port_names.specs.PortName.{port_named}
use Rattle.ats_csv.specs.Reading.{field_of, same_fields}
use Rattle.ats_certificate.specs.declared.row.Row.{Row}
use Rattle.ats_certificate_file.specs.Reading.{header as row_header, number_in as row_number, number_within, row_in}
use Rattle.ats_certificate_file.specs.declared.fault.CertFault.TheVariants as row
use Rattle.ats_trace.specs.declared.journey.Release.{Release}
use Rattle.ats_trace.specs.declared.run.TheConstants.{MAX_FRAMES, MAX_HOPS, MAX_RELEASE_PS}
use Rattle.ats_schedule.specs.Reading.{header as release_header, in_order, in_size, number_in as release_number}
use Rattle.ats_schedule.specs.Reading.{record_after, release_after, sender_in, sender_named, within_limits}
use Rattle.ats_schedule.specs.Releases.{last_time, ports_with}
use Rattle.ats_schedule.specs.declared.fault.ScheduleFault.TheVariants as release
use Rattle.ats_words.specs.Words.{word}
use Rattle.ats_shape.specs.Reading.{residence_in}
use Rattle.ats_shape.specs.declared.fault.ShapeFault.TheVariants as line
use Rattle.ats_request_file.specs.Words.{numbered}
use Rattle.ats_request_file.specs.declared.fault.RequestFault.TheVariants as ask
use Rattle.ats_reading_examples.specs.Fields.{FieldsAreExact, HeadersAreExact, IsReleaseOf, IsRowOf}
use Rattle.ats_reading_examples.specs.Fields.{NumbersAreExact, NumbersAreOfFields}
use Rattle.ats_reading_examples.proofs.Steps.{both, given, passed, same_value}

-- Fields and words: those that are nearly right by computation, and the numbers that they write.

headers_are_exact : HeadersAreExact
unfolding same_fields row_header release_header
headers_are_exact = record { rows = refl; nearly_rows = refl; releases = refl; nearly_releases = refl }

numbers_are_exact : NumbersAreExact
unfolding row_in release_after
numbers_are_exact = record {
  row_right = refl;
  row_zero = refl;
  row_empty = refl;
  time_zero = refl;
  time_zeros = refl;
  time_empty = refl;
  octets_zero = refl;
  octets_empty = refl;
  residence_zero = refl;
  residence_zeros = refl;
  frame_time_zero = refl;
  frame_octets_zero = refl;
  request_right = refl;
  request_zero = refl;
  request_empty = refl;
}

-- numbers of rows, one of them within a range
row_written : (n : ℕ) (text : List ℕ) (value : ℕ) → row_number n text ≡ Ok value → number_of text ≡ Some value
row_written n text value h = given (row.BadNumber n) (number_of text) value h

within_written : (n least most : ℕ) (text : List ℕ) (value : ℕ) → number_within n least most text ≡ Ok value
    → number_of text ≡ Some value
within_written n least most text value h =
    let read = both (row_number n text) _ value h in
    row_written n text read.first read.is
    ∙ ap (λ (v : ℕ). Some v)
    (passed (nat_le least read.first && nat_le read.first most) (row.BadNumber n) read.first value read.then)

row_of_fields : (topology : DeclaredTopology) (n : ℕ) (fields : List (List ℕ)) (read : Row)
    → row_in topology n fields ≡ Ok read → IsRowOf topology fields read
unfolding row_in
row_of_fields topology n fields read h =
    let port = both (or_fault (row.UnknownPort n) (port_named topology (field_of fields 0))) _ read h in
    let class = both (number_within n 1 7 (field_of fields 1)) _ read port.then in
    let higher = both (row_number n (field_of fields 2)) _ read class.then in
    let equal = both (row_number n (field_of fields 3)) _ read higher.then in
    let bursts = both (row_number n (field_of fields 4)) _ read equal.then in
    let lower = both (number_within n 0 MAX_WIRE_BITS (field_of fields 5)) _ read bursts.then in
    let least = both (number_within n 0 MAX_WIRE_BITS (field_of fields 6)) _ read lower.then in
    let wait = both (row_number n (field_of fields 7)) _ read least.then in
    let bound = both (row_number n (field_of fields 8)) _ read wait.then in
    let made : Row = record {
      port = port.first;
      class = class.first;
      higher = higher.first;
      equal = equal.first;
      bursts = bursts.first;
      lower = lower.first;
      least = least.first;
      wait = wait.first;
      bound = bound.first;
    } in
    let same : made ≡ read = same_value made read bound.then in
    subst (λ (r : Row). IsRowOf topology fields r) same (record {
      port = given (row.UnknownPort n) (port_named topology (field_of fields 0)) port.first port.is;
      class = within_written n 1 7 (field_of fields 1) class.first class.is;
      higher = row_written n (field_of fields 2) higher.first higher.is;
      equal = row_written n (field_of fields 3) equal.first equal.is;
      bursts = row_written n (field_of fields 4) bursts.first bursts.is;
      lower = within_written n 0 MAX_WIRE_BITS (field_of fields 5) lower.first lower.is;
      least = within_written n 0 MAX_WIRE_BITS (field_of fields 6) least.first least.is;
      wait = row_written n (field_of fields 7) wait.first wait.is;
      bound = row_written n (field_of fields 8) bound.first bound.is;
    })

release_of_fields : (network : DeclaredNetwork) (before : List Release) (fields : List (List ℕ)) (read : Release)
    → release_after network before fields ≡ Ok read → IsReleaseOf network fields read
unfolding release_after
release_of_fields network before fields read h =
    let n : ℕ = record_after before in
    let sender = both (sender_in network n (field_of fields 1)) _ read h in
    let at = both (release_number n (field_of fields 0)) _ read sender.then in
    let octets = both (release_number n (field_of fields 2)) _ read at.then in
    let size = both (in_size n octets.first) _ read octets.then in
    let later = both (in_order n (last_time before) at.first) _ read size.then in
    let time = both (within_limits n (length before) (ports_with network before sender.first) later.first) _ read
    later.then in
    let made : Release = record { at = record { 0 = time.first }; sender = sender.first; octets = size.first } in
    let same : made ≡ read = same_value made read time.then in
    let is_size : octets.first ≡ size.first =
    passed (nat_le MIN_OCTETS octets.first && nat_le octets.first MAX_OCTETS) (release.BadSize n) octets.first
    size.first size.is in
    let is_later : at.first ≡ later.first =
    passed (nat_le (last_time before) at.first) (release.TimeBack n) at.first later.first later.is in
    let is_time : later.first ≡ time.first =
    passed (nat_le later.first MAX_RELEASE_PS && nat_lt (length before) MAX_FRAMES
    && nat_le (ports_with network before sender.first) MAX_HOPS) (release.Limit n) later.first time.first time.is in
    subst (λ (r : Release). IsReleaseOf network fields r) same (record {
      time = given (release.BadNumber n) (number_of (field_of fields 0)) at.first at.is
          ∙ ap (λ (v : ℕ). Some v) (is_later ∙ is_time);
      sender = given (release.UnknownName n) (sender_named network (field_of fields 1)) sender.first sender.is;
      octets = given (release.BadNumber n) (number_of (field_of fields 2)) octets.first octets.is
          ∙ ap (λ (v : ℕ). Some v) is_size;
    })

residence_of_words : (n : ℕ) (words : List (List ℕ)) (ns : ℕ) → residence_in n words ≡ Ok ns
    → number_of (word words 1) ≡ Some ns
residence_of_words n words ns h =
    let read = both (or_fault (line.BadLine n) (number_of (word words 1))) _ ns h in
    given (line.BadLine n) (number_of (word words 1)) read.first read.is
    ∙ ap (λ (v : ℕ). Some v)
    (passed (length words == 2 && bytes_eq (word words 0) (codes "residence") && nat_le read.first 1000000000)
    (line.BadLine n) read.first ns read.then)

request_of_words : (n : ℕ) (words : List (List ℕ)) (k value : ℕ) → numbered n words k ≡ Ok value
    → number_of (word words k) ≡ Some value
request_of_words n words k value h =
    let read = both (or_fault (ask.BadLine n) (number_of (word words k))) _ value h in
    given (ask.BadLine n) (number_of (word words k)) read.first read.is
    ∙ ap (λ (v : ℕ). Some v)
    (passed (nat_lt read.first 1000000000000000000) (ask.BadLine n) read.first value read.then)

numbers_are_of_fields : NumbersAreOfFields
numbers_are_of_fields = record {
  rows = row_of_fields;
  releases = release_of_fields;
  residence = residence_of_words;
  requests = request_of_words;
}

pub fields_are_exact : FieldsAreExact
fields_are_exact = record {
  headers = headers_are_exact;
  law = numbers_are_of_fields;
  numbers = numbers_are_exact;
}
