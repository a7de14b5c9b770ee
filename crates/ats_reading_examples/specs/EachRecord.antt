use Rattle.std.specs.Prelude.{◌≡◌, ◌≢◌, ◌↔◌, ℕ, ◌+◌, ◌-◌, true, ◌&&◌, ◌||◌, ◌==◌, nat_le, nat_lt, List, [], ◌∷◌, ◌++◌}
use Rattle.std.specs.Prelude.{length, map, sum_by, codes, None, Some, Result, Ok, Err, slice_get, unwrap_or}
use Rattle.std.specs.List.{position_from}
use Rattle.std.specs.Option.{option_and_then}
use Rattle.std.specs.Str.{bytes_eq}
use Rattle.ats_num.specs.Failure.{◌>>=◌, ok_where, or_fault}
use Rattle.ats_num.specs.Name.{name_of}
use Rattle.ats_num.specs.Number.{number_of}
use Rattle.ats_topology.specs.Topology.{DeclaredTopology}
use Rattle.ats_network.specs.Network.{DeclaredNetwork, senders_of}
use Rattle.ats_network.specs.Sender.{Sender}
use Rattle.ats_network.specs.Senders.{sender_at}
use Rattle.ats_port_names.specs.PortName.{port_named}
use Rattle.ats_csv.specs.Reading.{field_of, records_of, same_fields}
use Rattle.ats_certificate.specs.declared.row.Row.{Row}
use Rattle.ats_certificate_file.specs.Reading.{comes_after, row_after, row_in, rows_from, rows_of, rows_under}
use Rattle.ats_certificate_file.specs.declared.fault.CertFault.{CertFault}
use Rattle.ats_certificate_file.specs.declared.fault.CertFault.TheVariants as row
use Rattle.ats_trace.specs.declared.journey.Release.{Release}
use Rattle.ats_schedule.specs.Reading.{release_after, releases_from, releases_of, releases_under, sender_named}
use Rattle.ats_schedule.specs.Releases.{last_time, ports_with, time_of}
use Rattle.ats_schedule.specs.declared.fault.ScheduleFault.TheVariants as release

-- What certificates and schedules declare, written out for all files, records and fields.

-- a field is that at its place, and two records are the same where their fields are, one by one
pub record FieldsAreMeant : Type 0 where
  pub field : (fields : List (List ℕ)) (place : ℕ) → field_of fields place ≡ unwrap_or (slice_get fields place) []
  pub same : (some others : List (List ℕ)) → (same_fields some others ≡ true) ↔ (some ≡ others)

-- the first records of a certificate and of a schedule
abbrev pub row_columns : List (List ℕ)
row_columns =
    codes "port" ∷ codes "class" ∷ codes "higher" ∷ codes "equal" ∷ codes "bursts" ∷ codes "lower" ∷ codes "least"
    ∷ codes "wait" ∷ codes "bound" ∷ []

abbrev pub release_columns : List (List ℕ)
release_columns = codes "at_ps" ∷ codes "sender" ∷ codes "octets" ∷ []

-- a number of record n, from a least to a greatest
abbrev pub row_number : ℕ → ℕ → ℕ → List ℕ → Result ℕ CertFault
row_number n least most text = do
  number ← or_fault (row.BadNumber n) (number_of text)
  ok_where (nat_le least number && nat_le number most) (row.BadNumber n) number

-- the rows of a certificate are those of its records, whatever its bytes are: the due header, and record by record a
-- row that comes after the one before. Refuses a file that is to be UTF-8
pub record RowsAreRead : Type 0 where
  pub file : (topology : DeclaredTopology) (bytes : List ℕ) → rows_of topology bytes
      ≡ rows_under topology (records_of bytes)
  pub no_record : (topology : DeclaredTopology) → rows_under topology [] ≡ Err (row.BadRow 1)
  pub header : (topology : DeclaredTopology) (records : List (List (List ℕ)))
      → rows_under topology (row_columns ∷ records) ≡ rows_from topology [] 2 records
  pub no_header : (topology : DeclaredTopology) (first : List (List ℕ)) (records : List (List (List ℕ)))
      → first ≢ row_columns → rows_under topology (first ∷ records) ≡ Err (row.BadRow 1)
  pub end : (topology : DeclaredTopology) (rows : List Row) (n : ℕ) → rows_from topology rows n [] ≡ Ok rows
  pub next : (topology : DeclaredTopology) (rows : List Row) (n : ℕ) (fields : List (List ℕ))
      (records : List (List (List ℕ))) → rows_from topology rows n (fields ∷ records) ≡ (do
        nine ← ok_where (length fields == 9) (row.BadRow n) fields
        read ← row_after topology rows n nine
        rows_from topology (rows ++ read ∷ []) (n + 1) records)
  pub after : (topology : DeclaredTopology) (rows : List Row) (n : ℕ) (fields : List (List ℕ))
      → row_after topology rows n fields ≡ (do
        read ← row_in topology n fields
        ok_where (comes_after (slice_get rows (length rows - 1)) read) (row.RowOrder n) read)
  pub first : (read : Row) → comes_after None read ≡ true
  pub later : (last read : Row) → comes_after (Some last) read
      ≡ (nat_lt last.port read.port || (last.port == read.port && nat_lt last.class read.class))
  pub row : (topology : DeclaredTopology) (n : ℕ) (fields : List (List ℕ)) → row_in topology n fields ≡ (do
    port ← or_fault (row.UnknownPort n) (port_named topology (field_of fields 0))
    class ← row_number n 1 7 (field_of fields 1)
    higher ← or_fault (row.BadNumber n) (number_of (field_of fields 2))
    equal ← or_fault (row.BadNumber n) (number_of (field_of fields 3))
    bursts ← or_fault (row.BadNumber n) (number_of (field_of fields 4))
    lower ← row_number n 0 16160 (field_of fields 5)
    least ← row_number n 0 16160 (field_of fields 6)
    wait ← or_fault (row.BadNumber n) (number_of (field_of fields 7))
    bound ← or_fault (row.BadNumber n) (number_of (field_of fields 8))
    Ok (record {
      port = port;
      class = class;
      higher = higher;
      equal = equal;
      bursts = bursts;
      lower = lower;
      least = least;
      wait = wait;
      bound = bound;
    }))

-- and so are the releases of a schedule: the sender by its name and in no other way, both numbers, the size, the time
-- against that of the release before, and the limits on times, on frames and on their ports together. Refuses a sender
-- by its number, or by its name in other letters
pub record ReleasesAreRead : Type 0 where
  pub file : (network : DeclaredNetwork) (bytes : List ℕ) → releases_of network bytes
      ≡ releases_under network (records_of bytes)
  pub no_record : (network : DeclaredNetwork) → releases_under network [] ≡ Err (release.BadRow 1)
  pub header : (network : DeclaredNetwork) (records : List (List (List ℕ)))
      → releases_under network (release_columns ∷ records) ≡ releases_from network [] records
  pub no_header : (network : DeclaredNetwork) (first : List (List ℕ)) (records : List (List (List ℕ)))
      → first ≢ release_columns → releases_under network (first ∷ records) ≡ Err (release.BadRow 1)
  pub end : (network : DeclaredNetwork) (releases : List Release) → releases_from network releases [] ≡ Ok releases
  pub next : (network : DeclaredNetwork) (releases : List Release) (fields : List (List ℕ))
      (records : List (List (List ℕ))) → releases_from network releases (fields ∷ records) ≡ (do
        three ← ok_where (length fields == 3) (release.BadRow (length releases + 2)) fields
        read ← release_after network releases three
        releases_from network (releases ++ read ∷ []) records)
  pub sender : (network : DeclaredNetwork) (text : List ℕ) → sender_named network text
      ≡ option_and_then (λ name. position_from (bytes_eq name) 0
      (map (λ (s : Sender). s.name) (senders_of network))) (name_of text)
  pub before : (releases : List Release) → last_time releases ≡ time_of (slice_get releases (length releases - 1))
  pub none_before : time_of None ≡ 0
  pub one_before : (r : Release) → time_of (Some r) ≡ r.at.0
  pub ports : (network : DeclaredNetwork) (releases : List Release) (sender : ℕ) → ports_with network releases sender
      ≡ sum_by (λ (r : Release). length (sender_at network r.sender).ports) releases
      + length (sender_at network sender).ports
  pub release : (network : DeclaredNetwork) (releases : List Release) (fields : List (List ℕ))
      → release_after network releases fields ≡ (do
        sender ← or_fault (release.UnknownName (length releases + 2)) (sender_named network (field_of fields 1))
        at ← or_fault (release.BadNumber (length releases + 2)) (number_of (field_of fields 0))
        octets ← or_fault (release.BadNumber (length releases + 2)) (number_of (field_of fields 2))
        size ← ok_where (nat_le 64 octets && nat_le octets 2000) (release.BadSize (length releases + 2)) octets
        later ← ok_where (nat_le (last_time releases) at) (release.TimeBack (length releases + 2)) at
        time ← ok_where (nat_le later 100000000000000000 && nat_lt (length releases) 200000
            && nat_le (ports_with network releases sender) 3200000) (release.Limit (length releases + 2)) later
        Ok (record { at = record { 0 = time }; sender = sender; octets = size }))

pub record RecordsAreMeant : Type 0 where
  pub fields : FieldsAreMeant
  pub rows : RowsAreRead
  pub releases : ReleasesAreRead
