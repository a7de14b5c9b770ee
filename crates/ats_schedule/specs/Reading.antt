use Rattle.std.specs.Prelude.{ℕ, ◌+◌, ◌&&◌, ◌==◌, nat_le, nat_lt, List, [], ◌∷◌, ◌++◌, length, codes, Option}
use Rattle.std.specs.Prelude.{Result, Ok, Err, if◌then◌else◌}
use Rattle.std.specs.Option.{option_and_then}
use Rattle.ats_num.specs.Failure.{◌>>=◌, or_fault, ok_where}
use Rattle.ats_num.specs.Name.{name_of}
use Rattle.ats_num.specs.Number.{number_of}
use Rattle.ats_num.specs.Places.{place_of}
use Rattle.ats_num.specs.declared.wire.TheConstants.{MIN_OCTETS, MAX_OCTETS}
use Rattle.ats_network.specs.Network.{DeclaredNetwork, names_of, senders_of}
use Rattle.ats_csv.specs.Reading.{field_of, records_of, same_fields}
use Rattle.ats_trace.specs.declared.journey.Release.{Release}
use Rattle.ats_trace.specs.declared.run.TheConstants.{MAX_FRAMES, MAX_HOPS, MAX_RELEASE_PS}
use Rattle.ats_schedule.specs.Releases.{last_time, ports_with}
use Rattle.ats_schedule.specs.declared.fault.ScheduleFault.{ScheduleFault}
use Rattle.ats_schedule.specs.declared.fault.ScheduleFault.TheVariants.{BadRow, UnknownName, BadNumber, BadSize}
use Rattle.ats_schedule.specs.declared.fault.ScheduleFault.TheVariants.{TimeBack, Limit}

-- the first record of a schedule file
unfoldable pub header : List (List ℕ)
header = codes "at_ps" ∷ codes "sender" ∷ codes "octets" ∷ []

-- the number of the sender that a text names, if it names one
abbrev pub sender_named : DeclaredNetwork → List ℕ → Option ℕ
sender_named network text = option_and_then (λ name. place_of name (names_of (senders_of network))) (name_of text)

-- the sender that a text in record n names
abbrev pub sender_in : DeclaredNetwork → ℕ → List ℕ → Result ℕ ScheduleFault
sender_in network n text = or_fault (UnknownName n) (sender_named network text)

-- the number that a text in record n writes
abbrev pub number_in : ℕ → List ℕ → Result ℕ ScheduleFault
number_in n text = or_fault (BadNumber n) (number_of text)

-- these octets, where they make a frame
abbrev pub in_size : ℕ → ℕ → Result ℕ ScheduleFault
in_size n octets = ok_where (nat_le MIN_OCTETS octets && nat_le octets MAX_OCTETS) (BadSize n) octets

-- this time, where it is not before the last one
abbrev pub in_order : ℕ → ℕ → ℕ → Result ℕ ScheduleFault
in_order n last at = ok_where (nat_le last at) (TimeBack n) at

-- this time, where it is within the greatest, and where a run may have more than so many frames, and frames with so
-- many ports
abbrev pub within_limits : ℕ → ℕ → ℕ → ℕ → Result ℕ ScheduleFault
within_limits n count ports at =
    ok_where (nat_le at MAX_RELEASE_PS && nat_lt count MAX_FRAMES && nat_le ports MAX_HOPS) (Limit n) at

-- the number of the record behind those of the header and of these releases
abbrev pub record_after : List Release → ℕ
record_after releases = length releases + 2

-- the release that three fields write behind these releases: the sender is looked up first, then both numbers are
-- read, then come the size, the time against the release before, and the limits
unfoldable pub release_after : DeclaredNetwork → List Release → List (List ℕ) → Result Release ScheduleFault
release_after network releases fields = do
  sender ← sender_in network (record_after releases) (field_of fields 1)
  at ← number_in (record_after releases) (field_of fields 0)
  octets ← number_in (record_after releases) (field_of fields 2)
  size ← in_size (record_after releases) octets
  later ← in_order (record_after releases) (last_time releases) at
  time ← within_limits (record_after releases) (length releases) (ports_with network releases sender) later
  Ok (record { at = record { 0 = time }; sender = sender; octets = size })

-- these releases, and those of further records, each with three fields; or the first fault
abbrev pub releases_from : DeclaredNetwork → List Release → List (List (List ℕ)) → Result (List Release) ScheduleFault
releases_from network releases [] = Ok releases
releases_from network releases (fields ∷ records) =
    ok_where (length fields == 3) (BadRow (record_after releases)) fields
    >>= λ three. release_after network releases three
    >>= λ release. releases_from network (releases ++ release ∷ []) records

-- the releases of the records after the header, which is record 1
abbrev pub releases_under : DeclaredNetwork → List (List (List ℕ)) → Result (List Release) ScheduleFault
releases_under network [] = Err (BadRow 1)
releases_under network (first ∷ records) = if same_fields first header then releases_from network [] records
    else Err (BadRow 1)

-- the releases that a schedule file declares for the senders of a network, or its first fault
abbrev pub releases_of : DeclaredNetwork → List ℕ → Result (List Release) ScheduleFault
releases_of network bytes = releases_under network (records_of bytes)
