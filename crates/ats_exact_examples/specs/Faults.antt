use Rattle.std.specs.Prelude.{◌≡◌, ℕ, ◌+◌, ◌==◌, List, ◌∷◌, ◌++◌, length, Result, Ok, Err}
use Rattle.ats_num.specs.Failure.{◌>>=◌, ok_where}
use Rattle.ats_topology.specs.Topology.{DeclaredTopology}
use Rattle.ats_network.specs.Network.{DeclaredNetwork}
use Rattle.ats_certificate.specs.declared.row.Row.{Row}
use Rattle.ats_certificate_file.specs.Reading.{header, row_after, rows_under}
use Rattle.ats_certificate_file.specs.declared.fault.CertFault.{CertFault}
use Rattle.ats_certificate_file.specs.declared.fault.CertFault.TheVariants as row
use Rattle.ats_trace.specs.declared.journey.Release.{Release}
use Rattle.ats_schedule.specs.Reading.{header as release_header, record_after, release_after, releases_under}
use Rattle.ats_schedule.specs.declared.fault.ScheduleFault.{ScheduleFault}
use Rattle.ats_schedule.specs.declared.fault.ScheduleFault.TheVariants as wrong

-- The first fault of a file of records, as a relation.

-- of the records behind the header those in front are read, and the next one has this fault: what reads all of them,
-- and what reads the next one, by its number, behind the values of those before it. The header is record 1
pub record IsFirstFault {V F : Type 0} (read : List (List (List ℕ)) → Result (List V) F)
    (next : List V → ℕ → List (List ℕ) → Result V F) (records : List (List (List ℕ))) (fault : F) : Type 0 where
  pub front : List (List (List ℕ))
  pub values : List V
  pub faulty : List (List ℕ)
  pub back : List (List (List ℕ))
  pub parts : records ≡ front ++ faulty ∷ back
  pub before : read front ≡ Ok values
  pub counted : length values ≡ length front
  pub there : next values (length front + 2) faulty ≡ Err fault

-- the fault that is told is the first one, and the first one is told
abbrev pub TellsFirst : {V F : Type 0} → (List (List (List ℕ)) → Result (List V) F)
    → (List V → ℕ → List (List ℕ) → Result V F) → Type 0
TellsFirst {F = F} read next = (records : List (List (List ℕ))) (fault : F)
    → (read records ≡ Err fault → IsFirstFault read next records fault)
    × (IsFirstFault read next records fault → read records ≡ Err fault)

-- what record n alone gives behind these rows: nine fields, and a row that they write
abbrev pub next_row : DeclaredTopology → List Row → ℕ → List (List ℕ) → Result Row CertFault
next_row topology rows n fields =
    ok_where (length fields == 9) (row.BadRow n) fields >>= row_after topology rows n

-- and behind these releases: three fields, and a release
abbrev pub next_release : DeclaredNetwork → List Release → ℕ → List (List ℕ) → Result Release ScheduleFault
next_release network releases n fields =
    ok_where (length fields == 3) (wrong.BadRow (record_after releases)) fields >>= release_after network releases

-- the first fault of certificates and of schedules. Refuses a reader that looks at anything of all records, as their
-- widths or names, before it has read the first one in full
pub record FaultsAreFirst : Type 0 where
  pub rows : (topology : DeclaredTopology)
      → TellsFirst (λ records. rows_under topology (header ∷ records)) (next_row topology)
  pub releases : (network : DeclaredNetwork)
      → TellsFirst (λ records. releases_under network (release_header ∷ records)) (next_release network)
