use Rattle.std.specs.Prelude.{◌≡◌, ℕ, List, [], ◌∷◌, codes, Err, if◌then◌else◌}
use Rattle.ats_topology.specs.Topology.{DeclaredTopology}
use Rattle.ats_network.specs.Network.{DeclaredNetwork}
use Rattle.ats_csv.specs.Reading.{same_fields}
use Rattle.ats_certificate_file.specs.Reading.{rows_from, rows_under}
use Rattle.ats_certificate_file.specs.declared.fault.CertFault.TheVariants.{BadRow as BadHeader}
use Rattle.ats_schedule.specs.Reading.{releases_from, releases_under}
use Rattle.ats_schedule.specs.declared.fault.ScheduleFault.TheVariants.{BadRow}

-- where the first record of a certificate has its nine columns by their names, its rows are those of the records from
-- record 2 on; and with any other first record, record 1 is at fault
pub record CertificatesAreRead : Type 0 where
  pub first : (topology : DeclaredTopology) (first : List (List ℕ)) (records : List (List (List ℕ)))
      → rows_under topology (first ∷ records)
      ≡ (if same_fields first (codes "port" ∷ codes "class" ∷ codes "higher" ∷ codes "equal" ∷ codes "bursts"
      ∷ codes "lower" ∷ codes "least" ∷ codes "wait" ∷ codes "bound" ∷ [])
      then rows_from topology [] 2 records else Err (BadHeader 1))

-- and so are the releases of a schedule, whose first record has its three columns
pub record SchedulesAreRead : Type 0 where
  pub first : (network : DeclaredNetwork) (first : List (List ℕ)) (records : List (List (List ℕ)))
      → releases_under network (first ∷ records)
      ≡ (if same_fields first (codes "at_ps" ∷ codes "sender" ∷ codes "octets" ∷ [])
      then releases_from network [] records else Err (BadRow 1))

pub record TableHeadsAreRead : Type 0 where
  pub certificates : CertificatesAreRead
  pub schedules : SchedulesAreRead
