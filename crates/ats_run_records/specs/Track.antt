-- A leg of which the hop records are told one after another.
use Rattle.std.specs.Prelude.{ℕ, ◌-◌, List, [], ◌∷◌, ◌++◌, length, slice_index_or, slice_set, Some}
use Rattle.ats_trace.specs.HopRecord.{HopRecord}
use Rattle.ats_trace.specs.declared.journey.Ending.{Ending}
use Rattle.ats_run_records.specs.Progress.{no_hop}
use Rattle.ats_run_records.specs.declared.told.Told.{Told}
use Rattle.ats_run_records.specs.declared.told.Told.TheVariants.{Came, Sent}

-- what has happened along a leg: its number, how many hop records there may be along it, those that there are, and how
-- it ended
pub record Along : Type 0 where
  pub leg : ℕ
  pub room : ℕ
  pub hops : List HopRecord
  pub ending : Ending

-- the last of these records
abbrev pub last_in : List HopRecord → HopRecord
last_in hops = slice_index_or hops (length hops - 1) no_hop

-- the records when this is told next
abbrev pub hops_next : List HopRecord → Told → List HopRecord
hops_next hops (Came hop) = hops ++ hop ∷ []
hops_next hops (Sent start end) =
    slice_set hops (length hops - 1) (record (last_in hops) { sent = Some (start, end) })

-- and when all of this is
abbrev pub hops_after : List HopRecord → List Told → List HopRecord
hops_after hops [] = hops
hops_after hops (next ∷ told) = hops_after (hops_next hops next) told
