use Rattle.std.specs.Prelude.{◌≡◌, ◌≢◌, ℕ, List}
use Rattle.ats_io.specs.Memory.{next_count}
use Rattle.ats_system.specs.Words.{place_of, count_of}
use Rattle.ats_system.specs.declared.fault_counts.FaultCounts.{FaultCounts}

-- the count of faults of a name
abbrev pub faults_of : FaultCounts → List ℕ → ℕ
faults_of counts name = count_of counts.words.now counts.counts.items counts.others name

-- one fault more of this name; every name with another count keeps its own
pub record Raises (name : List ℕ) (old new : FaultCounts) : Type 0 where
  pub words : new.words.now ≡ old.words.now
  pub raised : faults_of new name ≡ next_count (faults_of old name)
  pub kept : (other : List ℕ) → place_of old.words.now other ≢ place_of old.words.now name
      → faults_of new other ≡ faults_of old other
