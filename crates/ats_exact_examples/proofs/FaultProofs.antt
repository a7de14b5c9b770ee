use Rattle.std.proofs.Common.{◌≡◌, ℕ, ◌+◌, Bool, true, false, List, [], ◌∷◌, ◌++◌, length, Result, Ok}
use Rattle.std.proofs.Common.{Err, refl, sym, ◌∙◌, ap}
use Rattle.std.proofs.Common.{arith, length-append}
use Rattle.std.specs.Prelude.{◌==◌}
use Rattle.std.proofs.lemmas.Bool.{false≢true}
use Rattle.ats_num.specs.Failure.{◌>>=◌, ok_where}
use Rattle.ats_topology.specs.Topology.{DeclaredTopology}
use Rattle.ats_network.specs.Network.{DeclaredNetwork}
use Rattle.ats_csv.specs.Reading.{same_fields}
use Rattle.ats_certificate_file.specs.Reading.{header, row_after, rows_from, rows_under}
use Rattle.ats_certificate_file.specs.declared.fault.CertFault.TheVariants as row
use Rattle.ats_schedule.specs.Reading.{header as release_header, record_after, release_after, releases_from}
use Rattle.ats_schedule.specs.Reading.{releases_under}
use Rattle.ats_schedule.specs.declared.fault.ScheduleFault.TheVariants as wrong
use Rattle.ats_exact_examples.specs.Faults.{TellsFirst, FaultsAreFirst, next_row, next_release}

-- The first fault of records.

abbrev Records : Type 0
Records = List (List (List ℕ))

-- steps may be joined
joined : {A B C F : Type 0} (r : Result A F) (f : A → Result B F) (g : B → Result C F)
    → ((r >>= f) >>= g) ≡ (r >>= (λ x. f x >>= g))
joined (Ok x) f g = refl
joined (Err e) f g = refl

-- whether a result is a value
abbrev is_value : {A F : Type 0} → Result A F → Bool
is_value (Ok x) = true
is_value (Err e) = false

-- the fault of a result, or this one
abbrev fault_in : {A F : Type 0} → F → Result A F → F
fault_in other (Ok x) = other
fault_in other (Err e) = e

module _ {V F : Type 0} (whole : List V → ℕ → Records → Result (List V) F)
    (next : List V → ℕ → List (List ℕ) → Result V F)
    (none : (values : List V) (n : ℕ) → whole values n [] ≡ Ok values)
    (one : (values : List V) (n : ℕ) (fields : List (List ℕ)) (records : Records)
    → whole values n (fields ∷ records)
    ≡ (next values n fields >>= λ value. whole (values ++ value ∷ []) (n + 1) records)) where
  -- the first fault behind these values, from record n on
  record IsFaultFrom (values : List V) (n : ℕ) (records : Records) (fault : F) : Type 0 where
    front : Records
    read : List V
    faulty : List (List ℕ)
    back : Records
    parts : records ≡ front ++ faulty ∷ back
    before : whole values n front ≡ Ok read
    counted : length read ≡ length front + length values
    there : next read (length front + n) faulty ≡ Err fault

  found : (values : List V) (n : ℕ) (records : Records) (fault : F) → whole values n records ≡ Err fault
      → IsFaultFrom values n records fault
  found values n [] fault h = absurd (false≢true (sym (ap is_value (sym (none values n) ∙ h))))
  found values n (fields ∷ records) fault h =
      by (λ more. found more (n + 1) records fault) (next values n fields) refl
      (sym (one values n fields records) ∙ h)
    where
      by : ((more : List V) → whole more (n + 1) records ≡ Err fault → IsFaultFrom more (n + 1) records fault)
          → (r : Result V F) → next values n fields ≡ r
          → (r >>= λ value. whole (values ++ value ∷ []) (n + 1) records) ≡ Err fault
          → IsFaultFrom values n (fields ∷ records) fault
      by later (Err e) same told = record {
        front = [];
        read = values;
        faulty = fields;
        back = records;
        parts = refl;
        before = none values n;
        counted = omega arith;
        there = ap (λ m. next values m fields) (let number : 0 + n ≡ n = omega arith in number) ∙ same
            ∙ ap Err (ap (fault_in fault) told);
      }
      by later (Ok value) same told =
          let rest : IsFaultFrom (values ++ value ∷ []) (n + 1) records fault
          = later (values ++ value ∷ []) told in
          record {
            front = fields ∷ rest.front;
            read = rest.read;
            faulty = rest.faulty;
            back = rest.back;
            parts = ap (λ t. fields ∷ t) rest.parts;
            before = one values n fields rest.front
                ∙ ap (λ r. r >>= λ value. whole (values ++ value ∷ []) (n + 1) rest.front) same ∙ rest.before;
            counted = omega (arith, rest.counted, length-append values (value ∷ []));
            there = ap (λ m. next rest.read m rest.faulty)
                (let number : length (fields ∷ rest.front) + n ≡ length rest.front + (n + 1) = omega arith in number)
                ∙ rest.there;
          }

  -- what is read in front is read on
  along : (values : List V) (n : ℕ) (front rest : Records)
      → whole values n (front ++ rest)
      ≡ (whole values n front >>= λ read. whole read (length front + n) rest)
  along values n [] rest =
      ap (λ m. whole values m rest) (let number : n ≡ 0 + n = omega arith in number)
      ∙ ap (λ r. r >>= λ read. whole read (0 + n) rest) (sym (none values n))
  along values n (fields ∷ front) rest =
      one values n fields (front ++ rest) ∙ by (λ more. along more (n + 1) front rest) (next values n fields)
      ∙ ap (λ r. r >>= λ read. whole read (length (fields ∷ front) + n) rest) (sym (one values n fields front))
    where
      by : ((more : List V) → whole more (n + 1) (front ++ rest)
          ≡ (whole more (n + 1) front >>= λ read. whole read (length front + (n + 1)) rest))
          → (r : Result V F) → (r >>= λ value. whole (values ++ value ∷ []) (n + 1) (front ++ rest))
          ≡ ((r >>= λ value. whole (values ++ value ∷ []) (n + 1) front)
          >>= λ read. whole read (length (fields ∷ front) + n) rest)
      by later (Err e) = refl
      by later (Ok value) =
          later (values ++ value ∷ [])
          ∙ ap (λ m. whole (values ++ value ∷ []) (n + 1) front >>= λ read. whole read m rest)
          (let number : length front + (n + 1) ≡ length (fields ∷ front) + n = omega arith in number)

  tells_first : TellsFirst (whole [] 2) next
  tells_first records fault = (
    λ told.
        let f : IsFaultFrom [] 2 records fault = found [] 2 records fault told in
        record {
          front = f.front;
          values = f.read;
          faulty = f.faulty;
          back = f.back;
          parts = f.parts;
          before = f.before;
          counted = omega (arith, f.counted);
          there = f.there;
        },
    λ is.
        ap (whole [] 2) is.parts ∙ along [] 2 is.front (is.faulty ∷ is.back)
        ∙ ap (λ r. r >>= λ read. whole read (length is.front + 2) (is.faulty ∷ is.back)) is.before
        ∙ one is.values (length is.front + 2) is.faulty is.back
        ∙ ap (λ r. r >>= λ value. whole (is.values ++ value ∷ []) (length is.front + 2 + 1) is.back) is.there,
  )

rows_tell_first : (topology : DeclaredTopology)
    → TellsFirst (λ records. rows_under topology (header ∷ records)) (next_row topology)
unfolding same_fields header
rows_tell_first topology =
    tells_first (rows_from topology) (next_row topology) (λ rows n. refl)
    (λ rows n fields records. sym (joined (ok_where (length fields == 9) (row.BadRow n) fields)
    (row_after topology rows n) (λ row. rows_from topology (rows ++ row ∷ []) (n + 1) records)))

releases_tell_first : (network : DeclaredNetwork)
    → TellsFirst (λ records. releases_under network (release_header ∷ records)) (next_release network)
unfolding same_fields release_header
releases_tell_first network =
    tells_first (λ releases n records. releases_from network releases records) (next_release network)
    (λ releases n. refl)
    (λ releases n fields records. sym (joined
    (ok_where (length fields == 3) (wrong.BadRow (record_after releases)) fields) (release_after network releases)
    (λ release. releases_from network (releases ++ release ∷ []) records)))

pub faults_are_first : FaultsAreFirst
faults_are_first = record {
  rows = rows_tell_first;
  releases = releases_tell_first;
}
