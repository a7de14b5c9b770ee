use Rattle.std.specs.Prelude.{◌≡◌, ℕ, List, [], ◌∷◌, ◌++◌, map, replicate, take, codes, Result, Err}
use Rattle.ats_certificate.specs.declared.row.Row.{Row}
use Rattle.ats_certificate_file.specs.Reading.{header as row_header, rows_under}
use Rattle.ats_certificate_file.specs.declared.fault.CertFault.{CertFault}
use Rattle.ats_certificate_file.specs.declared.fault.CertFault.TheVariants as row
use Rattle.ats_trace.specs.declared.journey.Release.{Release}
use Rattle.ats_schedule.specs.Reading.{header as release_header, releases_under}
use Rattle.ats_schedule.specs.declared.fault.ScheduleFault.{ScheduleFault}
use Rattle.ats_schedule.specs.declared.fault.ScheduleFault.TheVariants as release
use Rattle.ats_examples.specs.Networks.{line_and_flow}
use Rattle.ats_reading_examples.specs.Fields.{row_fields}

-- Headers with other columns than are due, though each that is due is there.

-- what is read of a certificate with one record, and of a schedule, each behind this header
abbrev pub rows_behind : List (List ℕ) → List (List ℕ) → Result (List Row) CertFault
rows_behind first fields = rows_under line_and_flow.topology (first ∷ fields ∷ [])

abbrev pub releases_behind : List (List ℕ) → List (List ℕ) → Result (List Release) ScheduleFault
releases_behind first fields = releases_under line_and_flow (first ∷ fields ∷ [])

abbrev pub release_fields : List (List ℕ)
release_fields = codes "0" ∷ codes "a" ∷ codes "64" ∷ []

-- what follows the due columns, or stands before them: a name, a name that is due already, and nothing
abbrev pub further : List (List ℕ)
further = codes "note" ∷ codes "bound" ∷ codes "octets" ∷ [] ∷ []

-- the last two columns of a certificate in the other order; and each order but the due one of a schedule's
abbrev pub turned_header : List (List ℕ)
turned_header = take 7 row_header ++ codes "bound" ∷ codes "wait" ∷ []

abbrev pub turned_headers : List (List (List ℕ))
turned_headers =
    (codes "at_ps" ∷ codes "octets" ∷ codes "sender" ∷ [])
    ∷ (codes "sender" ∷ codes "at_ps" ∷ codes "octets" ∷ []) ∷ (codes "sender" ∷ codes "octets" ∷ codes "at_ps" ∷ [])
    ∷ (codes "octets" ∷ codes "at_ps" ∷ codes "sender" ∷ []) ∷ (codes "octets" ∷ codes "sender" ∷ codes "at_ps" ∷ [])
    ∷ []

-- a certificate is refused by its header, whether records follow or not, where these are as wide. Refuses a header that
-- begins or ends with the due columns, or has them in any order, or has but the first of them
pub record RowColumnsAreExact : Type 0 where
  pub behind : map (λ column. rows_under line_and_flow.topology ((row_header ++ column ∷ []) ∷ [])) further
      ≡ replicate 4 (Err (row.BadRow 1))
  pub records_behind : map (λ column. rows_behind (row_header ++ column ∷ []) (row_fields ++ codes "1" ∷ [])) further
      ≡ replicate 4 (Err (row.BadRow 1))
  pub before : map (λ column. rows_behind (column ∷ row_header) (codes "1" ∷ row_fields)) further
      ≡ replicate 4 (Err (row.BadRow 1))
  pub turned : rows_under line_and_flow.topology (turned_header ∷ []) ≡ Err (row.BadRow 1)
  pub record_turned : rows_behind turned_header row_fields ≡ Err (row.BadRow 1)
  pub fewer : map (λ count. rows_under line_and_flow.topology (take count row_header ∷ []))
      (0 ∷ 1 ∷ 2 ∷ 3 ∷ 4 ∷ 5 ∷ 6 ∷ 7 ∷ 8 ∷ []) ≡ replicate 9 (Err (row.BadRow 1))

-- and so is a schedule
pub record ReleaseColumnsAreExact : Type 0 where
  pub behind : map (λ column. releases_under line_and_flow ((release_header ++ column ∷ []) ∷ [])) further
      ≡ replicate 4 (Err (release.BadRow 1))
  pub records_behind
      : map (λ column. releases_behind (release_header ++ column ∷ []) (release_fields ++ codes "1" ∷ [])) further
      ≡ replicate 4 (Err (release.BadRow 1))
  pub before : map (λ column. releases_behind (column ∷ release_header) (codes "1" ∷ release_fields)) further
      ≡ replicate 4 (Err (release.BadRow 1))
  pub turned : map (λ first. releases_under line_and_flow (first ∷ [])) turned_headers
      ≡ replicate 5 (Err (release.BadRow 1))
  pub fewer : map (λ count. releases_under line_and_flow (take count release_header ∷ [])) (0 ∷ 1 ∷ 2 ∷ [])
      ≡ replicate 3 (Err (release.BadRow 1))

pub record ColumnsAreExact : Type 0 where
  pub rows : RowColumnsAreExact
  pub releases : ReleaseColumnsAreExact
