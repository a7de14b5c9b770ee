-- The text of a certificate with one row more.
use Rattle.std.proofs.Common.{◌≡◌, ◌∙◌, ℕ, ◌+◌, ◌<◌, List, [], ◌∷◌, ◌++◌, get_or, length, map, take, sym, ap}
use Rattle.std.proofs.Common.{append-nil}
use Rattle.std.proofs.lemmas.Grind.{flat_map-append}
use Rattle.std.proofs.lemmas.List.{map_more}
use Rattle.ats_topology.specs.Topology.{DeclaredTopology}
use Rattle.ats_csv.specs.Plain.{record_text, text_of}
use Rattle.ats_certificate.specs.declared.row.Row.{Row}
use Rattle.ats_certificate_file.specs.Reading.{header}
use Rattle.ats_certificate_file.specs.Text.{certificate_text, fields_of}

-- the text of a certificate without rows
pub no_row : (topology : DeclaredTopology) (rows : List Row) (text : List ℕ) → text ≡ [] ++ record_text header
    → text ≡ certificate_text topology (take 0 rows)
no_row topology rows text e = e ∙ sym (append-nil (record_text header))

-- the text with one row more
pub row_more : (topology : DeclaredTopology) (rows : List Row) (i : ℕ) (d : Row) → i < length rows
    → certificate_text topology (take (i + 1) rows)
    ≡ certificate_text topology (take i rows) ++ record_text (fields_of topology (get_or rows i d))
row_more topology rows i d within =
    rw (
      map_more (fields_of topology) rows i d within,
      flat_map-append record_text
          (header ∷ map (fields_of topology) (take i rows)) (fields_of topology (get_or rows i d) ∷ []),
    )
    (ap (λ text. text_of (header ∷ map (fields_of topology) (take i rows)) ++ text)
    (append-nil (record_text (fields_of topology (get_or rows i d)))))
