use Rattle.std.specs.Prelude.{ℕ, List, [], ◌∷◌, map, decimal}
use Rattle.ats_topology.specs.Topology.{DeclaredTopology}
use Rattle.ats_port_names.specs.PortName.{port_name}
use Rattle.ats_csv.specs.Plain.{text_of}
use Rattle.ats_certificate.specs.declared.row.Row.{Row}
use Rattle.ats_certificate_file.specs.Reading.{header}

-- the fields that a row is written with
abbrev pub fields_of : DeclaredTopology → Row → List (List ℕ)
fields_of topology row =
    port_name topology row.port ∷ decimal row.class ∷ decimal row.higher ∷ decimal row.equal ∷ decimal row.bursts
    ∷ decimal row.lower
    ∷ decimal row.least ∷ decimal row.wait ∷ decimal row.bound ∷ []

-- the plain text of a certificate: the header, and a record for each row
abbrev pub certificate_text : DeclaredTopology → List Row → List ℕ
certificate_text topology rows = text_of (header ∷ map (fields_of topology) rows)
