use Rattle.std.specs.Prelude.{◌≡◌, ◌<◌, List, length, All, Ok}
use Rattle.ats_topology.specs.Topology.{ports_of, topology_of}
use Rattle.ats_topology.specs.declared.node.Node.{Node}
use Rattle.ats_topology.specs.declared.link.Link.{Link}
use Rattle.ats_port_names.specs.Laws.{AreSound}
use Rattle.ats_certificate.specs.Form.{AreRows}
use Rattle.ats_certificate.specs.declared.row.Row.{Row}
use Rattle.ats_certificate_file.specs.Reading.{rows_of}
use Rattle.ats_certificate_file.specs.Text.{certificate_text}

-- what is read from the text of a certificate are its rows, where each is of a port of the topology
abbrev pub CertificateReadsBack : Type 0
CertificateReadsBack = (nodes : List Node) (links : List Link) → AreSound nodes links
    → (rows : List Row) → AreRows rows → All (λ (row : Row). row.port < length (ports_of nodes links)) rows
    → rows_of (topology_of nodes links) (certificate_text (topology_of nodes links) rows) ≡ Ok rows
