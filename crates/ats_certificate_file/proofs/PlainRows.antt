-- The fields that a row is written with are plain.
use Rattle.std.proofs.Common.{ℕ, ◌<◌, List, [], ◌∷◌, ◌++◌, length}
use Rattle.std.proofs.Common.{refl, arith, lit<}
use Rattle.std.specs.Prelude.{decimal}
use Rattle.std.specs.List.{All}
use Rattle.std.proofs.lemmas.List.Elements.{All-append, All-cons, All-nil}
use Rattle.ats_topology.specs.Topology.{DeclaredTopology, no_node, node_at, ports_of, topology_of}
use Rattle.ats_topology.specs.Port.{no_port, port_at}
use Rattle.ats_topology.specs.declared.node.Node.{Node}
use Rattle.ats_topology.specs.declared.link.Link.{Link}
use Rattle.ats_topology.proofs.Rules.{topology_rules, ports_are_lawful}
use Rattle.ats_port_names.specs.Laws.{AreSound}
use Rattle.ats_port_names.specs.PortName.{port_name}
use Rattle.ats_csv.proofs.PlainFields.{plain_name, plain_number, plain_words}
use Rattle.ats_csv.specs.Plain.{IsPlain, IsPlainByte}
use Rattle.ats_certificate.specs.Form.{IsRow}
use Rattle.ats_certificate.specs.declared.row.Row.{Row}
use Rattle.ats_certificate_file.specs.Reading.{header}
use Rattle.ats_certificate_file.specs.Text.{fields_of}

-- names of ports are plain
plain_port : (nodes : List Node) (links : List Link) → AreSound nodes links → (p : ℕ)
    → p < length (ports_of nodes links)
    → All IsPlainByte (port_name (topology_of nodes links) p)
plain_port nodes links sound p within =
    let port = port_at (ports_of nodes links) p in
    let topology : DeclaredTopology = topology_of nodes links in
    let lawful = ports_are_lawful topology (topology_rules nodes links sound.sound) in
    let between = (lawful.each p no_port within).between in
    let from = plain_name (node_at nodes port.from).name (sound.names port.from no_node between.from) in
    let to = plain_name (node_at nodes port.to).name (sound.names port.to no_node between.to) in
    let sign : IsPlainByte 62 = record {
      ascii = lit< tt;
      no_comma = λ e. cc e;
      no_quote = λ e. cc e;
      no_return = λ e. cc e;
      no_feed = λ e. cc e;
    } in
    All-append IsPlainByte ((node_at nodes port.from).name ++ 62 ∷ []) (node_at nodes port.to).name
    (All-append IsPlainByte (node_at nodes port.from).name (62 ∷ []) from
    (All-cons IsPlainByte 62 [] sign (All-nil IsPlainByte))) to

-- and the fields of a row
pub plain_row : (nodes : List Node) (links : List Link) → AreSound nodes links → (row : Row) → IsRow row
    → row.port < length (ports_of nodes links)
    → IsPlain (fields_of (topology_of nodes links) row)
plain_row nodes links sound row is within =
    let one = decimal row.bound ∷ [] in
    let two = decimal row.wait ∷ one in
    let three = decimal row.least ∷ two in
    let four = decimal row.lower ∷ three in
    let five = decimal row.bursts ∷ four in
    let six = decimal row.equal ∷ five in
    let seven = decimal row.higher ∷ six in
    let eight = decimal row.class ∷ seven in
    record {
      bytes =
          next (port_name (topology_of nodes links) row.port) eight (plain_port nodes links sound row.port within)
          (next (decimal row.class) seven (plain_number row.class (omega arith))
          (next (decimal row.higher) six (plain_number row.higher is.higher)
          (next (decimal row.equal) five (plain_number row.equal is.equal)
          (next (decimal row.bursts) four (plain_number row.bursts is.bursts)
          (next (decimal row.lower) three (plain_number row.lower (omega arith))
          (next (decimal row.least) two (plain_number row.least (omega arith))
          (next (decimal row.wait) one (plain_number row.wait is.wait)
          (next (decimal row.bound) [] (plain_number row.bound is.bound)
          (All-nil (All IsPlainByte))))))))));
      some = λ e. cc e;
      visible = λ e. cc e;
    }
  where
    next : (field : List ℕ) (fields : List (List ℕ)) → All IsPlainByte field → All (All IsPlainByte) fields
        → All (All IsPlainByte) (field ∷ fields)
    next field fields first others = All-cons (All IsPlainByte) field fields first others

-- and those of the header
pub plain_header : IsPlain header
unfolding header
plain_header = record {
  bytes = plain_words header refl;
  some = λ e. cc e;
  visible = λ e. cc e;
}
