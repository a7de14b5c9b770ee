use Rattle.std.proofs.Common.{◌≡◌, ℕ, zero, suc, ◌<◌, ◌⊎◌, inl, inr, Bool, true, List, [], ◌∷◌}
use Rattle.std.proofs.Common.{cond, Option, Some, None, Result, Ok, Err, refl, ap, ◌∙◌, arith}
use Rattle.std.specs.Prelude.{nat_lt, option_and_then}
use Rattle.std.specs.List.{list_all}
use Rattle.std.proofs.lemmas.List.Elements.{All-cons, All-nil}
use Rattle.std.specs.Str.{IsAscii}
use Rattle.std.proofs.lemmas.Bool.{and_parts}
use Rattle.std.proofs.lemmas.Str.{IsUtf8-from_ascii}
use Rattle.toml.specs.Data.{Members}
use Rattle.toml.specs.Parse.{parse_document}
use Rattle.ats_num.specs.Failure.{◌>>=◌, ok_where, or_fault, unless}
use Rattle.ats_topology.specs.Topology.{DeclaredTopology}
use Rattle.ats_network.specs.Network.{DeclaredNetwork}
use Rattle.ats_network.specs.Path.{IsValidPath}
use Rattle.ats_network.specs.Pushes.{flow_push_fault, stream_push_fault, with_flow, with_stream}
use Rattle.ats_network.proofs.PathTests.{valid_or_not}
use Rattle.ats_network_table.specs.declared.fault.DocumentFault.{DocumentFault}
use Rattle.ats_network_table.specs.declared.format.Format.{Format}
use Rattle.ats_network_table.specs.Walk.{top_of}
use Rattle.ats_network_table.specs.declared.fault.DocumentFault.TheVariants.{NotToml}
use Rattle.ats_network_toml.specs.Document as file
use Rattle.ats_network_toml.specs.Reading.{arrays_in, document_in, document_of, format_in, tree_of}
use Rattle.ats_network_toml.proofs.Trees.{utf8_tree}
use Rattle.ats_network_file.specs.Reading.{network_in, network_of, tables_of}
use Rattle.ats_network_file.specs.Routes.{holds, is_valid, may_declare, path_of, ports_of, ports_of_each}
use Rattle.ats_network_file.specs.Senders.{all_added, flow_added, flow_made, flow_over, legs_in, path_in, refusal_of}
use Rattle.ats_network_file.specs.Senders.{stream_added, stream_made, stream_over}
use Rattle.ats_network_file.specs.declared.fault.NetFault.{NetFault}
use Rattle.ats_network_file.specs.declared.fault.NetFault.TheVariants.{BadPath}
use Rattle.ats_network_file.specs.declared.senders.Place.{Place}
use Rattle.ats_network_file.specs.declared.senders.SenderTable.TheVariants.{Flow, Stream}
use Rattle.ats_network_file.proofs.LegsFound.{legs_are}
use Rattle.ats_route_tree.specs.Legs.{DeclaredLegs}

-- How a text of TOML and the tables in it are read, step by step, where that does not compute.

-- a text of ASCII is UTF-8
abbrev pub is_ascii : List ℕ → Bool
is_ascii text = list_all (λ b. nat_lt b 128) text

ascii_by : (text : List ℕ) → is_ascii text ≡ true → IsAscii text
ascii_by [] h i = omega arith
ascii_by (b ∷ text) h zero = let parts = and_parts (nat_lt b 128) (is_ascii text) h in below b parts.0
  where
    below : (n : ℕ) → nat_lt n 128 ≡ true → n < 128
    below n k = grind arith
ascii_by (b ∷ text) h (suc i) = let parts = and_parts (nat_lt b 128) (is_ascii text) h in ascii_by text parts.1 i

-- what the tables of a text declare, where `toml` reads some
abbrev pub declared_by : Option Members → Result file.DeclaredDocument DocumentFault
declared_by tree = or_fault NotToml tree >>= document_in

pub document_is : (text : List ℕ) (due : Result file.DeclaredDocument DocumentFault) → is_ascii text ≡ true
    → declared_by (parse_document text) ≡ due → document_of text ≡ due
document_is text due ascii is =
    ap declared_by (utf8_tree text (IsUtf8-from_ascii text (ascii_by text ascii))) ∙ is

-- the tables of a text, and its format, where `toml` reads it
pub tree_is : (text : List ℕ) (due : Option Members) → is_ascii text ≡ true → parse_document text ≡ due
    → tree_of text ≡ due
tree_is text due ascii is = utf8_tree text (IsUtf8-from_ascii text (ascii_by text ascii)) ∙ is

abbrev pub format_by : Option Members → Result Format DocumentFault
format_by tree =
    or_fault NotToml tree
    >>= λ tree. arrays_in (top_of tree)
    >>= λ arrays. Ok arrays.format

pub format_is : (text : List ℕ) (due : Result Format DocumentFault) → is_ascii text ≡ true
    → format_by (parse_document text) ≡ due → format_in text ≡ due
format_is text due ascii is = ap format_by (utf8_tree text (IsUtf8-from_ascii text (ascii_by text ascii))) ∙ is

-- and the network that they make
pub network_is : (text : List ℕ) (document : file.DeclaredDocument) (due : Result DeclaredNetwork NetFault)
    → document_of text ≡ Ok document → network_in document ≡ due → network_of text ≡ due
network_is text document due is made =
    ap (λ (d : Result file.DeclaredDocument DocumentFault). tables_of d >>= network_in) is ∙ made

-- a route with ports that make a valid path
valid_is : (topology : DeclaredTopology) (path : List ℕ) → IsValidPath topology path → is_valid topology path ≡ true
valid_is topology path valid = either (valid_or_not topology path)
  where
    either : (decided : IsValidPath topology path ⊎ ¬ IsValidPath topology path) → holds decided ≡ true
    either (inl is) = refl
    either (inr never) = absurd (never valid)

pub path_is : (format : Format) (topology : DeclaredTopology) (n : Place) (route : file.DeclaredRoute) (path : List ℕ)
    → ports_of topology route ≡ Some path → may_declare format topology (path ∷ []) ≡ true
    → IsValidPath topology path → path_in format topology n route ≡ Ok path
path_is format topology n route path ports may valid =
    ap (λ (o : Option (List ℕ)). or_fault (BadPath n.table n.number) o
    >>= λ found. ok_where (is_valid topology found) (BadPath n.table n.number) found >>= declared) ports
    ∙ ap (λ (passes : Bool). ok_where {F = NetFault} passes (BadPath n.table n.number) path >>= declared)
    (valid_is topology path valid)
    ∙ ap (λ (passes : Bool). ok_where {F = NetFault} passes (BadPath n.table n.number) path) may
  where
    declared : List ℕ → Result (List ℕ) NetFault
    declared found = ok_where (may_declare format topology (found ∷ [])) (BadPath n.table n.number) found

pub path_of_is : (topology : DeclaredTopology) (route : file.DeclaredRoute) (path : List ℕ)
    → ports_of topology route ≡ Some path → IsValidPath topology path → path_of topology route ≡ Some path
path_of_is topology route path ports valid =
    let chosen : Bool → List ℕ → Option (List ℕ) = λ passes found. cond passes (Some found) None in
    ap (λ (o : Option (List ℕ)). option_and_then (λ found. chosen (is_valid topology found) found) o) ports
    ∙ ap (λ (passes : Bool). chosen passes path) (valid_is topology path valid)

-- the legs of one route are its path
abbrev pub one_leg : List ℕ → DeclaredLegs
one_leg path = record { ports = path; branches = [] }

pub legs_is : (format : Format) (topology : DeclaredTopology) (n : Place) (routes : List file.DeclaredRoute)
    (path : List ℕ)
    → ports_of_each topology routes ≡ Some (path ∷ []) → may_declare format topology (path ∷ []) ≡ true
    → IsValidPath topology path → legs_in format topology n routes ≡ Ok (one_leg path)
legs_is format topology n routes path ports may valid =
    legs_are format topology n routes (path ∷ []) (one_leg path) ports
    (All-cons (IsValidPath topology) path [] valid (All-nil (IsValidPath topology))) refl may

-- where the entry of a stream, or of a flow, with this number stands
abbrev pub at_stream : ℕ → Place
at_stream n = record { table = Stream; number = n }

abbrev pub at_flow : ℕ → Place
at_flow n = record { table = Flow; number = n }

-- one sender more
pub one_more : {E : Type 0} (added : DeclaredNetwork → Place → E → Result DeclaredNetwork NetFault)
    (network next : DeclaredNetwork) (n : Place) (entry : E) (entries : List (Place × E))
    → added network n entry ≡ Ok next
    → all_added added network ((n, entry) ∷ entries) ≡ all_added added next entries
one_more added network next n entry entries is =
    ap (λ (due : Result DeclaredNetwork NetFault). due >>= λ more. all_added added more entries) is

-- a stream over legs, and a flow over a path
pub stream_is : (format : Format) (network : DeclaredNetwork) (n : Place) (entry : file.DeclaredStream)
    (legs : DeclaredLegs) (due : Result DeclaredNetwork NetFault)
    → legs_in format network.topology n entry.routes ≡ Ok legs
    → (stream_made network.topology network.most_ports n entry (stream_over legs entry)
    >>= λ stream. unless (refusal_of n) (stream_push_fault network stream) (with_stream network stream)) ≡ due
    → stream_added format network n entry ≡ due
stream_is format network n entry legs due found made =
    ap (λ (r : Result DeclaredLegs NetFault). r
    >>= λ found. stream_made network.topology network.most_ports n entry (stream_over found entry)
    >>= λ stream. unless (refusal_of n) (stream_push_fault network stream) (with_stream network stream)) found
    ∙ made

pub flow_is : (format : Format) (network : DeclaredNetwork) (n : Place) (entry : file.DeclaredFlow) (path : List ℕ)
    (due : Result DeclaredNetwork NetFault) → path_in format network.topology n entry.route ≡ Ok path
    → (flow_made network.most_ports n (flow_over path entry)
    >>= λ flow. unless (refusal_of n) (flow_push_fault network flow) (with_flow network flow)) ≡ due
    → flow_added format network n entry ≡ due
flow_is format network n entry path due found made =
    ap (λ (r : Result (List ℕ) NetFault). r >>= λ found. flow_made network.most_ports n (flow_over found entry)
    >>= λ flow. unless (refusal_of n) (flow_push_fault network flow) (with_flow network flow)) found
    ∙ made

-- no further sender, where one has a fault
pub none_more : {E : Type 0} (added : DeclaredNetwork → Place → E → Result DeclaredNetwork NetFault)
    (network : DeclaredNetwork) (n : Place) (entry : E) (entries : List (Place × E)) (fault : NetFault)
    → added network n entry ≡ Err fault → all_added added network ((n, entry) ∷ entries) ≡ Err fault
none_more added network n entry entries fault is =
    ap (λ (due : Result DeclaredNetwork NetFault). due >>= λ more. all_added added more entries) is
