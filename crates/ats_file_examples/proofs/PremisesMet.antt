use Rattle.std.proofs.Common.{◌≡◌, ◌≢◌, ◌<◌, ℕ, true, false, Option, List, [], ◌∷◌, length, Some, None, Result, Ok}
use Rattle.std.proofs.Common.{refl, sym, ◌∙◌, arith, ap, subst}
use Rattle.std.specs.Prelude.{codes, nat_lt, option_and_then, pos}
use Rattle.std.specs.Option.{option_map}
use Rattle.std.specs.Str.{bytes_eq}
use Rattle.std.specs.List.{All, AllPairs, list_all}
use Rattle.std.proofs.lemmas.List.Elements.{All-cons, All-from_recursion, All-nil}
use Rattle.std.proofs.lemmas.List.Kept.{AllPairs-cons}
use Rattle.std.proofs.lemmas.Bool.Decides.{nat_tests}
use Rattle.toml.specs.Data.{Data, Members, as_array, array, integer, item, member, no_items, no_members, string, table}
use Rattle.ats_num.specs.Name.{is_name}
use Rattle.ats_num.specs.Places.{place_of}
use Rattle.ats_topology.specs.Node.{names_of}
use Rattle.ats_topology.specs.Topology.{DeclaredTopology, IsStationAt, ports_of}
use Rattle.ats_topology.specs.declared.node.Node.{Node}
use Rattle.ats_network_table.specs.declared.fault.DocumentFault.{DocumentFault}
use Rattle.ats_network_table.specs.declared.format.Format.{Format}
use Rattle.ats_network_table.specs.declared.format.Format.TheVariants.{One, Three, Two}
use Rattle.ats_network_toml.specs.Document as file
use Rattle.ats_network_toml.specs.Reading.{format_in, tree_of}
use Rattle.ats_network_file.specs.Routes.{path_of}
use Rattle.ats_network_file_law.specs.Formats.{AreOfOneMeaning, SaysNoClock, SaysNothingNew}
use Rattle.ats_network_file_law.specs.OneListener.{AreWrittenByPath, IsWrittenByPath}
use Rattle.ats_network_file_law.specs.Several.{IsStationNamed}
use Rattle.ats_certificate.specs.Certificate.{IsBefore}
use Rattle.ats_certificate.specs.Form.{AreRows, IsRow}
use Rattle.ats_certificate.specs.declared.row.Row.{Row}
use Rattle.ats_examples.proofs.NetworkProofs.{fork_is}
use Rattle.ats_examples.proofs.NetworkTest.{station_by, valid_from_by}
use Rattle.ats_examples.proofs.RuleTest.{before_by, is_before}
use Rattle.ats_examples.proofs.Tests.{all_by, pairs_by}
use Rattle.ats_examples.specs.Networks.{fork}
use Rattle.ats_text_examples.specs.Ports.{row_with}
use Rattle.ats_file_examples.specs.Forked.{classes_text, ends_text, forked_text}
use Rattle.ats_file_examples.specs.Network.{crowd, crowd_nodes, document, p, q, r, t}
use Rattle.ats_file_examples.specs.NetworkText.{network_text}
use Rattle.ats_file_examples.specs.Premises.{EndsHavePaths, FormatsAreRead, NamesAreSound, PremisesAreMet, by_path}
use Rattle.ats_file_examples.specs.Premises.{document_by_paths, long_links, long_nodes, long_rows, text_of_format}
use Rattle.ats_file_examples.proofs.Parsing.{parsed}
use Rattle.ats_file_examples.proofs.Steps.{format_is, path_of_is, tree_is}

-- Premises of laws, met by computation and by tests.

-- the streams of the text, key by key
abbrev by_nodes : Members
by_nodes =
    member (codes "burst_bits") (integer (pos 672)) (member (codes "class") (integer (pos 6))
    (member (codes "max_octets") (integer (pos 65)) (member (codes "min_octets") (integer (pos 64))
    (member (codes "name") (string (codes "a"))
    (member (codes "path") (array (item (string (codes "s1")) (item (string (codes "s2")) no_items)))
    (member (codes "rate_bps") (integer (pos 1)) no_members))))))

abbrev by_ends : Members
by_ends =
    member (codes "burst_bits") (integer (pos 673)) (member (codes "class") (integer (pos 5))
    (member (codes "from") (string (codes "s2")) (member (codes "max_octets") (integer (pos 67))
    (member (codes "min_octets") (integer (pos 66)) (member (codes "name") (string (codes "b"))
    (member (codes "rate_bps") (integer (pos 2)) (member (codes "to") (string (codes "s1")) no_members)))))))

-- its bridge
abbrev no_clock : Members
no_clock =
    member (codes "name") (string (codes "b1")) (member (codes "processing_max_ns") (integer (pos 2))
    (member (codes "processing_min_ns") (integer (pos 1)) (member (codes "residence_ns") (integer (pos 3)) no_members)))

-- and its top table, with a number of its format
abbrev top_of_format : ℕ → Members
top_of_format n =
    member (codes "bridge") (array (item (table no_clock) no_items)) (member (codes "format") (integer (pos n))
    (member (codes "station") (array (item (table (member (codes "name") (string (codes "s1")) no_members)) no_items))
    (member (codes "stream") (array (item (table by_nodes) (item (table by_ends) no_items))) no_members)))

in_three : tree_of (text_of_format (codes "3")) ≡ Some (top_of_format 3)
unfolding parsed
in_three = tree_is (text_of_format (codes "3")) (Some (top_of_format 3)) refl refl

in_two : tree_of (text_of_format (codes "2")) ≡ Some (top_of_format 2)
unfolding parsed
in_two = tree_is (text_of_format (codes "2")) (Some (top_of_format 2)) refl refl

-- what stands with `to` is one name
nodes_say : SaysNothingNew by_nodes
nodes_say = record { paths = refl; to = λ d h. cc h }

ends_say : SaysNothingNew by_ends
ends_say = record { paths = refl; to = λ d h. one d (cc h) }
  where
    one : (d : Data) → string (codes "s1") ≡ d → as_array d ≡ None
    one d same = subst (λ (x : Data). as_array x ≡ None) same refl

one_meaning : AreOfOneMeaning (text_of_format (codes "3")) (text_of_format (codes "2"))
unfolding parsed
one_meaning = record {
  tree = top_of_format 3;
  in_three = in_three;
  in_two = in_two;
  format = refl;
  nothing_new = All-cons SaysNothingNew by_nodes (by_ends ∷ []) nodes_say
      (All-cons SaysNothingNew by_ends [] ends_say (All-nil SaysNothingNew));
  no_clocks = All-cons SaysNoClock no_clock [] (record { deviation = refl; step = refl }) (All-nil SaysNoClock);
  no_streams_for_ports = refl;
  no_flows_for_ports = refl;
}

-- of each stream its route and the path that it has
p_written : IsWrittenByPath crowd.topology p p
p_written = record {
  route = file.path (codes "s1" ∷ codes "b1" ∷ codes "b2" ∷ codes "b3" ∷ codes "s3" ∷ []);
  path = 0 ∷ 6 ∷ 8 ∷ 4 ∷ [];
  one = refl;
  found = path_of_is crowd.topology
      (file.path (codes "s1" ∷ codes "b1" ∷ codes "b2" ∷ codes "b3" ∷ codes "s3" ∷ [])) (0 ∷ 6 ∷ 8 ∷ 4 ∷ []) refl
      (valid_from_by crowd.topology 0 (0 ∷ 6 ∷ 8 ∷ 4 ∷ []) refl);
  names = refl;
  else_same = refl;
}

abbrev q_by_path : file.DeclaredStream
q_by_path = by_path q (codes "s2" ∷ codes "b2" ∷ codes "b1" ∷ codes "s4" ∷ [])

q_written : IsWrittenByPath crowd.topology q q_by_path
q_written = record {
  route = file.ends (codes "s2") (codes "s4");
  path = 2 ∷ 7 ∷ 11 ∷ [];
  one = refl;
  found = path_of_is crowd.topology (file.ends (codes "s2") (codes "s4")) (2 ∷ 7 ∷ 11 ∷ []) refl
      (valid_from_by crowd.topology 1 (2 ∷ 7 ∷ 11 ∷ []) refl);
  names = refl;
  else_same = refl;
}

r_written : IsWrittenByPath crowd.topology r r
r_written = record {
  route = file.path (codes "s3" ∷ codes "b3" ∷ codes "b2" ∷ codes "s2" ∷ []);
  path = 5 ∷ 9 ∷ 3 ∷ [];
  one = refl;
  found = path_of_is crowd.topology (file.path (codes "s3" ∷ codes "b3" ∷ codes "b2" ∷ codes "s2" ∷ []))
      (5 ∷ 9 ∷ 3 ∷ []) refl (valid_from_by crowd.topology 2 (5 ∷ 9 ∷ 3 ∷ []) refl);
  names = refl;
  else_same = refl;
}

abbrev t_by_path : file.DeclaredStream
t_by_path = by_path t (codes "s4" ∷ codes "b1" ∷ codes "b2" ∷ codes "b3" ∷ codes "s3" ∷ [])

t_written : IsWrittenByPath crowd.topology t t_by_path
t_written = record {
  route = file.ends (codes "s4") (codes "s3");
  path = 10 ∷ 6 ∷ 8 ∷ 4 ∷ [];
  one = refl;
  found = path_of_is crowd.topology (file.ends (codes "s4") (codes "s3")) (10 ∷ 6 ∷ 8 ∷ 4 ∷ []) refl
      (valid_from_by crowd.topology 3 (10 ∷ 6 ∷ 8 ∷ 4 ∷ []) refl);
  names = refl;
  else_same = refl;
}

written_by_path : AreWrittenByPath document document_by_paths
written_by_path =
    record { streams = (p_written, (q_written, (r_written, (t_written, tt)))); else_same = refl }

-- formats, and that the third is another than those before it
one_is : format_in (text_of_format (codes "1")) ≡ Ok One
unfolding parsed
one_is = format_is (text_of_format (codes "1")) (Ok One) refl refl

two_is : format_in network_text ≡ Ok Two
unfolding parsed
two_is = format_is network_text (Ok Two) refl refl

three_is : format_in (forked_text ends_text classes_text) ≡ Ok Three
unfolding parsed
three_is = format_is (forked_text ends_text classes_text) (Ok Three) refl refl

no_third : (text : List ℕ) (format : Format) → format_in text ≡ Ok format → (format ≡ Three → ⊥)
    → format_in text ≡ Ok Three → ⊥
no_third text format is other three =
    let same : (let a : Result Format DocumentFault = Ok format in a) ≡ Ok Three = sym is ∙ three in
    other (cc same)

formats_are_read : FormatsAreRead
formats_are_read = record {
  one = one_is;
  two = two_is;
  three = three_is;
  one_is_before = no_third (text_of_format (codes "1")) One one_is (λ same. cc same);
  two_is_before = no_third network_text Two two_is (λ same. cc same);
  three_is_not = λ before. before three_is;
}

-- two stations, and the paths of two routes by their ends
abbrev Differ : List ℕ → List ℕ → Type 0
Differ a b = a ≢ b

two_names : Differ (codes "s2") (codes "s3")
two_names same =
    let clash : true ≡ false = ap (λ (name : List ℕ). bytes_eq (codes "s2") name) same in
    absurd (cc clash)

none_differ : AllPairs Differ []
none_differ i j d before within = absurd (omega arith)

two_paths : (a b : Option (List ℕ)) (first second : List ℕ) → a ≡ Some first → b ≡ Some second
    → option_and_then (λ path. option_map (λ paths. path ∷ paths)
    (option_and_then (λ path. option_map (λ paths. path ∷ paths) (Some [])) b)) a ≡ Some (first ∷ second ∷ [])
two_paths a b first second is are =
    ap (λ (o : Option (List ℕ)). option_and_then (λ path. option_map (λ paths. path ∷ paths)
    (option_and_then (λ path. option_map (λ paths. path ∷ paths) (Some [])) b)) o) is
    ∙ ap (λ (o : Option (List ℕ)). option_map (λ paths. first ∷ paths)
    (option_and_then (λ path. option_map (λ paths. path ∷ paths) (Some [])) o)) are

-- the only node with a name is a station
station_named : (topology : DeclaredTopology) (name : List ℕ) (n : ℕ) → place_of name (names_of topology.nodes) ≡ Some n
    → IsStationAt topology n → IsStationNamed topology name
station_named topology name n is station m found =
    let same : n ≡ m = cc (sym is ∙ found) in
    subst (IsStationAt topology) same station

three_stations : All (IsStationNamed fork.topology) (codes "s1" ∷ codes "s2" ∷ codes "s3" ∷ [])
three_stations =
    let P : List ℕ → Type 0 = IsStationNamed fork.topology in
    All-cons P (codes "s1") (codes "s2" ∷ codes "s3" ∷ [])
    (station_named fork.topology (codes "s1") 0 refl (station_by fork.topology 0 refl))
    (All-cons P (codes "s2") (codes "s3" ∷ [])
    (station_named fork.topology (codes "s2") 1 refl (station_by fork.topology 1 refl))
    (All-cons P (codes "s3") []
    (station_named fork.topology (codes "s3") 2 refl (station_by fork.topology 2 refl)) (All-nil P)))

ends_have_paths : EndsHavePaths
ends_have_paths = record {
  topology = fork_is.topology;
  apart = AllPairs-cons Differ (codes "s2") (codes "s3" ∷ [])
      (All-cons (Differ (codes "s2")) (codes "s3") [] two_names (All-nil (Differ (codes "s2"))))
      (AllPairs-cons Differ (codes "s3") [] (All-nil (Differ (codes "s3"))) none_differ);
  stations = three_stations;
  paths = two_paths (path_of fork.topology (file.ends (codes "s1") (codes "s2")))
      (path_of fork.topology (file.ends (codes "s1") (codes "s3"))) (0 ∷ 2 ∷ []) (0 ∷ 5 ∷ [])
      (path_of_is fork.topology (file.ends (codes "s1") (codes "s2")) (0 ∷ 2 ∷ []) refl
      (valid_from_by fork.topology 0 (0 ∷ 2 ∷ []) refl))
      (path_of_is fork.topology (file.ends (codes "s1") (codes "s3")) (0 ∷ 5 ∷ []) refl
      (valid_from_by fork.topology 0 (0 ∷ 5 ∷ []) refl));
}

-- names, by a test of each node, and rows
abbrev IsNamed : Node → Type 0
IsNamed node = is_name node.name ≡ true

named_by : (nodes : List Node) → list_all (λ (node : Node). is_name node.name) nodes ≡ true → All IsNamed nodes
named_by nodes passed = all_by IsNamed (λ (node : Node). is_name node.name) (λ node named. named) nodes passed

first_row : IsRow (row_with 0 6 1 2 3 4 5 6 7)
first_row = record {
  class_least = omega arith;
  class_most = omega arith;
  higher = omega arith;
  equal = omega arith;
  bursts = omega arith;
  lower = omega arith;
  least = omega arith;
  wait = omega arith;
  bound = omega arith;
}

second_row : IsRow (row_with 0 7 8 9 10 11 12 13 14)
second_row = record {
  class_least = omega arith;
  class_most = omega arith;
  higher = omega arith;
  equal = omega arith;
  bursts = omega arith;
  lower = omega arith;
  least = omega arith;
  wait = omega arith;
  bound = omega arith;
}

third_row : IsRow (row_with 3 1 15 16 17 18 19 20 21)
third_row = record {
  class_least = omega arith;
  class_most = omega arith;
  higher = omega arith;
  equal = omega arith;
  bursts = omega arith;
  lower = omega arith;
  least = omega arith;
  wait = omega arith;
  bound = omega arith;
}

rows_are : AreRows long_rows
rows_are = record {
  each = All-from_recursion IsRow long_rows (first_row, (second_row, (third_row, tt)));
  ordered = pairs_by IsBefore is_before before_by long_rows refl;
}

abbrev IsOfPort : Row → Type 0
IsOfPort row = row.port < length (ports_of long_nodes long_links)

less_by : (a b : ℕ) → nat_lt a b ≡ true → a < b
less_by a b h = grind (arith, nat_tests, h)

ports_are : All IsOfPort long_rows
ports_are = all_by IsOfPort (λ (row : Row). nat_lt row.port (length (ports_of long_nodes long_links)))
    (λ row within. less_by row.port (length (ports_of long_nodes long_links)) within) long_rows refl

names_are_sound : NamesAreSound
names_are_sound = record {
  short_names = record { names = named_by crowd_nodes refl; sound = refl };
  length_is = refl;
  long_names = record { names = named_by long_nodes refl; sound = refl };
  rows = rows_are;
  ports = ports_are;
}

pub premises_are_met : PremisesAreMet
premises_are_met = record {
  meaning = one_meaning;
  paths = written_by_path;
  formats = formats_are_read;
  ends = ends_have_paths;
  names = names_are_sound;
}
