-- The fault of form that a text gives is its first.
use Rattle.std.proofs.Common.{◌≡◌, ◌∙◌, ℕ, ◌+◌, ◌-◌, ◌*◌, Bool, true, false, cond, List, [], ◌∷◌, ◌++◌, length, Option}
use Rattle.std.proofs.Common.{Some, None, Result, Ok, Err, inl, inr, refl, sym, ap, subst, arith, append_assoc}
use Rattle.std.specs.Prelude.{nat_lt, is_some, option_and_then, unwrap_or}
use Rattle.std.specs.Option.{option_or}
use Rattle.std.proofs.lemmas.Bool.{false≢true}
use Rattle.std.proofs.lemmas.Option.{same_Some, none-some}
use Rattle.toml.specs.Data.{Data, Members, get_member}
use Rattle.ats_num.specs.Failure.{◌>>=◌, or_fault}
use Rattle.ats_network_table.specs.Kinds.{whole_in}
use Rattle.ats_network_table.specs.Walk.{Entry, at, format_at, format_of, formed, has, has_unknown, wrong_kind}
use Rattle.ats_network_table.specs.Words.{key_text, top_keys}
use Rattle.ats_network_table.specs.declared.format.Format.{Format}
use Rattle.ats_network_table.specs.declared.format.Format.TheVariants.{One, Two, Three}
use Rattle.ats_network_table.specs.declared.table.Table.{Table}
use Rattle.ats_network_table.specs.declared.table.Table.TheVariants.{Bridge, Flow, Link, LinkLocal, LinkLocalFlow}
use Rattle.ats_network_table.specs.declared.table.Table.TheVariants.{Station}
use Rattle.ats_network_table.specs.declared.table.Table.TheVariants.{Stream, Top}
use Rattle.ats_network_table.specs.declared.key.Key.{Key}
use Rattle.ats_network_table.specs.declared.key.Key.TheVariants as key
use Rattle.ats_network_table.specs.declared.fault.DocumentFault.{DocumentFault}
use Rattle.ats_network_table.specs.declared.fault.DocumentFault.TheVariants.{Limit, NotToml}
use Rattle.ats_network_toml.specs.Document as file
use Rattle.ats_network_toml.specs.Entries.{bridge_in, flow_in, link_in, link_local_flow_in, link_local_in, station_in}
use Rattle.ats_network_toml.specs.Entries.{stream_in}
use Rattle.ats_network_toml.specs.Reading.{Arrays, arrays_in, arrays_read, document_in, document_of, entries_from}
use Rattle.ats_network_toml.specs.Reading.{entries_in, entries_within, senders_for, tables_at, tables_in, tree_of}
use Rattle.ats_network_toml.specs.declared.entries.StationEntry.{StationEntry}
use Rattle.ats_network_toml.specs.declared.entries.BridgeEntry.{BridgeEntry}
use Rattle.ats_network_toml.specs.declared.entries.LinkEntry.{LinkEntry}
use Rattle.ats_network_file_law.specs.FormFaults.{FormFaultIsTheFirst, IsFirstFormFault, IsFirstOf, Piece, array}
use Rattle.ats_network_file_law.specs.FormFaults.{arrays_of, format_told, is_kind, is_right, keys_in, pieces_at_ports}
use Rattle.ats_network_file_law.specs.FormFaults.{pieces_in, pieces_of, tables_from, tables_told, top_of}
use Rattle.ats_network_file_law.proofs.FormFirsts.{form_fault, pieces_fault, pieces_given, pieces_had, pieces_joined}
use Rattle.ats_network_file_law.proofs.FormFirsts.{table_fault, wrongs}
use Rattle.ats_network_file_law.proofs.FormKeys.{Any, IsFormed, absent, formed_told, leaf, not_missing, not_there}
use Rattle.ats_network_file_law.proofs.FormKeys.{stands, value_at, wrong}
use Rattle.ats_network_file_law.proofs.FormReaders.{bridge_told, entry_of, link_told, station_told}
use Rattle.ats_network_file_law.proofs.FormStreams.{flow_told, link_local_flow_told, link_local_told, stream_told}
use Rattle.ats_network_file_law.proofs.Told.{Told, chained, made, same_faults, weaker}

-- as many entries as tables
abbrev AsMany : {A : Type 0} → List Members → List A → Type 0
AsMany tables entries = length entries ≡ length tables

-- the tables of an array, one after another
tables_told_from : {A : Type 0} (read : Entry → Result A DocumentFault) (f : Format) (t : Table)
    → ((n : ℕ) (ms : Members) → Told (λ (x : A). Any x) (table_fault (entry_of f t n ms)) (read (entry_of f t n ms)))
    → (n : ℕ) (tables : List Members)
    → Told (λ (es : List A). AsMany tables es) (pieces_fault (tables_from f t n tables))
    (entries_from read f t n tables)
tables_told_from {A} read f t one n [] = (refl, refl)
tables_told_from {A} read f t one n (ms ∷ rest) =
    chained (λ (x : A). Any x) (λ (es : List A). AsMany (ms ∷ rest) es) (table_fault (entry_of f t n ms))
    (pieces_fault (tables_from f t (n + 1) rest)) (read (entry_of f t n ms))
    (λ entry. entries_from read f t (n + 1) rest >>= λ more. Ok (entry ∷ more)) (one n ms)
    (λ entry known. made (λ (es : List A). AsMany rest es) (λ (es : List A). AsMany (ms ∷ rest) es)
    (pieces_fault (tables_from f t (n + 1) rest)) (entries_from read f t (n + 1) rest) (λ more. entry ∷ more)
    (tables_told_from read f t one (n + 1) rest) (λ more many. omega (arith, many)))

-- an array: whether so many are over the most, and then each table
counted_told : {A : Type 0} (read : Entry → Result A DocumentFault) (f : Format) (t : Table) (most many : ℕ)
    (tables : List Members)
    → ((n : ℕ) (ms : Members) → Told (λ (x : A). Any x) (table_fault (entry_of f t n ms)) (read (entry_of f t n ms)))
    → Told (λ (es : List A). AsMany tables es) (pieces_fault (array t most many ∷ tables_from f t 1 tables))
    (entries_within read f t most many tables)
counted_told {A} read f t most many tables one = by (nat_lt most many)
  where
    by : (b : Bool) → Told (λ (es : List A). AsMany tables es)
        (option_or (let o : Option DocumentFault = cond b (Some (Limit t)) None in o)
        (pieces_fault (tables_from f t 1 tables)))
        (let r : Result (List A) DocumentFault = cond b (Err (Limit t)) (entries_from read f t 1 tables) in r)
    by true = refl
    by false = tables_told_from read f t one 1 tables

-- an array: how many tables it has, and then each
array_told : {A : Type 0} (read : Entry → Result A DocumentFault) (f : Format) (t : Table) (most : ℕ)
    (tables : List Members)
    → ((n : ℕ) (ms : Members) → Told (λ (x : A). Any x) (table_fault (entry_of f t n ms)) (read (entry_of f t n ms)))
    → Told (λ (es : List A). AsMany tables es) (pieces_fault (pieces_in f t most tables))
    (entries_in read f t most tables)
array_told read f t most tables one = counted_told read f t most (length tables) tables one

-- an array with tables for each port: behind as many entries and links as there are tables of them
at_ports_told : {A B C : Type 0} (read : Entry → Result A DocumentFault) (f : Format) (t : Table)
    (senders links tables : List Members) (es : List B) (ls : List C)
    → ((n : ℕ) (ms : Members) → Told (λ (x : A). Any x) (table_fault (entry_of f t n ms)) (read (entry_of f t n ms)))
    → AsMany senders es → AsMany links ls
    → Told (λ (xs : List A). AsMany tables xs)
    (pieces_fault (pieces_at_ports f t (length senders) (length links) tables))
    (entries_within read f t 4096 (senders_for es tables ls) tables)
at_ports_told {A} read f t senders links tables es ls one many_senders many_links =
    subst (λ (m : ℕ). Told (λ (xs : List A). AsMany tables xs)
    (pieces_fault (array t 4096 m ∷ tables_from f t 1 tables))
    (entries_within read f t 4096 (senders_for es tables ls) tables)) same
    (counted_told read f t 4096 (senders_for es tables ls) tables one)
  where
    same : senders_for es tables ls ≡ length senders + length tables * (2 * length links)
    same = ap (λ (k : ℕ). k + length tables * (2 * length ls)) many_senders
        ∙ ap (λ (k : ℕ). length senders + length tables * (2 * k)) many_links

-- an array and then others
array_then : {A B : Type 0} (G : List A → Type 0) (H : B → Type 0) (ps qs : List Piece)
    (r : Result (List A) DocumentFault) (k : List A → Result B DocumentFault) → Told G (pieces_fault ps) r
    → ((x : List A) → G x → Told H (pieces_fault qs) (k x)) → Told H (pieces_fault (ps ++ qs)) (r >>= k)
array_then G H ps qs r k t next =
    same_faults H (option_or (pieces_fault ps) (pieces_fault qs)) (pieces_fault (ps ++ qs)) (r >>= k)
    (pieces_joined ps qs) (chained G H (pieces_fault ps) (pieces_fault qs) r k t next)

-- the last array
array_last : {A B : Type 0} (G : List A → Type 0) (H : B → Type 0) (ps : List Piece)
    (r : Result (List A) DocumentFault) (g : List A → B) → Told G (pieces_fault ps) r
    → ((x : List A) → G x → H (g x)) → Told H (pieces_fault ps) (r >>= λ x. Ok (g x))
array_last G H ps r g t next = made G H (pieces_fault ps) r g t next

abbrev document : Format → List StationEntry → List BridgeEntry → List LinkEntry → List file.DeclaredStream
    → List file.DeclaredLinkLocal → List file.DeclaredFlow → List file.DeclaredLinkLocalFlow → file.DeclaredDocument
document format s b l t p f q = record {
  format = format;
  stations = s;
  bridges = b;
  links = l;
  streams = t;
  link_locals = p;
  flows = f;
  link_local_flows = q;
}

-- the pieces of arrays that were read
abbrev flows_on : Arrays → List Piece
flows_on a = pieces_in a.format Flow 1024 a.flows
    ++ pieces_at_ports a.format LinkLocalFlow (length a.flows) (length a.links) a.link_local_flows

abbrev streams_on : Arrays → List Piece
streams_on a = pieces_in a.format Stream 4096 a.streams
    ++ (pieces_at_ports a.format LinkLocal (length a.streams) (length a.links) a.link_locals ++ flows_on a)

abbrev pieces_read : Arrays → List Piece
pieces_read a =
    pieces_in a.format Station 1024 a.stations
    ++ (pieces_in a.format Bridge (1024 - length a.stations) a.bridges
    ++ (pieces_in a.format Link 2048 a.links ++ streams_on a))

-- what is read of arrays behind the links, and behind the streams
abbrev read_flows : Arrays → List StationEntry → List BridgeEntry → List LinkEntry → List file.DeclaredStream
    → List file.DeclaredLinkLocal → Result file.DeclaredDocument DocumentFault
read_flows a s b l t p =
    entries_in flow_in a.format Flow 1024 a.flows >>= λ f.
    entries_within link_local_flow_in a.format LinkLocalFlow 4096 (senders_for f a.link_local_flows l)
    a.link_local_flows >>= λ q. Ok (document a.format s b l t p f q)

abbrev read_streams : Arrays → List StationEntry → List BridgeEntry → List LinkEntry
    → Result file.DeclaredDocument DocumentFault
read_streams a s b l =
    entries_in stream_in a.format Stream 4096 a.streams >>= λ t.
    entries_within link_local_in a.format LinkLocal 4096 (senders_for t a.link_locals l) a.link_locals
    >>= λ p. read_flows a s b l t p

flows_told : (a : Arrays) (s : List StationEntry) (b : List BridgeEntry) (l : List LinkEntry)
    (t : List file.DeclaredStream) (p : List file.DeclaredLinkLocal) → AsMany a.links l
    → Told (λ (x : file.DeclaredDocument). Any x) (pieces_fault (flows_on a)) (read_flows a s b l t p)
flows_told a s b l t p links =
    array_then (λ (es : List file.DeclaredFlow). AsMany a.flows es) (λ (x : file.DeclaredDocument). Any x)
    (pieces_in a.format Flow 1024 a.flows)
    (pieces_at_ports a.format LinkLocalFlow (length a.flows) (length a.links) a.link_local_flows)
    (entries_in flow_in a.format Flow 1024 a.flows)
    (λ f. entries_within link_local_flow_in a.format LinkLocalFlow 4096 (senders_for f a.link_local_flows l)
    a.link_local_flows >>= λ q. Ok (document a.format s b l t p f q))
    (array_told flow_in a.format Flow 1024 a.flows (flow_told a.format))
    (λ f many. array_last (λ (es : List file.DeclaredLinkLocalFlow). AsMany a.link_local_flows es)
    (λ (x : file.DeclaredDocument). Any x)
    (pieces_at_ports a.format LinkLocalFlow (length a.flows) (length a.links) a.link_local_flows)
    (entries_within link_local_flow_in a.format LinkLocalFlow 4096 (senders_for f a.link_local_flows l)
    a.link_local_flows)
    (λ q. document a.format s b l t p f q)
    (at_ports_told link_local_flow_in a.format LinkLocalFlow a.flows a.links a.link_local_flows f l
    (link_local_flow_told a.format) many links) (λ q known. tt))

streams_told : (a : Arrays) (s : List StationEntry) (b : List BridgeEntry) (l : List LinkEntry) → AsMany a.links l
    → Told (λ (x : file.DeclaredDocument). Any x) (pieces_fault (streams_on a)) (read_streams a s b l)
streams_told a s b l links =
    array_then (λ (es : List file.DeclaredStream). AsMany a.streams es) (λ (x : file.DeclaredDocument). Any x)
    (pieces_in a.format Stream 4096 a.streams)
    (pieces_at_ports a.format LinkLocal (length a.streams) (length a.links) a.link_locals ++ flows_on a)
    (entries_in stream_in a.format Stream 4096 a.streams)
    (λ t. entries_within link_local_in a.format LinkLocal 4096 (senders_for t a.link_locals l) a.link_locals
    >>= λ p. read_flows a s b l t p)
    (array_told stream_in a.format Stream 4096 a.streams (stream_told a.format))
    (λ t many. array_then (λ (es : List file.DeclaredLinkLocal). AsMany a.link_locals es)
    (λ (x : file.DeclaredDocument). Any x)
    (pieces_at_ports a.format LinkLocal (length a.streams) (length a.links) a.link_locals) (flows_on a)
    (entries_within link_local_in a.format LinkLocal 4096 (senders_for t a.link_locals l) a.link_locals)
    (λ p. read_flows a s b l t p)
    (at_ports_told link_local_in a.format LinkLocal a.streams a.links a.link_locals t l (link_local_told a.format) many
    links)
    (λ p known. flows_told a s b l t p links))

arrays_told : (a : Arrays) → Told (λ (x : file.DeclaredDocument). Any x) (pieces_fault (pieces_read a)) (arrays_read a)
arrays_told a =
    let H : file.DeclaredDocument → Type 0 = λ x. Any x in
    let links_on : List Piece = pieces_in a.format Link 2048 a.links ++ streams_on a in
    array_then (λ (es : List StationEntry). AsMany a.stations es) H (pieces_in a.format Station 1024 a.stations)
    (pieces_in a.format Bridge (1024 - length a.stations) a.bridges ++ links_on)
    (entries_in station_in a.format Station 1024 a.stations)
    (λ s. entries_in bridge_in a.format Bridge (1024 - length s) a.bridges >>= λ b.
    entries_in link_in a.format Link 2048 a.links >>= λ l. read_streams a s b l)
    (array_told station_in a.format Station 1024 a.stations (station_told a.format))
    (λ s many. array_then (λ (es : List BridgeEntry). AsMany a.bridges es) H
    (pieces_in a.format Bridge (1024 - length a.stations) a.bridges) links_on
    (entries_in bridge_in a.format Bridge (1024 - length s) a.bridges)
    (λ b. entries_in link_in a.format Link 2048 a.links >>= λ l. read_streams a s b l)
    (subst (λ m. Told (λ (es : List BridgeEntry). AsMany a.bridges es)
    (pieces_fault (pieces_in a.format Bridge (1024 - m) a.bridges))
    (entries_in bridge_in a.format Bridge (1024 - length s) a.bridges)) many
    (array_told bridge_in a.format Bridge (1024 - length s) a.bridges (bridge_told a.format)))
    (λ b known. array_then (λ (es : List LinkEntry). AsMany a.links es) H (pieces_in a.format Link 2048 a.links)
    (streams_on a) (entries_in link_in a.format Link 2048 a.links) (λ l. read_streams a s b l)
    (array_told link_in a.format Link 2048 a.links (link_told a.format))
    (λ l links. streams_told a s b l links)))

-- the arrays that the top table tells
abbrev told_arrays : Entry → Arrays
told_arrays top = record {
  format = format_told top.members;
  stations = tables_told top key.Station;
  bridges = tables_told top key.Bridge;
  links = tables_told top key.Link;
  streams = tables_told top key.Stream;
  link_locals = tables_told top key.LinkLocal;
  flows = tables_told top key.Flow;
  link_local_flows = tables_told top key.LinkLocalFlow;
}

-- seven lists behind one another
regrouped : (a b c d e f g : List Piece)
    → a ++ b ++ c ++ d ++ e ++ f ++ g ≡ a ++ (b ++ (c ++ (d ++ (e ++ (f ++ g)))))
regrouped a b c d e f g =
    append_assoc (a ++ b ++ c ++ d ++ e) f g ∙ append_assoc (a ++ b ++ c ++ d) e (f ++ g)
    ∙ append_assoc (a ++ b ++ c) d (e ++ (f ++ g)) ∙ append_assoc (a ++ b) c (d ++ (e ++ (f ++ g)))
    ∙ append_assoc a b (c ++ (d ++ (e ++ (f ++ g))))

told_pieces : (tree : Members) → pieces_read (told_arrays (top_of tree)) ≡ arrays_of (top_of tree)
told_pieces tree =
    let top : Entry = top_of tree in
    let f : Format = format_told tree in
    sym (regrouped (pieces_in f Station 1024 (tables_told top key.Station))
    (pieces_in f Bridge (1024 - length (tables_told top key.Station)) (tables_told top key.Bridge))
    (pieces_in f Link 2048 (tables_told top key.Link)) (pieces_in f Stream 4096 (tables_told top key.Stream))
    (pieces_at_ports f LinkLocal (length (tables_told top key.Stream)) (length (tables_told top key.Link))
    (tables_told top key.LinkLocal))
    (pieces_in f Flow 1024 (tables_told top key.Flow))
    (pieces_at_ports f LinkLocalFlow (length (tables_told top key.Flow)) (length (tables_told top key.Link))
    (tables_told top key.LinkLocalFlow)))

-- no key stands there, and so nothing with it
nothing_there : (e : Entry) (k : Key) → has e k ≡ false → get_member (key_text k) e.members ≡ None
nothing_there e k h = by (get_member (key_text k) e.members) h
  where
    by : (o : Option Data) → is_some o ≡ false → o ≡ None
    by None g = refl
    by (Some d) g = absurd (false≢true (sym g))

-- an array of the top table, which may be absent
list_told : (e : Entry) (k : Key) → is_right e k ≡ is_kind tables_in e k
    → Told (λ (ts : List Members). ts ≡ tables_told e k) (wrong e k) (tables_at e k)
list_told e k right = by (has e k) refl
  where
    read : Bool → Result (List Members) DocumentFault
    read b = cond b (at e k tables_in) (Ok [])

    by : (b : Bool) → has e k ≡ b
        → Told (λ (ts : List Members). ts ≡ tables_told e k) (wrong e k) (read (has e k))
    by true h =
        subst (λ (c : Bool). Told (λ (ts : List Members). ts ≡ tables_told e k) (wrong e k) (read c)) (sym h)
        (weaker (λ (ts : List Members). value_at tables_in e k ≡ Some ts)
        (λ (ts : List Members). ts ≡ tables_told e k) (wrong e k) (at e k tables_in) (leaf e k tables_in h right)
        (λ ts is. sym (ap (λ (o : Option (List Members)). unwrap_or o []) is)))
    by false h =
        subst (λ (c : Bool). Told (λ (ts : List Members). ts ≡ tables_told e k) (wrong e k) (read c)) (sym h)
        (absent e k h, sym (ap (λ (o : Option Data). unwrap_or (option_and_then tables_in o) []) (nothing_there e k h)))

-- the format of the top table, which has to stand there
format_there : (e : Entry) → has e key.Format ≡ true
    → Told (λ (f : Format). f ≡ format_told e.members) (wrong e key.Format) (format_at e)
format_there e there =
    made (λ (n : ℕ). value_at (whole_in 1 3) e key.Format ≡ Some n) (λ (f : Format). f ≡ format_told e.members)
    (wrong e key.Format) (at e key.Format (whole_in 1 3)) format_of (leaf e key.Format (whole_in 1 3) there refl)
    (λ n is. sym (ap (λ (o : Option ℕ). format_of (unwrap_or o 1)) is))

-- one array of the top table, and then others
next_list : {B : Type 0} (e : Entry) (k : Key) (ls : List Key) (H : B → Type 0)
    (f : List Members → Result B DocumentFault) → is_right e k ≡ is_kind tables_in e k
    → ((ts : List Members) → ts ≡ tables_told e k → Told H (wrongs e ls) (f ts))
    → Told H (wrongs e (k ∷ ls)) (tables_at e k >>= f)
next_list e k ls H f right next =
    chained (λ (ts : List Members). ts ≡ tables_told e k) H (wrong e k) (wrongs e ls) (tables_at e k) f
    (list_told e k right) next

-- one that the table does not have, and then others
no_list : {B : Type 0} (e : Entry) (k : Key) (ls : List Key) (H : B → Type 0)
    (f : List Members → Result B DocumentFault) → get_member (key_text k) e.members ≡ None
    → ((ts : List Members) → ts ≡ tables_told e k → Told H (wrongs e ls) (f ts))
    → Told H (wrongs e ls) (tables_at e k >>= f)
no_list {B} e k ls H f none next =
    subst (λ (o : Option Data). Told H (wrongs e ls)
    ((let r : Result (List Members) DocumentFault = cond (is_some o)
    (or_fault (wrong_kind e k) (option_and_then tables_in o)) (Ok []) in r) >>= f)) (sym none)
    (next [] (sym (ap (λ (o : Option Data). unwrap_or (option_and_then tables_in o) []) none)))

abbrev arrays : Format → List Members → List Members → List Members → List Members → List Members → List Members
    → List Members → Arrays
arrays format s b l t p f q = record {
  format = format;
  stations = s;
  bridges = b;
  links = l;
  streams = t;
  link_locals = p;
  flows = f;
  link_local_flows = q;
}

-- arrays that are the same one by one
same_arrays : (top : Entry) (format : Format) (s b l t p f q : List Members) → format ≡ format_told top.members
    → s ≡ tables_told top key.Station → b ≡ tables_told top key.Bridge → l ≡ tables_told top key.Link
    → t ≡ tables_told top key.Stream → p ≡ tables_told top key.LinkLocal → f ≡ tables_told top key.Flow
    → q ≡ tables_told top key.LinkLocalFlow → arrays format s b l t p f q ≡ told_arrays top
same_arrays top format s b l t p f q p1 p2 p3 p4 p5 p6 p7 p8 =
    ap (λ x. arrays x s b l t p f q) p1 ∙ ap (λ x. arrays (format_told top.members) x b l t p f q) p2
    ∙ ap (λ x. arrays (format_told top.members) (tables_told top key.Station) x l t p f q) p3
    ∙ rest
  where
    rest : arrays (format_told top.members) (tables_told top key.Station) (tables_told top key.Bridge) l t p f q
        ≡ told_arrays top
    rest = rw (p4, p5, p6, p7, p8) refl

-- the arrays of a top table behind its format, in format 3 and before
module _ (e : Entry) (format : Format) (is : format ≡ format_told e.members) where
  abbrev Same : Arrays → Type 0
  Same a = a ≡ told_arrays e

  pub all_lists : Told Same
      (wrongs e (key.Station ∷ key.Bridge ∷ key.Link ∷ key.Stream ∷ key.LinkLocal ∷ key.Flow ∷ key.LinkLocalFlow ∷ []))
      (tables_at e key.Station >>= λ s. tables_at e key.Bridge >>= λ b. tables_at e key.Link >>= λ l.
      tables_at e key.Stream >>= λ t. tables_at e key.LinkLocal >>= λ p. tables_at e key.Flow >>= λ f.
      tables_at e key.LinkLocalFlow >>= λ q. Ok (arrays format s b l t p f q))
  all_lists =
      next_list e key.Station (key.Bridge ∷ key.Link ∷ key.Stream ∷ key.LinkLocal ∷ key.Flow ∷ key.LinkLocalFlow ∷ [])
      Same _ refl (λ s p2. next_list e key.Bridge
      (key.Link ∷ key.Stream ∷ key.LinkLocal ∷ key.Flow ∷ key.LinkLocalFlow ∷ []) Same _ refl
      (λ b p3. next_list e key.Link (key.Stream ∷ key.LinkLocal ∷ key.Flow ∷ key.LinkLocalFlow ∷ []) Same _ refl
      (λ l p4. next_list e key.Stream (key.LinkLocal ∷ key.Flow ∷ key.LinkLocalFlow ∷ []) Same _ refl
      (λ t p5. next_list e key.LinkLocal (key.Flow ∷ key.LinkLocalFlow ∷ []) Same _ refl
      (λ p p6. next_list e key.Flow (key.LinkLocalFlow ∷ []) Same _ refl
      (λ f p7. next_list e key.LinkLocalFlow [] Same _ refl
      (λ q p8. (refl, same_arrays e format s b l t p f q is p2 p3 p4 p5 p6 p7 p8))))))))

  pub lists_alone : get_member (key_text key.LinkLocal) e.members ≡ None
      → get_member (key_text key.LinkLocalFlow) e.members ≡ None
      → Told Same (wrongs e (key.Station ∷ key.Bridge ∷ key.Link ∷ key.Stream ∷ key.Flow ∷ []))
      (tables_at e key.Station >>= λ s. tables_at e key.Bridge >>= λ b. tables_at e key.Link >>= λ l.
      tables_at e key.Stream >>= λ t. tables_at e key.LinkLocal >>= λ p. tables_at e key.Flow >>= λ f.
      tables_at e key.LinkLocalFlow >>= λ q. Ok (arrays format s b l t p f q))
  lists_alone none none_there =
      next_list e key.Station (key.Bridge ∷ key.Link ∷ key.Stream ∷ key.Flow ∷ []) Same _ refl
      (λ s p2. next_list e key.Bridge (key.Link ∷ key.Stream ∷ key.Flow ∷ []) Same _ refl
      (λ b p3. next_list e key.Link (key.Stream ∷ key.Flow ∷ []) Same _ refl
      (λ l p4. next_list e key.Stream (key.Flow ∷ []) Same _ refl
      (λ t p5. no_list e key.LinkLocal (key.Flow ∷ []) Same _ none (λ p p6. next_list e key.Flow [] Same _ refl
      (λ f p7. no_list e key.LinkLocalFlow [] Same _ none_there
      (λ q p8. (refl, same_arrays e format s b l t p f q is p2 p3 p4 p5 p6 p7 p8))))))))

-- a top table, read in some format
abbrev top_in : Format → Members → Entry
top_in format tree = record { format = format; table = Top; number = 0; members = tree }

top_told_in : (format : Format) (tree : Members) → Told (λ (a : Arrays). a ≡ told_arrays (top_in format tree))
    (table_fault (top_in format tree)) (arrays_in (top_in format tree))
top_told_in format tree =
    let e : Entry = top_in format tree in
    let H : Arrays → Type 0 = λ a. a ≡ told_arrays e in
    chained (λ (u : Unit {0}). IsFormed e) H (form_fault e) (wrongs e (keys_in e)) (formed e)
    (λ u. format_at e >>= λ format. tables_at e key.Station >>= λ s. tables_at e key.Bridge >>= λ b.
    tables_at e key.Link >>= λ l. tables_at e key.Stream >>= λ t. tables_at e key.LinkLocal >>= λ p.
    tables_at e key.Flow >>= λ f. tables_at e key.LinkLocalFlow >>= λ q. Ok (arrays format s b l t p f q))
    (formed_told e) (λ u formed. by format formed)
  where
    read : Entry → Result Arrays DocumentFault
    read e = format_at e >>= λ format. tables_at e key.Station >>= λ s. tables_at e key.Bridge >>= λ b.
        tables_at e key.Link >>= λ l. tables_at e key.Stream >>= λ t. tables_at e key.LinkLocal >>= λ p.
        tables_at e key.Flow >>= λ f. tables_at e key.LinkLocalFlow >>= λ q. Ok (arrays format s b l t p f q)

    alone : (f : Format) → has_unknown (top_keys One) tree ≡ false → has (top_in f tree) key.Format ≡ true
        → Told (λ (a : Arrays). a ≡ told_arrays (top_in f tree)) (wrongs (top_in f tree) (top_keys One))
        (read (top_in f tree))
    alone f known there =
        let e : Entry = top_in f tree in
        chained (λ (g : Format). g ≡ format_told tree) (λ (a : Arrays). a ≡ told_arrays e) (wrong e key.Format)
        (wrongs e (key.Station ∷ key.Bridge ∷ key.Link ∷ key.Stream ∷ key.Flow ∷ [])) (format_at e) _
        (format_there e there)
        (λ g is. lists_alone e g is (not_there (top_keys One) key.LinkLocal tree refl known)
        (not_there (top_keys One) key.LinkLocalFlow tree refl known))

    by : (f : Format) → IsFormed (top_in f tree)
        → Told (λ (a : Arrays). a ≡ told_arrays (top_in f tree)) (wrongs (top_in f tree) (keys_in (top_in f tree)))
        (read (top_in f tree))
    by One formed = alone One formed.known
        (stands (has (top_in One tree) key.Format) (not_missing (top_in One tree) 0 formed.complete (omega arith)))
    by Two formed = alone Two formed.known
        (stands (has (top_in Two tree) key.Format) (not_missing (top_in Two tree) 0 formed.complete (omega arith)))
    by Three formed =
        let e : Entry = top_in Three tree in
        chained (λ (g : Format). g ≡ format_told tree) (λ (a : Arrays). a ≡ told_arrays e) (wrong e key.Format)
        (wrongs e
        (key.Station ∷ key.Bridge ∷ key.Link ∷ key.Stream ∷ key.LinkLocal ∷ key.Flow ∷ key.LinkLocalFlow ∷ []))
        (format_at e) _ (format_there e (stands (has e key.Format) (not_missing e 0 formed.complete (omega arith))))
        (λ g is. all_lists e g is)

top_told : (tree : Members) → Told (λ (a : Arrays). a ≡ told_arrays (top_of tree)) (table_fault (top_of tree))
    (arrays_in (top_of tree))
top_told tree = top_told_in (format_told tree) tree

tree_told : (tree : Members)
    → Told (λ (x : file.DeclaredDocument). Any x) (pieces_fault (pieces_of (top_of tree))) (document_in tree)
tree_told tree =
    let e : Entry = top_of tree in
    chained (λ (a : Arrays). a ≡ told_arrays e) (λ (x : file.DeclaredDocument). Any x) (table_fault e)
    (pieces_fault (arrays_of e)) (arrays_in e) arrays_read (top_told tree)
    (λ a is. subst (λ (b : Arrays). Told (λ (x : file.DeclaredDocument). Any x) (pieces_fault (arrays_of e))
    (arrays_read b)) (sym is)
    (same_faults (λ (x : file.DeclaredDocument). Any x) (pieces_fault (pieces_read (told_arrays e)))
    (pieces_fault (arrays_of e)) (arrays_read (told_arrays e)) (ap pieces_fault (told_pieces tree))
    (arrays_told (told_arrays e))))

-- what is given is what is looked for
given_first : (ps : List Piece) (r : Result file.DeclaredDocument DocumentFault) (f : DocumentFault)
    → Told (λ (x : file.DeclaredDocument). Any x) (pieces_fault ps) r → r ≡ Err f → IsFirstOf ps f
given_first ps (Ok x) f t h = cc h
given_first ps (Err g) f t h =
    let same : g ≡ f = cc h in
    pieces_had ps f (t ∙ ap Some same)

first_given : (ps : List Piece) (r : Result file.DeclaredDocument DocumentFault) (f : DocumentFault)
    → Told (λ (x : file.DeclaredDocument). Any x) (pieces_fault ps) r → IsFirstOf ps f → r ≡ Err f
first_given ps (Ok x) f t h = absurd (none-some f (sym t.0 ∙ pieces_given ps f h))
first_given ps (Err g) f t h = ap Err (same_Some g f (sym t ∙ pieces_given ps f h))

-- a text with a document
abbrev document_by : Option Members → Result file.DeclaredDocument DocumentFault
document_by o = or_fault NotToml o >>= document_in

form_had : (text : List ℕ) (f : DocumentFault) (o : Option Members) → tree_of text ≡ o → document_by o ≡ Err f
    → IsFirstFormFault text f
form_had text f None e h =
    let same : NotToml ≡ f = cc h in
    inl (record { none = e; is = sym same })
form_had text f (Some tree) e h =
    inr (record {
      tree = tree;
      some = e;
      first = given_first (pieces_of (top_of tree)) (document_in tree) f (tree_told tree) h;
    })

form_given : (text : List ℕ) (f : DocumentFault) → IsFirstFormFault text f → document_of text ≡ Err f
form_given text f (inl h) = ap document_by h.none ∙ ap Err (sym h.is)
form_given text f (inr h) =
    ap document_by h.some
    ∙ first_given (pieces_of (top_of h.tree)) (document_in h.tree) f (tree_told h.tree) h.first

pub fault_is_first : FormFaultIsTheFirst
fault_is_first text f = (form_had text f (tree_of text) refl, form_given text f)
