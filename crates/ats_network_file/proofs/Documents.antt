use Rattle.std.proofs.Common.{◌≡◌, ℕ, ◌+◌, ◌-◌, ◌^◌, ◌<◌, ◌≤◌, Bool, true, false, cond, List, [], ◌∷◌, length, Option}
use Rattle.std.proofs.Common.{Some, None, Result, Ok, Err, refl, sym, ap, ◌∙◌, subst}
use Rattle.std.specs.Prelude.{nat_lt, ◌&&◌, map, option_and_then}
use Rattle.std.specs.Option.{option_map, option_or}
use Rattle.std.proofs.lemmas.List.{length-map}
use Rattle.std.specs.List.{All}
use Rattle.std.specs.Option.{ForSome}
use Rattle.std.proofs.lemmas.List.Elements.{All-nil, All-cons}
use Rattle.toml.specs.Data.{Data, Members, get_member}
use Rattle.ats_network_table.specs.Kinds.{address_in, name_in, one_or_more}
use Rattle.ats_network_table.specs.Walk.{Entry, has, formed, name_at, whole_at, classes_at, identity_at}
use Rattle.ats_network_table.specs.Walk.{at, IsIdentity, has_paths, listeners_at, may_branch, path_at, paths_at, top_of}
use Rattle.ats_network_table.specs.Words.{key_text}
use Rattle.ats_network_table.specs.declared.fault.DocumentFault.{DocumentFault}
use Rattle.ats_network_table.specs.declared.fault.DocumentFault.TheVariants as fault
use Rattle.ats_network_table.specs.declared.format.Format.{Format}
use Rattle.ats_network_table.specs.declared.format.Format.TheVariants.{One, Two, Three}
use Rattle.ats_network_table.specs.declared.key.Key.TheVariants as key
use Rattle.ats_network_table.specs.declared.table.Table.{Table}
use Rattle.ats_network_table.specs.declared.table.Table.TheVariants as table
use Rattle.ats_network_toml.specs.Document.{DeclaredDocument, DeclaredStream, DeclaredFlow, DeclaredRoute, ends, path}
use Rattle.ats_network_toml.specs.Document.{DeclaredLinkLocal, DeclaredLinkLocalFlow}
use Rattle.ats_network_toml.specs.Entries.{station_in, bridge_in, link_in, stream_in, flow_in, routes_at}
use Rattle.ats_network_toml.specs.Entries.{link_local_in, link_local_flow_in, numbers_in}
use Rattle.ats_network_toml.specs.Reading.{Arrays, entries_from, entries_in, arrays_in, arrays_read, document_in}
use Rattle.ats_network_toml.specs.Reading.{document_of, entries_within, format_in, senders_for, tree_of}
use Rattle.ats_num.specs.Failure.{◌>>=◌, or_fault}
use Rattle.ats_network_toml.specs.declared.entries.StationEntry.{StationEntry}
use Rattle.ats_network_toml.specs.declared.entries.BridgeEntry.{BridgeEntry}
use Rattle.ats_network_toml.specs.declared.entries.LinkEntry.{LinkEntry}
use Rattle.ats_network_file.specs.Reading.{IsBeforeFormat3}
use Rattle.ats_network_file.proofs.Steps.{both, or_fault_ok}
use Rattle.ats_network_file.proofs.Identities.{address_kept, whole_kept}

-- What a document that is read keeps: its streams' identities, and that each stream of format 1 or 2 has one route.

-- the identity of an entry, where it has one, is one
abbrev pub Identified : DeclaredStream → Type 0
Identified stream = ForSome stream.identity IsIdentity

identity_from : (given : Bool) (address vlan : Result ℕ DocumentFault) → ((a : ℕ) → address ≡ Ok a → a < 2 ^ 48)
    → ((v : ℕ) → vlan ≡ Ok v → (1 ≤ v) × (v ≤ 4094))
    → (o : Option (ℕ × ℕ)) → cond given (address >>= λ a. vlan >>= λ v. Ok (Some (a, v))) (Ok None) ≡ Ok o
    → ForSome o IsIdentity
identity_from false address vlan f g o h = λ pair is. cc
identity_from true (Err e) vlan f g o h = cc
identity_from true (Ok a) (Err e) f g o h = cc
identity_from true (Ok a) (Ok v) f g o h = λ pair is.
    let same : (a, v) ≡ pair = cc in
    let is_one : IsIdentity (a, v) =
    record { address = f a refl; vlan_least = (g v refl).0; vlan_most = (g v refl).1 } in
    subst (λ (p : ℕ × ℕ). IsIdentity p) same is_one

identity_kept : (e : Entry) (o : Option (ℕ × ℕ)) → identity_at e ≡ Ok o → ForSome o IsIdentity
identity_kept e o h =
    identity_from (has e key.Address) (at e key.Address address_in) (whole_at e key.Vlan 1 4094)
    (λ a is. address_kept (get_member (key_text key.Address) e.members) a
    (or_fault_ok (fault.WrongKind e.table e.number key.Address) _ a is))
    (λ v is. whole_kept 1 4094 (get_member (key_text key.Vlan) e.members) v
    (or_fault_ok (fault.WrongKind e.table e.number key.Vlan) _ v is))
    o h

ok_same : (x y : Result DeclaredStream DocumentFault) (r s : DeclaredStream) → x ≡ y → x ≡ Ok r → y ≡ Ok s → r ≡ s
ok_same x y r s h a b = cc

-- the identity that is read last is that of the stream
last_read : (identity : Result (Option (ℕ × ℕ)) DocumentFault) (made : Option (ℕ × ℕ) → DeclaredStream)
    (s : DeclaredStream) → ((o : Option (ℕ × ℕ)) → (made o).identity ≡ o)
    → (identity >>= λ o. Ok (made o)) ≡ Ok s → identity ≡ Ok s.identity
last_read (Err e) made s same h = cc
last_read (Ok o) made s same h =
    ap Ok (sym (same o) ∙ ap (λ (s : DeclaredStream). s.identity) (ok_same (Ok (made o)) (Ok s) (made o) s h refl refl))

stream_kept : (e : Entry) (s : DeclaredStream) → stream_in e ≡ Ok s → Identified s
stream_kept e s h =
    let well = both (formed e) _ s h in
    let name = both (name_at e key.Name) _ s well.then in
    let routes = both (routes_at e) _ s name.then in
    let classes = both (classes_at e) _ s routes.then in
    let numbers = both (numbers_in e) _ s classes.then in
    identity_kept e s.identity (last_read (identity_at e) _ s (λ o. refl) numbers.then)

-- where one listener may be declared, one is
one_name : (d : Data) (names : List (List ℕ)) → one_or_more false d ≡ Some names → length names ≡ 1
one_name d names h = by (name_in d) h
  where
    by : (o : Option (List ℕ)) → option_or (option_map (λ name. name ∷ []) o) None ≡ Some names → length names ≡ 1
    by None h = cc h
    by (Some name) h = let same : name ∷ [] ≡ names = cc h in
        ap (λ (ns : List (List ℕ)). length ns) (sym same)

one_listener : (several : Bool) (found : Option Data) (names : List (List ℕ)) → several ≡ false
    → option_and_then (one_or_more several) found ≡ Some names → length names ≡ 1
one_listener several None names one h = cc h
one_listener several (Some d) names one h =
    one_name d names (ap (λ (t : Bool). one_or_more t d) (sym one) ∙ h)

ends_are_one : (from : Result (List ℕ) DocumentFault) (listeners : Result (List (List ℕ)) DocumentFault)
    (routes : List DeclaredRoute) → ((names : List (List ℕ)) → listeners ≡ Ok names → length names ≡ 1)
    → (from >>= λ a. listeners >>= λ names. Ok (map (ends a) names)) ≡ Ok routes → length routes ≡ 1
ends_are_one (Err e) listeners routes one h = cc h
ends_are_one (Ok a) (Err e) routes one h = cc h
ends_are_one (Ok a) (Ok names) routes one h =
    let same : map (ends a) names ≡ routes = cc h in
    ap (λ (rs : List DeclaredRoute). length rs) (sym same) ∙ length-map names (ends a) ∙ one names refl

one_route_from : (given several : Bool) (path_given : Result (List (List ℕ)) DocumentFault)
    (paths : Result (List DeclaredRoute) DocumentFault) (between : Result (List DeclaredRoute) DocumentFault)
    (routes : List DeclaredRoute) → several ≡ false
    → ((rs : List DeclaredRoute) → between ≡ Ok rs → length rs ≡ 1)
    → cond given (path_given >>= λ names. Ok (path names ∷ [])) (cond several paths between) ≡ Ok routes
    → length routes ≡ 1
one_route_from true several (Err e) paths between routes none one h = cc h
one_route_from true several (Ok names) paths between routes none one h =
    let same : path names ∷ [] ≡ routes = cc h in
    ap (λ (rs : List DeclaredRoute). length rs) (sym same)
one_route_from false several path_given paths between routes none one h =
    one routes (ap (λ (t : Bool). cond t paths between) (sym none) ∙ h)

one_route : (e : Entry) (routes : List DeclaredRoute) → may_branch e.format e.table ≡ false
    → routes_at e ≡ Ok routes → length routes ≡ 1
one_route e routes one h =
    one_route_from (has e key.Path) (has_paths e) (path_at e) (paths_at e >>= λ paths. Ok (map path paths))
    (name_at e key.From >>= λ from. listeners_at e >>= λ listeners. Ok (map (ends from) listeners)) routes
    (ap (λ (t : Bool). t && has e key.Paths) one)
    (λ rs is. ends_are_one (name_at e key.From) (listeners_at e) rs
    (λ names found. one_listener (may_branch e.format e.table) (get_member (key_text key.To) e.members) names one
    (or_fault_ok (fault.WrongKind e.table e.number key.To) _ names found)) is) h

-- the routes that are read are those of the stream
routes_read : (classes : Result (List ℕ) DocumentFault) {N : Type 0} (numbers : Result N DocumentFault)
    (identity : Result (Option (ℕ × ℕ)) DocumentFault) (made : List ℕ → N → Option (ℕ × ℕ) → DeclaredStream)
    (routes : List DeclaredRoute) (s : DeclaredStream)
    → ((cs : List ℕ) (ns : N) (o : Option (ℕ × ℕ)) → (made cs ns o).routes ≡ routes)
    → (classes >>= λ cs. numbers >>= λ ns. identity >>= λ o. Ok (made cs ns o)) ≡ Ok s → routes ≡ s.routes
routes_read (Err e) numbers identity made routes s same h = cc h
routes_read (Ok cs) (Err e) identity made routes s same h = cc h
routes_read (Ok cs) (Ok ns) (Err e) made routes s same h = cc h
routes_read (Ok cs) (Ok ns) (Ok o) made routes s same h =
    sym (same cs ns o)
    ∙ ap (λ (x : DeclaredStream). x.routes) (ok_same (Ok (made cs ns o)) (Ok s) (made cs ns o) s h refl refl)

stream_single : (e : Entry) (s : DeclaredStream) → may_branch e.format e.table ≡ false → stream_in e ≡ Ok s
    → length s.routes ≡ 1
stream_single e s one h =
    let well = both (formed e) _ s h in
    let name = both (name_at e key.Name) _ s well.then in
    let routes = both (routes_at e) _ s name.then in
    subst (λ (rs : List DeclaredRoute). length rs ≡ 1)
    (routes_read (classes_at e) (numbers_in e) (identity_at e) _ routes.first s (λ cs ns o. refl) routes.then)
    (one_route e routes.first one routes.is)

-- what a stream entry keeps in a text of format 1 or 2, and in each
pub record IsKept (before : Type 0) (stream : DeclaredStream) : Type 0 where
  pub identified : Identified stream
  pub single : before → length stream.routes ≡ 1

-- each entry of an array that is read keeps what an entry there keeps
array_kept : {A : Type 0} (P : A → Type 0) (read : Entry → Result A DocumentFault) (f : Format) (t : Table)
    → ((n : ℕ) (ms : Members) (x : A)
    → read (record { format = f; table = t; number = n; members = ms }) ≡ Ok x → P x)
    → (n : ℕ) (tables : List Members) (xs : List A) → entries_from read f t n tables ≡ Ok xs → All P xs
array_kept P read f t keeps n [] xs h =
    let none : [] ≡ xs = cc in
    subst (All P) none (All-nil P)
array_kept P read f t keeps n (ms ∷ tables) xs h =
    let entry : Entry = record { format = f; table = t; number = n; members = ms } in
    let one = both (read entry) (λ x. entries_from read f t (n + 1) tables >>= λ more. Ok (x ∷ more)) xs h in
    let rest = both (entries_from read f t (n + 1) tables) (λ more. Ok (one.first ∷ more)) xs one.then in
    let kept : All P rest.first = array_kept P read f t keeps (n + 1) tables rest.first rest.is in
    let same : one.first ∷ rest.first ≡ xs = cc (rest.then) in
    subst (All P) same (All-cons P one.first rest.first (keeps n ms one.first one.is) kept)

-- each entry that is read keeps what an entry keeps
pub entries_kept : {A : Type 0} (P : A → Type 0) (read : Entry → Result A DocumentFault)
    → ((e : Entry) (x : A) → read e ≡ Ok x → P x)
    → (f : Format) (t : Table) (n : ℕ) (tables : List Members) (xs : List A) → entries_from read f t n tables ≡ Ok xs
    → All P xs
entries_kept P read keeps f t n tables xs h =
    array_kept P read f t (λ k ms x is. keeps (record { format = f; table = t; number = k; members = ms }) x is) n
    tables xs h

-- no stream may branch but in format 3
alone_in : (f : Format) → (f ≡ Three → ⊥) → may_branch f table.Stream ≡ false
alone_in One other = refl
alone_in Two other = refl
alone_in Three other = absurd (other refl)

streams_kept : (before : Type 0) (f : Format) (tables : List Members) (xs : List DeclaredStream)
    → (before → f ≡ Three → ⊥) → entries_in stream_in f table.Stream 4096 tables ≡ Ok xs → All (IsKept before) xs
streams_kept before f tables xs other h = by (nat_lt 4096 (length tables)) h
  where
    keeps : (n : ℕ) (ms : Members) (s : DeclaredStream)
        → stream_in (record { format = f; table = table.Stream; number = n; members = ms }) ≡ Ok s
        → IsKept before s
    keeps n ms s h =
        let e : Entry = record { format = f; table = table.Stream; number = n; members = ms } in
        record { identified = stream_kept e s h; single = λ b. stream_single e s (alone_in f (other b)) h }

    by : (over : Bool)
        → cond over (Err (fault.Limit table.Stream)) (entries_from stream_in f table.Stream 1 tables) ≡ Ok xs
        → All (IsKept before) xs
    by true h = cc
    by false h = array_kept (IsKept before) stream_in f table.Stream keeps 1 tables xs h

-- the document that is read
pub read_is : (x y : DeclaredDocument) → (let r : Result DeclaredDocument DocumentFault = Ok x in r) ≡ Ok y → x ≡ y
read_is x y h = cc h

arrays_from : (before : Type 0) (format : Format) (stations : Result (List StationEntry) DocumentFault)
    (bridges : List StationEntry → Result (List BridgeEntry) DocumentFault)
    (links : Result (List LinkEntry) DocumentFault)
    (streams : Result (List DeclaredStream) DocumentFault)
    (at_ports : List LinkEntry → List DeclaredStream → Result (List DeclaredLinkLocal) DocumentFault)
    (flows : Result (List DeclaredFlow) DocumentFault)
    (flows_there : List LinkEntry → List DeclaredFlow → Result (List DeclaredLinkLocalFlow) DocumentFault)
    → ((xs : List DeclaredStream) → streams ≡ Ok xs → All (IsKept before) xs)
    → (d : DeclaredDocument)
    → (stations >>= λ stations. bridges stations >>= λ bridges. links >>= λ links. streams
    >>= λ streams. at_ports links streams >>= λ link_locals. flows >>= λ flows. flows_there links flows
    >>= λ link_local_flows.
    Ok (record {
      format = format;
      stations = stations;
      bridges = bridges;
      links = links;
      streams = streams;
      link_locals = link_locals;
      flows = flows;
      link_local_flows = link_local_flows;
    })) ≡ Ok d
    → All (IsKept before) d.streams
arrays_from before format stations bridges links streams at_ports flows flows_there kept d h =
    let a = both stations _ d h in
    let b = both (bridges a.first) _ d a.then in
    let c = both links _ d b.then in
    let s = both streams _ d c.then in
    let p = both (at_ports c.first s.first) _ d s.then in
    let l = both flows _ d p.then in
    let q = both (flows_there c.first l.first) _ d l.then in
    let same : s.first ≡ d.streams = ap (λ (x : DeclaredDocument). x.streams) (read_is _ d q.then) in
    subst (All (IsKept before)) same (kept s.first s.is)

-- and it has the format of its arrays
format_from : (format : Format) (stations : Result (List StationEntry) DocumentFault)
    (bridges : List StationEntry → Result (List BridgeEntry) DocumentFault)
    (links : Result (List LinkEntry) DocumentFault)
    (streams : Result (List DeclaredStream) DocumentFault)
    (at_ports : List LinkEntry → List DeclaredStream → Result (List DeclaredLinkLocal) DocumentFault)
    (flows : Result (List DeclaredFlow) DocumentFault)
    (flows_there : List LinkEntry → List DeclaredFlow → Result (List DeclaredLinkLocalFlow) DocumentFault)
    (d : DeclaredDocument)
    → (stations >>= λ stations. bridges stations >>= λ bridges. links >>= λ links. streams
    >>= λ streams. at_ports links streams >>= λ link_locals. flows >>= λ flows. flows_there links flows
    >>= λ link_local_flows.
    Ok (record {
      format = format;
      stations = stations;
      bridges = bridges;
      links = links;
      streams = streams;
      link_locals = link_locals;
      flows = flows;
      link_local_flows = link_local_flows;
    })) ≡ Ok d
    → format ≡ d.format
format_from format stations bridges links streams at_ports flows flows_there d h =
    let a = both stations _ d h in
    let b = both (bridges a.first) _ d a.then in
    let c = both links _ d b.then in
    let s = both streams _ d c.then in
    let p = both (at_ports c.first s.first) _ d s.then in
    let l = both flows _ d p.then in
    let q = both (flows_there c.first l.first) _ d l.then in
    ap (λ (x : DeclaredDocument). x.format) (read_is _ d q.then)

arrays_kept : (before : Type 0) (arrays : Arrays) (d : DeclaredDocument) → (before → arrays.format ≡ Three → ⊥)
    → arrays_read arrays ≡ Ok d → All (IsKept before) d.streams
arrays_kept before arrays d other h =
    let f = arrays.format in
    arrays_from before f (entries_in station_in f table.Station 1024 arrays.stations)
    (λ stations. entries_in bridge_in f table.Bridge (1024 - length stations) arrays.bridges)
    (entries_in link_in f table.Link 2048 arrays.links) (entries_in stream_in f table.Stream 4096 arrays.streams)
    (λ links streams. entries_within link_local_in f table.LinkLocal 4096
    (senders_for streams arrays.link_locals links) arrays.link_locals)
    (entries_in flow_in f table.Flow 1024 arrays.flows)
    (λ links flows. entries_within link_local_flow_in f table.LinkLocalFlow 4096
    (senders_for flows arrays.link_local_flows links) arrays.link_local_flows)
    (λ xs. streams_kept before f arrays.streams xs other) d h

pub format_read : (arrays : Arrays) (d : DeclaredDocument) → arrays_read arrays ≡ Ok d → arrays.format ≡ d.format
format_read arrays d h =
    let f = arrays.format in
    format_from f (entries_in station_in f table.Station 1024 arrays.stations)
    (λ stations. entries_in bridge_in f table.Bridge (1024 - length stations) arrays.bridges)
    (entries_in link_in f table.Link 2048 arrays.links) (entries_in stream_in f table.Stream 4096 arrays.streams)
    (λ links streams. entries_within link_local_in f table.LinkLocal 4096
    (senders_for streams arrays.link_locals links) arrays.link_locals)
    (entries_in flow_in f table.Flow 1024 arrays.flows)
    (λ links flows. entries_within link_local_flow_in f table.LinkLocalFlow 4096
    (senders_for flows arrays.link_local_flows links) arrays.link_local_flows) d h

-- what a document that is read keeps: each of its streams keeps it, and its format is the one that the text gives
pub record IsDocumentOf (text : List ℕ) (d : DeclaredDocument) : Type 0 where
  pub streams : All (IsKept (IsBeforeFormat3 text)) d.streams
  pub format : format_in text ≡ Ok d.format

pub document_kept : (text : List ℕ) (d : DeclaredDocument) → document_of text ≡ Ok d → IsDocumentOf text d
document_kept text d h =
    let tree = both (or_fault fault.NotToml (tree_of text)) document_in d h in
    let arrays =
    both (arrays_in (top_of tree.first)) arrays_read d tree.then in
    let format_is : format_in text ≡ Ok arrays.first.format =
    ap (λ (r : Result Members DocumentFault). r >>= λ ms.
    arrays_in (top_of ms) >>= λ a. Ok a.format) tree.is
    ∙ ap (λ (r : Result Arrays DocumentFault). r >>= λ a. Ok a.format) arrays.is in
    record {
      streams = arrays_kept (IsBeforeFormat3 text) arrays.first d (λ before is. before (format_is ∙ ap Ok is))
          arrays.then;
      format = format_is ∙ ap Ok (format_read arrays.first d arrays.then);
    }
