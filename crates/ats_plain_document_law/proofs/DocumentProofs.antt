use Rattle.std.proofs.Common.{◌≡◌, ◌∙◌, ℕ, ◌+◌, ◌-◌, ◌*◌, suc, Bool, true, false, ◌∷◌, [], List, length, Option, Result}
use Rattle.std.proofs.Common.{Ok, Err, refl, sym, ap, ap₂, subst}
use Rattle.std.specs.Prelude.{if◌then◌else◌, nat_lt}
use Rattle.std.specs.Option.{option_or}
use Rattle.toml.specs.Data.{Members}
use Rattle.ats_num.specs.Failure.{◌>>=◌}
use Rattle.ats_network_table.specs.Walk.{Entry, format_at, formed}
use Rattle.ats_network_table.specs.declared.fault.DocumentFault.{DocumentFault}
use Rattle.ats_network_table.specs.declared.fault.DocumentFault.TheVariants.{Limit}
use Rattle.ats_network_table.specs.declared.format.Format.{Format}
use Rattle.ats_network_table.specs.declared.key.Key.TheVariants as key
use Rattle.ats_network_table.specs.declared.table.Table.{Table}
use Rattle.ats_network_table.specs.declared.table.Table.TheVariants.{Bridge, Flow, Link, LinkLocal, LinkLocalFlow}
use Rattle.ats_network_table.specs.declared.table.Table.TheVariants.{Station, Stream}
use Rattle.ats_network_toml.specs.Document.{DeclaredDocument, DeclaredLinkLocal, DeclaredLinkLocalFlow}
use Rattle.ats_network_toml.specs.Entries.{bridge_in, flow_in, link_in, link_local_flow_in, link_local_in, station_in}
use Rattle.ats_network_toml.specs.Entries.{stream_in}
use Rattle.ats_network_toml.specs.Reading.{Arrays, arrays_in, arrays_read, entries_from, entries_within, senders_for}
use Rattle.ats_network_toml.specs.Reading.{tables_at}
use Rattle.ats_network_toml.specs.declared.entries.BridgeEntry.{BridgeEntry}
use Rattle.ats_network_file.proofs.Steps.{both}
use Rattle.ats_plain_document_law.specs.Documents.{ArraysAreRead, DocumentsAreDeclared, DocumentsAreRead, bridges_of}
use Rattle.ats_plain_document_law.specs.Documents.{flows_of, link_local_flows_of, link_locals_of, links_of, stations_of}
use Rattle.ats_plain_document_law.specs.Documents.{streams_of}
use Rattle.ats_plain_document_law.specs.Faults.{fault_in, first_fault}
use Rattle.ats_plain_document_law.proofs.Steps.{Told, next, read_only, refused_by, then_ok}

-- What the arrays of a file give, one after another, and which fault they have.

abbrev GivesArrays : Entry → Arrays → Type 0
GivesArrays e x = (formed e ≡ Ok tt) × (format_at e ≡ Ok x.format) × (tables_at e key.Station ≡ Ok x.stations)
    × (tables_at e key.Bridge ≡ Ok x.bridges) × (tables_at e key.Link ≡ Ok x.links)
    × (tables_at e key.Stream ≡ Ok x.streams) × (tables_at e key.LinkLocal ≡ Ok x.link_locals)
    × (tables_at e key.Flow ≡ Ok x.flows) × (tables_at e key.LinkLocalFlow ≡ Ok x.link_local_flows)

abbrev arrays_fault : Entry → Option DocumentFault
arrays_fault e = first_fault (fault_in (formed e) ∷ fault_in (format_at e) ∷ fault_in (tables_at e key.Station)
    ∷ fault_in (tables_at e key.Bridge) ∷ fault_in (tables_at e key.Link) ∷ fault_in (tables_at e key.Stream)
    ∷ fault_in (tables_at e key.LinkLocal) ∷ fault_in (tables_at e key.Flow)
    ∷ fault_in (tables_at e key.LinkLocalFlow) ∷ [])

arrays_told : (e : Entry) → Told (GivesArrays e) (arrays_fault e) (arrays_in e)
arrays_told e =
    next (GivesArrays e) _ (formed e) _ (λ well is_well.
    next (GivesArrays e) _ (format_at e) _ (λ format is_format.
    next (GivesArrays e) _ (tables_at e key.Station) _ (λ stations is_stations.
    next (GivesArrays e) _ (tables_at e key.Bridge) _ (λ bridges is_bridges.
    next (GivesArrays e) _ (tables_at e key.Link) _ (λ links is_links.
    next (GivesArrays e) _ (tables_at e key.Stream) _ (λ streams is_streams.
    next (GivesArrays e) _ (tables_at e key.LinkLocal) _ (λ link_locals is_link_locals.
    next (GivesArrays e) _ (tables_at e key.Flow) _ (λ flows is_flows.
    next (GivesArrays e) _ (tables_at e key.LinkLocalFlow) _ (λ link_local_flows is_link_local_flows. (
      refl,
      (
        is_well,
        is_format,
        is_stations,
        is_bridges,
        is_links,
        is_streams,
        is_link_locals,
        is_flows,
        is_link_local_flows,
      ),
    ))))))))))

arrays_given : (e : Entry) (x : Arrays) → GivesArrays e x → arrays_in e ≡ Ok x
arrays_given e x is =
    then_ok (formed e) _ tt _ is.0
    (then_ok (format_at e) _ x.format _ is.1
    (then_ok (tables_at e key.Station) _ x.stations _ is.2
    (then_ok (tables_at e key.Bridge) _ x.bridges _ is.3
    (then_ok (tables_at e key.Link) _ x.links _ is.4
    (then_ok (tables_at e key.Stream) _ x.streams _ is.5
    (then_ok (tables_at e key.LinkLocal) _ x.link_locals _ is.6
    (then_ok (tables_at e key.Flow) _ x.flows _ is.7
    (then_ok (tables_at e key.LinkLocalFlow) _ x.link_local_flows _ is.8
    refl))))))))

arrays : ArraysAreRead
arrays = record {
  read = λ top a. (
    (λ h. read_only (GivesArrays top) (arrays_fault top) (arrays_in top) (arrays_told top) a h),
    (λ is. arrays_given top a is),
  );
  refused = λ top fault. refused_by (GivesArrays top) (arrays_fault top) (arrays_in top) (arrays_told top) fault;
}

-- an array has an entry for each of its tables
as_many : {A : Type 0} (read : Entry → Result A DocumentFault) (f : Format) (t : Table) (n : ℕ)
    (tables : List Members) (entries : List A) → entries_from read f t n tables ≡ Ok entries
    → length entries ≡ length tables
as_many {A} read f t n [] entries h =
    let same : [] ≡ entries = cc h in
    ap (λ (es : List A). length es) (sym same)
as_many {A} read f t n (ms ∷ rest) entries h =
    let one = both (read (record { format = f; table = t; number = n; members = ms })) _ entries h in
    let more = both (entries_from read f t (n + 1) rest) _ entries one.then in
    let same : one.first ∷ more.first ≡ entries = cc (more.then) in
    ap (λ (es : List A). length es) (sym same) ∙ ap suc (as_many read f t (n + 1) rest more.first more.is)

as_many_within : {A : Type 0} (read : Entry → Result A DocumentFault) (f : Format) (t : Table) (most many : ℕ)
    (tables : List Members) (entries : List A) → entries_within read f t most many tables ≡ Ok entries
    → length entries ≡ length tables
as_many_within {A} read f t most many tables entries h = by (nat_lt most many) h
  where
    by : (b : Bool) → (if b then Err (Limit t) else entries_from read f t 1 tables) ≡ Ok entries
        → length entries ≡ length tables
    by true g = cc g
    by false g = as_many read f t 1 tables entries g

-- how many senders two arrays stand for, by their tables
as_many_for : {A B C : Type 0} (alone : List A) (tables : List Members) (for_ports : List B) (links : List C)
    (joins : List Members) → length alone ≡ length tables → length links ≡ length joins
    → senders_for alone for_ports links ≡ length tables + length for_ports * (2 * length joins)
as_many_for alone tables for_ports links joins some over =
    ap₂ (λ (m k : ℕ). m + length for_ports * (2 * k)) some over

abbrev GivesDocument : Arrays → DeclaredDocument → Type 0
GivesDocument a x = (a.format ≡ x.format) × (stations_of a ≡ Ok x.stations) × (bridges_of a ≡ Ok x.bridges)
    × (links_of a ≡ Ok x.links) × (streams_of a ≡ Ok x.streams) × (link_locals_of a ≡ Ok x.link_locals)
    × (flows_of a ≡ Ok x.flows) × (link_local_flows_of a ≡ Ok x.link_local_flows)

abbrev document_fault : Arrays → Option DocumentFault
document_fault a = first_fault (fault_in (stations_of a) ∷ fault_in (bridges_of a) ∷ fault_in (links_of a)
    ∷ fault_in (streams_of a) ∷ fault_in (link_locals_of a) ∷ fault_in (flows_of a)
    ∷ fault_in (link_local_flows_of a) ∷ [])

-- the arrays with as many bridges as the stations that were read leave, and as many senders as links were
abbrev bridges_with : Arrays → ℕ → Result (List BridgeEntry) DocumentFault
bridges_with a stations =
    entries_within bridge_in a.format Bridge (1024 - stations) (length a.bridges) a.bridges

abbrev link_locals_with : Arrays → ℕ → Result (List DeclaredLinkLocal) DocumentFault
link_locals_with a senders = entries_within link_local_in a.format LinkLocal 4096 senders a.link_locals

abbrev link_local_flows_with : Arrays → ℕ → Result (List DeclaredLinkLocalFlow) DocumentFault
link_local_flows_with a senders =
    entries_within link_local_flow_in a.format LinkLocalFlow 4096 senders a.link_local_flows

-- a step that is the same as another, in front of others
next_same : {A B : Type 0} (G : B → Type 0) (o : Option DocumentFault) (r s : Result A DocumentFault)
    (k : A → Result B DocumentFault) → s ≡ r → ((x : A) → r ≡ Ok x → Told G o (k x))
    → Told G (option_or (fault_in r) o) (s >>= k)
next_same {A} G o r s k same each =
    subst (λ (q : Result A DocumentFault). Told G (option_or (fault_in r) o) (q >>= k)) (sym same) (next G o r k each)

document_told : (a : Arrays) → Told (GivesDocument a) (document_fault a) (arrays_read a)
document_told a =
    next (GivesDocument a) _ (stations_of a) _ (λ stations is_stations.
    let some_stations : length stations ≡ length a.stations =
    as_many_within station_in a.format Station 1024 (length a.stations) a.stations stations is_stations in
    next_same (GivesDocument a) _ (bridges_of a) _ _ (ap (bridges_with a) some_stations) (λ bridges is_bridges.
    next (GivesDocument a) _ (links_of a) _ (λ links is_links.
    let some_links : length links ≡ length a.links =
    as_many_within link_in a.format Link 2048 (length a.links) a.links links is_links in
    next (GivesDocument a) _ (streams_of a) _ (λ streams is_streams.
    let some_streams : length streams ≡ length a.streams =
    as_many_within stream_in a.format Stream 4096 (length a.streams) a.streams streams is_streams in
    next_same (GivesDocument a) _ (link_locals_of a) _ _ (ap (link_locals_with a)
    (as_many_for streams a.streams a.link_locals links a.links some_streams some_links))
    (λ link_locals is_link_locals.
    next (GivesDocument a) _ (flows_of a) _ (λ flows is_flows.
    let some_flows : length flows ≡ length a.flows =
    as_many_within flow_in a.format Flow 1024 (length a.flows) a.flows flows is_flows in
    next_same (GivesDocument a) _ (link_local_flows_of a) _ _ (ap (link_local_flows_with a)
    (as_many_for flows a.flows a.link_local_flows links a.links some_flows some_links))
    (λ link_local_flows is_link_local_flows.
    (refl, (refl, is_stations, is_bridges, is_links, is_streams, is_link_locals, is_flows, is_link_local_flows)))))))))

-- a document with its format at the end
abbrev with_format : DeclaredDocument → Format → Result DeclaredDocument DocumentFault
with_format d f = Ok (record d { format = f })

last : (a : Arrays) (d : DeclaredDocument) → a.format ≡ d.format → with_format d a.format ≡ Ok d
last a d is = ap (with_format d) is

document_given : (a : Arrays) (d : DeclaredDocument) → GivesDocument a d → arrays_read a ≡ Ok d
document_given a d is =
    let some_stations : length d.stations ≡ length a.stations =
    as_many_within station_in a.format Station 1024 (length a.stations) a.stations d.stations is.1 in
    let some_links : length d.links ≡ length a.links =
    as_many_within link_in a.format Link 2048 (length a.links) a.links d.links is.3 in
    let some_streams : length d.streams ≡ length a.streams =
    as_many_within stream_in a.format Stream 4096 (length a.streams) a.streams d.streams is.4 in
    let some_flows : length d.flows ≡ length a.flows =
    as_many_within flow_in a.format Flow 1024 (length a.flows) a.flows d.flows is.6 in
    then_ok (stations_of a) _ d.stations _ is.1
    (then_ok (bridges_with a (length d.stations)) _ d.bridges _ (ap (bridges_with a) some_stations ∙ is.2)
    (then_ok (links_of a) _ d.links _ is.3
    (then_ok (streams_of a) _ d.streams _ is.4
    (then_ok (link_locals_with a (senders_for d.streams a.link_locals d.links)) _ d.link_locals _
    (ap (link_locals_with a) (as_many_for d.streams a.streams a.link_locals d.links a.links some_streams some_links)
    ∙ is.5)
    (then_ok (flows_of a) _ d.flows _ is.6
    (then_ok (link_local_flows_with a (senders_for d.flows a.link_local_flows d.links)) _ d.link_local_flows _
    (ap (link_local_flows_with a) (as_many_for d.flows a.flows a.link_local_flows d.links a.links some_flows some_links)
    ∙ is.7)
    (last a d is.0)))))))

documents : DocumentsAreRead
documents = record {
  read = λ a d. (
    (λ h. read_only (GivesDocument a) (document_fault a) (arrays_read a) (document_told a) d h),
    (λ is. document_given a d is),
  );
  refused = λ a fault. refused_by (GivesDocument a) (document_fault a) (arrays_read a) (document_told a) fault;
  tree = λ tree. refl;
}

pub documents_are_declared : DocumentsAreDeclared
documents_are_declared = record { arrays = arrays; documents = documents }
