use Rattle.std.specs.Prelude.{◌≡◌, ◌⊎◌, ℕ, List, [], ◌∷◌, map, pos, codes, Option, None, Some, Ok}
use Rattle.std.specs.List.{AllZip}
use Rattle.toml.specs.Data.{Data, Items, Members, array, get_member, integer, item, no_items, string, table}
use Rattle.ats_network_table.specs.Kinds.{address_of}
use Rattle.ats_network_table.specs.declared.format.Format.{Format}
use Rattle.ats_network_table.specs.declared.format.Format.TheVariants.{One, Three, Two}
use Rattle.ats_network_toml.specs.Document as file
use Rattle.ats_network_toml.specs.Reading.{document_of, tree_of}
use Rattle.ats_network_toml.specs.declared.entries.BridgeEntry.{BridgeEntry}
use Rattle.ats_network_toml.specs.declared.entries.LinkEntry.{LinkEntry}
use Rattle.ats_network_toml.specs.declared.entries.StationEntry.{StationEntry}

-- What a network file declares, table by table and key by key, of all texts: what is declared stands in the text, each
-- name and number with its own key, and in the order of the text.

-- an array of such items
abbrev pub items_of : {A : Type 0} → (A → Data) → List A → Items
items_of back [] = no_items
items_of back (x ∷ xs) = item (back x) (items_of back xs)

-- an array of texts, and an array of numbers
abbrev pub texts : List (List ℕ) → Data
texts ts = array (items_of string ts)

abbrev pub numbers : List ℕ → Data
numbers ns = array (items_of (λ n. integer (pos n)) ns)

-- with a key stands a text, a number, an array of texts, an array of numbers, or an array of arrays of texts
abbrev pub HasText : Members → List ℕ → List ℕ → Type 0
HasText ms k text = get_member k ms ≡ Some (string text)

abbrev pub HasNumber : Members → List ℕ → ℕ → Type 0
HasNumber ms k n = get_member k ms ≡ Some (integer (pos n))

abbrev pub HasTexts : Members → List ℕ → List (List ℕ) → Type 0
HasTexts ms k ts = get_member k ms ≡ Some (texts ts)

abbrev pub HasNumbers : Members → List ℕ → List ℕ → Type 0
HasNumbers ms k ns = get_member k ms ≡ Some (numbers ns)

abbrev pub HasLists : Members → List ℕ → List (List (List ℕ)) → Type 0
HasLists ms k lists = get_member k ms ≡ Some (array (items_of texts lists))

-- with a key stands a number or nothing, and then it is this one
abbrev pub HasNumberOr : ℕ → Members → List ℕ → ℕ → Type 0
HasNumberOr absent ms k n = HasNumber ms k n ⊎ ((get_member k ms ≡ None) × (n ≡ absent))

pub record IsStationTable (ms : Members) (s : StationEntry) : Type 0 where
  pub name : HasText ms (codes "name") s.name

-- the keys of a bridge's least and greatest processing time
abbrev pub least_key : Format → List ℕ
least_key One = codes "processing_ns"
least_key Two = codes "processing_min_ns"
least_key Three = codes "processing_min_ns"

abbrev pub greatest_key : Format → List ℕ
greatest_key One = codes "processing_ns"
greatest_key Two = codes "processing_max_ns"
greatest_key Three = codes "processing_max_ns"

-- a number of a bridge's clock, which is 0 where it is left out, and in formats 1 and 2
abbrev pub HasClock : Format → Members → List ℕ → ℕ → Type 0
HasClock One ms k n = n ≡ 0
HasClock Two ms k n = n ≡ 0
HasClock Three ms k n = HasNumberOr 0 ms k n

pub record IsBridgeTable (format : Format) (ms : Members) (b : BridgeEntry) : Type 0 where
  pub name : HasText ms (codes "name") b.name
  pub least : HasNumber ms (least_key format) b.processing_min_ns
  pub greatest : HasNumber ms (greatest_key format) b.processing_max_ns
  pub residence : HasNumber ms (codes "residence_ns") b.residence_ns
  pub deviation : HasClock format ms (codes "clock_ppm") b.clock_ppm
  pub step : HasClock format ms (codes "clock_step_ps") b.clock_step_ps

pub record IsLinkTable (ms : Members) (l : LinkEntry) : Type 0 where
  pub one_end : HasText ms (codes "a") l.a
  pub other_end : HasText ms (codes "b") l.b
  pub rate : HasNumber ms (codes "mbps") l.mbps
  pub propagation : HasNumber ms (codes "propagation_ns") l.propagation_ns

-- a stream has one route, by the names along it
pub record HasPath (ms : Members) (routes : List file.DeclaredRoute) : Type 0 where
  pub names : List (List ℕ)
  pub stand : HasTexts ms (codes "path") names
  pub are : routes ≡ file.path names ∷ []

-- or several
pub record HasPaths (ms : Members) (routes : List file.DeclaredRoute) : Type 0 where
  pub paths : List (List (List ℕ))
  pub stand : HasLists ms (codes "paths") paths
  pub are : routes ≡ map file.path paths

-- or one between two ends
pub record HasEnds (ms : Members) (routes : List file.DeclaredRoute) : Type 0 where
  pub from : List ℕ
  pub to : List ℕ
  pub begins : HasText ms (codes "from") from
  pub ends : HasText ms (codes "to") to
  pub are : routes ≡ file.ends from to ∷ []

-- or several from one end to others
pub record HasSeveralEnds (ms : Members) (routes : List file.DeclaredRoute) : Type 0 where
  pub from : List ℕ
  pub listeners : List (List ℕ)
  pub begins : HasText ms (codes "from") from
  pub ends : HasTexts ms (codes "to") listeners
  pub are : routes ≡ map (file.ends from) listeners

abbrev pub HasRoutes : Members → List file.DeclaredRoute → Type 0
HasRoutes ms routes = HasPath ms routes ⊎ (HasPaths ms routes ⊎ (HasEnds ms routes ⊎ HasSeveralEnds ms routes))

-- one class, or several
abbrev pub HasClasses : Members → List ℕ → Type 0
HasClasses ms classes =
    ((class : ℕ) × HasNumber ms (codes "class") class × (classes ≡ class ∷ []))
    ⊎ HasNumbers ms (codes "classes") classes

-- an address and a VLAN identifier, or neither
pub record HasAddress (ms : Members) (identity : Option (ℕ × ℕ)) : Type 0 where
  pub text : List ℕ
  pub address : ℕ
  pub vlan : ℕ
  pub stands : HasText ms (codes "address") text
  pub writes : address_of text ≡ Some address
  pub beside : HasNumber ms (codes "vlan") vlan
  pub is : identity ≡ Some (address, vlan)

abbrev pub HasIdentity : Members → Option (ℕ × ℕ) → Type 0
HasIdentity ms identity = HasAddress ms identity ⊎ ((get_member (codes "address") ms ≡ None) × (identity ≡ None))

pub record IsStreamTable (ms : Members) (s : file.DeclaredStream) : Type 0 where
  pub name : HasText ms (codes "name") s.name
  pub routes : HasRoutes ms s.routes
  pub classes : HasClasses ms s.classes
  pub rate : HasNumber ms (codes "rate_bps") s.rate_bps
  pub burst : HasNumber ms (codes "burst_bits") s.burst_bits
  pub least : HasNumber ms (codes "min_octets") s.min_octets
  pub greatest : HasNumber ms (codes "max_octets") s.max_octets
  pub deadline : HasNumberOr 1000000000 ms (codes "deadline_ns") s.deadline_ns
  pub identity : HasIdentity ms s.identity

pub record IsLinkLocalTable (ms : Members) (s : file.DeclaredLinkLocal) : Type 0 where
  pub name : HasText ms (codes "name") s.name
  pub class : HasNumber ms (codes "class") s.class
  pub rate : HasNumber ms (codes "rate_bps") s.rate_bps
  pub burst : HasNumber ms (codes "burst_bits") s.burst_bits
  pub least : HasNumber ms (codes "min_octets") s.min_octets
  pub greatest : HasNumber ms (codes "max_octets") s.max_octets
  pub deadline : HasNumberOr 1000000000 ms (codes "deadline_ns") s.deadline_ns

-- a flow has one route, by the names along it or between two ends
pub record IsFlowTable (ms : Members) (f : file.DeclaredFlow) : Type 0 where
  pub name : HasText ms (codes "name") f.name
  pub route : HasPath ms (f.route ∷ []) ⊎ HasEnds ms (f.route ∷ [])
  pub greatest : HasNumber ms (codes "max_octets") f.max_octets

pub record IsLinkLocalFlowTable (ms : Members) (f : file.DeclaredLinkLocalFlow) : Type 0 where
  pub name : HasText ms (codes "name") f.name
  pub greatest : HasNumber ms (codes "max_octets") f.max_octets

-- with a key at the top stands an array of tables, or nothing, and the entries are those of its tables, one by one
pub record StandIn {A : Type 0} (Is : Members → A → Type 0) (tree : Members) (k : List ℕ) (entries : List A) : Type 0
  where
    pub tables : List Members
    pub stand : (get_member k tree ≡ Some (array (items_of table tables)))
        ⊎ ((get_member k tree ≡ None) × (tables ≡ []))
    pub each : AllZip Is tables entries

pub record IsDeclaredIn (tree : Members) (d : file.DeclaredDocument) : Type 0 where
  pub stations : StandIn IsStationTable tree (codes "station") d.stations
  pub bridges : StandIn (IsBridgeTable d.format) tree (codes "bridge") d.bridges
  pub links : StandIn IsLinkTable tree (codes "link") d.links
  pub streams : StandIn IsStreamTable tree (codes "stream") d.streams
  pub link_locals : StandIn IsLinkLocalTable tree (codes "link_local") d.link_locals
  pub flows : StandIn IsFlowTable tree (codes "flow") d.flows
  pub link_local_flows : StandIn IsLinkLocalFlowTable tree (codes "link_local_flow") d.link_local_flows

-- so it is of each document that a text declares; `each_has_its_number` of `ats_network_file_law` says which format
abbrev pub TablesAreRead : Type 0
TablesAreRead = (text : List ℕ) (tree : Members) (d : file.DeclaredDocument) → tree_of text ≡ Some tree
    → document_of text ≡ Ok d → IsDeclaredIn tree d
