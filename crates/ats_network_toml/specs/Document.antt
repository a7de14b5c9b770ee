use Rattle.std.specs.Prelude.{ℕ, ◌≤◌, ◌<◌, ◌+◌, ◌*◌, ◌^◌, List, length, Option}
use Rattle.std.specs.Option.{ForSome}
use Rattle.ats_network_table.specs.Walk.{IsIdentity}
use Rattle.ats_network_table.specs.declared.format.Format.{Format}
use Rattle.ats_network_toml.specs.declared.entries.StationEntry.{StationEntry}
use Rattle.ats_network_toml.specs.declared.entries.BridgeEntry.{BridgeEntry}
use Rattle.ats_network_toml.specs.declared.entries.LinkEntry.{LinkEntry}

-- the names of a path's nodes, or of its two ends alone
pub data DeclaredRoute : Type 0 where
  path : List (List ℕ) → DeclaredRoute
  ends : List ℕ → List ℕ → DeclaredRoute

-- what a file declares of a stream: a route to each of its listeners, that to the first one first, and the classes that
-- stand there
pub record DeclaredStream : Type 0 where
  pub name : List ℕ
  pub routes : List DeclaredRoute
  pub classes : List ℕ
  pub rate_bps : ℕ
  pub burst_bits : ℕ
  pub min_octets : ℕ
  pub max_octets : ℕ
  pub deadline_ns : ℕ
  pub identity : Option (ℕ × ℕ)

-- what a file declares of a flow
pub record DeclaredFlow : Type 0 where
  pub name : List ℕ
  pub route : DeclaredRoute
  pub max_octets : ℕ

-- what a file declares of a stream for each port
pub record DeclaredLinkLocal : Type 0 where
  pub name : List ℕ
  pub class : ℕ
  pub rate_bps : ℕ
  pub burst_bits : ℕ
  pub min_octets : ℕ
  pub max_octets : ℕ
  pub deadline_ns : ℕ

-- what a file declares of a flow for each port
pub record DeclaredLinkLocalFlow : Type 0 where
  pub name : List ℕ
  pub max_octets : ℕ

-- what a network file declares: its format, and lists in file order
pub record DeclaredDocument : Type 0 where
  pub format : Format
  pub stations : List StationEntry
  pub bridges : List BridgeEntry
  pub links : List LinkEntry
  pub streams : List DeclaredStream
  pub link_locals : List DeclaredLinkLocal
  pub flows : List DeclaredFlow
  pub link_local_flows : List DeclaredLinkLocalFlow

-- a path has at least two nodes
abbrev pub IsRoute : DeclaredRoute → Type 0
IsRoute (path names) = 2 ≤ length names
IsRoute (ends from to) = Unit {0}

-- what each stream entry keeps
pub record IsStreamEntry (stream : DeclaredStream) : Type 0 where
  pub identity : ForSome stream.identity IsIdentity

-- `-` and the number of a port behind a name make a name
abbrev pub IsShortName : List ℕ → Type 0
IsShortName name = length name ≤ 26

-- how many streams the first two arrays stand for, and how many flows: an entry for each port for two at each link
abbrev pub streams_for : DeclaredDocument → ℕ
streams_for d = length d.streams + length d.link_locals * (2 * length d.links)

abbrev pub flows_for : DeclaredDocument → ℕ
flows_for d = length d.flows + length d.link_local_flows * (2 * length d.links)

-- the limits that each document keeps
pub record IsDocument (document : DeclaredDocument) : Type 0 where
  pub nodes : length document.stations + length document.bridges ≤ 1024
  pub links : length document.links ≤ 2048
  pub streams : length document.streams ≤ 4096
  pub link_locals : length document.link_locals < 2 ^ 31
  pub all_streams : streams_for document ≤ 4096
  pub flows : length document.flows ≤ 1024
  pub link_local_flows : length document.link_local_flows < 2 ^ 31
  pub all_flows : flows_for document ≤ 4096
