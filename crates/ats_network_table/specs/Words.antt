use Rattle.std.specs.Prelude.{ℕ, List, [], ◌∷◌, codes}
use Rattle.ats_network_table.specs.declared.table.Table.{Table}
use Rattle.ats_network_table.specs.declared.table.Table.TheVariants.{Top, Station, Bridge, Link, Stream, LinkLocal}
use Rattle.ats_network_table.specs.declared.table.Table.TheVariants.{Flow, LinkLocalFlow}
use Rattle.ats_network_table.specs.declared.format.Format.{Format}
use Rattle.ats_network_table.specs.declared.format.Format.TheVariants.{One, Two, Three}
use Rattle.ats_network_table.specs.declared.key.Key.{Key}
use Rattle.ats_network_table.specs.declared.key.Key.TheVariants as key

-- a table as a file writes it; the outermost one has no name there and is called `top`
abbrev pub table_text : Table → List ℕ
table_text Top = codes "top"
table_text Station = codes "station"
table_text Bridge = codes "bridge"
table_text Link = codes "link"
table_text Stream = codes "stream"
table_text LinkLocal = codes "link_local"
table_text Flow = codes "flow"
table_text LinkLocalFlow = codes "link_local_flow"

-- a key as a file writes it
abbrev pub key_text : Key → List ℕ
key_text key.Name = codes "name"
key_text key.Path = codes "path"
key_text key.Class = codes "class"
key_text key.RateBps = codes "rate_bps"
key_text key.BurstBits = codes "burst_bits"
key_text key.MinOctets = codes "min_octets"
key_text key.MaxOctets = codes "max_octets"
key_text key.From = codes "from"
key_text key.To = codes "to"
key_text key.DeadlineNs = codes "deadline_ns"
key_text key.Address = codes "address"
key_text key.Vlan = codes "vlan"
key_text key.A = codes "a"
key_text key.B = codes "b"
key_text key.Mbps = codes "mbps"
key_text key.PropagationNs = codes "propagation_ns"
key_text key.ProcessingNs = codes "processing_ns"
key_text key.ResidenceNs = codes "residence_ns"
key_text key.ProcessingMinNs = codes "processing_min_ns"
key_text key.ProcessingMaxNs = codes "processing_max_ns"
key_text key.Classes = codes "classes"
key_text key.Paths = codes "paths"
key_text key.ClockPpm = codes "clock_ppm"
key_text key.ClockStepPs = codes "clock_step_ps"
key_text key.Format = codes "format"
key_text key.Station = codes "station"
key_text key.Bridge = codes "bridge"
key_text key.Link = codes "link"
key_text key.Stream = codes "stream"
key_text key.LinkLocal = codes "link_local"
key_text key.Flow = codes "flow"
key_text key.LinkLocalFlow = codes "link_local_flow"

-- the keys of a bridge's least and of its greatest processing time: one in format 1
abbrev pub least_processing_key : Format → Key
least_processing_key One = key.ProcessingNs
least_processing_key Two = key.ProcessingMinNs
least_processing_key Three = key.ProcessingMinNs

abbrev pub greatest_processing_key : Format → Key
greatest_processing_key One = key.ProcessingNs
greatest_processing_key Two = key.ProcessingMaxNs
greatest_processing_key Three = key.ProcessingMaxNs

-- the keys of the top table: in format 3 it may have tables for each port
abbrev pub top_keys : Format → List Key
top_keys Three = key.Format ∷ key.Station ∷ key.Bridge ∷ key.Link ∷ key.Stream ∷ key.LinkLocal ∷ key.Flow
    ∷ key.LinkLocalFlow ∷ []
top_keys format = key.Format ∷ key.Station ∷ key.Bridge ∷ key.Link ∷ key.Stream ∷ key.Flow ∷ []

-- the keys of a bridge in files of a format: in format 3 it may have a clock
abbrev pub bridge_keys : Format → List Key
bridge_keys One = key.Name ∷ key.ProcessingNs ∷ key.ResidenceNs ∷ []
bridge_keys Two = key.Name ∷ key.ProcessingMinNs ∷ key.ProcessingMaxNs ∷ key.ResidenceNs ∷ []
bridge_keys Three = key.Name ∷ key.ProcessingMinNs ∷ key.ProcessingMaxNs ∷ key.ResidenceNs ∷ key.ClockPpm
    ∷ key.ClockStepPs ∷ []

-- the keys of a stream behind those of its routes
abbrev pub keys_behind_routes : List Key
keys_behind_routes = key.From ∷ key.To ∷ key.Class ∷ key.Classes ∷ key.RateBps ∷ key.BurstBits ∷ key.MinOctets
    ∷ key.MaxOctets ∷ key.DeadlineNs ∷ key.Address ∷ key.Vlan ∷ []

-- the keys of a stream: in format 3 it may have several paths
abbrev pub stream_keys : Format → List Key
stream_keys Three = key.Name ∷ key.Path ∷ key.Paths ∷ keys_behind_routes
stream_keys format = key.Name ∷ key.Path ∷ keys_behind_routes

-- the keys that a table may have in files of a format, in the order in which faults are looked for
abbrev pub keys_of : Format → Table → List Key
keys_of format Top = top_keys format
keys_of format Station = key.Name ∷ []
keys_of format Bridge = bridge_keys format
keys_of format Link = key.A ∷ key.B ∷ key.Mbps ∷ key.PropagationNs ∷ []
keys_of format Stream = stream_keys format
keys_of format LinkLocal = key.Name ∷ key.Class ∷ key.RateBps ∷ key.BurstBits ∷ key.MinOctets ∷ key.MaxOctets
    ∷ key.DeadlineNs ∷ []
keys_of format Flow = key.Name ∷ key.Path ∷ key.From ∷ key.To ∷ key.MaxOctets ∷ []
keys_of format LinkLocalFlow = key.Name ∷ key.MaxOctets ∷ []
