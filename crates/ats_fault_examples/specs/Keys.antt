use Rattle.std.specs.Prelude.{◌≡◌, codes}
use Rattle.ats_network_table.specs.Words.{key_text, table_text}
use Rattle.ats_network_table.specs.declared.key.Key.TheVariants as key
use Rattle.ats_network_table.specs.declared.table.Table.TheVariants as table

-- The words of the tables and keys of a network file.

pub record TablesAreNamed : Type 0 where
  pub top : table_text table.Top ≡ codes "top"
  pub station : table_text table.Station ≡ codes "station"
  pub bridge : table_text table.Bridge ≡ codes "bridge"
  pub link : table_text table.Link ≡ codes "link"
  pub stream : table_text table.Stream ≡ codes "stream"
  pub flow : table_text table.Flow ≡ codes "flow"
  pub stream_at_ports : table_text table.LinkLocal ≡ codes "link_local"
  pub flow_at_ports : table_text table.LinkLocalFlow ≡ codes "link_local_flow"

-- the keys of the top, and those of stations, bridges and links
pub record TopologyKeysAreNamed : Type 0 where
  pub format : key_text key.Format ≡ codes "format"
  pub station : key_text key.Station ≡ codes "station"
  pub bridge : key_text key.Bridge ≡ codes "bridge"
  pub link : key_text key.Link ≡ codes "link"
  pub stream : key_text key.Stream ≡ codes "stream"
  pub flow : key_text key.Flow ≡ codes "flow"
  pub stream_at_ports : key_text key.LinkLocal ≡ codes "link_local"
  pub flow_at_ports : key_text key.LinkLocalFlow ≡ codes "link_local_flow"
  pub name : key_text key.Name ≡ codes "name"
  pub processing : key_text key.ProcessingNs ≡ codes "processing_ns"
  pub least_processing : key_text key.ProcessingMinNs ≡ codes "processing_min_ns"
  pub greatest_processing : key_text key.ProcessingMaxNs ≡ codes "processing_max_ns"
  pub residence : key_text key.ResidenceNs ≡ codes "residence_ns"
  pub deviation : key_text key.ClockPpm ≡ codes "clock_ppm"
  pub step : key_text key.ClockStepPs ≡ codes "clock_step_ps"
  pub one_end : key_text key.A ≡ codes "a"
  pub other_end : key_text key.B ≡ codes "b"
  pub rate : key_text key.Mbps ≡ codes "mbps"
  pub propagation : key_text key.PropagationNs ≡ codes "propagation_ns"

-- the further keys of streams and flows
pub record SenderKeysAreNamed : Type 0 where
  pub path : key_text key.Path ≡ codes "path"
  pub paths : key_text key.Paths ≡ codes "paths"
  pub from : key_text key.From ≡ codes "from"
  pub to : key_text key.To ≡ codes "to"
  pub class : key_text key.Class ≡ codes "class"
  pub classes : key_text key.Classes ≡ codes "classes"
  pub rate : key_text key.RateBps ≡ codes "rate_bps"
  pub burst : key_text key.BurstBits ≡ codes "burst_bits"
  pub least : key_text key.MinOctets ≡ codes "min_octets"
  pub greatest : key_text key.MaxOctets ≡ codes "max_octets"
  pub deadline : key_text key.DeadlineNs ≡ codes "deadline_ns"
  pub address : key_text key.Address ≡ codes "address"
  pub vlan : key_text key.Vlan ≡ codes "vlan"

pub record KeysAreNamed : Type 0 where
  pub tables : TablesAreNamed
  pub topology : TopologyKeysAreNamed
  pub senders : SenderKeysAreNamed
