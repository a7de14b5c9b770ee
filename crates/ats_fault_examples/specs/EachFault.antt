use Rattle.std.specs.Prelude.{◌≡◌, ℕ, ◌++◌, codes, decimal}
use Rattle.ats_capture.specs.FaultText as records
use Rattle.ats_capture.specs.declared.fault.JoinFault.TheVariants as join
use Rattle.ats_certificate_file.specs.FaultText as certificate
use Rattle.ats_certificate_file.specs.declared.fault.CertFault.TheVariants as row
use Rattle.ats_network_file.specs.FaultText as network
use Rattle.ats_network_file.specs.Senders.{table_of}
use Rattle.ats_network_file.specs.declared.fault.NetFault.TheVariants.{BadPath, Form, IdentityTwice, Sender}
use Rattle.ats_network_file.specs.declared.fault.NetFault.TheVariants.{SenderTwice}
use Rattle.ats_network_file.specs.declared.fault.NetFault.TheVariants.{Topology}
use Rattle.ats_network_file.specs.declared.senders.SenderTable.{SenderTable}
use Rattle.ats_network_table.specs.Words.{key_text, table_text}
use Rattle.ats_network_table.specs.declared.fault.DocumentFault.TheVariants as form
use Rattle.ats_network_table.specs.declared.key.Key.{Key}
use Rattle.ats_network_table.specs.declared.table.Table.{Table}
use Rattle.ats_pcap.specs.FaultText as capture
use Rattle.ats_pcap.specs.declared.fault.CaptureFault.TheVariants as bytes
use Rattle.ats_request_file.specs.FaultText as requests
use Rattle.ats_request_file.specs.declared.fault.RequestFault.TheVariants as request
use Rattle.ats_schedule.specs.FaultText as schedule
use Rattle.ats_schedule.specs.declared.fault.ScheduleFault.TheVariants as release
use Rattle.ats_shape.specs.FaultText as shape
use Rattle.ats_shape.specs.declared.fault.ShapeFault.TheVariants as line
use Rattle.ats_streams.specs.Fault.{text_of}
use Rattle.ats_streams.specs.declared.fault.StreamFault.{StreamFault}
use Rattle.ats_topology.specs.declared.fault.TopologyFault.TheVariants as topology

-- The words of each fault, whatever its number, table, key and rule are. Refuses numbers that are left out, or told in
-- another way, at the top or from some number on.

-- of the form of a network file
pub record EachFormFault : Type 0 where
  pub missing : (t : Table) (n : ℕ) (k : Key) → network.fault_text (Form (form.Missing t n k))
      ≡ codes "missing " ++ (table_text t ++ codes " " ++ decimal n) ++ codes " " ++ key_text k
  pub unknown : (t : Table) (n : ℕ) → network.fault_text (Form (form.Unknown t n))
      ≡ codes "unknown " ++ table_text t ++ codes " " ++ decimal n
  pub kind : (t : Table) (n : ℕ) (k : Key) → network.fault_text (Form (form.WrongKind t n k))
      ≡ codes "kind " ++ (table_text t ++ codes " " ++ decimal n) ++ codes " " ++ key_text k
  pub limit : (t : Table) → network.fault_text (Form (form.Limit t)) ≡ codes "limit " ++ table_text t

-- of its nodes and links
pub record EachTopologyFault : Type 0 where
  pub node_twice : (n : ℕ) → network.fault_text (Topology (topology.NodeTwice n)) ≡ codes "node-twice " ++ decimal n
  pub link_twice : (n : ℕ) → network.fault_text (Topology (topology.LinkTwice n)) ≡ codes "link-twice " ++ decimal n
  pub self_link : (n : ℕ) → network.fault_text (Topology (topology.SelfLink n)) ≡ codes "self-link " ++ decimal n
  pub unknown_node : (n : ℕ) → network.fault_text (Topology (topology.UnknownNode n))
      ≡ codes "unknown-node " ++ decimal n
  pub station_links : (n : ℕ) → network.fault_text (Topology (topology.StationLinks n))
      ≡ codes "station-links " ++ decimal n
  pub bad_rate : (n : ℕ) → network.fault_text (Topology (topology.BadRate n)) ≡ codes "bad-rate " ++ decimal n
  pub bad_processing : (n : ℕ) → network.fault_text (Topology (topology.BadProcessing n))
      ≡ codes "bad-processing " ++ decimal n

-- of its streams and flows
pub record EachSenderFault : Type 0 where
  pub path : (t : SenderTable) (n : ℕ) → network.fault_text (BadPath t n)
      ≡ codes "bad-path " ++ table_text (table_of t) ++ codes " " ++ decimal n
  pub rule : (t : SenderTable) (n : ℕ) (fault : StreamFault) → network.fault_text (Sender t n fault)
      ≡ (table_text (table_of t) ++ codes " " ++ decimal n) ++ codes " " ++ text_of fault
  pub name : (t : SenderTable) (n : ℕ) → network.fault_text (SenderTwice t n)
      ≡ codes "sender-twice " ++ table_text (table_of t) ++ codes " " ++ decimal n
  pub identity : (n : ℕ) → network.fault_text (IdentityTwice n) ≡ codes "identity-twice " ++ decimal n

-- of the records of tables of values and of captures
pub record EachRecordFault : Type 0 where
  pub row_form : (n : ℕ) → certificate.fault_text (row.BadRow n) ≡ codes "bad-row " ++ decimal n
  pub row_port : (n : ℕ) → certificate.fault_text (row.UnknownPort n) ≡ codes "unknown-port " ++ decimal n
  pub row_number : (n : ℕ) → certificate.fault_text (row.BadNumber n) ≡ codes "bad-number " ++ decimal n
  pub row_order : (n : ℕ) → certificate.fault_text (row.RowOrder n) ≡ codes "row-order " ++ decimal n
  pub release_form : (n : ℕ) → schedule.fault_text (release.BadRow n) ≡ codes "bad-row " ++ decimal n
  pub release_name : (n : ℕ) → schedule.fault_text (release.UnknownName n) ≡ codes "unknown-name " ++ decimal n
  pub release_number : (n : ℕ) → schedule.fault_text (release.BadNumber n) ≡ codes "bad-number " ++ decimal n
  pub release_size : (n : ℕ) → schedule.fault_text (release.BadSize n) ≡ codes "bad-size " ++ decimal n
  pub release_time : (n : ℕ) → schedule.fault_text (release.TimeBack n) ≡ codes "time-back " ++ decimal n
  pub release_limit : (n : ℕ) → schedule.fault_text (release.Limit n) ≡ codes "limit " ++ decimal n
  pub long_record : (n : ℕ) → capture.fault_text (bytes.RecordTooLong n) ≡ codes "record-too-long " ++ decimal n
  pub cut_record : (n : ℕ) → capture.fault_text (bytes.CutShort n) ≡ codes "cut-short " ++ decimal n
  pub record_limit : (n : ℕ) → capture.fault_text (bytes.Limit n) ≡ codes "limit " ++ decimal n
  pub joined : (n : ℕ) → records.fault_text (join.Limit n) ≡ codes "limit " ++ decimal n

-- of the lines of request files and shape files
pub record EachLineFault : Type 0 where
  pub request_form : (n : ℕ) → requests.fault_text (request.BadLine n) ≡ codes "bad-line " ++ decimal n
  pub request_node : (n : ℕ) → requests.fault_text (request.UnknownNode n) ≡ codes "unknown-node " ++ decimal n
  pub request_path : (n : ℕ) → requests.fault_text (request.NoPath n) ≡ codes "no-path " ++ decimal n
  pub request_rule : (n : ℕ) (fault : StreamFault) → requests.fault_text (request.Stream n fault)
      ≡ text_of fault ++ codes " " ++ decimal n
  pub request_limit : (n : ℕ) → requests.fault_text (request.Limit n) ≡ codes "limit " ++ decimal n
  pub shape_form : (n : ℕ) → shape.fault_text (line.BadLine n) ≡ codes "bad-line " ++ decimal n
  pub shape_name : (n : ℕ) → shape.fault_text (line.NameTwice n) ≡ codes "name-twice " ++ decimal n
  pub shape_rule : (n : ℕ) (fault : StreamFault) → shape.fault_text (line.Stream n fault)
      ≡ text_of fault ++ codes " " ++ decimal n
  pub shape_unknown : (n : ℕ) → shape.fault_text (line.UnknownName n) ≡ codes "unknown-name " ++ decimal n
  pub shape_time : (n : ℕ) → shape.fault_text (line.TimeBack n) ≡ codes "time-back " ++ decimal n
  pub shape_limit : (n : ℕ) → shape.fault_text (line.Limit n) ≡ codes "limit " ++ decimal n

pub record EachFaultIsWritten : Type 0 where
  pub form : EachFormFault
  pub topology : EachTopologyFault
  pub sender : EachSenderFault
  pub record_fault : EachRecordFault
  pub line : EachLineFault
