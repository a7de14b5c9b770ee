use Rattle.std.specs.Prelude.{◌≡◌, codes}
use Rattle.ats_capture.specs.FaultText as records
use Rattle.ats_capture.specs.declared.fault.JoinFault.TheVariants as join
use Rattle.ats_capture.specs.declared.fault.RecordsFault.TheVariants as file
use Rattle.ats_certificate_file.specs.FaultText as certificate
use Rattle.ats_certificate_file.specs.declared.fault.CertFault.TheVariants as row
use Rattle.ats_command_due.specs.Generated.{gen_fault_text}
use Rattle.ats_gen.specs.declared.fault.GenFault.TheVariants as made
use Rattle.ats_pcap.specs.FaultText as capture
use Rattle.ats_pcap.specs.declared.fault.CaptureFault.TheVariants as bytes
use Rattle.ats_request_file.specs.FaultText as requests
use Rattle.ats_request_file.specs.declared.fault.RequestFault.TheVariants as request
use Rattle.ats_schedule.specs.FaultText as schedule
use Rattle.ats_schedule.specs.declared.fault.ScheduleFault.TheVariants as release
use Rattle.ats_shape.specs.FaultText as shape
use Rattle.ats_shape.specs.declared.fault.ShapeFault.TheVariants as line
use Rattle.ats_streams.specs.declared.fault.StreamFault.TheVariants as rule

-- The words of the faults of the other files, one of each.

-- of a certificate and of a schedule, with the number of the record
pub record CertificateFaultsAreWritten : Type 0 where
  pub bad_row : certificate.fault_text (row.BadRow 11) ≡ codes "bad-row 11"
  pub unknown_port : certificate.fault_text (row.UnknownPort 12) ≡ codes "unknown-port 12"
  pub bad_number : certificate.fault_text (row.BadNumber 13) ≡ codes "bad-number 13"
  pub row_order : certificate.fault_text (row.RowOrder 14) ≡ codes "row-order 14"

pub record ScheduleFaultsAreWritten : Type 0 where
  pub bad_row : schedule.fault_text (release.BadRow 21) ≡ codes "bad-row 21"
  pub unknown_name : schedule.fault_text (release.UnknownName 22) ≡ codes "unknown-name 22"
  pub bad_number : schedule.fault_text (release.BadNumber 23) ≡ codes "bad-number 23"
  pub bad_size : schedule.fault_text (release.BadSize 24) ≡ codes "bad-size 24"
  pub time_back : schedule.fault_text (release.TimeBack 25) ≡ codes "time-back 25"
  pub limit : schedule.fault_text (release.Limit 26) ≡ codes "limit 26"

-- of a request file and of a shape file, with the number of the line; a stream's with the rule that it breaks
pub record RequestFaultsAreWritten : Type 0 where
  pub bad_line : requests.fault_text (request.BadLine 31) ≡ codes "bad-line 31"
  pub unknown_node : requests.fault_text (request.UnknownNode 32) ≡ codes "unknown-node 32"
  pub no_path : requests.fault_text (request.NoPath 33) ≡ codes "no-path 33"
  pub bad_class : requests.fault_text (request.Stream 34 rule.BadClass) ≡ codes "bad-class 34"
  pub bad_rate : requests.fault_text (request.Stream 35 rule.BadRate) ≡ codes "bad-rate 35"
  pub bad_sizes : requests.fault_text (request.Stream 36 rule.BadSizes) ≡ codes "bad-sizes 36"
  pub short_burst : requests.fault_text (request.Stream 37 rule.BurstBelowFrame) ≡ codes "burst-below-frame 37"
  pub stream_limit : requests.fault_text (request.Stream 38 rule.Limit) ≡ codes "limit 38"
  pub limit : requests.fault_text (request.Limit 39) ≡ codes "limit 39"

pub record ShapeFaultsAreWritten : Type 0 where
  pub bad_line : shape.fault_text (line.BadLine 41) ≡ codes "bad-line 41"
  pub name_twice : shape.fault_text (line.NameTwice 42) ≡ codes "name-twice 42"
  pub bad_rate : shape.fault_text (line.Stream 43 rule.BadRate) ≡ codes "bad-rate 43"
  pub bad_sizes : shape.fault_text (line.Stream 44 rule.BadSizes) ≡ codes "bad-sizes 44"
  pub short_burst : shape.fault_text (line.Stream 45 rule.BurstBelowFrame) ≡ codes "burst-below-frame 45"
  pub stream_limit : shape.fault_text (line.Stream 46 rule.Limit) ≡ codes "limit 46"
  pub unknown_name : shape.fault_text (line.UnknownName 47) ≡ codes "unknown-name 47"
  pub time_back : shape.fault_text (line.TimeBack 48) ≡ codes "time-back 48"
  pub limit : shape.fault_text (line.Limit 49) ≡ codes "limit 49"

-- of the bytes of a capture, with the number of the record where there is one; of its file; and of what comes of it
pub record CaptureFaultsAreWritten : Type 0 where
  pub bad_magic : capture.fault_text bytes.BadMagic ≡ codes "bad-magic"
  pub pcapng : capture.fault_text bytes.PcapNg ≡ codes "pcapng"
  pub bad_version : capture.fault_text bytes.BadVersion ≡ codes "bad-version"
  pub bad_link : capture.fault_text bytes.BadLink ≡ codes "bad-link"
  pub too_long : capture.fault_text (bytes.RecordTooLong 51) ≡ codes "record-too-long 51"
  pub cut_short : capture.fault_text (bytes.CutShort 52) ≡ codes "cut-short 52"
  pub limit : capture.fault_text (bytes.Limit 53) ≡ codes "limit 53"
  pub failed : records.records_fault_text file.Failed ≡ codes "read-failed"
  pub file_too_long : records.records_fault_text file.TooLong ≡ codes "too-long"
  pub of_bytes : records.records_fault_text (file.Capture (bytes.CutShort 54)) ≡ codes "cut-short 54"
  pub joined : records.fault_text (join.Limit 55) ≡ codes "limit 55"

-- why no releases are made for a network
pub record MakingFaultsAreWritten : Type 0 where
  pub no_stream : gen_fault_text made.NoStream ≡ codes "no-stream"
  pub limit : gen_fault_text made.Limit ≡ codes "limit"

pub record FileFaultsAreWritten : Type 0 where
  pub certificate : CertificateFaultsAreWritten
  pub schedule : ScheduleFaultsAreWritten
  pub requests : RequestFaultsAreWritten
  pub shape : ShapeFaultsAreWritten
  pub capture : CaptureFaultsAreWritten
  pub making : MakingFaultsAreWritten
