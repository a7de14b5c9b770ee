use Rattle.std.specs.Prelude.{◌≡◌, ℕ, ◌-◌, ◌<◌, ◌≤◌, ◌==◌, List, [], ◌∷◌, ◌++◌, codes, decimal, if◌then◌else◌}
use Rattle.std.specs.Prelude.{length, map, Option, Some, None, slice_get, slice_index}
use Rattle.std.specs.List.{enumerate_from, flat_map, list_all}
use Rattle.ats_topology.specs.Topology.{DeclaredTopology, node_at}
use Rattle.ats_topology.specs.Port.{port_at}
use Rattle.ats_topology.specs.declared.port.Port.{Port}
use Rattle.ats_streams.specs.Flow.{DeclaredFlow}
use Rattle.ats_clock.specs.declared.committed.Committed.{Committed}
use Rattle.ats_network.specs.Network.{DeclaredNetwork}
use Rattle.ats_network.specs.Sender.{Sender}
use Rattle.ats_network.specs.Senders.{sender_at}
use Rattle.ats_csv.specs.Plain.{text_of}
use Rattle.ats_port_names.specs.PortName.{port_name}
use Rattle.ats_certificate.specs.declared.row.Row.{Row}
use Rattle.ats_tally.specs.declared.reason.Reason.TheVariants as reason
use Rattle.ats_checker.specs.declared.refusal.Field.{Field}
use Rattle.ats_checker.specs.declared.refusal.Refusal.TheVariants as refusal
use Rattle.ats_explain.specs.declared.margin.Margin.{Margin}
use Rattle.ats_explain.specs.declared.parts.Parts.{Parts}
use Rattle.ats_explain.specs.declared.parts.Stay.{Stay}
use Rattle.ats_explain.specs.declared.totals.Totals.{Totals}
use Rattle.ats_settings.specs.declared.setting.Setting.{Setting}
use Rattle.ats_settings.specs.declared.setting.Shaping.{Shaping}
use Rattle.ats_requests.specs.declared.answer.Answer.TheVariants as answer
use Rattle.ats_requests.specs.declared.denied.Denied.TheVariants as denied
use Rattle.ats_tally.specs.declared.reason.Reason.{Reason}
use Rattle.ats_network_text.specs.Text as show
use Rattle.ats_explain_text.specs.Text as explain
use Rattle.ats_settings_text.specs.Text as settings
use Rattle.ats_buffer_text.specs.Text as buffers
use Rattle.ats_verdict_text.specs.Text as verdict
use Rattle.ats_admission_text.specs.Text as admission

-- The lines that `show`, `explain`, `settings`, `buffers`, `check` and `admit` print, of any numbers and names.

-- the names of both nodes of a port
abbrev pub ends_text : DeclaredTopology → ℕ → List ℕ
ends_text t p =
    (node_at t.nodes (port_at t.ports p).from).name ++ codes ">" ++ (node_at t.nodes (port_at t.ports p).to).name

-- of a port its number, nodes and times, and the earliest latency where it is less; of a stream or a flow a word, the
-- name, one class or each, and the ports; and totals
pub record ShowLines : Type 0 where
  pub ends : (t : DeclaredTopology) (p : ℕ) → port_name t p ≡ ends_text t p
  pub port : (t : DeclaredTopology) (n : ℕ) (p : Port) → show.port_line t (n, p)
      ≡ codes "port " ++ decimal n ++ codes " "
      ++ ((node_at t.nodes p.from).name ++ codes ">" ++ (node_at t.nodes p.to).name) ++ codes " "
      ++ decimal p.ps_per_bit ++ codes " " ++ decimal p.latency.0
      ++ (if p.latency.0 - p.earliest.0 == 0 then [] else (codes " " ++ decimal p.earliest.0)) ++ codes "\n"
  pub sender : (t : DeclaredTopology) (word name classes path : List ℕ) → show.sender_line t word name classes path
      ≡ word ++ codes " " ++ name ++ codes " " ++ show.classes_text classes
      ++ flat_map (λ p. codes " " ++ port_name t p) path ++ codes "\n"
  pub classes : (class : ℕ) (classes : List ℕ) → show.classes_text (class ∷ classes)
      ≡ decimal class ++ (if list_all (λ c. c == class) classes then []
      else flat_map (λ c. codes "," ++ decimal c) classes)
  pub flow : (t : DeclaredTopology) (f : DeclaredFlow) → show.flow_line t f
      ≡ show.sender_line t (codes "flow") f.name (0 ∷ []) f.path
  pub rate : (c : Committed) → show.committed_text c
      ≡ codes " " ++ decimal c.rate ++ codes ":" ++ decimal c.burst_bits
  pub rates : (t : DeclaredTopology) (s : Sender) → show.rates_line t s
      ≡ (if list_all (show.hop_is_declared t s) s.ports then []
      else (codes "rates " ++ s.name ++ flat_map (show.hop_text t s) s.ports ++ codes "\n"))
  pub totals : (ports streams flows : ℕ) → show.totals_line ports streams flows
      ≡ codes "total ports " ++ decimal ports ++ codes " streams " ++ decimal streams ++ codes " flows "
      ++ decimal flows ++ codes "\n"

-- a sum that is over the deadline is late by the rest, and one that is not has the rest as its slack; the parts of a
-- bound, with the stay where there is one; the load of a port; and totals
pub record ExplainLines : Type 0 where
  pub late : (m : Margin) → m.deadline < m.sum
      → explain.slack_text m ≡ codes " late " ++ decimal (m.sum - m.deadline)
  pub slack : (m : Margin) → m.sum ≤ m.deadline
      → explain.slack_text m ≡ codes " slack " ++ decimal (m.deadline - m.sum)
  pub stream : (name : List ℕ) (m : Margin) → explain.stream_line name None m
      ≡ codes "stream " ++ name ++ codes " sum " ++ decimal m.sum ++ codes " deadline " ++ decimal m.deadline
      ++ explain.slack_text m ++ codes "\n"
  pub listener : (name station : List ℕ) (m : Margin) → explain.stream_line name (Some station) m
      ≡ codes "listener " ++ (name ++ codes " " ++ station) ++ codes " sum " ++ decimal m.sum ++ codes " deadline "
      ++ decimal m.deadline ++ explain.slack_text m ++ codes "\n"
  pub hop : (t : DeclaredTopology) (port class : ℕ) (parts : Parts) → explain.hop_line t port class parts
      ≡ codes "hop " ++ port_name t port ++ codes " " ++ decimal class
      ++ ((codes " lower " ++ decimal parts.lower ++ codes " " ++ explain.sender_text parts.sender
      ++ codes " bursts " ++ decimal parts.bursts ++ codes " higher " ++ decimal parts.higher)
      ++ (codes " frame " ++ decimal parts.frame ++ codes " latency " ++ decimal parts.latency ++ codes " bound "
      ++ decimal parts.bound) ++ explain.stay_text parts.stay) ++ codes "\n"
  pub sender : (name : List ℕ) → explain.sender_text (Some name) ≡ name
  pub no_sender : explain.sender_text None ≡ codes "-"
  pub stay : (stay : Stay) → explain.stay_text (Some stay)
      ≡ codes " stay " ++ decimal stay.need ++ codes " of " ++ decimal stay.residence
  pub no_stay : explain.stay_text None ≡ []
  pub load : (t : DeclaredTopology) (port load : ℕ) → explain.port_line t port load
      ≡ codes "port " ++ port_name t port ++ codes " load " ++ decimal load ++ codes "\n"
  pub totals : (totals : Totals) → explain.totals_line totals
      ≡ (codes "total streams " ++ decimal totals.streams ++ codes " late " ++ decimal totals.late ++ codes " over "
      ++ decimal totals.over) ++ explain.tightest_text totals.tightest ++ codes "\n"

-- the ten fields of a setting of a stream, and of a flow; and the line of a row's buffer, with its peak or without
pub record BridgeLines : Type 0 where
  pub all_settings : (network : DeclaredNetwork) (all : List Setting) → settings.settings_text network all
      ≡ text_of ((codes "bridge" ∷ codes "received_from" ∷ codes "class" ∷ codes "stream" ∷ codes "rate_bps"
      ∷ codes "burst_bits" ∷ codes "max_octets" ∷ codes "residence_ns" ∷ codes "sent_to" ∷ codes "class_there" ∷ [])
      ∷ map (settings.fields_of network) all)
  pub shaped : (network : DeclaredNetwork) (s : Setting) (told : Shaping) → s.scheduler ≡ Some told
      → settings.fields_of network s
      ≡ (node_at network.topology.nodes s.bridge).name ∷ port_name network.topology s.received_from
      ∷ decimal s.class ∷ (sender_at network s.sender).name ∷ decimal told.rate_bps ∷ decimal told.burst_bits
      ∷ decimal s.max_octets ∷ decimal told.residence_ns ∷ port_name network.topology s.sent_to
      ∷ decimal s.class_there ∷ []
  pub unshaped : (network : DeclaredNetwork) (s : Setting) → s.scheduler ≡ None
      → settings.fields_of network s
      ≡ (node_at network.topology.nodes s.bridge).name ∷ port_name network.topology s.received_from
      ∷ decimal s.class ∷ (sender_at network s.sender).name ∷ [] ∷ [] ∷ decimal s.max_octets ∷ []
      ∷ port_name network.topology s.sent_to ∷ decimal s.class_there ∷ []
  pub all_buffers : (t : DeclaredTopology) (rows : List Row) (bits : List ℕ) (peaks : Option (List ℕ))
      → buffers.buffers_text t rows bits peaks
      ≡ flat_map (λ (n : ℕ × Row). buffers.row_line t n.1 (slice_index bits n.0) (buffers.peak_of peaks n.0))
      (enumerate_from 0 rows) ++ codes "rows " ++ decimal (length rows) ++ codes "\n"
  pub buffer : (t : DeclaredTopology) (row : Row) (bits : ℕ) → buffers.row_line t row bits None
      ≡ codes "buffer " ++ port_name t row.port ++ codes " " ++ decimal row.class ++ codes " " ++ decimal bits
      ++ [] ++ codes "\n"
  pub peak : (t : DeclaredTopology) (row : Row) (bits most : ℕ) → buffers.row_line t row bits (Some most)
      ≡ codes "buffer " ++ port_name t row.port ++ codes " " ++ decimal row.class ++ codes " " ++ decimal bits
      ++ (codes " peak " ++ decimal most) ++ codes "\n"
  pub own_peak : (peaks : List ℕ) (n : ℕ) → buffers.peak_of (Some peaks) n ≡ slice_get peaks n
  pub no_peak : (n : ℕ) → buffers.peak_of None n ≡ None

-- what a reason, a refusal and an answer say
pub record VerdictLines : Type 0 where
  pub overloaded : (t : DeclaredTopology) (port class load : ℕ)
      → verdict.reason_text t (reason.Overloaded port class load)
      ≡ codes "overloaded " ++ (port_name t port ++ codes " " ++ decimal class) ++ codes " " ++ decimal load
  pub residence : (t : DeclaredTopology) (port class need : ℕ)
      → verdict.reason_text t (reason.Residence port class need)
      ≡ codes "residence " ++ (port_name t port ++ codes " " ++ decimal class) ++ codes " " ++ decimal need
  pub deadline : (t : DeclaredTopology) (stream : List ℕ) (sum : ℕ)
      → verdict.reason_text t (reason.Deadline stream None sum)
      ≡ codes "deadline " ++ stream ++ codes " " ++ decimal sum
  pub for_listener : (t : DeclaredTopology) (stream station : List ℕ) (sum : ℕ)
      → verdict.reason_text t (reason.Deadline stream (Some station) sum)
      ≡ codes "deadline " ++ (stream ++ codes " " ++ station) ++ codes " " ++ decimal sum
  pub missing : (t : DeclaredTopology) (port class : ℕ) → verdict.refusal_text t (refusal.RowMissing port class)
      ≡ codes "row-missing " ++ port_name t port ++ codes " " ++ decimal class
  pub stray : (t : DeclaredTopology) (port class : ℕ) → verdict.refusal_text t (refusal.RowStray port class)
      ≡ codes "row-stray " ++ port_name t port ++ codes " " ++ decimal class
  pub field : (t : DeclaredTopology) (port class : ℕ) (field : Field) (right : ℕ)
      → verdict.refusal_text t (refusal.FieldWrong port class field right)
      ≡ codes "field " ++ (port_name t port ++ codes " " ++ decimal class) ++ codes " " ++ verdict.field_text field
      ++ codes " " ++ decimal right
  pub wait : (t : DeclaredTopology) (port class least : ℕ)
      → verdict.refusal_text t (refusal.WaitTooSmall port class least)
      ≡ codes "wait " ++ (port_name t port ++ codes " " ++ decimal class) ++ codes " " ++ decimal least
  pub of_network : (t : DeclaredTopology) (why : Reason) → verdict.refusal_text t (refusal.Network why)
      ≡ verdict.reason_text t why
  pub admitted : (t : DeclaredTopology) (name : List ℕ) (class sum : ℕ)
      → admission.answer_text t name (answer.Admitted class sum)
      ≡ codes "admitted " ++ name ++ (codes " " ++ decimal class ++ codes " " ++ decimal sum ++ codes "\n")
  pub withdrawn : (t : DeclaredTopology) (name : List ℕ) → admission.answer_text t name answer.Withdrawn
      ≡ codes "withdrawn " ++ name ++ codes "\n"
  pub because : (t : DeclaredTopology) (name : List ℕ) (why : Reason)
      → admission.answer_text t name (answer.Refused (denied.Because why))
      ≡ codes "denied " ++ name ++ (codes " " ++ verdict.reason_text t why ++ codes "\n")
  pub no_class : (t : DeclaredTopology) (name : List ℕ) (reasons : List Reason)
      → admission.answer_text t name (answer.Refused (denied.NoClass reasons))
      ≡ codes "denied " ++ name ++ (codes " no-class\n" ++ flat_map (λ (n : ℕ × Reason). codes "class "
      ++ decimal n.0 ++ (codes " " ++ verdict.reason_text t n.1 ++ codes "\n")) (enumerate_from 1 reasons))

pub record LinesAreWritten : Type 0 where
  pub show : ShowLines
  pub explain : ExplainLines
  pub bridges : BridgeLines
  pub verdicts : VerdictLines
