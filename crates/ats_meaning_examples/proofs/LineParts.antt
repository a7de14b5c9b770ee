use Rattle.std.proofs.Common.{ℕ, ◌-◌, Bool, cond, List, [], ◌∷◌, ◌++◌, Option}
use Rattle.std.proofs.Common.{refl, ap}
use Rattle.std.specs.Prelude.{codes, decimal}
use Rattle.std.specs.Option.{option_map}
use Rattle.std.proofs.lemmas.Bool.{le-ltb, lt-ltb}
use Rattle.ats_topology.specs.Topology.{node_at}
use Rattle.ats_network.specs.Network.{DeclaredNetwork}
use Rattle.ats_network.specs.Senders.{sender_at}
use Rattle.ats_port_names.specs.PortName.{port_name}
use Rattle.ats_settings.specs.declared.setting.Setting.{Setting}
use Rattle.ats_settings.specs.declared.setting.Shaping.{Shaping}
use Rattle.ats_network_text.specs.Text.{classes_text, port_line, rates_line, sender_line, totals_line}
use Rattle.ats_explain_text.specs.Text.{bound_text, counts_text, hop_line, stream_line, wait_text}
use Rattle.ats_explain_text.specs.Text.{port_line as load_line}
use Rattle.ats_settings_text.specs.Text.{header, number_text}
use Rattle.ats_buffer_text.specs.Text.{buffers_text, row_line}
use Rattle.ats_admission_text.specs.Text.{given_text, reason_end}
use Rattle.ats_meaning_examples.specs.Lines.{BridgeLines, ExplainLines, LinesAreWritten, ShowLines, VerdictLines}

-- Lines, by unfolding.

show_lines : ShowLines
unfolding port_line sender_line classes_text rates_line totals_line
show_lines = record {
  ends = λ t p. refl;
  port = λ t n p. refl;
  sender = λ t word name classes path. refl;
  classes = λ class classes. refl;
  flow = λ t f. refl;
  rate = λ c. refl;
  rates = λ t s. refl;
  totals = λ ports streams flows. refl;
}

explain_lines : ExplainLines
unfolding stream_line wait_text bound_text hop_line load_line counts_text
explain_lines = record {
  late = λ m over. ap (λ (b : Bool). cond b (codes " late " ++ decimal (m.sum - m.deadline))
      (codes " slack " ++ decimal (m.deadline - m.sum))) (lt-ltb m.deadline m.sum over);
  slack = λ m within. ap (λ (b : Bool). cond b (codes " late " ++ decimal (m.sum - m.deadline))
      (codes " slack " ++ decimal (m.deadline - m.sum))) (le-ltb m.deadline m.sum within);
  stream = λ name m. refl;
  listener = λ name station m. refl;
  hop = λ t port class parts. refl;
  sender = λ name. refl;
  no_sender = refl;
  stay = λ stay. refl;
  no_stay = refl;
  load = λ t port load. refl;
  totals = λ totals. refl;
}

-- the fields of a setting with this scheduler, if any
fields_with : DeclaredNetwork → Setting → Option Shaping → List (List ℕ)
fields_with network s told =
    (node_at network.topology.nodes s.bridge).name
    ∷ port_name network.topology s.received_from
    ∷ decimal s.class
    ∷ (sender_at network s.sender).name
    ∷ number_text (option_map (λ (x : Shaping). x.rate_bps) told)
    ∷ number_text (option_map (λ (x : Shaping). x.burst_bits) told)
    ∷ decimal s.max_octets
    ∷ number_text (option_map (λ (x : Shaping). x.residence_ns) told)
    ∷ port_name network.topology s.sent_to
    ∷ decimal s.class_there
    ∷ []

bridge_lines : BridgeLines
unfolding header buffers_text row_line fields_with
bridge_lines = record {
  all_settings = λ network all. refl;
  shaped = λ network s told is. ap (fields_with network s) is;
  unshaped = λ network s none. ap (fields_with network s) none;
  all_buffers = λ t rows bits peaks. refl;
  buffer = λ t row bits. refl;
  peak = λ t row bits most. refl;
  own_peak = λ peaks n. refl;
  no_peak = λ n. refl;
}

verdict_lines : VerdictLines
unfolding given_text reason_end
verdict_lines = record {
  overloaded = λ t port class load. refl;
  residence = λ t port class need. refl;
  deadline = λ t stream sum. refl;
  for_listener = λ t stream station sum. refl;
  missing = λ t port class. refl;
  stray = λ t port class. refl;
  field = λ t port class field right. refl;
  wait = λ t port class least. refl;
  of_network = λ t why. refl;
  admitted = λ t name class sum. refl;
  withdrawn = λ t name. refl;
  because = λ t name why. refl;
  no_class = λ t name reasons. refl;
}

pub lines_are_written : LinesAreWritten
lines_are_written =
    record { show = show_lines; explain = explain_lines; bridges = bridge_lines; verdicts = verdict_lines }
