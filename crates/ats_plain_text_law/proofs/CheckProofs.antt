use Rattle.std.proofs.Common.{◌∙◌, ℕ, List, ◌++◌, Option, ap, append_assoc}
use Rattle.std.specs.Prelude.{codes, decimal}
use Rattle.std.specs.List.{flat_map}
use Rattle.ats_topology.specs.Topology.{DeclaredTopology}
use Rattle.ats_streams.specs.Stream.{DeclaredStream}
use Rattle.ats_network.specs.Listeners.{Listener, listener_text}
use Rattle.ats_certificate.specs.Certificate.{bound_on}
use Rattle.ats_certificate.specs.declared.row.Row.{Row}
use Rattle.ats_verdict_text.specs.Text.{hop_line, listener_lines}
use Rattle.ats_plain_text_law.specs.Checks.{BoundsAreTold, CheckIsWritten, RefusalsAreWritten}

-- What `check` prints.

refusals : RefusalsAreWritten
refusals = record {
  higher = λ t port class right. simp append_assoc;
  equal = λ t port class right. simp append_assoc;
  bursts = λ t port class right. simp append_assoc;
  lower = λ t port class right. simp append_assoc;
  least = λ t port class right. simp append_assoc;
  bound = λ t port class right. simp append_assoc;
}

-- the lines of a listener, by its name
abbrev lines_by : DeclaredTopology → List Row → DeclaredStream → Listener → Option (List ℕ) → List ℕ
lines_by t rows s l name =
    flat_map (hop_line t rows s) l.leg ++ codes "sum " ++ listener_text s.name name ++ codes " "
    ++ decimal (bound_on rows s l.route) ++ codes "\n"

bounds : BoundsAreTold
unfolding listener_lines hop_line
bounds = record {
  first = λ t rows s l none. ap (lines_by t rows s l) none;
  further = λ t rows s l station is. ap (lines_by t rows s l) is ∙ simp append_assoc;
}

pub check_is_written : CheckIsWritten
check_is_written = record {
  refusals = refusals;
  bounds = bounds;
}
