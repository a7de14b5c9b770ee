use Rattle.std.specs.Prelude.{◌≡◌, ℕ, List, ◌++◌, Some, None, codes, decimal}
use Rattle.std.specs.List.{flat_map}
use Rattle.ats_topology.specs.Topology.{DeclaredTopology}
use Rattle.ats_port_names.specs.PortName.{port_name}
use Rattle.ats_streams.specs.Stream.{DeclaredStream}
use Rattle.ats_network.specs.Listeners.{Listener}
use Rattle.ats_certificate.specs.Certificate.{bound_on}
use Rattle.ats_certificate.specs.declared.row.Row.{Row}
use Rattle.ats_checker.specs.declared.refusal.Field.TheVariants.{Bound, Bursts, Equal, Higher, Least, Lower}
use Rattle.ats_checker.specs.declared.refusal.Refusal.TheVariants.{FieldWrong}
use Rattle.ats_verdict_text.specs.Text.{hop_line, listener_lines, refusal_text}

-- which column of a row does not hold, at which port and for which class, and what stands there by right
pub record RefusalsAreWritten : Type 0 where
  pub higher : (t : DeclaredTopology) (port class right : ℕ) → refusal_text t (FieldWrong port class Higher right)
      ≡ codes "field " ++ port_name t port ++ codes " " ++ decimal class ++ codes " higher " ++ decimal right
  pub equal : (t : DeclaredTopology) (port class right : ℕ) → refusal_text t (FieldWrong port class Equal right)
      ≡ codes "field " ++ port_name t port ++ codes " " ++ decimal class ++ codes " equal " ++ decimal right
  pub bursts : (t : DeclaredTopology) (port class right : ℕ) → refusal_text t (FieldWrong port class Bursts right)
      ≡ codes "field " ++ port_name t port ++ codes " " ++ decimal class ++ codes " bursts " ++ decimal right
  pub lower : (t : DeclaredTopology) (port class right : ℕ) → refusal_text t (FieldWrong port class Lower right)
      ≡ codes "field " ++ port_name t port ++ codes " " ++ decimal class ++ codes " lower " ++ decimal right
  pub least : (t : DeclaredTopology) (port class right : ℕ) → refusal_text t (FieldWrong port class Least right)
      ≡ codes "field " ++ port_name t port ++ codes " " ++ decimal class ++ codes " least " ++ decimal right
  pub bound : (t : DeclaredTopology) (port class right : ℕ) → refusal_text t (FieldWrong port class Bound right)
      ≡ codes "field " ++ port_name t port ++ codes " " ++ decimal class ++ codes " bound " ++ decimal right

-- of a certificate that holds a listener is told: the bound at each port of its own leg, and the sum of those on its
-- whole route, beside the name of the stream, and of its station where it is a further one
pub record BoundsAreTold : Type 0 where
  pub first : (t : DeclaredTopology) (rows : List Row) (s : DeclaredStream) (l : Listener) → l.name ≡ None
      → listener_lines t rows s l
      ≡ flat_map (hop_line t rows s) l.leg ++ codes "sum " ++ s.name ++ codes " "
      ++ decimal (bound_on rows s l.route) ++ codes "\n"
  pub further : (t : DeclaredTopology) (rows : List Row) (s : DeclaredStream) (l : Listener) (station : List ℕ)
      → l.name ≡ Some station → listener_lines t rows s l
      ≡ flat_map (hop_line t rows s) l.leg ++ codes "sum " ++ s.name ++ codes " " ++ station ++ codes " "
      ++ decimal (bound_on rows s l.route) ++ codes "\n"

pub record CheckIsWritten : Type 0 where
  pub refusals : RefusalsAreWritten
  pub bounds : BoundsAreTold
