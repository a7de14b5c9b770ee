-- Beside the path of a stream that comes or goes, the least bounds are the same.
use Rattle.std.proofs.Common.{◌≡◌, ℕ, Bool, false, cond, Some, length, sym, ap, ◌∙◌, arith}
use Rattle.ats_topology.specs.Topology.{DeclaredTopology}
use Rattle.ats_streams.specs.Stream.{DeclaredStream}
use Rattle.ats_network.specs.Network.{DeclaredNetwork}
use Rattle.ats_certificate.specs.PortSums.{is_used}
use Rattle.ats_certificate.specs.declared.row.Row.{Row}
use Rattle.ats_bound.specs.Least.{least_row}
use Rattle.ats_admission_law.specs.Laws.{StaysSame}
use Rattle.ats_admission_law.specs.Less.{IsLessBy}
use Rattle.ats_admission_law.proofs.Others.{other_ports_stay}
use Rattle.ats_admission_users.specs.Users.{has_port}
use Rattle.ats_admission_state.specs.Kept.{least_bound}
use Rattle.ats_admission_state.specs.Laws.{BoundsStayBeside}

same_beside : (old new : DeclaredNetwork) (x : DeclaredStream) (port class : ℕ) → IsLessBy old new x
    → has_port port x.ports ≡ false → least_bound new port class ≡ least_bound old port class
same_beside old new x port class is off =
    let s : StaysSame old new (port, class) = other_ports_stay old new x port class is off in
    ap (λ (b : Bool). cond b (least_row new (port, class)).bound 0) s.used
    ∙ ap (λ (row : Row). cond (is_used old port class) row.bound 0) s.row

pub bounds_stay_beside : BoundsStayBeside
bounds_stay_beside old new x bounds is =
    let same : length new.topology.ports ≡ length old.topology.ports =
    ap (λ (t : DeclaredTopology). length t.ports) is.topology in
    record {
      left = λ before. record {
        count = before.count ∙ sym same;
        each = λ port class within least most off.
            before.each port class (omega (arith, same, within)) least most off
            ∙ ap Some (sym (same_beside old new x port class is off));
      };
      entered = λ before. record {
        count = before.count ∙ same;
        each = λ port class within least most off.
            before.each port class (omega (arith, same, within)) least most off
            ∙ ap Some (same_beside old new x port class is off);
      };
    }
