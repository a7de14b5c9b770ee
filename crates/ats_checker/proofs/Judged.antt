-- What the passes over rows and streams need of the passes before them.
use Rattle.std.proofs.Common.{◌≡◌, ℕ, ◌<◌, true, List, get_or, None, sym, ap, ◌∙◌, arith}
use Rattle.std.specs.List.{All}
use Rattle.ats_num.specs.declared.time.TheConstants.{PS_PER_SECOND}
use Rattle.ats_topology.specs.Port.{port_at}
use Rattle.ats_topology.specs.declared.port.Port.{Port}
use Rattle.ats_network.specs.Network.{DeclaredNetwork, IsNetwork, senders_of}
use Rattle.ats_certificate.specs.PortSums.{PortSums, port_sums, senders_at, is_used}
use Rattle.ats_certificate.specs.declared.row.Row.{Row}
use Rattle.ats_tally.specs.Waits.{least_wait, wait_for}
use Rattle.ats_tally.specs.Reason.{first_some, overload_in}
use Rattle.ats_tally.specs.Tally.{IsTally, sums_of}
use Rattle.ats_tally.specs.declared.tally.Tally.{Tally}
use Rattle.ats_tally.proofs.Places.{is_place}
use Rattle.ats_tally.proofs.Tallied.{sums_are}
use Rattle.ats_bound.proofs.Waits.{remains}
use Rattle.ats_checker.specs.First.{IsRight}
use Rattle.ats_checker.specs.Refusal.{stray, wrong_in}
use Rattle.ats_checker.specs.Rows.{IsUsedRow}
use Rattle.ats_checker.proofs.Refused.{all_used, right_from, fits_from, place_fits}

-- where no row is stray, each is used, and its port is there
pub rows_used : (network : DeclaredNetwork) (rows : List Row) → IsNetwork network
    → first_some (stray network) rows ≡ None → All (IsUsedRow network) rows
rows_used network rows is none k d h =
    let used : is_used network (get_or rows k d).port (get_or rows k d).class ≡ true =
    all_used network rows none k d h in
    record { used = used; inside = (is_place network (get_or rows k d).port (get_or rows k d).class is used).within }

-- the higher classes of a right row that fits its link leave some of it
pub higher_below : (network : DeclaredNetwork) (row : Row) → IsNetwork network → IsUsedRow network row
    → wrong_in network row ≡ None → overload_in row ≡ None → row.higher < PS_PER_SECOND
higher_below network row is used right fits =
    let rights : IsRight network row = right_from network row right in
    let some = remains network row.port row.class (is_place network row.port row.class is used.used)
    (place_fits network row rights (fits_from row fits)) in
    omega (arith, some, rights.sums.higher)

-- the least wait, from what the senders make of a right row's place
pub least_is : (network : DeclaredNetwork) (row : Row) (tally : Tally) → wrong_in network row ≡ None
    → IsTally row.class (senders_at network.topology row.port (senders_of network)) tally
    → wait_for (port_at network.topology.ports row.port).ps_per_bit row.higher tally
    ≡ least_wait (port_at network.topology.ports row.port) (port_sums network row.port row.class)
least_is network row tally right h =
    let port : Port = port_at network.topology.ports row.port in
    let same : sums_of port.ps_per_bit tally ≡ port_sums network row.port row.class =
    sums_are port.ps_per_bit row.class (senders_at network.topology row.port (senders_of network)) tally h in
    ap (λ (n : ℕ). wait_for port.ps_per_bit n tally)
    ((right_from network row right).sums.higher ∙ sym (ap (λ (s : PortSums). s.higher) same))
    ∙ ap (least_wait port) same
