use Rattle.std.proofs.Common.{◌≡◌, ◌<◌, ℕ, true, length, get_or, ◌∙◌}
use Rattle.std.specs.List.{All}
use Rattle.std.proofs.lemmas.List.Elements.{All-map}
use Rattle.ats_facts.proofs.Options.{option_or-none}
use Rattle.ats_network.specs.Network.{DeclaredNetwork, IsNetwork}
use Rattle.ats_certificate.specs.PortSums.{is_used}
use Rattle.ats_certificate.specs.Used.{places_of}
use Rattle.ats_certificate.specs.Certificate.{HasRows, IsBefore, is_row_of}
use Rattle.ats_certificate.specs.Least.{IsLeastRow}
use Rattle.ats_certificate.specs.declared.row.Row.{Row}
use Rattle.ats_bound.specs.Least.{least_row, least_certificate}
use Rattle.ats_tally.specs.Reason.{first_some, overstay, row_need, late}
use Rattle.ats_bound.specs.Reason.{overload}
use Rattle.ats_bound.specs.Laws.{LeastCertificateHolds}
use Rattle.ats_tally.proofs.Lists.{list_any-map, is_some-find, AllPairs-map, none_first}
use Rattle.ats_tally.proofs.Places.{is_place, places_used, places_ordered, places_have}
use Rattle.ats_bound.proofs.Waits.{Fits, least_row-is}
use Rattle.ats_tally.proofs.Reasons.{stays_by, in_time_from}
use Rattle.ats_bound.proofs.Reasons.{fits_from}
use Rattle.ats_network.specs.Residence.{residence_after}

-- the computed certificate has the rows of its network
pub least_rows : (network : DeclaredNetwork) → IsNetwork network → HasRows network (least_certificate network)
least_rows network is = record {
  complete = λ port class used.
      is_some-find (is_row_of port class) (least_certificate network)
      ∙ list_any-map (is_row_of port class) (least_row network) (places_of network)
      ∙ places_have network port class is used;
  used = All-map (λ (row : Row). is_used network row.port row.class ≡ true) (least_row network) (places_of network)
      (places_used network);
  ordered = AllPairs-map IsBefore (least_row network) (places_of network) (places_ordered network);
}

-- each place fits its link
abbrev pub EachFits : DeclaredNetwork → Type 0
EachFits network = All (λ (at : ℕ × ℕ). Fits network at.0 at.1) (places_of network)

pub each_is_least : (network : DeclaredNetwork) → IsNetwork network → EachFits network
    → All (IsLeastRow network) (least_certificate network)
each_is_least network is fits =
    All-map (IsLeastRow network) (least_row network) (places_of network)
    (λ k d h. least_row-is network (get_or (places_of network) k d).0 (get_or (places_of network) k d).1
    (is_place network (get_or (places_of network) k d).0 (get_or (places_of network) k d).1 is
    (places_used network k d h)) (fits k d h))

pub least_certificate_holds : LeastCertificateHolds
least_certificate_holds network is none =
    let first = option_or-none (first_some (overload network) (places_of network)) _ none in
    let second = option_or-none (first_some (overstay network) (least_certificate network)) _ first.1 in
    let loads = none_first (overload network) (places_of network) first.0 in
    let stays = none_first (overstay network) (least_certificate network) second.0 in
    let times = none_first (late network.topology (least_certificate network)) network.streams second.1 in
    let fits : EachFits network = λ k d h.
    fits_from network (get_or (places_of network) k d).0 (get_or (places_of network) k d).1 (loads k d h) in
    let rows : HasRows network (least_certificate network) = least_rows network is in
    let each : All (IsLeastRow network) (least_certificate network) = each_is_least network is fits in
    record {
      least = record { rows_of = rows; each = each };
      holds = record {
        rows_of = rows;
        each = λ k d h. record {
          covers = (each k d h).covers;
          residence = (
              let row : Row = get_or (least_certificate network) k d in
              stays_by row (row_need network row) (residence_after network.topology row.port) (stays k d h));
        };
        deadlines = λ k d h.
            in_time_from network.topology (least_certificate network) (get_or network.streams k d) (times k d h);
      };
    }

-- each row of the least certificate is that of a port
pub ports_exist : (network : DeclaredNetwork) → IsNetwork network
    → All (λ (row : Row). row.port < length network.topology.ports) (least_certificate network)
ports_exist network is =
    All-map (λ (row : Row). row.port < length network.topology.ports) (least_row network) (places_of network)
    (λ k d h. (
    let at = get_or (places_of network) k d in
    (is_place network at.0 at.1 is (places_used network k d h)).within))
