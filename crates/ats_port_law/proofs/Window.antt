use Rattle.std.proofs.Common.{ℕ, ◌+◌, ◌-◌, ◌*◌, ◌≤◌, cond, List, filter, sum_by, arith}
use Rattle.std.specs.Prelude.{◌==◌}
use Rattle.ats_num.specs.declared.time.TheConstants.{PS_PER_SECOND}
use Rattle.ats_port_rule.specs.Transmission.{Transmission}
use Rattle.ats_group_law.proofs.WindowBits.{bits_in, bits_within-permutation}
use Rattle.ats_group_law.proofs.WindowParts.{bits_within-map}
use Rattle.ats_group_law.proofs.WindowPlaces.{windows_from_places}
use Rattle.ats_port_law.specs.PortLaw.{frame_of, frames_by, ConformsInOrder}
use Rattle.ats_port_law.proofs.Sums.{sum_by-filter}

-- the bits of a transmission that became eligible in a window of time
abbrev pub eligible_bits : ℕ → ℕ → Transmission → ℕ
eligible_bits from to y = bits_in from to (frame_of y)

-- those of one sender's transmissions are within its rate and burst
pub sender_window : (rate burst i : ℕ) (sent : List Transmission) (from to : ℕ) → from ≤ to
    → ConformsInOrder rate burst (frames_by i sent)
    → PS_PER_SECOND * sum_by (λ (y : Transmission). cond (y.sender == i) (eligible_bits from to y) 0) sent
    ≤ rate * (to - from) + PS_PER_SECOND * burst
sender_window rate burst i sent from to h c =
    let window = (windows_from_places rate burst c.order c.conforms).windows.within from to h in
    let ordered = bits_within-permutation (frames_by i sent) c.order from to c.same in
    let mapped = bits_within-map frame_of (filter (λ (y : Transmission). y.sender == i) sent) from to in
    let chosen = sum_by-filter (eligible_bits from to) (λ (y : Transmission). y.sender == i) sent in
    omega (arith, window, ordered, mapped, chosen)
