-- Where each frame was told its eligibility time, what a port may be asked to send is so by what frames were told too.
use Rattle.std.proofs.Common.{ℕ, ◌≤◌, Bool, true, false, cond, List, get_or, arith}
use Rattle.std.specs.Prelude.{◌==◌, ◌&&◌, nat_le}
use Rattle.ats_clock.specs.declared.committed.Committed.{Committed}
use Rattle.ats_network.specs.Network.{DeclaredNetwork}
use Rattle.ats_network.specs.Rates.{committed_at}
use Rattle.ats_network.specs.Senders.{sender_at}
use Rattle.ats_port_rule.specs.Transmission.{Transmission}
use Rattle.ats_port_law.specs.PortLaw.{IsOffered, IsOfferedBy, is_counted}
use Rattle.ats_port_law.proofs.Sums.{sum_by-filter, sum_by-le-all}
use Rattle.ats_port_law.proofs.Window.{eligible_bits, sender_window}

one_test : (own counts : Bool) (bits : ℕ) → cond (own && counts) bits 0 ≤ cond own (cond counts bits 0) 0
one_test true counts bits = omega arith
one_test false counts bits = omega arith

pub by_eligibility : (network : DeclaredNetwork) (port : ℕ) (sent : List Transmission) → IsOffered network port sent
    → IsOfferedBy (λ (x : Transmission). x.eligible) network port sent
by_eligibility network port sent offered = record {
  offered = offered;
  in_order = λ k d h j e g class earlier. omega (arith, earlier);
  counted = λ i from h k d hk class order. (
      let seen : Committed = committed_at network.topology port (sender_at network i) in
      let x : Transmission = get_or sent k d in
      let told : Transmission → ℕ = λ (y : Transmission). y.eligible in
      let window = sender_window seen.rate seen.burst_bits i sent from x.eligible order (offered.streams i h) in
      let chosen = sum_by-filter (λ (y : Transmission). y.bits) (is_counted told i from x) sent in
      let fewer = sum_by-le-all (λ (y : Transmission). cond (is_counted told i from x y) y.bits 0)
      (λ (y : Transmission). cond (y.sender == i) (eligible_bits from x.eligible y) 0) sent
      (λ n d hn. (let y : Transmission = get_or sent n d in
      one_test (y.sender == i) (nat_le from y.eligible && nat_le y.eligible x.eligible) y.bits)) in
      omega (arith, window, chosen, fewer));
}
