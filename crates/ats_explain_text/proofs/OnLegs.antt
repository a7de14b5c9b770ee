-- A port of a leg and its class stand at the place of the hop behind that of the leg's first port.
use Rattle.std.proofs.Common.{◌≡◌, ◌≢◌, ℕ, ◌+◌, ◌<◌, ◌≤◌, List, length, get_or, sym, ap, subst, ◌∙◌}
use Rattle.std.specs.List.{AllPairs}
use Rattle.ats_streams.specs.Branches.{first_from, leg_at, legs_of}
use Rattle.ats_streams.specs.Stream.{DeclaredStream, IsStream}
use Rattle.ats_network.specs.Class.{class_at}
use Rattle.ats_network.specs.Sender.{stream_sender}
use Rattle.ats_network.proofs.ClassLemmas.{class_along-at}
use Rattle.ats_tally.proofs.Along.{IsPlaced, leg_placed}

pub record IsOnLeg (s : DeclaredStream) (first hop port : ℕ) : Type 0 where
  pub within : first + hop < length s.ports
  pub port_is : get_or s.ports (first + hop) 0 ≡ port
  pub class_is : get_or s.classes (first + hop) 0 ≡ class_at (stream_sender s) port

-- so it is where the ports of the leg and the place of its first port are given under other names
pub on_leg : (s : DeclaredStream) (ports : List ℕ) (leg first hop : ℕ) → IsStream s
    → AllPairs (λ p q. p ≢ q) s.ports → leg ≤ length s.branches → first ≡ first_from 0 s.branches leg
    → ports ≡ leg_at (legs_of s.ports s.branches) leg → hop < length ports → IsOnLeg s first hop (get_or ports hop 0)
on_leg s ports leg first hop is apart listed first_is ports_are inside =
    let own : List ℕ = leg_at (legs_of s.ports s.branches) leg in
    let placed : IsPlaced s.ports own (first_from 0 s.branches leg) hop =
    leg_placed s.ports s.branches leg hop is.branches listed (subst (λ (l : List ℕ). hop < length l) ports_are inside)
    in
    let here : IsPlaced s.ports own first hop =
    subst (λ (k : ℕ). IsPlaced s.ports own k hop) (sym first_is) placed in
    let port : get_or s.ports (first + hop) 0 ≡ get_or ports hop 0 =
    here.is ∙ ap (λ (l : List ℕ). get_or l hop 0) (sym ports_are) in
    record {
      within = here.within;
      port_is = port;
      class_is = sym (class_along-at s.ports s.classes (first + hop) apart is.each_port here.within)
          ∙ ap (class_at (stream_sender s)) port;
    }
