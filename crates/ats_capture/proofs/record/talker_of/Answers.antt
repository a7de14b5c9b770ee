use Rattle.std.proofs.Common.{◌≡◌, ◌∙◌, ℕ, suc, ◌<◌, ◌≤◌, List, [], ◌∷◌, ◌++◌, length, get_or, ap, subst, sym, refl}
use Rattle.std.proofs.Common.{arith, length-append}
use Rattle.std.specs.List.{All}
use Rattle.ats_streams.specs.Branches.{leads_of, leg_at, legs_of, routes_of}
use Rattle.ats_streams.specs.Path.{IsPath}
use Rattle.ats_streams.specs.declared.branch.Branch.{Branch}
use Rattle.ats_streams.proofs.BranchLemmas.{lead_of_trunk, route-at, routes-length, trunk_within}
use Rattle.ats_topology.specs.Port.{port_at}
use Rattle.ats_topology.specs.declared.port.Port.{Port}
use Rattle.ats_network.specs.Network.{DeclaredNetwork, IsNetwork, senders_of}
use Rattle.ats_network.specs.Senders.{IsSender, no_sender, sender_at}
use Rattle.ats_network.proofs.SenderLemmas.{each_is_sender}
use Rattle.ats_trace.specs.Talker.{start_of}
use Rattle.ats_capture.proofs.record.talker_of.Goals as goal

-- ports of which routes are made have a first one: the route of the trunk is within them
some_port : (ports : List ℕ) (branches : List Branch) → All IsPath (routes_of ports branches) → 1 ≤ length ports
some_port ports branches routes =
    let lead : List ℕ = leg_at (leads_of ports branches) 0 in
    let trunk : List ℕ = leg_at (legs_of ports branches) 0 in
    let many : length (routes_of ports branches) ≡ suc (length branches) = routes-length ports branches in
    let some : 1 ≤ length (leg_at (routes_of ports branches) 0) = (routes 0 [] (omega (arith, many))).least in
    let whole : length (leg_at (routes_of ports branches) 0) ≡ length (lead ++ trunk) =
    ap (λ (l : List ℕ). length l) (route-at ports branches 0 [] (omega arith)) in
    let none : length lead ≡ 0 = ap (λ (l : List ℕ). length l) (lead_of_trunk ports branches) in
    omega (arith, some, whole, length-append lead trunk, none, trunk_within ports branches)

-- a sender of a network has a first port, which is there
record HasPort (network : DeclaredNetwork) (stream : ℕ) : Type 0 where
  some : 1 ≤ length (sender_at network stream).ports
  first : get_or (sender_at network stream).ports 0 0 < length network.topology.ports

sender : (network : DeclaredNetwork) (stream : ℕ) → IsNetwork network → stream < length (senders_of network)
    → HasPort network stream
sender network stream net within =
    let s : IsSender network.topology (sender_at network stream) =
    each_is_sender network net stream no_sender within in
    let some : 1 ≤ length (sender_at network stream).ports =
    some_port (sender_at network stream).ports (sender_at network stream).branches s.routes in
    record { some = some; first = s.ports 0 0 some }

-- ports begin at the node that the first of them leaves
begins : (ports : List Port) (path : List ℕ) → 1 ≤ length path
    → (port_at ports (get_or path 0 0)).from ≡ start_of ports path
begins ports [] some = absurd (omega (arith, some))
begins ports (p ∷ path) some = refl

pub bounds-sender_ports-0 : goal.bounds-sender_ports-0
bounds-sender_ports-0 c =
    let keeps = sender c.args.network.now c.args.stream c.sender_ports.ensures.rules c.requires in
    subst (λ (ports : List ℕ). 0 < length ports) (sym c.sender_ports.ensures.value) keeps.some

pub bounds-ports-first : goal.bounds-ports-first
bounds-ports-first c =
    let keeps = sender c.args.network.now c.args.stream c.sender_ports.ensures.rules c.requires in
    let all = ap (λ (ports : List Port). length ports)
    (c.ports.ensures.value ∙ ap (λ t. t.ports) c.topology.ensures.value) in
    subst (λ (ports : List ℕ). get_or ports 0 0 < length c.ports.result.now) (sym c.sender_ports.ensures.value)
    (omega (arith, all, keeps.first))

pub returns : goal.returns
returns c =
    let network = c.args.network.now in
    let keeps = sender network c.args.stream c.sender_ports.ensures.rules c.requires in
    let first : ℕ → ℕ = λ (p : ℕ). (port_at c.ports.result.now p).from in
    ap (λ (ports : List ℕ). first (get_or ports 0 0)) c.sender_ports.ensures.value
    ∙ ap (λ (ports : List Port). (port_at ports (get_or (sender_at network c.args.stream).ports 0 0)).from)
    (c.ports.ensures.value ∙ ap (λ t. t.ports) c.topology.ensures.value)
    ∙ begins network.topology.ports (sender_at network c.args.stream).ports keeps.some
