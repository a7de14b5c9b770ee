use Rattle.std.proofs.Common.{◌≡◌, ℕ, ◌<◌, ◌≤◌, true, List, [], length, All, refl, arith}
use Rattle.std.specs.Prelude.{nat_le}
use Rattle.std.proofs.lemmas.Bool.{and_parts, and_from, leb-true, le-leb}
use Rattle.ats_num.specs.Wire.{bits_of}
use Rattle.ats_topology.specs.Port.{port_at}
use Rattle.ats_network.specs.Sender.{Sender}
use Rattle.ats_network.specs.Bridges.{IsBridgeAt, MeetAtBridge}
use Rattle.ats_network.specs.Network.{DeclaredNetwork, IsNetwork, senders_of}
use Rattle.ats_network.specs.Senders.{sender_at, IsSender}
use Rattle.ats_certificate.specs.PortSums.{uses}
use Rattle.ats_port_rule.specs.PortRule.{KeepsPortRuleBy}
use Rattle.ats_port_rule.specs.Transmission.{Transmission}
use Rattle.ats_streams.specs.Traffic.{is_declared_size}
use Rattle.ats_trace.specs.Journey.{Travel, IsJourney, class_at, legs_in}
use Rattle.ats_trace.specs.Projections.{Hop, Handed, journey_hops, journey_handed, hops_from, handed_from}
use Rattle.ats_trace.specs.Projections.{crossings_by, sent_by}
use Rattle.ats_trace.specs.Eligibility.{declared_by}
use Rattle.ats_trace.specs.Links.{KeepsLinkRule}
use Rattle.ats_trace.specs.Run.{IsLegalBy}
use Rattle.ats_trace.specs.Ways.{route_to, way_to}
use Rattle.ats_group.specs.Judge.{Judge}
use Rattle.ats_group_law.specs.Regulator.{IsRule, IsRegulator}
use Rattle.ats_bucket.specs.Conforming.{Frame}
use Rattle.ats_streams.specs.declared.traffic.Declared.{Declared}
use Rattle.ats_soundness_law.proofs.Along.{AtPorts, all_handed}
use Rattle.ats_soundness_law.proofs.Journeys.{each_hop, each_on_route, handed_by_routes, journey_route}
use Rattle.ats_soundness_law.proofs.Lifts.{run_hops, run_handed}
use Rattle.ats_soundness_law.proofs.Paths.{sender_is, uses_own, neighbours_with}

-- a run of a network in which each frame makes a journey, each link keeps the link rule, and each port keeps the port
-- rule by times that frames were told
pub record Case (network : DeclaredNetwork) (run : List Travel) : Type 0 where
  pub net : IsNetwork network
  pub journeys : All (IsJourney network) run
  pub told : ℕ → Transmission → ℕ
  pub ports : (port : ℕ) → port < length network.topology.ports
      → KeepsPortRuleBy (told port) (port_at network.topology.ports port).ps_per_bit (sent_by network run port)
  pub links : (port : ℕ) → port < length network.topology.ports
      → KeepsLinkRule (port_at network.topology.ports port) (crossings_by network run port)

-- a legal run by true time, whose groups regulate by a rule
pub record CaseBy (judge : Judge) (rule : Declared → List Frame → Type 0) (network : DeclaredNetwork)
    (run : List Travel) : Type 0 where
  pub rules : IsRule rule
  pub regulator : IsRegulator judge rule
  pub net : IsNetwork network
  pub legal : IsLegalBy judge network run

-- each frame was told its eligibility time
abbrev pub case_of : {judge : Judge} {rule : Declared → List Frame → Type 0} {network : DeclaredNetwork}
    {run : List Travel} → CaseBy judge rule network run → Case network run
case_of c = record {
  net = c.net;
  journeys = c.legal.journeys;
  told = λ port x. x.eligible;
  ports = c.legal.ports;
  links = c.legal.links;
}

-- what is known of each transmission of a run
pub record IsKnown (network : DeclaredNetwork) (g : Hop) : Type 0 where
  pub exists : g.sent.sender < length (senders_of network)
  pub within : g.port < length network.topology.ports
  pub used : uses g.port (sender_at network g.sent.sender) ≡ true
  pub ranked : g.sent.class ≡ class_at (sender_at network g.sent.sender) g.port

journey_known : (network : DeclaredNetwork) → IsNetwork network → (n : ℕ) (j : Travel) → IsJourney network j
    → All (IsKnown network) (journey_hops network n j)
journey_known network net n j is =
    let s : Sender = sender_at network j.release.sender in
    let keeps : IsSender network.topology s = sender_is network net j.release.sender is.sender in
    each_hop (IsKnown network) n j.release s (legs_in j)
    (λ k d h e times. record { exists = is.sender; within = keeps.ports k d h; used = uses_own s k d h; ranked = refl })

pub known : (network : DeclaredNetwork) (run : List Travel) → Case network run
    → All (IsKnown network) (hops_from network 0 run)
known network run c =
    run_hops (IsJourney network) (IsKnown network) network 0 run (journey_known network c.net) c.journeys

-- what is known of each frame that is handed on
pub record IsTold (network : DeclaredNetwork) (h : Handed) : Type 0 where
  pub exists : h.crossing.sent.sender < length (senders_of network)
  pub within : h.crossing.port < length network.topology.ports
  pub ranked : h.crossing.sent.class ≡ class_at (sender_at network h.crossing.sent.sender) h.crossing.port
  pub bits : h.crossing.sent.bits ≡ bits_of h.crossing.octets
  pub bridge : IsBridgeAt network.topology (port_at network.topology.ports h.crossing.port).to

journey_told : (network : DeclaredNetwork) → IsNetwork network → (n : ℕ) (j : Travel) → IsJourney network j
    → All (IsTold network) (journey_handed network n j)
journey_told network net n j is =
    let s : Sender = sender_at network j.release.sender in
    let keeps : IsSender network.topology s = sender_is network net j.release.sender is.sender in
    handed_by_routes (IsTold network) network n j net is
    (λ m within.
    all_handed (IsTold network) n j.release s (route_to s m) (way_to s j m).hops (way_to s j m).ending
    (neighbours_with (λ p. p < length network.topology.ports) (MeetAtBridge network.topology)
    (AtPorts (IsTold network) n j.release s)
    (λ a b within meet came e times arrival verdict.
    record { exists = is.sender; within = within; ranked = refl; bits = refl; bridge = meet.bridge })
    (route_to s m) (each_on_route (λ p. p < length network.topology.ports) s m keeps.ports within)
    (keeps.bridges m [] within))
    (journey_route network j m net is within).way)

pub told : (network : DeclaredNetwork) (run : List Travel) → Case network run
    → All (IsTold network) (handed_from network 0 run)
told network run c =
    run_handed (IsJourney network) (IsTold network) network 0 run (journey_told network c.net) c.journeys

-- so many octets are of a declared size exactly where their bits are
pub bits_of_size : (network : DeclaredNetwork) (i octets : ℕ) → is_declared_size (declared_by network i) octets ≡ true
    → (bits_of (sender_at network i).min_octets ≤ bits_of octets)
    × (bits_of octets ≤ bits_of (sender_at network i).max_octets)
bits_of_size network i octets size =
    let s : Sender = sender_at network i in
    let p = and_parts (nat_le s.min_octets octets) (nat_le octets s.max_octets) size in
    let least = leb-true s.min_octets octets p.0 in
    let most = leb-true octets s.max_octets p.1 in
    (omega (arith, least), omega (arith, most))

pub size_of_bits : (network : DeclaredNetwork) (i octets : ℕ)
    → bits_of (sender_at network i).min_octets ≤ bits_of octets
    → bits_of octets ≤ bits_of (sender_at network i).max_octets → is_declared_size (declared_by network i) octets ≡ true
size_of_bits network i octets least most =
    let s : Sender = sender_at network i in
    and_from (nat_le s.min_octets octets) (nat_le octets s.max_octets)
    (le-leb s.min_octets octets (omega (arith, least))) (le-leb octets s.max_octets (omega (arith, most)))
