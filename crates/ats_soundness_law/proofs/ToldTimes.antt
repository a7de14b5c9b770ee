-- The times that the clocks of nodes told frames, and when these were eligible in true time.
use Rattle.std.proofs.Common.{◌≡◌, ℕ, ◌+◌, ◌<◌, Bool, true, false, cond, List, [], ◌∷◌, map, length, get_or, All}
use Rattle.std.proofs.Common.{refl, sym, subst, inl, inr, arith}
use Rattle.std.specs.Prelude.{◌==◌, ◌&&◌}
use Rattle.std.proofs.lemmas.Bool.{and_from, and_parts, cases_lt, eq-eqb, eqb-true}
use Rattle.std.proofs.lemmas.List.{get_or_default}
use Rattle.std.proofs.lemmas.List.Elements.{All-append, All-nil, All-weaker, filter_passes}
use Rattle.std.proofs.lemmas.List.Sorted.{All-permutation, IsPermutation-sym}
use Rattle.ats_facts.proofs.Lists.{All-from_filter}
use Rattle.ats_clock.specs.Clock.{DeclaredClock, KeepsClock, ideal}
use Rattle.ats_clock.specs.declared.clock.TheConstants.{MILLION}
use Rattle.ats_clock_law.specs.TrueTime.{stamped_offers}
use Rattle.ats_topology.specs.Node.{clock_of}
use Rattle.ats_topology.specs.Port.{port_at}
use Rattle.ats_topology.specs.Topology.{DeclaredTopology, IsTopology, node_at}
use Rattle.ats_topology.specs.declared.node.Kind.{Kind}
use Rattle.ats_topology.specs.declared.node.Kind.TheVariants.{Bridge, Station}
use Rattle.ats_topology.proofs.Rules.{node_is}
use Rattle.ats_network.specs.Bridges.{MeetAtBridge}
use Rattle.ats_network.specs.Network.{DeclaredNetwork, IsNetwork}
use Rattle.ats_network.specs.Sender.{Sender}
use Rattle.ats_network.specs.Senders.{AllNeighbours, IsSender, sender_at}
use Rattle.ats_port_rule.specs.Transmission.{Transmission}
use Rattle.ats_group.specs.Judge.{OnEligible, ats_judge}
use Rattle.ats_group.specs.declared.verdict.Verdict.{Verdict}
use Rattle.ats_group.specs.declared.verdict.Verdict.TheVariants.{Eligible, Size}
use Rattle.ats_group_law.proofs.Regulator.{ats_is_regulator}
use Rattle.ats_streams.specs.Traffic.{is_declared_size}
use Rattle.ats_trace.specs.Clocks.{IsJudgedBy, IsLegal, KeepsNodeClock, WasToldAtArrival, WasToldAtRelease}
use Rattle.ats_trace.specs.Eligibility.{IsPassed, declared_by, offer_of, residence_of_groups, scheduled_by}
use Rattle.ats_trace.specs.HopRecord.{HopRecord}
use Rattle.ats_trace.specs.Journey.{IsJourney, IsReleased, IsWay, Travel, class_at}
use Rattle.ats_trace.specs.Projections.{Handed, Hop, handed_along, handed_by, handed_from, hop_at, hops_along}
use Rattle.ats_trace.specs.Projections.{hops_from, journey_handed, journey_hops, sent_by, transmission_of}
use Rattle.ats_trace.specs.Stored.{travel_at}
use Rattle.ats_trace.specs.Talker.{start_of, talker_of}
use Rattle.ats_trace.specs.Ways.{route_to, way_to}
use Rattle.ats_trace.specs.declared.journey.Ending.{Ending}
use Rattle.ats_trace.specs.declared.journey.Release.{Release}
use Rattle.ats_soundness_law.proofs.ByClock.{HasTold, IsJudgedAs, TellsTime, judged_as, sized_as, tells_time}
use Rattle.ats_soundness_law.proofs.Journeys.{each_on_route, handed_on_route, hops_by_routes, journey_route}
use Rattle.ats_soundness_law.proofs.Journeys.{route_starts}
use Rattle.ats_soundness_law.proofs.Known.{Case, IsTold, told}
use Rattle.ats_soundness_law.proofs.Offered.{at_port}
use Rattle.ats_soundness_law.proofs.Onward.{PassesOn, first_by, later_by, run_numbered_by}
use Rattle.ats_soundness_law.proofs.Paths.{neighbours_with, sender_is}
use Rattle.ats_soundness_law.proofs.Routes.{OnRoute}
use Rattle.ats_soundness_law.proofs.Sized.{IsSized, flow_sized}
use Rattle.std.specs.List.{AllZip}

-- a legal run in which each bridge goes by its own clock, as a run in which frames were told times
abbrev pub told_at : {network : DeclaredNetwork} {run : List Travel} → IsLegal network run → ℕ → ℕ → ℕ
told_at {network} legal port frame = legal.told (port_at network.topology.ports port).from frame

abbrev pub case_in : {network : DeclaredNetwork} {run : List Travel} → IsNetwork network → IsLegal network run
    → Case network run
case_in {network} net legal = record {
  net = net;
  journeys = legal.journeys;
  told = λ port x. legal.told (port_at network.topology.ports port).from x.frame;
  ports = legal.ports;
  links = legal.links;
}

-- the clock of a node
abbrev pub node_clock : DeclaredTopology → ℕ → DeclaredClock
node_clock topology node = clock_of (node_at topology.nodes node).kind

ideal_keeps : (shows : ℕ → ℕ) → ((t : ℕ) → shows t ≡ t) → KeepsClock ideal shows
ideal_keeps shows same = record {
  in_order = λ s t h. omega (arith, same s, same t);
  no_slower = λ s t h. omega (arith, same s, same t);
  no_faster = λ s t h. omega (arith, same s, same t);
}

pub node_keeps : (kind : Kind) (shows : ℕ → ℕ) → KeepsNodeClock kind shows → KeepsClock (clock_of kind) shows
node_keeps Station shows keeps = ideal_keeps shows keeps
node_keeps (Bridge processing_min_ns processing_max_ns residence_ns clock_ppm clock_step_ps) shows keeps = keeps

pub keeps_clock : (network : DeclaredNetwork) (run : List Travel) (legal : IsLegal network run) (node : ℕ)
    → KeepsClock (node_clock network.topology node) (legal.clocks node)
keeps_clock network run legal node =
    node_keeps (node_at network.topology.nodes node).kind (legal.clocks node) (legal.keeps node)

pub deviates : (topology : DeclaredTopology) (node : ℕ) → IsTopology topology
    → (node_clock topology node).deviation_ppm < MILLION
deviates topology node is = let d = (node_is topology.nodes is.each_node node).clock.deviation in omega arith

-- a frame that is eligible at once was told what the clock showed
pub told_at_once : (shows : ℕ → ℕ) (at t : ℕ) → at ≡ shows t → HasTold shows at t
told_at_once shows at t same =
    subst (λ (n : ℕ). HasTold shows n t) (sym same) (record {
      came = t;
      no_later = omega arith;
      is = record { arrived = omega arith; shown = omega arith; least = λ u h k. h };
    })

-- what is known of a frame that is handed on: where it is eligible, the node's clock told it a time; and of a
-- transmission
abbrev pub IsToldOn : {network : DeclaredNetwork} {run : List Travel} → IsLegal network run → Handed → Type 0
IsToldOn {network} legal h =
    TellsTime (legal.clocks (port_at network.topology.ports h.crossing.port).to)
    (legal.told (port_at network.topology.ports h.crossing.port).to) h

abbrev pub IsToldAt : {network : DeclaredNetwork} {run : List Travel} → IsLegal network run → Hop → Type 0
IsToldAt {network} legal g =
    HasTold (legal.clocks (port_at network.topology.ports g.port).from)
    (legal.told (port_at network.topology.ports g.port).from g.sent.frame) g.sent.eligible

-- what a group makes of its frames
pub group_is : (network : DeclaredNetwork) (run : List Travel) (legal : IsLegal network run) (port class : ℕ)
    → (j : IsJudgedBy (legal.clocks (port_at network.topology.ports port).to)
    (legal.told (port_at network.topology.ports port).to) network port (handed_by network run port class))
    → AllZip (IsJudgedAs (legal.clocks (port_at network.topology.ports port).to)
    (legal.told (port_at network.topology.ports port).to) (scheduled_by network port)) j.arrivals
    (ats_judge (scheduled_by network port) (residence_of_groups network port)
    (stamped_offers (legal.clocks (port_at network.topology.ports port).to) (map offer_of j.arrivals)))
group_is network run legal port class j =
    let node : ℕ = (port_at network.topology.ports port).to in
    let offers = stamped_offers (legal.clocks node) (map offer_of j.arrivals) in
    judged_as (legal.clocks node) (legal.told node) (scheduled_by network port) j.arrivals
    (ats_judge (scheduled_by network port) (residence_of_groups network port) offers) j.verdicts j.times
    (ats_is_regulator.regulator.sized (scheduled_by network port) (residence_of_groups network port) offers)
    (ats_is_regulator.regulator.arrived (scheduled_by network port) (residence_of_groups network port) offers)

-- a flow's frame is eligible on its arrival, if it is
flow_tells : (shows told : ℕ → ℕ) (network : DeclaredNetwork) (h : Handed) → IsPassed network h
    → WasToldAtArrival shows told h → TellsTime shows told h
flow_tells shows told network h passed at =
    subst (λ (v : Verdict). OnEligible v (λ e. HasTold shows (told h.crossing.sent.frame) e)) (sym passed)
    (by (is_declared_size (declared_by network h.crossing.sent.sender) h.crossing.octets))
  where
    by : (size : Bool)
        → OnEligible (cond size (Eligible (record { 0 = h.crossing.arrival })) Size)
        (λ e. HasTold shows (told h.crossing.sent.frame) e)
    by true = told_at_once shows (told h.crossing.sent.frame) h.crossing.arrival at
    by false = tt

-- what both say of the frames of a port and a class holds of all that is handed on
each_place : (P : Handed → Type 0) (network : DeclaredNetwork) (run : List Travel) → Case network run
    → ((port class : ℕ) → port < length network.topology.ports → All P (handed_by network run port class))
    → All P (handed_from network 0 run)
each_place P network run c each k d h =
    let one : Handed = get_or (handed_from network 0 run) k d in
    let known : IsTold network one = told network run c k d h in
    All-from_filter (λ (h : Handed). h.crossing.port == one.crossing.port && h.crossing.sent.class
    == one.crossing.sent.class) P (handed_from network 0 run)
    (each one.crossing.port one.crossing.sent.class known.within)
    k d h (and_from (one.crossing.port == one.crossing.port) (one.crossing.sent.class == one.crossing.sent.class)
    (eq-eqb one.crossing.port one.crossing.port refl) (eq-eqb one.crossing.sent.class one.crossing.sent.class refl))

-- the frames that a port hands on in a class, at its node
place_told : (network : DeclaredNetwork) (run : List Travel) (legal : IsLegal network run) (port class : ℕ)
    → port < length network.topology.ports
    → All (TellsTime (legal.clocks (port_at network.topology.ports port).to)
    (legal.told (port_at network.topology.ports port).to)) (handed_by network run port class)
place_told network run legal port class within =
    elim (cases_lt 0 class) as (λ _. All (TellsTime shows told) (handed_by network run port class)) [
      | inl shaped ↦ (
          let j : IsJudgedBy shows told network port (handed_by network run port class) =
          legal.groups port class within shaped in
          All-permutation (TellsTime shows told) j.arrivals (handed_by network run port class)
          (IsPermutation-sym (handed_by network run port class) j.arrivals j.same)
          (tells_time shows told (scheduled_by network port) j.arrivals _
          (group_is network run legal port class j)))
      | inr none ↦ (
          let zero_class : class ≡ 0 = omega arith in
          subst (λ (n : ℕ). All (TellsTime shows told) (handed_by network run port n)) (sym zero_class)
          (λ k d h. flow_tells shows told network (get_or (handed_by network run port 0) k d)
          (legal.flows port within k d h) (legal.passed port within k d h)))
    ]
  where
    shows : ℕ → ℕ
    shows = legal.clocks (port_at network.topology.ports port).to

    told : ℕ → ℕ
    told = legal.told (port_at network.topology.ports port).to

place_told_on : (network : DeclaredNetwork) (run : List Travel) (legal : IsLegal network run) (port class : ℕ)
    → port < length network.topology.ports → All (IsToldOn legal) (handed_by network run port class)
place_told_on network run legal port class within k d h =
    let one : Handed = get_or (handed_by network run port class) k d in
    let there = filter_passes (λ (h : Handed). h.crossing.port == port && h.crossing.sent.class == class)
    (handed_from network 0 run) k d h in
    let same : one.crossing.port ≡ port =
    eqb-true one.crossing.port port
    (and_parts (one.crossing.port == port) (one.crossing.sent.class == class) there).0 in
    subst (λ (p : ℕ). TellsTime (legal.clocks (port_at network.topology.ports p).to)
    (legal.told (port_at network.topology.ports p).to) one) (sym same)
    (place_told network run legal port class within k d h)

pub told_on : (network : DeclaredNetwork) (run : List Travel) → IsNetwork network → (legal : IsLegal network run)
    → All (IsToldOn legal) (handed_from network 0 run)
told_on network run net legal =
    each_place (IsToldOn legal) network run (case_in net legal) (place_told_on network run legal)

-- where a frame that was handed on is eligible, it has a declared size
place_sized : (network : DeclaredNetwork) (run : List Travel) (legal : IsLegal network run) (port class : ℕ)
    → port < length network.topology.ports → All (IsSized network) (handed_by network run port class)
place_sized network run legal port class within =
    elim (cases_lt 0 class) as (λ _. All (IsSized network) (handed_by network run port class)) [
      | inl shaped ↦ (
          let node : ℕ = (port_at network.topology.ports port).to in
          let j : IsJudgedBy (legal.clocks node) (legal.told node) network port (handed_by network run port class) =
          legal.groups port class within shaped in
          All-permutation (IsSized network) j.arrivals (handed_by network run port class)
          (IsPermutation-sym (handed_by network run port class) j.arrivals j.same)
          (sized_as (legal.clocks node) (legal.told node) (scheduled_by network port) j.arrivals _
          (group_is network run legal port class j)))
      | inr none ↦ (
          let zero_class : class ≡ 0 = omega arith in
          subst (λ (n : ℕ). All (IsSized network) (handed_by network run port n)) (sym zero_class)
          (All-weaker (IsPassed network) (IsSized network) (flow_sized network)
          (handed_by network run port 0) (legal.flows port within)))
    ]

pub sized_in : (network : DeclaredNetwork) (run : List Travel) → IsNetwork network → (legal : IsLegal network run)
    → All (IsSized network) (handed_from network 0 run)
sized_in network run net legal =
    each_place (IsSized network) network run (case_in net legal) (place_sized network run legal)

-- a journey with its number, whose frame its talker's clock told the time of its release
abbrev IsOwnTold : {network : DeclaredNetwork} {run : List Travel} → IsLegal network run → ℕ → Travel → Type 0
IsOwnTold {network} legal n j =
    IsJourney network j × WasToldAtRelease legal.clocks legal.told network n j.release

-- along a route of it
along : (network : DeclaredNetwork) (run : List Travel) (legal : IsLegal network run) (n : ℕ) (r : Release) (s : Sender)
    (path : List ℕ) (hops : List HopRecord) (ending : Ending)
    → AllNeighbours (PassesOn (IsToldOn legal) (IsToldAt legal) n r s) path → IsWay path hops ending
    → IsReleased r hops → legal.told (start_of network.topology.ports path) n
    ≡ legal.clocks (start_of network.topology.ports path) r.at.0
    → All (IsToldOn legal) (handed_along n r s path hops) → All (IsToldAt legal) (hops_along n r s path hops)
along network run legal n r s [] hops ending each way released own given = All-nil (IsToldAt legal)
along network run legal n r s (p ∷ path) [] ending each way released own given = All-nil (IsToldAt legal)
along network run legal n r s (p ∷ path) (hop ∷ hops) ending each way released own given =
    All-append (IsToldAt legal) (hop_at p (transmission_of n r (class_at s p) hop)) (hops_along n r s path hops)
    (first_by (IsToldAt legal) n r s p hop.verdict hop.sent released.1
    (λ times. told_at_once (legal.clocks (port_at network.topology.ports p).from)
    (legal.told (port_at network.topology.ports p).from n) r.at.0 own))
    (later_by (IsToldOn legal) (IsToldAt legal) n r s p path hop hops ending each way given)

-- a frame that was let through at a bridge goes on from there
passes_on : (network : DeclaredNetwork) (run : List Travel) (legal : IsLegal network run) (n : ℕ) (r : Release)
    (s : Sender) (p q : ℕ) → MeetAtBridge network.topology p q
    → PassesOn (IsToldOn legal) (IsToldAt legal) n r s p q
passes_on network run legal n r s p q meet e since times earlier came arrival given =
    subst (λ (node : ℕ). HasTold (legal.clocks node) (legal.told node n) e.0) (sym meet.next) given

journey_told : (network : DeclaredNetwork) (run : List Travel) → IsNetwork network → (legal : IsLegal network run)
    → (n : ℕ) (j : Travel) → IsOwnTold legal n j → All (IsToldOn legal) (journey_handed network n j)
    → All (IsToldAt legal) (journey_hops network n j)
journey_told network run net legal n j is handed =
    let r : Release = j.release in
    let s : Sender = sender_at network r.sender in
    let keeps : IsSender network.topology s = sender_is network net r.sender is.0.sender in
    hops_by_routes (IsToldAt legal) network n j net is.0
    (λ m within. (
    let on : OnRoute s j m = journey_route network j m net is.0 within in
    let start : start_of network.topology.ports (route_to s m) ≡ talker_of network r.sender =
    route_starts network.topology s m keeps within in
    along network run legal n r s (route_to s m) (way_to s j m).hops (way_to s j m).ending
    (neighbours_with (λ p. p < length network.topology.ports) (MeetAtBridge network.topology)
    (PassesOn (IsToldOn legal) (IsToldAt legal) n r s) (λ p q there meet. passes_on network run legal n r s p q meet)
    (route_to s m) (each_on_route (λ p. p < length network.topology.ports) s m keeps.ports within)
    (keeps.bridges m [] within))
    on.way on.released
    (subst (λ (node : ℕ). legal.told node n ≡ legal.clocks node r.at.0) (sym start) is.1)
    (handed_on_route (IsToldOn legal) network n j m on handed)))

-- so each transmission was told its time by the clock of the node that the port leaves
pub told_hops : (network : DeclaredNetwork) (run : List Travel) → IsNetwork network → (legal : IsLegal network run)
    → All (IsToldAt legal) (hops_from network 0 run)
told_hops network run net legal =
    run_numbered_by (IsOwnTold legal) (IsToldOn legal) (IsToldAt legal) network 0 run
    (journey_told network run net legal)
    (λ n d within. (
    let first : n ≡ 0 + n = omega arith in
    let same : travel_at run n ≡ get_or run n d = get_or_default run n _ d within in
    subst (λ (m : ℕ). IsOwnTold legal m (get_or run n d)) first (
      legal.journeys n d within,
      subst (λ (j : Travel). WasToldAtRelease legal.clocks legal.told network n j.release) same (legal.own n within),
    )))
    (told_on network run net legal)

-- those of a port
pub told_sent : (network : DeclaredNetwork) (run : List Travel) → IsNetwork network → (legal : IsLegal network run)
    → (port : ℕ) → All (λ (x : Transmission). HasTold (legal.clocks (port_at network.topology.ports port).from)
    (legal.told (port_at network.topology.ports port).from x.frame) x.eligible) (sent_by network run port)
told_sent network run net legal port =
    at_port (λ (x : Transmission). HasTold (legal.clocks (port_at network.topology.ports port).from)
    (legal.told (port_at network.topology.ports port).from x.frame) x.eligible) network run port
    (λ k d h same. subst (λ (p : ℕ). HasTold (legal.clocks (port_at network.topology.ports p).from)
    (legal.told (port_at network.topology.ports p).from (get_or (hops_from network 0 run) k d).sent.frame)
    (get_or (hops_from network 0 run) k d).sent.eligible) same (told_hops network run net legal k d h))
