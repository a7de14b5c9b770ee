use Rattle.std.proofs.Common.{◌≡◌, ℕ, ◌+◌, ◌<◌, ◌≤◌, true, List, [], ◌∷◌, filter, length, get_or, All, refl, sym, subst}
use Rattle.std.proofs.Common.{arith}
use Rattle.std.specs.Prelude.{Contains, ◌==◌, ◌&&◌, ◌↔◌, Option}
use Rattle.std.proofs.lemmas.Bool.{and_from, eq-eqb}
use Rattle.std.proofs.lemmas.List.Elements.{All-nil, All-cons, All-tail, All-contains, All-contains_itself}
use Rattle.ats_facts.proofs.Lists.{all_right, All-from_filter}
use Rattle.ats_network.specs.Sender.{Sender}
use Rattle.ats_topology.specs.Port.{port_at}
use Rattle.ats_network.specs.Bridges.{IsBridgeAt, MeetAtBridge}
use Rattle.ats_network.specs.Network.{DeclaredNetwork}
use Rattle.ats_network.specs.Senders.{sender_at, IsSender, AllNeighbours}
use Rattle.ats_certificate.specs.PortSums.{uses}
use Rattle.ats_certificate.specs.declared.row.Row.{Row}
use Rattle.ats_group.specs.declared.verdict.Verdict.{Verdict}
use Rattle.ats_port_rule.specs.Transmission.{Transmission}
use Rattle.ats_bucket.specs.Conforming.{Frame}
use Rattle.ats_streams.specs.declared.traffic.Declared.{Declared}
use Rattle.ats_trace.specs.Journey.{Leg, Travel, IsJourney, IsOfStream, IsReleased, IsWay, class_at}
use Rattle.ats_trace.specs.Projections.{Hop, Crossing, Handed, crossings_along, handed_along, crossing_at, handed_at}
use Rattle.ats_trace.specs.Projections.{transmission_of, crossings_from, handed_from, crossings_by, handed_by, sent_by}
use Rattle.ats_trace.specs.Run.{IsLegalBy, releases_of}
use Rattle.ats_group.specs.Judge.{Judge, bucket_rule}
use Rattle.ats_group_law.proofs.Regulator.{ats_is_regulator}
use Rattle.ats_trace.specs.Talker.{start_of, talker_of, KeepsBucketsBy}
use Rattle.ats_trace.specs.Ways.{listener_count, route_to, way_to}
use Rattle.ats_trace.specs.declared.journey.Release.{Release}
use Rattle.ats_trace.specs.HopRecord.{HopRecord}
use Rattle.ats_trace.specs.declared.journey.Ending.{Ending}
use Rattle.ats_topology.specs.Topology.{IsStationAt}
use Rattle.ats_soundness_law.specs.Laws.{SoundByRule, SoundByRules, StationsPromise}
use Rattle.ats_soundness_law.specs.Runs.{Runs, in_true_time}
use Rattle.ats_soundness_law.specs.Rules.{Rule, rows_are_there, Keeps}
use Rattle.ats_soundness_law.specs.Sound.{BeginAtStations, BridgesKeepIn, IsEligibleBy, IsPrompt, IsServedOn}
use Rattle.ats_soundness_law.specs.Sound.{IsPromptIfEligible}
use Rattle.ats_soundness_law.specs.Sound.{IsContainedOn}
use Rattle.ats_soundness_law.specs.Sound.{all_but_first, bounds_of}
use Rattle.ats_port_law.proofs.ByEligibility.{by_eligibility}
use Rattle.ats_soundness_law.proofs.Along.{hop_of, all_hops, all_were_sent, all_have_crossed}
use Rattle.ats_soundness_law.proofs.Behind.{way_on}
use Rattle.ats_soundness_law.proofs.EachRule.{each_row_holds}
use Rattle.ats_soundness_law.proofs.Journeys.{crossings_on_route, each_on_route, handed_on_route, journey_route}
use Rattle.ats_soundness_law.proofs.Journeys.{route_starts}
use Rattle.ats_soundness_law.proofs.Known.{Case, CaseBy, IsTold, case_of, told}
use Rattle.ats_soundness_law.proofs.Lifts.{Numbered, numbered}
use Rattle.ats_soundness_law.proofs.Paths.{sender_is, later_bridges, uses_own}
use Rattle.ats_soundness_law.proofs.Routes.{OnRoute}
use Rattle.ats_soundness_law.proofs.Serving.{Promises, RowsHold, Serves, serves}
use Rattle.ats_soundness_law.proofs.Shaping.{shaping_for_free_by}
use Rattle.ats_soundness_law.proofs.Node.{bridges_keep, port_fed}
use Rattle.ats_soundness_law.proofs.Streams.{stream_exists, stream_used}
use Rattle.ats_soundness_law.proofs.Way.{ArrivesWithin, EligibleWithin, ComesBy, prompt, prompt_once, within_sum}

-- a crossing of a run is among those of its port
abbrev IsThere : DeclaredNetwork → List Travel → Crossing → Type 0
IsThere network run c = Contains (crossings_by network run c.port) c

-- and what is handed on among what its port hands on in its class
record IsGiven (network : DeclaredNetwork) (run : List Travel) (h : Handed) : Type 0 where
  told : IsTold network h
  among : Contains (handed_by network run h.crossing.port h.crossing.sent.class) h

all_there : (network : DeclaredNetwork) (run : List Travel) → All (IsThere network run) (crossings_from network 0 run)
all_there network run k d h =
    let crossings : List Crossing = crossings_from network 0 run in
    let one : Crossing = get_or crossings k d in
    let test = λ (c : Crossing). c.port == one.port in
    All-from_filter test (Contains (filter test crossings)) crossings (All-contains_itself (filter test crossings))
    k d h (eq-eqb one.port one.port refl)

all_given : (network : DeclaredNetwork) (run : List Travel) → Case network run
    → All (IsGiven network run) (handed_from network 0 run)
all_given network run c k d h =
    let handed : List Handed = handed_from network 0 run in
    let one : Handed = get_or handed k d in
    let test =
    λ (h : Handed). h.crossing.port == one.crossing.port && h.crossing.sent.class == one.crossing.sent.class in
    record {
      told = told network run c k d h;
      among =
          All-from_filter test (Contains (filter test handed)) handed (All-contains_itself (filter test handed)) k d h
          (and_from (one.crossing.port == one.crossing.port) (one.crossing.sent.class == one.crossing.sent.class)
          (eq-eqb one.crossing.port one.crossing.port refl)
          (eq-eqb one.crossing.sent.class one.crossing.sent.class refl));
    }

-- a port serves the class that a sender has there
abbrev ServesAt : DeclaredNetwork → List Travel → List Row → Sender → ℕ → Type 0
ServesAt network run rows s port = Serves network run rows (class_at s port) port

-- where all ports of a way do, the frame's crossings keep the bounds
record IsServing (network : DeclaredNetwork) (run : List Travel) (rows : List Row) (s : Sender) (g : Hop) : Type 0 where
  serves : ServesAt network run rows s g.port
  ranked : g.sent.class ≡ class_at s g.port

serving : (network : DeclaredNetwork) (run : List Travel) (rows : List Row) (n : ℕ) (r : Release) (s : Sender)
    (path : List ℕ) (hops : List HopRecord) (ending : Ending) → All (ServesAt network run rows s) path
    → All (λ (c : Crossing). IsServing network run rows s (hop_of c)) (crossings_along n r s path hops ending)
serving network run rows n r s path hops ending all =
    all_were_sent (IsServing network run rows s) n r s path hops ending
    (all_hops (IsServing network run rows s) n r s path hops
    (λ k d h e times. record { serves = all k d h; ranked = refl }))

arrive_within : (network : DeclaredNetwork) (run : List Travel) (rows : List Row) (n : ℕ) (r : Release) (s : Sender)
    (path : List ℕ) (hops : List HopRecord) (ending : Ending) → All (ServesAt network run rows s) path
    → All (IsThere network run) (crossings_along n r s path hops ending)
    → All (ArrivesWithin (bounds_of rows s)) (crossings_along n r s path hops ending)
arrive_within network run rows n r s path hops ending all there k d h =
    let c : Crossing = get_or (crossings_along n r s path hops ending) k d in
    let at : IsServing network run rows s (hop_of c) =
    serving network run rows n r s path hops ending all k d h in
    All-contains (λ (x : Crossing). x.sent.class ≡ class_at s c.port
    → x.arrival ≤ x.sent.eligible + bounds_of rows s c.port)
    (crossings_by network run c.port) c
    at.serves.arrives (there k d h) at.ranked

eligible_within : (network : DeclaredNetwork) (run : List Travel) (rows : List Row) (n : ℕ) (r : Release) (s : Sender)
    (path : List ℕ) (hops : List HopRecord) (ending : Ending) → All (ServesAt network run rows s) path
    → All (IsGiven network run) (handed_along n r s path hops)
    → All (EligibleWithin (bounds_of rows s)) (handed_along n r s path hops)
eligible_within network run rows n r s path hops ending all given k d h =
    let one : Handed = get_or (handed_along n r s path hops) k d in
    let at : IsServing network run rows s (hop_of one.crossing) =
    all_have_crossed (λ (c : Crossing). IsServing network run rows s (hop_of c)) n r s path hops ending
    (serving network run rows n r s path hops ending all) k d h in
    let is : IsGiven network run one = given k d h in
    let among : Contains (handed_by network run one.crossing.port (class_at s one.crossing.port)) one =
    subst (λ (class : ℕ). Contains (handed_by network run one.crossing.port class) one) at.ranked is.among in
    All-contains (EligibleBehind rows s one.crossing.port)
    (handed_by network run one.crossing.port (class_at s one.crossing.port)) one
    (at.serves.free is.told.bridge) among
  where
    EligibleBehind : List Row → Sender → ℕ → Handed → Type 0
    EligibleBehind rows s port =
        λ (h : Handed). IsEligibleBy (h.crossing.sent.eligible + bounds_of rows s port) (λ e. Unit {0}) h.verdict

-- each bridge that one of these ports leaves keeps something
abbrev EachBridge : (ℕ → Type 0) → DeclaredNetwork → List ℕ → Type 0
EachBridge Keeps network ports =
    All (λ p. IsBridgeAt network.topology (port_at network.topology.ports p).from
    → Keeps (port_at network.topology.ports p).from) ports

abbrev KeepsFrom : (ℕ → Type 0) → DeclaredNetwork → ℕ → Type 0
KeepsFrom Keeps network p = Keeps (port_at network.topology.ports p).from

-- so the nodes do that the ports of a path behind another one leave; and that which the first leaves, where it does
later_keep : (Keeps : ℕ → Type 0) (network : DeclaredNetwork) (p : ℕ) (path : List ℕ)
    → AllNeighbours (MeetAtBridge network.topology) (p ∷ path) → EachBridge Keeps network path
    → All (KeepsFrom Keeps network) path
later_keep Keeps network p path meet bridges k d h =
    bridges k d h (later_bridges network.topology p path meet k d h)

all_keep : (Keeps : ℕ → Type 0) (network : DeclaredNetwork) (path : List ℕ)
    → AllNeighbours (MeetAtBridge network.topology) path → Keeps (start_of network.topology.ports path)
    → EachBridge Keeps network path → All (KeepsFrom Keeps network) path
all_keep Keeps network [] meet keeps bridges = All-nil (KeepsFrom Keeps network)
all_keep Keeps network (p ∷ path) meet keeps bridges =
    All-cons (KeepsFrom Keeps network) p path keeps
    (later_keep Keeps network p path meet
    (All-tail (λ q. IsBridgeAt network.topology (port_at network.topology.ports q).from
    → Keeps (port_at network.topology.ports q).from) p path bridges))

-- a journey of a stream in a legal run, by rows that hold
record OfStream (Keeps : ℕ → Type 0) (network : DeclaredNetwork) (run : List Travel) (rows : List Row)
    (j : Travel) : Type 0 where
  promises : Promises Keeps network run
  holds : RowsHold network rows
  is : IsJourney network j
  keeps : IsSender network.topology (sender_at network j.release.sender)
  stream : j.release.sender < length network.streams
  numbered : Numbered (IsThere network run) (IsGiven network run) network j

of_stream : {Keeps : ℕ → Type 0} (network : DeclaredNetwork) (run : List Travel) (rows : List Row) (j : Travel)
    → Promises Keeps network run → RowsHold network rows → Contains run j → IsOfStream network j
    → OfStream Keeps network run rows j
of_stream network run rows j promises holds there stream =
    let is : IsJourney network j = All-contains (IsJourney network) run j promises.case.journeys there in
    record {
      promises = promises;
      holds = holds;
      is = is;
      keeps = sender_is network promises.case.net j.release.sender is.sender;
      stream = stream;
      numbered = numbered (IsThere network run) (IsGiven network run) network run j there (all_there network run)
          (all_given network run promises.case);
    }

-- the ports of a path serve it where the nodes that they leave keep it
all_serve : {Keeps : ℕ → Type 0} (network : DeclaredNetwork) (run : List Travel) (rows : List Row) (j : Travel)
    → OfStream Keeps network run rows j → (path : List ℕ)
    → All (λ q. uses q (sender_at network j.release.sender) ≡ true) path
    → All (λ q. q < length network.topology.ports) path → All (KeepsFrom Keeps network) path
    → All (ServesAt network run rows (sender_at network j.release.sender)) path
all_serve network run rows j o path used within keep k d h =
    let i : ℕ = j.release.sender in
    let p : ℕ = get_or path k d in
    serves network run rows o.promises o.holds (class_at (sender_at network i) p) p (within k d h)
    (stream_used network p i o.stream (used k d h)) (keep k d h)

-- at its first port the frame is eligible at its release
comes_first : (r : Release) (path : List ℕ) (hops : List HopRecord) (ending : Ending) → 1 ≤ length path
    → IsReleased r hops → ComesBy r.at.0 path hops ending
comes_first r [] hops ending some released = absurd (omega arith)
comes_first r (p ∷ path) [] ending some released = tt
comes_first r (p ∷ path) (hop ∷ hops) ending some released =
    subst (λ (v : Verdict). IsEligibleBy r.at.0 (λ e. Unit {0}) v) (sym released.1) (omega arith, tt)

pub served : {Keeps : ℕ → Type 0} (network : DeclaredNetwork) (rows : List Row) (run : List Travel)
    → Promises Keeps network run → RowsHold network rows → (j : Travel) → Contains run j → IsOfStream network j
    → Keeps (talker_of network j.release.sender)
    → (m : ℕ) → m < listener_count (sender_at network j.release.sender)
    → EachBridge Keeps network (route_to (sender_at network j.release.sender) m)
    → IsServedOn rows (sender_at network j.release.sender) j.release
    (route_to (sender_at network j.release.sender) m) (way_to (sender_at network j.release.sender) j m)
served {Keeps} network rows run promises holds j there stream keeps m within bridges =
    let o : OfStream Keeps network run rows j = of_stream network run rows j promises holds there stream in
    let r : Release = j.release in
    let s : Sender = sender_at network r.sender in
    let n : ℕ = o.numbered.number in
    let route : List ℕ = route_to s m in
    let way : Leg = way_to s j m in
    let on : OnRoute s j m = journey_route network j m promises.case.net o.is within in
    let serve = all_serve network run rows j o route (each_on_route (λ q. uses q s ≡ true) s m (uses_own s) within)
    (each_on_route (λ q. q < length network.topology.ports) s m o.keeps.ports within)
    (all_keep Keeps network route (o.keeps.bridges m [] within)
    (subst Keeps
    (sym (route_starts network.topology s m o.keeps within)) keeps) bridges) in
    let is_prompt : IsPrompt (bounds_of rows s) r.at.0 route way.hops way.ending =
    prompt (bounds_of rows s) n r s route way.hops way.ending r.at.0 on.way
    (arrive_within network run rows n r s route way.hops way.ending serve
    (crossings_on_route (IsThere network run) network n j m on o.numbered.crossings))
    (eligible_within network run rows n r s route way.hops way.ending serve
    (handed_on_route (IsGiven network run) network n j m on o.numbered.handed))
    (comes_first r route way.hops way.ending (o.keeps.routes m [] within).least on.released) in
    record {
      prompt = is_prompt;
      arrives = within_sum (bounds_of rows s) route way.hops way.ending r.at.0 is_prompt;
    }

none_once : (bound : ℕ → ℕ) (path : List ℕ) (ending : Ending) → IsPromptIfEligible bound path [] ending
none_once bound [] ending = tt
none_once bound (p ∷ path) ending = tt

-- behind the first port of a path
contained_behind : {Keeps : ℕ → Type 0} (network : DeclaredNetwork) (run : List Travel) (rows : List Row) (j : Travel)
    → OfStream Keeps network run rows j → (n : ℕ) (path : List ℕ) (hops : List HopRecord) (ending : Ending)
    → IsWay path hops ending → AllNeighbours (MeetAtBridge network.topology) path
    → EachBridge Keeps network (all_but_first path)
    → All (λ q. uses q (sender_at network j.release.sender) ≡ true) path
    → All (λ q. q < length network.topology.ports) path
    → All (IsThere network run) (crossings_along n j.release (sender_at network j.release.sender) path hops ending)
    → All (IsGiven network run) (handed_along n j.release (sender_at network j.release.sender) path hops)
    → IsPromptIfEligible (bounds_of rows (sender_at network j.release.sender)) (all_but_first path)
    (all_but_first hops) ending
contained_behind {Keeps} network run rows j o n [] hops ending way meet bridges used within there given = tt
contained_behind {Keeps} network run rows j o n (p ∷ path) [] ending way meet bridges used within there given =
    none_once (bounds_of rows (sender_at network j.release.sender)) path ending
contained_behind {Keeps} network run rows j o n (p ∷ path) (hop ∷ hops) ending way meet bridges used within there
    given =
    let r : Release = j.release in
    let s : Sender = sender_at network r.sender in
    let sent : Option Transmission = transmission_of n r (class_at s p) hop in
    let Once : List HopRecord → Type 0 =
    λ (hs : List HopRecord). IsPromptIfEligible (bounds_of rows s) path hs ending in
    let serve = all_serve network run rows j o path (All-tail (λ q. uses q s ≡ true) p path used)
    (All-tail (λ q. q < length network.topology.ports) p path within)
    (later_keep Keeps network p path meet bridges) in
    way_on (Once hops) path hop.verdict hop.sent hops ending
    (λ on. prompt_once (bounds_of rows s) n r s path hops ending on
    (arrive_within network run rows n r s path hops ending serve (all_right (IsThere network run)
    (crossing_at r.octets hop.arrival.0 p sent hops ending) (crossings_along n r s path hops ending) there))
    (eligible_within network run rows n r s path hops ending serve (all_right (IsGiven network run)
    (handed_at r.octets hop.arrival.0 p sent hops) (handed_along n r s path hops) given)))
    (λ none. subst Once (sym none) (none_once (bounds_of rows s) path ending))
    way

pub contained : {Keeps : ℕ → Type 0} (network : DeclaredNetwork) (rows : List Row) (run : List Travel)
    → Promises Keeps network run → RowsHold network rows → (j : Travel) → Contains run j → IsOfStream network j
    → (m : ℕ) → m < listener_count (sender_at network j.release.sender)
    → EachBridge Keeps network (all_but_first (route_to (sender_at network j.release.sender) m))
    → IsContainedOn rows (sender_at network j.release.sender) (route_to (sender_at network j.release.sender) m)
    (way_to (sender_at network j.release.sender) j m)
contained {Keeps} network rows run promises holds j there stream m within bridges =
    let o : OfStream Keeps network run rows j = of_stream network run rows j promises holds there stream in
    let s : Sender = sender_at network j.release.sender in
    let n : ℕ = o.numbered.number in
    let route : List ℕ = route_to s m in
    let way : Leg = way_to s j m in
    let on : OnRoute s j m = journey_route network j m promises.case.net o.is within in
    contained_behind network run rows j o n route way.hops way.ending on.way (o.keeps.bridges m [] within) bridges
    (each_on_route (λ q. uses q s ≡ true) s m (uses_own s) within)
    (each_on_route (λ q. q < length network.topology.ports) s m o.keeps.ports within)
    (crossings_on_route (IsThere network run) network n j m on o.numbered.crossings)
    (handed_on_route (IsGiven network run) network n j m on o.numbered.handed)

-- what the rules say of the rows
pub rows_hold : (network : DeclaredNetwork) (rows : List Row) → ((rule : Rule) → Keeps rule network rows)
    → RowsHold network rows
rows_hold network rows keeps =
    record { complete = keeps rows_are_there; each = each_row_holds network rows keeps }

-- what a run by true time promises, where groups regulate by a rule
promises_by : {judge : Judge} {rule : Declared → List Frame → Type 0} (network : DeclaredNetwork) (run : List Travel)
    → CaseBy judge rule network run → Promises (KeepsBucketsBy rule network (releases_of run)) network run
promises_by network run c = record {
  case = case_of c;
  offered = λ port within keeps. by_eligibility network port (sent_by network run port)
      (port_fed network run port c keeps).offered;
  free = λ row used bridge holds keeps.
      shaping_for_free_by network run row c used bridge holds (port_fed network run row.port c keeps);
}

-- bounds that keep the rules are sound for each judge that regulates by a rule
pub sound_by_rule : (rule : Declared → List Frame → Type 0) → SoundByRule rule
sound_by_rule rule judge network rows rules regulator net keeps =
    let holds : RowsHold network rows = rows_hold network rows keeps in
    let promises : (run : List Travel) → IsLegalBy judge network run
    → Promises (KeepsBucketsBy rule network (releases_of run)) network run =
    λ run legal. promises_by network run (record { rules = rules; regulator = regulator; net = net; legal = legal }) in
    record {
      served = λ run legal j there stream kept m within bridges.
          served network rows run (promises run legal) holds j there stream kept m within bridges;
      contained = λ run legal j there stream m within bridges.
          contained network rows run (promises run legal) holds j there stream m within bridges;
    }

pub sound_by_rules : SoundByRules
sound_by_rules judge network rows regulator net keeps =
    sound_by_rule bucket_rule judge network rows ats_is_regulator.rule regulator net keeps

-- where no bridge has frames of its own, and so each keeps what is asked of it, nothing is asked of them
pub stations_promise : (runs : Runs)
    → ((network : DeclaredNetwork) (run : List Travel) (legal : runs.legal network run) (path : List ℕ)
    → BeginAtStations network → BridgesKeepIn runs network run legal path)
    → ((network : DeclaredNetwork) (run : List Travel) (legal : runs.legal network run) (node : ℕ)
    → IsStationAt network.topology node
    → runs.keeps network run legal node ↔ runs.station_keeps network run node) → StationsPromise runs
stations_promise runs kept read network rows stations = (
  λ sound. record {
    served = λ run legal j there stream keeps m within. sound.served run legal j there stream
        ((read network run legal (talker_of network j.release.sender)
        (stations j.release.sender (stream_exists network j.release.sender stream))).1 keeps) m within
        (kept network run legal (route_to (sender_at network j.release.sender) m) stations);
    contained = λ run legal j there stream m within. sound.contained run legal j there stream m within
        (kept network run legal (all_but_first (route_to (sender_at network j.release.sender) m)) stations);
  },
  λ sound. record {
    served = λ run legal j there stream keeps m within bridges. sound.served run legal j there stream
        ((read network run legal (talker_of network j.release.sender)
        (stations j.release.sender (stream_exists network j.release.sender stream))).0 keeps) m within;
    contained = λ run legal j there stream m within bridges. sound.contained run legal j there stream m within;
  },
)

pub promise_in_true_time : (judge : Judge) (rule : Declared → List Frame → Type 0)
    → StationsPromise (in_true_time judge rule)
promise_in_true_time judge rule = stations_promise (in_true_time judge rule)
    (λ network run legal path stations. bridges_keep rule network (releases_of run) path stations)
    (λ network run legal node station. (λ keeps. keeps, λ keeps. keeps))
