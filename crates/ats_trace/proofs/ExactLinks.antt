use Rattle.std.proofs.Common.{◌≡◌, ℕ, ◌+◌, ◌<◌, List, [], ◌∷◌, ◌++◌, length, drop, get_or, All, refl, sym, ap, subst}
use Rattle.std.proofs.Common.{arith}
use Rattle.std.specs.Prelude.{◌==◌, Option, Some, None}
use Rattle.std.specs.List.{AllZip, zip}
use Rattle.std.proofs.lemmas.Bool.{eqb-true, eq-eqb}
use Rattle.std.proofs.lemmas.List.Elements.{All-nil, All-cons, All-head, All-tail, All-append, All-filter}
use Rattle.std.proofs.lemmas.List.Elements.{filter_passes}
use Rattle.ats_facts.proofs.Lists.{all_left, all_right, All-from_filter}
use Rattle.ats_num.specs.declared.time.Ps.{Ps}
use Rattle.ats_topology.specs.Port.{port_at, no_port}
use Rattle.ats_topology.specs.Walks.{ArePorts}
use Rattle.ats_topology.specs.declared.port.Port.{Port}
use Rattle.ats_streams.specs.Branches.{branches_of, legs_of, trunk_of}
use Rattle.ats_streams.specs.declared.branch.Branch.{Branch}
use Rattle.ats_network.specs.Sender.{Sender}
use Rattle.ats_network.specs.Network.{DeclaredNetwork, IsNetwork}
use Rattle.ats_network.specs.Senders.{sender_at, no_sender, IsSender}
use Rattle.ats_network.proofs.SenderLemmas.{each_is_sender}
use Rattle.ats_group.specs.declared.verdict.Verdict.{Verdict}
use Rattle.ats_group.specs.declared.verdict.Verdict.TheVariants.{Eligible, Late, Size}
use Rattle.ats_trace.specs.Journey.{Leg, Travel, IsSentOrEnds, IsWay, IsReleased, BeginsAs, IsCopy, IsJourney}
use Rattle.ats_trace.specs.Journey.{class_at, legs_in, record_at}
use Rattle.ats_trace.specs.Projections.{Crossing, transmission_by, transmission_of, crossing_at, crossings_along}
use Rattle.ats_trace.specs.Projections.{crossings_over}
use Rattle.ats_trace.specs.Projections.{journey_crossings, crossings_from, crossings_by}
use Rattle.ats_trace.specs.Links.{ArrivesWithin, KeepsLinkRule}
use Rattle.ats_trace.specs.Run.{IsIdeal}
use Rattle.ats_trace.specs.ExactLinks.{HaveOneLatency, arrival_after, IsSentOrEndsAt, IsWayAt, IsEligibleAtRelease}
use Rattle.ats_trace.specs.ExactLinks.{IsJourneyAt, IsJudgedAs, IsCopyAt}
use Rattle.ats_trace.specs.ExactLinks.{IsLegalAt}
use Rattle.ats_trace.specs.ExactLinks.{LinksAreExact}
use Rattle.ats_trace.specs.declared.journey.Release.{Release}
use Rattle.ats_trace.specs.HopRecord.{HopRecord}
use Rattle.ats_trace.specs.declared.journey.Ending.{Ending}
use Rattle.ats_trace.specs.declared.journey.Ending.TheVariants.{Sink, Discard}
use Rattle.ats_trace.proofs.Legs.{legs_cons, legs_keep}

-- a frame takes exactly the latency of the port, where that is one of these
abbrev IsExact : List Port → Crossing → Type 0
IsExact ports c = c.port < length ports → c.arrival ≡ arrival_after (port_at ports c.port) c.sent.end

-- when a frame comes to the rest of its way
abbrev comes_at : List HopRecord → Ending → ℕ
comes_at (hop ∷ hops) ending = hop.arrival.0
comes_at [] (Sink at) = at.0
comes_at [] Discard = 0

-- from the form of a way and its exact crossings to the way with its times

exact_here : (ports : List Port) (frame : ℕ) (release : Release) (class came p : ℕ) (path : List ℕ) (verdict : Verdict)
    (sent : Option (Ps × Ps)) (hops : List HopRecord) (ending : Ending)
    → p < length ports
    → ((due : ℕ) → IsWay path hops ending → comes_at hops ending ≡ due → IsWayAt ports due path hops ending)
    → IsSentOrEnds (IsWay path hops ending) verdict sent hops ending
    → All (IsExact ports)
    (crossing_at release.octets came p (transmission_by frame release class verdict sent) hops ending)
    → IsSentOrEndsAt (λ at. IsWayAt ports at path hops ending) (port_at ports p) verdict sent hops ending
exact_here ports frame release class came p path (Eligible e) (Some times) (next ∷ hops) ending within rest way all =
    rest (arrival_after (port_at ports p) times.1.0) way (All-head (IsExact ports) _ [] all within)
exact_here ports frame release class came p path (Eligible e) (Some times) [] (Sink at) within rest way all =
    rest (arrival_after (port_at ports p) times.1.0) way (All-head (IsExact ports) _ [] all within)
exact_here ports frame release class came p [] (Eligible e) (Some times) [] Discard within rest way all = absurd way
exact_here ports frame release class came p (q ∷ path) (Eligible e) (Some times) [] Discard within rest way all =
    absurd way
exact_here ports frame release class came p path (Eligible e) None hops ending within rest way all = absurd way
exact_here ports frame release class came p path (Late e) (Some times) hops ending within rest way all = absurd way
exact_here ports frame release class came p path (Late e) None hops ending within rest way all = way
exact_here ports frame release class came p path Size (Some times) hops ending within rest way all = absurd way
exact_here ports frame release class came p path Size None hops ending within rest way all = way

exact_way : (ports : List Port) (frame : ℕ) (release : Release) (sender : Sender) (path : List ℕ)
    (hops : List HopRecord) (ending : Ending) (due : ℕ)
    → All (λ (p : ℕ). p < length ports) path
    → All (IsExact ports) (crossings_along frame release sender path hops ending)
    → IsWay path hops ending → comes_at hops ending ≡ due → IsWayAt ports due path hops ending
exact_way ports frame release sender [] [] (Sink at) due within all way comes = comes
exact_way ports frame release sender [] [] Discard due within all way comes = absurd way
exact_way ports frame release sender [] (hop ∷ hops) ending due within all way comes = absurd way
exact_way ports frame release sender (p ∷ path) [] ending due within all way comes = absurd way
exact_way ports frame release sender (p ∷ path) (hop ∷ hops) ending due within all way comes =
    let here : List Crossing = crossing_at release.octets hop.arrival.0 p
    (transmission_of frame release (class_at sender p) hop) hops ending in
    let later : List Crossing = crossings_along frame release sender path hops ending in (
      comes,
      exact_here ports frame release (class_at sender p) hop.arrival.0 p path hop.verdict hop.sent hops ending
          (All-head (λ (p : ℕ). p < length ports) p path within)
          (λ at. exact_way ports frame release sender path hops ending at
          (All-tail (λ (p : ℕ). p < length ports) p path within) (all_right (IsExact ports) here later all))
          way (all_left (IsExact ports) here later all),
    )

comes_first : (release : Release) (hops : List HopRecord) (ending : Ending) → IsReleased release hops
    → comes_at hops ending ≡ release.at.0
comes_first release [] ending released = absurd released
comes_first release (hop ∷ hops) ending released = ap (λ (t : Ps). t.0) released.0

eligible_first : (release : Release) (hops : List HopRecord) → IsReleased release hops
    → IsEligibleAtRelease release hops
eligible_first release [] released = absurd released
eligible_first release (hop ∷ hops) released = released.1

comes_forwarded : (start : HopRecord) (hops : List HopRecord) (ending : Ending) → BeginsAs start hops
    → comes_at hops ending ≡ start.arrival.0
comes_forwarded start [] ending forwarded = absurd forwarded
comes_forwarded start (hop ∷ hops) ending forwarded = ap (λ (t : Ps). t.0) forwarded.0

judged_first : (start : HopRecord) (hops : List HopRecord) → BeginsAs start hops → IsJudgedAs start hops
judged_first start [] forwarded = absurd forwarded
judged_first start (hop ∷ hops) forwarded = forwarded.1

exact_copy : (ports : List Port) (frame : ℕ) (release : Release) (sender : Sender) (start : Option HopRecord)
    (path : List ℕ) (leg : Leg) → ArePorts ports path
    → All (IsExact ports) (crossings_along frame release sender path leg.hops leg.ending)
    → IsCopy start path leg → IsCopyAt ports start path leg
exact_copy ports frame release sender (Some start) path leg within all copy = (
  judged_first start leg.hops copy.0,
  exact_way ports frame release sender path leg.hops leg.ending start.arrival.0 within all copy.1
      (comes_forwarded start leg.hops leg.ending copy.0),
)
exact_copy ports frame release sender None path leg within all copy = copy

exact_copies : (ports : List Port) (frame : ℕ) (release : Release) (sender : Sender) (legs : List Leg)
    (branches : List Branch) (paths : List (List ℕ)) (copies : List Leg) → All (ArePorts ports) paths
    → All (IsExact ports) (crossings_over frame release sender paths copies)
    → AllZip (λ (branch : Branch × List ℕ) (leg : Leg). IsCopy (record_at legs branch.0) branch.1 leg)
    (zip branches paths) copies
    → AllZip (λ (branch : Branch × List ℕ) (leg : Leg). IsCopyAt ports (record_at legs branch.0) branch.1 leg)
    (zip branches paths) copies
exact_copies ports frame release sender legs [] paths [] within all copied = tt
exact_copies ports frame release sender legs [] paths (c ∷ copies) within all copied = absurd copied
exact_copies ports frame release sender legs (b ∷ branches) [] [] within all copied = tt
exact_copies ports frame release sender legs (b ∷ branches) [] (c ∷ copies) within all copied = absurd copied
exact_copies ports frame release sender legs (b ∷ branches) (path ∷ paths) [] within all copied = absurd copied
exact_copies ports frame release sender legs (b ∷ branches) (path ∷ paths) (c ∷ copies) within all copied =
    let here : List Crossing = crossings_along frame release sender path c.hops c.ending in
    let later : List Crossing = crossings_over frame release sender paths copies in (
      exact_copy ports frame release sender (record_at legs b) path c (All-head (ArePorts ports) path paths within)
          (all_left (IsExact ports) here later all) copied.0,
      exact_copies ports frame release sender legs branches paths copies
          (All-tail (ArePorts ports) path paths within) (all_right (IsExact ports) here later all) copied.1,
    )

-- the crossings of a journey are those along the trunk, and those of the copies
along_trunk : (P : Crossing → Type 0) (frame : ℕ) (sender : Sender) (j : Travel)
    → All P (crossings_over frame j.release sender (legs_of sender.ports sender.branches) (legs_in j))
    → All P (crossings_along frame j.release sender (trunk_of sender.ports sender.branches) j.hops j.ending
    ++ crossings_over frame j.release sender (drop 1 (legs_of sender.ports sender.branches)) j.copies)
along_trunk P frame sender j all =
    subst (λ (legs : List (List ℕ)). All P (crossings_over frame j.release sender legs (legs_in j)))
    (legs_cons sender.ports sender.branches) all

over_legs : (P : Crossing → Type 0) (frame : ℕ) (sender : Sender) (j : Travel)
    → All P (crossings_along frame j.release sender (trunk_of sender.ports sender.branches) j.hops j.ending
    ++ crossings_over frame j.release sender (drop 1 (legs_of sender.ports sender.branches)) j.copies)
    → All P (crossings_over frame j.release sender (legs_of sender.ports sender.branches) (legs_in j))
over_legs P frame sender j all =
    subst (λ (legs : List (List ℕ)). All P (crossings_over frame j.release sender legs (legs_in j)))
    (sym (legs_cons sender.ports sender.branches)) all

-- the ports of the trunk, and those of each branch, are ports
each_leg : (ports : List Port) (sender : Sender) → ArePorts ports sender.ports
    → All (ArePorts ports)
    (trunk_of sender.ports sender.branches ∷ drop 1 (legs_of sender.ports sender.branches))
each_leg ports sender within =
    subst (All (ArePorts ports)) (legs_cons sender.ports sender.branches)
    (legs_keep (λ p. p < length ports) 0 sender.ports sender.branches within)

exact_journey : (network : DeclaredNetwork) → IsNetwork network → (n : ℕ) (j : Travel) → IsJourney network j
    → All (IsExact network.topology.ports) (journey_crossings network n j) → IsJourneyAt network j
exact_journey network net n j is all =
    let s : Sender = sender_at network j.release.sender in
    let ports : List Port = network.topology.ports in
    let Exact : Crossing → Type 0 = IsExact network.topology.ports in
    let keeps : IsSender network.topology s = each_is_sender network net j.release.sender no_sender is.sender in
    let trunk : List ℕ = trunk_of s.ports s.branches in
    let rest : List (List ℕ) = drop 1 (legs_of s.ports s.branches) in
    let within : All (ArePorts ports) (trunk ∷ rest) = each_leg ports s keeps.ports in
    let here : List Crossing = crossings_along n j.release s trunk j.hops j.ending in
    let later : List Crossing = crossings_over n j.release s rest j.copies in
    let both : All Exact (here ++ later) = along_trunk Exact n s j all in
    record {
      sender = is.sender;
      octets = is.octets;
      way = exact_way ports n j.release s trunk j.hops j.ending j.release.at.0
          (All-head (ArePorts ports) trunk rest within) (all_left Exact here later both) is.way
          (comes_first j.release j.hops j.ending is.released);
      released = eligible_first j.release j.hops is.released;
      copies = exact_copies ports n j.release s (legs_in j) s.branches rest j.copies
          (All-tail (ArePorts ports) trunk rest within) (all_right Exact here later both) is.copies;
    }

exact_journeys : (network : DeclaredNetwork) → IsNetwork network → (n : ℕ) (run : List Travel)
    → All (IsJourney network) run
    → All (IsExact network.topology.ports) (crossings_from network n run) → All (IsJourneyAt network) run
exact_journeys network net n [] all exact = All-nil (IsJourneyAt network)
exact_journeys network net n (j ∷ run) all exact =
    let Exact : Crossing → Type 0 = IsExact network.topology.ports in
    All-cons (IsJourneyAt network) j run
    (exact_journey network net n j (All-head (IsJourney network) j run all)
    (all_left Exact (journey_crossings network n j) (crossings_from network (n + 1) run) exact))
    (exact_journeys network net (n + 1) run (All-tail (IsJourney network) j run all)
    (all_right Exact (journey_crossings network n j) (crossings_from network (n + 1) run) exact))

all_exact : (network : DeclaredNetwork) (run : List Travel) → HaveOneLatency network.topology.ports
    → IsIdeal network run
    → All (IsExact network.topology.ports) (crossings_from network 0 run)
all_exact network run exact legal k d h within =
    let crossings : List Crossing = crossings_from network 0 run in
    let one : Crossing = get_or crossings k d in
    let port : Port = port_at network.topology.ports one.port in
    let in_time : ArrivesWithin port.earliest.0 port.latency.0 one =
    All-from_filter (λ (c : Crossing). c.port == one.port) (ArrivesWithin port.earliest.0 port.latency.0) crossings
    (legal.links one.port within).within k d h (eq-eqb one.port one.port refl) in
    omega (arith, in_time.earliest, in_time.latest, ap (λ (t : Ps). t.0) (exact one.port no_port within))

at_from_legal : (network : DeclaredNetwork) (run : List Travel) → IsNetwork network
    → HaveOneLatency network.topology.ports
    → IsIdeal network run
    → IsLegalAt network run
at_from_legal network run net exact legal = record {
  in_order = legal.in_order;
  journeys = exact_journeys network net 0 run legal.journeys (all_exact network run exact legal);
  ports = legal.ports;
  groups = legal.groups;
  flows = legal.flows;
}

-- and back

form_here : (ports : List Port) (p : ℕ) (path : List ℕ) (verdict : Verdict) (sent : Option (Ps × Ps))
    (hops : List HopRecord) (ending : Ending)
    → ((due : ℕ) → IsWayAt ports due path hops ending → IsWay path hops ending)
    → IsSentOrEndsAt (λ at. IsWayAt ports at path hops ending) (port_at ports p) verdict sent hops ending
    → IsSentOrEnds (IsWay path hops ending) verdict sent hops ending
form_here ports p path (Eligible e) (Some times) hops ending rest way =
    rest (arrival_after (port_at ports p) times.1.0) way
form_here ports p path (Eligible e) None hops ending rest way = absurd way
form_here ports p path (Late e) (Some times) hops ending rest way = absurd way
form_here ports p path (Late e) None hops ending rest way = way
form_here ports p path Size (Some times) hops ending rest way = absurd way
form_here ports p path Size None hops ending rest way = way

form_way : (ports : List Port) (due : ℕ) (path : List ℕ) (hops : List HopRecord) (ending : Ending)
    → IsWayAt ports due path hops ending → IsWay path hops ending
form_way ports due [] [] (Sink at) way = tt
form_way ports due [] [] Discard way = absurd way
form_way ports due [] (hop ∷ hops) ending way = absurd way
form_way ports due (p ∷ path) [] ending way = absurd way
form_way ports due (p ∷ path) (hop ∷ hops) ending way =
    form_here ports p path hop.verdict hop.sent hops ending (λ at. form_way ports at path hops ending) way.1

-- the crossing at a port is exact
crossed_here : (ports : List Port) (frame : ℕ) (release : Release) (class came p : ℕ) (path : List ℕ)
    (verdict : Verdict) (sent : Option (Ps × Ps)) (hops : List HopRecord) (ending : Ending)
    → IsSentOrEndsAt (λ at. IsWayAt ports at path hops ending) (port_at ports p) verdict sent hops ending
    → All (IsExact ports)
    (crossing_at release.octets came p (transmission_by frame release class verdict sent) hops ending)
crossed_here ports frame release class came p [] (Eligible e) (Some times) (next ∷ hops) ending way = absurd way
crossed_here ports frame release class came p (q ∷ path) (Eligible e) (Some times) (next ∷ hops) ending way =
    All-cons (IsExact ports) _ [] (λ within. way.0) (All-nil (IsExact ports))
crossed_here ports frame release class came p [] (Eligible e) (Some times) [] (Sink at) way =
    All-cons (IsExact ports) _ [] (λ within. way) (All-nil (IsExact ports))
crossed_here ports frame release class came p (q ∷ path) (Eligible e) (Some times) [] (Sink at) way = absurd way
crossed_here ports frame release class came p path (Eligible e) (Some times) [] Discard way = All-nil (IsExact ports)
crossed_here ports frame release class came p path (Eligible e) None hops ending way = All-nil (IsExact ports)
crossed_here ports frame release class came p path (Late e) sent hops ending way = All-nil (IsExact ports)
crossed_here ports frame release class came p path Size sent hops ending way = All-nil (IsExact ports)

-- behind a port where the frame is not sent there is none
none_crossed : (P : Crossing → Type 0) (frame : ℕ) (release : Release) (sender : Sender) (path : List ℕ) (hops : List
    HopRecord) (ending : Ending) → hops ≡ [] → All P (crossings_along frame release sender path hops ending)
none_crossed P frame release sender [] hops ending none = All-nil P
none_crossed P frame release sender (p ∷ path) [] ending none = All-nil P
none_crossed P frame release sender (p ∷ path) (hop ∷ hops) ending none = cc (none)

crossed_on : (ports : List Port) (frame : ℕ) (release : Release) (sender : Sender) (p : ℕ) (path : List ℕ)
    (verdict : Verdict) (sent : Option (Ps × Ps)) (hops : List HopRecord) (ending : Ending)
    → ((due : ℕ) → IsWayAt ports due path hops ending
    → All (IsExact ports) (crossings_along frame release sender path hops ending))
    → IsSentOrEndsAt (λ at. IsWayAt ports at path hops ending) (port_at ports p) verdict sent hops ending
    → All (IsExact ports) (crossings_along frame release sender path hops ending)
crossed_on ports frame release sender p path (Eligible e) (Some times) hops ending rest way =
    rest (arrival_after (port_at ports p) times.1.0) way
crossed_on ports frame release sender p path (Eligible e) None hops ending rest way = absurd way
crossed_on ports frame release sender p path (Late e) (Some times) hops ending rest way = absurd way
crossed_on ports frame release sender p path (Late e) None hops ending rest way =
    none_crossed (IsExact ports) frame release sender path hops ending way.0
crossed_on ports frame release sender p path Size (Some times) hops ending rest way = absurd way
crossed_on ports frame release sender p path Size None hops ending rest way =
    none_crossed (IsExact ports) frame release sender path hops ending way.0

crossed_along : (ports : List Port) (frame : ℕ) (release : Release) (sender : Sender) (path : List ℕ)
    (hops : List HopRecord) (ending : Ending) (due : ℕ)
    → IsWayAt ports due path hops ending → All (IsExact ports) (crossings_along frame release sender path hops ending)
crossed_along ports frame release sender [] hops ending due way = All-nil (IsExact ports)
crossed_along ports frame release sender (p ∷ path) [] ending due way = All-nil (IsExact ports)
crossed_along ports frame release sender (p ∷ path) (hop ∷ hops) ending due way =
    All-append (IsExact ports)
    (crossing_at release.octets hop.arrival.0 p (transmission_of frame release (class_at sender p) hop) hops ending)
    (crossings_along frame release sender path hops ending)
    (crossed_here ports frame release (class_at sender p) hop.arrival.0 p path hop.verdict hop.sent hops ending way.1)
    (crossed_on ports frame release sender p path hop.verdict hop.sent hops ending
    (crossed_along ports frame release sender path hops ending) way.1)

crossed_copy : (ports : List Port) (frame : ℕ) (release : Release) (sender : Sender) (start : Option HopRecord)
    (path : List ℕ) (leg : Leg) → IsCopyAt ports start path leg
    → All (IsExact ports) (crossings_along frame release sender path leg.hops leg.ending)
crossed_copy ports frame release sender (Some start) path leg copy =
    crossed_along ports frame release sender path leg.hops leg.ending start.arrival.0 copy.1
crossed_copy ports frame release sender None path leg copy =
    none_crossed (IsExact ports) frame release sender path leg.hops leg.ending copy.0

crossed_copies : (ports : List Port) (frame : ℕ) (release : Release) (sender : Sender) (legs : List Leg)
    (branches : List Branch) (paths : List (List ℕ)) (copies : List Leg)
    → AllZip (λ (branch : Branch × List ℕ) (leg : Leg). IsCopyAt ports (record_at legs branch.0) branch.1 leg)
    (zip branches paths) copies
    → All (IsExact ports) (crossings_over frame release sender paths copies)
crossed_copies ports frame release sender legs [] [] [] copied = All-nil (IsExact ports)
crossed_copies ports frame release sender legs [] (path ∷ paths) [] copied = All-nil (IsExact ports)
crossed_copies ports frame release sender legs [] paths (c ∷ copies) copied = absurd copied
crossed_copies ports frame release sender legs (b ∷ branches) [] copies copied = All-nil (IsExact ports)
crossed_copies ports frame release sender legs (b ∷ branches) (path ∷ paths) [] copied = absurd copied
crossed_copies ports frame release sender legs (b ∷ branches) (path ∷ paths) (c ∷ copies) copied =
    All-append (IsExact ports) (crossings_along frame release sender path c.hops c.ending)
    (crossings_over frame release sender paths copies)
    (crossed_copy ports frame release sender (record_at legs b) path c copied.0)
    (crossed_copies ports frame release sender legs branches paths copies copied.1)

crossed : (network : DeclaredNetwork) (n : ℕ) (run : List Travel) → All (IsJourneyAt network) run
    → All (IsExact network.topology.ports) (crossings_from network n run)
crossed network n [] all = All-nil (IsExact network.topology.ports)
crossed network n (j ∷ run) all =
    let s : Sender = sender_at network j.release.sender in
    let is : IsJourneyAt network j = All-head (IsJourneyAt network) j run all in
    let ports : List Port = network.topology.ports in
    let trunk : List ℕ = trunk_of s.ports s.branches in
    let rest : List (List ℕ) = drop 1 (legs_of s.ports s.branches) in
    All-append (IsExact ports) (journey_crossings network n j) (crossings_from network (n + 1) run)
    (over_legs (IsExact ports) n s j (All-append (IsExact ports)
    (crossings_along n j.release s trunk j.hops j.ending) (crossings_over n j.release s rest j.copies)
    (crossed_along ports n j.release s trunk j.hops j.ending j.release.at.0 is.way)
    (crossed_copies ports n j.release s (legs_in j) s.branches rest j.copies is.copies)))
    (crossed network (n + 1) run (All-tail (IsJourneyAt network) j run all))

released_from : (ports : List Port) (release : Release) (path : List ℕ) (hops : List HopRecord) (ending : Ending)
    → IsWayAt ports release.at.0 path hops ending → IsEligibleAtRelease release hops → IsReleased release hops
released_from ports release path [] ending way eligible = absurd eligible
released_from ports release [] (hop ∷ hops) ending way eligible = absurd way
released_from ports release (p ∷ path) (hop ∷ hops) ending way eligible =
    (ap (λ (n : ℕ). record { 0 = n }) way.0, eligible)

forwarded_from : (ports : List Port) (start : HopRecord) (path : List ℕ) (hops : List HopRecord) (ending : Ending)
    → IsWayAt ports start.arrival.0 path hops ending → IsJudgedAs start hops → BeginsAs start hops
forwarded_from ports start path [] ending way judged = absurd judged
forwarded_from ports start [] (hop ∷ hops) ending way judged = absurd way
forwarded_from ports start (p ∷ path) (hop ∷ hops) ending way judged =
    (ap (λ (n : ℕ). record { 0 = n }) way.0, judged)

form_copy : (ports : List Port) (start : Option HopRecord) (path : List ℕ) (leg : Leg)
    → IsCopyAt ports start path leg → IsCopy start path leg
form_copy ports (Some start) path leg copy = (
  forwarded_from ports start path leg.hops leg.ending copy.1 copy.0,
  form_way ports start.arrival.0 path leg.hops leg.ending copy.1,
)
form_copy ports None path leg copy = copy

form_copies : (ports : List Port) (legs : List Leg) (branches : List (Branch × List ℕ)) (copies : List Leg)
    → AllZip (λ (branch : Branch × List ℕ) (leg : Leg). IsCopyAt ports (record_at legs branch.0) branch.1 leg)
    branches copies
    → AllZip (λ (branch : Branch × List ℕ) (leg : Leg). IsCopy (record_at legs branch.0) branch.1 leg) branches copies
form_copies ports legs [] [] copied = tt
form_copies ports legs [] (c ∷ copies) copied = absurd copied
form_copies ports legs (b ∷ branches) [] copied = absurd copied
form_copies ports legs (b ∷ branches) (c ∷ copies) copied =
    (form_copy ports (record_at legs b.0) b.1 c copied.0, form_copies ports legs branches copies copied.1)

form_journey : (network : DeclaredNetwork) (j : Travel) → IsJourneyAt network j → IsJourney network j
form_journey network j is =
    let s : Sender = sender_at network j.release.sender in
    let ports : List Port = network.topology.ports in
    let trunk : List ℕ = trunk_of s.ports s.branches in
    record {
      sender = is.sender;
      octets = is.octets;
      way = form_way ports j.release.at.0 trunk j.hops j.ending is.way;
      released = released_from ports j.release trunk j.hops j.ending is.way is.released;
      copies = form_copies ports (legs_in j) (branches_of s.ports s.branches) j.copies is.copies;
    }

-- exact arrivals are in time, and in the order of the ends
exact_links : (network : DeclaredNetwork) (run : List Travel) → HaveOneLatency network.topology.ports
    → All (IsExact network.topology.ports) (crossings_from network 0 run)
    → (port : ℕ) → port < length network.topology.ports
    → KeepsLinkRule (port_at network.topology.ports port) (crossings_by network run port)
exact_links network run one all port within =
    let ports : List Port = network.topology.ports in
    let crossings : List Crossing = crossings_from network 0 run in
    let Exact : Crossing → Type 0 = λ (c : Crossing). c.arrival ≡ arrival_after (port_at ports port) c.sent.end in
    let At : ℕ → Crossing → Type 0 = λ (p : ℕ) (c : Crossing). p < length ports
    → c.arrival ≡ arrival_after (port_at ports p) c.sent.end in
    let exact : All Exact (crossings_by network run port) = λ k d h. (
    let one : Crossing = get_or (crossings_by network run port) k d in
    let same : one.port ≡ port =
    eqb-true one.port port (filter_passes (λ (c : Crossing). c.port == port) crossings k d h) in
    subst (λ (p : ℕ). At p one) same
    (All-filter (λ (c : Crossing). c.port == port) (IsExact ports) crossings all k d h) within) in
    record {
      within = λ k d h.
          (let e = exact k d h in
          let same : (port_at ports port).earliest.0 ≡ (port_at ports port).latency.0 =
          ap (λ (t : Ps). t.0) (one port no_port within) in
          record { earliest = omega (arith, e, same); latest = omega (arith, e) });
      order = λ k d h l b i before. (let e = exact k d h in let f = exact l b i in omega (arith, e, f, before));
    }

legal_from_at : (network : DeclaredNetwork) (run : List Travel) → HaveOneLatency network.topology.ports
    → IsLegalAt network run → IsIdeal network run
legal_from_at network run one legal = record {
  in_order = legal.in_order;
  journeys = λ k d h. form_journey network (get_or run k d) (legal.journeys k d h);
  ports = legal.ports;
  links = exact_links network run one (crossed network 0 run legal.journeys);
  groups = legal.groups;
  flows = legal.flows;
}

pub links_are_exact : LinksAreExact
links_are_exact network run net exact = (at_from_legal network run net exact, legal_from_at network run exact)
