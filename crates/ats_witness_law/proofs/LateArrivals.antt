-- In a legal run no frame arrives before its release.
use Rattle.std.proofs.Common.{◌≡◌, ℕ, ◌+◌, ◌-◌, ◌*◌, ◌<◌, ◌≤◌, inl, inr, Bool, true, false, cond, List, [], ◌∷◌, ◌++◌}
use Rattle.std.proofs.Common.{get_or, map, length, refl, sym, ap, subst, ◌∙◌, arith}
use Rattle.std.specs.Prelude.{Option, Some, None, ◌==◌, ◌&&◌, zip}
use Rattle.std.specs.List.{All, AllZip, Contains}
use Rattle.std.proofs.lemmas.Bool.{and_from, cases_lt, eq-eqb}
use Rattle.std.proofs.lemmas.List.Elements.{All-contains, All-cons, All-head, All-nil}
use Rattle.std.proofs.lemmas.List.Sorted.{All-permutation, IsPermutation-sym}
use Rattle.ats_facts.proofs.Lists.{All-from_filter, all_left, all_right}
use Rattle.ats_num.specs.declared.time.Ps.{Ps}
use Rattle.ats_topology.specs.Port.{port_at}
use Rattle.ats_network.specs.Sender.{Sender}
use Rattle.ats_network.specs.Network.{DeclaredNetwork, IsNetwork}
use Rattle.ats_network.specs.Senders.{sender_at}
use Rattle.ats_clock_law.specs.TrueTime.{IsTrueVerdict}
use Rattle.ats_group.specs.Group.{Offer}
use Rattle.ats_group.specs.Judge.{OnEligible}
use Rattle.ats_group.specs.declared.verdict.Verdict.{Verdict}
use Rattle.ats_group.specs.declared.verdict.Verdict.TheVariants.{Eligible, Late, Size}
use Rattle.ats_port_rule.specs.PortRule.{KeepsPortRuleBy}
use Rattle.ats_port_rule.specs.Transmission.{Transmission}
use Rattle.ats_streams.specs.Path.{IsPath}
use Rattle.ats_streams.specs.Traffic.{is_declared_size}
use Rattle.ats_soundness_law.proofs.Along.{crossing_by, handed_on}
use Rattle.ats_soundness_law.proofs.Arrivals.{crossed_there}
use Rattle.ats_soundness_law.proofs.Journeys.{crossings_on_route, each_was_sent, handed_on_route, journey_route}
use Rattle.ats_soundness_law.proofs.Known.{IsKnown, IsTold, known, told}
use Rattle.ats_soundness_law.proofs.Lifts.{numbered, run_were_sent}
use Rattle.ats_soundness_law.proofs.Paths.{sender_is}
use Rattle.ats_soundness_law.proofs.Routes.{OnRoute}
use Rattle.ats_soundness_law.proofs.ToldTimes.{case_in}
use Rattle.ats_trace.specs.Clocks.{IsJudgedBy, IsLegal}
use Rattle.ats_trace.specs.Eligibility.{IsPassed, declared_by, offer_of}
use Rattle.ats_trace.specs.Journey.{IsJourney, IsReleased, IsSentOrEnds, IsWay, Leg, Travel, class_at, legs_at, legs_in}
use Rattle.ats_trace.specs.Links.{ArrivesWithin}
use Rattle.ats_trace.specs.Projections.{Crossing, Handed, crossing_at, crossings_along, crossings_by, crossings_from}
use Rattle.ats_trace.specs.Projections.{handed_along, handed_at, handed_by, handed_from, sent_by, transmission_by}
use Rattle.ats_trace.specs.declared.journey.Ending.{Ending}
use Rattle.ats_trace.specs.declared.journey.Ending.TheVariants.{Sink, Discard}
use Rattle.ats_trace.specs.HopRecord.{HopRecord}
use Rattle.ats_trace.specs.declared.journey.Release.{Release}
use Rattle.ats_trace.specs.Ways.{listener_count, route_to, way_to}
use Rattle.ats_witness.proofs.FoundLemmas.{listener_of}
use Rattle.ats_witness.proofs.StreamLemmas.{is_listener}
use Rattle.ats_witness_law.specs.Laws.{DelaysAreExact}

-- a frame arrives behind a port no sooner than it was eligible there
abbrev CrossesAfter : Crossing → Type 0
CrossesAfter c = c.sent.eligible ≤ c.arrival

-- and is eligible behind it no sooner than it arrived
abbrev EligibleAfter : Handed → Type 0
EligibleAfter h = OnEligible h.verdict (λ e. h.crossing.arrival ≤ e)

-- a frame does not come to its listener before this time
abbrev NotBefore : ℕ → Ending → Type 0
NotBefore limit (Sink at) = limit ≤ at.0
NotBefore limit Discard = Unit {0}

-- nor to the rest of its way: it is not eligible at the first port, or does not arrive, before it
abbrev ComesAfter : ℕ → List ℕ → List HopRecord → Ending → Type 0
ComesAfter limit [] hops ending = NotBefore limit ending
ComesAfter limit (p ∷ path) [] ending = Unit {0}
ComesAfter limit (p ∷ path) (hop ∷ hops) ending = OnEligible hop.verdict (λ e. limit ≤ e)

later_eligible : (limit arrival : ℕ) (verdict : Verdict) → limit ≤ arrival → OnEligible verdict (λ e. arrival ≤ e)
    → OnEligible verdict (λ e. limit ≤ e)
later_eligible limit arrival (Eligible e) le after = omega (arith, le, after)
later_eligible limit arrival (Late e) le after = tt
later_eligible limit arrival Size le after = tt

-- behind a port where it was sent
comes_next : (limit frame : ℕ) (release : Release) (sender : Sender) (came p : ℕ) (path : List ℕ) (e : Ps)
    (times : Ps × Ps) (hops : List HopRecord) (ending : Ending) → limit ≤ e.0 → IsWay path hops ending
    → All CrossesAfter (crossing_at release.octets came p
    (transmission_by frame release (class_at sender p) (Eligible e) (Some times)) hops ending)
    → All EligibleAfter
    (handed_at release.octets came p (transmission_by frame release (class_at sender p) (Eligible e) (Some times)) hops
    ++ handed_along frame release sender path hops)
    → ComesAfter limit path hops ending
comes_next limit frame release sender came p [] e times [] (Sink at) le way all handed =
    let one = All-head CrossesAfter (crossing_by frame release (class_at sender p) p came e times at.0) [] all in
    omega (arith, le, one)
comes_next limit frame release sender came p [] e times [] Discard le way all handed = absurd way
comes_next limit frame release sender came p [] e times (hop ∷ hops) ending le way all handed = absurd way
comes_next limit frame release sender came p (q ∷ path) e times [] ending le way all handed = tt
comes_next limit frame release sender came p (q ∷ path) e times (next ∷ hops) ending le way all handed =
    let one = All-head CrossesAfter
    (crossing_by frame release (class_at sender p) p came e times next.arrival.0) [] all in
    let here = All-head EligibleAfter
    (handed_on frame release (class_at sender p) p came e times next.arrival.0 next.verdict)
    (handed_along frame release sender (q ∷ path) (next ∷ hops)) handed in
    later_eligible limit next.arrival.0 next.verdict (omega (arith, le, one)) here

-- one step of the way
step : (limit frame : ℕ) (release : Release) (sender : Sender) (came p : ℕ) (path : List ℕ) (verdict : Verdict)
    (sent : Option (Ps × Ps)) (hops : List HopRecord) (ending : Ending)
    → (IsWay path hops ending → All CrossesAfter (crossings_along frame release sender path hops ending)
    → All EligibleAfter (handed_along frame release sender path hops) → ComesAfter limit path hops ending
    → NotBefore limit ending)
    → IsSentOrEnds (IsWay path hops ending) verdict sent hops ending
    → All CrossesAfter
    (crossing_at release.octets came p (transmission_by frame release (class_at sender p) verdict sent) hops ending
    ++ crossings_along frame release sender path hops ending)
    → All EligibleAfter (handed_at release.octets came p
    (transmission_by frame release (class_at sender p) verdict sent) hops
    ++ handed_along frame release sender path hops)
    → OnEligible verdict (λ e. limit ≤ e) → NotBefore limit ending
step limit frame release sender came p path (Eligible e) (Some times) hops ending rest way all handed le =
    let sent : Option Transmission = transmission_by frame release (class_at sender p) (Eligible e) (Some times) in
    let here : List Crossing = crossing_at release.octets came p sent hops ending in
    let later : List Crossing = crossings_along frame release sender path hops ending in
    rest way (all_right CrossesAfter here later all)
    (all_right EligibleAfter (handed_at release.octets came p sent hops)
    (handed_along frame release sender path hops) handed)
    (comes_next limit frame release sender came p path e times hops ending le way
    (all_left CrossesAfter here later all) handed)
step limit frame release sender came p path (Eligible e) None hops ending rest way all handed le = absurd way
step limit frame release sender came p path (Late e) (Some times) hops ending rest way all handed le = absurd way
step limit frame release sender came p path (Late e) None hops ending rest way all handed le =
    subst (NotBefore limit) (sym way.1) tt
step limit frame release sender came p path Size (Some times) hops ending rest way all handed le = absurd way
step limit frame release sender came p path Size None hops ending rest way all handed le =
    subst (NotBefore limit) (sym way.1) tt

not_before : (limit frame : ℕ) (release : Release) (sender : Sender) (path : List ℕ) (hops : List HopRecord)
    (ending : Ending) → IsWay path hops ending
    → All CrossesAfter (crossings_along frame release sender path hops ending)
    → All EligibleAfter (handed_along frame release sender path hops) → ComesAfter limit path hops ending
    → NotBefore limit ending
not_before limit frame release sender [] hops ending way all handed first = first
not_before limit frame release sender (p ∷ path) [] ending way all handed first = absurd way
not_before limit frame release sender (p ∷ path) (hop ∷ hops) ending way all handed first =
    step limit frame release sender hop.arrival.0 p path hop.verdict hop.sent hops ending
    (not_before limit frame release sender path hops ending) way all handed first

-- each crossing of a legal run is so
one_crosses : (by : Transmission → ℕ) (ps earliest latest : ℕ) (sent : List Transmission) (c : Crossing)
    → KeepsPortRuleBy by ps sent → Contains sent c.sent → ArrivesWithin earliest latest c → CrossesAfter c
one_crosses by ps earliest latest sent c rule there arrives =
    let waits : c.sent.eligible ≤ c.sent.start =
    All-contains (λ (x : Transmission). x.eligible ≤ x.start) sent c.sent rule.waits there in
    let takes : c.sent.end ≡ c.sent.start + ps * c.sent.bits =
    All-contains (λ (x : Transmission). x.end ≡ x.start + ps * x.bits) sent c.sent rule.takes there in
    omega (arith, waits, takes, arrives.earliest)

all_cross : (network : DeclaredNetwork) (run : List Travel) → IsNetwork network → IsLegal network run
    → All CrossesAfter (crossings_from network 0 run)
all_cross network run net legal k d h =
    let c = case_in net legal in
    let crossings : List Crossing = crossings_from network 0 run in
    let one : Crossing = get_or crossings k d in
    let at = run_were_sent (IsKnown network) network 0 run
    (λ n j. each_was_sent (IsKnown network) n j.release (sender_at network j.release.sender)
    (legs_at network j.release.sender) (legs_in j)) (known network run c) k d h in
    let own = λ (x : Crossing). x.port == one.port in
    let mine : All CrossesAfter (crossings_by network run one.port) = λ i e g.
    one_crosses (c.told one.port) (port_at network.topology.ports one.port).ps_per_bit
    (port_at network.topology.ports one.port).earliest.0 (port_at network.topology.ports one.port).latency.0
    (sent_by network run one.port) (get_or (crossings_by network run one.port) i e)
    (legal.ports one.port at.within) (crossed_there network run one.port i e g)
    ((legal.links one.port at.within).within i e g) in
    All-from_filter own CrossesAfter crossings mine k d h (eq-eqb one.port one.port refl)

-- and each frame that is handed on: a stream's by its group, a flow's by its size alone
one_after : (shows : ℕ → ℕ) (offer : Offer) (told verdict : Verdict) → IsTrueVerdict shows offer told verdict
    → OnEligible verdict (λ e. offer.arrival ≤ e)
one_after shows offer (Eligible at) verdict truly =
    subst (λ (v : Verdict). OnEligible v (λ e. offer.arrival ≤ e)) (sym truly.1) truly.2.arrived
one_after shows offer (Late at) verdict truly =
    subst (λ (v : Verdict). OnEligible v (λ e. offer.arrival ≤ e)) (sym truly.1) tt
one_after shows offer Size verdict truly =
    subst (λ (v : Verdict). OnEligible v (λ e. offer.arrival ≤ e)) (sym truly) tt

each_after : (shows : ℕ → ℕ) (handed : List Handed) (told : List Verdict)
    → AllZip (λ (judged : Offer × Verdict) (verdict : Verdict). IsTrueVerdict shows judged.0 judged.1 verdict)
    (zip (map offer_of handed) told) (map (λ (h : Handed). h.verdict) handed) → All EligibleAfter handed
each_after shows [] told all = All-nil EligibleAfter
each_after shows (h ∷ handed) [] all = absurd all
each_after shows (h ∷ handed) (v ∷ told) all =
    All-cons EligibleAfter h handed (one_after shows (offer_of h) v h.verdict all.0)
    (each_after shows handed told all.1)

judged_after : (shows told : ℕ → ℕ) (network : DeclaredNetwork) (run : List Travel) (port class : ℕ)
    → IsJudgedBy shows told network port (handed_by network run port class)
    → All EligibleAfter (handed_by network run port class)
judged_after shows told network run port class judged =
    All-permutation EligibleAfter judged.arrivals (handed_by network run port class)
    (IsPermutation-sym (handed_by network run port class) judged.arrivals judged.same)
    (each_after shows judged.arrivals _ judged.verdicts)

passed_after : (network : DeclaredNetwork) (h : Handed) → IsPassed network h → EligibleAfter h
passed_after network h passed =
    let size : Bool = is_declared_size (declared_by network h.crossing.sent.sender) h.crossing.octets in
    subst (λ (v : Verdict). OnEligible v (λ e. h.crossing.arrival ≤ e)) (sym passed) (by size)
  where
    by : (b : Bool) → OnEligible (cond b (Eligible (record { 0 = h.crossing.arrival })) Size)
        (λ e. h.crossing.arrival ≤ e)
    by true = omega arith
    by false = tt

all_after : (network : DeclaredNetwork) (run : List Travel) → IsNetwork network → IsLegal network run
    → All EligibleAfter (handed_from network 0 run)
all_after network run net legal k d h =
    let c = case_in net legal in
    let handed : List Handed = handed_from network 0 run in
    let one : Handed = get_or handed k d in
    let port : ℕ = one.crossing.port in
    let class : ℕ = one.crossing.sent.class in
    let node : ℕ = (port_at network.topology.ports port).to in
    let at : IsTold network one = told network run c k d h in
    let own = λ (x : Handed). x.crossing.port == port && x.crossing.sent.class == class in
    let mine : All EligibleAfter (handed_by network run port class) =
    elim (cases_lt 0 class) as (λ _. All EligibleAfter (handed_by network run port class)) [
      | inl some ↦ judged_after (legal.clocks node) (legal.told node) network run port class
          (legal.groups port class at.within (omega (arith, some)))
      | inr none ↦
          (let is : class ≡ 0 = omega (arith, none) in
          subst (λ (n : ℕ). All EligibleAfter (handed_by network run port n)) (sym is)
          (λ i e g. passed_after network (get_or (handed_by network run port 0) i e)
          (legal.flows port at.within i e g)))
    ] in
    All-from_filter own EligibleAfter handed mine k d h
    (and_from (port == port) (class == class) (eq-eqb port port refl) (eq-eqb class class refl))

-- a frame is eligible at its release
comes_first : (release : Release) (path : List ℕ) (hops : List HopRecord) (ending : Ending) → 0 < length path
    → IsReleased release hops → ComesAfter release.at.0 path hops ending
comes_first release [] hops ending some released = absurd (omega (arith, some))
comes_first release (p ∷ path) [] ending some released = tt
comes_first release (p ∷ path) (hop ∷ hops) ending some released =
    subst (λ (v : Verdict). OnEligible v (λ e. release.at.0 ≤ e)) (sym released.1) (omega arith)

exactly : (release took : ℕ) (at : Ps) → release ≤ at.0 → took ≡ at.0 - release
    → at ≡ record { 0 = release + took }
exactly release took at le after =
    ap (λ (n : ℕ). let t : Ps = record { 0 = n } in t)
    (let e : at.0 ≡ release + took = omega (arith, le, after) in e)

pub delays_are_exact : DelaysAreExact
delays_are_exact network run sender listener took j net legal a =
    let n = numbered CrossesAfter EligibleAfter network run j a.there (all_cross network run net legal)
    (all_after network run net legal) in
    let is : IsJourney network j = All-contains (IsJourney network) run j legal.journeys a.there in
    let s : Sender = sender_at network j.release.sender in
    let there = listener_of network run listener j a.at legal.journeys a.there a.arrived in
    let some : listener < listener_count s = is_listener s listener there in
    let route : List ℕ = route_to s listener in
    let way : Leg = way_to s j listener in
    let on : OnRoute s j listener = journey_route network j listener net is some in
    let path : IsPath route = (sender_is network net j.release.sender is.sender).routes listener [] some in
    let late : NotBefore j.release.at.0 way.ending =
    not_before j.release.at.0 n.number j.release s route way.hops way.ending on.way
    (crossings_on_route CrossesAfter network n.number j listener on n.crossings)
    (handed_on_route EligibleAfter network n.number j listener on n.handed)
    (comes_first j.release route way.hops way.ending (omega (arith, path.least)) on.released) in
    let reached : j.release.at.0 ≤ a.at.0 = subst (NotBefore j.release.at.0) a.arrived late in
    a.arrived ∙ ap (λ (t : Ps). Sink t) (exactly j.release.at.0 took a.at reached a.after)
