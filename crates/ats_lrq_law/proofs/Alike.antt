use Rattle.std.proofs.Common.{◌≡◌, ℕ, ◌+◌, ◌<◌, List, [], ◌∷◌, ◌++◌, map, filter, length, get_or, All, refl, sym, ap}
use Rattle.std.proofs.Common.{◌∙◌, subst, arith}
use Rattle.std.specs.Prelude.{◌==◌, ◌&&◌, if◌then◌else◌}
use Rattle.std.proofs.Math.ListN.{get_or-map}
use Rattle.std.proofs.lemmas.List.{length-map, map-append}
use Rattle.std.proofs.lemmas.List.Elements.{All-weaker}
use Rattle.ats_clock.specs.Clock.{DeclaredClock}
use Rattle.ats_clock.specs.Rates.{committed, output_behind, output_of, scheduler_for}
use Rattle.ats_clock.specs.declared.committed.Committed.{Committed}
use Rattle.ats_streams.specs.Branches.{legs_of, trunk_of}
use Rattle.ats_streams.specs.Stream.{DeclaredStream}
use Rattle.ats_streams.specs.Flow.{DeclaredFlow}
use Rattle.ats_streams.specs.Traffic.{declared_as, is_declared_size}
use Rattle.ats_streams.specs.declared.traffic.Declared.{Declared}
use Rattle.ats_topology.specs.Port.{port_at}
use Rattle.ats_topology.specs.Topology.{DeclaredTopology}
use Rattle.ats_network.specs.Rates.{clock_behind, committed_at, declared_with, ports_to, scheduled_at, talker_clock}
use Rattle.ats_network.specs.Sender.{Sender, stream_sender, flow_sender, declared_of}
use Rattle.ats_network.specs.Network.{DeclaredNetwork, network_within, senders_of}
use Rattle.ats_network.specs.Senders.{no_sender, sender_at}
use Rattle.ats_port_rule.specs.Transmission.{Transmission}
use Rattle.ats_port_rule.specs.PortRule.{KeepsPortRule}
use Rattle.ats_group.specs.declared.verdict.Verdict.{Verdict}
use Rattle.ats_group.specs.declared.verdict.Verdict.TheVariants.{Eligible, Size}
use Rattle.ats_group.specs.Group.{Offer}
use Rattle.ats_trace.specs.Journey.{Leg, Travel, AreCopies, IsJourney, IsWay, class_at, legs_in, trunk_at}
use Rattle.ats_trace.specs.Links.{KeepsLinkRule}
use Rattle.ats_trace.specs.Projections.{Hop, Crossing, Handed, hop_at, crossing_at, handed_at, transmission_of}
use Rattle.ats_trace.specs.Projections.{hops_along, crossings_along, handed_along, hops_over, crossings_over}
use Rattle.ats_trace.specs.Projections.{handed_over}
use Rattle.ats_trace.specs.Projections.{journey_hops, journey_crossings, journey_handed}
use Rattle.ats_trace.specs.Projections.{hops_from, crossings_from, handed_from, handed_by}
use Rattle.ats_trace.specs.Eligibility.{declared_by, offer_of, IsJudged, IsPassed, residence_of_groups}
use Rattle.ats_trace.specs.Eligibility.{scheduled_by}
use Rattle.ats_trace.specs.Run.{IsLegalBy}
use Rattle.ats_trace.specs.Talker.{start_of, talker_of, frames_of, IsDeclaredSize, KeepsBucketsBy}
use Rattle.ats_trace.specs.declared.journey.Release.{Release}
use Rattle.ats_trace.specs.HopRecord.{HopRecord}
use Rattle.ats_trace.specs.declared.journey.Ending.{Ending}
use Rattle.ats_lrq.specs.Fold.{State, first, judged, after, next, verdicts_of, verdict_on}
use Rattle.ats_lrq.specs.Judge.{lrq_judge, KeepsSpacing, spacing_rule}

-- a stream, a sender and what is declared, but for the burst
abbrev pub bare_stream : DeclaredStream → DeclaredStream
bare_stream s = record s { burst_bits = 0 }

abbrev pub bare : Sender → Sender
bare s = record s { burst_bits = 0 }

abbrev bare_declared : Declared → Declared
bare_declared d = record d { burst_bits = 0 }

-- what does not read a sender's burst is the same of two senders that differ in it alone
by_bare : {X : Type 0} (f : Sender → X) → ((s : Sender) → f (bare s) ≡ f s) → (s t : Sender) → bare s ≡ bare t
    → f s ≡ f t
by_bare f h s t e = sym (h s) ∙ ap f e ∙ h t

map_bare : {X : Type 0} (f : Sender → X) → ((s : Sender) → f (bare s) ≡ f s) → (senders : List Sender)
    → map f (map bare senders) ≡ map f senders
map_bare f h [] = refl
map_bare {X} f h (s ∷ ss) =
    ap (λ (x : X). x ∷ map f (map bare ss)) (h s) ∙ ap (λ (xs : List X). f s ∷ xs) (map_bare f h ss)

bare_streams : (streams : List DeclaredStream)
    → map bare (map stream_sender streams) ≡ map stream_sender (map bare_stream streams)
bare_streams [] = refl
bare_streams (s ∷ ss) = ap (λ (xs : List Sender). stream_sender (bare_stream s) ∷ xs) (bare_streams ss)

bare_senders : (topology : DeclaredTopology) (most : ℕ) (flows : List DeclaredFlow) (streams : List DeclaredStream)
    → map bare (senders_of (network_within topology most streams flows))
    ≡ map stream_sender (map bare_stream streams) ++ map bare (map flow_sender flows)
bare_senders topology most flows streams =
    map-append bare (map stream_sender streams) (map flow_sender flows)
    ∙ ap (λ (xs : List Sender). xs ++ map bare (map flow_sender flows)) (bare_streams streams)

-- transmissions, crossings and frames that are handed on read a sender's path and classes alone
hops_bare : (frame : ℕ) (release : Release) (s : Sender) (path : List ℕ) (hops : List HopRecord)
    → hops_along frame release (bare s) path hops ≡ hops_along frame release s path hops
hops_bare frame release s [] hops = refl
hops_bare frame release s (p ∷ path) [] = refl
hops_bare frame release s (p ∷ path) (hop ∷ hops) =
    ap (λ (xs : List Hop). hop_at p (transmission_of frame release (class_at s p) hop) ++ xs)
    (hops_bare frame release s path hops)

crossings_bare : (frame : ℕ) (release : Release) (s : Sender) (path : List ℕ) (hops : List HopRecord) (ending : Ending)
    → crossings_along frame release (bare s) path hops ending ≡ crossings_along frame release s path hops ending
crossings_bare frame release s [] hops ending = refl
crossings_bare frame release s (p ∷ path) [] ending = refl
crossings_bare frame release s (p ∷ path) (hop ∷ hops) ending =
    ap (λ (xs : List Crossing). crossing_at release.octets hop.arrival.0 p
    (transmission_of frame release (class_at s p) hop) hops ending ++ xs)
    (crossings_bare frame release s path hops ending)

handed_bare : (frame : ℕ) (release : Release) (s : Sender) (path : List ℕ) (hops : List HopRecord)
    → handed_along frame release (bare s) path hops ≡ handed_along frame release s path hops
handed_bare frame release s [] hops = refl
handed_bare frame release s (p ∷ path) [] = refl
handed_bare frame release s (p ∷ path) (hop ∷ hops) =
    ap (λ (xs : List Handed). handed_at release.octets hop.arrival.0 p
    (transmission_of frame release (class_at s p) hop) hops ++ xs) (handed_bare frame release s path hops)

-- so along all legs
hops_over_bare : (frame : ℕ) (release : Release) (s : Sender) (paths : List (List ℕ)) (legs : List Leg)
    → hops_over frame release (bare s) paths legs ≡ hops_over frame release s paths legs
hops_over_bare frame release s [] legs = refl
hops_over_bare frame release s (path ∷ paths) [] = refl
hops_over_bare frame release s (path ∷ paths) (leg ∷ legs) =
    ap (λ (xs : List Hop). xs ++ hops_over frame release (bare s) paths legs) (hops_bare frame release s path leg.hops)
    ∙ ap (λ (xs : List Hop). hops_along frame release s path leg.hops ++ xs)
    (hops_over_bare frame release s paths legs)

crossings_over_bare : (frame : ℕ) (release : Release) (s : Sender) (paths : List (List ℕ)) (legs : List Leg)
    → crossings_over frame release (bare s) paths legs ≡ crossings_over frame release s paths legs
crossings_over_bare frame release s [] legs = refl
crossings_over_bare frame release s (path ∷ paths) [] = refl
crossings_over_bare frame release s (path ∷ paths) (leg ∷ legs) =
    ap (λ (xs : List Crossing). xs ++ crossings_over frame release (bare s) paths legs)
    (crossings_bare frame release s path leg.hops leg.ending)
    ∙ ap (λ (xs : List Crossing). crossings_along frame release s path leg.hops leg.ending ++ xs)
    (crossings_over_bare frame release s paths legs)

handed_over_bare : (frame : ℕ) (release : Release) (s : Sender) (paths : List (List ℕ)) (legs : List Leg)
    → handed_over frame release (bare s) paths legs ≡ handed_over frame release s paths legs
handed_over_bare frame release s [] legs = refl
handed_over_bare frame release s (path ∷ paths) [] = refl
handed_over_bare frame release s (path ∷ paths) (leg ∷ legs) =
    ap (λ (xs : List Handed). xs ++ handed_over frame release (bare s) paths legs)
    (handed_bare frame release s path leg.hops)
    ∙ ap (λ (xs : List Handed). handed_along frame release s path leg.hops ++ xs)
    (handed_over_bare frame release s paths legs)

-- no rate at a hop reads the burst
rate_along : (clocks : List DeclaredClock) (c d : Committed) → c.rate ≡ d.rate
    → (output_behind clocks c).rate ≡ (output_behind clocks d).rate
rate_along [] c d same = same
rate_along (clock ∷ clocks) c d same =
    rate_along clocks (output_of clock (scheduler_for clock c)) (output_of clock (scheduler_for clock d))
    (ap (λ (rate : ℕ). (output_of clock (scheduler_for clock (committed rate 0))).rate) same)

scheduled_bare : (topology : DeclaredTopology) (port : ℕ) (s : Sender)
    → bare_declared (declared_with (scheduled_at topology port (bare s)) (bare s))
    ≡ bare_declared (declared_with (scheduled_at topology port s) s)
scheduled_bare topology port s =
    let seen : (committed_at topology port (bare s)).rate ≡ (committed_at topology port s).rate =
    rate_along (map (clock_behind topology) (ports_to s port))
    (output_of (talker_clock topology s) (committed s.rate 0))
    (output_of (talker_clock topology s) (committed s.rate s.burst_bits)) refl in
    ap (λ (rate : ℕ). declared_as (scheduler_for (clock_behind topology port) (committed rate 0)).rate 0 s.min_octets
    s.max_octets) seen

-- nor does a judge read the bursts
verdicts_alike : (d e : ℕ → Declared) → ((i : ℕ) → bare_declared (d i) ≡ bare_declared (e i)) → (residence_ns : ℕ)
    (state : State) (offers : List Offer) → verdicts_of d residence_ns state offers
    ≡ verdicts_of e residence_ns state offers
verdicts_alike d e same residence_ns state [] = refl
verdicts_alike d e same residence_ns state (offer ∷ offers) =
    let one : judged d residence_ns state offer ≡ judged e residence_ns state offer =
    ap (λ (x : Declared). verdict_on x residence_ns state.time (state.last offer.member) offer.arrival offer.octets)
    (same offer.member) in
    ap (λ (v : Verdict). v ∷ verdicts_of d residence_ns (after state offer v) offers) one
    ∙ ap (λ (vs : List Verdict). judged e residence_ns state offer ∷ vs)
    (verdicts_alike d e same residence_ns (next e residence_ns state offer) offers)

-- two networks whose streams differ in their bursts alone
module _ (topology : DeclaredTopology) (most : ℕ) (flows : List DeclaredFlow) (streams others : List DeclaredStream)
    (alike : map bare_stream streams ≡ map bare_stream others) where
  abbrev network : DeclaredNetwork
  network = network_within topology most streams flows

  abbrev other : DeclaredNetwork
  other = network_within topology most others flows

  all_alike : map bare (senders_of network) ≡ map bare (senders_of other)
  all_alike =
      bare_senders topology most flows streams
      ∙ ap (λ (xs : List DeclaredStream). map stream_sender xs ++ map bare (map flow_sender flows)) alike
      ∙ sym (bare_senders topology most flows others)

  -- what does not read the bursts is the same of their senders
  pub same_map : {X : Type 0} (f : Sender → X) → ((s : Sender) → f (bare s) ≡ f s)
      → map f (senders_of network) ≡ map f (senders_of other)
  same_map f h =
      sym (map_bare f h (senders_of network)) ∙ ap (map f) all_alike ∙ map_bare f h (senders_of other)

  pub same_at : (n : ℕ) → bare (sender_at network n) ≡ bare (sender_at other n)
  same_at n =
      sym (get_or-map bare (senders_of network) n no_sender)
      ∙ ap (λ (xs : List Sender). get_or xs n (bare no_sender)) all_alike
      ∙ get_or-map bare (senders_of other) n no_sender

  same_of : {X : Type 0} (f : Sender → X) → ((s : Sender) → f (bare s) ≡ f s) → (n : ℕ)
      → f (sender_at network n) ≡ f (sender_at other n)
  same_of f h n = by_bare f h (sender_at network n) (sender_at other n) (same_at n)

  same_path : (n : ℕ) → (sender_at network n).ports ≡ (sender_at other n).ports
  same_path n = same_of (λ (s : Sender). s.ports) (λ (s : Sender). refl) n

  same_trunk : (n : ℕ) → trunk_at network n ≡ trunk_at other n
  same_trunk n = same_of (λ (s : Sender). trunk_of s.ports s.branches) (λ (s : Sender). refl) n

  same_declared : (n : ℕ) → bare_declared (declared_by network n) ≡ bare_declared (declared_by other n)
  same_declared n = ap declared_of (same_at n)

  same_scheduled : (port n : ℕ)
      → bare_declared (scheduled_by network port n) ≡ bare_declared (scheduled_by other port n)
  same_scheduled port n =
      same_of (λ (s : Sender). bare_declared (declared_with (scheduled_at topology port s) s))
      (scheduled_bare topology port) n

  same_senders : length (senders_of network) ≡ length (senders_of other)
  same_senders =
      sym (length-map (senders_of network) bare)
      ∙ ap (λ (xs : List Sender). length xs) all_alike
      ∙ length-map (senders_of other) bare

  pub same_streams : length streams ≡ length others
  same_streams =
      sym (length-map streams bare_stream)
      ∙ ap (λ (xs : List DeclaredStream). length xs) alike
      ∙ length-map others bare_stream

  same_hops : (frame : ℕ) (run : List Travel) → hops_from network frame run ≡ hops_from other frame run
  same_hops frame [] = refl
  same_hops frame (j ∷ run) =
      let one : journey_hops network frame j ≡ journey_hops other frame j =
      same_of (λ (s : Sender). hops_over frame j.release s (legs_of s.ports s.branches) (legs_in j))
      (λ (s : Sender). hops_over_bare frame j.release s (legs_of s.ports s.branches) (legs_in j)) j.release.sender in
      ap (λ (xs : List Hop). xs ++ hops_from network (frame + 1) run) one
      ∙ ap (λ (xs : List Hop). journey_hops other frame j ++ xs) (same_hops (frame + 1) run)

  same_crossings : (frame : ℕ) (run : List Travel) → crossings_from network frame run ≡ crossings_from other frame run
  same_crossings frame [] = refl
  same_crossings frame (j ∷ run) =
      let one : journey_crossings network frame j ≡ journey_crossings other frame j =
      same_of (λ (s : Sender). crossings_over frame j.release s (legs_of s.ports s.branches) (legs_in j))
      (λ (s : Sender). crossings_over_bare frame j.release s (legs_of s.ports s.branches) (legs_in j))
      j.release.sender in
      ap (λ (xs : List Crossing). xs ++ crossings_from network (frame + 1) run) one
      ∙ ap (λ (xs : List Crossing). journey_crossings other frame j ++ xs) (same_crossings (frame + 1) run)

  same_handed : (frame : ℕ) (run : List Travel) → handed_from network frame run ≡ handed_from other frame run
  same_handed frame [] = refl
  same_handed frame (j ∷ run) =
      let one : journey_handed network frame j ≡ journey_handed other frame j =
      same_of (λ (s : Sender). handed_over frame j.release s (legs_of s.ports s.branches) (legs_in j))
      (λ (s : Sender). handed_over_bare frame j.release s (legs_of s.ports s.branches) (legs_in j))
      j.release.sender in
      ap (λ (xs : List Handed). xs ++ handed_from network (frame + 1) run) one
      ∙ ap (λ (xs : List Handed). journey_handed other frame j ++ xs) (same_handed (frame + 1) run)

  handed_alike : (run : List Travel) (port class : ℕ)
      → handed_by network run port class ≡ handed_by other run port class
  handed_alike run port class =
      ap (filter (λ (h : Handed). h.crossing.port == port && h.crossing.sent.class == class)) (same_handed 0 run)

  journey_alike : (j : Travel) → IsJourney network j → IsJourney other j
  journey_alike j i = record {
    sender = (let s = i.sender in omega (arith, same_senders));
    octets = i.octets;
    way = subst (λ (path : List ℕ). IsWay path j.hops j.ending) (same_trunk j.release.sender) i.way;
    released = i.released;
    copies = subst (λ (s : Sender). AreCopies s j) (same_at j.release.sender) i.copies;
  }

  judged_alike : (port : ℕ) (handed : List Handed) → IsJudged lrq_judge network port handed
      → IsJudged lrq_judge other port handed
  judged_alike port handed i = record {
    arrivals = i.arrivals;
    same = i.same;
    in_order = i.in_order;
    verdicts =
        i.verdicts
        ∙ verdicts_alike (scheduled_by network port) (scheduled_by other port) (same_scheduled port)
        (residence_of_groups network port) first (map offer_of i.arrivals);
  }

  passed_alike : (h : Handed) → IsPassed network h → IsPassed other h
  passed_alike h p =
      p ∙ ap (λ (d : Declared). if is_declared_size d h.crossing.octets
      then Eligible (record { 0 = h.crossing.arrival }) else Size) (same_declared h.crossing.sent.sender)

  -- the legal runs of one are legal runs of the other
  pub legal_alike : (run : List Travel) → IsLegalBy lrq_judge network run → IsLegalBy lrq_judge other run
  legal_alike run l = record {
    in_order = l.in_order;
    journeys = All-weaker (IsJourney network) (IsJourney other) journey_alike run l.journeys;
    ports = λ port h. subst (λ (xs : List Transmission). KeepsPortRule (port_at topology.ports port).ps_per_bit xs)
        (ap (λ (xs : List Hop). map (λ (h : Hop). h.sent) (filter (λ (h : Hop). h.port == port) xs)) (same_hops 0 run))
        (l.ports port h);
    links = λ port h. subst (λ (xs : List Crossing). KeepsLinkRule (port_at topology.ports port) xs)
        (ap (filter (λ (c : Crossing). c.port == port)) (same_crossings 0 run)) (l.links port h);
    groups = λ port class h k. subst (IsJudged lrq_judge other port) (handed_alike run port class)
        (judged_alike port (handed_by network run port class) (l.groups port class h k));
    flows = λ port h. subst (λ (xs : List Handed). All (IsPassed other) xs) (handed_alike run port 0)
        (All-weaker (IsPassed network) (IsPassed other) passed_alike (handed_by network run port 0) (l.flows port h));
  }

  pub talker_alike : (n : ℕ) → talker_of network n ≡ talker_of other n
  talker_alike n = ap (start_of topology.ports) (same_path n)

  size_alike : (station : ℕ) (r : Release)
      → (r.sender < length (senders_of network) → talker_of network r.sender ≡ station → IsDeclaredSize network r)
      → r.sender < length (senders_of other) → talker_of other r.sender ≡ station → IsDeclaredSize other r
  size_alike station r keeps within talker =
      let sized = keeps (omega (arith, same_senders)) (talker_alike r.sender ∙ talker) in
      sym (ap (λ (d : Declared). is_declared_size d r.octets) (same_declared r.sender)) ∙ sized

  -- and a station that keeps its spacing by one keeps it by the other
  pub keeps_alike : (releases : List Release) (station : ℕ) → KeepsBucketsBy spacing_rule network releases station
      → KeepsBucketsBy spacing_rule other releases station
  keeps_alike releases station k = record {
    streams = λ i within talker. subst (λ (d : Declared). KeepsSpacing d.rate (frames_of i releases))
        (same_declared i) (k.streams i (omega (arith, same_streams)) (talker_alike i ∙ talker));
    sizes = All-weaker _ _ (size_alike station) releases k.sizes;
  }
