use Rattle.std.proofs.Common.{◌≡◌, ℕ, ◌+◌, ◌<◌, ◌≤◌, Bool, true, false, List, ◌++◌, length, map, filter, get_or, All}
use Rattle.std.proofs.Common.{refl, sym, ap, subst, ◌∙◌, arith}
use Rattle.std.specs.Prelude.{◌==◌, ◌&&◌, if◌then◌else◌}
use Rattle.std.specs.List.Sorted.{IsNonDecreasing}
use Rattle.std.proofs.lemmas.Bool.{and_parts, eqb-true}
use Rattle.std.proofs.lemmas.List.{map-append}
use Rattle.std.proofs.lemmas.Simd.{map-map}
use Rattle.std.proofs.lemmas.List.Elements.{All-append, All-filter, All-map, filter_passes}
use Rattle.std.proofs.lemmas.List.Sorted.{IsPermutation-append, IsPermutation-map, All-permutation}
use Rattle.ats_streams.specs.Traffic.{IsRuled, is_declared_size}
use Rattle.ats_topology.specs.Port.{port_at}
use Rattle.ats_topology.specs.declared.port.Port.{Port}
use Rattle.ats_network.specs.Network.{DeclaredNetwork, IsNetwork}
use Rattle.ats_group.specs.Group.{Offer}
use Rattle.ats_group.specs.Judge.{OnEligible, ats_judge}
use Rattle.ats_group.specs.declared.verdict.Verdict.{Verdict}
use Rattle.ats_group.specs.declared.verdict.Verdict.TheVariants.{Eligible, Size}
use Rattle.ats_port_rule.specs.PortRule.{KeepsPortRule}
use Rattle.ats_port_law.proofs.Senders.{is_stream}
use Rattle.ats_network.specs.Senders.{sender_at}
use Rattle.ats_network.proofs.RateLemmas.{scheduled_ruled}
use Rattle.ats_network.proofs.SenderLemmas.{sender_keeps}
use Rattle.ats_trace.specs.Journey.{Travel, IsJourney, class_at}
use Rattle.ats_trace.specs.Projections.{Handed, sent_by, crossings_by, handed_by, handed_from}
use Rattle.ats_trace.specs.Links.{KeepsLinkRule}
use Rattle.ats_trace.specs.Eligibility.{IsJudged, IsPassed, declared_by, offer_of, residence_of_groups}
use Rattle.ats_trace.specs.Eligibility.{scheduled_by}
use Rattle.ats_trace.specs.Run.{IsIdeal, releases_of}
use Rattle.ats_trace.specs.declared.journey.Release.{Release}
use Rattle.ats_soundness_law.proofs.Known.{Case, IsTold, told}
use Rattle.ats_legal_law.specs.Later.{later_verdict, later_release, later_travel, later_run}
use Rattle.ats_legal_law.specs.Rest.{IsOverBy, IsScheduledBehind, RestsUntil}
use Rattle.ats_legal_law.specs.InTurn.{LegalInTurn}
use Rattle.ats_legal_law.proofs.ListFacts.{ascends_behind}
use Rattle.ats_legal_law.proofs.LaterFold.{later_offer}
use Rattle.ats_legal_law.proofs.RestedFold.{IsRested, judged_in_turn}
use Rattle.ats_legal_law.proofs.LaterParts.{later_handed, sent_in_turn}
use Rattle.ats_legal_law.proofs.LaterParts.{crossed_in_turn, given_in_turn, journey_later}
use Rattle.ats_legal_law.proofs.LaterRules.{rule_in_turn, times_in_turn}
use Rattle.ats_legal_law.proofs.OverParts.{IsHandedBy, sent_over, crossed_over, given_over}

-- Two legal runs, one behind the other, are one.

-- the releases of a run, and of one behind it
pub releases_in_turn : (by : ℕ) (first second : List Travel)
    → releases_of (first ++ later_run by second) ≡ releases_of first ++ map (later_release by) (releases_of second)
releases_in_turn by first second =
    let release = λ (j : Travel). j.release in
    map-append release first (later_run by second)
    ∙ ap (λ (l : List Release). map release first ++ l)
    (map-map release (later_travel by) second ∙ sym (map-map (later_release by) release second))

pub released_by : (over : ℕ) (run : List Travel) → All (IsOverBy over) run
    → All (λ (r : Release). r.at.0 ≤ over) (releases_of run)
released_by over run all =
    All-map (λ (r : Release). r.at.0 ≤ over) (λ (j : Travel). j.release) run (λ k d h. (all k d h).released)

order_in_turn : (over by : ℕ) (first second : List Travel) → over ≤ by
    → IsNonDecreasing (map (λ (r : Release). r.at.0) (releases_of first))
    → IsNonDecreasing (map (λ (r : Release). r.at.0) (releases_of second)) → All (IsOverBy over) first
    → IsNonDecreasing (map (λ (r : Release). r.at.0) (releases_of (first ++ later_run by second)))
order_in_turn over by first second after one two all =
    let time = λ (r : Release). r.at.0 in
    subst (λ (l : List Release). IsNonDecreasing (map time l)) (sym (releases_in_turn by first second))
    (ascends_behind time (later_release by) over by after (λ r. refl) (releases_of first) (releases_of second) one two
    (released_by over first all))

-- what a group's frames are, and when they rest

-- a run by true time, in which each frame was told its eligibility time
case_in : (network : DeclaredNetwork) (run : List Travel) → IsNetwork network → IsIdeal network run
    → Case network run
case_in network run net legal = record {
  net = net;
  journeys = legal.journeys;
  told = λ port x. x.eligible;
  ports = legal.ports;
  links = legal.links;
}

-- a frame is of a stream that has its scheduler behind a port, with what a group asks of its members
record IsShaped (network : DeclaredNetwork) (port : ℕ) (h : Handed) : Type 0 where
  ruled : IsRuled (scheduled_by network port h.crossing.sent.sender)
  there : IsScheduledBehind network h.crossing.sent.sender port

given_shaped : (network : DeclaredNetwork) (run : List Travel) (port class : ℕ) → IsNetwork network
    → IsIdeal network run → 1 ≤ class → All (IsShaped network port) (handed_by network run port class)
given_shaped network run port class net legal least k d within =
    let test = λ (h : Handed). h.crossing.port == port && h.crossing.sent.class == class in
    let handed : List Handed = handed_from network 0 run in
    let one : Handed = get_or (filter test handed) k d in
    let known : IsTold network one =
    All-filter test (IsTold network) handed (told network run (case_in network run net legal)) k d within in
    let passes = and_parts (one.crossing.port == port) (one.crossing.sent.class == class)
    (filter_passes test handed k d within) in
    let same : one.crossing.sent.class ≡ class = eqb-true one.crossing.sent.class class passes.1 in
    let shaped : 1 ≤ class_at (sender_at network one.crossing.sent.sender) one.crossing.port =
    omega (arith, same, known.ranked, least) in
    subst (λ (p : ℕ). IsShaped network p one) (eqb-true one.crossing.port port passes.0) (record {
      ruled = scheduled_ruled network.topology (sender_at network one.crossing.sent.sender) one.crossing.port
          (sender_keeps network one.crossing.sent.sender net known.exists) shaped;
      there = record {
        exists = is_stream network one.crossing.port one.crossing.sent.sender known.exists shaped;
        class = shaped;
        bridge = known.bridge;
      };
    })

group_in_turn : (network : DeclaredNetwork) (port more over by : ℕ) (first second : List Handed)
    → RestsUntil network over by → All (IsShaped network port) first → All (IsShaped network port) second
    → All (IsHandedBy over) first → IsJudged ats_judge network port first → IsJudged ats_judge network port second
    → IsJudged ats_judge network port (first ++ map (later_handed more by) second)
group_in_turn network port more over by first second rests ruled also past one two =
    let Known : Handed → Type 0 = IsShaped network port in
    let residence_ns : ℕ = residence_of_groups network port in
    let moved : Handed → Handed = later_handed more by in
    let arrival = λ (h : Handed). h.crossing.arrival in
    let verdict = λ (h : Handed). h.verdict in
    let declared = scheduled_by network port in
    let InTime : Verdict → Type 0 = λ (v : Verdict). OnEligible v (λ e. e ≤ over) in
    let after : over ≤ by = (let less = rests.after in omega arith) in
    let known : All Known one.arrivals = All-permutation Known first one.arrivals one.same ruled in
    let late : All Known two.arrivals = All-permutation Known second two.arrivals two.same also in
    let passed : All (IsHandedBy over) one.arrivals =
    All-permutation (IsHandedBy over) first one.arrivals one.same past in
    let rested : All (IsRested declared over by) (map offer_of one.arrivals) =
    All-map (IsRested declared over by) offer_of one.arrivals
    (λ k d h. (
      (known k d h).ruled,
      rests.scheduled (get_or one.arrivals k d).crossing.sent.sender port (known k d h).there,
    )) in
    let keeps : All (λ (o : Offer). IsRuled (declared o.member)) (map offer_of two.arrivals) =
    All-map (λ (o : Offer). IsRuled (declared o.member)) offer_of two.arrivals (λ k d h. (late k d h).ruled) in
    let in_time : All InTime (ats_judge declared residence_ns (map offer_of one.arrivals)) =
    subst (All InTime) one.verdicts (All-map InTime verdict one.arrivals (λ k d h. (passed k d h).1)) in
    let judged = judged_in_turn declared residence_ns over by (map offer_of one.arrivals) (map offer_of two.arrivals)
    after rested keeps in_time in
    let told_now : map verdict (one.arrivals ++ map moved two.arrivals)
    ≡ ats_judge declared residence_ns (map offer_of one.arrivals)
    ++ map (later_verdict by) (ats_judge declared residence_ns (map offer_of two.arrivals)) =
    map-append verdict one.arrivals (map moved two.arrivals)
    ∙ ap (λ (l : List Verdict). map verdict one.arrivals ++ l)
    (map-map verdict moved two.arrivals ∙ sym (map-map (later_verdict by) verdict two.arrivals))
    ∙ ap (λ (l : List Verdict). l ++ map (later_verdict by) (map verdict two.arrivals)) one.verdicts
    ∙ ap (λ (l : List Verdict). ats_judge declared residence_ns (map offer_of one.arrivals)
    ++ map (later_verdict by) l) two.verdicts in
    let offered : map offer_of (one.arrivals ++ map moved two.arrivals)
    ≡ map offer_of one.arrivals ++ map (later_offer by) (map offer_of two.arrivals) =
    map-append offer_of one.arrivals (map moved two.arrivals)
    ∙ ap (λ (l : List Offer). map offer_of one.arrivals ++ l)
    (map-map offer_of moved two.arrivals ∙ sym (map-map (later_offer by) offer_of two.arrivals)) in
    record {
      arrivals = one.arrivals ++ map moved two.arrivals;
      same = IsPermutation-append first one.arrivals (map moved second) (map moved two.arrivals) one.same
          (IsPermutation-map moved second two.arrivals two.same);
      in_order = ascends_behind arrival moved over by after (λ h. refl) one.arrivals two.arrivals one.in_order
          two.in_order (λ k d h. (passed k d h).0);
      verdicts = told_now ∙ sym judged
          ∙ ap (λ (l : List Offer). ats_judge declared residence_ns l) (sym offered);
    }

by_size : (by : ℕ) (sized : Bool) (at : ℕ)
    → later_verdict by (if sized then Eligible (record { 0 = at }) else Size)
    ≡ (if sized then Eligible (record { 0 = at + by }) else Size)
by_size by true at = refl
by_size by false at = refl

passed_later : (network : DeclaredNetwork) (more by : ℕ) (h : Handed) → IsPassed network h
    → IsPassed network (later_handed more by h)
passed_later network more by h passed =
    ap (later_verdict by) passed
    ∙ by_size by (is_declared_size (declared_by network h.crossing.sent.sender) h.crossing.octets) h.crossing.arrival

pub legal_in_turn : LegalInTurn
legal_in_turn network first second over by net one two all rests =
    let more : ℕ = length first in
    let after : over < by = rests.after in
    record {
      in_order = order_in_turn over by first second (omega arith) one.in_order two.in_order all;
      journeys = All-append (IsJourney network) first (later_run by second) one.journeys
          (All-map (IsJourney network) (later_travel by) second
          (λ k d h. journey_later network by (get_or second k d) (two.journeys k d h)));
      ports = λ port within.
          (let ps : ℕ = (port_at network.topology.ports port).ps_per_bit in
          subst (KeepsPortRule ps) (sym (sent_in_turn network by first second port))
          (rule_in_turn more ps over by (sent_by network first port) (sent_by network second port) after
          (one.ports port within) (two.ports port within) (sent_over network over first port all)));
      links = λ port within.
          (let at : Port = port_at network.topology.ports port in
          subst (KeepsLinkRule at) (sym (crossed_in_turn network by first second port))
          (times_in_turn more at.earliest.0 at.latency.0 over by (crossings_by network first port)
          (crossings_by network second port) after (one.links port within) (two.links port within)
          (crossed_over network over first port all)));
      groups = λ port class within least.
          subst (IsJudged ats_judge network port) (sym (given_in_turn network by first second port class))
          (group_in_turn network port more over by (handed_by network first port class)
          (handed_by network second port class) rests (given_shaped network first port class net one least)
          (given_shaped network second port class net two least) (given_over network over first port class all)
          (one.groups port class within least) (two.groups port class within least));
      flows = λ port within.
          subst (All (IsPassed network)) (sym (given_in_turn network by first second port 0))
          (All-append (IsPassed network) (handed_by network first port 0)
          (map (later_handed more by) (handed_by network second port 0)) (one.flows port within)
          (All-map (IsPassed network) (later_handed more by) (handed_by network second port 0)
          (λ k d h. passed_later network more by (get_or (handed_by network second port 0) k d)
          (two.flows port within k d h))));
    }
