-- A run in which all nodes read true time is legal with clocks that show it.
use Rattle.std.proofs.Common.{◌≡◌, ℕ, ◌≤◌, Bool, true, false, List, [], ◌∷◌, get_or, map, All, refl, sym, ap, subst}
use Rattle.std.proofs.Common.{◌∙◌, arith}
use Rattle.std.specs.Prelude.{zip, if◌then◌else◌}
use Rattle.std.specs.List.{AllZip}
use Rattle.std.proofs.lemmas.List.Elements.{All-head, All-tail}
use Rattle.std.proofs.lemmas.List.Sorted.{All-permutation}
use Rattle.ats_clock.specs.Clock.{KeepsClock, declared_clock, ideal}
use Rattle.ats_clock.proofs.Deviating.{keeps_greater}
use Rattle.ats_clock_law.specs.TrueTime.{AreTrueVerdicts, IsTrueEligibility, IsTrueVerdict, stamped_offers}
use Rattle.ats_clock_law.proofs.Ideal.{TellsNoEarlier, tells_no_earlier}
use Rattle.ats_topology.specs.Port.{port_at}
use Rattle.ats_topology.specs.Topology.{node_at}
use Rattle.ats_topology.specs.declared.node.Kind.{Kind}
use Rattle.ats_topology.specs.declared.node.Kind.TheVariants.{Bridge, Station}
use Rattle.ats_streams.specs.Traffic.{is_declared_size}
use Rattle.ats_streams.specs.declared.traffic.Declared.{Declared}
use Rattle.ats_network.specs.Network.{DeclaredNetwork, IsNetwork}
use Rattle.ats_group.specs.Group.{Offer}
use Rattle.ats_group.specs.Judge.{ats_judge}
use Rattle.ats_group.specs.declared.verdict.Verdict.{Verdict}
use Rattle.ats_group.specs.declared.verdict.Verdict.TheVariants.{Eligible, Late, Size}
use Rattle.ats_port_rule.specs.Transmission.{Transmission}
use Rattle.ats_trace.specs.Clocks.{IsJudgedBy, KeepsNodeClock, WasTold}
use Rattle.ats_trace.specs.Eligibility.{IsJudged, IsPassed, declared_by, offer_of, residence_of_groups, scheduled_by}
use Rattle.ats_trace.specs.Journey.{Travel}
use Rattle.ats_trace.specs.Projections.{Handed, handed_by, sent_by}
use Rattle.ats_trace.specs.Run.{IsIdeal}
use Rattle.ats_clock_run_law.specs.Laws.{TrueTimeIsLegal}
use Rattle.ats_clock_run_law.proofs.Ports.{retold}
use Rattle.ats_clock_run_law.proofs.Records.{handed_at_port, sent_at_port}
use Rattle.ats_clock_run_law.proofs.ToldTimes.{WasToldAt, WasToldBehind, each_handed, each_own, each_sent, time_by}
use Rattle.ats_clock_run_law.proofs.ToldTimes.{told_in}

-- true time keeps the clock of each node
ideal_kept : KeepsClock ideal (λ t. t)
ideal_kept = record {
  in_order = λ s t h. h;
  no_slower = λ s t h. omega arith;
  no_faster = λ s t h. omega arith;
}

true_time_keeps : (kind : Kind) → KeepsNodeClock kind (λ t. t)
true_time_keeps Station = λ t. refl
true_time_keeps (Bridge processing_min_ns processing_max_ns residence_ns clock_ppm clock_step_ps) =
    keeps_greater ideal (declared_clock clock_ppm clock_step_ps) (λ t. t)
    (record { deviation = omega arith; step = omega arith }) ideal_kept

-- stamps of true time are the arrivals
unstamped : (offers : List Offer) → stamped_offers (λ t. t) offers ≡ offers
unstamped [] = refl
unstamped (offer ∷ offers) = ap (λ (os : List Offer). offer ∷ os) (unstamped offers)

-- a verdict by true time, told no time before the arrival, is its own in true time
own_time : (arrival told : ℕ) → arrival ≤ told → IsTrueEligibility (λ t. t) arrival told told
own_time arrival told h = record { arrived = h; shown = omega arith; least = λ t after shown. shown }

own_verdict : (offer : Offer) (v : Verdict) → TellsNoEarlier offer v → IsTrueVerdict (λ t. t) offer v v
own_verdict offer (Eligible e) h = (e, refl, own_time offer.arrival e.0 h)
own_verdict offer (Late e) h = (e, refl, own_time offer.arrival e.0 h)
own_verdict offer Size h = refl

own_verdicts : (offers : List Offer) (verdicts : List Verdict) → AllZip TellsNoEarlier offers verdicts
    → AllZip (λ (judged : Offer × Verdict) (v : Verdict). IsTrueVerdict (λ t. t) judged.0 judged.1 v)
    (zip offers verdicts) verdicts
own_verdicts [] [] h = tt
own_verdicts [] (v ∷ verdicts) h = absurd h
own_verdicts (offer ∷ offers) [] h = absurd h
own_verdicts (offer ∷ offers) (v ∷ verdicts) h = (own_verdict offer v h.0, own_verdicts offers verdicts h.1)

true_verdicts : (declared : ℕ → Declared) (residence_ns : ℕ) (offers : List Offer)
    → AreTrueVerdicts (λ t. t) ats_judge declared residence_ns offers (ats_judge declared residence_ns offers)
true_verdicts declared residence_ns offers =
    subst (λ (os : List Offer).
    AllZip (λ (judged : Offer × Verdict) (v : Verdict). IsTrueVerdict (λ t. t) judged.0 judged.1 v)
    (zip offers (ats_judge declared residence_ns os)) (ats_judge declared residence_ns offers))
    (sym (unstamped offers))
    (own_verdicts offers (ats_judge declared residence_ns offers) (tells_no_earlier declared residence_ns offers))

-- the frames of a class behind a port were told the times of their verdicts
behind : (network : DeclaredNetwork) (run : List Travel) (port class : ℕ) → IsNetwork network → IsIdeal network run
    → All (WasToldBehind (told_in network run) network port) (handed_by network run port class)
behind network run port class net legal =
    handed_at_port (WasToldBehind (told_in network run) network) network run port class
    (each_handed network run net legal)

by_verdict : (told : ℕ → ℕ) (h : Handed) (v : Verdict) → told h.crossing.sent.frame ≡ time_by h.crossing.arrival v
    → WasTold told h v
by_verdict told h (Eligible e) is = is
by_verdict told h (Late e) is = tt
by_verdict told h Size is = tt

zipped : (told : ℕ → ℕ) (handed : List Handed) → All (λ (h : Handed). WasTold told h h.verdict) handed
    → AllZip (WasTold told) handed (map (λ (h : Handed). h.verdict) handed)
zipped told [] all = tt
zipped told (h ∷ handed) all = (
  All-head (λ (h : Handed). WasTold told h h.verdict) h handed all,
  zipped told handed (All-tail (λ (h : Handed). WasTold told h h.verdict) h handed all),
)

-- a group that judges by true time judges by a clock that shows it
judged_by : (network : DeclaredNetwork) (run : List Travel) (port class : ℕ) → IsNetwork network → IsIdeal network run
    → IsJudged ats_judge network port (handed_by network run port class)
    → IsJudgedBy (λ t. t) (told_in network run (port_at network.topology.ports port).to) network port
    (handed_by network run port class)
judged_by network run port class net legal is = record {
  arrivals = is.arrivals;
  same = is.same;
  in_order = is.in_order;
  verdicts = subst (AreTrueVerdicts (λ t. t) ats_judge declared residence_ns offers) (sym is.verdicts)
      (true_verdicts declared residence_ns offers);
  times = subst (AllZip (WasTold told) is.arrivals) (is.verdicts
      ∙ ap (ats_judge declared residence_ns) (sym (unstamped offers)))
      (zipped told is.arrivals (All-permutation (λ (h : Handed). WasTold told h h.verdict)
      (handed_by network run port class) is.arrivals is.same
      (λ k d within. (
      let h : Handed = get_or (handed_by network run port class) k d in
      by_verdict told h h.verdict (behind network run port class net legal k d within)))));
}
  where
    told : ℕ → ℕ
    told = told_in network run (port_at network.topology.ports port).to

    declared : ℕ → Declared
    declared = scheduled_by network port

    residence_ns : ℕ
    residence_ns = residence_of_groups network port

    offers : List Offer
    offers = map offer_of is.arrivals

-- a frame of a flow has the time of its arrival
at_arrival : (network : DeclaredNetwork) (h : Handed) → IsPassed network h
    → time_by h.crossing.arrival h.verdict ≡ h.crossing.arrival
at_arrival network h passed =
    ap (time_by h.crossing.arrival) passed
    ∙ by (is_declared_size (declared_by network h.crossing.sent.sender) h.crossing.octets)
  where
    by : (size : Bool)
        → time_by h.crossing.arrival (if size then Eligible (record { 0 = h.crossing.arrival }) else Size)
        ≡ h.crossing.arrival
    by true = refl
    by false = refl

-- what a port sends was told when it was eligible
sent_told : (network : DeclaredNetwork) (run : List Travel) (port : ℕ) → IsNetwork network → IsIdeal network run
    → All (WasToldAt (told_in network run) network port) (sent_by network run port)
sent_told network run port net legal =
    sent_at_port (WasToldAt (told_in network run) network) network run port (each_sent network run net legal)

pub true_time_is_legal : TrueTimeIsLegal
true_time_is_legal network run net legal = record {
  legal = record {
    in_order = legal.in_order;
    journeys = legal.journeys;
    clocks = λ node t. t;
    keeps = λ node. true_time_keeps (node_at network.topology.nodes node).kind;
    told = told_in network run;
    own = λ frame within. each_own network run frame net legal within;
    ports = λ port within.
        retold (λ (x : Transmission). x.eligible)
        (λ (x : Transmission). told_in network run (port_at network.topology.ports port).from x.frame)
        (port_at network.topology.ports port).ps_per_bit (sent_by network run port)
        (λ k d in_k l e in_l no_later. (
        let x = sent_told network run port net legal k d in_k in
        let y = sent_told network run port net legal l e in_l in
        omega (arith, no_later)))
        (legal.ports port within);
    links = legal.links;
    groups = λ port class within streams.
        judged_by network run port class net legal (legal.groups port class within streams);
    flows = legal.flows;
    passed = λ port within k d in_k. (
        let h : Handed = get_or (handed_by network run port 0) k d in
        behind network run port 0 net legal k d in_k ∙ at_arrival network h (legal.flows port within k d in_k));
  };
  true_time = λ node t. refl;
}
