use Rattle.std.proofs.Common.{◌≡◌, ℕ, zero, suc, ◌-◌, ◌<◌, ◌≤◌, Bool, true, false, ◌&&◌, ◌||◌, List, [], ◌∷◌}
use Rattle.std.proofs.Common.{length, map, filter, lit<, refl, sym, subst, arith, inl, inr}
use Rattle.std.specs.Prelude.{IsPermutation, not, nat_le, nat_lt, ◌==◌, slice_index_or, zip}
use Rattle.std.specs.List.{AllZip, list_all}
use Rattle.std.proofs.lemmas.Bool.{and_from, and_parts, cases_lt, false≢true, le-leb, ne_eqb}
use Rattle.std.proofs.lemmas.List.Sums.{AllPass-from_list_all}
use Rattle.ats_clock_law.specs.TrueTime.{IsTrueEligibility, IsTrueVerdict, stamped_offers}
use Rattle.ats_topology.specs.Port.{port_at}
use Rattle.ats_topology.specs.Topology.{node_at}
use Rattle.ats_topology.specs.declared.node.Kind.{Kind}
use Rattle.ats_topology.specs.declared.node.Kind.TheVariants.{Station, Bridge}
use Rattle.ats_network.specs.Network.{DeclaredNetwork}
use Rattle.ats_group.specs.Group.{Offer}
use Rattle.ats_group.specs.Judge.{ats_judge}
use Rattle.ats_group.specs.declared.verdict.Verdict.{Verdict}
use Rattle.ats_group.specs.declared.verdict.Verdict.TheVariants.{Eligible, Late, Size}
use Rattle.ats_port_rule.specs.PortRule.{IsAheadBy, KeepsPortRuleBy}
use Rattle.ats_port_rule.specs.Transmission.{Transmission}
use Rattle.ats_trace.specs.Clocks.{IsJudgedBy, KeepsNodeClock, WasTold, WasToldAtArrival}
use Rattle.ats_trace.specs.Eligibility.{offer_of, residence_of_groups, scheduled_by}
use Rattle.ats_trace.specs.Journey.{Travel}
use Rattle.ats_trace.specs.Parts.{Part, copies, flows, in_order, links, octets, prompt, released, takes, waits, way}
use Rattle.ats_trace.specs.Parts.{apart}
use Rattle.ats_trace.specs.Projections.{Handed, handed_by, handed_from, sent_by}
use Rattle.ats_trace.specs.Stored.{travel_at}
use Rattle.ats_trace.specs.Talker.{talker_of}
use Rattle.ats_examples.proofs.ArrivalTest.{by_arrival, same_frames}
use Rattle.ats_examples.proofs.LegalTest.{ascending_by}
use Rattle.ats_examples.proofs.PartTest.{kept_by, passes}
use Rattle.ats_examples.proofs.PortTest.{of_each, of_each_by, of_eq, of_lt}
use Rattle.ats_examples.proofs.Tests.{all_by, below_by, each_below, either, eq_of, implied, le_of, lt_of, pairs_pass}
use Rattle.ats_clock_examples.specs.Clocked.{IsLegalWith, clock_at}

-- Tests of a legal run by clocks, on closed networks, runs, clocks and told times.

-- what the node with a number told the frame with a number, where these are the times by node and frame
abbrev pub told_at : List (List ℕ) → ℕ → ℕ → ℕ
told_at told node frame = slice_index_or (slice_index_or told node []) frame 0

-- no node's clock goes back
pub goes_on : (kind : Kind) (shows : ℕ → ℕ) → KeepsNodeClock kind shows → (s t : ℕ) → s ≤ t → shows s ≤ shows t
goes_on Station shows true_time s t h = omega (arith, h, true_time s, true_time t)
goes_on (Bridge least most residence ppm step) shows keeps s t h = keeps.in_order s t h

-- the true eligibility time of a frame by a clock that does not go back
abbrev pub is_just_shown : (ℕ → ℕ) → ℕ → ℕ → ℕ → Bool
is_just_shown shows arrival told eligible =
    nat_le arrival eligible
    && (nat_le told (shows eligible) && (eligible == arrival || nat_lt (shows (eligible - 1)) told))

just_shown_by : (shows : ℕ → ℕ) → ((s t : ℕ) → s ≤ t → shows s ≤ shows t) → (arrival told eligible : ℕ)
    → is_just_shown shows arrival told eligible ≡ true → IsTrueEligibility shows arrival told eligible
just_shown_by shows on arrival told eligible h =
    let soonest : Bool = eligible == arrival || nat_lt (shows (eligible - 1)) told in
    let first = and_parts (nat_le arrival eligible) (nat_le told (shows eligible) && soonest) h in
    let second = and_parts (nat_le told (shows eligible)) soonest first.1 in
    record {
      arrived = le_of arrival eligible first.0;
      shown = le_of told (shows eligible) second.0;
      least = λ t after shown. elim (either (eligible == arrival) (nat_lt (shows (eligible - 1)) told) second.1) [
        | inl at_once ↦ (let same : eligible ≡ arrival = eq_of eligible arrival at_once in omega (arith, same, after))
        | inr before ↦ elim (cases_lt t eligible) as (λ _. eligible ≤ t) [
          | inl sooner ↦ absurd (omega (
            arith,
            shown,
            lt_of (shows (eligible - 1)) told before,
            on t (eligible - 1) (omega (arith, sooner)),
          ))
          | inr later ↦ later
        ]
      ];
    }

-- verdicts in true time of a group that judges by a clock
abbrev pub is_true_verdict : (ℕ → ℕ) → Offer → Verdict → Verdict → Bool
is_true_verdict shows offer (Eligible told) (Eligible e) = is_just_shown shows offer.arrival told.0 e.0
is_true_verdict shows offer (Late told) (Late e) = is_just_shown shows offer.arrival told.0 e.0
is_true_verdict shows offer Size Size = true
is_true_verdict shows offer v w = false

true_verdict_by : (shows : ℕ → ℕ) → ((s t : ℕ) → s ≤ t → shows s ≤ shows t) → (offer : Offer) (v w : Verdict)
    → is_true_verdict shows offer v w ≡ true → IsTrueVerdict shows offer v w
true_verdict_by shows on offer (Eligible told) (Eligible e) h =
    (e, refl, just_shown_by shows on offer.arrival told.0 e.0 h)
true_verdict_by shows on offer (Late told) (Late e) h = (e, refl, just_shown_by shows on offer.arrival told.0 e.0 h)
true_verdict_by shows on offer Size Size h = refl
true_verdict_by shows on offer (Eligible told) (Late e) h = absurd (false≢true h)
true_verdict_by shows on offer (Eligible told) Size h = absurd (false≢true h)
true_verdict_by shows on offer (Late told) (Eligible e) h = absurd (false≢true h)
true_verdict_by shows on offer (Late told) Size h = absurd (false≢true h)
true_verdict_by shows on offer Size (Eligible e) h = absurd (false≢true h)
true_verdict_by shows on offer Size (Late e) h = absurd (false≢true h)

abbrev pub are_true : (ℕ → ℕ) → List (Offer × Verdict) → List Verdict → Bool
are_true shows [] [] = true
are_true shows [] (w ∷ ws) = false
are_true shows (j ∷ judged) [] = false
are_true shows (j ∷ judged) (w ∷ ws) = is_true_verdict shows j.0 j.1 w && are_true shows judged ws

are_true_by : (shows : ℕ → ℕ) → ((s t : ℕ) → s ≤ t → shows s ≤ shows t) → (judged : List (Offer × Verdict))
    (verdicts : List Verdict) → are_true shows judged verdicts ≡ true
    → AllZip (λ (j : Offer × Verdict) (w : Verdict). IsTrueVerdict shows j.0 j.1 w) judged verdicts
are_true_by shows on [] [] h = tt
are_true_by shows on [] (w ∷ ws) h = absurd (false≢true h)
are_true_by shows on (j ∷ judged) [] h = absurd (false≢true h)
are_true_by shows on (j ∷ judged) (w ∷ ws) h =
    let parts = and_parts (is_true_verdict shows j.0 j.1 w) (are_true shows judged ws) h in
    (true_verdict_by shows on j.0 j.1 w parts.0, are_true_by shows on judged ws parts.1)

-- the times that frames were told
abbrev pub was_told : (ℕ → ℕ) → Handed → Verdict → Bool
was_told told h (Eligible at) = told h.crossing.sent.frame == at.0
was_told told h (Late at) = true
was_told told h Size = true

was_told_by : (told : ℕ → ℕ) (h : Handed) (v : Verdict) → was_told told h v ≡ true → WasTold told h v
was_told_by told h (Eligible at) same = eq_of (told h.crossing.sent.frame) at.0 same
was_told_by told h (Late at) same = tt
was_told_by told h Size same = tt

abbrev pub were_told : (ℕ → ℕ) → List Handed → List Verdict → Bool
were_told told [] [] = true
were_told told [] (v ∷ vs) = false
were_told told (h ∷ handed) [] = false
were_told told (h ∷ handed) (v ∷ vs) = was_told told h v && were_told told handed vs

were_told_by : (told : ℕ → ℕ) (handed : List Handed) (verdicts : List Verdict) → were_told told handed verdicts ≡ true
    → AllZip (WasTold told) handed verdicts
were_told_by told [] [] same = tt
were_told_by told [] (v ∷ vs) same = absurd (false≢true same)
were_told_by told (h ∷ handed) [] same = absurd (false≢true same)
were_told_by told (h ∷ handed) (v ∷ vs) same =
    let parts = and_parts (was_told told h v) (were_told told handed vs) same in
    (was_told_by told h v parts.0, were_told_by told handed vs parts.1)

-- what a group judges of these offers by a clock
abbrev pub told_verdicts : (ℕ → ℕ) → DeclaredNetwork → ℕ → List Handed → List Verdict
told_verdicts shows network port handed =
    ats_judge (scheduled_by network port) (residence_of_groups network port)
    (stamped_offers shows (map offer_of handed))

-- frames in the order of their arrivals get their group's verdicts
abbrev pub in_turn_pass : (shows told : ℕ → ℕ) → DeclaredNetwork → ℕ → List Handed → Bool
in_turn_pass shows told network port handed =
    pairs_pass nat_le (map (λ (h : Handed). h.crossing.arrival) handed)
    && (are_true shows (zip (map offer_of handed) (told_verdicts shows network port handed))
    (map (λ (h : Handed). h.verdict) handed)
    && were_told told handed (told_verdicts shows network port handed))

in_turn_by : (shows told : ℕ → ℕ) → ((s t : ℕ) → s ≤ t → shows s ≤ shows t) → (network : DeclaredNetwork) (port : ℕ)
    (handed sorted : List Handed) → sorted ≡ by_arrival handed
    → in_turn_pass shows told network port sorted ≡ true → IsJudgedBy shows told network port handed
in_turn_by shows told on network port handed sorted is h =
    let times : List ℕ = map (λ (h : Handed). h.crossing.arrival) sorted in
    let due : List Verdict = told_verdicts shows network port sorted in
    let given : List Verdict = map (λ (h : Handed). h.verdict) sorted in
    let judged : List (Offer × Verdict) = zip (map offer_of sorted) due in
    let first = and_parts (pairs_pass nat_le times) (are_true shows judged given && were_told told sorted due) h in
    let second = and_parts (are_true shows judged given) (were_told told sorted due) first.1 in
    record {
      arrivals = sorted;
      same = subst (IsPermutation handed) (sym is) (same_frames handed);
      in_order = ascending_by times first.0;
      verdicts = are_true_by shows on judged given second.0;
      times = were_told_by told sorted due second.1;
    }

abbrev pub judged_pass : (shows told : ℕ → ℕ) → DeclaredNetwork → ℕ → List Handed → Bool
judged_pass shows told network port handed = in_turn_pass shows told network port (by_arrival handed)

judged_by : (shows told : ℕ → ℕ) → ((s t : ℕ) → s ≤ t → shows s ≤ shows t) → (network : DeclaredNetwork) (port : ℕ)
    (handed : List Handed) → judged_pass shows told network port handed ≡ true
    → IsJudgedBy shows told network port handed
judged_by shows told on network port handed h =
    in_turn_by shows told on network port handed (by_arrival handed) refl h

-- a frame is of no higher class than 7
abbrev pub is_of_known : Handed → Bool
is_of_known h = nat_le h.crossing.sent.class 7

and_false : (a b : Bool) → b ≡ false → (a && b) ≡ false
and_false true b h = h
and_false false b h = refl

other_class : (own class : ℕ) → nat_le own 7 ≡ true → 7 < class → (own == class) ≡ false
other_class own class known higher =
    ne_eqb own class (λ same. absurd (omega (arith, le_of own 7 known, higher, same)))

-- so there is none of a higher one
none_above : (port class : ℕ) → 7 < class → (handed : List Handed) → list_all is_of_known handed ≡ true
    → filter (λ (h : Handed). h.crossing.port == port && h.crossing.sent.class == class) handed ≡ []
none_above port class higher [] passed = refl
none_above port class higher (h ∷ handed) passed =
    let parts : (is_of_known h ≡ true) × (list_all is_of_known handed ≡ true) =
    and_parts (is_of_known h) (list_all is_of_known handed) passed in
    let rest : filter (λ (k : Handed). k.crossing.port == port && k.crossing.sent.class == class) handed ≡ [] =
    none_above port class higher handed parts.1 in
    let skipped : (h.crossing.port == port && h.crossing.sent.class == class) ≡ false =
    and_false (h.crossing.port == port) (h.crossing.sent.class == class)
    (other_class h.crossing.sent.class class parts.0 higher) in
    rw skipped rest

-- each port's group of each class judges its frames by the clock of the node behind it
abbrev pub group_passes : (clocks told : ℕ → ℕ → ℕ) → DeclaredNetwork → List Travel → ℕ → ℕ → Bool
group_passes clocks told network run class p =
    judged_pass (clocks (port_at network.topology.ports p).to) (told (port_at network.topology.ports p).to) network p
    (handed_by network run p class)

abbrev pub class_passes : (clocks told : ℕ → ℕ → ℕ) → DeclaredNetwork → List Travel → ℕ → Bool
class_passes clocks told network run below =
    each_below (group_passes clocks told network run (suc below)) (length network.topology.ports)

abbrev pub groups_pass : (clocks told : ℕ → ℕ → ℕ) → DeclaredNetwork → List Travel → Bool
groups_pass clocks told network run =
    list_all is_of_known (handed_from network 0 run) && each_below (class_passes clocks told network run) 7

groups_by : (clocks told : ℕ → ℕ → ℕ) → ((node s t : ℕ) → s ≤ t → clocks node s ≤ clocks node t)
    → (network : DeclaredNetwork) (run : List Travel) → groups_pass clocks told network run ≡ true
    → (port class : ℕ) → port < length network.topology.ports → 1 ≤ class
    → IsJudgedBy (clocks (port_at network.topology.ports port).to) (told (port_at network.topology.ports port).to)
    network port (handed_by network run port class)
groups_by clocks told on network run passed port zero within least = absurd (omega (arith, least))
groups_by clocks told on network run passed port (suc below) within least =
    let node : ℕ = (port_at network.topology.ports port).to in
    let parts = and_parts (list_all is_of_known (handed_from network 0 run))
    (each_below (class_passes clocks told network run) 7) passed in
    elim (cases_lt below 7) as (λ _. IsJudgedBy (clocks node) (told node) network port
    (handed_by network run port (suc below))) [
      | inl known ↦ judged_by (clocks node) (told node) (on node) network port (handed_by network run port (suc below))
          (below_by (group_passes clocks told network run (suc below)) (length network.topology.ports)
          (below_by (class_passes clocks told network run) 7 parts.1 below known) port within)
      | inr above ↦ rw (none_above port (suc below) (omega (arith, above)) (handed_from network 0 run) parts.0)
          (judged_by (clocks node) (told node) (on node) network port [] refl)
    ]

-- each port chooses by the times that its node's clock told
abbrev pub told_by : (ℕ → ℕ → ℕ) → DeclaredNetwork → ℕ → Transmission → ℕ
told_by told network p x = told (port_at network.topology.ports p).from x.frame

abbrev pub chosen_told : (Transmission → ℕ) → Transmission → Transmission → Bool
chosen_told by x y =
    not (nat_lt x.start y.start && nat_le y.eligible x.start)
    || (nat_le y.class x.class && (not (x.class == y.class) || nat_le (by x) (by y)))

chosen_by : (by : Transmission → ℕ) (x y : Transmission) → chosen_told by x y ≡ true → x.start < y.start
    → y.eligible ≤ x.start → IsAheadBy by x y
chosen_by by x y h before eligible =
    let ahead = implied (nat_lt x.start y.start && nat_le y.eligible x.start) _ h
    (and_from (nat_lt x.start y.start) (nat_le y.eligible x.start) (of_lt x.start y.start before)
    (le-leb y.eligible x.start eligible)) in
    let parts = and_parts (nat_le y.class x.class) (not (x.class == y.class) || nat_le (by x) (by y)) ahead in
    record {
      class = le_of y.class x.class parts.0;
      no_later = λ same. le_of (by x) (by y)
          (implied (x.class == y.class) (nat_le (by x) (by y)) parts.1 (of_eq x.class y.class same));
    }

abbrev pub port_chooses : (ℕ → ℕ → ℕ) → DeclaredNetwork → List Travel → ℕ → Bool
port_chooses told network run p = of_each (chosen_told (told_by told network p)) (sent_by network run p)

-- a node's own frames are told what its clock shows at their releases, and flows' frames at their arrivals
abbrev pub own_told : (clocks told : ℕ → ℕ → ℕ) → DeclaredNetwork → List Travel → ℕ → Bool
own_told clocks told network run frame =
    told (talker_of network (travel_at run frame).release.sender) frame
    == clocks (talker_of network (travel_at run frame).release.sender) (travel_at run frame).release.at.0

abbrev pub passed_told : (shows told : ℕ → ℕ) → Handed → Bool
passed_told shows told h = told h.crossing.sent.frame == shows h.crossing.arrival

abbrev pub port_passed : (clocks told : ℕ → ℕ → ℕ) → DeclaredNetwork → List Travel → ℕ → Bool
port_passed clocks told network run p =
    list_all (passed_told (clocks (port_at network.topology.ports p).to) (told (port_at network.topology.ports p).to))
    (handed_by network run p 0)

-- the parts that no clock has a say in
abbrev pub shared : List Part
shared =
    in_order ∷ octets ∷ way ∷ released ∷ copies ∷ links ∷ waits ∷ takes ∷ apart ∷ prompt ∷ flows ∷ []

abbrev pub shared_pass : DeclaredNetwork → List Travel → Bool
shared_pass network run = list_all (λ part. passes part network run) shared

-- the run is legal by clocks that told frames these times
abbrev pub legal_passes : (clocks told : ℕ → ℕ → ℕ) → DeclaredNetwork → List Travel → Bool
legal_passes clocks told network run =
    shared_pass network run
    && (each_below (own_told clocks told network run) (length run)
    && (each_below (port_chooses told network run) (length network.topology.ports)
    && (each_below (port_passed clocks told network run) (length network.topology.ports)
    && groups_pass clocks told network run)))

-- its port rule
port_rule_by : (told : ℕ → ℕ → ℕ) (network : DeclaredNetwork) (run : List Travel) → shared_pass network run ≡ true
    → each_below (port_chooses told network run) (length network.topology.ports) ≡ true → (port : ℕ)
    → port < length network.topology.ports
    → KeepsPortRuleBy (told_by told network port) (port_at network.topology.ports port).ps_per_bit
    (sent_by network run port)
port_rule_by told network run h chooses port within =
    let test : Part → Bool = λ part. passes part network run in
    let all = AllPass-from_list_all test shared h in
    let sent : List Transmission = sent_by network run port in
    record {
      waits = kept_by waits network run (all 6 waits (lit< tt)) port within;
      takes = kept_by takes network run (all 7 takes (lit< tt)) port within;
      apart = kept_by apart network run (all 8 apart (lit< tt)) port within;
      chosen = of_each_by (λ (x y : Transmission). x.start < y.start → y.eligible ≤ x.start
          → IsAheadBy (told_by told network port) x y) (chosen_told (told_by told network port))
          (chosen_by (told_by told network port)) sent
          (below_by (port_chooses told network run) (length network.topology.ports) chooses port within);
      prompt = kept_by prompt network run (all 9 prompt (lit< tt)) port within;
    }

pub legal_with_by : (clocks : List (ℕ → ℕ)) (told : List (List ℕ)) (network : DeclaredNetwork) (run : List Travel)
    → ((node : ℕ) → KeepsNodeClock (node_at network.topology.nodes node).kind (clock_at clocks node))
    → legal_passes (clock_at clocks) (told_at told) network run ≡ true → IsLegalWith clocks network run
legal_with_by clocks told network run keeps h =
    let ports : ℕ = length network.topology.ports in
    let shows : ℕ → ℕ → ℕ = clock_at clocks in
    let times : ℕ → ℕ → ℕ = told_at told in
    let grouped : Bool = groups_pass shows times network run in
    let passing : Bool = each_below (port_passed shows times network run) ports in
    let choosing : Bool = each_below (port_chooses times network run) ports in
    let owned : Bool = each_below (own_told shows times network run) (length run) in
    let first = and_parts (shared_pass network run) (owned && (choosing && (passing && grouped))) h in
    let second = and_parts owned (choosing && (passing && grouped)) first.1 in
    let third = and_parts choosing (passing && grouped) second.1 in
    let fourth = and_parts passing grouped third.1 in
    let all = AllPass-from_list_all (λ (part : Part). passes part network run) shared first.0 in
    record {
      legal = record {
        in_order = kept_by in_order network run (all 0 in_order (lit< tt));
        journeys = λ k d within. record {
          sender = (kept_by way network run (all 2 way (lit< tt)) k d within).0;
          octets = kept_by octets network run (all 1 octets (lit< tt)) k d within;
          way = (kept_by way network run (all 2 way (lit< tt)) k d within).1;
          released = kept_by released network run (all 3 released (lit< tt)) k d within;
          copies = kept_by copies network run (all 4 copies (lit< tt)) k d within;
        };
        clocks = shows;
        keeps = keeps;
        told = times;
        own = λ frame within. eq_of (times (talker_of network (travel_at run frame).release.sender) frame)
            (shows (talker_of network (travel_at run frame).release.sender) (travel_at run frame).release.at.0)
            (below_by (own_told shows times network run) (length run) second.0 frame within);
        ports = port_rule_by times network run first.0 third.0;
        links = kept_by links network run (all 5 links (lit< tt));
        groups = groups_by shows times
            (λ node. goes_on (node_at network.topology.nodes node).kind (shows node) (keeps node)) network run fourth.1;
        flows = kept_by flows network run (all 10 flows (lit< tt));
        passed = λ port within. (
            let node : ℕ = (port_at network.topology.ports port).to in
            all_by (WasToldAtArrival (shows node) (times node)) (passed_told (shows node) (times node))
            (λ frame. eq_of (times node frame.crossing.sent.frame) (shows node frame.crossing.arrival))
            (handed_by network run port 0)
            (below_by (port_passed shows times network run) ports fourth.0 port within));
      };
      by_clocks = λ node t. refl;
    }
