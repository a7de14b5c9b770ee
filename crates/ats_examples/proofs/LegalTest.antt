use Rattle.std.proofs.Common.{◌≡◌, ◌≢◌, ℕ, ◌+◌, ◌<◌, ◌≤◌, Bool, true, false, ◌&&◌, ◌||◌, List, [], ◌∷◌, length, map}
use Rattle.std.proofs.Common.{filter, get_or, All, refl, sym, ap, subst, ◌∙◌, arith, inl, inr}
use Rattle.std.specs.Prelude.{max, not, nat_le, nat_lt, ◌==◌, if◌then◌else◌, AllPairs}
use Rattle.std.specs.List.{list_all}
use Rattle.std.specs.List.Sorted.{IsNonDecreasing}
use Rattle.std.proofs.lemmas.Bool.{and_parts, false≢true, cases_eq}
use Rattle.std.proofs.lemmas.Bool.Decides.{nat_tests}
use Rattle.ats_topology.specs.Port.{port_at, spread_of}
use Rattle.ats_topology.specs.declared.port.Port.{Port}
use Rattle.ats_network.specs.Network.{DeclaredNetwork}
use Rattle.ats_port_rule.specs.Transmission.{Transmission}
use Rattle.ats_port_rule.specs.PortRule.{KeepsTie}
use Rattle.ats_streams.specs.Traffic.{is_declared_size}
use Rattle.ats_group.specs.declared.verdict.Verdict.{Verdict}
use Rattle.ats_group.specs.declared.verdict.Verdict.TheVariants.{Eligible, Late, Size}
use Rattle.ats_group.specs.Judge.{ats_judge}
use Rattle.ats_trace.specs.Journey.{Travel}
use Rattle.ats_trace.specs.Links.{ArrivesWithin, KeepsTimes, KeepsLinkRule, in_order_from, ArrivesByPace, KeepsPace}
use Rattle.ats_trace.specs.Parts.{EachPort}
use Rattle.ats_trace.specs.Projections.{Crossing, Handed, crossings_by, sent_by, handed_by, handed_from}
use Rattle.ats_trace.specs.Eligibility.{IsJudged, IsPassed, declared_by, offer_of, residence_of_groups}
use Rattle.ats_trace.specs.Eligibility.{scheduled_by}
use Rattle.ats_examples.proofs.Tests.{le_of, lt_of, eq_of, implied, either, all_by, pairs_pass, pairs_by, each_below}
use Rattle.ats_examples.proofs.Tests.{below_by}
use Rattle.ats_examples.proofs.ArrivalTest.{by_arrival, same_frames}
use Rattle.ats_examples.proofs.PortTest.{of_each, of_lt, tie_agrees, keeps_tie_by}

-- Tests of the parts of a legal run on closed networks and runs.

ne_of : (a b : ℕ) → a ≢ b → (a == b) ≡ false
ne_of a b h = grind (arith, nat_tests)

pub ascending_by : (xs : List ℕ) → pairs_pass nat_le xs ≡ true → IsNonDecreasing xs
ascending_by xs passed i j d before within =
    let pairs : AllPairs (λ (a b : ℕ). a ≤ b) xs = pairs_by (λ (a b : ℕ). a ≤ b) nat_le le_of xs passed in
    elim (cases_eq i j) [
      | inl same ↦ subst (λ (k : ℕ). get_or xs i d ≤ get_or xs k d) same (omega arith)
      | inr other ↦ pairs i j d (omega arith) within
    ]

-- the transmissions of each port pass a test
abbrev pub each_port_passes : (ℕ → List Transmission → Bool) → DeclaredNetwork → List Travel → Bool
each_port_passes test network run = each_below
    (λ p. test (port_at network.topology.ports p).ps_per_bit (sent_by network run p)) (length network.topology.ports)

pub each_port_by : (Rule : ℕ → List Transmission → Type 0) (test : ℕ → List Transmission → Bool)
    → ((ps : ℕ) (sent : List Transmission) → test ps sent ≡ true → Rule ps sent)
    → (network : DeclaredNetwork) (run : List Travel) → each_port_passes test network run ≡ true
    → EachPort Rule network run
each_port_by Rule test shows network run passed port within =
    shows (port_at network.topology.ports port).ps_per_bit (sent_by network run port)
    (below_by (λ p. test (port_at network.topology.ports p).ps_per_bit (sent_by network run p))
    (length network.topology.ports) passed port within)

-- crossings keep their times
abbrev pub in_time : ℕ → ℕ → Crossing → Bool
in_time least most x = nat_le (x.sent.end + least) x.arrival && nat_le x.arrival (x.sent.end + most)

in_time_by : (least most : ℕ) (x : Crossing) → in_time least most x ≡ true → ArrivesWithin least most x
in_time_by least most x h =
    let parts = and_parts (nat_le (x.sent.end + least) x.arrival) (nat_le x.arrival (x.sent.end + most)) h in
    record {
      earliest = le_of (x.sent.end + least) x.arrival parts.0;
      latest = le_of x.arrival (x.sent.end + most) parts.1;
    }

abbrev pub follows : Crossing → Crossing → Bool
follows x y = not (nat_lt x.sent.end y.sent.end) || nat_lt x.arrival y.arrival

follows_by : (x y : Crossing) → follows x y ≡ true → x.sent.end < y.sent.end → x.arrival < y.arrival
follows_by x y h before =
    lt_of x.arrival y.arrival
    (implied (nat_lt x.sent.end y.sent.end) (nat_lt x.arrival y.arrival) h (of_lt x.sent.end y.sent.end before))

abbrev pub keeps_times : ℕ → ℕ → List Crossing → Bool
keeps_times least most crossings =
    list_all (in_time least most) crossings && list_all (λ (x : Crossing). list_all (follows x) crossings) crossings

pub times_by : (least most : ℕ) (crossings : List Crossing) → keeps_times least most crossings ≡ true
    → KeepsTimes least most crossings
times_by least most crossings h =
    let each : Crossing → Bool = λ (x : Crossing). list_all (follows x) crossings in
    let parts = and_parts (list_all (in_time least most) crossings) (list_all each crossings) h in
    record {
      within = all_by (ArrivesWithin least most) (in_time least most) (in_time_by least most) crossings parts.0;
      order = all_by
          (λ (x : Crossing). All (λ (y : Crossing). x.sent.end < y.sent.end → x.arrival < y.arrival) crossings) each
          (λ x passed. all_by (λ (y : Crossing). x.sent.end < y.sent.end → x.arrival < y.arrival) (follows x)
          (follows_by x) crossings passed)
          crossings parts.1;
    }

-- each link keeps the link rule
abbrev pub keeps_link_rule : Port → List Crossing → Bool
keeps_link_rule port crossings = keeps_times port.earliest.0 port.latency.0 crossings

abbrev pub links_pass : DeclaredNetwork → List Travel → Bool
links_pass network run =
    each_below (λ p. keeps_link_rule (port_at network.topology.ports p) (crossings_by network run p))
    (length network.topology.ports)

pub links_by : (network : DeclaredNetwork) (run : List Travel) → links_pass network run ≡ true → (port : ℕ)
    → port < length network.topology.ports
    → KeepsLinkRule (port_at network.topology.ports port) (crossings_by network run port)
links_by network run passed port within =
    times_by (port_at network.topology.ports port).earliest.0 (port_at network.topology.ports port).latency.0
    (crossings_by network run port)
    (below_by (λ p. keeps_link_rule (port_at network.topology.ports p) (crossings_by network run p))
    (length network.topology.ports) passed port within)

-- the frames behind each port arrive by a pace
abbrev pub arrives_by_pace : (ℕ → ℕ → ℕ) → Port → List Crossing → Crossing → Bool
arrives_by_pace wait port crossings x =
    x.arrival
    == max (x.sent.end + port.earliest.0 + wait x.sent.frame (spread_of port)) (in_order_from x.sent.end crossings)

abbrev pub keeps_pace : (ℕ → ℕ → ℕ) → Port → List Crossing → Bool
keeps_pace wait port crossings = list_all (arrives_by_pace wait port crossings) crossings

pace_by : (wait : ℕ → ℕ → ℕ) (port : Port) (crossings : List Crossing) → keeps_pace wait port crossings ≡ true
    → KeepsPace wait port crossings
pace_by wait port crossings h =
    all_by (ArrivesByPace wait port crossings) (arrives_by_pace wait port crossings) (λ x. eq_of x.arrival
    (max (x.sent.end + port.earliest.0 + wait x.sent.frame (spread_of port)) (in_order_from x.sent.end crossings)))
    crossings h

abbrev pub paces_pass : (ℕ → ℕ → ℕ) → DeclaredNetwork → List Travel → Bool
paces_pass wait network run =
    each_below (λ p. keeps_pace wait (port_at network.topology.ports p) (crossings_by network run p))
    (length network.topology.ports)

pub paces_by : (wait : ℕ → ℕ → ℕ) (network : DeclaredNetwork) (run : List Travel) → paces_pass wait network run ≡ true
    → (port : ℕ) → port < length network.topology.ports
    → KeepsPace wait (port_at network.topology.ports port) (crossings_by network run port)
paces_by wait network run passed port within =
    pace_by wait (port_at network.topology.ports port) (crossings_by network run port)
    (below_by (λ p. keeps_pace wait (port_at network.topology.ports p) (crossings_by network run p))
    (length network.topology.ports) passed port within)

-- each port breaks its ties by the key
abbrev pub ties_pass : (ℕ → ℕ → ℕ) → DeclaredNetwork → List Travel → Bool
ties_pass key = each_port_passes (λ ps sent. of_each (tie_agrees key) sent)

pub ties_by : (key : ℕ → ℕ → ℕ) (network : DeclaredNetwork) (run : List Travel) → ties_pass key network run ≡ true
    → (port : ℕ) → port < length network.topology.ports → KeepsTie key (sent_by network run port)
ties_by key = each_port_by (λ ps sent. KeepsTie key sent) (λ ps sent. of_each (tie_agrees key) sent)
    (λ ps sent. keeps_tie_by key sent)

abbrev pub same_verdict : Verdict → Verdict → Bool
same_verdict (Eligible a) (Eligible b) = a.0 == b.0
same_verdict (Late a) (Late b) = a.0 == b.0
same_verdict Size Size = true
same_verdict v w = false

pub verdict_is : (v w : Verdict) → same_verdict v w ≡ true → v ≡ w
verdict_is (Eligible a) (Eligible b) h = ap (λ (t : ℕ). Eligible (record { 0 = t })) (eq_of a.0 b.0 h)
verdict_is (Eligible a) (Late b) h = absurd (false≢true h)
verdict_is (Eligible a) Size h = absurd (false≢true h)
verdict_is (Late a) (Eligible b) h = absurd (false≢true h)
verdict_is (Late a) (Late b) h = ap (λ (t : ℕ). Late (record { 0 = t })) (eq_of a.0 b.0 h)
verdict_is (Late a) Size h = absurd (false≢true h)
verdict_is Size (Eligible b) h = absurd (false≢true h)
verdict_is Size (Late b) h = absurd (false≢true h)
verdict_is Size Size h = refl

abbrev pub same_verdicts : List Verdict → List Verdict → Bool
same_verdicts [] [] = true
same_verdicts (v ∷ vs) (w ∷ ws) = same_verdict v w && same_verdicts vs ws
same_verdicts vs ws = false

verdicts_are : (vs ws : List Verdict) → same_verdicts vs ws ≡ true → vs ≡ ws
verdicts_are [] [] h = refl
verdicts_are [] (w ∷ ws) h = absurd (false≢true h)
verdicts_are (v ∷ vs) [] h = absurd (false≢true h)
verdicts_are (v ∷ vs) (w ∷ ws) h =
    let parts : (same_verdict v w ≡ true) × (same_verdicts vs ws ≡ true) =
    and_parts (same_verdict v w) (same_verdicts vs ws) h in
    let head : v ≡ w = verdict_is v w parts.0 in
    let tail : vs ≡ ws = verdicts_are vs ws parts.1 in
    cc

-- frames in the order of their arrivals get their group's verdicts
abbrev pub told_pass : DeclaredNetwork → ℕ → List Handed → Bool
told_pass network port handed =
    pairs_pass nat_le (map (λ (h : Handed). h.crossing.arrival) handed)
    && same_verdicts (map (λ (h : Handed). h.verdict) handed)
    (ats_judge (scheduled_by network port) (residence_of_groups network port) (map offer_of handed))

abbrev pub judged_pass : DeclaredNetwork → ℕ → List Handed → Bool
judged_pass network port handed = told_pass network port (by_arrival handed)

pub judged_by : (network : DeclaredNetwork) (port : ℕ) (handed : List Handed)
    → judged_pass network port handed ≡ true → IsJudged ats_judge network port handed
judged_by network port handed h =
    let sorted : List Handed = by_arrival handed in
    let times : List ℕ = map (λ (h : Handed). h.crossing.arrival) sorted in
    let told : List Verdict = map (λ (h : Handed). h.verdict) sorted in
    let due : List Verdict =
    ats_judge (scheduled_by network port) (residence_of_groups network port) (map offer_of sorted) in
    let parts : (pairs_pass nat_le times ≡ true) × (same_verdicts told due ≡ true) =
    and_parts (pairs_pass nat_le times) (same_verdicts told due) h in
    record {
      arrivals = sorted;
      same = same_frames handed;
      in_order = ascending_by times parts.0;
      verdicts = verdicts_are told due parts.1;
    }

-- the frame is of class 7, 6 or 5, or of class 0
abbrev pub is_of_known : Handed → Bool
is_of_known h =
    h.crossing.sent.class == 7
    || (h.crossing.sent.class == 6 || (h.crossing.sent.class == 5 || h.crossing.sent.class == 0))

no_class : (a b : ℕ) → a ≡ 0 → a ≡ b → 1 ≤ b → ⊥
no_class a b none same least = omega arith

and_false : (a b : Bool) → b ≡ false → (a && b) ≡ false
and_false true b h = h
and_false false b h = refl

-- so there is none of another class
no_others : (port class : ℕ) → 1 ≤ class → class ≢ 7 → class ≢ 6 → class ≢ 5 → (handed : List Handed)
    → list_all is_of_known handed ≡ true
    → filter (λ (h : Handed). h.crossing.port == port && h.crossing.sent.class == class) handed ≡ []
no_others port class least seven six five [] passed = refl
no_others port class least seven six five (h ∷ handed) passed =
    let parts : (is_of_known h ≡ true) × (list_all is_of_known handed ≡ true) =
    and_parts (is_of_known h) (list_all is_of_known handed) passed in
    let rest : filter (λ (k : Handed). k.crossing.port == port && k.crossing.sent.class == class) handed ≡ [] =
    no_others port class least seven six five handed parts.1 in
    let own : ℕ = h.crossing.sent.class in
    let differs : own ≢ class = λ same. elim (either (own == 7) (own == 6 || (own == 5 || own == 0)) parts.0) [
      | inl e ↦ seven (sym same ∙ eq_of own 7 e)
      | inr lower ↦ elim (either (own == 6) (own == 5 || own == 0) lower) [
        | inl e ↦ six (sym same ∙ eq_of own 6 e)
        | inr more ↦ elim (either (own == 5) (own == 0) more) [
          | inl e ↦ five (sym same ∙ eq_of own 5 e)
          | inr none ↦ absurd (no_class own class (eq_of own 0 none) same least)
        ]
      ]
    ] in
    let fails : (h.crossing.sent.class == class) ≡ false = ne_of h.crossing.sent.class class differs in
    let skipped : (h.crossing.port == port && h.crossing.sent.class == class) ≡ false =
    and_false (h.crossing.port == port) (h.crossing.sent.class == class) fails in
    rw skipped rest

-- each port's group of a class judges its frames
abbrev pub group_passes : DeclaredNetwork → List Travel → ℕ → ℕ → Bool
group_passes network run class p = judged_pass network p (handed_by network run p class)

-- of each class
abbrev pub groups_pass : DeclaredNetwork → List Travel → Bool
groups_pass network run =
    list_all is_of_known (handed_from network 0 run)
    && (each_below (group_passes network run 7) (length network.topology.ports)
    && (each_below (group_passes network run 6) (length network.topology.ports)
    && each_below (group_passes network run 5) (length network.topology.ports)))

pub groups_by : (network : DeclaredNetwork) (run : List Travel) → groups_pass network run ≡ true
    → (port class : ℕ) → port < length network.topology.ports → 1 ≤ class
    → IsJudged ats_judge network port (handed_by network run port class)
groups_by network run passed port class within least =
    let ports : ℕ = length network.topology.ports in
    let of_class : ℕ → Bool = λ c. each_below (group_passes network run c) ports in
    let parts = and_parts (list_all is_of_known (handed_from network 0 run))
    (of_class 7 && (of_class 6 && of_class 5)) passed in
    let first = and_parts (of_class 7) (of_class 6 && of_class 5) parts.1 in
    let each : (of_class 6 ≡ true) × (of_class 5 ≡ true) = and_parts (of_class 6) (of_class 5) first.1 in
    let judged : (c : ℕ) → of_class c ≡ true
    → IsJudged ats_judge network port (handed_by network run port c) =
    λ c h. judged_by network port (handed_by network run port c)
    (below_by (group_passes network run c) ports h port within) in
    elim (cases_eq class 7) [
      | inl same ↦ rw same (judged 7 first.0)
      | inr seven ↦ elim (cases_eq class 6) [
        | inl same ↦ rw same (judged 6 each.0)
        | inr six ↦ elim (cases_eq class 5) [
          | inl same ↦ rw same (judged 5 each.1)
          | inr five ↦ rw (no_others port class least seven six five (handed_from network 0 run) parts.0)
              (judged_by network port [] refl)
        ]
      ]
    ]

-- each flow's frame is judged by its size
abbrev pub flow_passes : DeclaredNetwork → Handed → Bool
flow_passes network h = same_verdict h.verdict (if is_declared_size (declared_by network h.crossing.sent.sender)
    h.crossing.octets then Eligible (record { 0 = h.crossing.arrival }) else Size)

abbrev pub flows_pass : DeclaredNetwork → List Travel → Bool
flows_pass network run =
    each_below (λ p. list_all (flow_passes network) (handed_by network run p 0)) (length network.topology.ports)

pub flows_by : (network : DeclaredNetwork) (run : List Travel) → flows_pass network run ≡ true → (port : ℕ)
    → port < length network.topology.ports → All (IsPassed network) (handed_by network run port 0)
flows_by network run passed port within =
    all_by (IsPassed network) (flow_passes network)
    (λ h. verdict_is h.verdict (if is_declared_size (declared_by network h.crossing.sent.sender) h.crossing.octets
    then Eligible (record { 0 = h.crossing.arrival }) else Size)) (handed_by network run port 0)
    (below_by (λ p. list_all (flow_passes network) (handed_by network run p 0)) (length network.topology.ports)
    passed port within)
