use Rattle.std.proofs.Common.{◌≡◌, ℕ, zero, suc, ◌+◌, ◌<◌, ◌≤◌, Bool, true, false, ◌&&◌, ◌||◌, cond}
use Rattle.std.proofs.Common.{List, [], ◌∷◌, length, map, get_or, All, refl, sym, ap, subst, arith}
use Rattle.std.proofs.Common.{lit<, lit≤}
use Rattle.std.specs.Prelude.{Contains, not, nat_le, nat_lt, ◌==◌}
use Rattle.std.proofs.lemmas.Bool.{and_from, and_parts, le-leb, ne_eqb}
use Rattle.std.proofs.lemmas.List.Elements.{All-cons, All-nil}
use Rattle.std.proofs.lemmas.List.Sorted.{IsPermutation-refl}
use Rattle.ats_clock.specs.Clock.{KeepsClock, declared_clock}
use Rattle.ats_clock_law.specs.TrueTime.{IsTrueEligibility}
use Rattle.ats_topology.specs.Port.{port_at}
use Rattle.ats_topology.specs.Topology.{node_at}
use Rattle.ats_network.specs.Network.{IsNetwork}
use Rattle.ats_network.specs.Senders.{sender_at}
use Rattle.ats_certificate.specs.Certificate.{Holds}
use Rattle.ats_group.specs.Judge.{ats_judge}
use Rattle.ats_group.specs.declared.verdict.Verdict.{Verdict}
use Rattle.ats_port_rule.specs.Transmission.{Transmission}
use Rattle.ats_port_rule.specs.PortRule.{IsAheadBy, KeepsPortRuleBy}
use Rattle.ats_trace.specs.Clocks.{IsJudgedBy, IsLegal, KeepsNodeClock, WasToldAtArrival, WasToldAtRelease}
use Rattle.ats_trace.specs.Eligibility.{IsJudged, offer_of, residence_of_groups, scheduled_by}
use Rattle.ats_trace.specs.Journey.{Travel}
use Rattle.ats_trace.specs.Parts.{copies, flows, in_order, links, octets, released, way}
use Rattle.ats_trace.specs.Projections.{Handed, handed_by, sent_by}
use Rattle.ats_trace.specs.Run.{IsIdeal, releases_of}
use Rattle.ats_trace.specs.Stored.{travel_at}
use Rattle.ats_trace.specs.Talker.{KeepsBuckets, talker_of}
use Rattle.ats_soundness_law.specs.Sound.{IsServed}
use Rattle.ats_soundness_law.proofs.TrueTime.{certificate_is_sound}
use Rattle.ats_examples.specs.ClockedRuns.{DeclaredRateIsLate, SlowClockIsLegal, held_until}
use Rattle.ats_examples.specs.ClockedRuns.{slow}
use Rattle.ats_examples.specs.ClockedRuns.{slow_line, slow_line_nodes, slow_line_rows}
use Rattle.ats_examples.specs.Networks.{line_links}
use Rattle.ats_certificate.specs.declared.row.Row.{Row}
use Rattle.ats_examples.specs.Rows.{line_rows, row_with}
use Rattle.ats_examples.proofs.BucketTest.{keeps_by}
use Rattle.ats_examples.proofs.ChangeProofs.{no_frame, time_in}
use Rattle.ats_examples.proofs.InOrder.{two_in_order}
use Rattle.ats_examples.proofs.LegalTest.{ascending_by}
use Rattle.ats_examples.proofs.NetworkTest.{network_by}
use Rattle.ats_examples.proofs.PartTest.{kept_by, legal_by}
use Rattle.ats_examples.proofs.PortTest.{all_apart_by, all_prompt_by, of_each, of_each_by, of_eq, of_lt, takes_by}
use Rattle.ats_examples.proofs.PortTest.{apart_pass, prompt_pass, takes_pass, waits_by, waits_pass}
use Rattle.ats_examples.proofs.RuleTest.{holds_by}
use Rattle.ats_examples.proofs.StationTest.{from_stations}
use Rattle.ats_examples.proofs.Tests.{implied, le_of}

-- A run by a slow clock.

abbrev run : List Travel
run = held_until 20546000

-- the times that the clocks of the nodes show, and those that they told the frames
abbrev clocks : ℕ → ℕ → ℕ
clocks zero t = t
clocks (suc zero) t = t
clocks (suc (suc zero)) t = slow t
clocks (suc (suc (suc node))) t = t

abbrev told : ℕ → ℕ → ℕ
told zero zero = 0
told zero (suc frame) = 6720000
told (suc zero) frame = 0
told (suc (suc zero)) zero = 13834616
told (suc (suc zero)) (suc frame) = 20543945
told (suc (suc (suc node))) frame = 0

slow_keeps : KeepsClock (declared_clock 100 8000) slow
slow_keeps = record {
  in_order = λ s t h. omega (arith, h);
  no_slower = λ s t h. omega (arith, h);
  no_faster = λ s t h. omega (arith, h);
}

each_keeps : (node : ℕ) → KeepsNodeClock (node_at slow_line.topology.nodes node).kind (clocks node)
each_keeps zero = λ t. refl
each_keeps (suc zero) = λ t. refl
each_keeps (suc (suc zero)) = slow_keeps
each_keeps (suc (suc (suc node))) = λ t. refl

-- when the clock shows the times that the frames were told
first_eligible : IsTrueEligibility slow 13836000 13834616 13836000
first_eligible = record { arrived = lit≤ tt; shown = lit≤ tt; least = λ t after shown. after }

later_eligible : IsTrueEligibility slow 14508000 20543945 20546000
later_eligible = record { arrived = lit≤ tt; shown = lit≤ tt; least = λ t after shown. omega (arith, shown) }

late_eligible : IsTrueEligibility slow 14508000 20554616 20556672
late_eligible = record { arrived = lit≤ tt; shown = lit≤ tt; least = λ t after shown. omega (arith, shown) }

-- a test of the port rule by told times
abbrev chosen_told : (Transmission → ℕ) → Transmission → Transmission → Bool
chosen_told by x y =
    not (nat_lt x.start y.start && nat_le y.eligible x.start)
    || (nat_le y.class x.class && (not (x.class == y.class) || nat_le (by x) (by y)))

chosen_by : (by : Transmission → ℕ) (x y : Transmission) → chosen_told by x y ≡ true → x.start < y.start
    → y.eligible ≤ x.start → IsAheadBy by x y
chosen_by by x y h before eligible =
    let ahead = implied (nat_lt x.start y.start && nat_le y.eligible x.start) _ h
    (and_from (nat_lt x.start y.start) (nat_le y.eligible x.start) (of_lt x.start y.start before)
    (le-leb y.eligible x.start eligible)) in
    let parts = and_parts (nat_le y.class x.class) (not (x.class == y.class) || nat_le (by x) (by y)) ahead in
    record {
      class = le_of y.class x.class parts.0;
      no_later = λ same. le_of (by x) (by y)
          (implied (x.class == y.class) (nat_le (by x) (by y)) parts.1 (of_eq x.class y.class same));
    }

keeps_rule : (by : Transmission → ℕ) (sent : List Transmission) → waits_pass 1000 sent ≡ true
    → takes_pass 1000 sent ≡ true → apart_pass 1000 sent ≡ true → of_each (chosen_told by) sent ≡ true
    → prompt_pass 1000 sent ≡ true → KeepsPortRuleBy by 1000 sent
keeps_rule by sent waits takes apart chosen prompt = record {
  waits = waits_by 1000 sent waits;
  takes = takes_by 1000 sent takes;
  apart = all_apart_by 1000 sent apart;
  chosen = of_each_by (λ (x y : Transmission). x.start < y.start → y.eligible ≤ x.start → IsAheadBy by x y)
      (chosen_told by) (chosen_by by) sent chosen;
  prompt = all_prompt_by 1000 sent prompt;
}

ports_keep : (port : ℕ) → port < length slow_line.topology.ports
    → KeepsPortRuleBy (λ (x : Transmission). told (port_at slow_line.topology.ports port).from x.frame)
    (port_at slow_line.topology.ports port).ps_per_bit (sent_by slow_line run port)
ports_keep zero within = keeps_rule (λ x. told 0 x.frame) (sent_by slow_line run 0) refl refl refl refl refl
ports_keep (suc zero) within = keeps_rule (λ x. told 2 x.frame) (sent_by slow_line run 1) refl refl refl refl refl
ports_keep (suc (suc zero)) within =
    keeps_rule (λ x. told 2 x.frame) (sent_by slow_line run 2) refl refl refl refl refl
ports_keep (suc (suc (suc zero))) within =
    keeps_rule (λ x. told 1 x.frame) (sent_by slow_line run 3) refl refl refl refl refl
ports_keep (suc (suc (suc (suc port)))) within = absurd (omega arith)

-- both frames as the station's port hands them on
abbrev both : List Handed
both = handed_by slow_line run 0 6

abbrev one : Handed
one = get_or both 0 no_frame

abbrev other : Handed
other = get_or both 1 no_frame

-- those of a port and a class
abbrev chosen_of : Bool → List Handed
chosen_of test = cond test (one ∷ cond test (other ∷ []) []) (cond test (other ∷ []) [])

none_judged : (port : ℕ)
    → IsJudgedBy (clocks (port_at slow_line.topology.ports port).to) (told (port_at slow_line.topology.ports port).to)
    slow_line port []
none_judged port =
    record { arrivals = []; same = IsPermutation-refl []; in_order = ascending_by [] refl; verdicts = tt; times = tt }

both_judged : (test : Bool) → IsJudgedBy slow (told 2) slow_line 0 (chosen_of test)
both_judged true = record {
  arrivals = both;
  same = IsPermutation-refl both;
  in_order = ascending_by (map (λ (h : Handed). h.crossing.arrival) both) refl;
  verdicts = ((record { 0 = 13836000 }, refl, first_eligible), ((record { 0 = 20546000 }, refl, later_eligible), tt));
  times = (refl, (refl, tt));
}
both_judged false = none_judged 0

groups_judge : (port class : ℕ) → port < length slow_line.topology.ports → 1 ≤ class
    → IsJudgedBy (clocks (port_at slow_line.topology.ports port).to) (told (port_at slow_line.topology.ports port).to)
    slow_line port (handed_by slow_line run port class)
groups_judge zero class within least = both_judged (6 == class)
groups_judge (suc port) class within least =
    let elsewhere : (0 == suc port) ≡ false = ne_eqb 0 (suc port) (λ same. absurd (omega (arith, same))) in
    let none : handed_by slow_line run (suc port) class ≡ [] =
    ap (λ (here : Bool). chosen_of (here && 6 == class)) elsewhere in
    subst (IsJudgedBy (clocks (port_at slow_line.topology.ports (suc port)).to)
    (told (port_at slow_line.topology.ports (suc port)).to) slow_line (suc port)) (sym none) (none_judged (suc port))

and_false : (a : Bool) → (a && false) ≡ false
and_false true = refl
and_false false = refl

no_flow : (port : ℕ) → handed_by slow_line run port 0 ≡ []
no_flow port = ap chosen_of (and_false (0 == port))

own : (frame : ℕ) → frame < length run → WasToldAtRelease clocks told slow_line frame (travel_at run frame).release
own zero within = refl
own (suc zero) within = refl
own (suc (suc frame)) within = absurd (omega arith)

legal : IsLegal slow_line run
legal = record {
  in_order = kept_by in_order slow_line run refl;
  journeys = λ k d within. record {
    sender = (kept_by way slow_line run refl k d within).0;
    octets = kept_by octets slow_line run refl k d within;
    way = (kept_by way slow_line run refl k d within).1;
    released = kept_by released slow_line run refl k d within;
    copies = kept_by copies slow_line run refl k d within;
  };
  clocks = clocks;
  keeps = each_keeps;
  told = told;
  own = own;
  ports = ports_keep;
  links = kept_by links slow_line run refl;
  groups = groups_judge;
  flows = kept_by flows slow_line run refl;
  passed = λ port within. (
      let node : ℕ = (port_at slow_line.topology.ports port).to in
      subst (All (WasToldAtArrival (clocks node) (told node))) (sym (no_flow port))
      (All-nil (WasToldAtArrival (clocks node) (told node))));
}

-- by true time the second frame would be eligible sooner
not_ideal : ¬ IsIdeal slow_line run
not_ideal ideal =
    let judged : IsJudged ats_judge slow_line 0 both = ideal.groups 0 6 (lit< tt) (lit≤ tt) in
    let same : judged.arrivals ≡ both =
    two_in_order (λ (h : Handed). h.crossing.arrival) one other judged.arrivals (lit< tt) judged.same judged.in_order in
    let verdicts : map (λ (h : Handed). h.verdict) both ≡ ats_judge (scheduled_by slow_line 0)
    (residence_of_groups slow_line 0) (map offer_of both) =
    subst (λ (handed : List Handed). map (λ (h : Handed). h.verdict) handed ≡ ats_judge (scheduled_by slow_line 0)
    (residence_of_groups slow_line 0) (map offer_of handed)) same judged.verdicts in
    let sooner : ◌≡◌ {A = ℕ} 20546000 20545329 = ap (λ (vs : List Verdict). get_or (map time_in vs) 1 0) verdicts in
    absurd (omega arith)

is_network : IsNetwork slow_line
is_network = network_by slow_line_nodes line_links slow_line.streams [] refl refl

holds : Holds slow_line slow_line_rows
holds = holds_by slow_line slow_line_rows refl refl

keeps : KeepsBuckets slow_line (releases_of run) (talker_of slow_line 0)
keeps = keeps_by slow_line (releases_of run) (talker_of slow_line 0) refl refl

serve : (j : Travel) → Contains run j → j.release.sender ≡ 0 → IsServed slow_line_rows (sender_at slow_line 0) j
serve j there is =
    let Served : ℕ → Type 0 = λ (i : ℕ). KeepsBuckets slow_line (releases_of run) (talker_of slow_line i)
    → IsServed slow_line_rows (sender_at slow_line i) j in
    subst Served is ((from_stations slow_line slow_line_rows refl
    (certificate_is_sound slow_line slow_line_rows is_network holds)).served run legal j there
    (subst (λ (i : ℕ). i < 1) (sym is) (lit< tt))) keeps

pub slow_clock_is_legal : SlowClockIsLegal
unfolding legal
slow_clock_is_legal = record {
  network = is_network;
  holds = holds;
  keeps_clock = slow_keeps;
  legal = legal;
  by_clock = λ t. refl;
  not_ideal = not_ideal;
  ideal = legal_by slow_line (held_until 20545329) refl;
  keeps = keeps;
  served = All-cons (IsServed slow_line_rows (sender_at slow_line 0)) (travel_at run 0) (travel_at run 1 ∷ [])
      (serve (travel_at run 0) (0, lit< tt, refl) refl)
      (All-cons (IsServed slow_line_rows (sender_at slow_line 0)) (travel_at run 1) []
      (serve (travel_at run 1) (1, lit< tt, refl) refl) (All-nil (IsServed slow_line_rows (sender_at slow_line 0))));
}

late : ¬ IsServed slow_line_rows (sender_at slow_line 0) (travel_at (held_until 20556672) 1)
late served =
    let over : 20556672 ≤ 6720000 + 13836000 = (served 0 (lit< tt)).prompt.1.0 in
    absurd (omega arith)

not_held : ¬ Holds slow_line line_rows
not_held held =
    let sum : ◌≡◌ {A = ℕ} 12336 12338 = (held.each 1 no_row (lit< tt)).covers.sums.bursts in
    absurd (omega arith)
  where
    no_row : Row
    no_row = row_with 0 0 0 0 0 0 0 0 0

pub declared_rate_is_late : DeclaredRateIsLate
declared_rate_is_late = record {
  verdicts = ((record { 0 = 13836000 }, refl, first_eligible), ((record { 0 = 20556672 }, refl, late_eligible), tt));
  not_served = late;
  not_held = not_held;
}
