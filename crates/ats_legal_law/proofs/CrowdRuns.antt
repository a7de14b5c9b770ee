use Rattle.std.proofs.Common.{◌≡◌, ℕ, zero, suc, ◌+◌, ◌*◌, ◌<◌, ◌≤◌, Bool, true, false, ◌&&◌, List, [], ◌∷◌, length}
use Rattle.std.proofs.Common.{map, filter, All, refl, sym, ap, ◌∙◌, subst, arith, lit<, lit≤}
use Rattle.std.specs.Prelude.{◌==◌, ◌≢◌}
use Rattle.std.proofs.lemmas.Bool.{ne_eqb}
use Rattle.std.proofs.lemmas.List.Elements.{All-nil, All-cons, All-filter}
use Rattle.std.proofs.lemmas.List.Sorted.{IsPermutation-refl}
use Rattle.ats_topology.specs.Port.{port_at}
use Rattle.ats_port_rule.specs.Transmission.{Transmission}
use Rattle.ats_port_rule.specs.PortRule.{KeepsPortRule}
use Rattle.ats_group.specs.Judge.{ats_judge}
use Rattle.ats_group.specs.declared.verdict.Verdict.TheVariants.{Eligible}
use Rattle.ats_trace.specs.Journey.{Travel, IsJourney}
use Rattle.ats_trace.specs.Projections.{Hop, Crossing, Handed, hops_from, crossings_from, handed_from, sent_by}
use Rattle.ats_trace.specs.Projections.{crossings_by, handed_by}
use Rattle.ats_trace.specs.Links.{ArrivesWithin, KeepsLinkRule, KeepsTimes}
use Rattle.ats_trace.specs.Eligibility.{IsJudged, IsPassed}
use Rattle.ats_trace.specs.Run.{releases_of}
use Rattle.ats_trace.specs.declared.journey.Release.{Release}
use Rattle.ats_examples.specs.Networks.{line_and_flow}
use Rattle.ats_examples.proofs.NetworkProofs.{with_flow_is}
use Rattle.ats_legal_law.specs.Crowd.{frame_ps, in_crowd, crowd_from, CrowdsAreLegal}
use Rattle.ats_legal_law.proofs.ListFacts.{of_pairs}
use Rattle.ats_legal_law.proofs.Rows.{row, length-row, all_row, IsRow, rule_of_row}

-- Runs with any number of frames at once.

-- the transmissions of a frame at the station and at the bridge

abbrev at_station : ℕ → Transmission
at_station k = record {
  frame = k;
  sender = 1;
  class = 0;
  bits = 12336;
  eligible = 0;
  start = k * frame_ps;
  end = k * frame_ps + 12336000;
}

abbrev at_bridge : ℕ → Transmission
at_bridge k = record {
  frame = k;
  sender = 1;
  class = 0;
  bits = 12336;
  eligible = k * frame_ps + 13836000;
  start = k * frame_ps + 13836000;
  end = k * frame_ps + 26172000;
}

-- its crossings, and how it came to the bridge

abbrev to_bridge : ℕ → Crossing
to_bridge k =
    record { port = 0; octets = 1522; came = 0; sent = at_station k; arrival = k * frame_ps + 13836000 }

abbrev to_listener : ℕ → Crossing
to_listener k = record {
  port = 2;
  octets = 1522;
  came = k * frame_ps + 13836000;
  sent = at_bridge k;
  arrival = k * frame_ps + 26672000;
}

abbrev given : ℕ → Handed
given k = record { crossing = to_bridge k; verdict = Eligible (record { 0 = k * frame_ps + 13836000 }) }

-- so what each port sends, what crosses it and what it hands on

abbrev sent_from : ℕ → ℕ → ℕ → List Transmission
sent_from k n port = map (λ (h : Hop). h.sent)
    (filter (λ (h : Hop). h.port == port) (hops_from line_and_flow k (crowd_from k n)))

abbrev crossed_from : ℕ → ℕ → ℕ → List Crossing
crossed_from k n port = filter (λ (c : Crossing). c.port == port) (crossings_from line_and_flow k (crowd_from k n))

abbrev given_from : ℕ → ℕ → ℕ → ℕ → List Handed
given_from k n port class = filter (λ (h : Handed). h.crossing.port == port && h.crossing.sent.class == class)
    (handed_from line_and_flow k (crowd_from k n))

sent_0 : (k n : ℕ) → sent_from k n 0 ≡ row at_station k n
sent_0 k zero = refl
sent_0 k (suc n) = ap (λ (l : List Transmission). at_station k ∷ l) (sent_0 (k + 1) n)

sent_1 : (k n : ℕ) → sent_from k n 1 ≡ []
sent_1 k zero = refl
sent_1 k (suc n) = sent_1 (k + 1) n

sent_2 : (k n : ℕ) → sent_from k n 2 ≡ row at_bridge k n
sent_2 k zero = refl
sent_2 k (suc n) = ap (λ (l : List Transmission). at_bridge k ∷ l) (sent_2 (k + 1) n)

sent_3 : (k n : ℕ) → sent_from k n 3 ≡ []
sent_3 k zero = refl
sent_3 k (suc n) = sent_3 (k + 1) n

crossed_0 : (k n : ℕ) → crossed_from k n 0 ≡ row to_bridge k n
crossed_0 k zero = refl
crossed_0 k (suc n) = ap (λ (l : List Crossing). to_bridge k ∷ l) (crossed_0 (k + 1) n)

crossed_1 : (k n : ℕ) → crossed_from k n 1 ≡ []
crossed_1 k zero = refl
crossed_1 k (suc n) = crossed_1 (k + 1) n

crossed_2 : (k n : ℕ) → crossed_from k n 2 ≡ row to_listener k n
crossed_2 k zero = refl
crossed_2 k (suc n) = ap (λ (l : List Crossing). to_listener k ∷ l) (crossed_2 (k + 1) n)

crossed_3 : (k n : ℕ) → crossed_from k n 3 ≡ []
crossed_3 k zero = refl
crossed_3 k (suc n) = crossed_3 (k + 1) n

given_0 : (k n : ℕ) → given_from k n 0 0 ≡ row given k n
given_0 k zero = refl
given_0 k (suc n) = ap (λ (l : List Handed). given k ∷ l) (given_0 (k + 1) n)

-- a frame that was handed on is one of the flow, and port 0 handed it on
all_given : (k n : ℕ) → handed_from line_and_flow k (crowd_from k n) ≡ row given k n
all_given k zero = refl
all_given k (suc n) = ap (λ (l : List Handed). given k ∷ l) (all_given (k + 1) n)

and_false : (a b : Bool) → b ≡ false → (a && b) ≡ false
and_false true b e = e
and_false false b e = refl

none_kept : {X : Type 0} (test : X → Bool) (f : ℕ → X) (k n : ℕ) → ((i : ℕ) → test (f i) ≡ false)
    → filter test (row f k n) ≡ []
none_kept test f k zero fails = refl
none_kept test f k (suc n) fails = rw (fails k) (none_kept test f (k + 1) n fails)

no_class : (port class n : ℕ) → 1 ≤ class → handed_by line_and_flow (crowd_from 0 n) port class ≡ []
no_class port class n least =
    let test = λ (h : Handed). h.crossing.port == port && h.crossing.sent.class == class in
    let differs : 0 ≢ class = λ same. absurd (omega arith) in
    ap (filter test) (all_given 0 n)
    ∙ none_kept test given 0 n (λ i. and_false (0 == port) (0 == class) (ne_eqb 0 class differs))

station_row : IsRow 1000 at_station
station_row = record {
  waits = λ i. omega arith;
  takes = λ i. omega arith;
  apart = λ i j before. omega arith;
  chosen = λ i j before eligible. record { class = omega arith; no_later = λ same. omega arith };
  first = λ j before. omega arith;
  prompt = λ i j differs before. absurd (differs (omega arith));
}

bridge_row : IsRow 1000 at_bridge
bridge_row = record {
  waits = λ i. omega arith;
  takes = λ i. omega arith;
  apart = λ i j before. omega arith;
  chosen = λ i j before eligible. absurd (omega arith);
  first = λ j before. before;
  prompt = λ i j differs before. before;
}

no_rule : (ps : ℕ) → KeepsPortRule ps []
no_rule ps = record {
  waits = λ k d h. absurd (omega arith);
  takes = λ k d h. absurd (omega arith);
  apart = λ i j d before inside. absurd (omega arith);
  chosen = λ k d h. absurd (omega arith);
  prompt = λ k d h. absurd (omega arith);
}

no_times : (least most : ℕ) → KeepsTimes least most []
no_times least most = record { within = λ k d h. absurd (omega arith); order = λ k d h. absurd (omega arith) }

times_of_row : (least most : ℕ) (f : ℕ → Crossing) (n : ℕ) → ((i : ℕ) → ArrivesWithin least most (f i))
    → ((i j : ℕ) → (f i).sent.end < (f j).sent.end → (f i).arrival < (f j).arrival)
    → KeepsTimes least most (row f 0 n)
times_of_row least most f n within order = record {
  within = all_row (ArrivesWithin least most) f 0 n (λ i from to. within i);
  order = all_row (λ (x : Crossing). All (λ (y : Crossing). x.sent.end < y.sent.end → x.arrival < y.arrival)
      (row f 0 n)) f 0 n
      (λ i from to. all_row (λ (y : Crossing). (f i).sent.end < y.sent.end → (f i).arrival < y.arrival) f 0 n
      (λ j after below. order i j));
}

ports_keep : (n port : ℕ) → port < length line_and_flow.topology.ports
    → KeepsPortRule (port_at line_and_flow.topology.ports port).ps_per_bit (sent_by line_and_flow (crowd_from 0 n) port)
ports_keep n zero within =
    subst (KeepsPortRule 1000) (sym (sent_0 0 n)) (rule_of_row 1000 at_station n station_row)
ports_keep n (suc zero) within = subst (KeepsPortRule 1000) (sym (sent_1 0 n)) (no_rule 1000)
ports_keep n (suc (suc zero)) within =
    subst (KeepsPortRule 1000) (sym (sent_2 0 n)) (rule_of_row 1000 at_bridge n bridge_row)
ports_keep n (suc (suc (suc zero))) within = subst (KeepsPortRule 1000) (sym (sent_3 0 n)) (no_rule 1000)
ports_keep n (suc (suc (suc (suc port)))) within = absurd (omega arith)

links_keep : (n port : ℕ) → port < length line_and_flow.topology.ports
    → KeepsLinkRule (port_at line_and_flow.topology.ports port) (crossings_by line_and_flow (crowd_from 0 n) port)
links_keep n zero within =
    subst (KeepsTimes 1500000 1500000) (sym (crossed_0 0 n))
    (times_of_row 1500000 1500000 to_bridge n (λ i. record { earliest = omega arith; latest = omega arith })
    (λ i j before. omega arith))
links_keep n (suc zero) within = subst (KeepsTimes 500000 500000) (sym (crossed_1 0 n)) (no_times 500000 500000)
links_keep n (suc (suc zero)) within =
    subst (KeepsTimes 500000 500000) (sym (crossed_2 0 n))
    (times_of_row 500000 500000 to_listener n (λ i. record { earliest = omega arith; latest = omega arith })
    (λ i j before. omega arith))
links_keep n (suc (suc (suc zero))) within =
    subst (KeepsTimes 1500000 1500000) (sym (crossed_3 0 n)) (no_times 1500000 1500000)
links_keep n (suc (suc (suc (suc port)))) within = absurd (omega arith)

none_judged : (port : ℕ) → IsJudged ats_judge line_and_flow port []
none_judged port = record {
  arrivals = [];
  same = IsPermutation-refl [];
  in_order = λ i j d before inside. absurd (omega arith);
  verdicts = refl;
}

-- each frame of the flow is passed on at its arrival, by whatever port it came
all_passed : (port n : ℕ) → All (IsPassed line_and_flow) (handed_by line_and_flow (crowd_from 0 n) port 0)
all_passed port n =
    let test = λ (h : Handed). h.crossing.port == port && h.crossing.sent.class == 0 in
    subst (λ (l : List Handed). All (IsPassed line_and_flow) (filter test l)) (sym (all_given 0 n))
    (All-filter test (IsPassed line_and_flow) (row given 0 n)
    (all_row (IsPassed line_and_flow) given 0 n (λ i from to. refl)))

crowd_is_row : (k n : ℕ) → crowd_from k n ≡ row in_crowd k n
crowd_is_row k zero = refl
crowd_is_row k (suc n) = ap (λ (l : List Travel). in_crowd k ∷ l) (crowd_is_row (k + 1) n)

one_journey : (k : ℕ) → IsJourney line_and_flow (in_crowd k)
one_journey k = record {
  sender = lit< tt;
  octets = record { least = lit≤ tt; most = lit≤ tt };
  way = tt;
  released = (refl, refl);
  copies = tt;
}

all_at_once : (k n : ℕ) → All (λ (r : Release). r.at.0 ≡ 0) (releases_of (crowd_from k n))
all_at_once k zero = All-nil (λ (r : Release). r.at.0 ≡ 0)
all_at_once k (suc n) =
    All-cons (λ (r : Release). r.at.0 ≡ 0) (in_crowd k).release (releases_of (crowd_from (k + 1) n)) refl
    (all_at_once (k + 1) n)

pub crowds_are_legal : CrowdsAreLegal
crowds_are_legal = record {
  network = with_flow_is;
  legal = λ n. record {
    in_order = of_pairs (λ (r : Release). r.at.0) (releases_of (crowd_from 0 n))
        (λ i j d before within.
        (let a = all_at_once 0 n i d (omega arith) in let b = all_at_once 0 n j d within in omega (arith, a, b)));
    journeys = subst (All (IsJourney line_and_flow)) (sym (crowd_is_row 0 n))
        (all_row (IsJourney line_and_flow) in_crowd 0 n (λ i from to. one_journey i));
    ports = ports_keep n;
    links = links_keep n;
    groups = λ port class within least.
        subst (IsJudged ats_judge line_and_flow port) (sym (no_class port class n least)) (none_judged port);
    flows = λ port within. all_passed port n;
  };
  long = λ n. ap (λ (l : List Travel). length l) (crowd_is_row 0 n) ∙ length-row in_crowd 0 n;
  at_once = all_at_once 0;
  waits = λ n. subst (All (λ (x : Transmission). (x.eligible ≡ 0) × (x.start ≡ x.frame * frame_ps))) (sym (sent_0 0 n))
      (all_row (λ (x : Transmission). (x.eligible ≡ 0) × (x.start ≡ x.frame * frame_ps)) at_station 0 n
      (λ i from to. (refl, refl)));
}
