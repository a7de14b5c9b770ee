use Rattle.std.proofs.Common.{◌≡◌, ℕ, zero, suc, ◌+◌, ◌*◌, ◌<◌, ◌≤◌, Bool, true, false, ◌&&◌, List, [], ◌∷◌, length}
use Rattle.std.proofs.Common.{map, filter, All, ◌⊎◌, inl, inr, refl, sym, ap, ◌∙◌, subst, arith, lit<, lit≤}
use Rattle.std.proofs.Common.{mul-le-mul_left, mul-le-mul_right}
use Rattle.std.specs.Prelude.{◌==◌, ◌≢◌}
use Rattle.std.specs.List.Sorted.{IsNonDecreasing}
use Rattle.std.proofs.lemmas.Bool.{cases_eq, false≢true, ne_eqb}
use Rattle.std.proofs.lemmas.List.{length-map}
use Rattle.std.proofs.lemmas.List.Elements.{All-nil}
use Rattle.std.proofs.lemmas.List.Sorted.{IsPermutation-refl}
use Rattle.ats_topology.specs.Port.{port_at}
use Rattle.ats_port_rule.specs.PortRule.{KeepsPortRule}
use Rattle.ats_port_rule.specs.Transmission.{Transmission}
use Rattle.ats_group.specs.Judge.{ats_judge}
use Rattle.ats_group.specs.Group.{Offer}
use Rattle.ats_trace.specs.Eligibility.{IsJudged, IsPassed, offer_of, scheduled_by}
use Rattle.ats_trace.specs.Journey.{IsJourney, Travel}
use Rattle.ats_trace.specs.Links.{ArrivesWithin, KeepsLinkRule, KeepsTimes}
use Rattle.ats_trace.specs.Projections.{Crossing, Handed, Hop, crossings_by, crossings_from, handed_by, handed_from}
use Rattle.ats_trace.specs.Projections.{hops_from, sent_by}
use Rattle.ats_trace.specs.Releases.{AreReleases}
use Rattle.ats_trace.specs.Run.{releases_of}
use Rattle.ats_trace.specs.declared.journey.Release.{Release}
use Rattle.ats_trace.specs.declared.run.TheConstants.{MAX_FRAMES}
use Rattle.ats_examples.specs.Networks.{line_links, line_nodes}
use Rattle.ats_examples.proofs.NetworkTest.{network_by}
use Rattle.ats_legal_law.proofs.ListFacts.{of_pairs}
use Rattle.ats_legal_law.proofs.Rows.{IsRow, all_row, length-row, pairs_row, row, rule_of_row}
use Rattle.ats_steady_law.specs.Steady.{IsBusy, SteadyIsLegal, frame_ps, steady_frame, steady_from, steady_line}
use Rattle.ats_steady_law.proofs.SteadyGroup.{each_eligible, eligible_at, map-row}
use Rattle.ats_steady_law.proofs.SteadyTalker.{release_at, releases_are, talker_keeps}

-- Runs of a stream in which the network never rests.

-- the transmissions of a frame at the station and at the bridge
abbrev at_station : ℕ → ℕ → Transmission
at_station gap k = record {
  frame = k;
  sender = 0;
  class = 6;
  bits = 672;
  eligible = k * gap;
  start = k * frame_ps;
  end = k * frame_ps + 672000;
}

abbrev at_bridge : ℕ → Transmission
at_bridge k = record {
  frame = k;
  sender = 0;
  class = 6;
  bits = 672;
  eligible = k * frame_ps + 2172000;
  start = k * frame_ps + 2172000;
  end = k * frame_ps + 2844000;
}

-- its crossings, and how it came to the bridge
abbrev to_bridge : ℕ → ℕ → Crossing
to_bridge gap k =
    record { port = 0; octets = 64; came = k * gap; sent = at_station gap k; arrival = k * frame_ps + 2172000 }

abbrev to_listener : ℕ → Crossing
to_listener k = record {
  port = 2;
  octets = 64;
  came = k * frame_ps + 2172000;
  sent = at_bridge k;
  arrival = k * frame_ps + 3344000;
}

abbrev given : ℕ → ℕ → Handed
given gap k = record { crossing = to_bridge gap k; verdict = eligible_at k }

-- so what each port sends, what crosses it and what it hands on
abbrev sent_from : ℕ → ℕ → ℕ → ℕ → List Transmission
sent_from gap k n port = map (λ (h : Hop). h.sent)
    (filter (λ (h : Hop). h.port == port) (hops_from steady_line k (steady_from gap k n)))

abbrev crossed_from : ℕ → ℕ → ℕ → ℕ → List Crossing
crossed_from gap k n port =
    filter (λ (c : Crossing). c.port == port) (crossings_from steady_line k (steady_from gap k n))

sent_0 : (gap k n : ℕ) → sent_from gap k n 0 ≡ row (at_station gap) k n
sent_0 gap k zero = refl
sent_0 gap k (suc n) = ap (λ (l : List Transmission). at_station gap k ∷ l) (sent_0 gap (k + 1) n)

sent_1 : (gap k n : ℕ) → sent_from gap k n 1 ≡ []
sent_1 gap k zero = refl
sent_1 gap k (suc n) = sent_1 gap (k + 1) n

sent_2 : (gap k n : ℕ) → sent_from gap k n 2 ≡ row at_bridge k n
sent_2 gap k zero = refl
sent_2 gap k (suc n) = ap (λ (l : List Transmission). at_bridge k ∷ l) (sent_2 gap (k + 1) n)

sent_3 : (gap k n : ℕ) → sent_from gap k n 3 ≡ []
sent_3 gap k zero = refl
sent_3 gap k (suc n) = sent_3 gap (k + 1) n

crossed_0 : (gap k n : ℕ) → crossed_from gap k n 0 ≡ row (to_bridge gap) k n
crossed_0 gap k zero = refl
crossed_0 gap k (suc n) = ap (λ (l : List Crossing). to_bridge gap k ∷ l) (crossed_0 gap (k + 1) n)

crossed_1 : (gap k n : ℕ) → crossed_from gap k n 1 ≡ []
crossed_1 gap k zero = refl
crossed_1 gap k (suc n) = crossed_1 gap (k + 1) n

crossed_2 : (gap k n : ℕ) → crossed_from gap k n 2 ≡ row to_listener k n
crossed_2 gap k zero = refl
crossed_2 gap k (suc n) = ap (λ (l : List Crossing). to_listener k ∷ l) (crossed_2 gap (k + 1) n)

crossed_3 : (gap k n : ℕ) → crossed_from gap k n 3 ≡ []
crossed_3 gap k zero = refl
crossed_3 gap k (suc n) = crossed_3 gap (k + 1) n

-- a frame that was handed on is one of the stream, and port 0 handed it on
all_given : (gap k n : ℕ) → handed_from steady_line k (steady_from gap k n) ≡ row (given gap) k n
all_given gap k zero = refl
all_given gap k (suc n) = ap (λ (l : List Handed). given gap k ∷ l) (all_given gap (k + 1) n)

abbrev is_of : ℕ → ℕ → Handed → Bool
is_of port class h = h.crossing.port == port && h.crossing.sent.class == class

and_false : (a b : Bool) → b ≡ false → (a && b) ≡ false
and_false true b e = e
and_false false b e = refl

false_and : (a b : Bool) → a ≡ false → (a && b) ≡ false
false_and true b e = absurd (false≢true (sym e))
false_and false b e = refl

none_kept : {X : Type 0} (test : X → Bool) (f : ℕ → X) (k n : ℕ) → ((i : ℕ) → test (f i) ≡ false)
    → filter test (row f k n) ≡ []
none_kept test f k zero fails = refl
none_kept test f k (suc n) fails = rw (fails k) (none_kept test f (k + 1) n fails)

all_kept : {X : Type 0} (test : X → Bool) (f : ℕ → X) (k n : ℕ) → ((i : ℕ) → test (f i) ≡ true)
    → filter test (row f k n) ≡ row f k n
all_kept test f k zero passes = refl
all_kept {X} test f k (suc n) passes =
    rw (passes k) (ap (λ (l : List X). f k ∷ l) (all_kept test f (k + 1) n passes))

none_given : (gap n port class : ℕ) → ((i : ℕ) → is_of port class (given gap i) ≡ false)
    → handed_by steady_line (steady_from gap 0 n) port class ≡ []
none_given gap n port class fails =
    ap (filter (is_of port class)) (all_given gap 0 n) ∙ none_kept (is_of port class) (given gap) 0 n fails

given_there : (gap n : ℕ) → handed_by steady_line (steady_from gap 0 n) 0 6 ≡ row (given gap) 0 n
given_there gap n = ap (filter (is_of 0 6)) (all_given gap 0 n) ∙ all_kept (is_of 0 6) (given gap) 0 n (λ i. refl)

station_row : (gap : ℕ) → gap ≤ frame_ps → IsRow 1000 (at_station gap)
station_row gap short = record {
  waits = λ i. mul-le-mul_left i short;
  takes = λ i. omega arith;
  apart = λ i j before. omega arith;
  chosen = λ i j before eligible. record { class = omega arith; no_later = λ same. in_turn i j (omega arith) };
  first = λ j before. omega arith;
  prompt = λ i j differs before. absurd (differs (omega arith));
}
  where
    in_turn : (i j : ℕ) → i ≤ j → i * gap ≤ j * gap
    in_turn i j before = mul-le-mul_right gap before

bridge_row : IsRow 1000 at_bridge
bridge_row = record {
  waits = λ i. omega arith;
  takes = λ i. omega arith;
  apart = λ i j before. omega arith;
  chosen = λ i j before eligible. absurd (omega arith);
  first = λ j before. before;
  prompt = λ i j differs before. before;
}

no_rule : (ps : ℕ) → KeepsPortRule ps []
no_rule ps = record {
  waits = λ k d h. absurd (omega arith);
  takes = λ k d h. absurd (omega arith);
  apart = λ i j d before inside. absurd (omega arith);
  chosen = λ k d h. absurd (omega arith);
  prompt = λ k d h. absurd (omega arith);
}

no_times : (least most : ℕ) → KeepsTimes least most []
no_times least most = record { within = λ k d h. absurd (omega arith); order = λ k d h. absurd (omega arith) }

times_of_row : (least most : ℕ) (f : ℕ → Crossing) (n : ℕ) → ((i : ℕ) → ArrivesWithin least most (f i))
    → ((i j : ℕ) → (f i).sent.end < (f j).sent.end → (f i).arrival < (f j).arrival)
    → KeepsTimes least most (row f 0 n)
times_of_row least most f n within order = record {
  within = all_row (ArrivesWithin least most) f 0 n (λ i from to. within i);
  order = all_row (λ (x : Crossing). All (λ (y : Crossing). x.sent.end < y.sent.end → x.arrival < y.arrival)
      (row f 0 n)) f 0 n
      (λ i from to. all_row (λ (y : Crossing). (f i).sent.end < y.sent.end → (f i).arrival < y.arrival) f 0 n
      (λ j after below. order i j));
}

ports_keep : (gap n port : ℕ) → gap ≤ frame_ps → port < length steady_line.topology.ports
    → KeepsPortRule (port_at steady_line.topology.ports port).ps_per_bit
    (sent_by steady_line (steady_from gap 0 n) port)
ports_keep gap n zero short within =
    subst (KeepsPortRule 1000) (sym (sent_0 gap 0 n)) (rule_of_row 1000 (at_station gap) n (station_row gap short))
ports_keep gap n (suc zero) short within = subst (KeepsPortRule 1000) (sym (sent_1 gap 0 n)) (no_rule 1000)
ports_keep gap n (suc (suc zero)) short within =
    subst (KeepsPortRule 1000) (sym (sent_2 gap 0 n)) (rule_of_row 1000 at_bridge n bridge_row)
ports_keep gap n (suc (suc (suc zero))) short within = subst (KeepsPortRule 1000) (sym (sent_3 gap 0 n)) (no_rule 1000)
ports_keep gap n (suc (suc (suc (suc port)))) short within = absurd (omega arith)

links_keep : (gap n port : ℕ) → port < length steady_line.topology.ports
    → KeepsLinkRule (port_at steady_line.topology.ports port) (crossings_by steady_line (steady_from gap 0 n) port)
links_keep gap n zero within =
    subst (KeepsTimes 1500000 1500000) (sym (crossed_0 gap 0 n))
    (times_of_row 1500000 1500000 (to_bridge gap) n (λ i. record { earliest = omega arith; latest = omega arith })
    (λ i j before. omega arith))
links_keep gap n (suc zero) within = subst (KeepsTimes 500000 500000) (sym (crossed_1 gap 0 n)) (no_times 500000 500000)
links_keep gap n (suc (suc zero)) within =
    subst (KeepsTimes 500000 500000) (sym (crossed_2 gap 0 n))
    (times_of_row 500000 500000 to_listener n (λ i. record { earliest = omega arith; latest = omega arith })
    (λ i j before. omega arith))
links_keep gap n (suc (suc (suc zero))) within =
    subst (KeepsTimes 1500000 1500000) (sym (crossed_3 gap 0 n)) (no_times 1500000 1500000)
links_keep gap n (suc (suc (suc (suc port)))) within = absurd (omega arith)

none_judged : (port : ℕ) → IsJudged ats_judge steady_line port []
none_judged port = record {
  arrivals = [];
  same = IsPermutation-refl [];
  in_order = λ i j d before inside. absurd (omega arith);
  verdicts = refl;
}

-- the group behind the station judges each frame at its arrival
row_judged : (gap n : ℕ) → IsJudged ats_judge steady_line 0 (row (given gap) 0 n)
row_judged gap n = record {
  arrivals = row (given gap) 0 n;
  same = IsPermutation-refl (row (given gap) 0 n);
  in_order = of_pairs (λ (h : Handed). h.crossing.arrival) (row (given gap) 0 n)
      (pairs_row (λ (x y : Handed). x.crossing.arrival ≤ y.crossing.arrival) (given gap) 0 n
      (λ i j before. omega arith));
  verdicts = map-row (λ (h : Handed). h.verdict) (given gap) 0 n ∙ each_eligible n
      ∙ ap (λ (offers : List Offer). ats_judge (scheduled_by steady_line 0) 1000000 offers)
      (sym (map-row offer_of (given gap) 0 n));
}

none_judged_there : (gap n port class : ℕ) → ((i : ℕ) → is_of port class (given gap i) ≡ false)
    → IsJudged ats_judge steady_line port (handed_by steady_line (steady_from gap 0 n) port class)
none_judged_there gap n port class fails =
    subst (IsJudged ats_judge steady_line port) (sym (none_given gap n port class fails)) (none_judged port)

groups_judge : (gap n port class : ℕ)
    → IsJudged ats_judge steady_line port (handed_by steady_line (steady_from gap 0 n) port class)
groups_judge gap n (suc port) class =
    let differs : 0 ≢ suc port = λ same. absurd (omega arith) in
    none_judged_there gap n (suc port) class
    (λ i. false_and (0 == suc port) (6 == class) (ne_eqb 0 (suc port) differs))
groups_judge gap n zero class = by_class (cases_eq class 6)
  where
    by_class : (class ≡ 6) ⊎ (class ≢ 6) → IsJudged ats_judge steady_line 0
        (handed_by steady_line (steady_from gap 0 n) 0 class)
    by_class (inl same) =
        subst (λ (c : ℕ). IsJudged ats_judge steady_line 0
        (handed_by steady_line (steady_from gap 0 n) 0 c)) (sym same)
        (subst (IsJudged ats_judge steady_line 0) (sym (given_there gap n)) (row_judged gap n))
    by_class (inr other) =
        none_judged_there gap n 0 class
        (λ i. and_false (0 == 0) (6 == class) (ne_eqb 6 class (λ same. other (sym same))))

none_passed : (gap n port : ℕ) → All (IsPassed steady_line) (handed_by steady_line (steady_from gap 0 n) port 0)
none_passed gap n port =
    subst (All (IsPassed steady_line)) (sym (none_given gap n port 0 (λ i. and_false (0 == port) (6 == 0) refl)))
    (All-nil (IsPassed steady_line))

run_is_row : (gap k n : ℕ) → steady_from gap k n ≡ row (steady_frame gap) k n
run_is_row gap k zero = refl
run_is_row gap k (suc n) = ap (λ (l : List Travel). steady_frame gap k ∷ l) (run_is_row gap (k + 1) n)

one_journey : (gap k : ℕ) → IsJourney steady_line (steady_frame gap k)
one_journey gap k = record {
  sender = lit< tt;
  octets = record { least = lit≤ tt; most = lit≤ tt };
  way = tt;
  released = (refl, refl);
  copies = tt;
}

long : (gap n : ℕ) → length (steady_from gap 0 n) ≡ n
long gap n = ap (λ (l : List Travel). length l) (run_is_row gap 0 n) ∙ length-row (steady_frame gap) 0 n

too_many : (gap n : ℕ) → MAX_FRAMES < n → ¬ AreReleases steady_line (releases_of (steady_from gap 0 n))
too_many gap n more releases =
    let few = releases.few in
    let same = length-map (steady_from gap 0 n) (λ (j : Travel). j.release) in
    let all = long gap n in
    absurd (omega (arith, few, same, all, more))

pub steady_is_legal : SteadyIsLegal
steady_is_legal = record {
  network = network_by line_nodes line_links steady_line.streams [] refl refl;
  legal = λ gap n short. record {
    in_order = subst (λ (rs : List Release). IsNonDecreasing (map (λ (r : Release). r.at.0) rs))
        (sym (releases_are gap 0 n))
        (of_pairs (λ (r : Release). r.at.0) (row (release_at gap) 0 n)
        (pairs_row (λ (x y : Release). x.at.0 ≤ y.at.0) (release_at gap) 0 n
        (λ i j before. mul-le-mul_right gap (omega arith))));
    journeys = subst (All (IsJourney steady_line)) (sym (run_is_row gap 0 n))
        (all_row (IsJourney steady_line) (steady_frame gap) 0 n (λ i from to. one_journey gap i));
    ports = λ port within. ports_keep gap n port short within;
    links = links_keep gap n;
    groups = λ port class within least. groups_judge gap n port class;
    flows = λ port within. none_passed gap n port;
  };
  long = long;
  busy = λ gap n. subst (All IsBusy) (sym (sent_2 gap 0 n))
      (all_row IsBusy at_bridge 0 n (λ i from to. (refl, refl, omega arith)));
  at_once = λ n. subst (All (λ (r : Release). r.at.0 ≡ 0)) (sym (releases_are 0 0 n))
      (all_row (λ (r : Release). r.at.0 ≡ 0) (release_at 0) 0 n (λ i from to. omega arith));
  kept = talker_keeps;
  beyond = too_many;
}
