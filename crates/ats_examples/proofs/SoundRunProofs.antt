use Rattle.std.proofs.Common.{◌≡◌, ℕ, ◌+◌, ◌*◌, ◌<◌, ◌≤◌, true, List, [], ◌∷◌, length, get_or, All, refl, ap}
use Rattle.std.proofs.Common.{inl, inr, ◌⊎◌, arith, lit<, lit≤}
use Rattle.std.specs.Prelude.{nat_lt, ◌==◌, AllPairs, Contains}
use Rattle.std.proofs.lemmas.List.Elements.{All-contains_itself}
use Rattle.ats_network.specs.Network.{DeclaredNetwork}
use Rattle.ats_network.specs.Senders.{sender_at}
use Rattle.ats_certificate.specs.Certificate.{IsBefore}
use Rattle.ats_certificate.specs.declared.row.Row.{Row}
use Rattle.ats_trace.specs.Clocks.{IsLegal}
use Rattle.ats_trace.specs.Journey.{Travel, IsOfStream}
use Rattle.ats_trace.specs.Run.{IsIdeal, releases_of}
use Rattle.ats_trace.specs.Stored.{no_travel, travel_at}
use Rattle.ats_trace.specs.Talker.{talker_of, KeepsBuckets}
use Rattle.ats_trace.proofs.ExactLinks.{links_are_exact}
use Rattle.ats_soundness_law.specs.Sound.{IsServed, IsContained}
use Rattle.ats_soundness_law.proofs.TrueTime.{certificate_is_sound, sound_by_clocks}
use Rattle.ats_examples.specs.Networks.{line, fork, over_two, over_three, ranged_line}
use Rattle.ats_examples.specs.Runs.{one_frame}
use Rattle.ats_examples.specs.ChangedRuns.{sunk_late}
use Rattle.ats_examples.specs.BridgedRuns.{eligible_later, one_over_two, one_over_three, two_over_two, two_over_three}
use Rattle.ats_examples.specs.Babbler.{babbler}
use Rattle.ats_num.specs.declared.time.Ps.{Ps}
use Rattle.ats_topology.specs.Port.{no_port}
use Rattle.ats_topology.specs.declared.port.Port.{Port}
use Rattle.ats_trace.specs.ExactLinks.{HaveOneLatency, IsLegalAt}
use Rattle.ats_examples.proofs.Tests.{lt_of, eq_of, all_by}
use Rattle.ats_examples.proofs.LegalProofs.{examples_legal, bridged_legal, babbler_legal}
use Rattle.ats_examples.proofs.ChangeProofs.{changed_are_not}
use Rattle.ats_examples.proofs.BucketTest.{keeps_by}
use Rattle.ats_examples.specs.Rows.{two_rows, three_rows, fork_rows, turned_rows}
use Rattle.ats_examples.specs.SoundRuns.{IsCertified, BridgedAreSound, BabblerIsContained, ExactExamples}
use Rattle.ats_examples.specs.SoundRuns.{ExactnessCounts, OrderDoesNotCount}
use Rattle.ats_examples.specs.PacedRuns.{arriving}
use Rattle.ats_examples.proofs.PaceProofs.{arrivals_legal}
use Rattle.ats_examples.proofs.NetworkProofs.{line_is, two_is, three_is, fork_is, ranged_is}
use Rattle.ats_examples.proofs.RuleTest.{all_kept, holds_by}
use Rattle.ats_examples.proofs.StationTest.{begin_at_stations, from_stations, legal_of}

two_certified : IsCertified over_two two_rows
two_certified = record { rules = two_is; holds = holds_by over_two two_rows refl refl }

three_certified : IsCertified over_three three_rows
three_certified = record { rules = three_is; holds = holds_by over_three three_rows refl refl }

fork_certified : IsCertified fork fork_rows
fork_certified = record { rules = fork_is; holds = holds_by fork fork_rows refl refl }

-- by the path law
pub served_in : (network : DeclaredNetwork) (rows : List Row) (run : List Travel) (j : Travel)
    → IsCertified network rows → begin_at_stations network ≡ true → IsIdeal network run → Contains run j
    → IsOfStream network j → KeepsBuckets network (releases_of run) (talker_of network j.release.sender)
    → IsServed rows (sender_at network j.release.sender) j
served_in network rows run j c stations legal there stream keeps =
    (from_stations network rows stations (certificate_is_sound network rows c.rules c.holds)).served run
    (legal_of network run c.rules legal) j there stream keeps

two_kept : KeepsBuckets over_two (releases_of (one_over_two ∷ [])) 0
two_kept = keeps_by over_two (releases_of (one_over_two ∷ [])) 0 refl refl

three_kept : KeepsBuckets over_three (releases_of (one_over_three ∷ [])) 0
three_kept = keeps_by over_three (releases_of (one_over_three ∷ [])) 0 refl refl

-- two frames at once are more than the burst
two_not_kept : ¬ KeepsBuckets over_two (releases_of (two_over_two 163868000)) 0
two_not_kept keeps =
    let over : 1000000000000 * 24672 ≤ 100000000 * 0 + 1000000000000 * 12336 =
    (keeps.streams 0 (lit< tt) refl).within 0 1 (lit≤ tt) (lit< tt) in
    absurd (omega arith)

three_not_kept : ¬ KeepsBuckets over_three (releases_of (two_over_three 177704000)) 0
three_not_kept keeps =
    let over : 1000000000000 * 24672 ≤ 100000000 * 0 + 1000000000000 * 12336 =
    (keeps.streams 0 (lit< tt) refl).within 0 1 (lit≤ tt) (lit< tt) in
    absurd (omega arith)

-- so the first bridge holds the second back for longer than the bound
two_not_served : ¬ IsServed two_rows (sender_at over_two 0) (travel_at (two_over_two 163868000) 1)
two_not_served served =
    let over : 137196000 ≤ 0 + 13836000 = (served 0 (lit< tt)).prompt.1.0 in
    absurd (omega arith)

three_not_served : ¬ IsServed three_rows (sender_at over_three 0) (travel_at (two_over_three 177704000) 1)
three_not_served served =
    let over : 137196000 ≤ 0 + 13836000 = (served 0 (lit< tt)).prompt.1.0 in
    absurd (omega arith)

-- behind it the bounds leave no more time
two_not_contained : ¬ IsContained two_rows (sender_at over_two 0) (travel_at (two_over_two 163868001) 1)
two_not_contained contained =
    let over : 163868001 ≤ 151032000 + 12836000 = (contained 0 (lit< tt)).1 in
    absurd (omega arith)

not_so_late : ¬ IsContained two_rows (sender_at over_two 0) (travel_at eligible_later 1)
not_so_late contained =
    let over : 151032001 ≤ 137196000 + 13836000 = (contained 0 (lit< tt)).0 in
    absurd (omega arith)

three_not_contained : ¬ IsContained three_rows (sender_at over_three 0) (travel_at (two_over_three 177704001) 1)
three_not_contained contained =
    let over : 177704001 ≤ 164868000 + 12836000 = (contained 0 (lit< tt)).1.1 in
    absurd (omega arith)

-- by containment
pub contained_in : (network : DeclaredNetwork) (rows : List Row) (run : List Travel) (j : Travel)
    → IsCertified network rows → begin_at_stations network ≡ true
    → IsLegal network run → Contains run j → IsOfStream network j
    → IsContained rows (sender_at network j.release.sender) j
contained_in network rows run j c stations legal there stream =
    (from_stations network rows stations (certificate_is_sound network rows c.rules c.holds)).contained run legal j
    there stream

pub bridged_sound : BridgedAreSound
bridged_sound = record {
  two = two_certified;
  three = three_certified;
  one_over_two = record {
    legal = bridged_legal.one_over_two;
    keeps = two_kept;
    served = served_in over_two two_rows (one_over_two ∷ []) one_over_two two_certified refl bridged_legal.one_over_two
        (0, lit< tt, refl) (lit< tt) two_kept;
    whole = refl;
  };
  one_over_three = record {
    legal = bridged_legal.one_over_three;
    keeps = three_kept;
    served = served_in over_three three_rows (one_over_three ∷ [])
        one_over_three three_certified refl bridged_legal.one_over_three (0, lit< tt, refl) (lit< tt) three_kept;
    whole = refl;
  };
  second_over_two = record {
    legal = bridged_legal.two_over_two;
    not_kept = two_not_kept;
    not_served = two_not_served;
    contained = contained_in over_two two_rows (two_over_two 163868000) (travel_at (two_over_two 163868000) 1)
        two_certified refl
        (legal_of over_two (two_over_two 163868000) two_is bridged_legal.two_over_two) (1, lit< tt, refl) (lit< tt);
  };
  second_over_three = record {
    legal = bridged_legal.two_over_three;
    not_kept = three_not_kept;
    not_served = three_not_served;
    contained = contained_in over_three three_rows (two_over_three 177704000) (travel_at (two_over_three 177704000) 1)
        three_certified refl
        (legal_of over_three (two_over_three 177704000) three_is bridged_legal.two_over_three) (1, lit< tt, refl)
        (lit< tt);
  };
  eligible_later = record {
    not_contained = not_so_late;
    not_legal = λ legal. not_so_late
        (contained_in over_two two_rows eligible_later (travel_at eligible_later 1) two_certified refl legal
        (1, lit< tt, refl) (lit< tt));
  };
  later_over_two = record {
    not_contained = two_not_contained;
    not_legal = λ legal. two_not_contained (contained_in over_two two_rows (two_over_two 163868001)
        (travel_at (two_over_two 163868001) 1) two_certified refl legal (1, lit< tt, refl) (lit< tt));
  };
  later_over_three = record {
    not_contained = three_not_contained;
    not_legal = λ legal. three_not_contained (contained_in over_three three_rows (two_over_three 177704001)
        (travel_at (two_over_three 177704001) 1) three_certified refl legal (1, lit< tt, refl) (lit< tt));
  };
}

-- 19 of the babbler's frames are more than its burst
babbles : ¬ KeepsBuckets fork (releases_of babbler) (talker_of fork 1)
babbles keeps =
    let over : 1000000000000 * 12768 ≤ 100000000 * 0 + 1000000000000 * 12336 =
    (keeps.streams 1 (lit< tt) refl).within 0 18 (lit≤ tt) (lit< tt) in
    absurd (omega arith)

beside_kept : KeepsBuckets fork (releases_of babbler) (talker_of fork 0)
beside_kept = keeps_by fork (releases_of babbler) (talker_of fork 0) refl refl

of_streams : All (IsOfStream fork) babbler
of_streams = all_by (IsOfStream fork) (λ (j : Travel). nat_lt j.release.sender (length fork.streams))
    (λ j. lt_of j.release.sender (length fork.streams)) babbler refl

pub babbler_contained : BabblerIsContained
babbler_contained = record {
  certified = fork_certified;
  legal = babbler_legal;
  babbles = babbles;
  not_served = λ served. (served 0 (lit< tt)).prompt.1;
  keeps = beside_kept;
  served = served_in fork fork_rows babbler (travel_at babbler 0) fork_certified refl babbler_legal (0, lit< tt, refl)
      (lit< tt) beside_kept;
  sum = refl;
  contained = λ k d h. contained_in fork fork_rows babbler (get_or babbler k d) fork_certified refl
      (legal_of fork babbler fork_is babbler_legal)
      (All-contains_itself babbler k d h) (of_streams k d h);
}

-- each port of the line has one latency
line_exact : HaveOneLatency line.topology.ports
line_exact = all_by (λ (port : Port). port.earliest ≡ port.latency)
    (λ (port : Port). port.earliest.0 == port.latency.0)
    (λ port h. ap (λ (n : ℕ). record { 0 = n }) (eq_of port.earliest.0 port.latency.0 h)) line.topology.ports refl

pub exact_examples : ExactExamples
exact_examples = record {
  exact = (links_are_exact line one_frame line_is line_exact).0 examples_legal.one_frame;
  not_exact =
      λ exact. changed_are_not.links ((links_are_exact line sunk_late line_is line_exact).1 exact);
}

not_one : ¬ HaveOneLatency ranged_line.topology.ports
not_one exact =
    let same : ◌≡◌ {A = ℕ} 700000 1500000 = ap (λ (t : Ps). t.0) (exact 0 no_port (lit< tt)) in
    absurd (omega arith)

not_at_latency : ¬ IsLegalAt ranged_line (arriving 13036000)
not_at_latency h =
    let due : ◌≡◌ {A = ℕ} 13036000 13836000 = (h.journeys 0 no_travel (lit< tt)).way.1.0 in
    absurd (omega arith)

pub exactness_counts : ExactnessCounts
exactness_counts = record {
  network = ranged_is 12464 refl refl;
  not_one = not_one;
  legal = arrivals_legal.earliest;
  not_exact = not_at_latency;
}

not_before : ¬ AllPairs IsBefore turned_rows
not_before ordered =
    let before : (2 < 0) ⊎ ((◌≡◌ {A = ℕ} 2 0) × (6 < 6)) = ordered 0 1 no_row (lit< tt) (lit< tt) in
    elim before [ inl e ↦ absurd (omega arith) | inr e ↦ absurd (omega (arith, e.0)) ]
  where
    no_row : Row
    no_row =
        record { port = 0; class = 0; higher = 0; equal = 0; bursts = 0; lower = 0; least = 0; wait = 0; bound = 0 }

pub order_does_not_count : OrderDoesNotCount
order_does_not_count = record {
  not_held = λ holds. not_before holds.rows_of.ordered;
  sound = sound_by_clocks line turned_rows line_is (all_kept line turned_rows refl);
}
