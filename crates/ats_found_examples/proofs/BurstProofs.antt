use Rattle.std.proofs.Common.{◌≡◌, ℕ, zero, suc, ◌<◌, List, [], ◌∷◌, All, refl, ap, ◌∙◌, inl, get_or, length}
use Rattle.std.proofs.Common.{arith, lit<, lit≤}
use Rattle.std.proofs.lemmas.List.Elements.{AllZip-get_or, length_all_zip}
use Rattle.std.proofs.lemmas.List.Sums.{best_keeps, best_none}
use Rattle.ats_network.specs.Class.{class_at}
use Rattle.ats_network.specs.Network.{DeclaredNetwork}
use Rattle.ats_network.specs.Senders.{sender_at}
use Rattle.ats_trace.specs.Run.{releases_of}
use Rattle.ats_trace.specs.Ways.{route_to}
use Rattle.ats_trace.specs.declared.journey.Release.{Release}
use Rattle.ats_witness.specs.Burst.{IsBurstFor, burst_of, port_on_route, releases_by}
use Rattle.ats_witness.specs.Found.{AreFound, FoundDelays, IsFoundAt, greatest_wait}
use Rattle.ats_witness.specs.Last.{last_key}
use Rattle.ats_witness_law.proofs.WorkedBursts.{TakesAtMost, greatest_to, no_travel, one_release, skips, takes}
use Rattle.ats_witness_law.proofs.WorkedBursts.{two_releases}
use Rattle.ats_witness_law.specs.Laws.{BurstIsOne}
use Rattle.ats_witness_law.specs.Worked.{alone}
use Rattle.ats_examples.proofs.LegalProofs.{run_by}
use Rattle.ats_examples.proofs.NetworkTest.{network_by}
use Rattle.ats_examples.specs.Networks.{fork_links, fork_nodes}
use Rattle.ats_examples.specs.Runs.{behind_a_flow}
use Rattle.ats_found_examples.specs.Bursts.{AreOfDelay, BurstIsOfHop, turning}
use Rattle.ats_found_examples.specs.Later.{release}

-- The burst at the hop of the greatest delay.

-- at the station the flow's frame is released a picosecond earlier
first_each : (i : ℕ) → releases_by i (release 0 1 ∷ release 1 0 ∷ []) ≡ burst_of turning 0 6 i
first_each zero = refl
first_each (suc zero) = refl
first_each (suc (suc i)) =
    skips (suc (suc i)) (release 0 1) (release 1 0 ∷ []) (omega arith)
    ∙ skips (suc (suc i)) (release 1 0) [] (omega arith)

at_station : IsBurstFor turning 0 0 (release 0 1 ∷ release 1 0 ∷ [])
at_station = record {
  of_each = first_each;
  in_order = two_releases (release 0 1) (release 1 0) (inl (lit< tt));
}

-- and at the bridge the stream is alone
last_each : (i : ℕ) → releases_by i (release 1 0 ∷ []) ≡ burst_of turning 2 6 i
last_each zero = refl
last_each (suc zero) = refl
last_each (suc (suc i)) = skips (suc (suc i)) (release 1 0) [] (omega arith)

at_bridge : IsBurstFor turning 0 2 (release 1 0 ∷ [])
at_bridge = record { of_each = last_each; in_order = one_release (release 1 0) }

-- so its burst is not the one at the station
not_at_station : ¬ IsBurstFor turning 0 0 (release 1 0 ∷ [])
not_at_station burst =
    let no : 0 ≡ 1 = ap (λ (l : List Release). length l) (burst.of_each 1) in
    omega (arith, no)

behind_takes : All (TakesAtMost 0 0 39007999) behind_a_flow
behind_takes zero d h sent at arrived = absurd (let no : 1 ≡ 0 = sent in omega (arith, no))
behind_takes (suc zero) d h sent at arrived = takes 0 1 39008000 39007999 at (lit≤ tt) arrived
behind_takes (suc (suc k)) d h sent at arrived = absurd (omega (arith, h))

alone_takes : All (TakesAtMost 0 0 26672000) alone
alone_takes zero d h sent at arrived = takes 0 1 26672001 26672000 at (lit≤ tt) arrived
alone_takes (suc k) d h sent at arrived = absurd (omega (arith, h))

behind_found : IsFoundAt turning 0 0 0 39007999
behind_found = record {
  run = behind_a_flow;
  of_burst = record {
    by = run_by (last_key 0) greatest_wait turning behind_a_flow refl refl refl;
    burst = at_station;
  };
  greatest = greatest_to behind_a_flow 0 1 39008000 39007999 (get_or behind_a_flow 1 no_travel) (lit< tt) refl refl
      refl refl behind_takes;
}

alone_found : IsFoundAt turning 0 0 2 26672000
alone_found = record {
  run = alone;
  of_burst = record {
    by = run_by (last_key 0) greatest_wait turning alone refl refl refl;
    burst = at_bridge;
  };
  greatest = greatest_to alone 0 0 26672001 26672000 (get_or alone 0 no_travel) (lit< tt) refl refl refl refl
      alone_takes;
}

-- the burst at the port of the hop is one list, so the run with the delay at this hop has the releases that are found
of_delay : BurstIsOne → (network : DeclaredNetwork) (stream listener : ℕ) (found : FoundDelays)
    → AreFound network stream listener found → AreOfDelay network stream listener found
of_delay burst_is_one network stream listener found are = record {
  run = at_hop.run;
  by = at_hop.of_burst.by;
  released = burst_is_one network port (class_at (sender_at network stream) port) (releases_of at_hop.run)
      found.releases at_hop.of_burst.burst are.burst;
  greatest = at_hop.greatest;
}
  where
    route : List ℕ
    route = route_to (sender_at network stream) listener

    port : ℕ
    port = port_on_route network stream listener found.hop

    within : found.hop < length route
    within =
        let less : found.hop < length found.delays = are.first.0 in
        let long = length_all_zip (IsFoundAt network stream listener) route found.delays are.each in
        omega (arith, less, long)

    at_hop : IsFoundAt network stream listener port (get_or found.delays found.hop 0)
    at_hop = AllZip-get_or (IsFoundAt network stream listener) route found.delays found.hop 0 0 are.each within

pub burst_is_of_hop : BurstIsOne → BurstIsOfHop
burst_is_of_hop burst_is_one = record {
  rules = network_by fork_nodes fork_links turning.streams turning.flows refl refl;
  at_first = record {
    each = (behind_found, (alone_found, tt));
    first = best_keeps (λ n. n) (39007999 ∷ 26672000 ∷ []) 1 0 (best_none (λ n. n) (39007999 ∷ 26672000 ∷ []))
        (λ d. lit≤ tt);
    burst = at_station;
  };
  last = at_bridge;
  not_of_last = λ are. not_at_station are.burst;
  each = of_delay burst_is_one;
}
