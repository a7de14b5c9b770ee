use Rattle.std.proofs.Common.{◌≡◌, ℕ, zero, suc, ◌-◌, ◌<◌, List, [], ◌∷◌, All, length, get_or, refl, sym, ◌∙◌, inl}
use Rattle.std.proofs.Common.{inr, subst}
use Rattle.std.proofs.Common.{arith, lit<, lit≤}
use Rattle.std.specs.Prelude.{slice_index_or}
use Rattle.std.specs.List.{AllPairs}
use Rattle.std.proofs.lemmas.List.Elements.{All-cons, All-contains, All-nil}
use Rattle.std.proofs.lemmas.List.Kept.{AllPairs-cons}
use Rattle.std.proofs.lemmas.List.Sums.{best_keeps, best_none}
use Rattle.ats_network.specs.Class.{class_at}
use Rattle.ats_network.specs.Network.{DeclaredNetwork}
use Rattle.ats_network.specs.Senders.{sender_at}
use Rattle.ats_trace.specs.Journey.{Travel}
use Rattle.ats_trace.specs.Run.{IsRunBy}
use Rattle.ats_trace.specs.Stored.{leg_in}
use Rattle.ats_trace.specs.declared.journey.Ending.TheVariants.{Sink}
use Rattle.ats_trace.specs.declared.journey.Release.{Release}
use Rattle.ats_witness.specs.Burst.{ComesBefore, IsBurst, burst_of, releases_by}
use Rattle.ats_witness.specs.Delay.{IsGreatestDelay}
use Rattle.ats_witness.specs.Found.{IsFoundAt, greatest_wait}
use Rattle.ats_witness.specs.Last.{last_key}
use Rattle.ats_witness_law.proofs.WorkedBursts.{TakesAtMost, no_travel, one_release, skips, takes, two_releases}
use Rattle.ats_examples.specs.OwnFrames.{own}
use Rattle.ats_examples.proofs.LegalProofs.{run_by}
use Rattle.ats_tree_examples.specs.Networks.{from_bridge}
use Rattle.ats_own_examples.specs.Bursts.{BurstsAreWorked, BurstsMeetAtBridges, DelaysAreFoundAtBridges}
use Rattle.ats_own_examples.specs.Bursts.{alone_from_bridge, behind_other, sent}
use Rattle.ats_own_examples.specs.Networks.{local}

-- Bursts by computation, and delays in their runs.

three_releases : (x y z : Release) → ComesBefore x y → ComesBefore x z → ComesBefore y z
    → AllPairs ComesBefore (x ∷ y ∷ z ∷ [])
three_releases x y z next last between = AllPairs-cons ComesBefore x (y ∷ z ∷ [])
    (All-cons (ComesBefore x) y (z ∷ []) next (All-cons (ComesBefore x) z [] last (All-nil (ComesBefore x))))
    (two_releases y z between)

-- a sender whose number is above those of all releases has none of them
past_two : (i : ℕ) (x y : Release) → x.sender < i → y.sender < i → releases_by i (x ∷ y ∷ []) ≡ []
past_two i x y first second = skips i x (y ∷ []) first ∙ skips i y [] second

past_three : (i : ℕ) (x y z : Release) → x.sender < i → y.sender < i → z.sender < i
    → releases_by i (x ∷ y ∷ z ∷ []) ≡ []
past_three i x y z first second third = skips i x (y ∷ z ∷ []) first ∙ past_two i y z second third

-- the releases of each sender are its frames in the burst at a port for a class
abbrev Each : DeclaredNetwork → ℕ → ℕ → List Release → Type 0
Each network port class releases = (i : ℕ) → releases_by i releases ≡ burst_of network port class i

of_other : Each own 2 6 (sent 1 0 1522 ∷ sent 13836001 1 64 ∷ [])
of_other zero = refl
of_other (suc zero) = refl
of_other (suc (suc zero)) = refl
of_other (suc (suc (suc i))) =
    past_two (suc (suc (suc i))) (sent 1 0 1522) (sent 13836001 1 64) (omega arith) (omega arith)

of_bridge : Each own 2 7 (sent 0 0 1522 ∷ sent 13836001 1 64 ∷ [])
of_bridge zero = refl
of_bridge (suc zero) = refl
of_bridge (suc (suc zero)) = refl
of_bridge (suc (suc (suc i))) =
    past_two (suc (suc (suc i))) (sent 0 0 1522) (sent 13836001 1 64) (omega arith) (omega arith)

of_other_before : Each own 0 6 (sent 1 0 1522 ∷ sent 1 2 64 ∷ [])
of_other_before zero = refl
of_other_before (suc zero) = refl
of_other_before (suc (suc zero)) = refl
of_other_before (suc (suc (suc i))) =
    past_two (suc (suc (suc i))) (sent 1 0 1522) (sent 1 2 64) (omega arith) (omega arith)

of_ending : Each own 0 7 (sent 0 0 1522 ∷ sent 1 2 64 ∷ [])
of_ending zero = refl
of_ending (suc zero) = refl
of_ending (suc (suc zero)) = refl
of_ending (suc (suc (suc i))) =
    past_two (suc (suc (suc i))) (sent 0 0 1522) (sent 1 2 64) (omega arith) (omega arith)

-- of the nine senders of the other network
beside_flow : Each local 2 7 (sent 0 0 1522 ∷ sent 13836000 7 320 ∷ sent 13836001 3 90 ∷ [])
beside_flow zero = refl
beside_flow (suc zero) = refl
beside_flow (suc (suc zero)) = refl
beside_flow (suc (suc (suc zero))) = refl
beside_flow (suc (suc (suc (suc zero)))) = refl
beside_flow (suc (suc (suc (suc (suc zero))))) = refl
beside_flow (suc (suc (suc (suc (suc (suc zero)))))) = refl
beside_flow (suc (suc (suc (suc (suc (suc (suc zero))))))) = refl
beside_flow (suc (suc (suc (suc (suc (suc (suc (suc zero)))))))) = refl
beside_flow (suc (suc (suc (suc (suc (suc (suc (suc (suc i))))))))) =
    past_three (suc (suc (suc (suc (suc (suc (suc (suc (suc i)))))))))
    (sent 0 0 1522) (sent 13836000 7 320) (sent 13836001 3 90) (omega arith) (omega arith) (omega arith)

of_other_beside_flow : Each local 2 6 (sent 1 0 1522 ∷ sent 13836000 7 320 ∷ sent 13836001 3 90 ∷ [])
of_other_beside_flow zero = refl
of_other_beside_flow (suc zero) = refl
of_other_beside_flow (suc (suc zero)) = refl
of_other_beside_flow (suc (suc (suc zero))) = refl
of_other_beside_flow (suc (suc (suc (suc zero)))) = refl
of_other_beside_flow (suc (suc (suc (suc (suc zero))))) = refl
of_other_beside_flow (suc (suc (suc (suc (suc (suc zero)))))) = refl
of_other_beside_flow (suc (suc (suc (suc (suc (suc (suc zero))))))) = refl
of_other_beside_flow (suc (suc (suc (suc (suc (suc (suc (suc zero)))))))) = refl
of_other_beside_flow (suc (suc (suc (suc (suc (suc (suc (suc (suc i))))))))) =
    past_three (suc (suc (suc (suc (suc (suc (suc (suc (suc i)))))))))
    (sent 1 0 1522) (sent 13836000 7 320) (sent 13836001 3 90) (omega arith) (omega arith) (omega arith)

ending_beside_flow : Each local 0 7 (sent 0 0 1522 ∷ sent 0 5 320 ∷ sent 1 1 90 ∷ [])
ending_beside_flow zero = refl
ending_beside_flow (suc zero) = refl
ending_beside_flow (suc (suc zero)) = refl
ending_beside_flow (suc (suc (suc zero))) = refl
ending_beside_flow (suc (suc (suc (suc zero)))) = refl
ending_beside_flow (suc (suc (suc (suc (suc zero))))) = refl
ending_beside_flow (suc (suc (suc (suc (suc (suc zero)))))) = refl
ending_beside_flow (suc (suc (suc (suc (suc (suc (suc zero))))))) = refl
ending_beside_flow (suc (suc (suc (suc (suc (suc (suc (suc zero)))))))) = refl
ending_beside_flow (suc (suc (suc (suc (suc (suc (suc (suc (suc i))))))))) =
    past_three (suc (suc (suc (suc (suc (suc (suc (suc (suc i))))))))) (sent 0 0 1522) (sent 0 5 320) (sent 1 1 90)
    (omega arith) (omega arith) (omega arith)

bursts : BurstsMeetAtBridges
bursts = record {
  of_other = record {
    of_each = of_other;
    in_order = two_releases (sent 1 0 1522) (sent 13836001 1 64) (inl (lit< tt));
  };
  of_bridge = record {
    of_each = of_bridge;
    in_order = two_releases (sent 0 0 1522) (sent 13836001 1 64) (inl (lit< tt));
  };
  of_other_before = record {
    of_each = of_other_before;
    in_order = two_releases (sent 1 0 1522) (sent 1 2 64) (inr (refl, lit≤ tt));
  };
  of_ending = record {
    of_each = of_ending;
    in_order = two_releases (sent 0 0 1522) (sent 1 2 64) (inl (lit< tt));
  };
  beside_flow = record {
    of_each = beside_flow;
    in_order = three_releases (sent 0 0 1522) (sent 13836000 7 320) (sent 13836001 3 90) (inl (lit< tt))
        (inl (lit< tt)) (inl (lit< tt));
  };
  of_other_beside_flow = record {
    of_each = of_other_beside_flow;
    in_order = three_releases (sent 1 0 1522) (sent 13836000 7 320) (sent 13836001 3 90) (inl (lit< tt))
        (inl (lit< tt)) (inl (lit< tt));
  };
  ending_beside_flow = record {
    of_each = ending_beside_flow;
    in_order = three_releases (sent 0 0 1522) (sent 0 5 320) (sent 1 1 90) (inr (refl, lit≤ tt)) (inl (lit< tt))
        (inl (lit< tt));
  };
}

-- a frame of a sender stands at this place of a run, and none of the sender's takes longer to a listener
greatest_of : (run : List Travel) (sender listener place arrival delay : ℕ) (j : Travel) → place < length run
    → slice_index_or run place j ≡ j → j.release.sender ≡ sender
    → (leg_in j listener).ending ≡ Sink (record { 0 = arrival }) → delay ≡ arrival - j.release.at.0
    → All (TakesAtMost sender listener delay) run → IsGreatestDelay run sender listener delay
greatest_of run sender listener place arrival delay j within there sent arrived after all = record {
  journey = j;
  one = record {
    there = (place, within, there);
    sent = sent;
    at = record { 0 = arrival };
    arrived = arrived;
    after = after;
  };
  none_longer = λ took other a.
      (let le = All-contains (TakesAtMost sender listener delay) run other all a.there a.sent a.at a.arrived in
      omega (arith, le, a.after));
}

beside_takes : All (TakesAtMost 3 0 13715999) behind_other
beside_takes zero d h sent at arrived = absurd (let no : 0 ≡ 3 = sent in omega (arith, no))
beside_takes (suc zero) d h sent at arrived = absurd (let no : 7 ≡ 3 = sent in omega (arith, no))
beside_takes (suc (suc zero)) d h sent at arrived = takes 3 13836001 27552000 13715999 at (lit≤ tt) arrived
beside_takes (suc (suc (suc k))) d h sent at arrived = absurd (omega (arith, h))

beside_found : IsFoundAt local 3 0 2 13715999
beside_found = record {
  run = behind_other;
  of_burst = record {
    by = run_by (last_key 3) greatest_wait local behind_other refl refl refl;
    burst = bursts.beside_flow;
  };
  greatest = greatest_of behind_other 3 0 2 27552000 13715999 (get_or behind_other 2 no_travel) (lit< tt) refl refl
      refl refl beside_takes;
}

-- the stream from the bridge is alone at each port
alone_each : (port : ℕ) → releases_by 0 (sent 1 0 1522 ∷ []) ≡ burst_of from_bridge port 6 0
    → Each from_bridge port 6 (sent 1 0 1522 ∷ [])
alone_each port first zero = first
alone_each port first (suc i) = skips (suc i) (sent 1 0 1522) [] (omega arith)

alone_burst : (port : ℕ) → releases_by 0 (sent 1 0 1522 ∷ []) ≡ burst_of from_bridge port 6 0
    → IsBurst from_bridge port 6 (sent 1 0 1522 ∷ [])
alone_burst port first = record { of_each = alone_each port first; in_order = one_release (sent 1 0 1522) }

alone_run : IsRunBy (last_key 0) greatest_wait from_bridge alone_from_bridge
alone_run = run_by (last_key 0) greatest_wait from_bridge alone_from_bridge refl refl refl

first_takes : All (TakesAtMost 0 0 12836000) alone_from_bridge
first_takes zero d h sent at arrived = takes 0 1 12836001 12836000 at (lit≤ tt) arrived
first_takes (suc k) d h sent at arrived = absurd (omega (arith, h))

second_takes : All (TakesAtMost 0 1 26672000) alone_from_bridge
second_takes zero d h sent at arrived = takes 0 1 26672001 26672000 at (lit≤ tt) arrived
second_takes (suc k) d h sent at arrived = absurd (omega (arith, h))

third_takes : All (TakesAtMost 0 2 13836000) alone_from_bridge
third_takes zero d h sent at arrived = takes 0 1 13836001 13836000 at (lit≤ tt) arrived
third_takes (suc k) d h sent at arrived = absurd (omega (arith, h))

-- the delay of its frame for a listener
alone_found : (listener port arrival delay : ℕ) → IsBurst from_bridge port 6 (sent 1 0 1522 ∷ [])
    → (leg_in (get_or alone_from_bridge 0 no_travel) listener).ending ≡ Sink (record { 0 = arrival })
    → delay ≡ arrival - 1 → All (TakesAtMost 0 listener delay) alone_from_bridge
    → (class_at (sender_at from_bridge 0) port ≡ 6) → IsFoundAt from_bridge 0 listener port delay
alone_found listener port arrival delay burst arrived after takes class = record {
  run = alone_from_bridge;
  of_burst = record {
    by = alone_run;
    burst = subst (λ (c : ℕ). IsBurst from_bridge port c (sent 1 0 1522 ∷ [])) (sym class) burst;
  };
  greatest = greatest_of alone_from_bridge 0 listener 0 arrival delay (get_or alone_from_bridge 0 no_travel) (lit< tt)
      refl refl arrived after takes;
}

delays : DelaysAreFoundAtBridges
delays = record {
  beside = record {
    each = (beside_found, tt);
    first = best_none (λ n. n) (13715999 ∷ []);
    burst = bursts.beside_flow;
  };
  first = record {
    each = (alone_found 0 4 12836001 12836000 (alone_burst 4 refl) refl refl first_takes refl, tt);
    first = best_none (λ n. n) (12836000 ∷ []);
    burst = alone_burst 4 refl;
  };
  second = record {
    each = (
      alone_found 1 3 26672001 26672000 (alone_burst 3 refl) refl refl second_takes refl,
      (alone_found 1 6 26672001 26672000 (alone_burst 6 refl) refl refl second_takes refl, tt),
    );
    first = best_keeps (λ n. n) (26672000 ∷ 26672000 ∷ []) 1 0 (best_none (λ n. n) (26672000 ∷ 26672000 ∷ []))
        (λ d. lit≤ tt);
    burst = alone_burst 3 refl;
  };
  at_bridge = record {
    each = (alone_found 2 8 13836001 13836000 (alone_burst 8 refl) refl refl third_takes refl, tt);
    first = best_none (λ n. n) (13836000 ∷ []);
    burst = alone_burst 8 refl;
  };
}

pub bursts_are_worked : BurstsAreWorked
bursts_are_worked = record { bursts = bursts; delays = delays }
