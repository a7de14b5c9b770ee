-- What is found in the fork and on the line.
use Rattle.std.proofs.Common.{◌≡◌, ℕ, zero, suc, ◌-◌, ◌<◌, ◌≤◌, List, [], ◌∷◌, All, refl, ap, ◌∙◌}
use Rattle.std.proofs.Common.{inl, inr, ◌⊎◌, get_or, length, arith, lit<, lit≤}
use Rattle.std.specs.Prelude.{slice_index_or}
use Rattle.std.proofs.Common.{eqb}
use Rattle.std.specs.List.{AllPairs}
use Rattle.std.proofs.lemmas.Bool.{cond-false, ne_eqb}
use Rattle.std.proofs.lemmas.List.Elements.{All-contains}
use Rattle.std.proofs.lemmas.List.Kept.{AllPairs-cons}
use Rattle.std.proofs.lemmas.List.Sums.{best_none, best_keeps, best_takes}
use Rattle.ats_num.specs.declared.time.Ps.{Ps}
use Rattle.ats_trace.specs.Journey.{Travel}
use Rattle.ats_trace.specs.Run.{IsRunBy}
use Rattle.ats_trace.specs.Stored.{leg_in}
use Rattle.ats_trace.specs.declared.journey.Ending.{Ending}
use Rattle.ats_trace.specs.declared.journey.Ending.TheVariants.{Sink, Discard}
use Rattle.ats_trace.specs.declared.journey.Release.{Release}
use Rattle.ats_witness.specs.Burst.{ComesBefore, IsBurstFor, burst_of, releases_by}
use Rattle.ats_witness.specs.Delay.{ArrivedAfter, IsGreatestDelay}
use Rattle.ats_witness.specs.Found.{IsBurstRun, IsFoundAt, greatest_wait}
use Rattle.ats_witness.specs.Last.{last_key}
use Rattle.ats_examples.specs.Networks.{fork, line_and_flow}
use Rattle.ats_examples.specs.Runs.{behind_a_flow}
use Rattle.ats_examples.proofs.LegalProofs.{run_by}
use Rattle.ats_examples.proofs.NetworkProofs.{fork_is, with_flow_is}
use Rattle.ats_tree_examples.specs.Networks.{split_and_flow}
use Rattle.ats_tree_examples.specs.Runs.{behind_flow}
use Rattle.ats_tree_examples.proofs.TreeProofs.{split_and_flow_is}
use Rattle.ats_witness_law.specs.Worked.{BurstsCount, EachListenerIsFound, FoundDelaysAreMet, alone, alone_to_both}
use Rattle.ats_witness_law.specs.Worked.{before_the_other, behind_the_other, release}

pub one_release : (x : Release) → AllPairs ComesBefore (x ∷ [])
one_release x i j d before within = absurd (omega (arith, before, within))

pub two_releases : (x y : Release) → ComesBefore x y → AllPairs ComesBefore (x ∷ y ∷ [])
two_releases x y before = AllPairs-cons ComesBefore x (y ∷ []) behind (one_release y)
  where
    behind : All (ComesBefore x) (y ∷ [])
    behind zero d h = before
    behind (suc k) d h = absurd (omega (arith, h))

-- a release of another sender
pub skips : (i : ℕ) (x : Release) (rest : List Release) → x.sender < i → releases_by i (x ∷ rest) ≡ releases_by i rest
skips i x rest less =
    cond-false (eqb x.sender i) (x ∷ releases_by i rest) (releases_by i rest)
    (ne_eqb x.sender i (λ same. (let no : i < i = omega (arith, less, same) in omega (arith, no))))

-- the fork's first stream alone has frames at the port of its station
fork_alone_each : (i : ℕ) → releases_by i (release 1 0 ∷ []) ≡ burst_of fork 0 6 i
fork_alone_each zero = refl
fork_alone_each (suc zero) = refl
fork_alone_each (suc (suc i)) = skips (suc (suc i)) (release 1 0) [] (omega arith)

fork_first : IsBurstFor fork 0 0 (release 1 0 ∷ [])
fork_first = record { of_each = fork_alone_each; in_order = one_release (release 1 0) }

-- at the bridge both have
fork_both_each : (i : ℕ) → releases_by i (release 1 0 ∷ release 1 1 ∷ []) ≡ burst_of fork 2 6 i
fork_both_each zero = refl
fork_both_each (suc zero) = refl
fork_both_each (suc (suc i)) =
    skips (suc (suc i)) (release 1 0) (release 1 1 ∷ []) (omega arith)
    ∙ skips (suc (suc i)) (release 1 1) [] (omega arith)

fork_second : IsBurstFor fork 0 2 (release 1 0 ∷ release 1 1 ∷ [])
fork_second = record {
  of_each = fork_both_each;
  in_order = two_releases (release 1 0) (release 1 1) (inr (refl, lit≤ tt));
}

-- the flow's frame is released a picosecond earlier
line_first_each : (i : ℕ) → releases_by i (release 0 1 ∷ release 1 0 ∷ []) ≡ burst_of line_and_flow 0 6 i
line_first_each zero = refl
line_first_each (suc zero) = refl
line_first_each (suc (suc i)) =
    skips (suc (suc i)) (release 0 1) (release 1 0 ∷ []) (omega arith)
    ∙ skips (suc (suc i)) (release 1 0) [] (omega arith)

line_first : IsBurstFor line_and_flow 0 0 (release 0 1 ∷ release 1 0 ∷ [])
line_first = record {
  of_each = line_first_each;
  in_order = two_releases (release 0 1) (release 1 0) (inl (lit< tt));
}

line_second_each : (i : ℕ) → releases_by i (release 0 1 ∷ release 1 0 ∷ []) ≡ burst_of line_and_flow 2 6 i
line_second_each zero = refl
line_second_each (suc zero) = refl
line_second_each (suc (suc i)) =
    skips (suc (suc i)) (release 0 1) (release 1 0 ∷ []) (omega arith)
    ∙ skips (suc (suc i)) (release 1 0) [] (omega arith)

line_second : IsBurstFor line_and_flow 0 2 (release 0 1 ∷ release 1 0 ∷ [])
line_second = record {
  of_each = line_second_each;
  in_order = two_releases (release 0 1) (release 1 0) (inl (lit< tt));
}

-- what each frame of a sender takes
abbrev pub TakesAtMost : ℕ → ℕ → ℕ → Travel → Type 0
TakesAtMost sender listener delay j = j.release.sender ≡ sender → (at : Ps) → (leg_in j listener).ending ≡ Sink at
    → at.0 - j.release.at.0 ≤ delay

abbrev NoneLonger : List Travel → ℕ → ℕ → ℕ → Type 0
NoneLonger run sender listener delay = (took : ℕ) (other : Travel) → ArrivedAfter run sender listener took other
    → took ≤ delay

none_longer : (run : List Travel) (sender listener delay : ℕ) → All (TakesAtMost sender listener delay) run
    → NoneLonger run sender listener delay
none_longer run sender listener delay all took other a =
    let le = All-contains (TakesAtMost sender listener delay) run other all a.there a.sent a.at a.arrived in
    omega (arith, le, a.after)

pub no_travel : Travel
no_travel = record {
  release = record { at = record { 0 = 0 }; sender = 0; octets = 0 };
  hops = [];
  ending = Discard;
  copies = [];
}

-- when a frame arrives
abbrev arrival_of : Ending → ℕ
arrival_of (Sink at) = at.0
arrival_of Discard = 0

-- one frame of the sender, or of another one
pub takes : (sender release arrival delay : ℕ) (at : Ps) → arrival - release ≤ delay
    → Sink (record { 0 = arrival }) ≡ Sink at → at.0 - release ≤ delay
takes sender release arrival delay at le arrived =
    let same : arrival ≡ at.0 = ap arrival_of arrived in
    omega (arith, le, same)

alone_takes : All (TakesAtMost 0 0 26672000) alone
alone_takes zero d h sent at arrived = takes 0 1 26672001 26672000 at (lit≤ tt) arrived
alone_takes (suc k) d h sent at arrived = absurd (omega (arith, h))

behind_takes : All (TakesAtMost 0 0 39008000) behind_the_other
behind_takes zero d h sent at arrived = takes 0 1 39008001 39008000 at (lit≤ tt) arrived
behind_takes (suc zero) d h sent at arrived = absurd (let no : 1 ≡ 0 = sent in omega (arith, no))
behind_takes (suc (suc k)) d h sent at arrived = absurd (omega (arith, h))

before_takes : All (TakesAtMost 0 0 26672000) before_the_other
before_takes zero d h sent at arrived = takes 0 1 26672001 26672000 at (lit≤ tt) arrived
before_takes (suc zero) d h sent at arrived = absurd (let no : 1 ≡ 0 = sent in omega (arith, no))
before_takes (suc (suc k)) d h sent at arrived = absurd (omega (arith, h))

line_takes : All (TakesAtMost 0 0 39007999) behind_a_flow
line_takes zero d h sent at arrived = absurd (let no : 1 ≡ 0 = sent in omega (arith, no))
line_takes (suc zero) d h sent at arrived = takes 0 1 39008000 39007999 at (lit≤ tt) arrived
line_takes (suc (suc k)) d h sent at arrived = absurd (omega (arith, h))

-- the frame of the first stream stands at this place of the run, and takes so long to a listener
pub greatest_to : (run : List Travel) (listener place arrival delay : ℕ) (j : Travel) → place < length run
    → slice_index_or run place j ≡ j → j.release.sender ≡ 0
    → (leg_in j listener).ending ≡ Sink (record { 0 = arrival }) → delay ≡ arrival - j.release.at.0
    → All (TakesAtMost 0 listener delay) run → IsGreatestDelay run 0 listener delay
greatest_to run listener place arrival delay j within there sent arrived after all =
    record {
      journey = j;
      one = record {
        there = (place, within, there);
        sent = sent;
        at = record { 0 = arrival };
        arrived = arrived;
        after = after;
      };
      none_longer = none_longer run 0 listener delay all;
    }

-- to the first
greatest_at : (run : List Travel) (place arrival delay : ℕ) (j : Travel) → place < length run
    → slice_index_or run place j ≡ j → j.release.sender ≡ 0 → j.ending ≡ Sink (record { 0 = arrival })
    → delay ≡ arrival - j.release.at.0 → All (TakesAtMost 0 0 delay) run → IsGreatestDelay run 0 0 delay
greatest_at run place arrival delay j within there sent arrived after all =
    greatest_to run 0 place arrival delay j within there sent arrived after all

behind_longest : IsGreatestDelay behind_the_other 0 0 39008000
behind_longest = greatest_at behind_the_other 0 39008001 39008000 (get_or behind_the_other 0 no_travel) (lit< tt) refl
    refl refl refl behind_takes

line_longest : IsGreatestDelay behind_a_flow 0 0 39007999
line_longest = greatest_at behind_a_flow 1 39008000 39007999 (get_or behind_a_flow 1 no_travel) (lit< tt) refl refl refl
    refl line_takes

pub found_delays_are_met : FoundDelaysAreMet
found_delays_are_met = record {
  fork_rules = fork_is;
  fork_first = fork_first;
  fork_second = fork_second;
  fork_alone = record {
    run = alone;
    of_burst = record {
      by = run_by (last_key 0) greatest_wait fork alone refl refl refl;
      burst = fork_first;
    };
    greatest = greatest_at alone 0 26672001 26672000 (get_or alone 0 no_travel) (lit< tt) refl refl refl refl
        alone_takes;
  };
  fork_together = record {
    run = behind_the_other;
    of_burst = record {
      by = run_by (last_key 0) greatest_wait fork behind_the_other refl refl refl;
      burst = fork_second;
    };
    greatest = behind_longest;
  };
  fork_greatest = best_takes (λ n. n) (26672000 ∷ 39008000 ∷ []) 1 0 (best_none (λ n. n) (26672000 ∷ 39008000 ∷ []))
      (λ d. lit< tt);
  fork_bound = refl;
  line_rules = with_flow_is;
  line_first = line_first;
  line_second = line_second;
  line_behind = record {
    run = behind_a_flow;
    of_burst = record { by = line_run; burst = line_first };
    greatest = line_longest;
  };
  line_also = record {
    run = behind_a_flow;
    of_burst = record { by = line_run; burst = line_second };
    greatest = line_longest;
  };
  line_greatest = best_keeps (λ n. n) (39007999 ∷ 39007999 ∷ []) 1 0 (best_none (λ n. n) (39007999 ∷ 39007999 ∷ []))
      (λ d. lit≤ tt);
  line_bound = refl;
}
  where
    line_run : IsRunBy (last_key 0) greatest_wait line_and_flow behind_a_flow
    line_run = run_by (last_key 0) greatest_wait line_and_flow behind_a_flow refl refl refl

-- the bursts at the ports of a stream with two listeners: at the first and at that of the branch it is alone
split_first_each : (i : ℕ) → releases_by i (release 1 0 ∷ []) ≡ burst_of split_and_flow 0 6 i
split_first_each zero = refl
split_first_each (suc zero) = refl
split_first_each (suc (suc i)) = skips (suc (suc i)) (release 1 0) [] (omega arith)

split_first : IsBurstFor split_and_flow 0 0 (release 1 0 ∷ [])
split_first = record { of_each = split_first_each; in_order = one_release (release 1 0) }

split_branch_each : (i : ℕ) → releases_by i (release 1 0 ∷ []) ≡ burst_of split_and_flow 4 6 i
split_branch_each zero = refl
split_branch_each (suc zero) = refl
split_branch_each (suc (suc i)) = skips (suc (suc i)) (release 1 0) [] (omega arith)

split_branch : IsBurstFor split_and_flow 0 4 (release 1 0 ∷ [])
split_branch = record { of_each = split_branch_each; in_order = one_release (release 1 0) }

-- and at the trunk's second port the flow is ahead
split_trunk_each : (i : ℕ) → releases_by i (release 0 1 ∷ release 1 0 ∷ []) ≡ burst_of split_and_flow 2 6 i
split_trunk_each zero = refl
split_trunk_each (suc zero) = refl
split_trunk_each (suc (suc i)) =
    skips (suc (suc i)) (release 0 1) (release 1 0 ∷ []) (omega arith)
    ∙ skips (suc (suc i)) (release 1 0) [] (omega arith)

split_trunk : IsBurstFor split_and_flow 0 2 (release 0 1 ∷ release 1 0 ∷ [])
split_trunk = record {
  of_each = split_trunk_each;
  in_order = two_releases (release 0 1) (release 1 0) (inl (lit< tt));
}

-- what the frame takes alone, and what it and its copy take behind the flow's
both_take : (listener : ℕ) → listener < 2 → All (TakesAtMost 0 listener 26672000) alone_to_both
both_take zero small zero d h sent at arrived = takes 0 1 26672001 26672000 at (lit≤ tt) arrived
both_take (suc zero) small zero d h sent at arrived = takes 0 1 26672001 26672000 at (lit≤ tt) arrived
both_take (suc (suc n)) small zero d h sent at arrived = absurd (omega (arith, small))
both_take listener small (suc k) d h sent at arrived = absurd (omega (arith, h))

waiting_takes : All (TakesAtMost 0 0 39007999) behind_flow
waiting_takes zero d h sent at arrived = absurd (let no : 1 ≡ 0 = sent in omega (arith, no))
waiting_takes (suc zero) d h sent at arrived = takes 0 1 39008000 39007999 at (lit≤ tt) arrived
waiting_takes (suc (suc k)) d h sent at arrived = absurd (omega (arith, h))

copy_takes : All (TakesAtMost 0 1 26672000) behind_flow
copy_takes zero d h sent at arrived = absurd (let no : 1 ≡ 0 = sent in omega (arith, no))
copy_takes (suc zero) d h sent at arrived = takes 0 1 26672001 26672000 at (lit≤ tt) arrived
copy_takes (suc (suc k)) d h sent at arrived = absurd (omega (arith, h))

-- the delay of a frame alone for a listener, at a port where it is so
alone_found : (listener port : ℕ) → listener < 2 → IsBurstFor split_and_flow 0 port (release 1 0 ∷ [])
    → (leg_in (get_or alone_to_both 0 no_travel) listener).ending ≡ Sink (record { 0 = 26672001 })
    → IsFoundAt split_and_flow 0 listener port 26672000
alone_found listener port small burst arrived = record {
  run = alone_to_both;
  of_burst = record {
    by = run_by (last_key 0) greatest_wait split_and_flow alone_to_both refl refl refl;
    burst = burst;
  };
  greatest = greatest_to alone_to_both listener 0 26672001 26672000 (get_or alone_to_both 0 no_travel) (lit< tt) refl
      refl arrived refl (both_take listener small);
}

waiting_run : IsBurstRun split_and_flow 0 2 behind_flow
waiting_run = record {
  by = run_by (last_key 0) greatest_wait split_and_flow behind_flow refl refl refl;
  burst = split_trunk;
}

copy_longest : IsGreatestDelay behind_flow 0 1 26672000
copy_longest = greatest_to behind_flow 1 1 26672001 26672000 (get_or behind_flow 1 no_travel) (lit< tt) refl refl refl
    refl copy_takes

pub each_listener_is_found : EachListenerIsFound
each_listener_is_found = record {
  rules = split_and_flow_is;
  first = record {
    each = (
      alone_found 0 0 (lit< tt) split_first refl,
      (
        record {
          run = behind_flow;
          of_burst = waiting_run;
          greatest = greatest_at behind_flow 1 39008000 39007999 (get_or behind_flow 1 no_travel) (lit< tt) refl refl
              refl refl waiting_takes;
        },
        tt,
      ),
    );
    first = best_takes (λ n. n) (26672000 ∷ 39007999 ∷ []) 1 0 (best_none (λ n. n) (26672000 ∷ 39007999 ∷ []))
        (λ d. lit< tt);
    burst = split_trunk;
  };
  second = record {
    each = (alone_found 1 0 (lit< tt) split_first refl, (alone_found 1 4 (lit< tt) split_branch refl, tt));
    first = best_keeps (λ n. n) (26672000 ∷ 26672000 ∷ []) 1 0 (best_none (λ n. n) (26672000 ∷ 26672000 ∷ []))
        (λ d. lit≤ tt);
    burst = split_first;
  };
  branch = split_branch;
  beside = record { run = behind_flow; of_burst = waiting_run; greatest = copy_longest };
  not_of_first = λ greatest. (let no : 39007999 ≤ 26672000 =
      copy_longest.none_longer 39007999 greatest.journey greatest.one in omega (arith, no));
  first_bound = refl;
  second_bound = refl;
}

not_early : ¬ IsBurstFor fork 0 2 (release 0 1 ∷ release 1 0 ∷ [])
not_early burst =
    let no : 0 ≡ 1 = ap (λ (l : List Release). (get_or l 0 (release 0 0)).at.0) (burst.of_each 1) in
    omega (arith, no)

not_turned : ¬ IsBurstFor fork 0 2 (release 1 1 ∷ release 1 0 ∷ [])
not_turned burst = out (burst.in_order 0 1 (release 0 0) (lit< tt) (lit< tt))
  where
    out : (1 < 1) ⊎ ((◌≡◌ {A = ℕ} 1 1) × (1 ≤ 0)) → ⊥
    out (inl less) = omega (arith, less)
    out (inr same) = (let no : 1 ≤ 0 = same.1 in omega (arith, no))

pub bursts_count : BurstsCount
bursts_count = record {
  early = not_early;
  turned = not_turned;
  no_longer = λ greatest. (let no : 39008001 ≤ 39008000 =
      behind_longest.none_longer 39008001 greatest.journey greatest.one in omega (arith, no));
  goes_first = run_by (λ sender frame. frame) greatest_wait fork before_the_other refl refl refl;
  takes_less = greatest_at before_the_other 0 26672001 26672000 (get_or before_the_other 0 no_travel) (lit< tt) refl
      refl refl refl before_takes;
}
