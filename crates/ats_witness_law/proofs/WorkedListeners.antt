-- What is found for a listener whose ports are not those of the trunk.
use Rattle.std.proofs.Common.{◌≡◌, ℕ, zero, suc, ◌<◌, List, [], ◌∷◌, All, refl, ◌∙◌, inl, get_or, arith, lit<, lit≤}
use Rattle.std.proofs.lemmas.List.Sums.{best_keeps, best_none, best_takes}
use Rattle.ats_network.specs.Network.{IsNetwork}
use Rattle.ats_trace.specs.Run.{IsRunBy}
use Rattle.ats_trace.specs.Stored.{leg_in}
use Rattle.ats_trace.specs.declared.journey.Ending.TheVariants.{Sink}
use Rattle.ats_witness.specs.Burst.{IsBurst, IsBurstFor, burst_of, releases_by}
use Rattle.ats_witness.specs.Found.{IsFoundAt, greatest_wait}
use Rattle.ats_witness.specs.Last.{last_key}
use Rattle.ats_examples.proofs.LegalProofs.{run_by}
use Rattle.ats_examples.proofs.NetworkTest.{long_network_by}
use Rattle.ats_tree_examples.specs.Networks.{split, split_links, split_nodes, tree}
use Rattle.ats_tree_examples.proofs.TreeProofs.{tree_is}
use Rattle.ats_witness_law.specs.Worked.{FurtherListenersAreFound, alone_over_tree, alone_to_both, copy_behind_flow}
use Rattle.ats_witness_law.specs.Worked.{release, split_and_flow_to_second}
use Rattle.ats_witness_law.proofs.WorkedBursts.{TakesAtMost, greatest_to, no_travel, one_release, skips, takes}
use Rattle.ats_witness_law.proofs.WorkedBursts.{two_releases}

network_is : IsNetwork split_and_flow_to_second
network_is = long_network_by (split_nodes 1000000) split_links split.streams split_and_flow_to_second.flows refl refl

-- at the trunk's ports the stream is alone
talker_each : (i : ℕ) → releases_by i (release 1 0 ∷ []) ≡ burst_of split_and_flow_to_second 0 6 i
talker_each zero = refl
talker_each (suc zero) = refl
talker_each (suc (suc i)) = skips (suc (suc i)) (release 1 0) [] (omega arith)

at_talker : IsBurstFor split_and_flow_to_second 0 0 (release 1 0 ∷ [])
at_talker = record { of_each = talker_each; in_order = one_release (release 1 0) }

trunk_each : (i : ℕ) → releases_by i (release 1 0 ∷ []) ≡ burst_of split_and_flow_to_second 2 6 i
trunk_each zero = refl
trunk_each (suc zero) = refl
trunk_each (suc (suc i)) = skips (suc (suc i)) (release 1 0) [] (omega arith)

on_trunk : IsBurstFor split_and_flow_to_second 0 2 (release 1 0 ∷ [])
on_trunk = record { of_each = trunk_each; in_order = one_release (release 1 0) }

-- and at the branch's the flow is ahead
branch_each : (i : ℕ) → releases_by i (release 0 1 ∷ release 1 0 ∷ []) ≡ burst_of split_and_flow_to_second 4 6 i
branch_each zero = refl
branch_each (suc zero) = refl
branch_each (suc (suc i)) =
    skips (suc (suc i)) (release 0 1) (release 1 0 ∷ []) (omega arith)
    ∙ skips (suc (suc i)) (release 1 0) [] (omega arith)

on_branch : IsBurstFor split_and_flow_to_second 0 4 (release 0 1 ∷ release 1 0 ∷ [])
on_branch = record {
  of_each = branch_each;
  in_order = two_releases (release 0 1) (release 1 0) (inl (lit< tt));
}

-- what the frame takes alone to either listener, and its copy behind the flow's
both_take : (listener : ℕ) → listener < 2 → All (TakesAtMost 0 listener 26672000) alone_to_both
both_take zero small zero d h sent at arrived = takes 0 1 26672001 26672000 at (lit≤ tt) arrived
both_take (suc zero) small zero d h sent at arrived = takes 0 1 26672001 26672000 at (lit≤ tt) arrived
both_take (suc (suc n)) small zero d h sent at arrived = absurd (omega (arith, small))
both_take listener small (suc k) d h sent at arrived = absurd (omega (arith, h))

copy_takes : All (TakesAtMost 0 1 39007999) copy_behind_flow
copy_takes zero d h sent at arrived = absurd (let no : 1 ≡ 0 = sent in omega (arith, no))
copy_takes (suc zero) d h sent at arrived = takes 0 1 39008000 39007999 at (lit≤ tt) arrived
copy_takes (suc (suc k)) d h sent at arrived = absurd (omega (arith, h))

alone_run : IsRunBy (last_key 0) greatest_wait split_and_flow_to_second alone_to_both
alone_run = run_by (last_key 0) greatest_wait split_and_flow_to_second alone_to_both refl refl refl

-- the delay of a frame alone for a listener, at a port where it is so
alone_found : (listener port : ℕ) → listener < 2 → IsBurstFor split_and_flow_to_second 0 port (release 1 0 ∷ [])
    → (leg_in (get_or alone_to_both 0 no_travel) listener).ending ≡ Sink (record { 0 = 26672001 })
    → IsFoundAt split_and_flow_to_second 0 listener port 26672000
alone_found listener port small burst arrived = record {
  run = alone_to_both;
  of_burst = record { by = alone_run; burst = burst };
  greatest = greatest_to alone_to_both listener 0 26672001 26672000 (get_or alone_to_both 0 no_travel) (lit< tt) refl
      refl arrived refl (both_take listener small);
}

copy_found : IsFoundAt split_and_flow_to_second 0 1 4 39007999
copy_found = record {
  run = copy_behind_flow;
  of_burst = record {
    by = run_by (last_key 0) greatest_wait split_and_flow_to_second copy_behind_flow refl refl refl;
    burst = on_branch;
  };
  greatest = greatest_to copy_behind_flow 1 1 39008000 39007999 (get_or copy_behind_flow 1 no_travel) (lit< tt) refl
      refl refl refl copy_takes;
}

-- over the tree there is no other sender
tree_each : (port : ℕ) → releases_by 0 (release 1 0 ∷ []) ≡ burst_of tree port 6 0
    → (i : ℕ) → releases_by i (release 1 0 ∷ []) ≡ burst_of tree port 6 i
tree_each port first zero = first
tree_each port first (suc i) = skips (suc i) (release 1 0) [] (omega arith)

in_tree : (port : ℕ) → releases_by 0 (release 1 0 ∷ []) ≡ burst_of tree port 6 0
    → IsBurst tree port 6 (release 1 0 ∷ [])
in_tree port first = record { of_each = tree_each port first; in_order = one_release (release 1 0) }

third_takes : All (TakesAtMost 0 2 54344000) alone_over_tree
third_takes zero d h sent at arrived = takes 0 1 54344001 54344000 at (lit≤ tt) arrived
third_takes (suc k) d h sent at arrived = absurd (omega (arith, h))

tree_run : IsRunBy (last_key 0) greatest_wait tree alone_over_tree
tree_run = run_by (last_key 0) greatest_wait tree alone_over_tree refl refl refl

third_found : (port : ℕ) → IsBurstFor tree 0 port (release 1 0 ∷ []) → IsFoundAt tree 0 2 port 54344000
third_found port burst = record {
  run = alone_over_tree;
  of_burst = record { by = tree_run; burst = burst };
  greatest = greatest_to alone_over_tree 2 0 54344001 54344000 (get_or alone_over_tree 0 no_travel) (lit< tt) refl refl
      refl refl third_takes;
}

abbrev four : List ℕ
four = 54344000 ∷ 54344000 ∷ 54344000 ∷ 54344000 ∷ []

pub further_listeners_are_found : FurtherListenersAreFound
further_listeners_are_found = record {
  rules = network_is;
  first = record {
    each = (alone_found 0 0 (lit< tt) at_talker refl, (alone_found 0 2 (lit< tt) on_trunk refl, tt));
    first = best_keeps (λ n. n) (26672000 ∷ 26672000 ∷ []) 1 0 (best_none (λ n. n) (26672000 ∷ 26672000 ∷ []))
        (λ d. lit≤ tt);
    burst = at_talker;
  };
  second = record {
    each = (alone_found 1 0 (lit< tt) at_talker refl, (copy_found, tt));
    first = best_takes (λ n. n) (26672000 ∷ 39007999 ∷ []) 1 0 (best_none (λ n. n) (26672000 ∷ 39007999 ∷ []))
        (λ d. lit< tt);
    burst = on_branch;
  };
  trunk = on_trunk;
  second_bound = refl;
  tree_rules = tree_is;
  third = record {
    each = (
      third_found 0 (in_tree 0 refl),
      (third_found 2 (in_tree 2 refl), (third_found 8 (in_tree 8 refl), (third_found 10 (in_tree 10 refl), tt))),
    );
    first = best_keeps (λ n. n) four 3 0
        (best_keeps (λ n. n) four 2 0 (best_keeps (λ n. n) four 1 0 (best_none (λ n. n) four) (λ d. lit≤ tt))
        (λ d. lit≤ tt))
        (λ d. lit≤ tt);
    burst = in_tree 0 refl;
  };
}
