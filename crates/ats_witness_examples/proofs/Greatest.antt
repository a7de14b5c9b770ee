use Rattle.std.proofs.Common.{◌≡◌, ℕ, ◌-◌, ◌<◌, ◌≤◌, ◌∙◌, inr, Bool, true, false, cond, eqb, List, [], get_or}
use Rattle.std.proofs.Common.{length, refl, sym, ap, subst, arith, lit<}
use Rattle.std.specs.Prelude.{nat_le, slice_index_or}
use Rattle.std.specs.List.{list_all}
use Rattle.std.proofs.lemmas.Bool.{eq-eqb}
use Rattle.std.proofs.lemmas.Bool.Decides.{nat_tests}
use Rattle.std.proofs.lemmas.List.Elements.{All-contains}
use Rattle.std.proofs.lemmas.List.Sums.{AllPass-from_list_all}
use Rattle.ats_num.specs.declared.time.Ps.{Ps}
use Rattle.ats_trace.specs.Journey.{Travel}
use Rattle.ats_trace.specs.Stored.{leg_in}
use Rattle.ats_trace.specs.declared.journey.Ending.{Ending}
use Rattle.ats_trace.specs.declared.journey.Ending.TheVariants.{Sink, Discard}
use Rattle.ats_witness.specs.Delay as witness
use Rattle.ats_witness.specs.Delay.{IsGreatestDelay, NoneArrived}
use Rattle.ats_witness.specs.Found.{greatest_wait}
use Rattle.ats_witness.specs.Last.{last_key}
use Rattle.ats_witness_law.specs.Worked.{alone}
use Rattle.ats_examples.specs.Networks.{ranged_line}
use Rattle.ats_examples.specs.Runs.{held_by_group, late, long_frame, regulated}
use Rattle.ats_examples.proofs.LegalProofs.{run_by}
use Rattle.ats_tree_examples.specs.Runs.{late_in_tree, long_split}
use Rattle.ats_witness_examples.specs.Delays.{GreatestIsWorked, GreatestIsWorst, ListenersAreWorked, WaitIsWorked}
use Rattle.ats_witness_examples.proofs.Bursting.{ranged_first}

-- What the frames of closed runs take.

-- a frame that ends so takes at most this delay, if it arrives
abbrev ends_within : ℕ → ℕ → Ending → Bool
ends_within release delay (Sink at) = nat_le (at.0 - release) delay
ends_within release delay Discard = true

-- and so does one of the sender to the listener
abbrev is_within : ℕ → ℕ → ℕ → Travel → Bool
is_within sender listener delay j =
    cond (eqb j.release.sender sender) (ends_within j.release.at.0 delay (leg_in j listener).ending) true

test_le : (a b : ℕ) → nat_le a b ≡ true → a ≤ b
test_le a b h = grind (arith, nat_tests)

takes : (sender listener delay : ℕ) (j : Travel) (at : Ps) → is_within sender listener delay j ≡ true
    → j.release.sender ≡ sender → (leg_in j listener).ending ≡ Sink at → at.0 - j.release.at.0 ≤ delay
takes sender listener delay j at h sent arrived =
    let own : eqb j.release.sender sender ≡ true = eq-eqb j.release.sender sender sent in
    let ends : ends_within j.release.at.0 delay (leg_in j listener).ending ≡ true =
    sym (ap (λ (b : Bool). cond b (ends_within j.release.at.0 delay (leg_in j listener).ending) true) own) ∙ h in
    let sunk : ends_within j.release.at.0 delay (Sink at) ≡ true =
    subst (λ (e : Ending). ends_within j.release.at.0 delay e ≡ true) arrived ends in
    test_le (at.0 - j.release.at.0) delay sunk

none_longer : (run : List Travel) (sender listener delay : ℕ) → list_all (is_within sender listener delay) run ≡ true
    → (took : ℕ) (other : Travel) → witness.ArrivedAfter run sender listener took other → took ≤ delay
none_longer run sender listener delay all took other a =
    let passes : is_within sender listener delay other ≡ true =
    All-contains (λ (j : Travel). is_within sender listener delay j ≡ true) run other
    (AllPass-from_list_all (is_within sender listener delay) run all) a.there in
    let most = takes sender listener delay other a.at passes a.sent a.arrived in
    omega (arith, most, a.after)

-- the frame with the greatest delay for a listener stands at this place of the run
greatest_to : (run : List Travel) (sender listener place arrival delay : ℕ) (j : Travel) → place < length run
    → slice_index_or run place j ≡ j → j.release.sender ≡ sender
    → (leg_in j listener).ending ≡ Sink (record { 0 = arrival }) → delay ≡ arrival - j.release.at.0
    → list_all (is_within sender listener delay) run ≡ true → IsGreatestDelay run sender listener delay
greatest_to run sender listener place arrival delay j within there sent arrived after all = record {
  journey = j;
  one = record {
    there = (place, within, there);
    sent = sent;
    at = record { 0 = arrival };
    arrived = arrived;
    after = after;
  };
  none_longer = none_longer run sender listener delay all;
}

-- and for the first listener
greatest_at : (run : List Travel) (sender place arrival delay : ℕ) (j : Travel) → place < length run
    → slice_index_or run place j ≡ j → j.release.sender ≡ sender → j.ending ≡ Sink (record { 0 = arrival })
    → delay ≡ arrival - j.release.at.0 → list_all (is_within sender 0 delay) run ≡ true
    → IsGreatestDelay run sender 0 delay
greatest_at run sender place arrival delay j within there sent arrived after all =
    greatest_to run sender 0 place arrival delay j within there sent arrived after all

no_travel : Travel
no_travel = record {
  release = record { at = record { 0 = 0 }; sender = 0; octets = 0 };
  hops = [];
  ending = Discard;
  copies = [];
}

longer : IsGreatestDelay regulated 0 0 150032000
longer = greatest_at regulated 0 1 150032000 150032000 (get_or regulated 1 no_travel) (lit< tt) refl refl refl refl refl

of_this : IsGreatestDelay held_by_group 0 0 150032000
of_this = greatest_at held_by_group 0 1 150032000 150032000 (get_or held_by_group 1 no_travel) (lit< tt) refl refl refl
    refl refl

of_that : IsGreatestDelay held_by_group 1 0 150704000
of_that = greatest_at held_by_group 1 2 150704000 150704000 (get_or held_by_group 2 no_travel) (lit< tt) refl refl refl
    refl refl

not_shorter : ¬ IsGreatestDelay regulated 0 0 26672000
not_shorter greatest =
    let no : 150032000 ≤ 26672000 = greatest.none_longer 150032000 longer.journey longer.one in
    omega (arith, no)

not_of_that : ¬ IsGreatestDelay held_by_group 0 0 150704000
not_of_that greatest =
    let no : 150704000 ≤ 150032000 = of_this.none_longer 150704000 greatest.journey greatest.one in
    omega (arith, no)

-- a frame that arrives in a run where each one is discarded
abbrev is_discard : Ending → Bool
is_discard (Sink at) = false
is_discard Discard = true

none_arrived : (run : List Travel) (sender listener : ℕ)
    → list_all (λ (j : Travel). is_discard (leg_in j listener).ending) run ≡ true → NoneArrived run sender listener
none_arrived run sender listener all took journey a =
    let discarded : is_discard (leg_in journey listener).ending ≡ true =
    All-contains (λ (j : Travel). is_discard (leg_in j listener).ending ≡ true) run journey
    (AllPass-from_list_all (λ (j : Travel). is_discard (leg_in j listener).ending) run all) a.there in
    let no : false ≡ true = subst (λ (e : Ending). is_discard e ≡ true) a.arrived discarded in
    cc

worst : GreatestIsWorst
worst run sender listener delay greatest = record {
  none_longer = λ journey took a. greatest.none_longer took journey
      (record { there = a.there; sent = a.sent; at = a.at; arrived = a.arrived; after = a.after });
  one = inr (
    greatest.journey,
    record {
      there = greatest.one.there;
      sent = greatest.one.sent;
      at = greatest.one.at;
      arrived = greatest.one.arrived;
      after = greatest.one.after;
    },
  );
}

pub greatest_is_worked : GreatestIsWorked
greatest_is_worked = record {
  longer = longer;
  not_shorter = not_shorter;
  of_this = of_this;
  of_that = of_that;
  not_of_that = not_of_that;
  beside_late = greatest_at late 0 0 26672000 26672000 (get_or late 0 no_travel) (lit< tt) refl refl refl refl refl;
  none = none_arrived long_frame 0 0 refl;
  worst = worst;
}

-- the second frame of the stream over the tree
tree_first : IsGreatestDelay late_in_tree 0 0 52843999
tree_first = greatest_to late_in_tree 0 0 1 52844000 52843999 (get_or late_in_tree 1 no_travel) (lit< tt) refl refl refl
    refl refl

not_of_third : ¬ IsGreatestDelay late_in_tree 0 0 66679999
not_of_third greatest =
    let no : 66679999 ≤ 52843999 = tree_first.none_longer 66679999 greatest.journey greatest.one in
    omega (arith, no)

pub listeners_are_worked : ListenersAreWorked
listeners_are_worked = record {
  first = tree_first;
  second = greatest_to late_in_tree 0 1 1 26672001 26672000 (get_or late_in_tree 1 no_travel) (lit< tt) refl refl refl
      refl refl;
  third = greatest_to late_in_tree 0 2 1 66680000 66679999 (get_or late_in_tree 1 no_travel) (lit< tt) refl refl refl
      refl refl;
  last = greatest_to late_in_tree 0 3 1 66680000 66679999 (get_or late_in_tree 1 no_travel) (lit< tt) refl refl refl
      refl refl;
  not_of_third = not_of_third;
  no_listener = none_arrived late_in_tree 0 4 refl;
  none = none_arrived long_split 0 1 refl;
}

pub wait_is_worked : WaitIsWorked
wait_is_worked = record {
  whole = refl;
  other = refl;
  of_late = λ frame spread. refl;
  found = record {
    run = alone;
    of_burst = record {
      by = run_by (last_key 0) greatest_wait ranged_line alone refl refl refl;
      burst = ranged_first;
    };
    greatest = greatest_at alone 0 0 26672001 26672000 (get_or alone 0 no_travel) (lit< tt) refl refl refl refl refl;
  };
}
