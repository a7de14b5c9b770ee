use Rattle.std.proofs.Common.{◌≡◌, ℕ, zero, suc, ◌<◌, ◌≤◌, ◌∙◌, inl, inr, true, ltb, List, [], ◌∷◌, get_or, All}
use Rattle.std.proofs.Common.{eqb, refl, arith, lit<, lit≤}
use Rattle.std.specs.List.{AllPairs, list_all}
use Rattle.std.proofs.lemmas.Bool.{cond-false, ne_eqb}
use Rattle.std.proofs.lemmas.Bool.Decides.{nat_tests}
use Rattle.std.proofs.lemmas.List.Elements.{All-cons, All-head, All-nil, All-tail}
use Rattle.std.proofs.lemmas.List.Kept.{AllPairs-cons}
use Rattle.std.proofs.lemmas.List.Sums.{AllPass-from_list_all}
use Rattle.ats_network.specs.Network.{DeclaredNetwork}
use Rattle.ats_trace.specs.declared.journey.Release.{Release}
use Rattle.ats_witness.specs.Burst.{ComesBefore, IsBurstFor, burst_of, releases_by}
use Rattle.ats_witness_law.specs.Worked.{release}
use Rattle.ats_examples.specs.Networks.{line_lowered, line_of_classes, ranged_line}
use Rattle.ats_text_examples.specs.Worked.{way}
use Rattle.ats_witness_examples.specs.Networks.{joined, joined_trees, line_of_three}
use Rattle.ats_witness_examples.specs.Bursts.{BurstsAreWorked, BurstsOfTrees, BurstsOfWay, FramesAreWorked}
use Rattle.ats_witness_examples.specs.Bursts.{TravelsAreWorked, sent}

-- Bursts, their frames and travels by computation.

-- releases in order
one : (x : Release) → AllPairs ComesBefore (x ∷ [])
one x i j d before within = absurd (omega (arith, before, within))

two : (x y : Release) → ComesBefore x y → AllPairs ComesBefore (x ∷ y ∷ [])
two x y next = AllPairs-cons ComesBefore x (y ∷ []) (All-cons (ComesBefore x) y [] next (All-nil (ComesBefore x)))
    (one y)

three : (x y z : Release) → ComesBefore x y → ComesBefore x z → ComesBefore y z → AllPairs ComesBefore (x ∷ y ∷ z ∷ [])
three x y z next last between = AllPairs-cons ComesBefore x (y ∷ z ∷ [])
    (All-cons (ComesBefore x) y (z ∷ []) next (All-cons (ComesBefore x) z [] last (All-nil (ComesBefore x))))
    (two y z between)

-- a release of another sender
skips : (i : ℕ) (x : Release) (rest : List Release) → x.sender < i → releases_by i (x ∷ rest) ≡ releases_by i rest
skips i x rest less =
    cond-false (eqb x.sender i) (x ∷ releases_by i rest) (releases_by i rest)
    (ne_eqb x.sender i (λ same. (let no : i < i = omega (arith, less, same) in omega (arith, no))))

none_by : (i : ℕ) (xs : List Release) → All (λ (x : Release). x.sender < i) xs → releases_by i xs ≡ []
none_by i [] all = refl
none_by i (x ∷ xs) all =
    skips i x xs (All-head (λ (x : Release). x.sender < i) x xs all)
    ∙ none_by i xs (All-tail (λ (x : Release). x.sender < i) x xs all)

test_less : (a b : ℕ) → ltb a b ≡ true → a < b
test_less a b h = grind (arith, nat_tests)

-- all of their senders are below this one, and so below each later one
past : (n i : ℕ) (xs : List Release) → list_all (λ (x : Release). ltb x.sender n) xs ≡ true → n ≤ i
    → releases_by i xs ≡ []
past n i xs all most = none_by i xs (λ k d within.
    (let less : (get_or xs k d).sender < n = test_less (get_or xs k d).sender n
    (AllPass-from_list_all (λ (x : Release). ltb x.sender n) xs all k d within) in
    omega (arith, less, most)))

-- the releases of each sender are its frames in the burst at a port for a class
abbrev Each : DeclaredNetwork → ℕ → ℕ → List Release → Type 0
Each network port class xs = (i : ℕ) → releases_by i xs ≡ burst_of network port class i

ranged_each : Each ranged_line 0 6 (release 1 0 ∷ [])
ranged_each zero = refl
ranged_each (suc i) = past 1 (suc i) (release 1 0 ∷ []) refl (omega arith)

pub ranged_first : IsBurstFor ranged_line 0 0 (release 1 0 ∷ [])
ranged_first = record { of_each = ranged_each; in_order = one (release 1 0) }

abbrev together : List Release
together = release 1 0 ∷ release 1 1 ∷ []

abbrev ahead : List Release
ahead = release 0 1 ∷ release 1 0 ∷ []

together_in_order : AllPairs ComesBefore together
together_in_order = two (release 1 0) (release 1 1) (inr (refl, lit≤ tt))

ahead_in_order : AllPairs ComesBefore ahead
ahead_in_order = two (release 0 1) (release 1 0) (inl (lit< tt))

below_each : Each line_of_classes 0 5 together
below_each zero = refl
below_each (suc zero) = refl
below_each (suc (suc i)) = past 2 (suc (suc i)) together refl (omega arith)

above_each : Each line_of_classes 0 6 ahead
above_each zero = refl
above_each (suc zero) = refl
above_each (suc (suc i)) = past 2 (suc (suc i)) ahead refl (omega arith)

lowered_first_each : Each line_lowered 0 6 together
lowered_first_each zero = refl
lowered_first_each (suc zero) = refl
lowered_first_each (suc (suc i)) = past 2 (suc (suc i)) together refl (omega arith)

lowered_each : Each line_lowered 2 5 together
lowered_each zero = refl
lowered_each (suc zero) = refl
lowered_each (suc (suc i)) = past 2 (suc (suc i)) together refl (omega arith)

not_lowered_each : Each line_lowered 2 6 ahead
not_lowered_each zero = refl
not_lowered_each (suc zero) = refl
not_lowered_each (suc (suc i)) = past 2 (suc (suc i)) ahead refl (omega arith)

one_of_three_each : Each line_of_three 0 6 ahead
one_of_three_each zero = refl
one_of_three_each (suc zero) = refl
one_of_three_each (suc (suc i)) = past 2 (suc (suc i)) ahead refl (omega arith)

abbrev four : List Release
four = release 1 0 ∷ release 1 1 ∷ release 1 1 ∷ release 1 1 ∷ []

all_of_three_each : Each line_of_three 0 5 four
all_of_three_each zero = refl
all_of_three_each (suc zero) = refl
all_of_three_each (suc (suc i)) = past 2 (suc (suc i)) four refl (omega arith)

four_in_order : AllPairs ComesBefore four
four_in_order = AllPairs-cons ComesBefore (release 1 0) (release 1 1 ∷ release 1 1 ∷ release 1 1 ∷ [])
    (All-cons Behind (release 1 1) (release 1 1 ∷ release 1 1 ∷ []) (inr (refl, lit≤ tt))
    (All-cons Behind (release 1 1) (release 1 1 ∷ []) (inr (refl, lit≤ tt))
    (All-cons Behind (release 1 1) [] (inr (refl, lit≤ tt)) (All-nil Behind))))
    (three (release 1 1) (release 1 1) (release 1 1) (inr (refl, lit≤ tt)) (inr (refl, lit≤ tt)) (inr (refl, lit≤ tt)))
  where
    Behind : Release → Type 0
    Behind = ComesBefore (release 1 0)

abbrev apart : List Release
apart = release 1 0 ∷ release 13836001 1 ∷ []

joined_each : Each joined 4 6 apart
joined_each zero = refl
joined_each (suc zero) = refl
joined_each (suc (suc i)) = past 2 (suc (suc i)) apart refl (omega arith)

-- the bursts in the worked network, of a frame of each sender
abbrev first_first : List Release
first_first = sent 0 1 1200 ∷ sent 0 2 1400 ∷ sent 1 0 1000 ∷ []

abbrev both_second : List Release
both_second = sent 0 2 1400 ∷ sent 1600001 1 1200 ∷ sent 3200001 0 1000 ∷ []

abbrev first_last : List Release
first_last = sent 0 2 1400 ∷ sent 2240001 1 1200 ∷ sent 4480001 0 1000 ∷ []

abbrev second_first : List Release
second_first = sent 0 2 1400 ∷ sent 1 0 1000 ∷ sent 1 1 1200 ∷ []

abbrev second_last : List Release
second_last = sent 0 2 1400 ∷ sent 2240001 1 1200 ∷ sent 4480000 0 1000 ∷ []

first_first_each : Each way 0 6 first_first
first_first_each zero = refl
first_first_each (suc zero) = refl
first_first_each (suc (suc zero)) = refl
first_first_each (suc (suc (suc i))) = past 3 (suc (suc (suc i))) first_first refl (omega arith)

both_second_each : Each way 2 5 both_second
both_second_each zero = refl
both_second_each (suc zero) = refl
both_second_each (suc (suc zero)) = refl
both_second_each (suc (suc (suc i))) = past 3 (suc (suc (suc i))) both_second refl (omega arith)

first_last_each : Each way 4 4 first_last
first_last_each zero = refl
first_last_each (suc zero) = refl
first_last_each (suc (suc zero)) = refl
first_last_each (suc (suc (suc i))) = past 3 (suc (suc (suc i))) first_last refl (omega arith)

second_first_each : Each way 0 5 second_first
second_first_each zero = refl
second_first_each (suc zero) = refl
second_first_each (suc (suc zero)) = refl
second_first_each (suc (suc (suc i))) = past 3 (suc (suc (suc i))) second_first refl (omega arith)

second_last_each : Each way 4 5 second_last
second_last_each zero = refl
second_last_each (suc zero) = refl
second_last_each (suc (suc zero)) = refl
second_last_each (suc (suc (suc i))) = past 3 (suc (suc (suc i))) second_last refl (omega arith)

of_way : BurstsOfWay
of_way = record {
  first_first = record {
    of_each = first_first_each;
    in_order = three (sent 0 1 1200) (sent 0 2 1400) (sent 1 0 1000) (inr (refl, lit≤ tt)) (inl (lit< tt))
        (inl (lit< tt));
  };
  first_second = record { of_each = both_second_each; in_order = both_in_order };
  first_last = record {
    of_each = first_last_each;
    in_order = three (sent 0 2 1400) (sent 2240001 1 1200) (sent 4480001 0 1000) (inl (lit< tt)) (inl (lit< tt))
        (inl (lit< tt));
  };
  second_first = record {
    of_each = second_first_each;
    in_order = three (sent 0 2 1400) (sent 1 0 1000) (sent 1 1 1200) (inl (lit< tt)) (inl (lit< tt))
        (inr (refl, lit≤ tt));
  };
  second_second = record { of_each = both_second_each; in_order = both_in_order };
  second_last = record {
    of_each = second_last_each;
    in_order = three (sent 0 2 1400) (sent 2240001 1 1200) (sent 4480000 0 1000) (inl (lit< tt)) (inl (lit< tt))
        (inl (lit< tt));
  };
}
  where
    both_in_order : AllPairs ComesBefore both_second
    both_in_order = three (sent 0 2 1400) (sent 1600001 1 1200) (sent 3200001 0 1000) (inl (lit< tt)) (inl (lit< tt))
        (inl (lit< tt))

-- the bursts of two trees
abbrev meeting : List Release
meeting = release 1 0 ∷ release 13836000 2 ∷ release 13836001 1 ∷ []

meeting_each : Each joined_trees 8 6 meeting
meeting_each zero = refl
meeting_each (suc zero) = refl
meeting_each (suc (suc zero)) = refl
meeting_each (suc (suc (suc i))) = past 3 (suc (suc (suc i))) meeting refl (omega arith)

meeting_in_order : AllPairs ComesBefore meeting
meeting_in_order = three (release 1 0) (release 13836000 2) (release 13836001 1) (inl (lit< tt)) (inl (lit< tt))
    (inl (lit< tt))

behind_each : Each joined_trees 10 6 apart
behind_each zero = refl
behind_each (suc zero) = refl
behind_each (suc (suc zero)) = refl
behind_each (suc (suc (suc i))) = past 2 (suc (suc (suc i))) apart refl (omega arith)

abbrev beside_flow : List Release
beside_flow = release 1 0 ∷ release 13836000 2 ∷ []

turned_off_each : Each joined_trees 12 6 beside_flow
turned_off_each zero = refl
turned_off_each (suc zero) = refl
turned_off_each (suc (suc zero)) = refl
turned_off_each (suc (suc (suc i))) = past 3 (suc (suc (suc i))) beside_flow refl (omega arith)

alone_each : Each joined_trees 6 6 (release 1 0 ∷ [])
alone_each zero = refl
alone_each (suc zero) = refl
alone_each (suc (suc zero)) = refl
alone_each (suc (suc (suc i))) = past 1 (suc (suc (suc i))) (release 1 0 ∷ []) refl (omega arith)

of_trees : BurstsOfTrees
of_trees = record {
  meeting = record { of_each = meeting_each; in_order = meeting_in_order };
  of_other = record { of_each = meeting_each; in_order = meeting_in_order };
  behind = record { of_each = behind_each; in_order = two (release 1 0) (release 13836001 1) (inl (lit< tt)) };
  turned_off = record {
    of_each = turned_off_each;
    in_order = two (release 1 0) (release 13836000 2) (inl (lit< tt));
  };
  alone = record { of_each = alone_each; in_order = one (release 1 0) };
}

pub bursts_are_worked : BurstsAreWorked
bursts_are_worked = record {
  below = record { of_each = below_each; in_order = together_in_order };
  above = record { of_each = above_each; in_order = ahead_in_order };
  lowered_first = record { of_each = lowered_first_each; in_order = together_in_order };
  lowered = record { of_each = lowered_each; in_order = together_in_order };
  not_lowered_first = record { of_each = lowered_first_each; in_order = together_in_order };
  not_lowered = record { of_each = not_lowered_each; in_order = ahead_in_order };
  one_of_three = record { of_each = one_of_three_each; in_order = ahead_in_order };
  all_of_three = record { of_each = all_of_three_each; in_order = four_in_order };
  joined = record {
    of_each = joined_each;
    in_order = two (release 1 0) (release 13836001 1) (inl (lit< tt));
  };
  of_way = of_way;
  of_trees = of_trees;
}

pub frames_are_worked : FramesAreWorked
frames_are_worked = record {
  less_than_one = refl;
  one = refl;
  less_than_two = refl;
  two = refl;
  below_most = refl;
  most = refl;
  above_most = refl;
  twice = refl;
}

pub travels_are_worked : TravelsAreWorked
travels_are_worked = record {
  over_first = refl;
  over_second = refl;
  to_first = refl;
  to_second = refl;
  to_last = refl;
  of_second = refl;
  of_flow = refl;
  over_trees = record {
    to_trunk = refl;
    to_first_branch = refl;
    to_second_branch = refl;
    along_it = refl;
    to_last_branch = refl;
    turned = refl;
    of_other = refl;
    of_flow = refl;
    greatest = refl;
  };
  none = refl;
  greatest = refl;
}
