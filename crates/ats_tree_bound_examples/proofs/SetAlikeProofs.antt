use Rattle.std.proofs.Common.{◌≡◌, ◌≢◌, ℕ, zero, suc, ◌<◌, ◌≤◌, List, [], ◌∷◌, length, All, refl, ap, arith, inl, inr}
use Rattle.std.proofs.Common.{lit<, lit≤}
use Rattle.std.specs.Prelude.{slice_index_or}
use Rattle.std.proofs.lemmas.List.Elements.{All-cons, All-nil}
use Rattle.ats_group.specs.Group.{Offer}
use Rattle.ats_streams.specs.Branches.{no_branch}
use Rattle.ats_network.specs.Network.{IsNetwork, senders_of}
use Rattle.ats_network.specs.Sender.{Sender}
use Rattle.ats_settings.specs.Before.{IsFrom}
use Rattle.ats_settings_law.specs.Laws.{AreSetAlike, IsKnown, IsNamed}
use Rattle.ats_settings_law.proofs.Told.{groups_judge_alike, sizes_pass_alike}
use Rattle.ats_examples.proofs.NetworkTest.{long_network_by}
use Rattle.ats_tree_examples.specs.Networks.{split_and_flow, split_links, split_nodes, tree_branches}
use Rattle.ats_tree_examples.proofs.TreeProofs.{split_and_flow_is}
use Rattle.ats_tree_bound_examples.specs.SetAlike.{FramesGoOn, SetAlikeIsMet, TwoAreSetAlike, frame_of, frames}
use Rattle.ats_tree_bound_examples.specs.SetAlike.{long_of_flow, renamed, settings_of_both, told_of_flow}
use Rattle.ats_tree_bound_examples.specs.Settings.{told_of}
use Rattle.ats_tree_bound_examples.proofs.SettingsProofs.{only}

-- Two networks that are set alike, by computation, and what the laws say of them.

renamed_is : IsNetwork renamed
renamed_is = long_network_by (split_nodes 1000000) split_links renamed.streams renamed.flows refl refl

alike : AreSetAlike split_and_flow renamed settings_of_both
alike = record {
  is_network = split_and_flow_is;
  is_network_too = renamed_is;
  topology = refl;
  is_set = (only split_and_flow settings_of_both refl).are;
  is_set_too = (only renamed settings_of_both refl).are;
}

-- the least octets of the first sender
abbrev least_of : List Sender → ℕ
least_of (s ∷ senders) = s.min_octets
least_of [] = 0

differ : senders_of split_and_flow ≢ senders_of renamed
differ same = let least : ◌≡◌ {A = ℕ} 64 100 = ap least_of same in absurd (omega arith)

of_stream : IsNamed settings_of_both 0 0
of_stream = record {
  setting = told_of 0 100000000 1000000 3 0 2 6;
  among = (0, lit< tt, refl);
  of_sender = refl;
  behind = refl;
}

of_flow : IsNamed settings_of_both 1 5
of_flow = record { setting = told_of_flow; among = (2, lit< tt, refl); of_sender = refl; behind = refl }

known : (arrival octets : ℕ) → 64 ≤ octets → 100 ≤ octets
    → IsKnown split_and_flow renamed settings_of_both 0 (frame_of arrival octets)
unfolding of_stream
known arrival octets long long_there = record {
  named = of_stream;
  scheduler = record { rate_bps = 100000000; burst_bits = 12336; residence_ns = 1000000 };
  shaped = refl;
  not_short = long;
  not_short_there = long_there;
}

abbrev Known : Offer → Type 0
Known offer = IsKnown split_and_flow renamed settings_of_both 0 offer

all_known : All Known frames
all_known =
    All-cons Known (frame_of 13836000 1522)
    (frame_of 26180000 1523 ∷ frame_of 42348000 2000 ∷ frame_of 43308000 100 ∷ [])
    (known 13836000 1522 (lit≤ tt) (lit≤ tt))
    (All-cons Known (frame_of 26180000 1523) (frame_of 42348000 2000 ∷ frame_of 43308000 100 ∷ [])
    (known 26180000 1523 (lit≤ tt) (lit≤ tt))
    (All-cons Known (frame_of 42348000 2000) (frame_of 43308000 100 ∷ []) (known 42348000 2000 (lit≤ tt) (lit≤ tt))
    (All-cons Known (frame_of 43308000 100) [] (known 43308000 100 (lit≤ tt) (lit≤ tt)) (All-nil Known))))

two : TwoAreSetAlike
two = record {
  differ = differ;
  alike = alike;
  known = all_known;
  judged = groups_judge_alike split_and_flow renamed settings_of_both alike 0 frames all_known;
  named = of_flow;
  not_short = lit≤ tt;
  passed = sizes_pass_alike split_and_flow renamed settings_of_both alike 5 long_of_flow of_flow (lit≤ tt) (lit≤ tt);
}

-- none of the tree's branches begins at these places
elsewhere : (place : ℕ) → 3 ≢ place → 4 ≢ place → 6 ≢ place → (n : ℕ) → n < length tree_branches
    → (slice_index_or tree_branches n no_branch).first ≢ place
elsewhere place not_first not_second not_third zero within = not_first
elsewhere place not_first not_second not_third (suc zero) within = not_second
elsewhere place not_first not_second not_third (suc (suc zero)) within = not_third
elsewhere place not_first not_second not_third (suc (suc (suc n))) within = absurd (omega (arith, within))

goes_on : (place : ℕ) → 3 ≢ place → 4 ≢ place → 6 ≢ place → IsFrom tree_branches place place
goes_on place not_first not_second not_third =
    inr (record { elsewhere = elsewhere place not_first not_second not_third; is = refl })

on_trunk : IsFrom tree_branches 1 1
on_trunk = goes_on 1 (λ same. absurd (omega (arith, same))) (λ same. absurd (omega (arith, same)))
    (λ same. absurd (omega (arith, same)))

on_branch : IsFrom tree_branches 5 5
on_branch = goes_on 5 (λ same. absurd (omega (arith, same))) (λ same. absurd (omega (arith, same)))
    (λ same. absurd (omega (arith, same)))

hops : FramesGoOn
hops = record {
  trunk = record {
    judged = record { exists = lit< tt; of_stream = lit≤ tt; later = lit≤ tt; within = lit< tt };
    within = lit< tt;
    from = on_trunk;
  };
  begins = record {
    judged = record { exists = lit< tt; of_stream = lit≤ tt; later = lit≤ tt; within = lit< tt };
    within = lit< tt;
    from = inl (record { branch = 1; exists = lit< tt; begins = refl; is = refl });
  };
  on_branch = record {
    judged = record { exists = lit< tt; of_stream = lit≤ tt; later = lit≤ tt; within = lit< tt };
    within = lit< tt;
    from = on_branch;
  };
  off_branch = record {
    judged = record { exists = lit< tt; of_stream = lit≤ tt; later = lit≤ tt; within = lit< tt };
    within = lit< tt;
    from = inl (record { branch = 2; exists = lit< tt; begins = refl; is = refl });
  };
}

pub set_alike_is_met : SetAlikeIsMet
set_alike_is_met = record { two = two; hops = hops }
