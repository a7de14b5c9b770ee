use Rattle.std.proofs.Common.{◌≡◌, ◌∙◌, ℕ, zero, suc, ◌+◌, ◌<◌, ◌≤◌, ◌⊎◌, inl, inr, Bool, true, false, cond, not, ◌&&◌}
use Rattle.std.proofs.Common.{List, [], ◌∷◌, ◌++◌, length, get_or, Option, Some, None, refl, sym, ap, subst, arith}
use Rattle.std.proofs.Common.{filter}
use Rattle.std.specs.Prelude.{is_some}
use Rattle.std.specs.List.{All, AllPairs, find, flat_map, range_with_len}
use Rattle.std.specs.List.Sorted.{ties}
use Rattle.std.specs.Option.{option_map}
use Rattle.std.specs.Ordering.{is_lt, nat_cmp, ordering_then}
use Rattle.std.specs.declared.cmp.Ordering.{Ordering}
use Rattle.std.specs.declared.cmp.Ordering.TheVariants.{Equal, Less}
use Rattle.std.proofs.lemmas.Bool.{cases_order, false≢true, true≢false}
use Rattle.std.proofs.lemmas.Bool.Decides.{nat_tests}
use Rattle.std.proofs.lemmas.List.Elements.{All-append, All-cons, All-head, All-nil, All-tail}
use Rattle.std.proofs.lemmas.List.Folds.{list_all-map}
use Rattle.std.proofs.lemmas.List.Kept.{AllPairs-cons, AllPairs-filter}
use Rattle.std.proofs.lemmas.List.Sorted.{sorted_far}
use Rattle.std.proofs.lemmas.List.Sums.{AllPass-from_list_all}
use Rattle.std.proofs.lemmas.Option.{none-some, same_Some}
use Rattle.ats_facts.proofs.Lists.{All-from_filter, pairs_head, pairs_tail}
use Rattle.ats_streams.specs.Stream.{DeclaredStream}
use Rattle.ats_network.specs.Listeners.{Listener}
use Rattle.ats_network.specs.Network.{DeclaredNetwork, senders_of}
use Rattle.ats_network.specs.Senders.{sender_at}
use Rattle.ats_explain.specs.Margins.{is_no_slacker, is_tightest, margin_of, margins_of, tightest_listener}
use Rattle.ats_explain.specs.Totals.{tightest_with}
use Rattle.ats_explain.specs.declared.margin.Margin.{Margin}
use Rattle.ats_explain.specs.declared.totals.Tightest.{Tightest}
use Rattle.ats_settings.specs.Settings.{hop_settings, port_behind, sender_settings}
use Rattle.ats_settings.specs.Settings.{setting_at, settings_at}
use Rattle.ats_settings.specs.declared.setting.Setting.{Setting}
use Rattle.ats_network_text.specs.Text as show
use Rattle.ats_explain_text.specs.Text as explain
use Rattle.ats_tree_bound_examples.specs.FileOrder.{AllIsInFileOrder, ExplainIsInOrder, FirstHasGreaterName}
use Rattle.ats_tree_bound_examples.specs.FileOrder.{FirstTightestIsTold, HasNoMoreSlack, IsFirstTightest, IsSetBefore}
use Rattle.ats_tree_bound_examples.specs.FileOrder.{SettingsAreInOrder, ShowIsInOrder, listeners_in_order}
use Rattle.ats_tree_bound_examples.specs.FileOrder.{turned_by_class}
use Rattle.ats_tree_bound_examples.proofs.SettingsProofs.{before, only, ranks}

-- Texts and totals by unfolding, the first of the tightest by how it is searched, and settings by how they are sorted.

show_is : ShowIsInOrder
unfolding show.show_text
show_is network = refl

explain_is : ExplainIsInOrder
unfolding explain.explain_text
explain_is network = refl

-- what a search finds, and what it went by
record IsFoundFirst {X : Type 0} (test : X → Bool) (xs : List X) (x : X) : Type 0 where
  front : List X
  back : List X
  cut : front ++ x ∷ back ≡ xs
  passes : test x ≡ true
  earlier : All (λ (y : X). test y ≡ false) front

found_first : {X : Type 0} (test : X → Bool) (xs : List X) (x : X) → find test xs ≡ Some x → IsFoundFirst test xs x
found_first test [] x h = absurd (none-some x h)
found_first {X} test (y ∷ ys) x h = by (test y) refl h (found_first test ys x)
  where
    by : (b : Bool) → test y ≡ b → cond b (Some y) (find test ys) ≡ Some x
        → (find test ys ≡ Some x → IsFoundFirst test ys x) → IsFoundFirst test (y ∷ ys) x
    by true e k later = subst (IsFoundFirst test (y ∷ ys)) (same_Some y x k) (record {
      front = [];
      back = ys;
      cut = refl;
      passes = e;
      earlier = All-nil (λ (z : X). test z ≡ false);
    })
    by false e k later =
        let more = later k in
        record {
          front = y ∷ more.front;
          back = more.back;
          cut = ap (λ (zs : List X). y ∷ zs) more.cut;
          passes = more.passes;
          earlier = All-cons (λ (z : X). test z ≡ false) y more.front e more.earlier;
        }

-- the test of slack is its meaning, both ways
no_slacker : (a b : Margin) → is_no_slacker a b ≡ true → HasNoMoreSlack a b
no_slacker a b h = grind (arith, nat_tests)

is_no_slack : (a b : Margin) → HasNoMoreSlack a b → is_no_slacker a b ≡ true
is_no_slack a b h = grind (arith, nat_tests)

-- what has no more slack than a tightest one is a tightest one
as_tight : (a b : Margin) (margins : List Margin) → HasNoMoreSlack a b → is_tightest margins b ≡ true
    → is_tightest margins a ≡ true
as_tight a b [] less h = refl
as_tight a b (m ∷ margins) less h = by (is_no_slacker b m) refl h (as_tight a b margins less)
  where
    by : (t : Bool) → is_no_slacker b m ≡ t → (t && is_tightest margins b) ≡ true
        → (is_tightest margins b ≡ true → is_tightest margins a ≡ true)
        → (is_no_slacker a m && is_tightest margins a) ≡ true
    by false e k further = absurd (false≢true k)
    by true e k further =
        let than : HasNoMoreSlack b m = no_slacker b m e in
        let here : is_no_slacker a m ≡ true = is_no_slack a m (omega (arith, less, than)) in
        ap (λ (t : Bool). t && is_tightest margins a) here ∙ further k

-- a mapped option that is there was there
told_one : {X Y : Type 0} (f : X → Y) (o : Option X) (y : Y) → option_map f o ≡ Some y
    → (x : X) × (o ≡ Some x) × (f x ≡ y)
told_one f None y h = absurd (none-some y h)
told_one f (Some x) y h = (x, refl, same_Some (f x) y h)

first_tightest : FirstTightestIsTold
first_tightest network told h =
    let one = told_one (tightest_with network) (tightest_listener network) told h in
    by one.0 one.2 (found_first test (listeners_in_order network) one.0 one.1)
  where
    test : DeclaredStream × Listener → Bool
    test other = is_tightest (margins_of network) (margin_of network other)

    by : (one : DeclaredStream × Listener) → tightest_with network one ≡ told
        → IsFoundFirst test (listeners_in_order network) one → IsFirstTightest network told
    by one same found = record {
      before = found.front;
      one = one;
      after = found.back;
      cut = found.cut;
      name = ap (λ (t : Tightest). t.name) (sym same);
      listener = ap (λ (t : Tightest). t.listener) (sym same);
      margin = ap (λ (t : Tightest). t.margin) (sym same);
      least = λ k d below. no_slacker (margin_of network one)
          (margin_of network (get_or (listeners_in_order network) k d))
          (AllPass-from_list_all (λ (other : DeclaredStream × Listener). is_no_slacker (margin_of network one)
          (margin_of network other)) (listeners_in_order network)
          (sym (list_all-map (is_no_slacker (margin_of network one)) (margin_of network) (listeners_in_order network))
          ∙ found.passes) k d below);
      first = λ k d below no_more. true≢false (sym (as_tight (margin_of network (get_or found.front k d))
          (margin_of network one) (margins_of network) no_more found.passes) ∙ found.earlier k d below);
    }

-- of settings that are told one sender after another a later one has no lower sender
abbrev IsNoLater : Setting → Setting → Type 0
IsNoLater s t = s.sender ≤ t.sender

abbrev IsOf : ℕ → Setting → Type 0
IsOf sender s = s.sender ≡ sender

of_sender : (network : DeclaredNetwork) (sender : ℕ) (places : List ℕ)
    → All (IsOf sender) (flat_map (settings_at network sender) places)
of_sender network sender [] = All-nil (IsOf sender)
of_sender network sender (place ∷ places) =
    All-append (IsOf sender) (settings_at network sender place) (flat_map (settings_at network sender) places)
    (by (is_some (port_behind network sender place))) (of_sender network sender places)
  where
    by : (b : Bool) → All (IsOf sender) (cond b (setting_at network sender place ∷ []) [])
    by true = All-cons (IsOf sender) (setting_at network sender place) [] refl (All-nil (IsOf sender))
    by false = All-nil (IsOf sender)

-- two lists whose elements are in order, those of the first before those of the second
joined_pairs : (xs ys : List Setting) → AllPairs IsNoLater xs → AllPairs IsNoLater ys
    → All (λ (x : Setting). All (IsNoLater x) ys) xs → AllPairs IsNoLater (xs ++ ys)
joined_pairs [] ys own others between = others
joined_pairs (x ∷ xs) ys own others between =
    AllPairs-cons IsNoLater x (xs ++ ys)
    (All-append (IsNoLater x) xs ys (pairs_head IsNoLater x xs own)
    (All-head (λ (z : Setting). All (IsNoLater z) ys) x xs between))
    (joined_pairs xs ys (pairs_tail IsNoLater x xs own) others
    (All-tail (λ (z : Setting). All (IsNoLater z) ys) x xs between))

-- the settings of senders from a number on are of no lower sender
from_sender : (network : DeclaredNetwork) (first count : ℕ)
    → All (λ (s : Setting). first ≤ s.sender) (flat_map (sender_settings network) (range_with_len first count))
from_sender network first zero = All-nil (λ (s : Setting). first ≤ s.sender)
from_sender network first (suc count) =
    let own : List Setting = sender_settings network first in
    let more : List Setting = flat_map (sender_settings network) (range_with_len (first + 1) count) in
    let of : All (IsOf first) own =
    of_sender network first (range_with_len 0 (length (sender_at network first).ports)) in
    let later : All (λ (s : Setting). first + 1 ≤ s.sender) more = from_sender network (first + 1) count in
    All-append (λ (s : Setting). first ≤ s.sender) own more (λ k d below. (let e = of k d below in omega (arith, e)))
    (λ k d below. (let e = later k d below in omega (arith, e)))

ascending : (network : DeclaredNetwork) (first count : ℕ)
    → AllPairs IsNoLater (flat_map (sender_settings network) (range_with_len first count))
ascending network first zero = λ i j d before within. absurd (omega (arith, within))
ascending network first (suc count) =
    let own : List Setting = sender_settings network first in
    let more : List Setting = flat_map (sender_settings network) (range_with_len (first + 1) count) in
    let of : All (IsOf first) own =
    of_sender network first (range_with_len 0 (length (sender_at network first).ports)) in
    let later : All (λ (s : Setting). first + 1 ≤ s.sender) more = from_sender network (first + 1) count in
    joined_pairs own more (λ i j d before within.
    (let a = of i d (omega (arith, before, within)) in let b = of j d within in omega (arith, a, b)))
    (ascending network (first + 1) count)
    (λ k d below. λ m e within. (let a = of k d below in let b = later m e within in omega (arith, a, b)))

-- what holds of pairs of those that pass holds of those of all that pass
pairs_unfiltered : (test : Setting → Bool) (xs : List Setting) → AllPairs IsNoLater (filter test xs)
    → AllPairs (λ (s t : Setting). test s ≡ true → test t ≡ true → IsNoLater s t) xs
pairs_unfiltered test [] pairs = λ i j d before within. absurd (omega (arith, within))
pairs_unfiltered test (x ∷ xs) pairs = by (test x) refl pairs (pairs_unfiltered test xs)
  where
    Passing : Setting → Setting → Type 0
    Passing s t = test s ≡ true → test t ≡ true → IsNoLater s t

    by : (b : Bool) → test x ≡ b → AllPairs IsNoLater (cond b (x ∷ filter test xs) (filter test xs))
        → (AllPairs IsNoLater (filter test xs) → AllPairs Passing xs) → AllPairs Passing (x ∷ xs)
    by false e kept further =
        AllPairs-cons Passing x xs (λ k d below here there. absurd (false≢true (sym e ∙ here)))
        (further kept)
    by true e kept further =
        let later = All-from_filter test (IsNoLater x) xs (pairs_head IsNoLater x (filter test xs) kept) in
        AllPairs-cons Passing x xs (λ k d below here there. later k d below there)
        (further (pairs_tail IsNoLater x (filter test xs) kept))

-- how the numbers of two places compare
abbrev compared : ℕ → ℕ → ℕ → ℕ → ℕ → ℕ → Bool
compared a x b y c z = is_lt (ordering_then (ordering_then (nat_cmp a x) (nat_cmp b y)) (nat_cmp c z))

-- a setting that is not before another one by its place: the other one is before it, or they tie
set_before : (s t : Setting) → before t s ≡ false → (before s t ≡ false → s.sender ≤ t.sender) → IsSetBefore s t
set_before s t after tied = by_bridge (cases_order s.bridge t.bridge)
  where
    less : (a x : ℕ) → a < x → nat_cmp a x ≡ Less
    less a x h = grind (arith, nat_tests)

    equal : (a x : ℕ) → a ≡ x → nat_cmp a x ≡ Equal
    equal a x h = grind (arith, nat_tests)

    -- of two numbers, where the first is equal and then the second
    second : Ordering → Ordering → Bool
    second p q = is_lt (ordering_then (ordering_then Equal p) q)

    by_class : s.bridge ≡ t.bridge → s.received_from ≡ t.received_from
        → (s.class ≡ t.class) ⊎ ((s.class < t.class) ⊎ (t.class < s.class))
        → (s.class < t.class) ⊎ ((s.class ≡ t.class) × (s.sender ≤ t.sender))
    by_class bridge port (inr (inl below)) = inl below
    by_class bridge port (inr (inr above)) =
        absurd (false≢true (sym after
        ∙ ap (λ (o : Ordering). is_lt (ordering_then (ordering_then o (nat_cmp t.received_from s.received_from))
        (nat_cmp t.class s.class))) (equal t.bridge s.bridge (sym bridge))
        ∙ ap (λ (o : Ordering). second o (nat_cmp t.class s.class)) (equal t.received_from s.received_from (sym port))
        ∙ ap (second Equal) (less t.class s.class above)))
    by_class bridge port (inl class) =
        inr (
          class,
          tied (ap (λ (o : Ordering). is_lt (ordering_then (ordering_then o
              (nat_cmp s.received_from t.received_from)) (nat_cmp s.class t.class))) (equal s.bridge t.bridge bridge)
              ∙ ap (λ (o : Ordering). second o (nat_cmp s.class t.class)) (equal s.received_from t.received_from port)
              ∙ ap (second Equal) (equal s.class t.class class)),
        )

    by_port : s.bridge ≡ t.bridge
        → (s.received_from ≡ t.received_from)
        ⊎ ((s.received_from < t.received_from) ⊎ (t.received_from < s.received_from))
        → (s.received_from < t.received_from)
        ⊎ ((s.received_from ≡ t.received_from) × ((s.class < t.class) ⊎ ((s.class ≡ t.class) × (s.sender ≤ t.sender))))
    by_port bridge (inr (inl below)) = inl below
    by_port bridge (inr (inr above)) =
        absurd (false≢true (sym after
        ∙ ap (λ (o : Ordering). is_lt (ordering_then (ordering_then o (nat_cmp t.received_from s.received_from))
        (nat_cmp t.class s.class))) (equal t.bridge s.bridge (sym bridge))
        ∙ ap (λ (o : Ordering). second o (nat_cmp t.class s.class)) (less t.received_from s.received_from above)))
    by_port bridge (inl port) = inr (port, by_class bridge port (cases_order s.class t.class))

    by_bridge : (s.bridge ≡ t.bridge) ⊎ ((s.bridge < t.bridge) ⊎ (t.bridge < s.bridge)) → IsSetBefore s t
    by_bridge (inr (inl below)) = inl below
    by_bridge (inr (inr above)) =
        absurd (false≢true (sym after
        ∙ ap (λ (o : Ordering). is_lt (ordering_then (ordering_then o (nat_cmp t.received_from s.received_from))
        (nat_cmp t.class s.class))) (less t.bridge s.bridge above)))
    by_bridge (inl bridge) = inr (bridge, by_port bridge (cases_order s.received_from t.received_from))

both_ties : (a b : Bool) → a ≡ false → b ≡ false → (not a && not b) ≡ true
both_ties a b h g = ap (λ (t : Bool). not t && not b) h ∙ ap (λ (t : Bool). not t) g

itself : (s : Setting) → before s s ≡ false
itself s = by (before s s) (ranks.one_way s s)
  where
    by : (b : Bool) → (b ≡ true → b ≡ false) → b ≡ false
    by true less = less refl
    by false less = refl

settings_in_order : SettingsAreInOrder
settings_in_order network settings are i j d below within =
    let s : Setting = get_or settings i d in
    let t : Setting = get_or settings j d in
    let after : before t s ≡ false =
    sorted_far before ranks settings are.by_place i j d (omega (arith, below)) within in
    set_before s t after (λ no_less. kept s i j d below within
    (both_ties (before s s) (before s s) (itself s) (itself s))
    (both_ties (before s t) (before t s) no_less after))
  where
    kept : (x : Setting)
        → AllPairs (λ (s t : Setting). ties before x s ≡ true → ties before x t ≡ true → IsNoLater s t) settings
    kept x = pairs_unfiltered (ties before x) settings (subst (AllPairs IsNoLater) (sym (are.ties x))
        (AllPairs-filter IsNoLater (ties before x) (hop_settings network)
        (ascending network 0 (length (senders_of network)))))

worked : FirstHasGreaterName
worked = record { of_two = refl; behind = refl; settings = only (turned_by_class 50000) _ refl }

pub all_is_in_file_order : AllIsInFileOrder
all_is_in_file_order = record {
  show = show_is;
  explain = explain_is;
  late = λ network. refl;
  tightest = first_tightest;
  settings = settings_in_order;
  worked = worked;
}
