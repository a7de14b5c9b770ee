use Rattle.std.proofs.Common.{◌≡◌, ℕ, ◌+◌, ◌<◌, ◌≤◌, ◌⊎◌, inl, inr, Bool, true, false, cond, List, [], ◌∷◌, get_or}
use Rattle.std.proofs.Common.{map, fold, length, Option, Some, None, refl, sym, ap, subst, ◌∙◌, arith, eqb}
use Rattle.std.specs.Prelude.{max, slice_get}
use Rattle.std.specs.List.{All, Contains, find, list_all}
use Rattle.std.proofs.lemmas.Bool.{cases_lt, eq-eqb, eqb-true, false≢true, lt-ltb}
use Rattle.std.proofs.lemmas.Bool.Decides.{nat_tests}
use Rattle.std.proofs.lemmas.List.Elements.{All-contains, All-contains_itself, All-filter, All-head, All-nil, All-tail}
use Rattle.std.proofs.lemmas.List.Elements.{All-cons, filter_passes}
use Rattle.std.proofs.lemmas.List.Folds.{list_all-map}
use Rattle.std.proofs.lemmas.List.Sums.{AllPass-from_list_all}
use Rattle.std.proofs.lemmas.Option.{get_or_from_slice_get, none-some, same_Some, slice_get-get_or, slice_get_within}
use Rattle.ats_network.specs.Edits.{no_stream}
use Rattle.ats_tally.specs.Delays.{sums_for}
use Rattle.ats_tally.specs.declared.reason.Reason.{Reason}
use Rattle.ats_tally.proofs.Lists.{Contains-found}
use Rattle.ats_bound.specs.Least.{least_certificate}
use Rattle.ats_bound.proofs.NoneHolds.{no_reason_held}
use Rattle.ats_explain.specs.Margins.{StreamListener, all_listeners, is_no_slacker, is_tightest, margin_of, margins_of}
use Rattle.ats_explain.specs.declared.margin.Margin.{Margin}
use Rattle.ats_trace.specs.Journey.{Travel}
use Rattle.ats_trace.specs.Stored.{leg_in}
use Rattle.ats_trace.specs.declared.journey.Ending.{Ending}
use Rattle.ats_trace.specs.declared.journey.Ending.TheVariants.{Sink, Discard}
use Rattle.ats_replay.specs.Report.{bound_of}
use Rattle.ats_replay.specs.Summary.{delay_to, frames_of, place_of}
use Rattle.ats_command_due.specs.Generated.{sums_unless}
use Rattle.ats_text_examples.specs.Measures.{ArrivedAfter, BoundIsLeastSum, IsWorst, MeasuresAreMeant}
use Rattle.ats_text_examples.specs.Measures.{SummaryHasWorst, SumsAreOfReason, SumsAreWorked, TightestIsTightest}
use Rattle.ats_text_examples.specs.Measures.{TightestIsWorked}
use Rattle.ats_text_examples.proofs.SumPlaces.{place_within, sum_at_place}

-- What the tightest listener, the worst delay and a printed bound are.

-- what a search finds passes
found_passes : {X : Type 0} (test : X → Bool) (xs : List X) (x : X) → find test xs ≡ Some x → test x ≡ true
found_passes test [] x h = absurd (none-some x h)
found_passes {X} test (y ∷ ys) x h = by (test y) refl h (found_passes test ys x)
  where
    by : (b : Bool) → test y ≡ b → cond b (Some y) (find test ys) ≡ Some x
        → (find test ys ≡ Some x → test x ≡ true) → test x ≡ true
    by true e k later = subst (λ (z : X). test z ≡ true) (same_Some y x k) e
    by false e k later = later k

no_slacker : (a b : Margin) → is_no_slacker a b ≡ true → a.deadline + b.sum ≤ b.deadline + a.sum
no_slacker a b h = grind (arith, nat_tests)

tightest_is_tightest : TightestIsTightest
tightest_is_tightest network one found = record {
  there = Contains-found test (all_listeners network) one found;
  least = λ k d within. no_slacker (margin_of network one) (margin_of network (get_or (all_listeners network) k d))
      (AllPass-from_list_all passing (all_listeners network) all k d within);
}
  where
    test : StreamListener → Bool
    test other = is_tightest (margins_of network) (margin_of network other)

    passing : StreamListener → Bool
    passing other = is_no_slacker (margin_of network one) (margin_of network other)

    all : list_all passing (all_listeners network) ≡ true
    all = sym (list_all-map (is_no_slacker (margin_of network one)) (margin_of network) (all_listeners network))
        ∙ found_passes test (all_listeners network) one found

-- the greater of two numbers is one of them
max_one : (a b : ℕ) → (max a b ≡ a) ⊎ (max a b ≡ b)
max_one a b = elim (cases_lt a b) [
  | inl less ↦ inr (let e : max a b ≡ b = omega (arith, less) in e)
  | inr most ↦ inl (let e : max a b ≡ a = omega (arith, most) in e)
]

-- the longest of some delays is no shorter than the one that it begins with
fold_least : (delay : Travel → ℕ) (so_far : ℕ) (run : List Travel) → so_far ≤ fold max so_far (map delay run)
fold_least delay so_far [] = omega arith
fold_least delay so_far (j ∷ run) =
    let later : max so_far (delay j) ≤ fold max (max so_far (delay j)) (map delay run) =
    fold_least delay (max so_far (delay j)) run in
    omega (arith, later)

-- nor than each of them
fold_each : (delay : Travel → ℕ) (so_far : ℕ) (run : List Travel)
    → All (λ j. delay j ≤ fold max so_far (map delay run)) run
fold_each delay so_far [] = All-nil (λ (j : Travel). delay j ≤ so_far)
fold_each delay so_far (j ∷ run) =
    let later : max so_far (delay j) ≤ fold max (max so_far (delay j)) (map delay run) =
    fold_least delay (max so_far (delay j)) run in
    All-cons (λ (i : Travel). delay i ≤ fold max (max so_far (delay j)) (map delay run)) j run
    (omega (arith, later)) (fold_each delay (max so_far (delay j)) run)

-- and it is that of one of them, of which holds what holds of all, or the one that it begins with
fold_one : (delay : Travel → ℕ) (P : Travel → Type 0) (so_far : ℕ) (run : List Travel) → All P run
    → (fold max so_far (map delay run) ≡ so_far)
    ⊎ ((j : Travel) × P j × (fold max so_far (map delay run) ≡ delay j))
fold_one delay P so_far [] all = inl refl
fold_one delay P so_far (j ∷ run) all =
    by (fold_one delay P (max so_far (delay j)) run (All-tail P j run all)) (max_one so_far (delay j))
  where
    longest : ℕ
    longest = fold max (max so_far (delay j)) (map delay run)

    by : (longest ≡ max so_far (delay j)) ⊎ ((i : Travel) × P i × (longest ≡ delay i))
        → (max so_far (delay j) ≡ so_far) ⊎ (max so_far (delay j) ≡ delay j)
        → (longest ≡ so_far) ⊎ ((i : Travel) × P i × (longest ≡ delay i))
    by (inr later) which = inr later
    by (inl same) (inl before) = inl (same ∙ before)
    by (inl same) (inr this) = inr (j, All-head P j run all, same ∙ this)

-- a frame of a sender that is among all
record IsOwn (run : List Travel) (sender : ℕ) (j : Travel) : Type 0 where
  there : Contains run j
  sent : j.release.sender ≡ sender

abbrev own : ℕ → Travel → Bool
own sender j = eqb j.release.sender sender

all_own : (run : List Travel) (sender : ℕ) → All (IsOwn run sender) (frames_of run sender)
all_own run sender k d within = record {
  there = All-filter (own sender) (Contains run) run (All-contains_itself run) k d within;
  sent = eqb-true (get_or (frames_of run sender) k d).release.sender sender
      (filter_passes (own sender) run k d within);
}

-- how long a frame took to a listener
abbrev delay_at : ℕ → Travel → ℕ
delay_at listener j = delay_to j.release.at.0 (leg_in j listener).ending

-- the longest delay of a sender's frames
abbrev longest_at : List Travel → ℕ → ℕ → ℕ
longest_at run sender listener = fold max 0 (map (delay_at listener) (frames_of run sender))

-- each frame of a sender takes no longer than the longest of the sender's frames
kept_each : (delay : Travel → ℕ) (sender most : ℕ) (run : List Travel)
    → All (λ j. delay j ≤ most) (frames_of run sender) → All (λ j. j.release.sender ≡ sender → delay j ≤ most) run
kept_each delay sender most [] all = All-nil (λ (j : Travel). j.release.sender ≡ sender → delay j ≤ most)
kept_each delay sender most (j ∷ run) all = by (own sender j) refl all (kept_each delay sender most run)
  where
    Short : Travel → Type 0
    Short i = delay i ≤ most

    Kept : Travel → Type 0
    Kept i = i.release.sender ≡ sender → delay i ≤ most

    by : (b : Bool) → own sender j ≡ b → All Short (cond b (j ∷ frames_of run sender) (frames_of run sender))
        → (All Short (frames_of run sender) → All Kept run) → All Kept (j ∷ run)
    by true e h kept = All-cons Kept j run (λ same. All-head Short j (frames_of run sender) h)
        (kept (All-tail Short j (frames_of run sender) h))
    by false e h kept = All-cons Kept j run
        (λ same. absurd (false≢true (sym e ∙ eq-eqb j.release.sender sender same))) (kept h)

-- one frame has the longest delay, or it is 0
one_of : (run : List Travel) (sender listener : ℕ)
    → (longest_at run sender listener ≡ 0)
    ⊎ ((j : Travel) × IsOwn run sender j × (longest_at run sender listener ≡ delay_at listener j))
    → (longest_at run sender listener ≡ 0)
    ⊎ ((j : Travel) × ArrivedAfter run sender listener (longest_at run sender listener) j)
one_of run sender listener (inl none) = inl none
one_of run sender listener (inr one) = by (leg_in one.0 listener).ending refl one.2
  where
    worst : ℕ
    worst = longest_at run sender listener

    by : (ending : Ending) → (leg_in one.0 listener).ending ≡ ending
        → worst ≡ delay_to one.0.release.at.0 ending
        → (worst ≡ 0) ⊎ ((j : Travel) × ArrivedAfter run sender listener worst j)
    by Discard e h = inl h
    by (Sink at) e h =
        inr (one.0, record { there = one.1.there; sent = one.1.sent; at = at; arrived = e; after = h })

worst_is : (run : List Travel) (sender listener : ℕ) → IsWorst run sender listener (longest_at run sender listener)
worst_is run sender listener = record {
  none_longer = λ journey took arrived.
      (let kept : journey.release.sender ≡ sender → delay_at listener journey ≤ longest_at run sender listener =
      All-contains (λ (j : Travel). j.release.sender ≡ sender
      → delay_at listener j ≤ longest_at run sender listener) run journey
      (kept_each (delay_at listener) sender (longest_at run sender listener) run
      (fold_each (delay_at listener) 0 (frames_of run sender))) arrived.there in
      let same : delay_at listener journey ≡ took =
      ap (λ (ending : Ending). delay_to journey.release.at.0 ending) arrived.arrived ∙ sym arrived.after in
      subst (λ (n : ℕ). n ≤ longest_at run sender listener) same (kept arrived.sent));
  one = one_of run sender listener
      (fold_one (delay_at listener) (IsOwn run sender) 0 (frames_of run sender) (all_own run sender));
}

summary_has_worst : SummaryHasWorst
summary_has_worst network run sender listener = worst_is run sender listener

bound_is_least_sum : BoundIsLeastSum
bound_is_least_sum network rows place listener stream rules holds named listed =
    let sums : List ℕ = sums_for network (least_certificate network) in
    let inside : place < length network.streams = slice_get_within network.streams place stream named in
    let is : get_or network.streams place no_stream ≡ stream =
    get_or_from_slice_get network.streams place stream no_stream named in
    ap (λ (reason : Option Reason). bound_of network (sums_unless network reason) place listener)
    (no_reason_held network rows rules holds)
    ∙ ap (λ (b : Bool). cond b (slice_get sums (place_of network place listener)) None)
    (lt-ltb place (length network.streams) inside)
    ∙ slice_get-get_or sums (place_of network place listener) 0
    (place_within network (least_certificate network) place listener stream inside named listed)
    ∙ ap Some (sum_at_place network (least_certificate network) place listener stream inside is listed)

tightest_is_worked : TightestIsWorked
tightest_is_worked = record {
  one_late = refl;
  none_late = refl;
  other_order = refl;
  first_twin = refl;
  second_twin = refl;
  no_stream = refl;
}

sums_are_worked : SumsAreWorked
sums_are_worked = record { free = refl; one_late = refl; one_stays = refl; narrow = refl }

sums_are_of_reason : SumsAreOfReason
sums_are_of_reason = record {
  none = λ network reason is. ap (sums_unless network) is;
  all = λ network free. ap (sums_unless network) free;
}

pub measures_are_meant : MeasuresAreMeant
measures_are_meant = record {
  tightest = tightest_is_tightest;
  worked = tightest_is_worked;
  worst = summary_has_worst;
  bound = bound_is_least_sum;
  sums = sums_are_worked;
  reasons = sums_are_of_reason;
}
