-- The late stream with the lowest number is the first that is late.
use Rattle.std.proofs.Common.{◌≡◌, ℕ, zero, suc, ◌<◌, Bool, true, false, cond, List, [], ◌∷◌, length, get_or, filter}
use Rattle.std.proofs.Common.{Option, Some, None, refl, sym, ap, ◌∙◌, arith}
use Rattle.std.specs.List.{All}
use Rattle.std.specs.Option.{option_or, option_map}
use Rattle.std.proofs.lemmas.List.{get_or_default}
use Rattle.std.proofs.lemmas.List.Elements.{All-filter, All-nil, filter_passes}
use Rattle.ats_streams.specs.Stream.{DeclaredStream}
use Rattle.ats_network.specs.Edits.{no_stream}
use Rattle.ats_network.specs.Network.{DeclaredNetwork}
use Rattle.ats_tally.specs.Reason.{first_some, late}
use Rattle.ats_tally.specs.declared.reason.Reason.{Reason}
use Rattle.ats_tally.proofs.Lists.{first_some-none}
use Rattle.ats_bound.specs.Least.{least_certificate}
use Rattle.ats_admission_law.specs.Laws.{NearFindsLate}
use Rattle.ats_admission_law.specs.Near.{AreNear, IsNear, late_at, late_near, lowest_late, shares}
use Rattle.ats_admission_law.proofs.Lowest.{IsBest, best_along, of_one}

module _ (given : DeclaredStream → Option Reason) (test : DeclaredStream → Bool) where
  -- the first of those that pass a test gives the first value, where those before it that pass give none
  first_at : (xs : List DeclaredStream) (n : ℕ) (d : DeclaredStream) (reason : Reason) → n < length xs
      → test (get_or xs n d) ≡ true → given (get_or xs n d) ≡ Some reason
      → ((k : ℕ) → k < n → test (get_or xs k d) ≡ true → given (get_or xs k d) ≡ None)
      → first_some given (filter test xs) ≡ Some reason
  first_at [] n d reason within passes some none = absurd (omega arith)
  first_at (x ∷ xs) zero d reason within passes some none =
      ap (λ (b : Bool). first_some given (cond b (x ∷ filter test xs) (filter test xs))) passes
      ∙ ap (λ (o : Option Reason). option_or o (first_some given (filter test xs))) some
  first_at (x ∷ xs) (suc n) d reason within passes some none =
      by (test x) refl
      (first_at xs n d reason (omega arith) passes some (λ k less pass. none (suc k) (omega arith) pass))
    where
      by : (b : Bool) → test x ≡ b → first_some given (filter test xs) ≡ Some reason
          → first_some given (cond b (x ∷ filter test xs) (filter test xs)) ≡ Some reason
      by true e rest =
          ap (λ (o : Option Reason). option_or o (first_some given (filter test xs))) (none zero (omega arith) e) ∙ rest
      by false e rest = rest

  -- where those that pass give none, nothing is found
  none_at : (xs : List DeclaredStream) → All (λ (s : DeclaredStream). test s ≡ true → given s ≡ None) xs
      → first_some given (filter test xs) ≡ None
  none_at xs none = first_some-none given (filter test xs)
      (λ k d h. All-filter test (λ (s : DeclaredStream). test s ≡ true → given s ≡ None) xs none k d h
      (filter_passes test xs k d h))

module _ (network : DeclaredNetwork) (x : DeclaredStream) (numbers : List ℕ) (are : AreNear network x numbers) where
  -- a stream that is near is among the numbers
  quiet_near : (P : ℕ → Type 0) → All P numbers → (k : ℕ) → k < length network.streams
      → shares x (get_or network.streams k no_stream) ≡ true → P k
  quiet_near P all k within near =
      of_one P numbers k all (are.complete k (record { within = within; shares = near }))

  found_near : (best : Option (ℕ × Reason)) → IsBest (late_at network) numbers best
      → late_near network x ≡ option_map (λ b. b.1) best
  found_near None none =
      none_at (late network.topology (least_certificate network)) (shares x) network.streams (λ k d h near. (
      let same = get_or_default network.streams k d no_stream h in
      ap (late network.topology (least_certificate network)) same
      ∙ quiet_near (λ n. late_at network n ≡ None) none k h (sym (ap (shares x) same) ∙ near)))
  found_near (Some best) is =
      let here : IsNear network x best.0 = of_one (IsNear network x) numbers best.0 are.near is.inside in
      first_at (late network.topology (least_certificate network)) (shares x) network.streams best.0 no_stream best.1
      here.within here.shares is.is
      (λ k less near. quiet_near (λ n. n < best.0 → late_at network n ≡ None) is.least k
      (let within = here.within in omega (arith, less, within)) near less)

pub near_finds_late : NearFindsLate
near_finds_late network x numbers are =
    found_near network x numbers are (lowest_late network numbers)
    (best_along (late_at network) None [] numbers (All-nil (λ n. late_at network n ≡ None)))
