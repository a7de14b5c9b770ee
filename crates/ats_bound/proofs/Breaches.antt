-- The first value that a function gives along a list stands at the first element that breaks a rule.
use Rattle.std.proofs.Common.{◌≡◌, ◌↔◌, ℕ, ◌<◌, ◌≤◌, Bool, true, false, cond, List, [], ◌∷◌, ◌++◌, Option, Some, None}
use Rattle.std.proofs.Common.{refl, sym, ap, subst, ◌∙◌, inl, inr}
use Rattle.std.specs.List.{All, AllPairs}
use Rattle.std.specs.Option.{option_or}
use Rattle.std.proofs.lemmas.Bool.{cases_lt}
use Rattle.std.proofs.lemmas.List.Elements.{All-nil, All-cons, All-head}
use Rattle.std.proofs.lemmas.Option.{none-some, same_Some}
use Rattle.ats_facts.proofs.Lists.{all_left, all_right, pairs_tail}
use Rattle.ats_tally.specs.Reason.{first_some}
use Rattle.ats_tally.proofs.Firsts.{first_append}
use Rattle.ats_tally.proofs.Lists.{first_some-none, none_first}
use Rattle.ats_bound.specs.First.{IsFirstBreach}

-- where along a list the first value stands
pub record StandsAt {A B : Type 0} (given : A → Option B) (xs : List A) (found : B) : Type 0 where
  pub before : List A
  pub it : A
  pub after : List A
  pub cut : before ++ it ∷ after ≡ xs
  pub none : All (λ (x : A). given x ≡ None) before
  pub gives : given it ≡ Some found

pub stands_at : {A B : Type 0} (given : A → Option B) (xs : List A) (found : B) → first_some given xs ≡ Some found
    → StandsAt given xs found
stands_at given [] found h = absurd (none-some found h)
stands_at {A} {B} given (x ∷ xs) found h = by (given x) refl (stands_at given xs found) h
  where
    by : (o : Option B) → given x ≡ o → (first_some given xs ≡ Some found → StandsAt given xs found)
        → option_or o (first_some given xs) ≡ Some found → StandsAt given (x ∷ xs) found
    by None e later h =
        let r : StandsAt given xs found = later h in
        record {
          before = x ∷ r.before;
          it = r.it;
          after = r.after;
          cut = ap (λ (ys : List A). x ∷ ys) r.cut;
          none = All-cons (λ (y : A). given y ≡ None) x r.before e r.none;
          gives = r.gives;
        }
    by (Some b) e later h = record {
      before = [];
      it = x;
      after = xs;
      cut = refl;
      none = All-nil (λ (y : A). given y ≡ None);
      gives = e ∙ h;
    }

-- what is so of each is so of the one that stands there
pub it_keeps : {A B : Type 0} (given : A → Option B) (P : A → Type 0) (xs : List A) (found : B) → All P xs
    → (at : StandsAt given xs found) → P at.it
it_keeps {A} given P xs found all at =
    let split : All P (at.before ++ at.it ∷ at.after) = subst (λ (ys : List A). All P ys) (sym at.cut) all in
    All-head P at.it at.after (all_right P at.before (at.it ∷ at.after) split)

-- a function gives nothing exactly where a rule is kept
abbrev pub Tests : {A B : Type 0} → (A → Option B) → (A → Type 0) → List A → Type 0
Tests {A} given Rule xs = All (λ (x : A). (given x ≡ None) ↔ Rule x) xs

pub all_kept : {A B : Type 0} (given : A → Option B) (Rule : A → Type 0) (xs : List A) → Tests given Rule xs
    → first_some given xs ≡ None → All Rule xs
all_kept given Rule xs tests none = λ k d h. (tests k d h).0 (none_first given xs none k d h)

pub none_given : {A B : Type 0} (given : A → Option B) (Rule : A → Type 0) (xs : List A) → Tests given Rule xs
    → All Rule xs → first_some given xs ≡ None
none_given given Rule xs tests kept = first_some-none given xs (λ k d h. (tests k d h).1 (kept k d h))

-- so the first value stands at the first breach
pub breach_at : {A B : Type 0} (given : A → Option B) (Rule : A → Type 0) (xs : List A) (found : B)
    → Tests given Rule xs → (at : StandsAt given xs found) → IsFirstBreach Rule xs at.it
breach_at {A} given Rule xs found tests at =
    let split : Tests given Rule (at.before ++ at.it ∷ at.after) =
    subst (λ (ys : List A). Tests given Rule ys) (sym at.cut) tests in
    let left : Tests given Rule at.before =
    all_left (λ (x : A). (given x ≡ None) ↔ Rule x) at.before (at.it ∷ at.after) split in
    let right : Tests given Rule (at.it ∷ at.after) =
    all_right (λ (x : A). (given x ≡ None) ↔ Rule x) at.before (at.it ∷ at.after) split in
    let here : (given at.it ≡ None) ↔ Rule at.it =
    All-head (λ (x : A). (given x ≡ None) ↔ Rule x) at.it at.after right in
    record {
      before = at.before;
      after = at.after;
      cut = at.cut;
      kept = λ k d h. (left k d h).0 (at.none k d h);
      breaks = λ rule. none-some found (sym (here.1 rule) ∙ at.gives);
    }

-- and the first breach gives the first value
pub given_at : {A B : Type 0} (given : A → Option B) (Rule : A → Type 0) (xs : List A) (x : A) (found : B)
    → Tests given Rule xs → IsFirstBreach Rule xs x
    → ((given x ≡ None → ⊥) → given x ≡ Some found) → first_some given xs ≡ Some found
given_at {A} {B} given Rule xs x found tests first gives =
    let split : Tests given Rule (first.before ++ x ∷ first.after) =
    subst (λ (ys : List A). Tests given Rule ys) (sym first.cut) tests in
    let left : Tests given Rule first.before =
    all_left (λ (x : A). (given x ≡ None) ↔ Rule x) first.before (x ∷ first.after) split in
    let right : Tests given Rule (x ∷ first.after) =
    all_right (λ (x : A). (given x ≡ None) ↔ Rule x) first.before (x ∷ first.after) split in
    let here : (given x ≡ None) ↔ Rule x = All-head (λ (x : A). (given x ≡ None) ↔ Rule x) x first.after right in
    ap (λ (ys : List A). first_some given ys) (sym first.cut)
    ∙ first_append given first.before (x ∷ first.after)
    ∙ ap (λ (o : Option B). option_or o (first_some given (x ∷ first.after)))
    (none_given given Rule first.before left first.kept)
    ∙ ap (λ (o : Option B). option_or o (first_some given first.after)) (gives (λ none. first.breaks (here.0 none)))

-- a value that one of two searches gives
pub or_else : {B P : Type 0} (a b : Option B) (found : B) → (a ≡ Some found → P) → (a ≡ None → b ≡ Some found → P)
    → option_or a b ≡ Some found → P
or_else None b found first second h = second refl h
or_else (Some x) b found first second h = first h

pub at_some : {B : Type 0} (a b : Option B) (found : B) → a ≡ Some found → option_or a b ≡ Some found
at_some {B} a b found e = ap (λ (o : Option B). option_or o b) e

pub or_past : {B : Type 0} (a b : Option B) (found : B) → a ≡ None → b ≡ Some found → option_or a b ≡ Some found
or_past {B} a b found e h = ap (λ (o : Option B). option_or o b) e ∙ h

-- a value that a test gives
pub if_true : {B : Type 0} (P : B → Type 0) (t : Bool) (x found : B) → (t ≡ true → P x)
    → cond t (Some x) None ≡ Some found → P found
if_true P true x found p h = subst P (same_Some x found h) (p refl)
if_true P false x found p h = absurd (none-some found h)

pub true_if : {B : Type 0} (t : Bool) (x : B) → (cond t (Some x) None ≡ None → ⊥) → cond t (Some x) None ≡ Some x
true_if true x h = refl
true_if false x h = absurd (h refl)

-- a number that is not below another
pub not_less : (a b : ℕ) → (a < b → ⊥) → b ≤ a
not_less a b h = elim (cases_lt a b) as (λ _. b ≤ a) [ inl less ↦ absurd (h less) | inr most ↦ most ]

-- pairs of the second of two lists, one behind the other
pub pairs_right : {X : Type 0} (R : X → X → Type 0) (xs ys : List X) → AllPairs R (xs ++ ys) → AllPairs R ys
pairs_right R [] ys h = h
pairs_right R (x ∷ xs) ys h = pairs_right R xs ys (pairs_tail R x (xs ++ ys) h)
