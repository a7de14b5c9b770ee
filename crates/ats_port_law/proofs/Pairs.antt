use Rattle.std.proofs.Common.{◌≡◌, ℕ, suc, ◌+◌, ◌*◌, ◌<◌, ◌≤◌, List, [], ◌∷◌, length, get_or, All, subst, sym, inl, inr}
use Rattle.std.proofs.Common.{arith}
use Rattle.std.specs.Prelude.{◌≢◌, ◌⊎◌}
use Rattle.std.proofs.lemmas.Bool.{cases_order, cases_eq, cases_lt}
use Rattle.std.proofs.lemmas.List.Elements.{All-cons}
use Rattle.ats_port_rule.specs.Transmission.{Transmission}
use Rattle.ats_port_rule.specs.PortRule.{AreApart, KeepsPortRule, KeepsPortRuleBy}

-- a transmission takes some time
abbrev pub TakesTime : ℕ → List Transmission → Type 0
TakesTime ps sent = All (λ (x : Transmission). 1 ≤ ps * x.bits) sent

-- a transmission that ends at a time
pub record EndsAt (sent : List Transmission) (d : Transmission) (time : ℕ) : Type 0 where
  pub place : ℕ
  pub within : place < length sent
  pub end : (get_or sent place d).end ≡ time

-- none ends at a time, or one does
pub gap_or_end : (sent : List Transmission) (d : Transmission) (time : ℕ)
    → All (λ (z : Transmission). z.end ≢ time) sent ⊎ EndsAt sent d time
gap_or_end [] d time = inl (λ k e h. absurd (omega arith))
gap_or_end (z ∷ zs) d time =
    let Goal : Type 0 = All (λ (z : Transmission). z.end ≢ time) (z ∷ zs) ⊎ EndsAt (z ∷ zs) d time in
    elim (cases_eq z.end time) as (λ _. Goal) [
      | inl e ↦ inr (record { place = 0; within = omega arith; end = e })
      | inr n ↦ elim (gap_or_end zs d time) as (λ _. Goal) [
        | inl gap ↦ inl (All-cons (λ (z : Transmission). z.end ≢ time) z zs n gap)
        | inr f ↦ inr (record { place = suc f.place; within = omega (arith, f.within); end = f.end })
      ]
    ]

-- two that take time and are apart do not start together
starts_differ : (ps : ℕ) (x y : Transmission) → x.end ≡ x.start + ps * x.bits → y.end ≡ y.start + ps * y.bits
    → 1 ≤ ps * x.bits → 1 ≤ ps * y.bits → AreApart x y → x.start ≡ y.start → (P : Type 0) → P
starts_differ ps x y tx ty lx ly (inl a) e P = absurd (omega arith)
starts_differ ps x y tx ty lx ly (inr a) e P = absurd (omega arith)

-- so of two that start together each is the other
pub same_place : {told : Transmission → ℕ} (ps : ℕ) (sent : List Transmission) → KeepsPortRuleBy told ps sent
    → TakesTime ps sent → (i j : ℕ) (d : Transmission) → i < length sent → j < length sent
    → (get_or sent i d).start ≡ (get_or sent j d).start → i ≡ j
same_place ps sent r long i j d hi hj e =
    elim (cases_order i j) as (λ _. i ≡ j) [
      | inl same ↦ same
      | inr o ↦ elim o as (λ _. i ≡ j) [
        | inl before ↦ starts_differ ps (get_or sent i d) (get_or sent j d) (r.takes i d hi) (r.takes j d hj)
            (long i d hi) (long j d hj) (r.apart i j d before hj) e (i ≡ j)
        | inr after ↦ starts_differ ps (get_or sent j d) (get_or sent i d) (r.takes j d hj) (r.takes i d hi)
            (long j d hj) (long i d hi) (r.apart j i d after hi) (omega (arith, e)) (i ≡ j)
      ]
    ]

-- of one class, a frame that starts no later was told no later time, where frames that were told earlier times were
-- eligible no later
pub told_no_later : {told : Transmission → ℕ} (ps : ℕ) (sent : List Transmission) → KeepsPortRuleBy told ps sent
    → TakesTime ps sent
    → All (λ (x : Transmission). All (λ (y : Transmission). x.class ≡ y.class → told x < told y
    → x.eligible ≤ y.eligible) sent) sent
    → (i j : ℕ) (d : Transmission) → i < length sent → j < length sent
    → (get_or sent i d).class ≡ (get_or sent j d).class → (get_or sent i d).start ≤ (get_or sent j d).start
    → told (get_or sent i d) ≤ told (get_or sent j d)
told_no_later {told} ps sent r long kept i j d hi hj class order =
    let y : Transmission = get_or sent i d in
    let x : Transmission = get_or sent j d in
    elim (cases_lt (told x) (told y)) as (λ _. told y ≤ told x) [
      | inr no_later ↦ no_later
      | inl earlier ↦ elim (cases_lt y.start x.start) as (λ _. told y ≤ told x) [
        | inl before ↦ (
            let w = r.waits i d hi in
            let no_later = kept j d hj i d hi (sym class) earlier in
            (r.chosen i d hi j d hj before (omega (arith, w, no_later))).no_later class)
        | inr together ↦ (
            let P : ℕ → Type 0 = λ (k : ℕ). told y ≤ told (get_or sent k d) in
            subst P (same_place ps sent r long i j d hi hj (omega (arith, order, together))) (omega arith))
      ]
    ]

-- so each was eligible no later, where it was told its eligibility time
pub eligible_no_later : (ps : ℕ) (sent : List Transmission) → KeepsPortRule ps sent → TakesTime ps sent
    → (i j : ℕ) (d : Transmission) → i < length sent → j < length sent
    → (get_or sent i d).class ≡ (get_or sent j d).class → (get_or sent i d).start ≤ (get_or sent j d).start
    → (get_or sent i d).eligible ≤ (get_or sent j d).eligible
eligible_no_later ps sent r long = told_no_later ps sent r long (λ k d h j e g class earlier. omega (arith, earlier))
