use Rattle.std.proofs.Common.{◌≡◌, ◌∙◌, ◌⊎◌, ℕ, ◌<◌, Bool, true, false, Option, Some, None, inl, inr, refl, sym, ap}
use Rattle.std.proofs.Common.{subst}
use Rattle.std.specs.Prelude.{◌&&◌, ◌||◌, not, nat_le}
use Rattle.std.proofs.lemmas.Bool.{and_cases, and_from, and_left, and_parts, and_right, false≢true, le-leb, leb-true}
use Rattle.std.proofs.lemmas.Bool.{lt-ltb, ltb-true, or_cases}
use Rattle.ats_streams.specs.Traffic.{is_declared_size}
use Rattle.ats_network.specs.Sender.{Sender, declared_of}
use Rattle.ats_fit.specs.Over.{are_sizes_over, is_burst_over, is_over}
use Rattle.ats_fit.specs.declared.measured.Measured.{Measured}
use Rattle.ats_fit.specs.declared.measured.Sizes.{Sizes}
use Rattle.ats_plain_run_law.specs.Measures.{IsWithin, MeasuresAreTraced}

-- Of how many senders more is measured than they declare.

or_left : (x y : Bool) → x ≡ true → (x || y) ≡ true
or_left x y e = ap (λ (t : Bool). t || y) e

or_right : (x y : Bool) → y ≡ true → (x || y) ≡ true
or_right true y e = refl
or_right false y e = e

is_not : (b : Bool) → not b ≡ true → b ≡ false
is_not true e = absurd (false≢true e)
is_not false e = refl

-- a burst above the declared one
abbrev Burst : ℕ → Option ℕ → Type 0
Burst declared measured = (burst : ℕ) × (measured ≡ Some burst) × (declared < burst)

burst_told : (declared : ℕ) (measured : Option ℕ) → is_burst_over declared measured ≡ true → Burst declared measured
burst_told declared None over = absurd (false≢true over)
burst_told declared (Some burst) over = (burst, refl, ltb-true declared burst over)

burst_due : (declared : ℕ) (measured : Option ℕ) → Burst declared measured → is_burst_over declared measured ≡ true
burst_due declared measured so =
    subst (λ (one : Option ℕ). is_burst_over declared one ≡ true) (sym so.1) (lt-ltb declared so.0 so.2)

-- octets that are declared, and those that are not
module _ (s : Sender) (n : ℕ) where
  within_due : IsWithin s n → is_declared_size (declared_of s) n ≡ true
  within_due so = and_from (nat_le s.min_octets n) (nat_le n s.max_octets) (le-leb s.min_octets n so.0)
      (le-leb n s.max_octets so.1)

  within_told : is_declared_size (declared_of s) n ≡ true → IsWithin s n
  within_told is =
      let parts : (nat_le s.min_octets n ≡ true) × (nat_le n s.max_octets ≡ true) =
      and_parts (nat_le s.min_octets n) (nat_le n s.max_octets) is in
      (leb-true s.min_octets n parts.0, leb-true n s.max_octets parts.1)

  outside_told : is_declared_size (declared_of s) n ≡ false → ¬ IsWithin s n
  outside_told outside so = absurd (false≢true (sym outside ∙ within_due so))

  outside_due : ¬ IsWithin s n → is_declared_size (declared_of s) n ≡ false
  outside_due outside = by (is_declared_size (declared_of s) n) refl
    where
      by : (b : Bool) → is_declared_size (declared_of s) n ≡ b → is_declared_size (declared_of s) n ≡ false
      by true e = absurd (outside (within_told e))
      by false e = e

abbrev Outside : Sender → Sizes → Type 0
Outside s sizes = (¬ IsWithin s sizes.least) ⊎ (¬ IsWithin s sizes.greatest)

abbrev Octets : Sender → Option Sizes → Type 0
Octets s measured = (sizes : Sizes) × (measured ≡ Some sizes) × Outside s sizes

outside_of : (s : Sender) (sizes : Sizes) → are_sizes_over (declared_of s) (Some sizes) ≡ true → Outside s sizes
outside_of s sizes over =
    let least : Bool = is_declared_size (declared_of s) sizes.least in
    let greatest : Bool = is_declared_size (declared_of s) sizes.greatest in
    elim (and_cases least greatest (is_not (least && greatest) over)) as (λ _. Outside s sizes) [
      | inl outside ↦ inl (outside_told s sizes.least outside)
      | inr outside ↦ inr (outside_told s sizes.greatest outside)
    ]

over_of : (s : Sender) (sizes : Sizes) → Outside s sizes → are_sizes_over (declared_of s) (Some sizes) ≡ true
over_of s sizes (inl outside) =
    ap not (and_left (is_declared_size (declared_of s) sizes.least) (is_declared_size (declared_of s) sizes.greatest)
    (outside_due s sizes.least outside))
over_of s sizes (inr outside) =
    ap not (and_right (is_declared_size (declared_of s) sizes.least) (is_declared_size (declared_of s) sizes.greatest)
    (outside_due s sizes.greatest outside))

octets_told : (s : Sender) (measured : Option Sizes) → are_sizes_over (declared_of s) measured ≡ true
    → Octets s measured
octets_told s None over = absurd (false≢true over)
octets_told s (Some sizes) over = (sizes, refl, outside_of s sizes over)

octets_due : (s : Sender) (measured : Option Sizes) → Octets s measured
    → are_sizes_over (declared_of s) measured ≡ true
octets_due s measured so =
    subst (λ (one : Option Sizes). are_sizes_over (declared_of s) one ≡ true) (sym so.1) (over_of s so.0 so.2)

module _ (s : Sender) (m : Measured) where
  over_told : is_over (s, m) ≡ true → Burst s.burst_bits m.burst_bits ⊎ Octets s m.sizes
  over_told over =
      elim (or_cases (is_burst_over s.burst_bits m.burst_bits) (are_sizes_over (declared_of s) m.sizes) over)
      as (λ _. Burst s.burst_bits m.burst_bits ⊎ Octets s m.sizes) [
        | inl burst ↦ inl (burst_told s.burst_bits m.burst_bits burst)
        | inr octets ↦ inr (octets_told s m.sizes octets)
      ]

  over_due : Burst s.burst_bits m.burst_bits ⊎ Octets s m.sizes → is_over (s, m) ≡ true
  over_due (inl burst) =
      or_left (is_burst_over s.burst_bits m.burst_bits) (are_sizes_over (declared_of s) m.sizes)
      (burst_due s.burst_bits m.burst_bits burst)
  over_due (inr octets) =
      or_right (is_burst_over s.burst_bits m.burst_bits) (are_sizes_over (declared_of s) m.sizes)
      (octets_due s m.sizes octets)

pub measures_are_traced : MeasuresAreTraced
measures_are_traced = record {
  over = λ s m. (over_told s m, over_due s m);
  count = λ network measured. refl;
}
