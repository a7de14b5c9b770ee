-- The first class with which no reason comes, searched from 1 on.
use Rattle.std.proofs.Common.{◌≡◌, ℕ, zero, suc, ◌+◌, ◌-◌, ◌<◌, ◌≤◌, List, [], ◌∷◌, length, get_or, set, Option, Some}
use Rattle.std.proofs.Common.{None, Ok, Err, inl, inr, refl, sym, ap, ◌∙◌, arith}
use Rattle.std.proofs.lemmas.Bool.{cases_eq}
use Rattle.std.proofs.lemmas.List.{get_or-set_other, get_or-set_same}
use Rattle.ats_network.specs.Edits.{with_class_at}
use Rattle.ats_network.specs.Network.{DeclaredNetwork}
use Rattle.ats_certificate.specs.Used.{stream_classes}
use Rattle.ats_tally.specs.declared.reason.Reason.{Reason}
use Rattle.ats_tally.specs.declared.reason.Reason.TheVariants.{Overloaded}
use Rattle.ats_bound.specs.Reason.{reason_of}
use Rattle.ats_requests.specs.Admission.{first_class}
use Rattle.ats_admission.specs.Judged.{lowest_at}

-- each class from one on below another brings a reason, which stands in the list
abbrev pub AreRefused : DeclaredNetwork → ℕ → List Reason → ℕ → ℕ → Type 0
AreRefused network n reasons from below =
    (class : ℕ) (d : Reason) → from ≤ class → class < below
    → reason_of (with_class_at network n class) ≡ Some (get_or reasons (class - from) d)

-- for places past the last reason
abbrev no_reason : Reason
no_reason = Overloaded 0 0 0

-- so many numbers from one on
abbrev counted : ℕ → ℕ → List ℕ
counted from zero = []
counted from (suc many) = from ∷ counted (suc from) many

-- where the classes before one bring reasons and it brings none, it is the first
first_at : (network : DeclaredNetwork) (n class from k many : ℕ)
    → ((c : ℕ) → from ≤ c → c < class → (reason : Reason) × (reason_of (with_class_at network n c) ≡ Some reason))
    → class ≡ from + k → k < many → reason_of (with_class_at network n class) ≡ None
    → lowest_at network n (counted from many) ≡ Ok class
first_at network n class from k zero before at less free = absurd (omega (arith, less))
first_at network n class from zero (suc many) before at less free =
    let same : class ≡ from = omega (arith, at) in
    ap (λ (o : Option Reason). first_class from o (lowest_at network n (counted (suc from) many)))
    (ap (λ (c : ℕ). reason_of (with_class_at network n c)) (sym same) ∙ free)
    ∙ ap (λ (c : ℕ). Ok c) (sym same)
first_at network n class from (suc k) (suc many) before at less free =
    let here = before from (omega arith) (omega (arith, at)) in
    ap (λ (o : Option Reason). first_class from o (lowest_at network n (counted (suc from) many))) here.1
    ∙ ap (first_class from (Some here.0))
    (first_at network n class (suc from) k many (λ c more below. before c (omega (arith, more)) below)
    (omega (arith, at)) (omega (arith, less)) free)

-- where each brings one, there is none
none_at : (network : DeclaredNetwork) (n from many : ℕ) (reasons : List Reason) → length reasons ≡ many
    → AreRefused network n reasons from (from + many) → lowest_at network n (counted from many) ≡ Err reasons
none_at network n from zero [] long are = refl
none_at network n from zero (reason ∷ reasons) long are = absurd (omega (arith, long))
none_at network n from (suc many) [] long are = absurd (omega (arith, long))
none_at network n from (suc many) (reason ∷ reasons) long are =
    ap (λ (o : Option Reason). first_class from o (lowest_at network n (counted (suc from) many)))
    (are from reason (omega arith) (omega arith)
    ∙ ap (λ (k : ℕ). Some (get_or (reason ∷ reasons) k reason)) (let e : from - from ≡ 0 = omega arith in e))
    ∙ ap (first_class from (Some reason))
    (none_at network n (suc from) many reasons (omega (arith, long)) (λ class d least less.
    are class d (omega (arith, least)) (omega (arith, less))
    ∙ ap (λ (k : ℕ). Some (get_or (reason ∷ reasons) k d))
    (let e : class - from ≡ suc (class - suc from) = omega (arith, least) in e)))

-- the same for the classes from 1 to 7
pub first_given : (network : DeclaredNetwork) (n class : ℕ) (reasons : List Reason)
    → AreRefused network n reasons 1 class → 1 ≤ class → class ≤ 7
    → reason_of (with_class_at network n class) ≡ None → lowest_at network n stream_classes ≡ Ok class
first_given network n class reasons are least most free =
    first_at network n class 1 (class - 1) 7
    (λ c more less. (get_or reasons (c - 1) no_reason, are c no_reason more less)) (omega (arith, least))
    (omega (arith, least, most)) free

pub none_given : (network : DeclaredNetwork) (n : ℕ) (reasons : List Reason) → length reasons ≡ 7
    → AreRefused network n reasons 1 8 → lowest_at network n stream_classes ≡ Err reasons
none_given network n reasons long are = none_at network n 1 7 reasons long are

-- one class more that brings a reason
pub refused_more : (network : DeclaredNetwork) (n class : ℕ) (reason : Reason) (reasons : List Reason) → 1 ≤ class
    → class - 1 < length reasons → AreRefused network n reasons 1 class
    → reason_of (with_class_at network n class) ≡ Some reason
    → AreRefused network n (set reasons (class - 1) reason) 1 (class + 1)
refused_more network n class reason reasons least room are comes c d more less =
    elim (cases_eq c class) as (λ _. reason_of (with_class_at network n c)
    ≡ Some (get_or (set reasons (class - 1) reason) (c - 1) d)) [
      | inl same ↦
          ap (λ (c : ℕ). reason_of (with_class_at network n c)) same ∙ comes
          ∙ sym (ap (λ (k : ℕ). Some (get_or (set reasons (class - 1) reason) (k - 1) d)) same
          ∙ ap (λ (r : Reason). Some r) (get_or-set_same reasons (class - 1) reason d room))
      | inr other ↦
          are c d more (omega (arith, less, other))
          ∙ ap (λ (r : Reason). Some r) (sym (get_or-set_other reasons (class - 1) (c - 1) reason d
          (λ e. other (omega (arith, e, least, more)))))
    ]
