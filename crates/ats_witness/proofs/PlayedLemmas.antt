-- Releases that pass the test of equality are the same.
use Rattle.std.proofs.Common.{◌≡◌, ◌∙◌, ℕ, Bool, true, ◌&&◌, eqb, ap, subst, refl}
use Rattle.std.specs.Bool.{Decides}
use Rattle.std.specs.Cmp.Derive.{both_true}
use Rattle.std.proofs.lemmas.Bool.{and_parts, eq-eqb, eqb-true}
use Rattle.ats_trace.specs.declared.journey.Release.{Release}

-- the test of each field
are_equal : Release → Release → Bool
are_equal a b = eqb a.at.0 b.at.0 && (eqb a.sender b.sender && eqb a.octets b.octets)

by_fields : (a b : Release) → a.at.0 ≡ b.at.0 → a.sender ≡ b.sender → a.octets ≡ b.octets → a ≡ b
by_fields a b at sender octets =
    ap (λ (t : ℕ). record { at = record { 0 = t }; sender = a.sender; octets = a.octets }) at
    ∙ ap (λ (i : ℕ). record { at = b.at; sender = i; octets = a.octets }) sender
    ∙ ap (λ (n : ℕ). record { at = b.at; sender = b.sender; octets = n }) octets

equal_is_same : (a b : Release) → are_equal a b ≡ true → a ≡ b
unfolding are_equal
equal_is_same a b h =
    let parts = and_parts (eqb a.at.0 b.at.0) (eqb a.sender b.sender && eqb a.octets b.octets) h in
    let rest = and_parts (eqb a.sender b.sender) (eqb a.octets b.octets) parts.1 in
    by_fields a b (eqb-true a.at.0 b.at.0 parts.0) (eqb-true a.sender b.sender rest.0)
    (eqb-true a.octets b.octets rest.1)

same_is_equal : (a b : Release) → a ≡ b → are_equal a b ≡ true
unfolding are_equal
same_is_equal a b same = subst (λ (x : Release). are_equal a x ≡ true) same
    (both_true (eq-eqb a.at.0 a.at.0 refl)
    (both_true (eq-eqb a.sender a.sender refl) (eq-eqb a.octets a.octets refl)))

pub equal_releases : (a b : Release)
    → Decides (eqb a.at.0 b.at.0 && (eqb a.sender b.sender && eqb a.octets b.octets)) (a ≡ b)
unfolding are_equal
equal_releases a b = (equal_is_same a b, same_is_equal a b)
