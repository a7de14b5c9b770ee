use Rattle.std.proofs.Common.{◌≡◌, ℕ, Bool, true, false, List, Option, Some, None, refl, sym, subst, ◌∙◌, ◌⊎◌, inl, inr}
use Rattle.std.proofs.lemmas.Bool.{true≢false}
use Rattle.ats_topology.specs.Topology.{DeclaredTopology}
use Rattle.ats_network.specs.Path.{IsValidPath}
use Rattle.ats_network.specs.PathSteps.{ends_of, comes_to, part_ways}
use Rattle.ats_network.proofs.PathLemmas.{no_ends, talker_is, valid_from_parts, valid_parts}
use Rattle.ats_network.proofs.PathLemmas.{valid_never_back}

-- a walk from one node to another is a valid path, or it is not
walk_or_not : (topology : DeclaredTopology) (path : List ℕ) (a b : ℕ) → ends_of topology.ports path ≡ Some (a, b)
    → IsValidPath topology path ⊎ ¬ IsValidPath topology path
walk_or_not topology path a b walk =
    parts (comes_to topology.ports a path) (part_ways topology.ports path) refl refl
  where
    parts : (back apart : Bool) → comes_to topology.ports a path ≡ back → part_ways topology.ports path ≡ apart
        → IsValidPath topology path ⊎ ¬ IsValidPath topology path
    parts false true back apart = inl (valid_from_parts topology path a b walk back apart)
    parts false false back apart = inr (λ valid. true≢false (sym (valid_parts topology path valid) ∙ apart))
    parts true apart back any =
        inr (λ valid. true≢false (sym back ∙ subst (λ (n : ℕ). comes_to topology.ports n path ≡ false)
        (talker_is topology path a b walk valid) (valid_never_back topology path valid)))

-- ports make a valid path, or they make none
pub valid_or_not : (topology : DeclaredTopology) (path : List ℕ)
    → IsValidPath topology path ⊎ ¬ IsValidPath topology path
valid_or_not topology path = by (ends_of topology.ports path) refl
  where
    by : (ends : Option (ℕ × ℕ)) → ends_of topology.ports path ≡ ends
        → IsValidPath topology path ⊎ ¬ IsValidPath topology path
    by None none = inr (no_ends topology path none)
    by (Some (a, b)) walk = walk_or_not topology path a b walk
