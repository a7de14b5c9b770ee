use Rattle.std.proofs.Common.{◌≡◌, ℕ, ◌<◌, length, Option, Some, None, sym, ap, ◌∙◌, arith, subst, length-set}
use Rattle.std.proofs.Common.{get_or, get_or-set_same, get_or-set_other, ⊎_elim}
use Rattle.std.specs.Global.{Vec}
use Rattle.std.specs.Vec.{with_item}
use Rattle.std.proofs.lemmas.Bool.{cases_eq}
use Rattle.std.proofs.lemmas.List.{get_or_default}
use Rattle.ats_topology.specs.Topology.{DeclaredTopology}
use Rattle.ats_topology.specs.KeptWalks.{AreDistancesTo, AreKeptFor, kept_for}
use Rattle.ats_topology.specs.declared.kept_walks.KeptWalks.{KeptWalks}

-- walks with the distances to one more node
abbrev with_search : KeptWalks → ℕ → Vec (Option ℕ) → KeptWalks
with_search walks to distances = record { kept = with_item walks.kept to (Some distances) }

same : (x y : Vec (Option ℕ)) → Some x ≡ Some y → x ≡ y
same x y h = cc

-- these are kept for a topology where they are the distances to the node
pub search_kept : (topology : DeclaredTopology) (walks : KeptWalks) (to : ℕ) (distances : Vec (Option ℕ))
    → to < length topology.nodes → AreKeptFor topology walks → AreDistancesTo topology to distances.items
    → AreKeptFor topology (with_search walks to distances)
search_kept topology walks to distances within kept exact = record {
  long = length-set walks.kept.items to (Some distances) ∙ kept.long;
  each = each;
}
  where
    each : (other : ℕ) (found : Vec (Option ℕ)) → kept_for (with_search walks to distances) other ≡ Some found
        → AreDistancesTo topology other found.items
    each other found is = ⊎_elim
        (λ here.
        let there : kept_for (with_search walks to distances) to ≡ Some distances =
        get_or-set_same walks.kept.items to (Some distances) None (omega (arith, kept.long, within)) in
        let these : distances ≡ found =
        same distances found (sym there ∙ ap (kept_for (with_search walks to distances)) (sym here) ∙ is) in
        subst (λ (n : ℕ). AreDistancesTo topology n found.items) (sym here)
        (subst (λ (v : Vec (Option ℕ)). AreDistancesTo topology to v.items) these exact))
        (λ apart. kept.each other found
        (sym (get_or-set_other walks.kept.items to other (Some distances) None apart) ∙ is))
        (cases_eq other to)

-- what is read at a place
pub read_kept : (topology : DeclaredTopology) (walks : KeptWalks) (to : ℕ) (read : Option (Vec (Option ℕ)))
    → AreKeptFor topology walks → to < length topology.nodes → read ≡ get_or walks.kept.items to read
    → kept_for walks to ≡ read
read_kept topology walks to read kept within is =
    get_or_default walks.kept.items to None read (omega (arith, kept.long, within)) ∙ sym is
